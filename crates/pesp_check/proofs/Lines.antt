-- The lines of the tree as they come, and the end.
use Rattle.std.proofs.Common.{◌≡◌, ◌≢◌, ◌⊎◌, inl, inr, ℕ, ◌+◌, ◌<◌, ◌≤◌, arith, true, false, List, [], ◌∷◌, length, get_or, map, refl, sym, ap, subst, ◌∙◌, Option, Some, None}
use Rattle.std.specs.Prelude.{All, IfSome, IsSomeAnd, MatchOption, min}
use Rattle.std.specs.List.{list_all}
use Rattle.std.proofs.lemmas.List.{take_all}
use Rattle.pesp_problem.specs.declared.row.SignedRow.{SignedRow}
use Rattle.pesp_problem.specs.Timetables.{Pesp}
use Rattle.pesp_problem.specs.Arcs.{arcs_of, net_of}
use Rattle.pesp_problem.specs.Walks.{IsWalk}
use Rattle.pesp_problem.specs.Nodes.{Node, root}
use Rattle.pesp_problem.specs.Marked.{IsMarkedWalk}
use Rattle.pesp_truth.specs.Marks.{Marks}
use Rattle.pesp_truth.specs.FrontLimits.{MarksKeepLimits as FrontKeepsLimits}
use Rattle.pesp_truth.proofs.FrontLimits.{limits_of}
use Rattle.pesp_truth.specs.declared.tree.TreeLine.{TreeLine}
use Rattle.pesp_truth.specs.Trees.{Claim, are_trees, line_of}
use Rattle.pesp_truth.specs.Certificates.{Content, lines_of, least_of, Front as FrontOf, claim_of, IsValid}
use Rattle.pesp_truth.specs.Lemmas.{Lemma as Fact}
use Rattle.pesp_truth.specs.Shown.{lemmas_of}
use Rattle.pesp_cert_lines.specs.declared.item.Item.{Item}
use Rattle.pesp_cert_lines.specs.declared.item.Item.TheVariants.{Cycle, End}
use Rattle.pesp_cert.specs.Texts.{HasText, tree_item}
use Rattle.pesp_cert.proofs.FrontRuns.{fronts_iff}
use Rattle.pesp_judges.specs.declared.refusal.Refusal.{Refusal}
use Rattle.pesp_problem.specs.Nets.{AreNets}
use Rattle.pesp_judges.specs.Pending.{Standing}
use Rattle.pesp_judges.specs.Faults.{IsMarkFault, IsMarksFault, IsFirstFault, own_line}
use Rattle.pesp_judges.specs.Lines.{after, IsLineVerdict}
use Rattle.pesp_whole_check.specs.Costs.{facts_said}
use Rattle.pesp_whole_check.specs.Rooms.{claim_from}
use Rattle.pesp_check.specs.Items.{says_no_answer, is_line, begins_tree}
use Rattle.pesp_check.specs.declared.stage.Stage.{Stage}
use Rattle.pesp_check.specs.declared.stage.Stage.TheVariants as stages
use Rattle.pesp_check.specs.Judging.{Kept, MarksSaid, marks_said, is_before_tree, tree_from, cycles_from, lemmas_from, line_before, AreJudgedBehind, FrontCame, FrontTo, CyclesTo, TreeTo, JudgedAt}
use Rattle.pesp_judges.proofs.Closing.{all_walks}
use Rattle.pesp_judges.proofs.Judged.{judged_none, open_there, whole_more, judged_more, fault_here, judged_all}
use Rattle.pesp_check.proofs.Lists.{IsNext, next_of, line_not_end, same_line, tree_ended, cycles_ended}
use Rattle.pesp_whole_check.proofs.Limits.{marks_keep}
use Rattle.pesp_check.proofs.Passed.{passed, all_tree, line_no, answered}
use Rattle.pesp_whole_check.proofs.Inner.{marks_in, in_marks, in_front, fault_in, claim_is}
use Rattle.pesp_whole_check.proofs.Claims.{least_few}
use Rattle.pesp_whole_check.proofs.Refusing.{own_adds, marks_refused as front_refused, tree_refused, valid_there}
use Rattle.pesp_check.proofs.LemmaItems.{no_other}
use Rattle.pesp_check.proofs.LemmaSteps.{part_begins}
use Rattle.pesp_check.proofs.Fronts.{front_done, shown_of}
use Rattle.pesp_check.proofs.Cycles.{shown_still, none_coming}

-- ---- what has a text

pub keeps_front : (front : Option FrontOf) (c : Content) → HasText front c → IfSome front (λ f. FrontKeepsLimits f.marks)
keeps_front None c has = tt
keeps_front (Some f) c has = limits_of f.marks (marks_keep f ((fronts_iff (Some f) c).1 has).0)

pub whole_text : (front : Option FrontOf) (c : Content) → HasText front c → are_trees 1 (lines_of c) ≡ true
whole_text front c has = ((fronts_iff front c).1 has).1.whole

pub few_cycles : (front : Option FrontOf) (c : Content) → HasText front c → length c.cycles ≤ 100000
few_cycles front c has = ((fronts_iff front c).1 has).1.cycles

pub few_least : (front : Option FrontOf) (c : Content) → HasText front c → IfSome (least_of c.answer) (λ l. l < 1000000000000000000)
few_least front c has = least_few c.answer (((fronts_iff front c).1 has).1.answer)

-- ---- all cycles came

record AreDone (c : Content) (rest : List Item) (k : ℕ) : Type 0 where
  pub all : length c.cycles ≤ k
  pub left : rest ≡ tree_from c 0

cycles_done : (c : Content) (k : ℕ) (rest : List Item) → begins_tree rest ≡ true → rest ≡ cycles_from c k → AreDone c rest k
cycles_done c k [] b e = absurd cc
cycles_done c k (item ∷ rest) b e = elim (next_of Cycle c.cycles k (tree_from c 0) item rest e) [
  | inl n ↦ let l : is_line item ≡ false = ap is_line n.1.item_is in absurd cc
  | inr n ↦ record { all = n.0; left = n.1 }
]

-- what was said of the front
said_is : (p : Pesp) (front : Option FrontOf) (kept : Kept) → FrontCame p front kept → marks_said kept.draft ≡ marks_in front
said_is p None kept h = h.0
said_is p (Some f) kept h = h.1.said

facts_are : (p : Pesp) (front : Option FrontOf) (kept : Kept) → FrontCame p front kept → kept.facts ≡ facts_said front
facts_are p None kept h = h.1
facts_are p (Some f) kept h = h.1.facts ∙ ap lemmas_of (take_all (length f.lemmas) f.lemmas (omega arith))

-- the marks that were made are those of the text
pub made_is : (front made : Option Marks) (draft : MarksSaid) → IfSome front FrontKeepsLimits → marks_said draft ≡ front
    → (IfSome (marks_said draft) FrontKeepsLimits → made ≡ marks_said draft) → made ≡ front
made_is front made draft keeps said is = is (subst (λ f. IfSome f FrontKeepsLimits) (sym said) keeps) ∙ said

-- what came where the tree begins, with the marks that were made
module _ (stage : Stage) (p : Pesp) (front : Option FrontOf) (c : Content) (rest : List Item) (kept : Kept) (made : Option Marks)
    (is : stage ≡ stages.Cycles) (has : HasText front c) (b : begins_tree rest ≡ true)
    (limits : IfSome (marks_said kept.draft) FrontKeepsLimits → made ≡ marks_said kept.draft)
    (before : JudgedAt stage p front c rest kept) where
  to_cycles : JudgedAt stages.Cycles p front c rest kept
  to_cycles = subst (λ (s : Stage). JudgedAt s p front c rest kept) is before

  cycles : CyclesTo p front c rest kept to_cycles.0
  cycles = to_cycles.1

  done : AreDone c rest to_cycles.0
  done = cycles_done c to_cycles.0 rest b cycles.left

  same : made ≡ marks_in front
  same = made_is (marks_in front) made kept.draft (in_marks front FrontKeepsLimits (keeps_front front c has)) (said_is p front kept cycles.front_came) limits

  nets : AreNets (length p.rows) c.cycles kept.table
  nets = subst (λ (ws : List (List SignedRow)). AreNets (length p.rows) ws kept.table)
      (take_all to_cycles.0 c.cycles done.all) cycles.nets

  walks : All (IsWalk (arcs_of p)) c.cycles
  walks = all_walks (arcs_of p) c.cycles to_cycles.0 done.all cycles.walks

  -- no line of the tree was judged so far
  at_root : AreJudgedBehind p front c (root (net_of p) c.cycles ∷ []) 0
  at_root = judged_none (claim_of front (net_of p) (least_of c.answer)) (net_of p) c.cycles c.tree (root (net_of p) c.cycles)
      (own_line front (4 + length c.times + length c.cycles))

  pub cycles_end : (standing : Standing) (node : Node) (kept' : Kept)
      → kept' ≡ record kept { draft = kept'.draft; front = made; walk = Some standing }
      → IfSome made (λ marks. All (IsMarkedWalk (arcs_of p)) marks.walks)
      → ((walks : List (List SignedRow)) → AreNets (length p.rows) walks kept.table → node ≡ root (net_of p) walks)
      → standing.nodes ≡ node ∷ [] → JudgedAt stages.Tree p front c rest kept'
  cycles_end standing node kept' e closed roots nodes =
      let at : standing.nodes ≡ root (net_of p) c.cycles ∷ [] = nodes ∙ ap (λ (n : Node). n ∷ []) (roots c.cycles nets) in
      let P : List Node → Type 0 = λ ns. AreJudgedBehind p front c ns 0 in
      let Q : List Node → Type 0 = λ ns. are_trees (length ns) (lines_of c) ≡ true in
      let new : Kept = record kept { draft = kept'.draft; front = made; walk = Some standing } in
      let all : to_cycles.0 ≡ length c.cycles = omega (arith, cycles.within, done.all) in
      let R : Kept → Type 0 = λ k. JudgedAt stages.Tree p front c rest k in
      let C : Marks → Type 0 = λ marks. All (IsMarkedWalk (arcs_of p)) marks.walks in
      subst R (sym e) (
        0,
        standing,
        record {
          gone = none_coming p front kept cycles.front_came;
          shown = shown_still p c kept new refl cycles.shown;
          front_is = same;
          facts = facts_are p front kept cycles.front_came;
          lemmas = shown_of p front kept cycles.front_came;
          walks = walks;
          nets = nets;
          closed = in_front front C (subst (λ g. IfSome g C) same closed);
          walk = refl;
          whole = subst Q (sym at) (whole_text front c has);
          judged = subst P (sym at) at_root;
          line = cycles.line ∙ ap (λ k. own_line front (3 + length c.times + k)) all ∙ ap (own_line front) (omega arith);
          left = done.left;
        },
      )

  pub marks_refused : (refusal : Refusal) (number : ℕ) (kept' : Kept) → number ≡ min (length kept.table) 100000
      → kept'.answer ≡ kept.answer → kept'.lemma ≡ kept.lemma
      → IsSomeAnd made (λ marks. IsMarkFault (arcs_of p) number 2 marks.walks refusal)
      → JudgedAt (stages.Refused refusal) p front c rest kept'
  marks_refused refusal number kept' e a gone fault =
      let all : number ≡ length c.cycles = omega (arith, e, nets.long, few_cycles front c has) in
      let P : Option Marks → Type 0 = λ o. IsSomeAnd o (λ marks. IsMarkFault (arcs_of p) number 2 marks.walks refusal) in
      let Q : ℕ → Type 0 = λ n. IsMarksFault front p n refusal in
      record {
        none = gone ∙ none_coming p front kept cycles.front_came;
        answer = inl (a ∙ cycles.shown.answer, ap (list_all says_no_answer) done.left ∙ all_tree c 0);
        first = front_refused p c refusal front (shown_of p front kept cycles.front_came) cycles.shown.period cycles.shown.shows walks
            (subst Q all (fault_in front (λ (m : Marks). IsMarkFault (arcs_of p) number 2 m.walks refusal) (subst P same fault)));
      }

-- ---- one line

module _ (p : Pesp) (front : Option FrontOf) (c : Content) (line : TreeLine) (rest : List Item) (kept : Kept) (stage : Stage)
    (is : stage ≡ stages.Tree) (before : JudgedAt stage p front c (tree_item line ∷ rest) kept) where
  abbrev so_far : JudgedAt stages.Tree p front c (tree_item line ∷ rest) kept
  so_far = subst (λ (s : Stage). JudgedAt s p front c (tree_item line ∷ rest) kept) is before

  abbrev k : ℕ
  k = so_far.0

  abbrev pub standing : Standing
  standing = so_far.1

  abbrev tree : TreeTo p front c (tree_item line ∷ rest) kept k standing
  tree = so_far.2

  next : (x : TreeLine) × IsNext tree_item c.tree k (End ∷ []) (tree_item line) rest x
  next = elim (next_of tree_item c.tree k (End ∷ []) (tree_item line) rest tree.left) [
    | inl n ↦ n
    | inr n ↦ absurd (line_not_end line rest n.1)
  ]

  read : line ≡ get_or c.tree k line
  read = let P : TreeLine → Type 0 = λ l. l ≡ get_or c.tree k l in subst P (sym (same_line line next.0 next.1.item_is)) next.1.read

  pub stands : kept.walk ≡ Some standing
  stands = tree.walk

  pub is_open : standing.nodes ≢ []
  is_open = open_there c.tree k line next.1.within read standing.nodes tree.whole

  pub nets_are : AreNets (length p.rows) c.cycles kept.table
  nets_are = tree.nets

  pub front_is : kept.front ≡ marks_in front
  front_is = tree.front_is

  pub facts_is : kept.facts ≡ facts_said front
  facts_is = tree.facts

  pub answer_is : kept.answer ≡ c.answer
  answer_is = tree.shown.answer

  pub standing_is : (walk : Standing) → kept.walk ≡ Some walk → standing ≡ walk
  standing_is walk e = let same : Some standing ≡ Some walk = sym stands ∙ e in cc

  pub never_done : (walk : Standing) → kept.walk ≡ Some walk → walk.nodes ≡ [] → ⊥
  never_done walk e none = is_open (ap (λ (st : Standing). st.nodes) (standing_is walk e) ∙ none)

  pub never_gone : kept.walk ≡ None → ⊥
  never_gone e = let same : Some standing ≡ None = sym stands ∙ e in absurd cc

  -- what is kept behind a line that is sound
  taken : (standing' : Standing) (kept' : Kept) → kept' ≡ record kept { line = kept.line + 1; walk = Some standing' }
      → standing'.nodes ≡ after (line_of line) standing.nodes → AreJudgedBehind p front c standing'.nodes (k + 1)
      → JudgedAt stage p front c rest kept'
  taken standing' kept' e nodes judged =
      let P : Kept → Type 0 = JudgedAt stages.Tree p front c rest in
      let Q : Stage → Type 0 = λ s. JudgedAt s p front c rest kept' in
      subst Q (sym is) (subst P (sym e) (
        k + 1,
        standing',
        record {
          gone = tree.gone;
          shown = shown_still p c kept (record kept { line = kept.line + 1; walk = Some standing' }) refl tree.shown;
          front_is = tree.front_is;
          facts = tree.facts;
          lemmas = tree.lemmas;
          walks = tree.walks;
          nets = tree.nets;
          closed = tree.closed;
          walk = refl;
          whole = whole_more c.tree k line next.1.within read standing.nodes standing'.nodes nodes tree.whole;
          judged = judged;
          line = ap (λ n. n + 1) tree.line ∙ own_adds front (3 + length c.times + length c.cycles + k) 1
              ∙ ap (own_line front) (omega arith);
          left = next.1.left;
        },
      ))

  number_is : (at : ℕ) → at ≡ kept.line + 1 → at ≡ own_line front (4 + length c.times + length c.cycles) + k
  number_is at e =
      e ∙ ap (λ n. n + 1) tree.line ∙ own_adds front (3 + length c.times + length c.cycles + k) 1
      ∙ ap (own_line front) (omega arith) ∙ sym (own_adds front (4 + length c.times + length c.cycles) k)

  refused : (refusal : Refusal) (kept' : Kept) → kept'.answer ≡ kept.answer → kept'.lemma ≡ kept.lemma
      → IsFirstFault front p c refusal → JudgedAt (stages.Refused refusal) p front c rest kept'
  refused refusal kept' a gone first = record {
    none = gone ∙ tree.gone;
    answer = inl (a ∙ tree.shown.answer, ap (list_all says_no_answer) next.1.left ∙ all_tree c (k + 1));
    first = first;
  }

  -- what the line is judged by
  claim_there : (marks : Option Marks) (facts : List Fact) → marks ≡ kept.front → facts ≡ kept.facts
      → claim_from marks facts (net_of p) (least_of c.answer) ≡ claim_of front (net_of p) (least_of c.answer)
  claim_there marks facts m f =
      ap (λ (o : Option Marks). claim_from o facts (net_of p) (least_of c.answer)) (m ∙ tree.front_is)
      ∙ ap (λ (fs : List Fact). claim_from (marks_in front) fs (net_of p) (least_of c.answer)) (f ∙ tree.facts)
      ∙ claim_is front (net_of p) (least_of c.answer)

  pub line_told : (walk walk' : Standing) (marks : Option Marks) (facts : List Fact) (at : ℕ) (found : Option Refusal) (taken' refused' : Kept)
      → kept.walk ≡ Some walk → marks ≡ kept.front → facts ≡ kept.facts → at ≡ kept.line + 1 → are_trees 1 (lines_of c) ≡ true
      → taken' ≡ record kept { line = kept.line + 1; walk = Some walk' } → refused'.answer ≡ kept.answer → refused'.lemma ≡ kept.lemma
      → IsLineVerdict (claim_from marks facts (net_of p) (least_of c.answer)) (net_of p) c.cycles (line_of line) walk.nodes walk'.nodes at found
      → MatchOption found (JudgedAt stage p front c rest taken') (λ refusal. JudgedAt (stages.Refused refusal) p front c rest refused')
  line_told walk walk' marks facts at found taken' refused' w m f e whole new a gone v =
      let n = net_of p in
      let claim = claim_of front n (least_of c.answer) in
      let C : Claim → Type 0 = λ x. IsLineVerdict x n c.cycles (line_of line) walk.nodes walk'.nodes at found in
      let N : Standing → Type 0 = λ st. IsLineVerdict claim n c.cycles (line_of line) st.nodes walk'.nodes at found in
      match found (subst N (sym (standing_is walk w)) (subst C (claim_there marks facts m f) v))
    where
      match : (o : Option Refusal)
          → IsLineVerdict (claim_of front (net_of p) (least_of c.answer)) (net_of p) c.cycles (line_of line) standing.nodes walk'.nodes at o
          → MatchOption o (JudgedAt stage p front c rest taken') (λ refusal. JudgedAt (stages.Refused refusal) p front c rest refused')
      match None h = taken walk' taken' new h.1
          (judged_more c.tree k line next.1.within read (claim_of front (net_of p) (least_of c.answer)) (net_of p) c.cycles
          (root (net_of p) c.cycles) (own_line front (4 + length c.times + length c.cycles)) standing.nodes tree.judged walk'.nodes h.0 h.1)
      match (Some refusal) h = refused refusal refused' a gone
          (tree_refused p c refusal front tree.lemmas tree.shown.period tree.shown.shows tree.walks whole tree.closed
          (fault_here c.tree k line next.1.within read (claim_of front (net_of p) (least_of c.answer)) (net_of p) c.cycles
          (root (net_of p) c.cycles) (own_line front (4 + length c.times + length c.cycles)) standing.nodes tree.judged at refusal
          (number_is at e) h))

-- a line of the tree behind a refusal
pub line_passed : (stage : Stage) (p : Pesp) (front : Option FrontOf) (c : Content) (line : TreeLine) (rest : List Item) (kept kept' : Kept)
    → is_before_tree stage ≡ false → (stage ≡ stages.Tree → ⊥) → kept'.answer ≡ kept.answer → kept'.lemma ≡ kept.lemma
    → JudgedAt stage p front c (tree_item line ∷ rest) kept → JudgedAt stage p front c rest kept'
line_passed stages.Front p front c line rest kept kept' b n e l h = absurd cc
line_passed stages.Cycles p front c line rest kept kept' b n e l h = absurd cc
line_passed stages.Tree p front c line rest kept kept' b n e l h = absurd (n refl)
line_passed (stages.Refused r) p front c line rest kept kept' b n e l h = passed p front c r (tree_item line) rest kept kept' (line_no line) e l h

-- ---- the end

no_tree : (c : Content) (Q : Type 0) → are_trees 1 (lines_of c) ≡ true → length c.tree ≤ 0 → Q
no_tree c Q whole none = go c.tree whole none
  where
    go : (lines : List TreeLine) → are_trees 1 (map line_of lines) ≡ true → length lines ≤ 0 → Q
    go [] w l = absurd cc
    go (x ∷ xs) w l = absurd (omega arith)

-- no lemma is coming there
end_alone : (p : Pesp) (front : Option FrontOf) (c : Content) (kept : Kept) → FrontTo p front c (End ∷ []) kept → kept.lemma ≡ None
end_alone p front c kept (inl (times, inl h)) = h.3
end_alone p front c kept (inl (times, inr (inl h))) = h.5
end_alone p front c kept (inl (times, inr (inr (inl h)))) = h.4
end_alone p front c kept (inl (times, inr (inr (inr (inl h))))) =
    let l = h.3 in
    absurd (no_other p _ l.lemma (line_before h.0 h.1 + 1) l.kept_lemma kept.line [] (lemmas_from h.0 c (h.1 + 1)) (part_begins h.0 c (h.1 + 1))
    End refl (λ e. cc) (λ e. cc) l.came)
end_alone p front c kept (inl (times, inr (inr (inr (inr h))))) = h.3.none
end_alone p front c kept (inr (came, head)) = none_coming p front kept came

front_open : (stage : Stage) (p : Pesp) (front : Option FrontOf) (c : Content) (kept : Kept) (Q : Type 0) → is_before_tree stage ≡ true
    → are_trees 1 (lines_of c) ≡ true → JudgedAt stage p front c (End ∷ []) kept → Q
front_open stages.Front p front c kept Q b whole h =
    let done = front_done p front c (End ∷ []) kept refl (end_alone p front c kept h.1) h.1 in no_tree c Q whole (cycles_ended c 0 done.left)
front_open stages.Cycles p front c kept Q b whole h = no_tree c Q whole (cycles_ended c h.0 h.1.left)
front_open stages.Tree p front c kept Q b whole h = absurd cc
front_open (stages.Refused r) p front c kept Q b whole h = absurd cc

pub end_answer : (stage : Stage) (p : Pesp) (front : Option FrontOf) (c : Content) (kept : Kept) → are_trees 1 (lines_of c) ≡ true
    → JudgedAt stage p front c (End ∷ []) kept → kept.answer ≡ c.answer
end_answer stages.Front p front c kept whole h = front_open stages.Front p front c kept (kept.answer ≡ c.answer) refl whole h
end_answer stages.Cycles p front c kept whole h = h.1.shown.answer
end_answer stages.Tree p front c kept whole h = h.2.shown.answer
end_answer (stages.Refused r) p front c kept whole h = answered c kept.answer h.answer

tree_valid : (p : Pesp) (front : Option FrontOf) (c : Content) (kept : Kept) (k : ℕ) (standing : Standing) → HasText front c
    → TreeTo p front c (End ∷ []) kept k standing → IsValid front p c
tree_valid p front c kept k standing has t =
    valid_there front p c (keeps_front front c has) t.lemmas t.shown.period t.shown.shows t.walks t.closed
    (judged_all (claim_of front (net_of p) (least_of c.answer)) (net_of p) c.cycles c.tree (root (net_of p) c.cycles)
    (own_line front (4 + length c.times + length c.cycles)) standing.nodes k (tree_ended c k t.left) t.whole t.judged)

pub end_valid : (stage : Stage) (p : Pesp) (front : Option FrontOf) (c : Content) (kept : Kept)
    → (stage ≡ stages.Front) ⊎ ((stage ≡ stages.Cycles) ⊎ (stage ≡ stages.Tree)) → HasText front c
    → JudgedAt stage p front c (End ∷ []) kept → IsValid front p c
end_valid stages.Front p front c kept is has h =
    front_open stages.Front p front c kept (IsValid front p c) refl (whole_text front c has) h
end_valid stages.Cycles p front c kept is has h =
    front_open stages.Cycles p front c kept (IsValid front p c) refl (whole_text front c has) h
end_valid stages.Tree p front c kept is has h = tree_valid p front c kept h.0 h.1 has h.2
end_valid (stages.Refused r) p front c kept (inl e) has h = absurd cc
end_valid (stages.Refused r) p front c kept (inr (inl e)) has h = absurd cc
end_valid (stages.Refused r) p front c kept (inr (inr e)) has h = absurd cc
