-- What the lines of a lemma that came say of it, as the next one comes.
use Rattle.std.proofs.Common.{◌≡◌, ◌≢◌, inl, inr, ℕ, ◌+◌, ◌<◌, ◌≤◌, arith, refl, ap, sym, subst, ◌∙◌, List, [], ◌∷◌, ◌++◌, length, get_or, map, Option, Some, None, true, false}
use Rattle.std.specs.Prelude.{is_some, All}
use Rattle.std.proofs.lemmas.List.{get_or_default, length-take, take_all}
use Rattle.pesp_problem.specs.declared.row.SignedRow.{SignedRow}
use Rattle.pesp_problem.specs.Timetables.{Pesp}
use Rattle.pesp_problem.specs.Arcs.{arcs_of, net_of}
use Rattle.pesp_problem.specs.declared.arc.Arc.{Arc}
use Rattle.pesp_problem.specs.Walks.{RowExists, IsWalk}
use Rattle.pesp_leaves.proofs.Summing.{rows_exist}
use Rattle.pesp_problem.specs.Nodes.{Node, root, cycle_at}
use Rattle.pesp_problem.specs.declared.marked.MarkedRow.{MarkedRow}
use Rattle.pesp_problem.specs.declared.nets.NetCount.{NetCount}
use Rattle.pesp_problem.specs.Nets.{AreNets, AreNetCounts}
use Rattle.pesp_problem.specs.Marked.{IsMarkedWalk}
use Rattle.pesp_truth.specs.declared.tree.TreeLine.{TreeLine}
use Rattle.pesp_truth.specs.declared.tree.TreeLine.TheVariants.{Propagated}
use Rattle.pesp_truth.specs.Marks.{Marks}
use Rattle.pesp_truth.specs.FrontLimits.{MarksKeepLimits}
use Rattle.pesp_truth.proofs.FrontLimits.{limits_of}
use Rattle.pesp_truth.specs.Trees.{Line, are_trees, line_of}
use Rattle.pesp_judges.specs.declared.refusal.Refusal.{Refusal}
use Rattle.pesp_judges.specs.Pending.{Standing}
use Rattle.pesp_judges.proofs.Closing.{walk_fault, walks_more, all_walks}
use Rattle.pesp_judges.proofs.Tables.{nets_more}
use Rattle.pesp_truth.specs.Lemmas.{Lemma}
use Rattle.pesp_truth.specs.Shown.{lemma_claim, LemmaProof, IsShownLemma}
use Rattle.pesp_truth.proofs.Lines.{sound_as_tree}
use Rattle.pesp_judges.specs.Lines.{IsLineVerdict, AreJudged}
use Rattle.pesp_judges.specs.Faults.{IsWalkFault, IsCycleFault, IsMarkFault, IsLemmaFault}
use Rattle.pesp_judges.specs.Showing.{KeptLemma, KeepsLemmaLimits, CyclesShown, LinesShown, ShownTo, LemmaIsTold, first_line}
use Rattle.pesp_judges.proofs.Judged.{open_there, whole_more, judged_none, judged_more, judged_all, fault_here}
use Rattle.pesp_judges.proofs.Faults.{lines_tree_fault}

-- ---- a cycle

module _ (p : Pesp) (s : LemmaProof) (at : ℕ) (kept : KeptLemma) (k : ℕ) (before : CyclesShown p s at kept k) (within : k < length s.cycles) where
  pub no_tree_yet : is_some kept.walk ≡ true → ⊥
  no_tree_yet e = let none : is_some kept.walk ≡ false = ap is_some before.before in absurd cc

  so_many : length kept.table ≡ k
  so_many = omega (arith, before.nets.long, length-take k s.cycles, within)

  pub not_full : length s.cycles ≤ 100000 → 100000 ≤ length kept.table → ⊥
  not_full few full = omega (arith, so_many, within)

  module _ (rows : List SignedRow) (is : rows ≡ cycle_at s.cycles k) where
    read : rows ≡ get_or s.cycles k rows
    read = is ∙ sym (get_or_default s.cycles k rows [] within)

    pub cycle_shown : (counts : List NetCount) (kept' : KeptLemma) → kept' ≡ record kept { table = kept.table ++ counts ∷ [] }
        → IsWalk (arcs_of p) rows → AreNetCounts (length p.rows) rows counts → CyclesShown p s at kept' (k + 1)
    cycle_shown counts kept' e walk nets =
        let P : KeptLemma → Type 0 = λ new. CyclesShown p s at new (k + 1) in
        subst P (sym e) (record {
          line = before.line;
          weights = before.weights;
          least = before.least;
          scale = before.scale;
          walks = before.walks;
          rows = before.rows;
          within = omega arith;
          nets = nets_more (length p.rows) s.cycles kept.table k rows counts within read before.nets nets;
          closed = walks_more (arcs_of p) s.cycles k rows is before.closed walk;
          before = before.before;
        })

    pub cycle_fault : (refusal : Refusal) (number line : ℕ) → number ≡ length kept.table + 1
        → line ≡ (at + 2 + length s.marks.walks) + (k + 1) → IsWalkFault (arcs_of p) rows number line refusal
        → IsCycleFault (arcs_of p) s.cycles (at + 2 + length s.marks.walks) refusal
    cycle_fault refusal number line e l fault =
        let n : number ≡ k + 1 = omega (arith, e, so_many) in
        walk_fault (arcs_of p) s.cycles (at + 2 + length s.marks.walks) k rows rows within read refl before.closed refusal number line n l fault

-- ---- all cycles came

module _ (p : Pesp) (s : LemmaProof) (at : ℕ) (kept : KeptLemma) (limits : KeepsLemmaLimits s) (before : CyclesShown p s at kept (length s.cycles)) where
  nets : AreNets (length p.rows) s.cycles kept.table
  nets = let P : List (List SignedRow) → Type 0 = λ ws. AreNets (length p.rows) ws kept.table in
      subst P (take_all (length s.cycles) s.cycles (omega arith)) before.nets

  walks : All (IsWalk (arcs_of p)) s.cycles
  walks = all_walks (arcs_of p) s.cycles (length s.cycles) (omega arith) before.closed

  module _ (made : Marks) (is : made ≡ record { scale = kept.scale; walks = kept.walks }) where
    pub made_is : made ≡ s.marks
    made_is =
        let M : ℕ → Marks = λ n. record { scale = n; walks = kept.walks } in
        let W : List (List MarkedRow) → Marks = λ ws. record { scale = s.marks.scale; walks = ws } in
        is ∙ ap M before.scale ∙ ap W before.walks

    pub never_refused : (MarksKeepLimits made → ⊥) → ⊥
    never_refused never = never (subst MarksKeepLimits (sym made_is) (limits_of s.marks limits.marks))

    pub mark_fault : (number line : ℕ) (refusal : Refusal) → number ≡ length kept.table → line ≡ kept.line + 2
        → IsMarkFault (arcs_of p) number line made.walks refusal → (earlier : List Lemma) → IsLemmaFault (net_of p) earlier s at refusal
    mark_fault number line refusal n l fault earlier =
        let same : number ≡ length s.cycles = omega (arith, n, nets.long) in
        let there : line ≡ at + 2 = l ∙ ap (λ i. i + 2) before.line in
        let N : ℕ → Type 0 = λ i. IsMarkFault (arcs_of p) i (at + 2) s.marks.walks refusal in
        let L : ℕ → Type 0 = λ i. IsMarkFault (arcs_of p) number i s.marks.walks refusal in
        let M : Marks → Type 0 = λ m. IsMarkFault (arcs_of p) number line m.walks refusal in
        inr (inr (inl (before.rows, walks, subst N same (subst L there (subst M made_is fault)))))

    pub tree_begins : (standing : Standing) (node : Node) (kept' : KeptLemma)
        → kept' ≡ record kept { walks = kept'.walks; front = Some made; walk = Some standing }
        → All (IsMarkedWalk (arcs_of p)) made.walks
        → ((ws : List (List SignedRow)) → AreNets (length p.rows) ws kept.table → node ≡ root (net_of p) ws)
        → standing.nodes ≡ node ∷ [] → (earlier : List Lemma)
        → (standing' : Standing) × LinesShown p earlier s at kept' 0 standing'
    tree_begins standing node kept' e closed roots nodes earlier =
        let there : standing.nodes ≡ root (net_of p) s.cycles ∷ [] = nodes ∙ ap (λ (n : Node). n ∷ []) (roots s.cycles nets) in
        let J : List Node → Type 0 = λ ns. AreJudged (lemma_claim earlier s) (net_of p) s.cycles s.tree
        (root (net_of p) s.cycles) (first_line s at) ns 0 in
        let T : List Node → Type 0 = λ ns. are_trees (length ns) (map line_of s.tree) ≡ true in
        let C : Marks → Type 0 = λ m. All (IsMarkedWalk (arcs_of p)) m.walks in
        let P : KeptLemma → Type 0 = λ new. LinesShown p earlier s at new 0 standing in (
          standing,
          subst P (sym e) (record {
            weights = before.weights;
            least = before.least;
            rows = before.rows;
            cycles = walks;
            marks = record { scale = (limits_of s.marks limits.marks).scale.0; walks = subst C made_is closed };
            front = ap Some made_is;
            nets = nets;
            walk = refl;
            whole = subst T (sym there) limits.whole;
            judged = subst J (sym there) (judged_none (lemma_claim earlier s) (net_of p) s.cycles s.tree
                (root (net_of p) s.cycles) (first_line s at));
          }),
        )

-- the rows of closed marked walks exist
pub rows_there : (p : Pesp) (arcs : List Arc) (made x : Marks) → arcs ≡ arcs_of p → All (IsMarkedWalk (arcs_of p)) made.walks
    → Some made ≡ Some x → All (λ path. All (λ s. RowExists arcs s.signed) path) x.walks
rows_there p arcs made x e closed same =
    let is : made ≡ x = cc in
    let P : List Arc → Type 0 = λ a. All (λ path. All (λ s. RowExists a s.signed) path) made.walks in
    let Q : Marks → Type 0 = λ m. All (λ path. All (λ s. RowExists arcs s.signed) path) m.walks in
    subst Q is (subst P (sym e) (rows_exist (arcs_of p) made.walks closed))

-- ---- whether the tree began

module _ (p : Pesp) (earlier : List Lemma) (s : LemmaProof) (at : ℕ) (kept : KeptLemma) (k : ℕ) where
  pub begun : is_some kept.walk ≡ true → ShownTo p earlier s at kept k → (standing : Standing) × LinesShown p earlier s at kept k standing
  begun e (inl h) = let none : is_some kept.walk ≡ false = ap is_some h.1.before in absurd cc
  begun e (inr h) = h

  pub not_begun : is_some kept.walk ≡ false → ShownTo p earlier s at kept k → (k ≡ 0) × CyclesShown p s at kept (length s.cycles)
  not_begun e (inl h) = h
  not_begun e (inr h) = let some : is_some kept.walk ≡ true = ap is_some h.1.walk in absurd cc

  pub told_at : (kept' : KeptLemma) (found : Option Refusal) → k ≡ 0 → LemmaIsTold p earlier s at kept' 0 found → LemmaIsTold p earlier s at kept' k found
  told_at kept' found e h = let P : ℕ → Type 0 = λ n. LemmaIsTold p earlier s at kept' n found in subst P (sym e) h

-- ---- a line of the tree

module _ (p : Pesp) (earlier : List Lemma) (s : LemmaProof) (at : ℕ) (kept : KeptLemma) (k : ℕ) (standing : Standing)
    (limits : KeepsLemmaLimits s) (before : LinesShown p earlier s at kept k standing) (within : k < length s.tree) where
  line : TreeLine
  line = get_or s.tree k Propagated

  line_read : line ≡ get_or s.tree k line
  unfolding line
  line_read = sym (get_or_default s.tree k (get_or s.tree k Propagated) Propagated within)

  is_open : standing.nodes ≢ []
  is_open = open_there s.tree k line within line_read standing.nodes before.whole

  pub stands : (walk : Standing) → kept.walk ≡ Some walk → standing ≡ walk
  stands walk e = let same : Some standing ≡ Some walk = sym before.walk ∙ e in cc

  pub never_done : (walk : Standing) → kept.walk ≡ Some walk → walk.nodes ≡ [] → ⊥
  never_done walk e none = is_open (ap (λ (st : Standing). st.nodes) (stands walk e) ∙ none)

  pub never_gone : kept.walk ≡ None → ⊥
  never_gone e = let same : Some standing ≡ None = sym before.walk ∙ e in absurd cc

  pub never_bare : kept.front ≡ None → ⊥
  never_bare e = let same : Some s.marks ≡ None = sym before.front ∙ e in absurd cc

  pub marks_are : (marks : Marks) → kept.front ≡ Some marks → marks ≡ s.marks
  marks_are marks e = let same : Some marks ≡ Some s.marks = sym e ∙ before.front in cc

  -- what is said there of the line
  module _ (said : Line) (is : said ≡ line_of (get_or s.tree k Propagated)) (there : ℕ) (on : there ≡ first_line s at + k)
      (walk' : Standing) (kept' : KeptLemma) (new : kept' ≡ record kept { walk = Some walk' }) where
    same : said ≡ line_of line
    unfolding line
    same = is

    pub line_told : (found : Option Refusal)
        → IsLineVerdict (lemma_claim earlier s) (net_of p) s.cycles said standing.nodes walk'.nodes there found
        → LemmaIsTold p earlier s at kept' (k + 1) found
    line_told None v =
        let V : Line → Type 0 = λ l. IsLineVerdict (lemma_claim earlier s) (net_of p) s.cycles l standing.nodes walk'.nodes there None in
        let told = subst V same v in
        let P : KeptLemma → Type 0 = λ kept''. LinesShown p earlier s at kept'' (k + 1) walk' in (
          walk',
          subst P (sym new) (record {
            weights = before.weights;
            least = before.least;
            rows = before.rows;
            cycles = before.cycles;
            marks = before.marks;
            front = before.front;
            nets = before.nets;
            walk = refl;
            whole = whole_more s.tree k line within line_read standing.nodes walk'.nodes told.1 before.whole;
            judged = judged_more s.tree k line within line_read (lemma_claim earlier s) (net_of p) s.cycles
                (root (net_of p) s.cycles) (first_line s at) standing.nodes before.judged walk'.nodes told.0 told.1;
          }),
        )
    line_told (Some refusal) v =
        let V : Line → Type 0 = λ l. IsLineVerdict (lemma_claim earlier s) (net_of p) s.cycles l standing.nodes walk'.nodes there (Some refusal) in
        inr (inr (inr (
          before.rows,
          before.cycles,
          before.marks.walks,
          lines_tree_fault (lemma_claim earlier s) (net_of p) s.cycles (map line_of s.tree) _ refusal limits.whole (fault_here s.tree k line within line_read (lemma_claim earlier s) (net_of p) s.cycles
              (root (net_of p) s.cycles) (first_line s at) standing.nodes before.judged there refusal on (subst V same v)),
        )))

-- ---- all its lines came

no_tree : (lines : List TreeLine) → are_trees 1 (map line_of lines) ≡ true → length lines ≤ 0 → ⊥
no_tree [] whole none = cc
no_tree (line ∷ lines) whole none = omega arith

pub lemma_whole : (p : Pesp) (earlier : List Lemma) (s : LemmaProof) (at : ℕ) (kept : KeptLemma) (k : ℕ) → KeepsLemmaLimits s → length s.tree ≤ k
    → ShownTo p earlier s at kept k → IsShownLemma (net_of p) earlier s × (kept.weights ≡ s.fact.weights) × (kept.least ≡ s.fact.least)
lemma_whole p earlier s at kept k limits all (inl h) = absurd (no_tree s.tree limits.whole (omega (arith, h.0, all)))
lemma_whole p earlier s at kept k limits all (inr h) =
    let n = net_of p in
    let l = h.1 in (
      record {
        rows = l.rows;
        marks = l.marks;
        cycles = l.cycles;
        tree = sound_as_tree (lemma_claim earlier s) n s.cycles (map line_of s.tree) (root n s.cycles)
            (judged_all (lemma_claim earlier s) n s.cycles s.tree (root n s.cycles) (first_line s at) h.0.nodes k all l.whole l.judged);
      },
      l.weights,
      l.least,
    )
