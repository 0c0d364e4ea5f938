-- The items of a lemma as they come.
use Rattle.std.proofs.Common.{◌≡◌, ◌⊎◌, inl, inr, ℕ, ◌+◌, ◌<◌, ◌≤◌, arith, Bool, true, false, List, [], ◌∷◌, ◌++◌, length, get_or, take, refl, sym, ap, subst, ◌∙◌}
use Rattle.std.specs.Prelude.{ℤ}
use Rattle.std.proofs.lemmas.List.{get_or_default, take_more, take_all}
use Rattle.pesp_problem.specs.declared.row.SignedRow.{SignedRow}
use Rattle.pesp_problem.specs.Timetables.{Pesp}
use Rattle.pesp_problem.specs.Arcs.{arcs_of}
use Rattle.pesp_problem.specs.Nodes.{cycle_at}
use Rattle.pesp_problem.specs.declared.marked.MarkedRow.{MarkedRow}
use Rattle.pesp_problem.specs.Nets.{AreNets}
use Rattle.pesp_truth.specs.declared.tree.TreeLine.{TreeLine}
use Rattle.pesp_truth.specs.declared.tree.TreeLine.TheVariants as lines
use Rattle.pesp_cert_lines.specs.declared.item.Item.{Item}
use Rattle.pesp_cert_lines.specs.declared.item.Item.TheVariants.{Front, Scale, Walk, Lemma, Least, Version, Period, Answer as Says, Time, Cycle, Slack, Offset, Bound, Nothing, Gap, Propagated, End}
use Rattle.pesp_cert.specs.Texts.{tree_item}
use Rattle.std.specs.Prelude.{Option, Some, None, MatchOption}
use Rattle.pesp_problem.specs.Arcs.{net_of}
use Rattle.pesp_truth.specs.Trees.{line_of}
use Rattle.pesp_judges.specs.declared.refusal.Refusal.{Refusal}
use Rattle.pesp_judges.specs.Faults.{IsCycleFault, IsLemmaFault}
use Rattle.pesp_judges.proofs.Tables.{nets_none}
use Rattle.pesp_truth.specs.Lemmas.{Lemma as Fact}
use Rattle.pesp_truth.specs.Shown.{LemmaProof}
use Rattle.pesp_judges.specs.Showing.{KeptLemma, CyclesShown, ShownTo, LemmaIsTold, first_line}
use Rattle.pesp_check.specs.Items.{is_line, ends_lemma, says_no_answer, begins_part}
use Rattle.pesp_check.specs.Judging.{lemma_tree_from, lemma_cycles_from, lemma_walks_from, LemmaWalksTo, LemmaCyclesTo, LemmaTreeTo, LemmaTo}
use Rattle.pesp_check.proofs.Lists.{IsNext, next_of, line_is_line, same_line, line_not_cycle}

-- what shows a lemma behind its scale, or stands behind it
abbrev shows : Item → Bool
shows (Walk walk) = true
shows (Cycle rows) = true
shows (Slack row k) = true
shows (Offset cycle k) = true
shows (Bound ps) = true
shows (Nothing ps) = true
shows (Gap cycle) = true
shows Propagated = true
shows (Lemma ps) = true
shows (Version n) = true
shows _ = false

line_shows : (line : TreeLine) → shows (tree_item line) ≡ true
line_shows (lines.Slack row k) = refl
line_shows (lines.Offset cycle k) = refl
line_shows (lines.Bound ps) = refl
line_shows (lines.Nothing ps) = refl
line_shows (lines.Gap cycle) = refl
line_shows lines.Propagated = refl

line_ends_none : (line : TreeLine) → ends_lemma (tree_item line) ≡ false
line_ends_none (lines.Slack row k) = refl
line_ends_none (lines.Offset cycle k) = refl
line_ends_none (lines.Bound ps) = refl
line_ends_none (lines.Nothing ps) = refl
line_ends_none (lines.Gap cycle) = refl
line_ends_none lines.Propagated = refl

end_shows : (item : Item) → ends_lemma item ≡ true → shows item ≡ true
end_shows (Lemma ps) e = refl
end_shows (Version n) e = refl
end_shows Front e = absurd cc
end_shows (Scale n) e = absurd cc
end_shows (Walk walk) e = refl
end_shows (Least n) e = absurd cc
end_shows (Period n) e = absurd cc
end_shows (Says a) e = absurd cc
end_shows (Time l t) e = absurd cc
end_shows (Cycle rows) e = refl
end_shows (Slack row k) e = refl
end_shows (Offset cycle k) e = refl
end_shows (Bound ps) e = refl
end_shows (Nothing ps) e = refl
end_shows (Gap cycle) e = refl
end_shows Propagated e = refl
end_shows End e = absurd cc

-- ---- the next of the items that are left of a lemma

module _ (s : LemmaProof) (item : Item) (rest more : List Item) (b : begins_part more ≡ true) where
  at_end : item ∷ rest ≡ more → ends_lemma item ≡ true
  at_end e = ap begins_part e ∙ b

  abbrev IsInTree : ℕ → Type 0
  IsInTree k = ((x : TreeLine) × IsNext tree_item s.tree k more item rest x)
      ⊎ ((length s.tree ≤ k) × (ends_lemma item ≡ true) × (item ∷ rest ≡ more))

  in_tree : (k : ℕ) → item ∷ rest ≡ lemma_tree_from s more k → IsInTree k
  in_tree k e = elim (next_of tree_item s.tree k more item rest e) [
    | inl n ↦ inl n
    | inr n ↦ inr (n.0, at_end n.1, n.1)
  ]

  abbrev IsInCycles : ℕ → Type 0
  IsInCycles k = ((x : List SignedRow) × IsNext Cycle s.cycles k (lemma_tree_from s more 0) item rest x)
      ⊎ ((length s.cycles ≤ k) × IsInTree 0)

  in_cycles : (k : ℕ) → item ∷ rest ≡ lemma_cycles_from s more k → IsInCycles k
  in_cycles k e = elim (next_of Cycle s.cycles k (lemma_tree_from s more 0) item rest e) [
    | inl n ↦ inl n
    | inr n ↦ inr (n.0, in_tree 0 n.1)
  ]

  abbrev IsInWalks : ℕ → Type 0
  IsInWalks k = ((x : List MarkedRow) × IsNext Walk s.marks.walks k (lemma_cycles_from s more 0) item rest x)
      ⊎ ((length s.marks.walks ≤ k) × IsInCycles 0)

  in_walks : (k : ℕ) → item ∷ rest ≡ lemma_walks_from s more k → IsInWalks k
  in_walks k e = elim (next_of Walk s.marks.walks k (lemma_cycles_from s more 0) item rest e) [
    | inl n ↦ inl n
    | inr n ↦ inr (n.0, in_cycles 0 n.1)
  ]

  tree_shows : (k : ℕ) → IsInTree k → shows item ≡ true
  tree_shows k (inl n) = ap shows n.1.item_is ∙ line_shows n.0
  tree_shows k (inr n) = end_shows item n.1

  cycles_show : (k : ℕ) → IsInCycles k → shows item ≡ true
  cycles_show k (inl n) = ap shows n.1.item_is
  cycles_show k (inr n) = tree_shows 0 n.1

  walks_show : (k : ℕ) → IsInWalks k → shows item ≡ true
  walks_show k (inl n) = ap shows n.1.item_is
  walks_show k (inr n) = cycles_show 0 n.1

-- no walk and no cycle is a line of the tree, and no line of the tree another item
no_walk : (s : LemmaProof) (walk : List MarkedRow) (rest more : List Item) (b : begins_part more ≡ true) (k : ℕ)
    → IsInTree s (Walk walk) rest more b k → ⊥
no_walk s walk rest more b k (inl n) = let bad : is_line (Walk walk) ≡ true = ap is_line n.1.item_is ∙ line_is_line n.0 in cc
no_walk s walk rest more b k (inr n) = let bad = n.1 in cc

no_walk_in_cycles : (s : LemmaProof) (walk : List MarkedRow) (rest more : List Item) (b : begins_part more ≡ true) (k : ℕ)
    → IsInCycles s (Walk walk) rest more b k → ⊥
no_walk_in_cycles s walk rest more b k (inl n) = let is : Walk walk ≡ Cycle n.0 = n.1.item_is in cc
no_walk_in_cycles s walk rest more b k (inr n) = no_walk s walk rest more b 0 n.1

no_cycle : (s : LemmaProof) (rows : List SignedRow) (rest more : List Item) (b : begins_part more ≡ true) (k : ℕ)
    → IsInTree s (Cycle rows) rest more b k → ⊥
no_cycle s rows rest more b k (inl n) = let bad : is_line (Cycle rows) ≡ true = ap is_line n.1.item_is ∙ line_is_line n.0 in cc
no_cycle s rows rest more b k (inr n) = let bad = n.1 in cc

line_not_walk : (line : TreeLine) (walk : List MarkedRow) → tree_item line ≡ Walk walk → ⊥
line_not_walk line walk e = let bad : true ≡ is_line (Walk walk) = sym (line_is_line line) ∙ ap is_line e in cc

line_not_least : (line : TreeLine) (n : ℤ) (rest xs : List Item) → tree_item line ∷ rest ≡ Least n ∷ xs → ⊥
line_not_least line n rest xs e =
    let head : tree_item line ≡ Least n = cc in let bad : true ≡ is_line (Least n) = sym (line_is_line line) ∙ ap is_line head in cc

line_not_scale : (line : TreeLine) (n : ℕ) (rest xs : List Item) → tree_item line ∷ rest ≡ Scale n ∷ xs → ⊥
line_not_scale line n rest xs e =
    let head : tree_item line ≡ Scale n = cc in let bad : true ≡ is_line (Scale n) = sym (line_is_line line) ∙ ap is_line head in cc

module _ (p : Pesp) (earlier : List Fact) (s : LemmaProof) (at : ℕ) (kept : KeptLemma) (line : ℕ) (rest more : List Item)
    (b : begins_part more ≡ true) where
  -- what comes behind the scale is a walk, a cycle, a line of the tree, or stands behind the lemma
  shown_later : (item : Item) → (((k : ℕ) × LemmaWalksTo p s at kept line (item ∷ rest) more k)
      ⊎ ((k : ℕ) × LemmaCyclesTo p s at kept line (item ∷ rest) more k)
      ⊎ ((k : ℕ) × LemmaTreeTo p earlier s at kept line (item ∷ rest) more k)) → shows item ≡ true
  shown_later item (inl h) = walks_show s item rest more b h.0 (in_walks s item rest more b h.0 h.1.left)
  shown_later item (inr (inl h)) = cycles_show s item rest more b h.0 (in_cycles s item rest more b h.0 h.1.left)
  shown_later item (inr (inr h)) = tree_shows s item rest more b h.0 (in_tree s item rest more b h.0 h.1.left)

  -- ---- the least sum, the scale, and the marked walks

  pub least_shown : (n : ℤ) (kept' : KeptLemma) → kept' ≡ record kept { least = n }
      → LemmaTo p earlier s at kept line (Least n ∷ rest) more → LemmaTo p earlier s at kept' (line + 1) rest more
  least_shown n kept' e (inl h) =
      let same : Least n ∷ rest ≡ Least s.fact.least ∷ Scale s.marks.scale ∷ lemma_walks_from s more 0 = h.2 in
      let P : KeptLemma → Type 0 = λ new. LemmaTo p earlier s at new (line + 1) rest more in
      let head = h.1 in
      subst P (sym e) (inr (inl (
        ap (λ i. i + 1) h.0,
        cc,
        record { line = head.line; weights = head.weights; rows = head.rows; walks = head.walks; none = head.none; before = head.before },
        cc,
      )))
  least_shown n kept' e (inr (inl h)) = let same = h.3 in absurd cc
  least_shown n kept' e (inr (inr h)) = let bad : shows (Least n) ≡ true = shown_later (Least n) h in absurd cc

  pub scale_shown : (n : ℕ) (kept' : KeptLemma) → kept' ≡ record kept { scale = n }
      → LemmaTo p earlier s at kept line (Scale n ∷ rest) more → LemmaTo p earlier s at kept' (line + 1) rest more
  scale_shown n kept' e (inl h) = let same = h.2 in absurd cc
  scale_shown n kept' e (inr (inl h)) =
      let same : Scale n ∷ rest ≡ Scale s.marks.scale ∷ lemma_walks_from s more 0 = h.3 in
      let P : KeptLemma → Type 0 = λ new. LemmaTo p earlier s at new (line + 1) rest more in
      let head = h.2 in
      subst P (sym e) (inr (inr (inl (
        0,
        record {
          head = record { line = head.line; weights = head.weights; rows = head.rows; walks = head.walks; none = head.none; before = head.before };
          least = h.1;
          scale = cc;
          within = omega arith;
          line_is = omega (arith, h.0);
          left = cc;
        },
      ))))
  scale_shown n kept' e (inr (inr h)) = let bad : shows (Scale n) ≡ true = shown_later (Scale n) h in absurd cc

  pub walk_shown : (walk : List MarkedRow) (kept' : KeptLemma) → kept' ≡ record kept { walks = kept.walks ++ walk ∷ [] }
      → LemmaTo p earlier s at kept line (Walk walk ∷ rest) more → LemmaTo p earlier s at kept' (line + 1) rest more
  walk_shown walk kept' e (inl h) = let same = h.2 in absurd cc
  walk_shown walk kept' e (inr (inl h)) = let same = h.3 in absurd cc
  walk_shown walk kept' e (inr (inr (inl h))) = elim (in_walks s (Walk walk) rest more b h.0 h.1.left) [
    | inl n ↦
        let k = h.0 in
        let w = h.1 in
        let head = w.head in
        let is : Walk walk ≡ Walk n.0 = n.1.item_is in
        let same : walk ≡ n.0 = cc in
        let P : KeptLemma → Type 0 = λ new. LemmaTo p earlier s at new (line + 1) rest more in
        subst P (sym e) (inr (inr (inl (
          k + 1,
          record {
            head = record {
              line = head.line;
              weights = head.weights;
              rows = head.rows;
              walks = ap (λ (ws : List (List MarkedRow)). ws ++ walk ∷ []) head.walks
                  ∙ ap (λ (x : List MarkedRow). take k s.marks.walks ++ x ∷ []) (same ∙ n.1.read)
                  ∙ sym (take_more s.marks.walks k n.0 n.1.within);
              none = head.none;
              before = head.before;
            };
            least = w.least;
            scale = w.scale;
            within = omega (arith, n.1.within);
            line_is = omega (arith, w.line_is);
            left = n.1.left;
          },
        ))))
    | inr n ↦ absurd (no_walk_in_cycles s walk rest more b 0 n.1)
  ]
  walk_shown walk kept' e (inr (inr (inr (inl h)))) = absurd (no_walk_in_cycles s walk rest more b h.0 (in_cycles s (Walk walk) rest more b h.0 h.1.left))
  walk_shown walk kept' e (inr (inr (inr (inr h)))) = absurd (no_walk s walk rest more b h.0 (in_tree s (Walk walk) rest more b h.0 h.1.left))

  -- ---- a cycle

  -- the next cycle is at place k
  pub record IsNextCycle (rows : List SignedRow) (k : ℕ) : Type 0 where
    pub shown : CyclesShown p s at kept k
    pub within : k < length s.cycles
    pub is : rows ≡ cycle_at s.cycles k
    pub line_is : line ≡ at + 2 + length s.marks.walks + k
    pub left : rest ≡ lemma_cycles_from s more (k + 1)

  -- all marked walks came
  walks_came : (k : ℕ) (items : List Item) → LemmaWalksTo p s at kept line items more k → length s.marks.walks ≤ k → CyclesShown p s at kept 0
  walks_came k items w all = record {
    line = w.head.line;
    weights = w.head.weights;
    least = w.least;
    scale = w.scale;
    walks = w.head.walks ∙ take_all k s.marks.walks all;
    rows = w.head.rows;
    within = omega arith;
    nets = subst (AreNets (length p.rows) []) (sym w.head.none) (nets_none (length p.rows));
    closed = λ i l. absurd (omega arith);
    before = w.head.before;
  }

  one_cycle : (rows : List SignedRow) (k : ℕ) → CyclesShown p s at kept k → line ≡ at + 2 + length s.marks.walks + k
      → IsInCycles s (Cycle rows) rest more b k → IsNextCycle rows k
  one_cycle rows k shown l (inl n) =
      let is : Cycle rows ≡ Cycle n.0 = n.1.item_is in
      let same : rows ≡ n.0 = cc in
      record {
        shown = shown;
        within = n.1.within;
        is = same ∙ n.1.read ∙ get_or_default s.cycles k n.0 [] n.1.within;
        line_is = l;
        left = n.1.left;
      }
  one_cycle rows k shown l (inr n) = absurd (no_cycle s rows rest more b 0 n.1)

  pub next_cycle : (rows : List SignedRow) → LemmaTo p earlier s at kept line (Cycle rows ∷ rest) more → (k : ℕ) × IsNextCycle rows k
  next_cycle rows (inl h) = let same = h.2 in absurd cc
  next_cycle rows (inr (inl h)) = let same = h.3 in absurd cc
  next_cycle rows (inr (inr (inl h))) = elim (in_walks s (Cycle rows) rest more b h.0 h.1.left) [
    | inl n ↦ let is : Cycle rows ≡ Walk n.0 = n.1.item_is in absurd cc
    | inr n ↦ (0, one_cycle rows 0 (walks_came h.0 (Cycle rows ∷ rest) h.1 n.0) (omega (arith, h.1.line_is, h.1.within, n.0)) n.1)
  ]
  next_cycle rows (inr (inr (inr (inl h)))) =
      (h.0, one_cycle rows h.0 h.1.cycles h.1.line_is (in_cycles s (Cycle rows) rest more b h.0 h.1.left))
  next_cycle rows (inr (inr (inr (inr h)))) = absurd (no_cycle s rows rest more b h.0 (in_tree s (Cycle rows) rest more b h.0 h.1.left))

  pub cycle_taken : (rows : List SignedRow) (k : ℕ) (kept' : KeptLemma) → IsNextCycle rows k → CyclesShown p s at kept' (k + 1)
      → LemmaTo p earlier s at kept' (line + 1) rest more
  cycle_taken rows k kept' n shown =
      inr (inr (inr (inl (k + 1, record { cycles = shown; line_is = omega (arith, n.line_is); left = n.left }))))

  -- ---- a line of the tree

  -- the tree is coming, and its next line is at place k
  pub record IsNextLine (tree_line : TreeLine) (k : ℕ) : Type 0 where
    pub shown : ShownTo p earlier s at kept k
    pub within : k < length s.tree
    pub is : tree_line ≡ get_or s.tree k tree_line
    pub line_is : line ≡ at + 2 + length s.marks.walks + length s.cycles + k
    pub left : rest ≡ lemma_tree_from s more (k + 1)

  -- all cycles came
  cycles_came : (k : ℕ) → CyclesShown p s at kept k → length s.cycles ≤ k → ShownTo p earlier s at kept 0
  cycles_came k shown all =
      let same : k ≡ length s.cycles = omega (arith, shown.within, all) in
      let P : ℕ → Type 0 = λ n. CyclesShown p s at kept n in inl (refl, subst P same shown)

  one_line : (tree_line : TreeLine) (k : ℕ) → ShownTo p earlier s at kept k
      → line ≡ at + 2 + length s.marks.walks + length s.cycles + k → IsInTree s (tree_item tree_line) rest more b k → IsNextLine tree_line k
  one_line tree_line k shown l (inl n) =
      let same : tree_line ≡ n.0 = same_line tree_line n.0 n.1.item_is in
      let P : TreeLine → Type 0 = λ t. t ≡ get_or s.tree k t in
      record { shown = shown; within = n.1.within; is = subst P (sym same) n.1.read; line_is = l; left = n.1.left }
  one_line tree_line k shown l (inr n) = let never = line_ends_none tree_line in let bad = n.1 in absurd cc

  line_in_cycles : (tree_line : TreeLine) (k : ℕ) → CyclesShown p s at kept k → line ≡ at + 2 + length s.marks.walks + k
      → IsInCycles s (tree_item tree_line) rest more b k → (i : ℕ) × IsNextLine tree_line i
  line_in_cycles tree_line k shown l (inl n) = absurd (line_not_cycle tree_line n.0 n.1.item_is)
  line_in_cycles tree_line k shown l (inr n) =
      (0, one_line tree_line 0 (cycles_came k shown n.0) (omega (arith, l, shown.within, n.0)) n.1)

  pub next_line : (tree_line : TreeLine) → LemmaTo p earlier s at kept line (tree_item tree_line ∷ rest) more → (k : ℕ) × IsNextLine tree_line k
  next_line tree_line (inl h) = absurd (line_not_least tree_line s.fact.least rest _ h.2)
  next_line tree_line (inr (inl h)) = absurd (line_not_scale tree_line s.marks.scale rest _ h.3)
  next_line tree_line (inr (inr (inl h))) = elim (in_walks s (tree_item tree_line) rest more b h.0 h.1.left) [
    | inl n ↦ absurd (line_not_walk tree_line n.0 n.1.item_is)
    | inr n ↦ line_in_cycles tree_line 0 (walks_came h.0 (tree_item tree_line ∷ rest) h.1 n.0) (omega (arith, h.1.line_is, h.1.within, n.0)) n.1
  ]
  next_line tree_line (inr (inr (inr (inl h)))) =
      line_in_cycles tree_line h.0 h.1.cycles h.1.line_is (in_cycles s (tree_item tree_line) rest more b h.0 h.1.left)
  next_line tree_line (inr (inr (inr (inr h)))) =
      (h.0, one_line tree_line h.0 h.1.shown h.1.line_is (in_tree s (tree_item tree_line) rest more b h.0 h.1.left))

  pub line_taken : (tree_line : TreeLine) (k : ℕ) (kept' : KeptLemma) → IsNextLine tree_line k → ShownTo p earlier s at kept' (k + 1)
      → LemmaTo p earlier s at kept' (line + 1) rest more
  line_taken tree_line k kept' n shown =
      inr (inr (inr (inr (k + 1, record { shown = shown; within = omega (arith, n.within); line_is = omega (arith, n.line_is); left = n.left }))))

  -- ---- the lemma is whole

  pub record IsEnded (item : Item) (k : ℕ) : Type 0 where
    pub shown : ShownTo p earlier s at kept k
    pub within : k ≤ length s.tree
    pub all : length s.tree ≤ k
    pub line_is : line ≡ at + 2 + length s.marks.walks + length s.cycles + k
    pub left : item ∷ rest ≡ more

  ended_in_tree : (item : Item) (k : ℕ) → ends_lemma item ≡ true → ShownTo p earlier s at kept k → k ≤ length s.tree
      → line ≡ at + 2 + length s.marks.walks + length s.cycles + k → IsInTree s item rest more b k → IsEnded item k
  ended_in_tree item k e shown within l (inl n) =
      let bad : true ≡ false = sym e ∙ ap ends_lemma n.1.item_is ∙ line_ends_none n.0 in absurd cc
  ended_in_tree item k e shown within l (inr n) = record { shown = shown; within = within; all = n.0; line_is = l; left = n.2 }

  ended_in_cycles : (item : Item) (k : ℕ) → ends_lemma item ≡ true → CyclesShown p s at kept k → line ≡ at + 2 + length s.marks.walks + k
      → IsInCycles s item rest more b k → (i : ℕ) × IsEnded item i
  ended_in_cycles item k e shown l (inl n) = let bad : true ≡ false = sym e ∙ ap ends_lemma n.1.item_is in absurd cc
  ended_in_cycles item k e shown l (inr n) =
      (0, ended_in_tree item 0 e (cycles_came k shown n.0) (omega arith) (omega (arith, l, shown.within, n.0)) n.1)

  pub ended : (item : Item) → ends_lemma item ≡ true → LemmaTo p earlier s at kept line (item ∷ rest) more → (k : ℕ) × IsEnded item k
  ended item e (inl h) =
      let same = h.2 in let is : item ≡ Least s.fact.least = cc in let bad : true ≡ false = sym e ∙ ap ends_lemma is in absurd cc
  ended item e (inr (inl h)) =
      let same = h.3 in let is : item ≡ Scale s.marks.scale = cc in let bad : true ≡ false = sym e ∙ ap ends_lemma is in absurd cc
  ended item e (inr (inr (inl h))) = elim (in_walks s item rest more b h.0 h.1.left) [
    | inl n ↦ let bad : true ≡ false = sym e ∙ ap ends_lemma n.1.item_is in absurd cc
    | inr n ↦ ended_in_cycles item 0 e (walks_came h.0 (item ∷ rest) h.1 n.0) (omega (arith, h.1.line_is, h.1.within, n.0)) n.1
  ]
  ended item e (inr (inr (inr (inl h)))) = ended_in_cycles item h.0 e h.1.cycles h.1.line_is (in_cycles s item rest more b h.0 h.1.left)
  ended item e (inr (inr (inr (inr h)))) =
      (h.0, ended_in_tree item h.0 e h.1.shown h.1.within h.1.line_is (in_tree s item rest more b h.0 h.1.left))

  -- no item of another kind stands there
  pub no_other : (item : Item) → shows item ≡ false → (item ≡ Least s.fact.least → ⊥) → (item ≡ Scale s.marks.scale → ⊥)
      → LemmaTo p earlier s at kept line (item ∷ rest) more → ⊥
  no_other item e l z (inl h) = let same = h.2 in l cc
  no_other item e l z (inr (inl h)) = let same = h.3 in z cc
  no_other item e l z (inr (inr h)) = let some = shown_later item h in cc

  -- nor is it the answer
  pub shown_no_answer : (item : Item) → LemmaTo p earlier s at kept line (item ∷ rest) more → says_no_answer item ≡ true
  shown_no_answer (Says a) h = absurd (no_other (Says a) refl (λ e. cc) (λ e. cc) h)
  shown_no_answer Front h = refl
  shown_no_answer (Scale n) h = refl
  shown_no_answer (Walk walk) h = refl
  shown_no_answer (Lemma ps) h = refl
  shown_no_answer (Least n) h = refl
  shown_no_answer (Version n) h = refl
  shown_no_answer (Period n) h = refl
  shown_no_answer (Time l t) h = refl
  shown_no_answer (Cycle rows) h = refl
  shown_no_answer (Slack row k) h = refl
  shown_no_answer (Offset cycle k) h = refl
  shown_no_answer (Bound ps) h = refl
  shown_no_answer (Nothing ps) h = refl
  shown_no_answer (Gap cycle) h = refl
  shown_no_answer Propagated h = refl
  shown_no_answer End h = refl

  -- ---- what the judge told

  module _ (there : ℕ) (on : there ≡ line + 1) where
    pub cycle_told : (rows : List SignedRow) (k : ℕ) (kept' : KeptLemma) (found : Option Refusal) → IsNextCycle rows k
        → MatchOption found (CyclesShown p s at kept' (k + 1)) (λ r. IsCycleFault (arcs_of p) s.cycles (at + 2 + length s.marks.walks) r)
        → MatchOption found (LemmaTo p earlier s at kept' there rest more) (λ r. IsLemmaFault (net_of p) earlier s at r)
    cycle_told rows k kept' None n h =
        let P : ℕ → Type 0 = λ i. LemmaTo p earlier s at kept' i rest more in subst P (sym on) (cycle_taken rows k kept' n h)
    cycle_told rows k kept' (Some refusal) n h = inr (inl (n.shown.rows, h))

    pub line_told : (tree_line : TreeLine) (k : ℕ) (kept' : KeptLemma) (found : Option Refusal) → IsNextLine tree_line k
        → LemmaIsTold p earlier s at kept' (k + 1) found
        → MatchOption found (LemmaTo p earlier s at kept' there rest more) (λ r. IsLemmaFault (net_of p) earlier s at r)
    line_told tree_line k kept' None n h =
        let P : ℕ → Type 0 = λ i. LemmaTo p earlier s at kept' i rest more in subst P (sym on) (line_taken tree_line k kept' n (inr h))
    line_told tree_line k kept' (Some refusal) n h = h

    -- the number of a cycle's line, and of a line of the tree
    pub cycle_line : (rows : List SignedRow) (k : ℕ) → IsNextCycle rows k → there ≡ (at + 2 + length s.marks.walks) + (k + 1)
    cycle_line rows k n = omega (arith, on, n.line_is)

    pub tree_line_is : (tree_line : TreeLine) (k : ℕ) → IsNextLine tree_line k → there ≡ first_line s at + k
    tree_line_is tree_line k n = omega (arith, on, n.line_is)

  -- the line as it is read
  pub read_there : (tree_line : TreeLine) (k : ℕ) → IsNextLine tree_line k → line_of tree_line ≡ line_of (get_or s.tree k lines.Propagated)
  read_there tree_line k n = ap line_of (n.is ∙ get_or_default s.tree k tree_line lines.Propagated n.within)
