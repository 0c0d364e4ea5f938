-- The next of the items that are left.
use Rattle.std.proofs.Common.{◌≡◌, ◌⊎◌, inl, inr, ℕ, ◌+◌, ◌<◌, ◌≤◌, arith, true, List, [], ◌∷◌, ◌++◌, length, get_or, map, drop, refl, sym, ap, ◌∙◌}
use Rattle.std.proofs.lemmas.Bool.{cases_lt}
use Rattle.std.proofs.lemmas.List.{drop_all, drop_more, get_or_default}
use Rattle.pesp_problem.specs.declared.row.SignedRow.{SignedRow}
use Rattle.pesp_problem.specs.declared.pair.Pair.{Pair}
use Rattle.pesp_problem.specs.declared.cut.Cut.TheVariants.{Slack as SlackCut, Offset as OffsetCut}
use Rattle.pesp_truth.specs.declared.tree.TreeLine.{TreeLine}
use Rattle.pesp_truth.specs.declared.tree.TreeLine.TheVariants as lines
use Rattle.pesp_truth.specs.Certificates.{Content}
use Rattle.pesp_truth.specs.Trees.{line_of}
use Rattle.pesp_cert_lines.specs.declared.item.Item.{Item}
use Rattle.pesp_cert_lines.specs.declared.item.Item.TheVariants.{Cycle, Slack, Offset, Bound, Nothing, Gap, Propagated, End}
use Rattle.pesp_cert.specs.Texts.{tree_item}
use Rattle.pesp_judges.specs.declared.leaf.LeafLine.TheVariants.{Bound as BoundLeaf, Nothing as NothingLeaf, Gap as GapLeaf}
use Rattle.pesp_judges.specs.declared.tree.SaidLine.{SaidLine}
use Rattle.pesp_judges.specs.declared.tree.SaidLine.TheVariants.{Branch, Leaf, Propagated as PropagatedLine}
use Rattle.pesp_judges.specs.SaidLines.{line_said}
use Rattle.std.specs.Prelude.{Option, Some, None, is_some, option_map, false}
use Rattle.pesp_judges.specs.declared.lemma_judge.LemmaJudge.{LemmaJudge}
use Rattle.pesp_judges.specs.Showing.{kept_of_lemma as kept_lemma}
use Rattle.pesp_check.specs.Items.{is_later, is_line}
use Rattle.pesp_check.specs.Said.{tree_line}
use Rattle.pesp_check.specs.Judging.{tree_from, cycles_from}

-- the next item is that of the element at place k
pub record IsNext {A : Type 0} (f : A → Item) (xs : List A) (k : ℕ) (ys : List Item) (item : Item) (rest : List Item) (x : A) : Type 0 where
  pub within : k < length xs
  pub read : x ≡ get_or xs k x
  pub item_is : item ≡ f x
  pub left : rest ≡ map f (drop (k + 1) xs) ++ ys

-- or all elements came
pub next_of : {A : Type 0} (f : A → Item) (xs : List A) (k : ℕ) (ys : List Item) (item : Item) (rest : List Item)
    → item ∷ rest ≡ map f (drop k xs) ++ ys
    → ((x : A) × IsNext f xs k ys item rest x) ⊎ ((length xs ≤ k) × (item ∷ rest ≡ ys))
next_of f [] k ys item rest e = inr (omega arith, e ∙ ap (λ l. map f l ++ ys) (drop_all k [] (omega arith)))
next_of f (d ∷ ds) k ys item rest e = elim (cases_lt k (length (d ∷ ds))) [
  | inl m ↦
      let x = get_or (d ∷ ds) k d in
      let both : item ∷ rest ≡ f x ∷ (map f (drop (k + 1) (d ∷ ds)) ++ ys) = e ∙ ap (λ l. map f l ++ ys) (drop_more (d ∷ ds) k d m) in
      inl (x, record { within = m; read = get_or_default (d ∷ ds) k d x m; item_is = cc; left = cc })
  | inr m ↦ inr (m, e ∙ ap (λ l. map f l ++ ys) (drop_all k (d ∷ ds) m))
]

-- ---- lines of the tree

pub line_is_later : (line : TreeLine) → is_later (tree_item line) ≡ true
line_is_later (lines.Slack row k) = refl
line_is_later (lines.Offset cycle k) = refl
line_is_later (lines.Bound ps) = refl
line_is_later (lines.Nothing ps) = refl
line_is_later (lines.Gap cycle) = refl
line_is_later lines.Propagated = refl

pub line_is_line : (line : TreeLine) → is_line (tree_item line) ≡ true
line_is_line (lines.Slack row k) = refl
line_is_line (lines.Offset cycle k) = refl
line_is_line (lines.Bound ps) = refl
line_is_line (lines.Nothing ps) = refl
line_is_line (lines.Gap cycle) = refl
line_is_line lines.Propagated = refl

-- what is said is the line
pub said_is : {P : Type 0} (elements : P → List Pair) (said : SaidLine P) → line_said elements said ≡ line_of (tree_line elements said)
said_is elements (Branch (SlackCut row k)) = refl
said_is elements (Branch (OffsetCut cycle k)) = refl
said_is elements (Leaf (BoundLeaf pairs)) = refl
said_is elements (Leaf (NothingLeaf pairs)) = refl
said_is elements (Leaf (GapLeaf cycle)) = refl
said_is elements PropagatedLine = refl

abbrev line_in : Item → TreeLine
line_in (Slack row k) = lines.Slack row k
line_in (Offset cycle k) = lines.Offset cycle k
line_in (Bound ps) = lines.Bound ps
line_in (Nothing ps) = lines.Nothing ps
line_in (Gap cycle) = lines.Gap cycle
line_in Propagated = lines.Propagated
line_in _ = lines.Gap 0

line_back : (line : TreeLine) → line_in (tree_item line) ≡ line
line_back (lines.Slack row k) = refl
line_back (lines.Offset cycle k) = refl
line_back (lines.Bound ps) = refl
line_back (lines.Nothing ps) = refl
line_back (lines.Gap cycle) = refl
line_back lines.Propagated = refl

-- a line has an item of its own
pub same_line : (a b : TreeLine) → tree_item a ≡ tree_item b → a ≡ b
same_line a b e = sym (line_back a) ∙ ap line_in e ∙ line_back b

-- ---- what stands behind the times

pub tree_later : (c : Content) (k : ℕ) (item : Item) (rest : List Item) → item ∷ rest ≡ tree_from c k → is_later item ≡ true
tree_later c k item rest e = elim (next_of tree_item c.tree k (End ∷ []) item rest e) [
  | inl n ↦ ap is_later n.1.item_is ∙ line_is_later n.0
  | inr n ↦ let is : item ≡ End = (let f = n.1 in cc) in ap is_later is
]

pub cycles_later : (c : Content) (k : ℕ) (item : Item) (rest : List Item) → item ∷ rest ≡ cycles_from c k → is_later item ≡ true
cycles_later c k item rest e = elim (next_of Cycle c.cycles k (tree_from c 0) item rest e) [
  | inl n ↦ ap is_later n.1.item_is
  | inr n ↦ tree_later c 0 item rest n.1
]

-- no cycle and no end is a line of the tree
pub cycle_in_tree : (c : Content) (k : ℕ) (rows : List SignedRow) (rest : List Item) → Cycle rows ∷ rest ≡ tree_from c k → ⊥
cycle_in_tree c k rows rest e = elim (next_of tree_item c.tree k (End ∷ []) (Cycle rows) rest e) [
  | inl n ↦ let bad : is_line (Cycle rows) ≡ true = ap is_line n.1.item_is ∙ line_is_line n.0 in absurd cc
  | inr n ↦ let f = n.1 in absurd cc
]

pub line_not_end : (line : TreeLine) (rest : List Item) → tree_item line ∷ rest ≡ End ∷ [] → ⊥
line_not_end line rest e =
    let head : tree_item line ≡ End = cc in
    let bad : true ≡ is_line End = sym (line_is_line line) ∙ ap is_line head in absurd cc

pub line_not_cycle : (line : TreeLine) (rows : List SignedRow) → tree_item line ≡ Cycle rows → ⊥
line_not_cycle line rows e = let bad : true ≡ is_line (Cycle rows) = sym (line_is_line line) ∙ ap is_line e in absurd cc

-- ---- the end

pub tree_ended : (c : Content) (k : ℕ) → End ∷ [] ≡ tree_from c k → length c.tree ≤ k
tree_ended c k e = elim (next_of tree_item c.tree k (End ∷ []) End [] e) [
  | inl n ↦ let bad : is_line End ≡ true = ap is_line n.1.item_is ∙ line_is_line n.0 in absurd cc
  | inr n ↦ n.0
]

pub cycles_ended : (c : Content) (k : ℕ) → End ∷ [] ≡ cycles_from c k → length c.tree ≤ 0
cycles_ended c k e = elim (next_of Cycle c.cycles k (tree_from c 0) End [] e) [
  | inl n ↦ let bad : End ≡ Cycle n.0 = n.1.item_is in absurd cc
  | inr n ↦ tree_ended c 0 n.1
]

-- where no lemma is shown, none is kept
pub no_lemma : (o : Option LemmaJudge) → is_some o ≡ false → option_map kept_lemma o ≡ None
no_lemma None e = refl
no_lemma (Some l) e = absurd cc
