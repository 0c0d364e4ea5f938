-- What a leaf is worth that names lemmas beside cycles and marked walks, for any weights of the rows.
use Rattle.std.specs.Prelude.{ℕ, List, [], ◌∷◌, ℤ, pos, ◌+ℤ◌, ◌-ℤ◌, ◌*ℤ◌, All, Option, option_map}
use Rattle.std.specs.Int.{int_min}
use Rattle.pesp_problem.specs.declared.row.SignedRow.{SignedRow}
use Rattle.pesp_problem.specs.Sums.{ceil_div}
use Rattle.pesp_problem.specs.Arcs.{Net, arc_at, over_arcs}
use Rattle.pesp_problem.specs.Nodes.{Node, slack_range, flow, offset_part}
use Rattle.pesp_problem.specs.Marked.{least_gain, gain_at}
use Rattle.pesp_problem.specs.Sharp.{Multipliers, over_multiples}
use Rattle.pesp_truth.specs.Lemmas.{Lemma, weight_at, HoldsAt}

-- a lemma with its multiplier
pub record LemmaMultiple : Type 0 where
  pub mult : ℕ
  pub fact : Lemma

-- the sum of multiplier times a term of the lemma
abbrev pub over_lemmas : List LemmaMultiple → (Lemma → ℤ) → ℤ
over_lemmas [] term = pos 0
over_lemmas (one ∷ more) term = pos one.mult *ℤ term one.fact +ℤ over_lemmas more term

-- the weights of the row at place i in the lemmas, each times its multiplier
abbrev pub taken : List LemmaMultiple → ℕ → ℤ
taken facts i = over_lemmas facts (λ fact. weight_at fact.weights i)

-- what slack y of the row at place i costs, scaled, beyond the flow, the lemmas and the gains
abbrev pub lemma_excess : Net → List (List SignedRow) → Node → Multipliers → List LemmaMultiple → (ℕ → ℤ) → ℕ → ℕ → ℤ
lemma_excess n table node m facts weights i y = (pos m.scale *ℤ weights i -ℤ flow table m.pairs i -ℤ taken facts i) *ℤ pos y
    -ℤ over_multiples m.multiples (λ walk. gain_at n node.slacks walk i y)

-- the lesser of it at the ends of the row's range
abbrev pub least_lemma_excess : Net → List (List SignedRow) → Node → Multipliers → List LemmaMultiple → (ℕ → ℤ) → ℕ → ℤ
least_lemma_excess n table node m facts weights i =
    int_min (lemma_excess n table node m facts weights i (slack_range node.slacks i).0)
    (lemma_excess n table node m facts weights i (slack_range node.slacks i).1)

-- what the scale times the sum of weight times slack is at least in the node, where the lemmas hold
abbrev pub lemma_value : Net → List (List SignedRow) → Node → Multipliers → List LemmaMultiple → (ℕ → ℤ) → Option ℤ
lemma_value n table node m facts weights =
    option_map
    (λ offsets. pos n.period *ℤ offsets -ℤ over_arcs n.arcs (λ i. flow table m.pairs i *ℤ (arc_at n.arcs i).lower)
    +ℤ over_multiples m.multiples (λ walk. pos (least_gain n node.slacks walk))
    +ℤ over_lemmas facts (λ fact. fact.least)
    +ℤ over_arcs n.arcs (least_lemma_excess n table node m facts weights))
    (offset_part n table node m.pairs)

-- what that sum is at least: the value by the scale, rounded up
abbrev pub lemma_bound : Net → List (List SignedRow) → Node → Multipliers → List LemmaMultiple → (ℕ → ℤ) → Option ℤ
lemma_bound n table node m facts weights = option_map (λ v. ceil_div v m.scale) (lemma_value n table node m facts weights)

-- each lemma's sum is large enough at these slacks
abbrev pub AllHoldAt : Net → (ℕ → ℕ) → List LemmaMultiple → Type 0
AllHoldAt n slacks facts = All (λ one. HoldsAt n.arcs slacks one.fact) facts
