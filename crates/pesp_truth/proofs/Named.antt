-- What pairs name.
use Rattle.std.proofs.Common.{◌≡◌, ℕ, ◌+◌, ◌-◌, ◌<◌, ◌≤◌, List, [], ◌∷◌, length, Bool, true, false, arith, refl, ap, inl, inr, ◌⊎◌, subst}
use Rattle.std.specs.Prelude.{pos, All, nat_le, ◌↔◌}
use Rattle.std.proofs.lemmas.Bool.Decides.{nat_tests}
use Rattle.std.proofs.lemmas.List.Elements.{All-nil, All-cons, All-head, All-tail}
use Rattle.pesp_problem.specs.declared.arc.Arc.{Arc}
use Rattle.pesp_problem.specs.declared.row.SignedRow.{SignedRow}
use Rattle.pesp_problem.specs.declared.pair.Pair.{Pair}
use Rattle.pesp_problem.specs.Walks.{Names}
use Rattle.pesp_problem.specs.declared.marked.MarkedRow.{MarkedRow}
use Rattle.pesp_problem.specs.Marked.{IsMarkedWalk}
use Rattle.pesp_problem.specs.Sharp.{Multiple, AreMultipliers, plain}
use Rattle.pesp_truth.specs.Marks.{Marks, AreMarks}
use Rattle.pesp_truth.specs.Lemmas.{Lemma}
use Rattle.pesp_truth.specs.LemmaLeaves.{LemmaMultiple}
use Rattle.pesp_truth.specs.Named.{IsNamed, AreNamed, walk_at, lemma_at, names_more, of_cycles, of_walks, of_lemmas, scale_of, multipliers}

-- a number is at most another, or it isn't
pub at_most : (a b : ℕ) → ((nat_le a b ≡ true) × (a ≤ b)) ⊎ ((nat_le a b ≡ false) × (b < a))
at_most a b = by_test (nat_le a b) refl
  where
    by_test : (t : Bool) → nat_le a b ≡ t → ((nat_le a b ≡ true) × (a ≤ b)) ⊎ ((nat_le a b ≡ false) × (b < a))
    by_test true e = inl (e, (let below : a ≤ b = grind (arith, nat_tests) in below))
    by_test false e = inr (e, (let above : b < a = grind (arith, nat_tests) in above))

cycles_exist : (cycles walks : ℕ) (pairs : List Pair) → AreNamed cycles walks pairs
    → All (λ pair. Names cycles pair.cycle) (of_cycles cycles pairs)
cycles_exist cycles walks [] h = All-nil (λ (pair : Pair). Names cycles pair.cycle)
cycles_exist cycles walks (pair ∷ pairs) h =
    let here = All-head (IsNamed cycles walks) pair pairs h in
    let rest = cycles_exist cycles walks pairs (All-tail (IsNamed cycles walks) pair pairs h) in
    elim (at_most pair.cycle cycles) [
      | inl m ↦ rw m.0 (All-cons (λ (p : Pair). Names cycles p.cycle) pair (of_cycles cycles pairs) (here.0.0, m.1) rest)
      | inr m ↦ rw m.0 rest
    ]

walk_closed : (arcs : List Arc) (walks : List (List MarkedRow)) (c : ℕ) → c < length walks
    → All (IsMarkedWalk arcs) walks → IsMarkedWalk arcs (walk_at walks c)
walk_closed arcs walks c l closed = closed c [] l

walks_closed : (arcs : List Arc) (cycles : ℕ) (walks : List (List MarkedRow)) (pairs : List Pair)
    → All (IsMarkedWalk arcs) walks → AreNamed cycles (length walks) pairs
    → All (λ multiple. IsMarkedWalk arcs multiple.walk) (of_walks cycles walks pairs)
walks_closed arcs cycles walks [] closed h = All-nil (λ (multiple : Multiple). IsMarkedWalk arcs multiple.walk)
walks_closed arcs cycles walks (pair ∷ pairs) closed h =
    let here = All-head (IsNamed cycles (length walks)) pair pairs h in
    let rest = walks_closed arcs cycles walks pairs closed (All-tail (IsNamed cycles (length walks)) pair pairs h) in
    elim (at_most pair.cycle cycles) [
      | inl m ↦ rw m.0 rest
      | inr m ↦ rw m.0 (All-cons (λ (multiple : Multiple). IsMarkedWalk arcs multiple.walk) _
          (of_walks cycles walks pairs) (walk_closed arcs walks (pair.cycle - cycles - 1)
          (omega (arith, here.0, m.1)) closed) rest)
    ]

-- the pairs of cycles and walks, where lemmas are named too
named_below : (cycles walks facts : ℕ) (pairs : List Pair) → AreNamed cycles (walks + facts) pairs
    → AreNamed cycles walks (of_cycles (cycles + walks) pairs)
named_below cycles walks facts [] h = All-nil (IsNamed cycles walks)
named_below cycles walks facts (pair ∷ pairs) h =
    let here = All-head (IsNamed cycles (walks + facts)) pair pairs h in
    let rest = named_below cycles walks facts pairs (All-tail (IsNamed cycles (walks + facts)) pair pairs h) in
    elim (at_most pair.cycle (cycles + walks)) [
      | inl m ↦ rw m.0 (All-cons (IsNamed cycles walks) pair (of_cycles (cycles + walks) pairs) ((here.0.0, m.1), here.1) rest)
      | inr m ↦ rw m.0 rest
    ]

scale_above : (marks : Marks) (more : Bool) → 0 < marks.scale → 0 < scale_of marks more
scale_above marks true h = h
scale_above marks false h = omega arith

pub are_multipliers : (arcs : List Arc) (table : List (List SignedRow)) (marks : Marks) (facts : ℕ) (pairs : List Pair)
    → AreMarks arcs marks → AreNamed (length table) (length marks.walks + facts) pairs
    → AreMultipliers arcs table (multipliers (length table) marks pairs)
are_multipliers arcs table marks facts pairs are named =
    let walks = length marks.walks in
    let below = named_below (length table) walks facts pairs named in
    record {
      scale = scale_above marks (names_more (length table) pairs) are.scale;
      pairs = cycles_exist (length table) walks (of_cycles (length table + walks) pairs) below;
      walks = walks_closed arcs (length table) marks.walks (of_cycles (length table + walks) pairs) are.walks below;
    }

-- what is so of each lemma is so of those that are named
pub named_lemmas : (P : Lemma → Type 0) (cycles walks : ℕ) (facts : List Lemma) (pairs : List Pair) → All P facts
    → AreNamed cycles (walks + length facts) pairs → All (λ (one : LemmaMultiple). P one.fact) (of_lemmas (cycles + walks) facts pairs)
named_lemmas P cycles walks facts [] each h = All-nil (λ (one : LemmaMultiple). P one.fact)
named_lemmas P cycles walks facts (pair ∷ pairs) each h =
    let here = All-head (IsNamed cycles (walks + length facts)) pair pairs h in
    let rest = named_lemmas P cycles walks facts pairs each (All-tail (IsNamed cycles (walks + length facts)) pair pairs h) in
    elim (at_most pair.cycle (cycles + walks)) [
      | inl m ↦ rw m.0 rest
      | inr m ↦ rw m.0 (All-cons (λ (one : LemmaMultiple). P one.fact) _ (of_lemmas (cycles + walks) facts pairs)
          (fact_there (pair.cycle - (cycles + walks) - 1) (omega (arith, here.0, m.1))) rest)
    ]
  where
    fact_there : (i : ℕ) → i < length facts → P (lemma_at facts i)
    fact_there i l = each i (record { weights = []; least = pos 0 }) l

-- ---- pairs of cycles alone

pub all_below : (cycles : ℕ) (pairs : List Pair) → names_more cycles pairs ≡ false → All (λ pair. pair.cycle ≤ cycles) pairs
all_below cycles [] e = All-nil (λ (pair : Pair). pair.cycle ≤ cycles)
all_below cycles (pair ∷ pairs) e =
    elim (at_most pair.cycle cycles) [
      | inl m ↦ All-cons (λ (p : Pair). p.cycle ≤ cycles) pair pairs m.1 (all_below cycles pairs (rw m.0 at e))
      | inr m ↦ (let wrong : true ≡ false = rw m.0 at e in cc)
    ]

pub none_more : (cycles : ℕ) (pairs : List Pair) → All (λ pair. pair.cycle ≤ cycles) pairs → names_more cycles pairs ≡ false
none_more cycles [] h = refl
none_more cycles (pair ∷ pairs) h =
    let P : Pair → Type 0 = λ p. p.cycle ≤ cycles in
    let here = All-head P pair pairs h in
    let rest = none_more cycles pairs (All-tail P pair pairs h) in
    elim (at_most pair.cycle cycles) [ inl m ↦ rw m.0 rest | inr m ↦ absurd (omega (arith, here, m.1)) ]

all_of_cycles : (cycles most : ℕ) (pairs : List Pair) → All (λ pair. pair.cycle ≤ cycles) pairs → cycles ≤ most
    → of_cycles most pairs ≡ pairs
all_of_cycles cycles most [] h l = refl
all_of_cycles cycles most (pair ∷ pairs) h l =
    let P : Pair → Type 0 = λ p. p.cycle ≤ cycles in
    let here = All-head P pair pairs h in
    let rest = all_of_cycles cycles most pairs (All-tail P pair pairs h) l in
    elim (at_most pair.cycle most) [
      | inl m ↦ rw m.0 (ap (λ (ps : List Pair). pair ∷ ps) rest)
      | inr m ↦ absurd (omega (arith, here, m.1, l))
    ]

none_of_walks : (cycles : ℕ) (walks : List (List MarkedRow)) (pairs : List Pair) → All (λ pair. pair.cycle ≤ cycles) pairs
    → of_walks cycles walks pairs ≡ []
none_of_walks cycles walks [] h = refl
none_of_walks cycles walks (pair ∷ pairs) h =
    let P : Pair → Type 0 = λ p. p.cycle ≤ cycles in
    let here = All-head P pair pairs h in
    let rest = none_of_walks cycles walks pairs (All-tail P pair pairs h) in
    elim (at_most pair.cycle cycles) [ inl m ↦ rw m.0 rest | inr m ↦ absurd (omega (arith, here, m.1)) ]

none_of_lemmas : (cycles most : ℕ) (facts : List Lemma) (pairs : List Pair) → All (λ pair. pair.cycle ≤ cycles) pairs
    → cycles ≤ most → of_lemmas most facts pairs ≡ []
none_of_lemmas cycles most facts [] h l = refl
none_of_lemmas cycles most facts (pair ∷ pairs) h l =
    let P : Pair → Type 0 = λ p. p.cycle ≤ cycles in
    let here = All-head P pair pairs h in
    let rest = none_of_lemmas cycles most facts pairs (All-tail P pair pairs h) l in
    elim (at_most pair.cycle most) [ inl m ↦ rw m.0 rest | inr m ↦ absurd (omega (arith, here, m.1, l)) ]

pub no_walks : (cycles : ℕ) (marks : Marks) (pairs : List Pair) → names_more cycles pairs ≡ false
    → multipliers cycles marks pairs ≡ plain pairs
no_walks cycles marks pairs e =
    let h = all_below cycles pairs e in
    let all = all_of_cycles cycles (cycles + length marks.walks) pairs h (omega arith) in
    let a = all_of_cycles cycles cycles pairs h (omega arith) in
    let b = none_of_walks cycles marks.walks pairs h in
    rw (e, all, a, b) refl

pub no_lemmas : (cycles walks : ℕ) (facts : List Lemma) (pairs : List Pair) → names_more cycles pairs ≡ false
    → of_lemmas (cycles + walks) facts pairs ≡ []
no_lemmas cycles walks facts pairs e = none_of_lemmas cycles (cycles + walks) facts pairs (all_below cycles pairs e) (omega arith)

-- where no pair names more, to be named is to name a cycle
pub named_cycles : (cycles others : ℕ) (pairs : List Pair) → names_more cycles pairs ≡ false
    → AreNamed cycles others pairs ↔ All (λ pair. Names cycles pair.cycle) pairs
named_cycles cycles others pairs e = (
  λ h. let P : List Pair → Type 0 = All (λ pair. Names cycles pair.cycle) in
      subst P (all_of_cycles cycles cycles pairs (all_below cycles pairs e) (omega arith)) (cycles_exist cycles others pairs h),
  λ h k d l. let here = h k d l in ((here.0, omega (arith, here.1)), λ above. absurd (omega (arith, here.1, above))),
)
