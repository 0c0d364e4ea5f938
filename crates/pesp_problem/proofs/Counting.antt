-- Numbers that rise, and numbers without one twice: how many there are.
use Rattle.std.proofs.Common.{◌≡◌, ℕ, zero, suc, ◌+◌, ◌-◌, ◌<◌, ◌≤◌, inl, inr, List, [], ◌∷◌, length, map, arith}
use Rattle.std.specs.Prelude.{◌≡◌, slice_index, nat_eq, All}
use Rattle.std.specs.List.{IsDistinct, range_with_len}
use Rattle.std.specs.List.Sorted.{IsStrictlyIncreasing}
use Rattle.std.proofs.lemmas.Bool.{cases_order, eqb-true}
use Rattle.std.proofs.lemmas.Cmp.{nat_eq_equiv}
use Rattle.std.proofs.lemmas.Map.Made.{length-le_from_is_member}
use Rattle.std.proofs.lemmas.Map.Views.{Contains-from_any, list_any-from_Contains}
use Rattle.std.proofs.lemmas.List.Kept.{AllPairs-from_increasing}
use Rattle.std.proofs.lemmas.List.{length-map}
use Rattle.std.proofs.lemmas.List.FromFn.{length-range_with_len, get_or-range_with_len}
use Rattle.std.proofs.lemmas.List.Elements.{All-head, All-map, All-get_or, All-contains}
use Rattle.pesp_problem.specs.declared.arc.Arc.{Arc}
use Rattle.pesp_problem.specs.declared.row.SignedRow.{SignedRow}
use Rattle.pesp_problem.specs.Walks.{Names, RowExists, AreRows}
use Rattle.pesp_problem.specs.Forests.{IsSpanningForest, IsFundamental, AreFundamental, own_row}

-- ---- numbers that rise

pub rises_to : (xs : List ℕ) (i j : ℕ) → IsStrictlyIncreasing xs → i < j → j < length xs → slice_index xs i < slice_index xs j
rises_to xs i j h l m = AllPairs-from_increasing xs h i j 0 l m

pub differ : (xs : List ℕ) (i j : ℕ) → IsStrictlyIncreasing xs → i < length xs → j < length xs → slice_index xs i ≡ slice_index xs j → i ≡ j
differ xs i j h k l e =
    elim (cases_order i j) [
      | inl same ↦ same
      | inr other ↦ elim other [
        | inl less ↦ let r = rises_to xs i j h less l in absurd (omega (arith, r, e))
        | inr more ↦ let r = rises_to xs j i h more k in absurd (omega (arith, r, e))
      ]
    ]

-- the number at a place is above the place, where the first is above 0
above_place : (xs : List ℕ) (i : ℕ) → IsStrictlyIncreasing xs → ((k : ℕ) → k < length xs → 1 ≤ slice_index xs k)
    → i < length xs → i + 1 ≤ slice_index xs i
above_place xs zero h some l = let first = some 0 l in omega (arith, first)
above_place xs (suc i) h some l = let before = above_place xs i h some (omega arith) in
    let next = rises_to xs i (suc i) h (omega arith) l in omega (arith, before, next)

-- names that rise are no more than what they name
pub rising_short : (xs : List ℕ) (n : ℕ) → IsStrictlyIncreasing xs → ((k : ℕ) → k < length xs → Names n (slice_index xs k)) → length xs ≤ n
rising_short [] n h names = omega arith
rising_short (x ∷ xs) n h names =
    let last = above_place (x ∷ xs) (length xs) h (λ k l. (names k l).0) (omega arith) in
    let named = (names (length xs) (omega arith)).1 in
    omega (arith, last, named)

-- ---- numbers without one twice

-- names without one twice are no more than what they name
pub distinct_short : (xs : List ℕ) (n : ℕ) → IsDistinct nat_eq xs → All (Names n) xs → length xs ≤ n
distinct_short xs n d h =
    let all = range_with_len 1 n in
    let within = length-le_from_is_member nat_eq_equiv xs all d (λ q m.
    let named = All-contains (Names n) xs q h (Contains-from_any eqb-true q xs m) in
    let low = named.0 in let high = named.1 in
    let long = length-range_with_len 1 n in
    let inside : q - 1 < n = omega (arith, low, high) in
    let at_place = get_or-range_with_len 1 n (q - 1) q inside in
    list_any-from_Contains nat_eq_equiv q all (q - 1, omega (arith, inside, long), omega (arith, at_place, low))) in
    omega (arith, within, length-range_with_len 1 n)

-- ---- ways, forests and tables

pub ways_are_short : (arcs : List Arc) (way : List SignedRow) → AreRows arcs way
    → IsDistinct nat_eq (map (λ s. s.row) way) → length way ≤ length arcs
ways_are_short arcs way exist once =
    let short = distinct_short (map (λ (s : SignedRow). s.row) way) (length arcs) once
    (All-map (Names (length arcs)) (λ (s : SignedRow). s.row) way exist) in
    omega (arith, short, length-map way (λ (s : SignedRow). s.row))

pub forests_are_short : (arcs : List Arc) (forest : List ℕ) → IsSpanningForest arcs forest → length forest ≤ length arcs
forests_are_short arcs forest f = distinct_short forest (length arcs) f.once f.exist

own_named : (arcs : List Arc) (forest : List ℕ) (walk : List SignedRow)
    → IsFundamental arcs forest (own_row walk) walk → Names (length arcs) (own_row walk)
own_named arcs forest [] h = absurd h.closes
own_named arcs forest (s ∷ walk) h = All-head (RowExists arcs) s walk h.closes.0

pub tables_are_short : (arcs : List Arc) (forest : List ℕ) (table : List (List SignedRow))
    → AreFundamental arcs forest table → length table ≤ length arcs
tables_are_short arcs forest table f =
    let named = All-map (Names (length arcs)) own_row table (λ k d l. own_named arcs forest _ (f.each k d l)) in
    let short = rising_short (map own_row table) (length arcs) f.rising
    (λ k l. All-get_or (Names (length arcs)) (map own_row table) k 0 l named) in
    omega (arith, short, length-map table own_row)
