-- The passages of the rows, walk by walk.
use Rattle.std.proofs.Common.{◌≡◌, ◌≢◌, ℕ, ◌+◌, ◌<◌, ◌≤◌, List, [], ◌∷◌, ◌++◌, length, get_or, set, take, All, ap, ◌∙◌, refl, arith, inl, inr, zero, suc, add-one}
use Rattle.std.specs.Prelude.{ℤ, pos, ◌+ℤ◌, unsigned_abs, replicate, if◌then◌else◌, Bool}
use Rattle.std.proofs.lemmas.Int.{ints}
use Rattle.std.proofs.lemmas.Bool.{cases_eq}
use Rattle.std.proofs.lemmas.List.{get_or-set_same, get_or-set_other, length-set, get_or_default}
use Rattle.std.proofs.lemmas.List.Elements.{All-push}
use Rattle.std.proofs.lemmas.List.Sums.{fold_push}
use Rattle.pesp_problem.specs.declared.row.SignedRow.{SignedRow}
use Rattle.pesp_problem.specs.Sums.{sum_below}
use Rattle.pesp_problem.specs.Walks.{sign, net_count}
use Rattle.pesp_problem.specs.Nodes.{cycle_at}
use Rattle.pesp_nodes.specs.declared.passages.Passage.{Passage}
use Rattle.pesp_nodes.specs.Passages.{sum_over, passages_at, AreBefore, IsPassed, ArePassages}
use Rattle.pesp_problem.proofs.Counts.{net_count_more, count_small, net_count_small, eq-true, eq-false}
use Rattle.pesp_nodes.proofs.Tables.{passages_none}

abbrev passage : ℕ → ℤ → Passage
passage cycle count = record { cycle = cycle; count = count }

-- ---- one signed row

-- after a passage that isn't the cycle's
pub pushed : (cycle : ℕ) (count : ℤ) (before rest now : List Passage) (e : Passage) → rest ≡ before
    → now ≡ rest ++ e ∷ [] → e.cycle ≡ cycle → e.count ≡ count → IsPassed cycle count before now
pushed cycle count before rest now e same more is n =
    let add : List Passage → List Passage = λ xs. xs ++ e ∷ [] in
    let last : Passage → List Passage = λ x. before ++ x ∷ [] in
    let entry : e ≡ passage cycle count = ap (λ (c : ℕ). passage c e.count) is ∙ ap (passage cycle) n in
    inr (more ∙ ap add same ∙ ap last entry)

-- ---- one walk

-- what a row's count is after a signed row more
pub count_here : (walk : List SignedRow) (k i : ℕ) (d : SignedRow) → k < length walk
    → (get_or walk k d).row ≡ i + 1 → net_count (take (k + 1) walk) i
    ≡ net_count (take k walk) i +ℤ sign (get_or walk k d)
count_here walk k i d l is =
    let pick : Bool → ℤ = λ b. if b then sign (get_or walk k d) else pos 0 in
    omega (arith, ints, net_count_more walk k i d l, ap pick (eq-true (get_or walk k d).row (i + 1) is))

pub count_elsewhere : (walk : List SignedRow) (k i : ℕ) (d : SignedRow) → k < length walk
    → (get_or walk k d).row ≢ i + 1 → net_count (take (k + 1) walk) i ≡ net_count (take k walk) i
count_elsewhere walk k i d l other =
    let pick : Bool → ℤ = λ b. if b then sign (get_or walk k d) else pos 0 in
    omega (arith, ints, net_count_more walk k i d l, ap pick (eq-false (get_or walk k d).row (i + 1) other))

-- the rows are passed by the first k signed rows of a walk
pub record ArePassedTo (cycle : ℕ) (walk : List SignedRow) (initial by_row : List (List Passage)) (k : ℕ) : Type 0 where
  pub long : length by_row ≡ length initial
  pub each : (i : ℕ) → i < length initial → IsPassed cycle (net_count (take k walk) i) (passages_at initial i) (passages_at by_row i)

pub passed_none : (cycle : ℕ) (walk : List SignedRow) (initial : List (List Passage)) → ArePassedTo cycle walk initial initial 0
passed_none cycle walk initial = record { long = refl; each = λ i l. inl (refl, refl) }

pub passed_more : (cycle : ℕ) (walk : List SignedRow) (initial by_row : List (List Passage)) (k at : ℕ)
    (d : SignedRow) (row' : List Passage) → k < length walk → (get_or walk k d).row ≡ at + 1 → at < length by_row
    → IsPassed cycle (net_count (take k walk) at +ℤ sign (get_or walk k d)) (passages_at initial at) row'
    → ArePassedTo cycle walk initial by_row k → ArePassedTo cycle walk initial (set by_row at row') (k + 1)
passed_more cycle walk initial by_row k at d row' l is inside passed h = record {
  long = length-set by_row at row' ∙ h.long;
  each = λ i m. elim (cases_eq i at) [
    | inl same ↦ rw (same, get_or-set_same by_row at row' [] inside, count_here walk k at d l is) passed
    | inr other ↦ rw (get_or-set_other by_row at i row' [] other, count_elsewhere walk k i d l (λ e. other (omega arith))) (h.each i m)
  ];
}

-- the counts of a row are small
passed_counts : (cycle : ℕ) (count : ℤ) (before now : List Passage) → unsigned_abs count ≤ 10000000
    → AreBefore cycle before → IsPassed cycle count before now → All (λ e. unsigned_abs e.count ≤ 10000000) now
passed_counts cycle count before now small are passed =
    let all : All (λ (e : Passage). unsigned_abs e.count ≤ 10000000) before = λ i d l. (are i d l).2 in
    elim passed [
      | inl same ↦ rw (same.0) all
      | inr more ↦ rw more (All-push (λ (e : Passage). unsigned_abs e.count ≤ 10000000) before (passage cycle count) all small)
    ]

pub row_before : (cycle : ℕ) (rows : List (List Passage)) (i : ℕ) → i < length rows → All (AreBefore cycle) rows
    → AreBefore cycle (passages_at rows i)
row_before cycle rows i l h = h i [] l

pub counts_small : (cycle : ℕ) (walk : List SignedRow) (initial by_row : List (List Passage)) (k i : ℕ)
    → length walk ≤ 10000000 → k ≤ length walk → i < length by_row → All (AreBefore cycle) initial
    → ArePassedTo cycle walk initial by_row k
    → All (λ e. unsigned_abs e.count ≤ 10000000) (passages_at by_row i)
counts_small cycle walk initial by_row k i short within l before h =
    let m : i < length initial = omega (arith, h.long) in
    passed_counts cycle (net_count (take k walk) i) (passages_at initial i) (passages_at by_row i)
    (count_small walk k i (omega arith)) (row_before cycle initial i m before) (h.each i m)

-- ---- a table

-- the passages by the first m cycles
pub record ArePassagesTo (n : ℕ) (walks : List (List SignedRow)) (by_row : List (List Passage)) (m : ℕ) : Type 0 where
  pub passages : ArePassages n m walks by_row
  pub before : All (AreBefore (m + 1)) by_row

none_before : (n cycle : ℕ) → All (AreBefore cycle) (replicate n [])
none_before zero cycle k d l = absurd (omega arith)
none_before (suc n) cycle zero d l = λ k e m. absurd (omega arith)
none_before (suc n) cycle (suc k) d l = none_before n cycle k d (omega arith)

pub none_to : (n : ℕ) (walks : List (List SignedRow)) → ArePassagesTo n walks (replicate n []) 0
none_to n walks = record { passages = passages_none n walks; before = none_before n 1 }

later : (cycle : ℕ) (passages : List Passage) → AreBefore cycle passages → AreBefore (cycle + 1) passages
later cycle passages h i d l = let e = h i d l in let below = e.1 in (e.0, omega arith, e.2)

passed_before : (cycle : ℕ) (count : ℤ) (before now : List Passage) → 1 ≤ cycle → unsigned_abs count ≤ 10000000
    → AreBefore cycle before → IsPassed cycle count before now → AreBefore (cycle + 1) now
passed_before cycle count before now some small are passed =
    elim passed [
      | inl same ↦ rw (same.0) (later cycle before are)
      | inr more ↦ rw more (All-push (λ (e : Passage). (1 ≤ e.cycle) × (e.cycle < cycle + 1)
          × (unsigned_abs e.count ≤ 10000000)) before (passage cycle count) (later cycle before are)
          (some, omega arith, small))
    ]

passed_sum : (term : ℕ → ℤ → ℤ) (cycle : ℕ) (count : ℤ) (before now : List Passage)
    → ((c : ℕ) → term c (pos 0) ≡ pos 0) → IsPassed cycle count before now
    → sum_over term now ≡ sum_over term before +ℤ term cycle count
passed_sum term cycle count before now none passed =
    elim passed [
      | inl same ↦ (let nothing : term cycle count ≡ pos 0 = ap (term cycle) (same.1) ∙ none cycle in
          let sum = ap (sum_over term) (same.0) in omega (arith, ints))
      | inr more ↦ ap (sum_over term) more ∙ fold_push (λ z (e : Passage). z +ℤ term e.cycle e.count) (pos 0) before (passage cycle count)
    ]

pub table_more : (n : ℕ) (walks : List (List SignedRow)) (by_row by_row' : List (List Passage)) (m : ℕ)
    → length (cycle_at walks m) ≤ 10000000 → length by_row' ≡ length by_row
    → ((i : ℕ) → i < length by_row → IsPassed (m + 1) (net_count (cycle_at walks m) i) (passages_at by_row i)
    (passages_at by_row' i))
    → ArePassagesTo n walks by_row m → ArePassagesTo n walks by_row' (m + 1)
table_more n walks by_row by_row' m short same passed h = record {
  passages = record {
    long = same ∙ h.passages.long;
    each = λ i l term none.
        let long = h.passages.long in
        let f : ℕ → ℤ = λ c. term (c + 1) (net_count (cycle_at walks c) i) in
        let here = passed_sum term (m + 1) (net_count (cycle_at walks m) i) (passages_at by_row i)
        (passages_at by_row' i) none (passed i (omega arith)) in
        let before = h.passages.each i l term none in
        let last : sum_below (m + 1) f ≡ sum_below m f +ℤ f m = ap (λ j. sum_below j f) (add-one m) in
        omega (arith, ints);
  };
  before = λ k d l.
      (let l' : k < length by_row = omega arith in
      let row = passed_before (m + 1) (net_count (cycle_at walks m) k) (passages_at by_row k)
      (passages_at by_row' k) (omega arith) (net_count_small (cycle_at walks m) k 10000000 short)
      (row_before (m + 1) by_row k l' h.before) (passed k l') in
      rw (get_or_default by_row' k d [] l) row);
}
