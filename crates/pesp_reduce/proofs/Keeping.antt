-- The kept rows: how many there are before a row, where it stands, and sums over them.
use Rattle.std.proofs.Common.{◌≡◌, ℕ, zero, suc, ◌+◌, ◌<◌, ◌≤◌, ◌⊎◌, inl, inr, refl, sym, ◌∙◌, ap, arith, subst, List, [], ◌∷◌, ◌++◌, length, take, true, false, Bool, All, add-one, rules}
use Rattle.std.specs.Prelude.{if◌then◌else◌, sum_by}
use Rattle.std.proofs.lemmas.Bool.{cases_Bool, cases_lt}
use Rattle.std.proofs.lemmas.List.{get_or_append_left, get_or_push, length_push, append-nil}
use Rattle.std.proofs.lemmas.List.Elements.{All-push, All-nil}
use Rattle.std.proofs.lemmas.List.Sums.{sum_by_more, sum_by-append}
use Rattle.pesp_problem.specs.declared.row.Row.{Row}
use Rattle.pesp_problem.specs.Timetables.{row_at, no_row}
use Rattle.pesp_problem.proofs.Integers.{lt-or-same}
use Rattle.pesp_network.specs.declared.row.NetRow.{NetRow}
use Rattle.pesp_network.specs.Networks.{net_row_at, no_net_row}
use Rattle.pesp_reduce.specs.declared.fate.Fate.{Fate}
use Rattle.pesp_reduce.specs.Fates.{fate_at, is_kept, kept_below}

abbrev pub keeps : List Fate → ℕ → Bool
keeps fates i = is_kept (fate_at fates i)

-- how many of the first n rows are kept
abbrev pub places : List Fate → ℕ → ℕ
places fates zero = 0
places fates (suc n) = places fates n + (if keeps fates n then 1 else 0)

pub kept_yes : (fates : List Fate) (rows : List NetRow) (n : ℕ) → keeps fates n ≡ true
    → kept_below fates rows (suc n) ≡ kept_below fates rows n ++ net_row_at rows n ∷ []
kept_yes fates rows n e = ap (λ (b : Bool). kept_below fates rows n ++ (if b then net_row_at rows n ∷ [] else [])) e

pub kept_no : (fates : List Fate) (rows : List NetRow) (n : ℕ) → keeps fates n ≡ false
    → kept_below fates rows (suc n) ≡ kept_below fates rows n
kept_no fates rows n e = ap (λ (b : Bool). kept_below fates rows n ++ (if b then net_row_at rows n ∷ [] else [])) e
    ∙ append-nil (kept_below fates rows n)

places_yes : (fates : List Fate) (n : ℕ) → keeps fates n ≡ true → places fates (suc n) ≡ places fates n + 1
places_yes fates n e = ap (λ (b : Bool). places fates n + (if b then 1 else 0)) e

places_no : (fates : List Fate) (n : ℕ) → keeps fates n ≡ false → places fates (suc n) ≡ places fates n
places_no fates n e = ap (λ (b : Bool). places fates n + (if b then 1 else 0)) e ∙ omega arith

pub length_kept : (fates : List Fate) (rows : List NetRow) (n : ℕ) → length (kept_below fates rows n) ≡ places fates n
length_kept fates rows zero = refl
length_kept fates rows (suc n) =
    let before = length_kept fates rows n in
    elim (cases_Bool (keeps fates n)) [
      | inl e ↦ ap length (kept_yes fates rows n e) ∙ length_push (kept_below fates rows n) (net_row_at rows n)
          ∙ ap (λ k. k + 1) before ∙ sym (places_yes fates n e)
      | inr e ↦ ap length (kept_no fates rows n e) ∙ before ∙ sym (places_no fates n e)
    ]

lt-suc : (i n : ℕ) → i < suc n → (i < n) ⊎ (i ≡ n)
lt-suc i n l = lt-or-same i n (omega arith)

pub places_before : (fates : List Fate) (n i : ℕ) → i < n → keeps fates i ≡ true → places fates i < places fates n
places_before fates zero i l k = absurd (omega arith)
places_before fates (suc n) i l k =
    elim (lt-suc i n l) [
      | inl m ↦
          let b = places_before fates n i m k in
          elim (cases_Bool (keeps fates n)) [
            | inl e ↦ let p = places_yes fates n e in omega arith
            | inr e ↦ let p = places_no fates n e in omega arith
          ]
      | inr e ↦
          let here : keeps fates n ≡ true = ap (keeps fates) (sym e) ∙ k in
          let p = places_yes fates n here in let q = ap (places fates) e in omega arith
    ]

pub one_place : (fates : List Fate) (i j : ℕ) → keeps fates i ≡ true → keeps fates j ≡ true → places fates i ≡ places fates j → i ≡ j
one_place fates i j k l e =
    elim (cases_lt i j) [
      | inl m ↦ absurd (let p = places_before fates j i m k in omega arith)
      | inr m ↦
          elim (cases_lt j i) [
            | inl q ↦ absurd (let p = places_before fates i j q l in omega arith)
            | inr q ↦ omega arith
          ]
    ]

pub kept_at : (fates : List Fate) (rows : List NetRow) (n i : ℕ) → i < n → keeps fates i ≡ true
    → net_row_at (kept_below fates rows n) (places fates i) ≡ net_row_at rows i
kept_at fates rows zero i l k = absurd (omega arith)
kept_at fates rows (suc n) i l k =
    let before = kept_below fates rows n in
    let size = length_kept fates rows n in
    elim (lt-suc i n l) [
      | inl m ↦
          let b = places_before fates n i m k in
          let old = kept_at fates rows n i m k in
          elim (cases_Bool (keeps fates n)) [
            | inl e ↦ ap (λ xs. net_row_at xs (places fates i)) (kept_yes fates rows n e)
                ∙ get_or_append_left before (net_row_at rows n ∷ []) no_net_row (places fates i) (omega arith) ∙ old
            | inr e ↦ ap (λ xs. net_row_at xs (places fates i)) (kept_no fates rows n e) ∙ old
          ]
      | inr e ↦
          let here : keeps fates n ≡ true = ap (keeps fates) (sym e) ∙ k in
          ap (λ xs. net_row_at xs (places fates i)) (kept_yes fates rows n here)
          ∙ get_or_push before (net_row_at rows n) no_net_row (places fates i)
          (size ∙ ap (places fates) (sym e)) ∙ ap (net_row_at rows) (sym e)
    ]

-- the row at a place among the kept ones
pub record StandsAt (fates : List Fate) (n j : ℕ) : Type 0 where
  pub from : ℕ
  pub below : from < n
  pub kept : keeps fates from ≡ true
  pub place : places fates from ≡ j

pub which : (fates : List Fate) (n j : ℕ) → j < places fates n → StandsAt fates n j
which fates zero j l = absurd (omega arith)
which fates (suc n) j l =
    elim (cases_lt j (places fates n)) [
      | inl m ↦ let w = which fates n j m in record {
        from = w.from;
        below = let b = w.below in
            omega arith;
        kept = w.kept;
        place = w.place;
      }
      | inr m ↦
          elim (cases_Bool (keeps fates n)) [
            | inl e ↦ record { from = n; below = omega arith; kept = e; place = let p = places_yes fates n e in omega arith }
            | inr e ↦ absurd (let p = places_no fates n e in omega arith)
          ]
    ]

pub all_kept : (P : NetRow → Type 0) (fates : List Fate) (rows : List NetRow) (n : ℕ)
    → ((i : ℕ) → i < n → P (net_row_at rows i)) → All P (kept_below fates rows n)
all_kept P fates rows zero h = All-nil P
all_kept P fates rows (suc n) h =
    let before = all_kept P fates rows n (λ i l. h i (omega arith)) in
    elim (cases_Bool (keeps fates n)) [
      | inl e ↦ subst (λ xs. All P xs) (sym (kept_yes fates rows n e))
          (All-push P (kept_below fates rows n) (net_row_at rows n) before (h n (omega arith)))
      | inr e ↦ subst (λ xs. All P xs) (sym (kept_no fates rows n e)) before
    ]

pub few_kept : (fates : List Fate) (n : ℕ) → places fates n ≤ n
few_kept fates zero = omega arith
few_kept fates (suc n) =
    let before = few_kept fates n in
    elim (cases_Bool (keeps fates n)) [
      | inl e ↦ let p = places_yes fates n e in omega arith
      | inr e ↦ let p = places_no fates n e in omega arith
    ]

-- a sum over all rows is one over the kept ones where the others' terms are 0
pub sum_kept : (fates : List Fate) (given : List Row) (rows : List NetRow) (g : Row → ℕ) (f : NetRow → ℕ) (n : ℕ)
    → n ≤ length given → ((i : ℕ) → i < n → g (row_at given i)
    ≡ (if keeps fates i then f (net_row_at rows i) else 0))
    → sum_by g (take n given) ≡ sum_by f (kept_below fates rows n)
sum_kept fates given rows g f zero l h = refl
sum_kept fates given rows g f (suc n) l h =
    let before = sum_kept fates given rows g f n (omega arith) (λ i b. h i (omega arith)) in
    let term = h n (omega arith) in
    let more = ap (λ k. sum_by g (take k given)) (sym (add-one n)) ∙ sum_by_more g given n no_row (omega arith) in
    elim (cases_Bool (keeps fates n)) [
      | inl e ↦
          let here : g (row_at given n) ≡ f (net_row_at rows n) = term ∙ ap (λ (b : Bool). if b then f (net_row_at rows n) else 0) e in
          let split = ap (sum_by f) (kept_yes fates rows n e) ∙ sum_by-append f (kept_below fates rows n) (net_row_at rows n ∷ []) in
          let single : sum_by f (net_row_at rows n ∷ []) ≡ f (net_row_at rows n) = search rules in
          omega arith
      | inr e ↦
          let here : g (row_at given n) ≡ 0 = term ∙ ap (λ (b : Bool). if b then f (net_row_at rows n) else 0) e in
          let same = ap (sum_by f) (kept_no fates rows n e) in
          omega arith
    ]
