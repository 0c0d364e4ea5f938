-- The loop over the rows of a cycle line.
use Rattle.std.proofs.Common.{◌≡◌, ℕ, suc, ◌+◌, ◌≤◌, Bool, true, false, ◌&&◌, List, [], ◌∷◌, length, Option, Some, None, Err, refl, sym, ◌∙◌, arith}
use Rattle.pesp_problem.specs.declared.row.SignedRow.{SignedRow}
use Rattle.pesp_cert_lines.specs.declared.fault.LineFault.TheVariants.{Number}
use Rattle.pesp_cert_lines.specs.Rows.{is_name, both, spelt_row, row_made, rows_of, counted_rows, count_of_rows, rows_are_named, rows_are_good, BeginsRows}
use Rattle.std.proofs.lemmas.Bool.Decides.{nat_tests}
use Rattle.pesp_cert_lines.proofs.Tests.{and_left, and_right}

-- what the rest gives behind the rows so far is what all gives
pub record IsJudgedTo (all rest : List (List ℕ)) (within : Bool) (number : ℕ) : Type 0 where
  pub same : counted_rows number within (rows_of rest) ≡ count_of_rows (rows_of all)
  pub count : number + length rest ≡ length all

pub rows_end : (all : List (List ℕ)) (within : Bool) (number : ℕ) → IsJudgedTo all [] within number
    → counted_rows number within (Some []) ≡ count_of_rows (rows_of all)
unfolding rows_of
rows_end all within number so_far = so_far.same

pub rows_bad : (all ws : List (List ℕ)) (w : List ℕ) (within : Bool) (number : ℕ) → None ≡ spelt_row w
    → IsJudgedTo all (w ∷ ws) within number → Err Number ≡ count_of_rows (rows_of all)
unfolding rows_of
rows_bad all ws w within number bad so_far = (rw (sym bad) refl) ∙ so_far.same

step : (rs : Option (List SignedRow)) (r : ℕ × Bool) (within : Bool) (number : ℕ)
    → counted_rows (number + 1) (within && is_name r.0) rs
    ≡ counted_rows number within (both (λ p qs. row_made p ∷ qs) (Some r) rs)
step None r within number = refl
step (Some rs) r false number = refl
step (Some rs) r true number =
    let more : number + 1 + length rs ≡ number + suc (length rs) = omega arith in
    rw more refl

pub rows_more : (all ws : List (List ℕ)) (w : List ℕ) (n : ℕ) (plus : Bool) (within : Bool) (number : ℕ)
    → Some (n, plus) ≡ spelt_row w → IsJudgedTo all (w ∷ ws) within number
    → IsJudgedTo all ws (within && is_name n) (number + 1)
unfolding rows_of
rows_more all ws w n plus within number good so_far =
    record {
      same = step (rows_of ws) (n, plus) within number ∙ (rw (sym good) refl) ∙ so_far.same;
      count = omega (arith, so_far.count);
    }

-- ---- the rows that are left

pub no_row : BeginsRows None (rows_of []) (rows_of [])
unfolding rows_of
no_row = (refl, (refl, refl))

pub bad_row : (w : List ℕ) (ws : List (List ℕ)) → None ≡ spelt_row w → rows_are_good (rows_of (w ∷ ws)) ≡ true → ⊥
unfolding rows_of
bad_row w ws bad h = let none : false ≡ true = rw (sym bad) at h in cc

row_step : (r : SignedRow) (rest : Option (List SignedRow)) (n : ℕ) (plus : Bool)
    → r ≡ record { row = n; plus = plus } → rows_are_good (both (λ p qs. row_made p ∷ qs) (Some (n, plus)) rest)
    ≡ true
    → (is_name n ≡ true) × BeginsRows (Some r) (both (λ p qs. row_made p ∷ qs) (Some (n, plus)) rest) rest
row_step r None n plus e h = absurd cc
row_step r (Some rs) n plus e h = (and_left (is_name n) (rows_are_named rs) h, (and_right (is_name n) (rows_are_named rs) h, rw e refl))

pub first_row : (w : List ℕ) (ws : List (List ℕ)) (n : ℕ) (plus : Bool) → Some (n, plus) ≡ spelt_row w
    → rows_are_good (rows_of (w ∷ ws)) ≡ true
    → (is_name n ≡ true) × BeginsRows (Some (record { row = n; plus = plus })) (rows_of (w ∷ ws)) (rows_of ws)
unfolding rows_of
first_row w ws n plus good h = rw (sym good) (row_step (record { row = n; plus = plus }) (rows_of ws) n plus refl (rw (sym good) at h))

pub name_small : (n : ℕ) → is_name n ≡ true → n ≤ 100000
name_small n h = grind (arith, nat_tests, h)
