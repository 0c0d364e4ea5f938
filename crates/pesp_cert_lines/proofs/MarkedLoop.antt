-- The loop over the marked rows of a walk's line.
use Rattle.std.proofs.Common.{◌≡◌, ℕ, suc, ◌+◌, Bool, true, false, ◌&&◌, List, [], ◌∷◌, length, Option, Some, None, Err, refl, sym, ◌∙◌, arith}
use Rattle.pesp_problem.specs.declared.marked.MarkedRow.{MarkedRow}
use Rattle.pesp_cert_lines.specs.declared.fault.LineFault.TheVariants.{Number}
use Rattle.pesp_cert_lines.specs.Rows.{is_name, both}
use Rattle.pesp_cert_lines.specs.Marked.{marked_at, marked_made, marked_of, counted_marked, count_of_marked, are_named, marked_are_good, BeginsMarked}
use Rattle.pesp_cert_lines.proofs.Tests.{and_left, and_right}

-- what the rest gives behind the rows so far is what all gives
pub record IsJudgedTo (all rest : List (List ℕ)) (within : Bool) (number : ℕ) : Type 0 where
  pub same : counted_marked number within (marked_of rest) ≡ count_of_marked (marked_of all)
  pub count : number + length rest ≡ length all

pub marked_end : (all : List (List ℕ)) (within : Bool) (number : ℕ) → IsJudgedTo all [] within number
    → counted_marked number within (Some []) ≡ count_of_marked (marked_of all)
unfolding marked_of
marked_end all within number so_far = so_far.same

pub marked_bad : (all ws : List (List ℕ)) (w : List ℕ) (within : Bool) (number : ℕ) → None ≡ marked_at w
    → IsJudgedTo all (w ∷ ws) within number → Err Number ≡ count_of_marked (marked_of all)
unfolding marked_of
marked_bad all ws w within number bad so_far = (rw (sym bad) refl) ∙ so_far.same

step : (rs : Option (List MarkedRow)) (r : ℕ × Bool × Bool) (within : Bool) (number : ℕ)
    → counted_marked (number + 1) (within && is_name r.0) rs
    ≡ counted_marked number within (both (λ p qs. marked_made p ∷ qs) (Some r) rs)
step None r within number = refl
step (Some rs) r false number = refl
step (Some rs) r true number =
    let more : number + 1 + length rs ≡ number + suc (length rs) = omega arith in
    rw more refl

pub marked_more : (all ws : List (List ℕ)) (w : List ℕ) (n : ℕ) (plus flipped within : Bool) (number : ℕ)
    → Some (n, plus, flipped) ≡ marked_at w → IsJudgedTo all (w ∷ ws) within number
    → IsJudgedTo all ws (within && is_name n) (number + 1)
unfolding marked_of
marked_more all ws w n plus flipped within number good so_far =
    record {
      same = step (marked_of ws) (n, plus, flipped) within number ∙ (rw (sym good) refl) ∙ so_far.same;
      count = omega (arith, so_far.count);
    }

-- ---- the rows that are left

pub no_row : BeginsMarked None (marked_of []) (marked_of [])
unfolding marked_of
no_row = (refl, (refl, refl))

pub bad_row : (w : List ℕ) (ws : List (List ℕ)) → None ≡ marked_at w → marked_are_good (marked_of (w ∷ ws)) ≡ true → ⊥
unfolding marked_of
bad_row w ws bad h = let none : false ≡ true = rw (sym bad) at h in cc

row_step : (r : MarkedRow) (rest : Option (List MarkedRow)) (n : ℕ) (plus flipped : Bool)
    → r ≡ marked_made (n, plus, flipped) → marked_are_good (both (λ p qs. marked_made p ∷ qs) (Some (n, plus, flipped)) rest)
    ≡ true
    → (is_name n ≡ true) × BeginsMarked (Some r) (both (λ p qs. marked_made p ∷ qs) (Some (n, plus, flipped)) rest) rest
row_step r None n plus flipped e h = absurd cc
row_step r (Some rs) n plus flipped e h = (and_left (is_name n) (are_named rs) h, (and_right (is_name n) (are_named rs) h, rw e refl))

pub first_row : (w : List ℕ) (ws : List (List ℕ)) (n : ℕ) (plus flipped : Bool) → Some (n, plus, flipped) ≡ marked_at w
    → marked_are_good (marked_of (w ∷ ws)) ≡ true
    → (is_name n ≡ true) × BeginsMarked (Some (marked_made (n, plus, flipped))) (marked_of (w ∷ ws)) (marked_of ws)
unfolding marked_of
first_row w ws n plus flipped good h = rw (sym good) (row_step (marked_made (n, plus, flipped)) (marked_of ws) n plus flipped refl (rw (sym good) at h))
