-- Facts on digits.
use Rattle.std.proofs.Common.{◌≡◌, refl, Bool, true, false, cond, ℕ, zero, suc, ◌+◌, ◌*◌, ◌^◌, ◌<◌, ◌≤◌, List, [], ◌∷◌, length, take, get_or, arith, one-add, lit<}
use Rattle.std.proofs.Math.Nat.{pow-le-pow_right}
use Rattle.std.specs.List.{prefix_len}
use Rattle.std.specs.Char.{digit_value}
use Rattle.std.specs.Str.Parse.{AllDigits}
use Rattle.std.proofs.lemmas.Grind.{pow_more}
use Rattle.std.proofs.lemmas.Bool.Decides.{nat_tests}
use Rattle.pesp_instance.specs.Number.{is_digit}

-- a byte that is a digit has the value of one
pub digit_value-lt : (c : ℕ) → is_digit c ≡ true → digit_value c < 10
digit_value-lt c h = grind (arith, nat_tests)

-- and the other way round
pub digit_value-is : (c : ℕ) → digit_value c < 10 → digit_value c + 48 ≡ c
digit_value-is c h = grind (arith, nat_tests)

-- the digits at the front are digits
pub front-digits : (text : List ℕ) → AllDigits 10 (take (prefix_len is_digit text) text)
front-digits [] = tt
front-digits (b ∷ text) = by (is_digit b) refl (front-digits text)
  where
    by : (r : Bool) → is_digit b ≡ r → AllDigits 10 (take (prefix_len is_digit text) text)
        → AllDigits 10 (take (cond (is_digit b) (1 + prefix_len is_digit text) 0) (b ∷ text))
    by true e more = rw (e, one-add) (digit_value-lt b e, more)
    by false e more = rw e tt

-- one more digit
pub power-step : (i v d : ℕ) → v < 10 ^ i → d < 10 → v * 10 + d < 10 ^ (i + 1)
power-step i v d h k = rw (pow_more 10 i) (omega arith)

pub power-bound : (i : ℕ) → i ≤ 18 → 10 ^ i ≤ 10 ^ 18
power-bound i h = pow-le-pow_right (lit< tt) h

-- each of the digits is one
pub digit-at : (ds : List ℕ) (i : ℕ) → AllDigits 10 ds → i < length ds → digit_value (get_or ds i 0) < 10
digit-at [] i a h = absurd (omega arith)
digit-at (d ∷ ds) zero a h = a.0
digit-at (d ∷ ds) (suc i) a h = digit-at ds i a.1 (omega arith)
