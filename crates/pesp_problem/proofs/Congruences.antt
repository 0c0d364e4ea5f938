-- Numbers that are the same but for a multiple of the period.
use Rattle.std.proofs.Common.{◌≡◌, ℕ, suc, ◌+◌, ◌*◌, ◌/◌, ◌%◌, ◌<◌, refl, sym, ◌∙◌, ap, arith, ℤ, pos, negsuc, neg_ℤ, ◌+ℤ◌, ◌-ℤ◌}
use Rattle.std.specs.Prelude.{unsigned_abs}
use Rattle.std.specs.Int.{int_rem_euclid}
use Rattle.std.proofs.lemmas.Int.{ints, int_rem_euclid_is}
use Rattle.pesp_problem.specs.Timetables.{remainder}
use Rattle.pesp_problem.specs.Congruences.{IsSame}
use Rattle.pesp_problem.proofs.Integers.{remainder-lt}

pub same_trans : (p : ℕ) (a b c : ℤ) → IsSame p a b → IsSame p b c → IsSame p a c
same_trans p a b c x y = record {
  more = x.more + y.more;
  less = x.less + y.less;
  even = let e = x.even in
      let f = y.even in omega (arith, ints);
}

pub same_sym : (p : ℕ) (a b : ℤ) → IsSame p a b → IsSame p b a
same_sym p a b x = record { more = x.less; less = x.more; even = sym x.even }

pub same_add : (p : ℕ) (a b c d : ℤ) → IsSame p a b → IsSame p c d → IsSame p (a +ℤ c) (b +ℤ d)
same_add p a b c d x y = record {
  more = x.more + y.more;
  less = x.less + y.less;
  even = let e = x.even in
      let f = y.even in omega (arith, ints);
}

pub same_neg : (p : ℕ) (a b : ℤ) → IsSame p a b → IsSame p (neg_ℤ a) (neg_ℤ b)
same_neg p a b x = record { more = x.less; less = x.more; even = let e = x.even in omega (arith, ints) }

pub same_is : (p : ℕ) (a b : ℤ) → a ≡ b → IsSame p a b
same_is p a b e = record { more = 0; less = 0; even = omega (arith, ints) }

pub same_sub : (p : ℕ) (a b c d : ℤ) → IsSame p a b → IsSame p c d → IsSame p (a -ℤ c) (b -ℤ d)
same_sub p a b c d x y = record {
  more = x.more + y.less;
  less = x.less + y.more;
  even = let e = x.even in
      let f = y.even in omega (arith, ints);
}

-- a number is the same as its remainder
rem_from : (p : ℕ) (a : ℤ) → 0 < p → IsSame p a (pos (remainder p a))
rem_from p (pos a) h = record { more = 0; less = a / p; even = omega (arith, ints) }
rem_from p (negsuc a) h = record { more = suc (a / p); less = 0; even = omega (arith, ints) }

pub rem_same : (p : ℕ) (a : ℤ) → 0 < p → IsSame p (int_rem_euclid a (pos p)) a
rem_same p (pos a) h = same_sym p (pos a) (pos (remainder p (pos a))) (rem_from p (pos a) h)
rem_same p (negsuc a) h = same_sym p (negsuc a) (pos (remainder p (negsuc a))) (rem_from p (negsuc a) h)

mod_small : (p y l : ℕ) → 0 < p → y < p → (y + p * l) % p ≡ y
mod_small p y l h k = grind arith

pub same_rem : (p y : ℕ) (a : ℤ) → y < p → IsSame p a (pos y) → int_rem_euclid a (pos p) ≡ pos y
same_rem p y a h s =
    let e = s.even in
    int_rem_euclid_is a (pos p) p s.more (y + p * s.less) (omega arith) refl (omega (arith, ints))
    ∙ ap pos (mod_small p y s.less (omega arith) h)

-- numbers that are the same have one remainder
pub remainder_is : (p y : ℕ) (a : ℤ) → y < p → IsSame p a (pos y) → remainder p a ≡ y
remainder_is p y a h s = ap unsigned_abs (same_rem p y a h s)

pub same_remainders : (p : ℕ) (a b : ℤ) → 0 < p → IsSame p a b → remainder p a ≡ remainder p b
same_remainders p a b h s = remainder_is p (remainder p b) a (remainder-lt b p h)
    (same_trans p a b (pos (remainder p b)) s (rem_from p b h))

pub none_left : (p : ℕ) (a b : ℤ) → 0 < p → remainder p (a -ℤ b) ≡ 0 → IsSame p a b
none_left p a b h e =
    let r = rem_from p (a -ℤ b) h in let f = r.even in
    record { more = r.more; less = r.less; even = omega (arith, ints) }

pub none_left_of : (p : ℕ) (a b : ℤ) → 0 < p → IsSame p a b → remainder p (a -ℤ b) ≡ 0
none_left_of p a b h s = remainder_is p 0 (a -ℤ b) h (record { more = s.more; less = s.less; even = let e = s.even in omega (arith, ints) })
