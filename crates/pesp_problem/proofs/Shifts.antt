-- Shifts round the period, and the remainders of an arc.
use Rattle.std.proofs.Common.{◌≡◌, ℕ, zero, suc, ◌+◌, ◌-◌, ◌*◌, ◌/◌, ◌%◌, ◌<◌, ◌≤◌, ◌⊎◌, ap, arith, sym, ◌∙◌, inl, inr}
use Rattle.std.specs.Prelude.{ℤ, pos, negsuc, ◌+ℤ◌, ◌-ℤ◌, ◌*ℤ◌, unsigned_abs, min}
use Rattle.std.specs.Int.{int_rem_euclid, int_div_euclid}
use Rattle.std.proofs.lemmas.Int.{ints}
use Rattle.std.proofs.Math.Nat.{add-mul-mod_self_left, mod-eq_of_lt, mul-le-mul_left}
use Rattle.pesp_problem.specs.declared.arc.Arc.{Arc}
use Rattle.pesp_problem.specs.Families.{remainder_of}
use Rattle.pesp_problem.proofs.Integers.{mul-add, quotient-remainder, remainder-lt}

pub mod_more : (d t : ℕ) → (d + t) % t ≡ d % t
mod_more d t = let e : d + t * 1 ≡ d + t = omega arith in ap (λ (m : ℕ). m % t) (sym e) ∙ add-mul-mod_self_left d t 1

pub mod_same : (x y t : ℕ) → x ≡ y → x % t ≡ y % t
mod_same x y t e = ap (λ (m : ℕ). m % t) e

-- a remainder within a sum
pub mod_inner : (x y t : ℕ) → 0 < t → (x + y % t) % t ≡ (x + y) % t
mod_inner x y t p =
    let e : x + y % t + t * (y / t) ≡ x + y = omega arith in
    sym (add-mul-mod_self_left (x + y % t) t (y / t)) ∙ mod_same _ _ t e

shape : (t a b l r : ℕ) (z : ℤ) → 0 < t → a < t → b < t → l < t → r < t
    → ((pos b -ℤ pos a) -ℤ pos l) -ℤ pos r ≡ pos t *ℤ z → b ≡ (a + (l + r)) % t
shape t a b l r (pos zero) p la lb ll lr e =
    let s : a + (l + r) ≡ b = omega (arith, ints) in
    sym (mod_same _ _ t s ∙ mod-eq_of_lt lb)
shape t a b l r (pos (suc n)) p la lb ll lr e = absurd (omega (arith, ints))
shape t a b l r (negsuc zero) p la lb ll lr e =
    let s : a + (l + r) ≡ b + t = omega (arith, ints) in
    sym (mod_same _ _ t s ∙ (mod_more b t ∙ mod-eq_of_lt lb))
shape t a b l r (negsuc (suc zero)) p la lb ll lr e =
    let s : a + (l + r) ≡ b + t + t = omega (arith, ints) in
    sym (mod_same _ _ t s ∙ (mod_more (b + t) t ∙ (mod_more b t ∙ mod-eq_of_lt lb)))
shape t a b l r (negsuc (suc (suc n))) p la lb ll lr e = absurd (omega (arith, ints))

-- a lower bound and its shift
pub shift_lt : (t l : ℕ) (low : ℤ) → 0 < t → pos l ≡ int_rem_euclid low (pos t) → l < t
shift_lt t l low p e = let q : l ≡ unsigned_abs (int_rem_euclid low (pos t)) = ap unsigned_abs e in omega (arith, remainder-lt low t p)

pub remainder_lt : (t : ℕ) (arc : Arc) (a b : ℕ) → 0 < t → remainder_of t arc a b < t
remainder_lt t arc a b p = remainder-lt ((pos b -ℤ pos a) -ℤ arc.lower) t p

pub leads : (t l : ℕ) (arc : Arc) (a b : ℕ) → 0 < t → pos l ≡ int_rem_euclid arc.lower (pos t) → a < t → b < t
    → b ≡ (a + (l + remainder_of t arc a b)) % t
leads t l arc a b p e la lb =
    let q = int_div_euclid arc.lower (pos t) in
    let z : ℤ = (pos b -ℤ pos a) -ℤ arc.lower in
    let s = int_div_euclid z (pos t) in
    let u : l ≡ unsigned_abs (int_rem_euclid arc.lower (pos t)) = ap unsigned_abs e in
    let f : arc.lower ≡ pos t *ℤ q +ℤ pos l = quotient-remainder arc.lower t p ∙ ap (λ (m : ℕ). pos t *ℤ q +ℤ pos m) (sym u) in
    let g : z ≡ pos t *ℤ s +ℤ pos (remainder_of t arc a b) = quotient-remainder z t p in
    shape t a b l (remainder_of t arc a b) (q +ℤ s) p la lb (shift_lt t l arc.lower p e) (remainder_lt t arc a b p)
    (sums (pos t *ℤ q) (pos t *ℤ s) (pos t *ℤ (q +ℤ s)) arc.lower (pos b) (pos a) (pos l)
    (pos (remainder_of t arc a b)) f g (mul-add (pos t) q s))
  where
    sums : (x y xy low b a l r : ℤ) → low ≡ x +ℤ l → (b -ℤ a) -ℤ low ≡ y +ℤ r → xy ≡ x +ℤ y → ((b -ℤ a) -ℤ l) -ℤ r ≡ xy
    sums x y xy low b a l r f g h = omega (arith, ints)

-- two shifts below the period that lead to one place are one
pub cancel : (x r s t : ℕ) → 0 < t → r < t → s < t → (x + r) % t ≡ (x + s) % t → r ≡ s
cancel x r s t p lr ls e =
    elim (order ((x + r) / t) ((x + s) / t)) [
      | inl h ↦ let m : t * ((x + r) / t + 1) ≤ t * ((x + s) / t) = mul-le-mul_left t h in absurd (omega arith)
      | inr k ↦
          elim k [
            | inl h ↦ let m : t * ((x + s) / t + 1) ≤ t * ((x + r) / t) = mul-le-mul_left t h in absurd (omega arith)
            | inr h ↦ let m : t * ((x + s) / t) ≡ t * ((x + r) / t) = ap (λ (n : ℕ). t * n) (sym h) in omega arith
          ]
    ]
  where
    order : (a b : ℕ) → (a + 1 ≤ b) ⊎ ((b + 1 ≤ a) ⊎ (a ≡ b))
    order a b = grind arith

pub remainder_is : (t l : ℕ) (arc : Arc) (a b r : ℕ) → 0 < t → pos l ≡ int_rem_euclid arc.lower (pos t) → a < t
    → b < t → r < t → b ≡ (a + (l + r)) % t → remainder_of t arc a b ≡ r
remainder_is t l arc a b r p e la lb lr h =
    let x : a + (l + remainder_of t arc a b) ≡ a + l + remainder_of t arc a b = omega arith in
    let y : a + (l + r) ≡ a + l + r = omega arith in
    cancel (a + l) (remainder_of t arc a b) r t p (remainder_lt t arc a b p) lr
    (mod_same _ _ t (sym x) ∙ (sym (leads t l arc a b p e la lb) ∙ (h ∙ mod_same _ _ t y)))

-- the shifts of an interval lead from each difference at the tail to its partners at the head, and those of another back
pub record LeadBoth (t : ℕ) (arc : Arc) (low high ahead back count : ℕ) : Type 0 where
  pub out : (a j : ℕ) → a < t → j < count → (low ≤ remainder_of t arc a ((a + (ahead + j)) % t))
      × (remainder_of t arc a ((a + (ahead + j)) % t) ≤ high)
  pub out_back : (b j : ℕ) → b < t → j < count
      → (low ≤ remainder_of t arc ((b + (back + j)) % t) b) × (remainder_of t arc ((b + (back + j)) % t) b ≤ high)
  pub into : (a b : ℕ) → a < t → b < t → low ≤ remainder_of t arc a b → remainder_of t arc a b ≤ high
      → (j : ℕ) × (j < count) × ((a + (ahead + j)) % t ≡ b)
  pub into_back : (a b : ℕ) → a < t → b < t → low ≤ remainder_of t arc a b → remainder_of t arc a b ≤ high
      → (j : ℕ) × (j < count) × ((b + (back + j)) % t ≡ a)

pub lead_both : (t l : ℕ) (arc : Arc) (low high : ℕ) → 0 < t → pos l ≡ int_rem_euclid arc.lower (pos t)
    → LeadBoth t arc low high ((l + low) % t) ((2 * t - l - min high (t - 1)) % t) (min high (t - 1) + 1 - low)
lead_both t l arc low high p e = let m : ℕ = min high (t - 1) in let ml : m < t = omega arith in
    let ll : l < t = shift_lt t l arc.lower p e in record {
      out = λ a j la lj.
          let q : a + (l + low + j) ≡ a + (l + (low + j)) = omega arith in
          let w : (a + ((l + low) % t + j)) % t ≡ (a + (l + (low + j))) % t = moved a (l + low) j ∙ mod_same _ _ t q in
          let r : remainder_of t arc a ((a + ((l + low) % t + j)) % t)
          ≡ low + j = remainder_is t l arc a _ (low + j) p e la (mod_below _) (omega arith) w in
          (omega arith, omega arith);
      out_back = λ b j lb lj.
          let a : ℕ = (b + ((2 * t - l - m) % t + j)) % t in
          let w : a ≡ (b + (2 * t - l - m + j)) % t = moved b (2 * t - l - m) j in
          let v : (a + (l + (m - j))) % t ≡ b =
          mod_same _ _ t (swap a (l + (m - j))) ∙ (ap (λ (n : ℕ). (l + (m - j) + n) % t) w
          ∙ (mod_inner (l + (m - j)) (b + (2 * t - l - m + j)) t p
          ∙ (mod_same (l + (m - j) + (b + (2 * t - l - m + j))) (b + t + t) t (omega arith)
          ∙ (mod_more (b + t) t ∙ (mod_more b t ∙ mod-eq_of_lt lb))))) in
          let r : remainder_of t arc a b ≡ m - j = remainder_is t l arc a b (m - j) p e (mod_below _) lb (omega arith) (sym v) in
          (omega arith, omega arith);
      into = λ a b la lb lo hi.
          let rl : remainder_of t arc a b < t = remainder_lt t arc a b p in
          let q : a + (l + low + (remainder_of t arc a b - low)) ≡ a + (l + remainder_of t arc a b) = omega arith in (
            remainder_of t arc a b - low,
            omega arith,
            moved a (l + low) (remainder_of t arc a b - low)
                ∙ (mod_same _ _ t q ∙ sym (leads t l arc a b p e la lb)),
          );
      into_back = λ a b la lb lo hi.
          let rl : remainder_of t arc a b < t = remainder_lt t arc a b p in
          let n : ℕ = remainder_of t arc a b in
          let k : ℕ = 2 * t - l - m + (m - n) in
          let w : b ≡ (a + (l + n)) % t = leads t l arc a b p e la lb in (
            m - n,
            omega arith,
            moved b (2 * t - l - m) (m - n)
                ∙ (mod_same _ _ t (swap b k) ∙ (ap (λ (x : ℕ). (k + x) % t) w
                ∙ (mod_inner k (a + (l + n)) t p ∙ (mod_same (k + (a + (l + n))) (a + t + t) t (omega arith)
                ∙ (mod_more (a + t) t ∙ (mod_more a t ∙ mod-eq_of_lt la)))))),
          );
    }
  where
    swap : (a b : ℕ) → a + b ≡ b + a
    swap a b = omega arith

    mod_below : (n : ℕ) → n % t < t
    mod_below n = omega arith

    moved : (a x j : ℕ) → (a + (x % t + j)) % t ≡ (a + (x + j)) % t
    moved a x j =
        let u : a + (x % t + j) ≡ a + j + x % t = omega arith in
        let v : a + j + x ≡ a + (x + j) = omega arith in
        mod_same _ _ t u ∙ (mod_inner (a + j) x t p ∙ mod_same _ _ t v)

-- at a loop the remainder is one for all
pub loop_remainder : (t l : ℕ) (arc : Arc) (d : ℕ) → 0 < t → pos l ≡ int_rem_euclid arc.lower (pos t) → d < t
    → remainder_of t arc d d ≡ (t - l) % t
loop_remainder t l arc d p e ld =
    let ll : l < t = shift_lt t l arc.lower p e in
    let r : d + (l + (t - l) % t) ≡ d + l + (t - l) % t = omega arith in
    let s : d + l + (t - l) ≡ d + t = omega arith in
    remainder_is t l arc d d ((t - l) % t) p e ld ld (omega arith)
    (sym (mod_same _ _ t r ∙ (mod_inner (d + l) (t - l) t p
    ∙ (mod_same _ _ t s ∙ (mod_more d t ∙ mod-eq_of_lt ld)))))
