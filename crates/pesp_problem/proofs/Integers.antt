-- Laws of the whole numbers, their order, divisions and sums. A whole number z is read as up z less down z, as `ints` does.
use Rattle.std.proofs.Common.{◌≡◌, ℕ, zero, suc, ◌+◌, ◌*◌, ◌<◌, ◌⊎◌, ◌≢◌, refl, add-one, ap, arith, sym, ◌∙◌, inl, inr}
use Rattle.std.specs.Prelude.{ℤ, pos, negsuc, ◌+ℤ◌, ◌-ℤ◌, ◌*ℤ◌, neg_ℤ, ◌≤ℤ◌, unsigned_abs}
use Rattle.std.specs.Int.{int_min, int_max, int_rem_euclid, int_div_euclid}
use Rattle.std.proofs.lemmas.Int.{ints, clamps, by_lt_z}
use Rattle.std.proofs.Math.Nat.{mul-le-mul_left}
use borrow.Author.Differences.{up, down, sum_is_lem, product_is, le_out, neg_is}
use Rattle.pesp_problem.specs.Sums.{sum_below, floor_div, ceil_div, scaled}

-- ---- products

pub mul_comm : (a b : ℤ) → a *ℤ b ≡ b *ℤ a
mul_comm a b = omega (arith, ints)

pub mul-add : (a b c : ℤ) → a *ℤ (b +ℤ c) ≡ a *ℤ b +ℤ a *ℤ c
mul-add a b c = omega (arith, ints, ap (λ (n : ℕ). up a * n) (sum_is_lem b c), ap (λ (n : ℕ). down a * n) (sum_is_lem b c))

pub mul-neg : (a b : ℤ) → a *ℤ neg_ℤ b ≡ neg_ℤ (a *ℤ b)
mul-neg a b = omega (
  arith,
  ints,
  ap (λ (n : ℕ). up a * n) ((neg_is b).0),
  ap (λ (n : ℕ). down a * n) ((neg_is b).0),
  ap (λ (n : ℕ). up a * n) ((neg_is b).1),
  ap (λ (n : ℕ). down a * n) ((neg_is b).1),
)

pub mul-sub : (a b c : ℤ) → a *ℤ (b -ℤ c) ≡ a *ℤ b -ℤ a *ℤ c
mul-sub a b c = omega (arith, ints, mul-add a b (neg_ℤ c), mul-neg a c)

pub add-mul : (a b c : ℤ) → (a +ℤ b) *ℤ c ≡ a *ℤ c +ℤ b *ℤ c
add-mul a b c = omega (arith, ints, mul_comm (a +ℤ b) c, mul-add c a b, mul_comm a c, mul_comm b c)

pub sub-mul : (a b c : ℤ) → (a -ℤ b) *ℤ c ≡ a *ℤ c -ℤ b *ℤ c
sub-mul a b c = omega (arith, ints, mul_comm (a -ℤ b) c, mul-sub c a b, mul_comm a c, mul_comm b c)

pub mul_assoc : (a b c : ℤ) → (a *ℤ b) *ℤ c ≡ a *ℤ (b *ℤ c)
mul_assoc a b c =
    omega (
      arith,
      ints,
      ap (λ (n : ℕ). n * up c) ((product_is a b).0),
      ap (λ (n : ℕ). n * down c) ((product_is a b).0),
      ap (λ (n : ℕ). n * up c) ((product_is a b).1),
      ap (λ (n : ℕ). n * down c) ((product_is a b).1),
      ap (λ (n : ℕ). up a * n) ((product_is b c).0),
      ap (λ (n : ℕ). down a * n) ((product_is b c).0),
      ap (λ (n : ℕ). up a * n) ((product_is b c).1),
      ap (λ (n : ℕ). down a * n) ((product_is b c).1),
    )

pub swap_left : (a b c : ℤ) → a *ℤ (b *ℤ c) ≡ b *ℤ (a *ℤ c)
swap_left a b c = sym (mul_assoc a b c) ∙ ap (λ z. z *ℤ c) (mul_comm a b) ∙ mul_assoc b a c

pub cong_add : {a b c d : ℤ} → a ≡ b → c ≡ d → a +ℤ c ≡ b +ℤ d
cong_add h k = cc

pub zero-mul : (a : ℤ) → pos 0 *ℤ a ≡ pos 0
zero-mul a = omega (arith, ints)

-- ---- products and order

pub mul-le : (n : ℕ) (a b : ℤ) → a ≤ℤ b → (pos n *ℤ a) ≤ℤ (pos n *ℤ b)
mul-le n a b h = omega (arith, ints, mul-le-mul_left n (le_out a b h))

pub mul-le_negative : (n : ℕ) (a b : ℤ) → a ≤ℤ b → (negsuc n *ℤ b) ≤ℤ (negsuc n *ℤ a)
mul-le_negative n a b h = omega (arith, ints, mul-le-mul_left (suc n) (le_out a b h))

pub scaled-le : (c low high x : ℤ) → low ≤ℤ x → x ≤ℤ high → scaled c low high ≤ℤ (c *ℤ x)
scaled-le (pos n) low high x h k = mul-le n low x h
scaled-le (negsuc n) low high x h k = mul-le_negative n x high k

pub le-scaled : (c low high x : ℤ) → low ≤ℤ x → x ≤ℤ high → (c *ℤ x) ≤ℤ scaled c high low
le-scaled (pos n) low high x h k = mul-le n x high k
le-scaled (negsuc n) low high x h k = mul-le_negative n low x h

pub min-le_left : (a b : ℤ) → int_min a b ≤ℤ a
min-le_left a b = omega (arith, ints, clamps)

pub min-le_right : (a b : ℤ) → int_min a b ≤ℤ b
min-le_right a b = omega (arith, ints, clamps)

pub le-min : (a b c : ℤ) → c ≤ℤ a → c ≤ℤ b → c ≤ℤ int_min a b
le-min a b c h k = omega (arith, ints, clamps)

pub max-le : (a b c : ℤ) → a ≤ℤ c → b ≤ℤ c → int_max a b ≤ℤ c
max-le a b c h k = omega (arith, ints, clamps)

pub le_trans : (a b c : ℤ) → a ≤ℤ b → b ≤ℤ c → a ≤ℤ c
le_trans a b c h k = omega (arith, ints)

pub min_scaled-le : (c low high x : ℤ) → low ≤ℤ x → x ≤ℤ high → int_min (c *ℤ low) (c *ℤ high) ≤ℤ (c *ℤ x)
min_scaled-le (pos n) low high x h k = le_trans _ _ _ (min-le_left _ _) (mul-le n low x h)
min_scaled-le (negsuc n) low high x h k = le_trans _ _ _ (min-le_right _ _) (mul-le_negative n x high k)

pub le-cases : (a b : ℤ) → (a ≤ℤ b) ⊎ ((b +ℤ pos 1) ≤ℤ a)
le-cases a b = by_lt_z b a (λ h. inr (omega (arith, ints))) (λ h. inl h)

-- ---- division by a positive number

pub quotient-remainder : (z : ℤ) (n : ℕ) → 0 < n → z ≡ pos n *ℤ int_div_euclid z (pos n) +ℤ pos (unsigned_abs (int_rem_euclid z (pos n)))
quotient-remainder (pos a) n h = omega (arith, ints)
quotient-remainder (negsuc a) n h = omega (arith, ints)

pub remainder-lt : (z : ℤ) (n : ℕ) → 0 < n → unsigned_abs (int_rem_euclid z (pos n)) < n
remainder-lt (pos a) n h = omega arith
remainder-lt (negsuc a) n h = omega arith

pub floor_div-le : (z : ℤ) (n : ℕ) → 0 < n → (pos n *ℤ floor_div z n) ≤ℤ z
floor_div-le z n h = omega (arith, ints, quotient-remainder z n h)

pub le-floor_div : (z : ℤ) (n : ℕ) (x : ℤ) → 0 < n → (pos n *ℤ x) ≤ℤ z → x ≤ℤ floor_div z n
le-floor_div z n x h k =
    elim (le-cases x (floor_div z n)) [
      | inl m ↦ m
      | inr m ↦ absurd (omega (
        arith,
        ints,
        quotient-remainder z n h,
        remainder-lt z n h,
        mul-le n (floor_div z n +ℤ pos 1) x m,
        mul-add (pos n) (floor_div z n) (pos 1),
      ))
    ]

pub ceil_div-le : (z : ℤ) (n : ℕ) (x : ℤ) → 0 < n → z ≤ℤ (pos n *ℤ x) → ceil_div z n ≤ℤ x
ceil_div-le z n x h k =
    let less : (pos n *ℤ neg_ℤ x) ≤ℤ neg_ℤ z = omega (arith, ints, mul-neg (pos n) x) in
    let below : neg_ℤ x ≤ℤ floor_div (neg_ℤ z) n = le-floor_div (neg_ℤ z) n (neg_ℤ x) h less in
    omega (arith, ints)

pub le-ceil_div : (z : ℤ) (n : ℕ) → 0 < n → z ≤ℤ (pos n *ℤ ceil_div z n)
le-ceil_div z n h = omega (arith, ints, floor_div-le (neg_ℤ z) n h, mul-neg (pos n) (floor_div (neg_ℤ z) n))

-- ---- sums

pub sum_below-same : (n : ℕ) (f g : ℕ → ℤ) → ((i : ℕ) → i < n → f i ≡ g i) → sum_below n f ≡ sum_below n g
sum_below-same zero f g h = refl
sum_below-same (suc n) f g h = cong_add (sum_below-same n f g (λ i l. h i (omega arith))) (h n (omega arith))

pub sum_below-le : (n : ℕ) (f g : ℕ → ℤ) → ((i : ℕ) → i < n → f i ≤ℤ g i) → sum_below n f ≤ℤ sum_below n g
sum_below-le zero f g h = omega (arith, ints)
sum_below-le (suc n) f g h = omega (arith, ints, sum_below-le n f g (λ i l. h i (omega arith)), h n (omega arith))

pub sum_below-add : (n : ℕ) (f g : ℕ → ℤ) → sum_below n (λ i. f i +ℤ g i) ≡ sum_below n f +ℤ sum_below n g
sum_below-add zero f g = refl
sum_below-add (suc n) f g = omega (arith, ints, sum_below-add n f g)

pub sum_below-sub : (n : ℕ) (f g : ℕ → ℤ) → sum_below n (λ i. f i -ℤ g i) ≡ sum_below n f -ℤ sum_below n g
sum_below-sub zero f g = refl
sum_below-sub (suc n) f g = omega (arith, ints, sum_below-sub n f g)

pub sum_below-mul : (c : ℤ) (n : ℕ) (f : ℕ → ℤ) → sum_below n (λ i. c *ℤ f i) ≡ c *ℤ sum_below n f
sum_below-mul c zero f = omega (arith, ints)
sum_below-mul c (suc n) f = omega (arith, ints, sum_below-mul c n f, mul-add c (sum_below n f) (f n))

pub sum_below-zero : (n : ℕ) (f : ℕ → ℤ) → ((i : ℕ) → i < n → f i ≡ pos 0) → sum_below n f ≡ pos 0
sum_below-zero zero f h = refl
sum_below-zero (suc n) f h = omega (arith, ints, sum_below-zero n f (λ i l. h i (omega arith)), h n (omega arith))

pub lt-or-same : (k n : ℕ) → k < n + 1 → (k < n) ⊎ (k ≡ n)
lt-or-same k n h = grind arith

-- a sum so far and the next term
pub sum_below-more : (f : ℕ → ℤ) (k : ℕ) (sum here next : ℤ) → sum ≡ sum_below k f → here ≡ f k → next ≡ sum +ℤ here → next ≡ sum_below (k + 1) f
sum_below-more f k sum here next h e g = g ∙ cong_add h e ∙ sym (ap (λ (j : ℕ). sum_below j f) (add-one k))

-- only one term is not 0
pub sum_below-single : (n k : ℕ) (f : ℕ → ℤ) → k < n → ((i : ℕ) → i < n → i ≢ k → f i ≡ pos 0) → sum_below n f ≡ f k
sum_below-single zero k f l h = absurd (omega arith)
sum_below-single (suc n) k f l h =
    elim (lt-or-same k n (omega arith)) [
      | inl m ↦
          let rest : sum_below n f ≡ f k = sum_below-single n k f m (λ i b ne. h i (omega arith) ne) in
          let last : f n ≡ pos 0 = h n (omega arith) (λ e. omega arith) in
          omega (arith, ints)
      | inr e ↦
          let rest : sum_below n f ≡ pos 0 = sum_below-zero n f (λ i b. h i (omega arith) (λ e'. omega arith)) in
          let here : f n ≡ f k = ap f (sym e) in
          omega (arith, ints)
    ]
