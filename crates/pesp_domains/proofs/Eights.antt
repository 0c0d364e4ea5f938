-- Eight words at a time.
use Rattle.std.proofs.Common.{◌≡◌, ℕ, ◌+◌, ◌-◌, ◌*◌, ◌/◌, ◌%◌, ◌^◌, ◌<◌, ◌≤◌, ◌⊎◌, List, length, get_or, ap, arith, sym, ◌∙◌, inl, inr}
use Rattle.std.specs.Prelude.{bit_or, replicate, max}
use Rattle.std.specs.Simd.Lanes.{chunk, zip2, put_chunk}
use Rattle.std.proofs.lemmas.Simd.{get_or-zip2, get_or-chunk, get_or-put_chunk_at, get_or-put_chunk_below, get_or-put_chunk_above, length-zip2, length-chunk, length-replicate, get_or-replicate}
use Rattle.std.proofs.lemmas.Nat.{mul-mod_first, pow-add}
use Rattle.std.proofs.Math.Nat.{mul_assoc}
use Rattle.std.specs.Int.{bit_at}
use Rattle.std.proofs.lemmas.Nat.Bits.{bit_at_or}
use Rattle.pesp_domains.specs.Bits.{ahead, bit, IsJoinedEight}
use Rattle.pesp_domains.proofs.Words.{bit-ahead, Joins}

abbrev pub or_l : List ℕ → List ℕ → List ℕ
or_l = zip2 (λ (x y : ℕ). bit_or x y)

abbrev pub shr_l : List ℕ → List ℕ → List ℕ
shr_l = zip2 (λ (x y : ℕ). x / 2 ^ y)

abbrev pub shl_l : List ℕ → List ℕ → List ℕ
shl_l = zip2 (λ (x y : ℕ). x * 2 ^ y % 2 ^ 64)

-- a list of eight, and what stands at each place
record IsEight (xs : List ℕ) (f : ℕ → ℕ) : Type 0 where
  long : length xs ≡ 8
  at : (i : ℕ) → i < 8 → get_or xs i 0 ≡ f i

eight_chunk : (xs : List ℕ) (k : ℕ) → k + 8 ≤ length xs → IsEight (chunk k 8 xs) (λ i. get_or xs (k + i) 0)
eight_chunk xs k h = record { long = length-chunk k 8 xs h; at = λ i l. get_or-chunk k 8 xs i 0 l }

eight_splat : (n : ℕ) → IsEight (replicate 8 n) (λ _. n)
eight_splat n = record { long = length-replicate 8 n; at = λ i l. get_or-replicate 8 i n 0 l }

eight_zip : (op : ℕ → ℕ → ℕ) (xs ys : List ℕ) (f g : ℕ → ℕ) → IsEight xs f → IsEight ys g → IsEight (zip2 op xs ys) (λ i. op (f i) (g i))
eight_zip op xs ys f g hx hy =
    let lx : length xs ≡ 8 = hx.long in
    let ly : length ys ≡ 8 = hy.long in
    record {
      long = length-zip2 op xs ys (omega arith) ∙ lx;
      at = λ i l. get_or-zip2 op xs ys i 0 0 0 (omega arith) (omega arith)
          ∙ (ap (λ (m : ℕ). op m (get_or ys i 0)) (hx.at i l) ∙ ap (λ (m : ℕ). op (f i) m) (hy.at i l));
    }

shl_twice : (h r : ℕ) → r < 64 → h * 2 ^ (63 - r) % 2 ^ 64 * 2 ^ 1 % 2 ^ 64 ≡ h * 2 ^ (64 - r) % 2 ^ 64
shl_twice h r l =
    let e : 64 - r ≡ 63 - r + 1 = omega arith in
    let p : 2 ^ (64 - r) ≡ 2 ^ (63 - r) * 2 ^ 1 = ap (λ (n : ℕ). 2 ^ n) e ∙ pow-add 2 (63 - r) 1 in
    mul-mod_first (h * 2 ^ (63 - r)) (2 ^ 1) (2 ^ 64)
    ∙ ap (λ (n : ℕ). n % 2 ^ 64) (mul_assoc h (2 ^ (63 - r)) (2 ^ 1) ∙ ap (λ (n : ℕ). h * n) (sym p))

one_word : (xs : List ℕ) (k by i : ℕ) → bit_or (get_or xs (k + by / 64 + i) 0 / 2 ^ (by % 64))
    (get_or xs (k + by / 64 + 1 + i) 0 * 2 ^ (63 - by % 64) % 2 ^ 64 * 2 ^ 1 % 2 ^ 64)
    ≡ ahead xs (64 * (k + i) + by)
one_word xs k by i =
    let q : (64 * (k + i) + by) / 64 ≡ k + by / 64 + i = omega arith in
    let q1 : (64 * (k + i) + by) / 64 + 1 ≡ k + by / 64 + 1 + i = omega arith in
    let r : (64 * (k + i) + by) % 64 ≡ by % 64 = omega arith in
    let b : by % 64 < 64 = omega arith in
    let s : get_or xs (k + by / 64 + 1 + i) 0 * 2 ^ (63 - by % 64) % 2 ^ 64 * 2 ^ 1 % 2 ^ 64
    ≡ get_or xs (k + by / 64 + 1 + i) 0 * 2 ^ (64 - by % 64) % 2 ^ 64 = shl_twice _ (by % 64) b in
    ap (λ (m : ℕ). bit_or (get_or xs (k + by / 64 + i) 0 / 2 ^ (by % 64)) m) s
    ∙ (places (k + by / 64 + i) _ (k + by / 64 + 1 + i) _ (by % 64) _ (sym q) (sym q1) (sym r))
  where
    places : (a b c d e f : ℕ) → a ≡ b → c ≡ d → e ≡ f
        → bit_or (get_or xs a 0 / 2 ^ e) (get_or xs c 0 * 2 ^ (64 - e) % 2 ^ 64)
        ≡ bit_or (get_or xs b 0 / 2 ^ f) (get_or xs d 0 * 2 ^ (64 - f) % 2 ^ 64)
    places a b c d e f p q r = cc

pub joined_eight : (xs : List ℕ) (k by : ℕ) → ((m : ℕ) → get_or xs m 0 < 2 ^ 64) → k + by / 64 + 9 ≤ length xs
    → IsJoinedEight xs (or_l (chunk k 8 xs) (or_l (shr_l (chunk (k + by / 64) 8 xs) (replicate 8 (by % 64)))
    (shl_l (shl_l (chunk (k + by / 64 + 1) 8 xs) (replicate 8 (63 - by % 64))) (replicate 8 1)))) k by
joined_eight xs k by fits h =
    let ys : List ℕ = or_l (chunk k 8 xs) (or_l (shr_l (chunk (k + by / 64) 8 xs) (replicate 8 (by % 64)))
    (shl_l (shl_l (chunk (k + by / 64 + 1) 8 xs) (replicate 8 (63 - by % 64))) (replicate 8 1))) in
    let e : IsEight ys (λ i. bit_or (get_or xs (k + i) 0)
    (bit_or (get_or xs (k + by / 64 + i) 0 / 2 ^ (by % 64))
    (get_or xs (k + by / 64 + 1 + i) 0 * 2 ^ (63 - by % 64) % 2 ^ 64 * 2 ^ 1 % 2 ^ 64))) =
    eight_zip (λ (x y : ℕ). bit_or x y) _ _ _ _ (eight_chunk xs k (omega arith))
    (eight_zip (λ (x y : ℕ). bit_or x y) _ _ _ _
    (eight_zip (λ (x y : ℕ). x / 2 ^ y) _ _ _ _ (eight_chunk xs (k + by / 64) (omega arith)) (eight_splat (by % 64)))
    (eight_zip (λ (x y : ℕ). x * 2 ^ y % 2 ^ 64) _ _ _ _
    (eight_zip (λ (x y : ℕ). x * 2 ^ y % 2 ^ 64) _ _ _ _ (eight_chunk xs (k + by / 64 + 1) (omega arith))
    (eight_splat (63 - by % 64))) (eight_splat 1))) in
    record {
      long = e.long;
      bits = λ i j l m. ap (λ (n : ℕ). bit_at n j)
          (e.at i l ∙ ap (λ (m : ℕ). bit_or (get_or xs (k + i) 0) m) (one_word xs k by i))
          ∙ (bit_at_or (get_or xs (k + i) 0) (ahead xs (64 * (k + i) + by)) j
          ∙ ap (λ (n : ℕ). max (bit_at (get_or xs (k + i) 0) j) n) (bit-ahead xs (64 * (k + i) + by) j fits m));
    }

-- eight words more were joined
pub joins_eight : (first old joined : List ℕ) (k by : ℕ) → k + 8 ≤ length old → IsJoinedEight old joined k by
    → Joins first old k by → Joins first (put_chunk k old joined) (k + 8) by
joins_eight first old joined k by room e h =
    let long : length joined ≡ 8 = e.long in
    record {
      done = λ d b.
          elim (split (d / 64) k) [
            | inl m ↦ ap (λ (n : ℕ). bit_at n (d % 64)) (get_or-put_chunk_below k old joined (d / 64) 0 m) ∙ h.done d m
            | inr m ↦
                let i : ℕ = d / 64 - k in
                let at : d / 64 ≡ k + (d / 64 - k) = omega arith in
                let here : get_or (put_chunk k old joined) (d / 64) 0
                ≡ get_or joined (d / 64 - k) 0 = ap (λ (n : ℕ). get_or (put_chunk k old joined) n 0) at
                ∙ get_or-put_chunk_at k old joined (d / 64 - k) 0 (omega arith) (omega arith) in
                let low : get_or old (k + (d / 64 - k)) 0
                ≡ get_or first (d / 64) 0 = h.left (k + (d / 64 - k)) (omega arith)
                ∙ ap (λ (n : ℕ). get_or first n 0) (sym at) in
                let place : 64 * (k + (d / 64 - k)) + by + d % 64 ≡ d + by = omega arith in
                let far : get_or old ((64 * (k + (d / 64 - k)) + by + d % 64) / 64) 0
                ≡ get_or first ((64 * (k + (d / 64 - k)) + by + d % 64) / 64) 0 = h.left _ (omega arith) in
                let high : bit old (64 * (k + (d / 64 - k)) + by + d % 64)
                ≡ bit first (d + by) = ap (λ (n : ℕ). bit_at n ((64 * (k + (d / 64 - k)) + by + d % 64) % 64))
                far ∙ ap (λ (n : ℕ). bit first n) place in
                ap (λ (n : ℕ). bit_at n (d % 64)) here
                ∙ (e.bits (d / 64 - k) (d % 64) (omega arith) (omega arith)
                ∙ (ap (λ (n : ℕ). max (bit_at n (d % 64)) (bit old (64 * (k + (d / 64 - k)) + by + d % 64)))
                low ∙ ap (λ (n : ℕ). max (bit first d) n) high))
          ];
      left = λ m l. get_or-put_chunk_above k old joined m 0 (omega arith) ∙ h.left m (omega arith);
    }
  where
    split : (n k : ℕ) → (n < k) ⊎ (k ≤ n)
    split n k = grind arith
