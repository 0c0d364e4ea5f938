-- One set of a family is narrowed, in the words of all.
use Rattle.std.proofs.Common.{◌≡◌, ℕ, ◌+◌, ◌*◌, ◌<◌, ◌≤◌, ◌⊎◌, ◌≢◌, List, length, ap, sym, ◌∙◌, arith, inl, inr, subst, Bool, sum, ◌++◌, take, drop, length-drop, length-take}
use Rattle.std.specs.Prelude.{slice_range}
use Rattle.std.proofs.Math.Nat.{mul-le-mul_left}
use Rattle.std.proofs.lemmas.List.{take-append-drop, drop-take}
use Rattle.std.proofs.lemmas.Slice.{between-put_mid, between_is, take-put_mid_below, drop-put_mid}
use Rattle.std.proofs.lemmas.List.Sums.{sum_by-append}
use borrow.Rule.Slice.PartMut.{put_mid, post_of}
use Rattle.pesp_problem.specs.Words.{IsLess}
use Rattle.pesp_domains.specs.Bits.{KeepsSupported}
use Rattle.pesp_domains.specs.Sets.{set_of, Narrows}

sum_append : (xs ys : List ℕ) → sum (xs ++ ys) ≡ sum xs + sum ys
sum_append xs ys = sum_by-append (λ (n : ℕ). n) xs ys

parts : (a w : ℕ) (xs : List ℕ) → take a xs ++ (slice_range xs a (a + w) ++ post_of a w xs) ≡ xs
parts a w xs =
    let e : slice_range xs a (a + w) ≡ take w (drop a xs) = between_is xs a (a + w) ∙ drop-take a w xs in
    ap (λ (m : List ℕ). take a xs ++ (m ++ post_of a w xs)) e
    ∙ (ap (λ (m : List ℕ). take a xs ++ m) (take-append-drop w (drop a xs)) ∙ take-append-drop a xs)

pub part_length : (a w : ℕ) (xs : List ℕ) → a + w ≤ length xs → length (slice_range xs a (a + w)) ≡ w
part_length a w xs h = ap length (between_is xs a (a + w)) ∙ simp (length-drop, length-take) (omega arith)

less_part : (a w : ℕ) (xs ys : List ℕ) (changed : Bool) → IsLess (slice_range xs a (a + w)) ys changed
    → IsLess xs (put_mid a w xs ys) changed
less_part a w xs ys changed h = record {
  same = λ e. ap (λ (m : List ℕ). put_mid a w xs m) (h.same e) ∙ parts a w xs;
  less = λ e.
      let l : sum ys < sum (slice_range xs a (a + w)) = h.less e in
      let x : sum xs ≡ sum (take a xs) + (sum (slice_range xs a (a + w)) + sum (post_of a w xs)) =
      sym (ap sum (parts a w xs)) ∙ (sum_append (take a xs) _
      ∙ ap (λ (m : ℕ). sum (take a xs) + m) (sum_append (slice_range xs a (a + w)) (post_of a w xs))) in
      let y : sum (put_mid a w xs ys) ≡ sum (take a xs) + (sum ys + sum (post_of a w xs)) =
      sum_append (take a xs) _ ∙ ap (λ (m : ℕ). sum (take a xs) + m) (sum_append ys (post_of a w xs)) in
      omega arith;
}

rows_apart : (x k w : ℕ) → x < k → x * w + w ≤ k * w
rows_apart x k w h = omega (arith, mul-le-mul_left w h)

pub set_else : (w k x : ℕ) (xs ys : List ℕ) → k * w + w ≤ length xs → length ys ≡ w → x ≢ k
    → set_of w (put_mid (k * w) w xs ys) x ≡ set_of w xs x
set_else w k x xs ys l e n =
    elim (order x k n) [
      | inl b ↦
          let g : x * w + w ≤ k * w = rows_apart x k w b in
          between_is (put_mid (k * w) w xs ys) (x * w) (x * w + w)
          ∙ (ap (λ (m : List ℕ). drop (x * w) m) (take-put_mid_below (k * w) w xs ys (x * w + w) g
          (omega arith)) ∙ sym (between_is xs (x * w) (x * w + w)))
      | inr b ↦
          let g : k * w + w ≤ x * w = rows_apart k x w b in
          between_is (put_mid (k * w) w xs ys) (x * w) (x * w + w)
          ∙ (drop-take (x * w) w (put_mid (k * w) w xs ys)
          ∙ (ap (λ (m : List ℕ). take w m) (drop-put_mid (k * w) w xs ys (x * w) g (omega arith) e)
          ∙ (sym (drop-take (x * w) w xs) ∙ sym (between_is xs (x * w) (x * w + w)))))
    ]
  where
    order : (x k : ℕ) → x ≢ k → (x < k) ⊎ (k < x)
    order x k n = grind arith

pub set_here : (w k : ℕ) (xs ys : List ℕ) → k * w + w ≤ length xs → length ys ≡ w → set_of w (put_mid (k * w) w xs ys) k ≡ ys
set_here w k xs ys l e = between-put_mid (k * w) w xs ys (k * w + w) (omega arith) (omega arith)

pub narrowed : (t w kept other first count n : ℕ) (xs ys others : List ℕ) (changed : Bool) → n ≡ w
    → kept * w + w ≤ length xs → length ys ≡ w → others ≡ set_of w xs other
    → KeepsSupported t first count (set_of w xs kept) others ys → IsLess (set_of w xs kept) ys changed
    → Narrows t w kept other first count xs (put_mid (kept * w) n xs ys)
    × IsLess xs (put_mid (kept * w) n xs ys) changed
narrowed t w kept other first count n xs ys others changed e l ly eo ks less =
    let P : ℕ → Type 0 = λ n. Narrows t w kept other first count xs (put_mid (kept * w) n xs ys)
    × IsLess xs (put_mid (kept * w) n xs ys) changed in
    let Q : List ℕ → Type 0 = λ m. KeepsSupported t first count (set_of w xs kept) (set_of w xs other) m in
    let R : List ℕ → Type 0 = λ m. KeepsSupported t first count (set_of w xs kept) m ys in
    subst P (sym e) (
      record {
        here = subst Q (sym (set_here w kept xs ys l ly)) (subst R eo ks);
        else = λ x ne. set_else w kept x xs ys l ly ne;
      },
      less_part (kept * w) w xs ys changed less,
    )
