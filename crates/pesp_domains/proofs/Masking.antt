-- Words under masks.
use Rattle.std.proofs.Common.{◌≡◌, ℕ, ◌+◌, ◌*◌, ◌/◌, ◌%◌, ◌<◌, ◌≤◌, inl, inr, List, length, get_or, ap, sym, ◌∙◌, arith, subst}
use Rattle.std.proofs.Math.ListN.{set}
use Rattle.std.specs.Prelude.{bit_and, min}
use Rattle.std.specs.Int.{bit_at}
use Rattle.std.proofs.lemmas.Bool.{cases_eq}
use Rattle.std.proofs.lemmas.Nat.Bits.{bit_at_and, bit_at-lt}
use borrow.Rule.Slice.PartMut.{put_mid}
use Rattle.pesp_problem.specs.Families.{IsWithin}
use Rattle.pesp_domains.specs.Bits.{bit}
use Rattle.pesp_domains.specs.Sets.{set_of, family}
use Rattle.pesp_domains.proofs.Words.{bit_set_here, bit_set_else}
use Rattle.pesp_domains.proofs.Narrowing.{set_else, set_here}
use Rattle.pesp_domains.proofs.Revising.{is_one, one_is, in_other}

-- one more word is masked
pub masked_more : (old new : List ℕ) (k keep : ℕ) → k < length new → ((d : ℕ) → bit new d ≡ 1 → bit old d ≡ 1)
    → (d : ℕ) → bit (set new k (bit_and (get_or new k 0) keep)) d ≡ 1 → bit old d ≡ 1
masked_more old new k keep l h d s = elim (cases_eq (d / 64) k) [
  | inr ne ↦ h d (sym (bit_set_else new k _ d ne) ∙ s)
  | inl e ↦
      let a : bit_at (get_or new k 0) (d % 64) ≡ bit new d = ap (λ (m : ℕ). bit_at (get_or new m 0) (d % 64)) (sym e) in
      let m : bit (set new k (bit_and (get_or new k 0) keep)) d
      ≡ min (bit_at (get_or new k 0) (d % 64)) (bit_at keep (d % 64)) = bit_set_here new k _ d l e
      ∙ bit_at_and (get_or new k 0) keep (d % 64) in
      h d (both (bit_at (get_or new k 0) (d % 64)) (bit_at keep (d % 64)) _ _ (bit_at-lt _ _) (bit_at-lt _ _) m s a)
]
  where
    both : (x y b n : ℕ) → x < 2 → y < 2 → b ≡ min x y → b ≡ 1 → x ≡ n → n ≡ 1
    both x y b n p q e f g = grind arith

pub masked_within : (w event n : ℕ) (xs ys : List ℕ) → n ≡ w → event * w + w ≤ length xs → length ys ≡ w
    → ((d : ℕ) → bit ys d ≡ 1 → bit (set_of w xs event) d ≡ 1)
    → IsWithin (family w (put_mid (event * w) n xs ys)) (family w xs)
masked_within w event n xs ys e l ly h =
    let P : ℕ → Type 0 = λ k. IsWithin (family w (put_mid (event * w) k xs ys)) (family w xs) in
    subst P (sym e) (λ x d m. elim (cases_eq x event) [
      | inl q ↦
          let Q : ℕ → Type 0 = λ z. bit (set_of w (put_mid (event * w) w xs ys) z) d ≡ 1 → bit (set_of w xs z) d ≡ 1 in
          one_is _ (subst Q (sym q) (λ s. h d (in_other _ ys d (set_here w event xs ys l ly) s)) (is_one _ m))
      | inr ne ↦ one_is _ (in_other _ _ d (set_else w event x xs ys l ly ne) (is_one _ m))
    ])
