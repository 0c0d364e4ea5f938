-- One bit of a word is taken out.
use Rattle.std.proofs.Common.{◌≡◌, ◌≢◌, ℕ, ◌*◌, ◌/◌, ◌%◌, ◌^◌, ◌<◌, ◌⊎◌, inl, inr, List, length, get_or, ap, sym, ◌∙◌, subst, arith, false, get_or-set_same, get_or-set_other}
use Rattle.std.specs.Prelude.{bit_and, nat_eq}
use Rattle.std.specs.Int.{bit_at, bit_not, w64}
use Rattle.std.proofs.Math.ListN.{set}
use Rattle.std.proofs.lemmas.Nat.Bits.{bit_at_clear_same, bit_at_clear_other}
use Rattle.pesp_truth.specs.Sets.{is_set}

-- a word without one of its bits
abbrev pub without : ℕ → ℕ → ℕ
without word k = bit_and word (bit_not w64 (1 * 2 ^ k % 2 ^ 64))

at_place : (xs : List ℕ) (place : ℕ) → place / 64 < length xs
    → is_set (set xs (place / 64) (without (get_or xs (place / 64) 0) (place % 64))) place ≡ false
unfolding is_set
at_place xs place l =
    let w = get_or xs (place / 64) 0 in
    let e : get_or (set xs (place / 64) (without w (place % 64))) (place / 64) 0
    ≡ without w (place % 64) = get_or-set_same xs (place / 64) (without w (place % 64)) 0 l in
    let z : bit_at (without w (place % 64)) (place % 64) ≡ 0 = bit_at_clear_same w64 w (place % 64) (omega arith) in
    ap (λ (m : ℕ). nat_eq (bit_at m (place % 64)) 1) e ∙ ap (λ (m : ℕ). nat_eq m 1) z

elsewhere : (xs : List ℕ) (place other : ℕ) → place / 64 < length xs → other ≢ place
    → is_set (set xs (place / 64) (without (get_or xs (place / 64) 0) (place % 64))) other ≡ is_set xs other
unfolding is_set
elsewhere xs place other l ne =
    elim (split (other / 64) (place / 64)) [
      | inl e ↦
          let w = get_or xs (place / 64) 0 in
          let s : get_or (set xs (place / 64) (without w (place % 64))) (place / 64) 0
          ≡ without w (place % 64) = get_or-set_same xs (place / 64) (without w (place % 64)) 0 l in
          let a : get_or (set xs (place / 64) (without w (place % 64))) (other / 64) 0
          ≡ without w (place % 64) = ap (λ (m : ℕ). get_or (set xs (place / 64) (without w (place % 64))) m 0)
          e ∙ s in
          let nk : other % 64 ≢ place % 64 = λ q. ne (omega arith) in
          let b : bit_at (without w (place % 64)) (other % 64)
          ≡ bit_at w (other % 64) = bit_at_clear_other w64 w (place % 64) (omega arith) (other % 64)
          (omega arith) nk in
          ap (λ (m : ℕ). nat_eq (bit_at m (other % 64)) 1) a
          ∙ (ap (λ (m : ℕ). nat_eq m 1) b ∙ ap (λ (m : ℕ). nat_eq (bit_at (get_or xs m 0) (other % 64)) 1)
          (sym e))
      | inr n ↦ ap (λ (m : ℕ). nat_eq (bit_at m (other % 64)) 1)
          (get_or-set_other xs (place / 64) (other / 64) (without (get_or xs (place / 64) 0) (place % 64)) 0 n)
    ]
  where
    split : (a b : ℕ) → (a ≡ b) ⊎ (a ≢ b)
    split a b = grind arith

pub gone : (xs : List ℕ) (place at : ℕ) → place / 64 < length xs → place ≡ at
    → is_set (set xs (place / 64) (without (get_or xs (place / 64) 0) (place % 64))) at ≡ false
gone xs place at l e = subst (λ p. is_set (set xs (place / 64) (without (get_or xs (place / 64) 0) (place % 64))) p
    ≡ false) e (at_place xs place l)

pub others : (xs : List ℕ) (place at other : ℕ) → place / 64 < length xs → place ≡ at → other ≢ at
    → is_set (set xs (place / 64) (without (get_or xs (place / 64) 0) (place % 64))) other ≡ is_set xs other
others xs place at other l e ne = elsewhere xs place other l (λ q. ne (q ∙ e))
