-- An arc's ends after the code's own steps.
use Rattle.std.proofs.Common.{◌≡◌, ℕ, ◌+◌, ◌-◌, ◌*◌, ◌%◌, ◌<◌, ◌≤◌, ◌≢◌, List, refl, ap, arith, sym, ◌∙◌, inl, inr, subst, true}
use Rattle.std.specs.Prelude.{pos, min}
use Rattle.std.specs.Int.{int_rem_euclid}
use Rattle.std.proofs.Math.Nat.{mod-eq_of_lt}
use Rattle.pesp_problem.specs.declared.arc.Arc.{Arc}
use Rattle.pesp_domains.specs.Bits.{bit}
use Rattle.pesp_problem.specs.Families.{remainder_of}
use Rattle.pesp_domains.specs.Sets.{set_of, IsClear, Narrows, Revises, family}
use Rattle.pesp_domains.proofs.Revising.{revised, is_one, one_is, below, in_other, same_event, narrow_within, still_clear}
use Rattle.pesp_problem.proofs.Shifts.{LeadBoth, lead_both, loop_remainder, mod_same}

pub both_ends : (t w l : ℕ) (arc : Arc) (low high m n : ℕ) (xs ys zs : List ℕ) → m ≡ min high (t - 1)
    → n ≡ m + 1 - low → 0 < t → arc.tail ≢ arc.head → IsClear t w xs → pos l ≡ int_rem_euclid arc.lower (pos t)
    → Narrows t w arc.tail arc.head ((l + low) % t) n xs ys
    → Narrows t w arc.head arc.tail ((2 * t - l - m) % t) n ys zs → Revises t w arc (low, high) xs zs
both_ends t w l arc low high m n xs ys zs em en p ne c el one two =
    let P : ℕ → Type 0 = λ m. LeadBoth t arc low high ((l + low) % t) ((2 * t - l - m) % t) (m + 1 - low) in
    let Q : ℕ → Type 0 = λ n. LeadBoth t arc low high ((l + low) % t) ((2 * t - l - m) % t) n in
    revised t w arc low high ((l + low) % t) ((2 * t - l - m) % t) n xs ys zs p ne c
    (subst Q (sym en) (subst P (sym em) (lead_both t l arc low high p el))) one two

pub loop_kept : (t w l : ℕ) (arc : Arc) (low high m back : ℕ) (xs ys : List ℕ) → m ≡ min high (t - 1)
    → back ≡ (t - l) % t → 0 < t → arc.tail ≡ arc.head → IsClear t w xs → pos l ≡ int_rem_euclid arc.lower (pos t)
    → low ≤ back → back ≤ m → Narrows t w arc.tail arc.tail 0 1 xs ys → Revises t w arc (low, high) xs ys
loop_kept t w l arc low high m back xs ys em eb p te c el lo hi n =
    let cy : IsClear t w ys = still_clear t w _ _ _ _ xs ys c n in
    record {
      supported = record {
        tails = λ a s.
            let r : remainder_of t arc a a ≡ (t - l) % t = loop_remainder t l arc a p el (below t w ys arc.tail a cy (is_one _ s)) in
            let P : ℕ → Type 0 = λ x. family w ys x a ≡ true in
            (a, subst P te s, record { low = omega arith; high = omega arith; loop = λ e. refl });
        heads = λ b s.
            let r : remainder_of t arc b b ≡ (t - l) % t = loop_remainder t l arc b p el (below t w ys arc.head b cy (is_one _ s)) in
            let P : ℕ → Type 0 = λ x. family w ys x b ≡ true in
            (b, subst P (sym te) s, record { low = omega arith; high = omega arith; loop = λ e. refl });
      };
      within = λ x d s. one_is _ (narrow_within t w _ _ _ _ xs ys n x d (is_one _ s));
      keeps = λ s sup wi x d q.
          let sx : bit (set_of w xs x) d ≡ 1 = is_one _ (wi x d q) in
          elim (same_event x arc.tail) [
            | inr k ↦ one_is _ (in_other _ _ d (sym (n.else x k)) sx)
            | inl e ↦
                let st : bit (set_of w xs arc.tail) d
                ≡ 1 = in_other (set_of w xs x) (set_of w xs arc.tail) d (ap (λ (m : ℕ). set_of w xs m) e) sx in
                let u : d ≡ (d + (0 + 0)) % t =
                sym (mod_same (d + (0 + 0)) d t (omega arith) ∙ mod-eq_of_lt (below t w xs arc.tail d c st)) in
                one_is _ (in_other (set_of w ys arc.tail) (set_of w ys x) d (ap (λ (m : ℕ). set_of w ys m) (sym e))
                (n.here.all d st (0, omega arith, sym (ap (λ (m : ℕ). bit (set_of w xs arc.tail) m) u) ∙ st)))
          ];
    }

pub loop_cleared : (t w l : ℕ) (arc : Arc) (low high m back : ℕ) (xs ys : List ℕ) → m ≡ min high (t - 1)
    → back ≡ (t - l) % t → 0 < t → arc.tail ≡ arc.head → IsClear t w xs → pos l ≡ int_rem_euclid arc.lower (pos t)
    → (low ≤ back → back ≤ m → ⊥) → Narrows t w arc.tail arc.tail 0 0 xs ys → Revises t w arc (low, high) xs ys
loop_cleared t w l arc low high m back xs ys em eb p te c el out n =
    let none : (d : ℕ) → family w ys arc.tail d ≡ true → ⊥ = λ d s. no_shift (n.here.found d (is_one _ s)) in
    record {
      supported = record {
        tails = λ a s. absurd (none a s);
        heads = λ b s. let P : ℕ → Type 0 = λ x. family w ys x b ≡ true in absurd (none b (subst P (sym te) s));
      };
      within = λ x d s. one_is _ (narrow_within t w _ _ _ _ xs ys n x d (is_one _ s));
      keeps = λ s sup wi x d q.
          elim (same_event x arc.tail) [
            | inr k ↦ one_is _ (in_other _ _ d (sym (n.else x k)) (is_one _ (wi x d q)))
            | inl e ↦
                let P : ℕ → Type 0 = λ x. s x d ≡ true in
                let st : s arc.tail d ≡ true = subst P e q in
                let f = sup.tails d st in
                let b : d ≡ f.0 = f.2.loop te in
                let ld : d < t = below t w xs arc.tail d c (is_one _ (wi arc.tail d st)) in
                let r : remainder_of t arc d d ≡ (t - l) % t = loop_remainder t l arc d p el ld in
                let v : remainder_of t arc d (f.0) ≡ remainder_of t arc d d = ap (λ (m : ℕ). remainder_of t arc d m) (sym b) in
                let lo : low ≤ remainder_of t arc d (f.0) = f.2.low in
                let hi : remainder_of t arc d (f.0) ≤ high = f.2.high in
                let below_t : (t - l) % t < t = omega arith in
                absurd (out (omega arith) (omega arith))
          ];
    }
  where
    no_shift : {P : ℕ → Type 0} → (j : ℕ) × (j < 0) × P j → ⊥
    no_shift f = let h : f.0 < 0 = f.1 in omega arith
