-- Both ends of an arc are narrowed.
use Rattle.std.proofs.Common.{◌≡◌, ℕ, ◌+◌, ◌%◌, ◌<◌, ◌≤◌, ◌⊎◌, ◌≢◌, List, ap, sym, ◌∙◌, arith, inl, inr, subst, true}
use Rattle.std.specs.Prelude.{nat_eq}
use Rattle.std.proofs.lemmas.Bool.Decides.{nat_tests}
use Rattle.pesp_problem.specs.declared.arc.Arc.{Arc}
use Rattle.pesp_domains.specs.Bits.{bit}
use Rattle.pesp_domains.specs.Sets.{set_of, IsClear, Narrows, Revises}
use Rattle.pesp_problem.proofs.Shifts.{LeadBoth}
use Rattle.pesp_domains.proofs.Words.{bit-lt}

pub is_one : (n : ℕ) → nat_eq n 1 ≡ true → n ≡ 1
is_one n h = grind (arith, nat_tests)

pub one_is : (n : ℕ) → n ≡ 1 → nat_eq n 1 ≡ true
one_is n h = grind (arith, nat_tests)

pub below : (t w : ℕ) (ws : List ℕ) (x d : ℕ) → IsClear t w ws → bit (set_of w ws x) d ≡ 1 → d < t
below t w ws x d c s =
    elim (split d t) [ inl m ↦ m | inr m ↦ let z : bit (set_of w ws x) d ≡ 0 = c x d m in absurd (omega arith) ]
  where
    split : (n k : ℕ) → (n < k) ⊎ (k ≤ n)
    split n k = grind arith

along : (ws : List ℕ) (a b : ℕ) → a ≡ b → bit ws a ≡ 1 → bit ws b ≡ 1
along ws a b e s = sym (ap (λ (m : ℕ). bit ws m) e) ∙ s

pub in_other : (xs ys : List ℕ) (d : ℕ) → xs ≡ ys → bit xs d ≡ 1 → bit ys d ≡ 1
in_other xs ys d e s = sym (ap (λ (m : List ℕ). bit m d) e) ∙ s

pub same_event : (x y : ℕ) → (x ≡ y) ⊎ (x ≢ y)
same_event x y = grind arith

pub still_clear : (t w kept other first count : ℕ) (xs ys : List ℕ) → IsClear t w xs
    → Narrows t w kept other first count xs ys → IsClear t w ys
still_clear t w kept other first count xs ys c n x d h =
    elim (same_event x kept) [
      | inr e ↦ ap (λ (m : List ℕ). bit m d) (n.else x e) ∙ c x d h
      | inl e ↦
          let z : bit (set_of w xs kept) d ≡ 0 = c kept d h in
          ap (λ (m : ℕ). bit (set_of w ys m) d) e
          ∙ zero_of (bit (set_of w ys kept) d) (bit (set_of w xs kept) d) (bit-lt (set_of w ys kept) d) z
          (n.here.was d)
    ]
  where
    zero_of : (a b : ℕ) → a < 2 → b ≡ 0 → (a ≡ 1 → b ≡ 1) → a ≡ 0
    zero_of a b l z f = elim (cases a l) [ inl e ↦ e | inr e ↦ let o : b ≡ 1 = f e in absurd (omega arith) ]
      where
        cases : (a : ℕ) → a < 2 → (a ≡ 0) ⊎ (a ≡ 1)
        cases a l = grind arith

pub narrow_within : (t w kept other first count : ℕ) (xs ys : List ℕ) → Narrows t w kept other first count xs ys
    → (x d : ℕ) → bit (set_of w ys x) d ≡ 1 → bit (set_of w xs x) d ≡ 1
narrow_within t w kept other first count xs ys n x d s =
    elim (same_event x kept) [
      | inr e ↦ in_other _ _ d (n.else x e) s
      | inl e ↦ in_other (set_of w xs kept) (set_of w xs x) d (ap (λ (m : ℕ). set_of w xs m) (sym e))
          (n.here.was d (in_other (set_of w ys x) (set_of w ys kept) d (ap (λ (m : ℕ). set_of w ys m) e) s))
    ]

pub revised : (t w : ℕ) (arc : Arc) (low high ahead back count : ℕ) (xs ys zs : List ℕ) → 0 < t
    → arc.tail ≢ arc.head → IsClear t w xs → LeadBoth t arc low high ahead back count
    → Narrows t w arc.tail arc.head ahead count xs ys → Narrows t w arc.head arc.tail back count ys zs → Revises t w arc (low, high) xs zs
revised t w arc low high ahead back count xs ys zs p ne c lead one two =
    let cy : IsClear t w ys = still_clear t w _ _ _ _ xs ys c one in
    let tails_same : set_of w zs arc.tail ≡ set_of w ys arc.tail = two.else arc.tail ne in
    let heads_same : set_of w ys arc.head ≡ set_of w xs arc.head = one.else arc.head (λ e. ne (sym e)) in
    record {
      supported = record {
        tails = λ a s.
            let sy : bit (set_of w ys arc.tail) a ≡ 1 = in_other _ _ a tails_same (is_one _ s) in
            let a_low : a < t = below t w ys arc.tail a cy sy in
            let f = one.here.found a sy in
            let r = lead.out a f.0 a_low f.1 in
            let b_low : (a + (ahead + f.0)) % t < t = mod_below (a + (ahead + f.0)) t p in
            let i = lead.into_back a ((a + (ahead + f.0)) % t) a_low b_low r.0 r.1 in
            let sb : bit (set_of w ys arc.head) ((a + (ahead + f.0)) % t) ≡ 1 = in_other _ _ _ (sym heads_same) f.2 in
            let kept : bit (set_of w zs arc.head) ((a + (ahead + f.0)) % t)
            ≡ 1 = two.here.all ((a + (ahead + f.0)) % t) sb (i.0, i.1, along _ _ _ (sym i.2) sy) in
            ((a + (ahead + f.0)) % t, one_is _ kept, record { low = r.0; high = r.1; loop = λ e. absurd (ne e) });
        heads = λ b s.
            let sy : bit (set_of w ys arc.head) b ≡ 1 = two.here.was b (is_one _ s) in
            let b_low : b < t = below t w ys arc.head b cy sy in
            let f = two.here.found b (is_one _ s) in
            let r = lead.out_back b f.0 b_low f.1 in (
              (b + (back + f.0)) % t,
              one_is _ (in_other _ _ _ (sym tails_same) f.2),
              record { low = r.0; high = r.1; loop = λ e. absurd (ne e) },
            );
      };
      within = λ x d s. one_is _ (narrow_within t w _ _ _ _ xs ys one x d (narrow_within t w _ _ _ _ ys zs two x d (is_one _ s)));
      keeps = λ s sup wi.
          let in_tail : (a : ℕ) → s arc.tail a ≡ true → bit (set_of w ys arc.tail) a ≡ 1 =
          λ a m.
          let q = sup.tails a m in
          let ax : bit (set_of w xs arc.tail) a ≡ 1 = is_one _ (wi arc.tail a m) in
          let bx : bit (set_of w xs arc.head) (q.0) ≡ 1 = is_one _ (wi arc.head q.0 q.1) in
          let i = lead.into a q.0 (below t w xs arc.tail a c ax) (below t w xs arc.head q.0 c bx) (q.2.low) (q.2.high) in
          one.here.all a ax (i.0, i.1, along _ _ _ (sym i.2) bx) in
          let in_head : (b : ℕ) → s arc.head b ≡ true → bit (set_of w zs arc.head) b ≡ 1 =
          λ b m.
          let q = sup.heads b m in
          let bx : bit (set_of w xs arc.head) b ≡ 1 = is_one _ (wi arc.head b m) in
          let ay : bit (set_of w ys arc.tail) (q.0) ≡ 1 = in_tail q.0 q.1 in
          let i = lead.into_back q.0 b (below t w ys arc.tail q.0 cy ay) (below t w xs arc.head b c bx) (q.2.low) (q.2.high) in
          two.here.all b (in_other _ _ b (sym heads_same) bx) (i.0, i.1, along _ _ _ (sym i.2) ay) in
          λ x d m.
          elim (same_event x arc.head) [
            | inl e ↦ let P : ℕ → Type 0 = λ n. s n d ≡ true → nat_eq (bit (set_of w zs n) d) 1 ≡ true in
                subst P (sym e) (λ m. one_is _ (in_head d m)) m
            | inr n ↦
                elim (same_event x arc.tail) [
                  | inl e ↦ let P : ℕ → Type 0 = λ n. s n d ≡ true → nat_eq (bit (set_of w zs n) d) 1 ≡ true in
                      subst P (sym e) (λ m. one_is _ (in_other _ _ d (sym tails_same) (in_tail d m))) m
                  | inr k ↦ one_is _ (in_other _ _ d (sym (two.else x n ∙ one.else x k)) (is_one _ (wi x d m)))
                ]
          ];
    }
  where
    mod_below : (n k : ℕ) → 0 < k → n % k < k
    mod_below n k h = omega arith
