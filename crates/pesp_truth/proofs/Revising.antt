-- Both ends of a row are narrowed, or a loop is kept or refuted.
use Rattle.std.proofs.Common.{◌≡◌, ◌≢◌, ℕ, ◌+◌, ◌-◌, ◌*◌, ◌%◌, ◌<◌, ◌≤◌, ◌⊎◌, inl, inr, List, refl, ap, sym, ◌∙◌, arith, subst, Bool, true, false}
use Rattle.std.specs.Prelude.{pos, min}
use Rattle.std.specs.Int.{int_rem_euclid}
use Rattle.pesp_problem.specs.declared.arc.Arc.{Arc}
use Rattle.pesp_problem.specs.Families.{Family, IsSupportedBy, IsWithin, ArePartners, remainder_of}
use Rattle.pesp_problem.proofs.Shifts.{LeadBoth, lead_both, loop_remainder}
use Rattle.pesp_problem.specs.Words.{IsLess}
use Rattle.pesp_problem.proofs.Words.{sum_most}
use Rattle.pesp_truth.specs.Sets.{family_at}
use Rattle.pesp_truth.specs.Windows.{NarrowsFamily}
use Rattle.pesp_truth.specs.Visits.{HasSome, LiesAt, RefutesAt, RevisesFamily, IsNarrowed}
use Rattle.pesp_truth.proofs.Placing.{below}

-- differences lie below the period
abbrev pub AreBelow : ℕ → Family → Type 0
AreBelow t s = (event d : ℕ) → s event d ≡ true → d < t

same_or : (a b : ℕ) → (a ≡ b) ⊎ (a ≢ b)
same_or a b = grind arith

along : (s : Family) (event : ℕ) {a b : ℕ} → a ≡ b → s event b ≡ true → s event a ≡ true
along s event e h = ap (λ d. s event d) e ∙ h

narrow_within : (t kept other first n : ℕ) (old new : Family) → NarrowsFamily t kept other first n old new → IsWithin new old
narrow_within t kept other first n old new h event d s = elim (same_or event kept) [
  | inl e ↦ subst (λ x. old x d ≡ true) (sym e) (h.was d (subst (λ x. new x d ≡ true) e s))
  | inr n ↦ sym (h.else event d n) ∙ s
]

-- what a supported family has at the tail is kept there
tails_kept : (t : ℕ) (arc : Arc) (low high ahead back n : ℕ) (old mid s : Family) → AreBelow t old
    → LeadBoth t arc low high ahead back n → NarrowsFamily t arc.tail arc.head ahead n old mid
    → IsSupportedBy t arc (low, high) s → LiesAt arc s old → (a : ℕ) → s arc.tail a ≡ true → mid arc.tail a ≡ true
tails_kept t arc low high ahead back n old mid s bel lead one sup lies a m =
    let q = sup.tails a m in
    let x = (lies a).0 m in
    let y = (lies q.0).1 q.1 in
    let i = lead.into a q.0 (bel arc.tail a x) (bel arc.head q.0 y) q.2.low q.2.high in
    one.all a x (i.0, i.1, along old arc.head i.2 y)

pub revised : (t : ℕ) (arc : Arc) (low high ahead back n : ℕ) (old mid new : Family) → 0 < t → arc.tail ≢ arc.head
    → AreBelow t old → LeadBoth t arc low high ahead back n
    → NarrowsFamily t arc.tail arc.head ahead n old mid → NarrowsFamily t arc.head arc.tail back n mid new → RevisesFamily t arc (low, high) old new
revised t arc low high ahead back n old mid new p ne bel lead one two =
    let tail_same : (d : ℕ) → new arc.tail d ≡ mid arc.tail d = λ d. two.else arc.tail d ne in
    let head_same : (d : ℕ) → mid arc.head d ≡ old arc.head d = λ d. one.else arc.head d (λ e. ne (sym e)) in
    let mid_old : IsWithin mid old = narrow_within t arc.tail arc.head ahead n old mid one in
    record {
      supported = record {
        tails = λ a s.
            let sm : mid arc.tail a ≡ true = sym (tail_same a) ∙ s in
            let la : a < t = bel arc.tail a (mid_old arc.tail a sm) in
            let f = one.found a sm in
            let b : ℕ = (a + (ahead + f.0)) % t in
            let lb : b < t = omega arith in
            let r = lead.out a f.0 la f.1 in
            let i = lead.into_back a b la lb r.0 r.1 in (
              b,
              two.all b (head_same b ∙ f.2) (i.0, i.1, along mid arc.tail {a = (b + (back + i.0)) % t} i.2 sm),
              record { low = r.0; high = r.1; loop = λ e. absurd (ne e) },
            );
        heads = λ b s.
            let lb : b < t = bel arc.head b (mid_old arc.head b (two.was b s)) in
            let f = two.found b s in
            let r = lead.out_back b f.0 lb f.1 in
            ((b + (back + f.0)) % t, tail_same _ ∙ f.2, record { low = r.0; high = r.1; loop = λ e. absurd (ne e) });
      };
      within = λ event d s. mid_old event d (narrow_within t arc.head arc.tail back n mid new two event d s);
      keeps = λ s sup lies.
          let in_tail = tails_kept t arc low high ahead back n old mid s bel lead one sup lies in
          λ d. (
            λ m. tail_same d ∙ in_tail d m,
            λ m.
                let q = sup.heads d m in
                let x = in_tail q.0 q.1 in
                let y = (lies d).1 m in
                let i = lead.into_back q.0 d (bel arc.tail q.0 (mid_old arc.tail q.0 x)) (bel arc.head d y) q.2.low q.2.high in
                two.all d (head_same d ∙ y) (i.0, i.1, along mid arc.tail i.2 x),
          );
      else = λ event d nt nh. two.else event d nh ∙ one.else event d nt;
    }

words_below : (t : ℕ) (xs : List ℕ) → AreBelow t (family_at t xs)
words_below t xs event d s = below t event d xs s

leads : (t l : ℕ) (arc : Arc) (low high ahead back n : ℕ) → 0 < t → pos l ≡ int_rem_euclid arc.lower (pos t)
    → ahead ≡ (l + low) % t → back ≡ (2 * t - l - min high (t - 1)) % t → n ≡ min high (t - 1) + 1 - low
    → LeadBoth t arc low high ahead back n
leads t l arc low high ahead back n p el ea eb en =
    let P : ℕ → Type 0 = λ x. LeadBoth t arc low high x ((2 * t - l - min high (t - 1)) % t) (min high (t - 1) + 1 - low) in
    let Q : ℕ → Type 0 = λ x. LeadBoth t arc low high ahead x (min high (t - 1) + 1 - low) in
    let R : ℕ → Type 0 = λ x. LeadBoth t arc low high ahead back x in
    subst R (sym en) (subst Q (sym eb) (subst P (sym ea) (lead_both t l arc low high p el)))

-- what is known of the two windows of a row
pub record AreWindows (t l : ℕ) (arc : Arc) (low high ahead back n : ℕ) : Type 0 where
  pub some : 0 < t
  pub shift : pos l ≡ int_rem_euclid arc.lower (pos t)
  pub ahead_is : ahead ≡ (l + low) % t
  pub back_is : back ≡ (2 * t - l - min high (t - 1)) % t
  pub count_is : n ≡ min high (t - 1) + 1 - low

lead_of : (t l : ℕ) (arc : Arc) (low high ahead back n : ℕ) → AreWindows t l arc low high ahead back n
    → LeadBoth t arc low high ahead back n
lead_of t l arc low high ahead back n w = leads t l arc low high ahead back n w.some w.shift w.ahead_is w.back_is w.count_is

pub tail_refutes : (t l : ℕ) (arc : Arc) (low high ahead back n : ℕ) (xs ys : List ℕ)
    → AreWindows t l arc low high ahead back n → NarrowsFamily t arc.tail arc.head ahead n (family_at t xs)
    (family_at t ys) → (HasSome (family_at t ys) arc.tail → ⊥) → RefutesAt t arc (low, high) (family_at t xs)
tail_refutes t l arc low high ahead back n xs ys w one none s sup lies st sh =
    none (
      st.0,
      tails_kept t arc low high ahead back n (family_at t xs) (family_at t ys) s (words_below t xs)
          (lead_of t l arc low high ahead back n w) one sup lies st.0 st.1,
    )

pub head_refutes : (t l : ℕ) (arc : Arc) (low high ahead back n : ℕ) (xs ys zs : List ℕ)
    → AreWindows t l arc low high ahead back n → arc.tail ≢ arc.head
    → NarrowsFamily t arc.tail arc.head ahead n (family_at t xs) (family_at t ys)
    → NarrowsFamily t arc.head arc.tail back n (family_at t ys) (family_at t zs)
    → (HasSome (family_at t zs) arc.head → ⊥) → RefutesAt t arc (low, high) (family_at t xs)
head_refutes t l arc low high ahead back n xs ys zs w ne one two none s sup lies st sh =
    let r = revised t arc low high ahead back n (family_at t xs) (family_at t ys) (family_at t zs) w.some ne
    (words_below t xs) (lead_of t l arc low high ahead back n w) one two in
    none (sh.0, (r.keeps s sup lies sh.0).1 sh.1)

pub narrowed : (t l : ℕ) (arc : Arc) (low high ahead back n : ℕ) (xs ys zs : List ℕ) (tail head : Bool)
    → AreWindows t l arc low high ahead back n → arc.tail ≢ arc.head
    → NarrowsFamily t arc.tail arc.head ahead n (family_at t xs) (family_at t ys)
    → NarrowsFamily t arc.head arc.tail back n (family_at t ys) (family_at t zs) → IsLess xs ys tail → IsLess ys zs head
    → HasSome (family_at t ys) arc.tail → HasSome (family_at t zs) arc.head
    → IsNarrowed t arc (low, high) xs zs (record { tail = tail; head = head })
narrowed t l arc low high ahead back n xs ys zs tail head w ne one two lt lh st sh =
    let a = sum_most xs ys tail lt in
    let b = sum_most ys zs head lh in
    record {
      revises = revised t arc low high ahead back n (family_at t xs) (family_at t ys) (family_at t zs) w.some ne
          (words_below t xs) (lead_of t l arc low high ahead back n w) one two;
      tells = record {
        tail = λ e d. two.else arc.tail d ne ∙ ap (λ (ws : List ℕ). family_at t ws arc.tail d) (lt.same e);
        head = λ e d. ap (λ (ws : List ℕ). family_at t ws arc.head d) (lh.same e) ∙ one.else arc.head d (λ q. ne (sym q));
        less_tail = λ e. let m = lt.less e in omega arith;
        less_head = λ e. let m = lh.less e in omega arith;
        most = omega arith;
      };
      some_tail = (st.0, two.else arc.tail st.0 ne ∙ st.1);
      some_head = sh;
    }

-- ---- loops

pub loop_kept : (t l : ℕ) (arc : Arc) (low high : ℕ) (xs : List ℕ) → 0 < t → arc.tail ≡ arc.head
    → pos l ≡ int_rem_euclid arc.lower (pos t) → low ≤ (t - l) % t → (t - l) % t ≤ high
    → HasSome (family_at t xs) arc.tail → HasSome (family_at t xs) arc.head
    → IsNarrowed t arc (low, high) xs xs (record { tail = false; head = false })
loop_kept t l arc low high xs p te el lo hi st sh =
    let part : (a : ℕ) → a < t → ArePartners t arc (low, high) a a = λ a la. let r =
    loop_remainder t l arc a p el la in record { low = omega arith; high = omega arith; loop = λ _. refl } in
    record {
      revises = record {
        supported = record {
          tails = λ a s. (a, subst (λ x. family_at t xs x a ≡ true) te s, part a (below t arc.tail a xs s));
          heads = λ b s. (b, subst (λ x. family_at t xs x b ≡ true) (sym te) s, part b (below t arc.head b xs s));
        };
        within = λ _ _ s. s;
        keeps = λ _ _ lies. lies;
        else = λ _ _ _ _. refl;
      };
      tells = record {
        tail = λ _ _. refl;
        head = λ _ _. refl;
        less_tail = λ e. absurd (cc);
        less_head = λ e. absurd (cc);
        most = omega arith;
      };
      some_tail = st;
      some_head = sh;
    }

pub loop_refuted : (t l : ℕ) (arc : Arc) (low high : ℕ) (xs : List ℕ) → 0 < t → arc.tail ≡ arc.head
    → pos l ≡ int_rem_euclid arc.lower (pos t) → (low ≤ (t - l) % t → (t - l) % t ≤ high → ⊥)
    → RefutesAt t arc (low, high) (family_at t xs)
loop_refuted t l arc low high xs p te el out s sup lies st sh =
    let d = st.0 in
    let f = sup.tails d st.1 in
    let e : d ≡ f.0 = f.2.loop te in
    let r : remainder_of t arc d d ≡ (t - l) % t = loop_remainder t l arc d p el (below t arc.tail d xs ((lies d).0 st.1)) in
    let v : remainder_of t arc d (f.0) ≡ remainder_of t arc d d = ap (λ m. remainder_of t arc d m) (sym e) in
    let lo : low ≤ remainder_of t arc d (f.0) = f.2.low in
    let hi : remainder_of t arc d (f.0) ≤ high = f.2.high in
    out (omega arith) (omega arith)
