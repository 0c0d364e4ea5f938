-- A set is narrowed place by place, from the period's end down.
use Rattle.std.proofs.Common.{◌≡◌, ◌≢◌, ℕ, zero, suc, ◌+◌, ◌-◌, ◌*◌, ◌/◌, ◌%◌, ◌<◌, ◌≤◌, ◌⊎◌, inl, inr, List, refl, ap, sym, ◌∙◌, arith, subst, Bool, true, false}
use Rattle.std.proofs.Math.Nat.{mod-eq_of_lt, add-mul-mod_self_left}
use Rattle.std.proofs.lemmas.Bool.{cases_lt}
use Rattle.pesp_problem.specs.Families.{Family}
use Rattle.pesp_problem.proofs.Shifts.{mod_more, mod_same, mod_inner, cancel}
use Rattle.pesp_truth.specs.Sets.{is_set, padded_period, family_at}
use Rattle.pesp_truth.specs.Windows.{HasPartner, NarrowsFamily, IsLeast, IsTaken}
use Rattle.pesp_truth.proofs.Placing.{at_place, below, places_apart, same_places}

-- the next difference of an event is so far from a place, round the period
pub record IsGap (t other : ℕ) (s : Family) (p gap : ℕ) : Type 0 where
  pub free : (j : ℕ) → j < gap → s other ((p + j) % t) ≡ false
  pub next : gap < t → s other ((p + gap) % t) ≡ true

-- one event's set was narrowed at the places from p on
pub record Partly (t kept other first n p : ℕ) (old new : Family) : Type 0 where
  pub else : (event d : ℕ) → event ≢ kept → new event d ≡ old event d
  pub was : (d : ℕ) → new kept d ≡ true → old kept d ≡ true
  pub found : (d : ℕ) → d < t → p ≤ (d + first) % t → new kept d ≡ true → HasPartner t other first n old d
  pub all : (d : ℕ) → old kept d ≡ true → HasPartner t other first n old d → new kept d ≡ true

swapped : (s : Family) (other : ℕ) {x y : ℕ} {b : Bool} → x ≡ y → s other y ≡ b → s other x ≡ b
swapped s other e h = ap (λ d. s other d) e ∙ h

-- the least difference is as far from the period's end
pub gap_first : (t other least : ℕ) (s : Family) → 0 < t → IsLeast t other s least → IsGap t other s t least
gap_first t other least s p h = record {
  free = λ j l. let m = h.most in swapped s other (turn j (omega arith)) (h.below j l);
  next = λ l. swapped s other (turn least l) (h.found l);
}
  where
    turn : (j : ℕ) → j < t → (t + j) % t ≡ j
    turn j l = let e : t + j ≡ j + t = omega arith in mod_same (t + j) (j + t) t e ∙ (mod_more j t ∙ mod-eq_of_lt l)

pub gap_here : (t other p : ℕ) (s : Family) → p < t → s other p ≡ true → IsGap t other s p 0
gap_here t other p s l e = record {
  free = λ j m. absurd (omega arith);
  next = λ _. let q : p + 0 ≡ p = omega arith in swapped s other (mod_same (p + 0) p t q ∙ mod-eq_of_lt l) e;
}

pub gap_further : (t other p gap : ℕ) (s : Family) → p < t → s other p ≡ false → IsGap t other s (p + 1) gap → IsGap t other s p (gap + 1)
gap_further t other p gap s l e h = record {
  free = λ j m. at j m;
  next = λ m. let q : p + (gap + 1) ≡ p + 1 + gap = omega arith in swapped s other (mod_same _ _ t q) (h.next (omega arith));
}
  where
    at : (j : ℕ) → j < gap + 1 → s other ((p + j) % t) ≡ false
    at zero m = let q : p + 0 ≡ p = omega arith in swapped s other (mod_same (p + 0) p t q ∙ mod-eq_of_lt l) e
    at (suc j) m = let q : p + suc j ≡ p + 1 + j = omega arith in swapped s other (mod_same _ _ t q) (h.free j (omega arith))

-- a shift from a difference leads where the same shift from its place leads
led : (t first d j : ℕ) → 0 < t → (d + (first + j)) % t ≡ ((d + first) % t + j) % t
led t first d j p =
    let a : d + (first + j) ≡ j + (d + first) = omega arith in
    let b : j + (d + first) % t ≡ (d + first) % t + j = omega arith in
    mod_same _ _ t a ∙ (sym (mod_inner j (d + first) t p) ∙ mod_same _ _ t b)

pub none_yet : (t kept other first n : ℕ) (s : Family) → Partly t kept other first n t s s
none_yet t kept other first n s = record {
  else = λ _ _ _. refl;
  was = λ _ h. h;
  found = λ d l m. absurd (let b : (d + first) % t < t = omega arith in omega arith);
  all = λ _ h _. h;
}

-- a place whose difference has a partner
pub kept_one : (t kept other first n p gap : ℕ) (old new : Family) → p < t → n < t → gap < n
    → IsGap t other old p gap → Partly t kept other first n (p + 1) old new → Partly t kept other first n p old new
kept_one t kept other first n p gap old new l m g gaps h = record {
  else = h.else;
  was = h.was;
  found = λ d b q s. elim (split p ((d + first) % t) q) [
    | inl e ↦ (
      gap,
      g,
      swapped old other (led t first d gap (omega arith)
          ∙ mod_same _ _ t (ap (λ x. x + gap) (sym e))) (gaps.next (omega arith)),
    )
    | inr k ↦ h.found d b k s
  ];
  all = h.all;
}
  where
    split : (p q : ℕ) → p ≤ q → (p ≡ q) ⊎ (p + 1 ≤ q)
    split p q h = grind arith

no_partner : (t other first n p gap d : ℕ) (s : Family) → 0 < t → n ≤ gap → (d + first) % t ≡ p
    → IsGap t other s p gap → HasPartner t other first n s d → ⊥
no_partner t other first n p gap d s l g e gaps h =
    let a : s other ((d + (first + h.0)) % t) ≡ false =
    swapped s other (led t first d h.0 l ∙ mod_same _ _ t (ap (λ x. x + h.0) e))
    (gaps.free h.0 (let m = h.1 in omega arith)) in
    let b = h.2 in
    absurd (cc)

-- a place whose difference has none
pub taken_one : (t kept other first n p gap : ℕ) (old : Family) (xs ys : List ℕ) → p < t → first < t → n ≤ gap
    → IsGap t other old p gap → IsTaken t kept first p xs ys
    → Partly t kept other first n (p + 1) old (family_at t xs) → Partly t kept other first n p old (family_at t ys)
taken_one t kept other first n p gap old xs ys l lf g gaps k h =
    let d0 = k.difference in
    let lone : HasPartner t other first n old d0 → ⊥ = no_partner t other first n p gap d0 old (omega arith) g k.leads gaps in
    let same : (event d : ℕ) → (event ≢ kept) ⊎ (d ≢ d0)
    → family_at t ys event d ≡ family_at t xs event d =
    λ event d o. same_places t event d xs ys (λ ld.
    k.others (event * padded_period t + d) (λ q. apart event d ld o q)) in
    let gone : family_at t ys kept d0 ≡ false = at_place t kept d0 ys k.below ∙ k.gone in
    record {
      else = λ event d ne. same event d (inl ne) ∙ h.else event d ne;
      was = λ d s. elim (same_or d d0) [
        | inl e ↦ absurd (never d e gone s)
        | inr n ↦ h.was d (sym (same kept d (inr n)) ∙ s)
      ];
      found = λ d b q s. elim (same_or d d0) [
        | inl e ↦ absurd (never d e gone s)
        | inr n ↦ elim (split p ((d + first) % t) q) [
          | inl e ↦ absurd (n (twin d b (sym e)))
          | inr m ↦ h.found d b m (sym (same kept d (inr n)) ∙ s)
        ]
      ];
      all = λ d s q. elim (same_or d d0) [
        | inl e ↦ absurd (lone (subst (λ x. HasPartner t other first n old x) e q))
        | inr n ↦ same kept d (inr n) ∙ h.all d s q
      ];
    }
  where
    same_or : (a b : ℕ) → (a ≡ b) ⊎ (a ≢ b)
    same_or a b = grind arith

    split : (p q : ℕ) → p ≤ q → (p ≡ q) ⊎ (p + 1 ≤ q)
    split p q h = grind arith

    apart : (event d : ℕ) → d < t → (event ≢ kept) ⊎ (d ≢ k.difference) → event * padded_period t + d ≡ kept * padded_period t + k.difference → ⊥
    apart event d ld (inl n) q = places_apart t event kept d k.difference ld k.below n q
    apart event d ld (inr n) q = elim (same_or event kept) [
      | inl e ↦ let m : event * padded_period t ≡ kept * padded_period t = ap (λ x. x * padded_period t) e in n (omega arith)
      | inr m ↦ places_apart t event kept d k.difference ld k.below m q
    ]

    never : (d : ℕ) → d ≡ k.difference → family_at t ys kept k.difference ≡ false → family_at t ys kept d ≡ true → ⊥
    never d e z s = let y : family_at t ys kept k.difference ≡ true = ap (λ x. family_at t ys kept x) (sym e) ∙ s in absurd (cc)

    twin : (d : ℕ) → d < t → (d + first) % t ≡ p → d ≡ k.difference
    twin d ld e =
        let a : first + d ≡ d + first = omega arith in
        let b : first + k.difference ≡ k.difference + first = omega arith in
        cancel first d k.difference t (omega arith) ld k.below (mod_same _ _ t a ∙ (e ∙ (sym k.leads ∙ sym (mod_same _ _ t b))))

-- at the period's start all is narrowed
pub all_places : (t kept other first n : ℕ) (old : Family) (ys : List ℕ)
    → Partly t kept other first n 0 old (family_at t ys) → NarrowsFamily t kept other first n old (family_at t ys)
all_places t kept other first n old ys h = record {
  else = h.else;
  was = h.was;
  found = λ d s. h.found d (below t kept d ys s) (omega arith) s;
  all = h.all;
}

-- a window of the whole period finds each difference
pub whole : (t kept other first n b : ℕ) (ws : List ℕ) → 0 < t → t ≤ n → family_at t ws other b ≡ true
    → NarrowsFamily t kept other first n (family_at t ws) (family_at t ws)
whole t kept other first n b ws p m s = record {
  else = λ _ _ _. refl;
  was = λ _ h. h;
  found = λ d _. (
    (b + (t - (d + first) % t)) % t,
    (let l : (b + (t - (d + first) % t)) % t < t = omega arith in omega arith),
    swapped (family_at t ws) other (back d) s,
  );
  all = λ _ h _. h;
}
  where
    back : (d : ℕ) → (d + (first + (b + (t - (d + first) % t)) % t)) % t ≡ b
    back d =
        let r = (d + first) % t in
        let q = (d + first) / t in
        let u : d + (first + (b + (t - r)) % t) ≡ d + first + (b + (t - r)) % t = omega arith in
        let v : d + first + (b + (t - r)) ≡ b + t + t * q = omega arith in
        mod_same _ _ t u ∙ (mod_inner (d + first) (b + (t - r)) t p
        ∙ (mod_same _ _ t v ∙ (add-mul-mod_self_left (b + t) t q
        ∙ (mod_more b t ∙ mod-eq_of_lt (below t other b ws s)))))

-- ---- one step down

bool_cases : (b : Bool) → (b ≡ true) ⊎ (b ≡ false)
bool_cases true = inl refl
bool_cases false = inr refl

pub gap_step : (t kept other first n i p gap next : ℕ) (old : Family) (xs : List ℕ) → i < t → p ≡ t - 1 - i
    → kept ≢ other → IsGap t other old (t - i) gap → Partly t kept other first n (t - i) old (family_at t xs)
    → (is_set xs (other * padded_period t + p) ≡ true → next ≡ 0)
    → (is_set xs (other * padded_period t + p) ≡ false → next ≡ gap + 1) → IsGap t other old p next
gap_step t kept other first n i p gap next old xs l ep ne gaps part here further =
    let lp : p < t = omega arith in
    let up : t - i ≡ p + 1 = omega arith in
    let same : old other p ≡ is_set xs (other * padded_period t + p) = sym (part.else other p (λ e. ne (sym e))) ∙ at_place t other p xs lp in
    elim (bool_cases (is_set xs (other * padded_period t + p))) [
      | inl e ↦ subst (λ g. IsGap t other old p g) (sym (here e)) (gap_here t other p old lp (same ∙ e))
      | inr e ↦ subst (λ g. IsGap t other old p g) (sym (further e))
          (gap_further t other p gap old lp (same ∙ e) (subst (λ m. IsGap t other old m gap) up gaps))
    ]

pub partly_step : (t kept other first n i p next : ℕ) (old : Family) (xs ys : List ℕ) → i < t → p ≡ t - 1 - i
    → n < t → first < t → IsGap t other old p next → Partly t kept other first n (t - i) old (family_at t xs)
    → (n ≤ next → IsTaken t kept first p xs ys) → (next < n → ys ≡ xs) → Partly t kept other first n p old (family_at t ys)
partly_step t kept other first n i p next old xs ys l ep m lf gaps part taken same =
    let lp : p < t = omega arith in
    let up : t - i ≡ p + 1 = omega arith in
    let before : Partly t kept other first n (p + 1) old (family_at t xs) =
    subst (λ k. Partly t kept other first n k old (family_at t xs)) up part in
    elim (cases_lt next n) [
      | inl g ↦ subst (λ zs. Partly t kept other first n p old (family_at t zs)) (sym (same g))
          (kept_one t kept other first n p next old (family_at t xs) lp m g gaps before)
      | inr g ↦ taken_one t kept other first n p next old xs ys lp lf g gaps (taken g) before
    ]
