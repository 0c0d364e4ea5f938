-- The sets at the start.
use Rattle.std.proofs.Common.{◌≡◌, ◌≢◌, ℕ, ◌+◌, ◌*◌, ◌/◌, ◌%◌, ◌<◌, ◌≤◌, ◌⊎◌, inl, inr, List, length, ap, sym, ◌∙◌, arith, subst, true, false}
use Rattle.std.specs.Prelude.{slice_index, nat_eq, ◌↔◌}
use Rattle.std.specs.Int.{bit_at}
use Rattle.std.proofs.lemmas.Bool.{cases_lt}
use Rattle.std.proofs.lemmas.Nat.{mul-add-lt}
use Rattle.std.proofs.lemmas.Nat.Bits.{bit_at_ones}
use Rattle.std.proofs.lemmas.List.{get_or-map, length-map}
use Rattle.std.proofs.lemmas.List.Elements.{All-get_or}
use Rattle.pesp_problem.specs.declared.arc.Arc.{Arc}
use Rattle.pesp_problem.specs.Timetables.{Pesp, no_row}
use Rattle.pesp_problem.specs.Arcs.{arc_of, arcs_of, no_arc}
use Rattle.pesp_problem.specs.Forests.{IsFirstOf}
use Rattle.pesp_problem.specs.Limits.{KeepsLimits, RowKeepsLimits}
use Rattle.pesp_problem.specs.Families.{Family, NoFamilyIsSupported}
use Rattle.pesp_truth.specs.Sets.{is_set, padded_period, family_at}
use Rattle.pesp_problem.specs.ArcLimits.{HaveEnds}
use Rattle.pesp_truth.specs.Rounds.{net_at, IsWide}
use Rattle.pesp_truth.specs.Supports.{IsStart, Rows}
use Rattle.pesp_truth.proofs.Placing.{span_most, at_place, below, places_apart, same_places, true_or_false}

pub full_word : (ws : List ℕ) (place : ℕ) → slice_index ws (place / 64) ≡ 18446744073709551615 → is_set ws place ≡ true
unfolding is_set
full_word ws place e = ap (λ (w : ℕ). nat_eq (bit_at w (place % 64)) 1) e
    ∙ ap (λ (m : ℕ). nat_eq m 1) (bit_at_ones 64 (place % 64) (omega arith))

same_or : (a b : ℕ) → (a ≡ b) ⊎ (a ≢ b)
same_or a b = grind arith

-- the differences from 1 on are taken one after another
pub record Taking (t event i : ℕ) (old new : List ℕ) : Type 0 where
  pub gone : (d : ℕ) → 1 ≤ d → d < i → family_at t new event d ≡ false
  pub zero : family_at t new event 0 ≡ family_at t old event 0
  pub others : (other d : ℕ) → other ≢ event → family_at t new other d ≡ family_at t old other d

pub taking_more : (t event i : ℕ) (old xs ys : List ℕ) → 1 ≤ i → i < t → Taking t event i old xs
    → is_set ys (event * padded_period t + i) ≡ false → ((other : ℕ) → other ≢ event * padded_period t + i
    → is_set ys other ≡ is_set xs other) → Taking t event (i + 1) old ys
taking_more t event i old xs ys one l h gone others = record {
  gone = λ d m k. elim (same_or d i) [
    | inl e ↦ ap (λ x. family_at t ys event x) e ∙ (at_place t event i ys l ∙ gone)
    | inr n ↦ same_places t event d xs ys (λ _. others (event * padded_period t + d) (λ q. n (omega arith))) ∙ h.gone d m (omega arith)
  ];
  zero = same_places t event 0 xs ys (λ _. others (event * padded_period t + 0) (λ q. absurd (omega arith))) ∙ h.zero;
  others = λ other d n. same_places t other d xs ys
      (λ ld. others (other * padded_period t + d) (places_apart t other event d i ld l n)) ∙ h.others other d n;
}

pub taken_all : (t event i : ℕ) (old new : List ℕ) → t ≤ i → Taking t event i old new → (d : ℕ) → family_at t new event d ≡ true → d ≡ 0
taken_all t event i old new m h d s = elim (cases_lt d 1) [
  | inl l ↦ omega arith
  | inr k ↦ let b = below t event d new s in absurd (true_or_false _ s (h.gone d k (omega arith)))
]

place_fits : (t event d count m : ℕ) → event < count → d < t → count * padded_period t ≤ m → event * padded_period t + d < m
place_fits t event d count m l ld h = let s = span_most t in let k = mul-add-lt event (padded_period t) d count l (omega arith) in omega arith

pub start_full : (t : ℕ) (firsts ws : List ℕ) (m : ℕ) → 0 < t → length firsts * padded_period t ≤ m
    → ((place : ℕ) → place < m → is_set ws place ≡ true) → IsStart t firsts 0 (family_at t ws)
start_full t firsts ws m p fits full = record {
  zero = λ event l. at_place t event 0 ws p ∙ full (event * padded_period t + 0) (place_fits t event 0 (length firsts) m l p fits);
  alone = λ event d l. absurd (omega arith);
  others = λ event d l n ld. at_place t event d ws ld ∙ full (event * padded_period t + d) (place_fits t event d (length firsts) m l ld fits);
}

pub start_more : (t : ℕ) (firsts xs ys : List ℕ) (event : ℕ) → event < length firsts
    → IsStart t firsts event (family_at t xs) → (slice_index firsts event ≡ event → (d : ℕ)
    → family_at t ys event d ≡ true → d ≡ 0)
    → (slice_index firsts event ≢ event → ys ≡ xs) → family_at t ys event 0 ≡ family_at t xs event 0
    → ((other d : ℕ) → other ≢ event → family_at t ys other d ≡ family_at t xs other d)
    → IsStart t firsts (event + 1) (family_at t ys)
start_more t firsts xs ys event l h alone whole zero others = record {
  zero = λ e b. elim (same_or e event) [
    | inl q ↦ subst (λ x. family_at t ys x 0 ≡ true) (sym q) (zero ∙ h.zero event l)
    | inr n ↦ others e 0 n ∙ h.zero e b
  ];
  alone = λ e d b f s. elim (same_or e event) [
    | inl q ↦ alone (subst (λ x. slice_index firsts x ≡ x) q f) d (subst (λ x. family_at t ys x d ≡ true) q s)
    | inr n ↦ h.alone e d (omega arith) f (sym (others e d n) ∙ s)
  ];
  others = λ e d b n ld. elim (same_or e event) [
    | inl q ↦
        let w : ys ≡ xs = whole (subst (λ x. slice_index firsts x ≢ x) q n) in
        ap (λ (zs : List ℕ). family_at t zs e d) w ∙ h.others e d b n ld
    | inr k ↦ others e d k ∙ h.others e d b n ld
  ];
}

-- what is full at the start has every supported family
pub wide_start : (t : ℕ) (arcs : List Arc) (ranges : List (ℕ × ℕ)) (events : ℕ) (firsts ws : List ℕ) → 0 < t
    → length firsts ≡ events → ((event : ℕ) → event < events → IsFirstOf arcs event (slice_index firsts event))
    → IsStart t firsts (length firsts) (family_at t ws) → IsWide (net_at t arcs) ranges events (family_at t ws)
wide_start t arcs ranges events firsts ws p long first h = record {
  family = record {
    below = λ event d l s. below t event d ws s;
    first = λ event d l f s. h.alone event d (omega arith) (own event l f) s;
  };
  some = λ event l. (0, h.zero event (omega arith));
  keeps = λ s fam sup some event d l m. elim (same_or (slice_index firsts event) event) [
    | inl e ↦
        let z : d ≡ 0 = fam.first event d l (subst (λ x. IsFirstOf arcs event x) e (first event l)) m in
        subst (λ x. family_at t ws event x ≡ true) (sym z) (h.zero event (omega arith))
    | inr n ↦ h.others event d (omega arith) n (fam.below event d l m)
  ];
}
  where
    own : (event : ℕ) → event < events → IsFirstOf arcs event event → slice_index firsts event ≡ event
    own event l f =
        let g = first event l in
        let a : slice_index firsts event ≤ event = g.least event f.joined in
        let b : event ≤ slice_index firsts event = f.least (slice_index firsts event) g.joined in
        omega arith

pub ends_of : (p : Pesp) (arcs : List Arc) (events : ℕ) → arcs ≡ arcs_of p → events ≡ length p.events → KeepsLimits p → HaveEnds events arcs
ends_of p arcs events ea ee k =
    let have : HaveEnds (length p.events) (arcs_of p) = λ i l.
    let m : i < length p.rows = omega (arith, length-map p.rows (arc_of p.period)) in
    let r = All-get_or (RowKeepsLimits (length p.events)) p.rows i no_row m k.each in
    let q = get_or-map (arc_of p.period) p.rows i no_row no_arc m in
    let t = ap (λ (a : Arc). a.tail) q in
    let d = ap (λ (a : Arc). a.head) q in
    let rt = r.tail in
    let rh = r.head in
    (omega arith, omega arith) in
    subst (λ (x : List Arc). HaveEnds events x) (sym ea) (subst (λ (x : ℕ). HaveEnds x (arcs_of p)) (sym ee) have)

-- ---- the question

pub wide_at : (t : ℕ) (arcs brcs : List Arc) (ranges : List (ℕ × ℕ)) (events m : ℕ) (xs ys : List ℕ) → brcs ≡ arcs
    → m ≡ events → ys ≡ xs → IsWide (net_at t arcs) ranges events (family_at t xs)
    → IsWide (net_at t brcs) ranges m (family_at t ys)
wide_at t arcs brcs ranges events m xs ys ea em ex h =
    subst (λ (ws : List ℕ). IsWide (net_at t brcs) ranges m (family_at t ws)) (sym ex)
    (subst (λ k. IsWide (net_at t brcs) ranges k (family_at t xs)) (sym em)
    (subst (λ (a : List Arc). IsWide (net_at t a) ranges events (family_at t xs)) (sym ea) h))

pub start_at : (t : ℕ) (firsts gs : List ℕ) (s : Family) → gs ≡ firsts → IsStart t gs (length gs) s → IsStart t firsts (length firsts) s
start_at t firsts gs s e h = subst (λ (fs : List ℕ). IsStart t fs (length fs) s) e h

pub exact_at : (P : Type 0) (t m events : ℕ) (arcs brcs : List Arc) (ranges : List (ℕ × ℕ)) (v : Rows)
    → brcs ≡ arcs → m ≡ events → record { net = net_at t arcs; events = events } ≡ v
    → P ↔ NoFamilyIsSupported (net_at t brcs) ranges m → P ↔ NoFamilyIsSupported v.net ranges v.events
exact_at P t m events arcs brcs ranges v ea em ev h =
    subst (λ (x : Rows). P ↔ NoFamilyIsSupported x.net ranges x.events) ev
    (subst (λ k. P ↔ NoFamilyIsSupported (net_at t arcs) ranges k) em
    (subst (λ (a : List Arc). P ↔ NoFamilyIsSupported (net_at t a) ranges m) ea h))

pub firsts_at : (arcs brcs : List Arc) (events : ℕ) (firsts : List ℕ) → brcs ≡ arcs
    → ((event : ℕ) → event < events → IsFirstOf brcs event (slice_index firsts event)) → (event : ℕ)
    → event < events → IsFirstOf arcs event (slice_index firsts event)
firsts_at arcs brcs events firsts e h = subst (λ (a : List Arc). (event : ℕ) → event < events
    → IsFirstOf a event (slice_index firsts event)) e h
