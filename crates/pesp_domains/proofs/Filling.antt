-- Full sets, one after another.
use Rattle.std.proofs.Common.{◌≡◌, ◌≢◌, ℕ, ◌+◌, ◌*◌, ◌<◌, ◌≤◌, inl, inr, List, length, arith, sym, subst}
use Rattle.std.specs.Prelude.{◌↔◌}
use Rattle.std.proofs.lemmas.Bool.{cases_eq, cases_lt}
use borrow.Rule.Slice.PartMut.{put_mid}
use Rattle.pesp_problem.specs.Arcs.{Net}
use Rattle.pesp_problem.specs.Forests.{IsFirstOf}
use Rattle.pesp_domains.specs.Bits.{bit}
use Rattle.pesp_domains.specs.Sets.{set_of}
use Rattle.pesp_domains.specs.Domains.{width_of, SetRows, AreKept, family_of}
use Rattle.pesp_domains.specs.Full.{IsFull}
use Rattle.pesp_domains.specs.Filling.{IsFullSet, AreFull}
use Rattle.pesp_domains.proofs.Narrowing.{set_else, set_here}
use Rattle.pesp_domains.proofs.Holding.{empty_past}
use Rattle.pesp_domains.proofs.Revising.{is_one, one_is}

-- a component has one first event
pub one_first : (n : Net) (event first : ℕ) → IsFirstOf n.arcs event first → IsFirstOf n.arcs event event → first ≡ event
one_first n event first f e = let a : first ≤ event = f.least event e.joined in
    let b : event ≤ first = e.least first f.joined in omega arith

-- what a fill leaves
pub record IsFilled (count len : ℕ) (set : List ℕ) : Type 0 where
  pub ones : (d : ℕ) → d < count → d < 64 * len → bit set d ≡ 1
  pub zeros : (d : ℕ) → count ≤ d → bit set d ≡ 0

filled_is : (count len : ℕ) (set : List ℕ) → IsFilled count len set → count ≤ 64 * len → (d : ℕ) → (bit set d ≡ 1) ↔ (d < count)
filled_is count len set f l d = (
  λ b. elim (cases_lt d count) [ inl m ↦ m | inr m ↦ let z : bit set d ≡ 0 = f.zeros d m in absurd (omega arith) ],
  λ m. f.ones d m (omega arith),
)

pub full_first : (n : Net) (event first len count : ℕ) (set : List ℕ) → 0 < n.period → n.period ≤ 64 * len
    → IsFirstOf n.arcs event first → first ≡ event → count ≡ 1 → IsFilled count len set → IsFullSet n event set
full_first n event first len count set p l f e c h =
    let is : (d : ℕ) → (bit set d ≡ 1) ↔ (d < count) = filled_is count len set h (omega arith) in
    record {
      clear = λ d m. h.zeros d (omega arith);
      first = λ d _. (λ b. let q : d < count = (is d).0 b in omega arith, λ z. (is d).1 (omega arith));
      others = λ d no. let P : ℕ → Type 0 = λ x. IsFirstOf n.arcs event x in absurd (no (subst P e f));
    }

pub full_other : (n : Net) (event first len count : ℕ) (set : List ℕ) → n.period ≤ 64 * len
    → IsFirstOf n.arcs event first → first ≢ event → count ≡ n.period → IsFilled count len set
    → IsFullSet n event set
full_other n event first len count set l f ne c h =
    let is : (d : ℕ) → (bit set d ≡ 1) ↔ (d < count) = filled_is count len set h (omega arith) in
    record {
      clear = λ d m. h.zeros d (omega arith);
      first = λ d e. absurd (ne (one_first n event first f e));
      others = λ d _. (λ b. let q : d < count = (is d).0 b in omega arith, λ m. (is d).1 (omega arith));
    }

pub full_more : (n : Net) (event w : ℕ) (xs ys : List ℕ) → w ≡ width_of n.period → event * w + w ≤ length xs
    → length ys ≡ w → AreFull n event xs → IsFullSet n event ys
    → AreFull n (event + 1) (put_mid (event * w) w xs ys)
full_more n event w xs ys e l ly h here x lx =
    let P : List ℕ → Type 0 = λ set. IsFullSet n x set in
    let W : ℕ → Type 0 = λ v. IsFullSet n x (set_of v (put_mid (event * w) w xs ys) x) in
    subst W e (elim (cases_eq x event) [
      | inl q ↦
          let Q : ℕ → Type 0 = λ z. IsFullSet n z (set_of w (put_mid (event * w) w xs ys) z) in
          let R : List ℕ → Type 0 = λ set. IsFullSet n event set in
          subst Q (sym q) (subst R (sym (set_here w event xs ys l ly)) here)
      | inr ne ↦
          let V : ℕ → Type 0 = λ v. IsFullSet n x (set_of v xs x) in
          subst P (sym (set_else w event x xs ys l ly ne)) (subst V (sym e) (h x (omega arith)))
    ])

pub full_kept : (n : Net) (events : ℕ) (words : List ℕ) → 0 < n.period → n.period ≤ 10000 → events ≤ 100000
    → length words ≡ events * width_of n.period → AreFull n events words
    → AreKept (record { period = n.period; events = events; words = words })
full_kept n events words p t m l h = record {
  some_period = p;
  period_most = t;
  events_most = m;
  long = l;
  clear = λ x d q. elim (cases_lt x events) [
    | inl b ↦ (h x b).clear d q
    | inr b ↦ past x d b
  ];
}
  where
    past : (x d : ℕ) → events ≤ x → bit (set_of (width_of n.period) words x) d ≡ 0
    past x d b = empty_past (width_of n.period) events x words l b d

pub full_is : (n : Net) (events : ℕ) (words : List ℕ) → AreFull n events words
    → IsFull n events (family_of (record { period = n.period; events = events; words = words }))
full_is n events words h = record {
  first = λ x d l f. let q = (h x l).first d f in (λ s. q.0 (is_one _ s), λ z. one_is _ (q.1 z));
  others = λ x d l f. let q = (h x l).others d f in (λ s. q.0 (is_one _ s), λ z. one_is _ (q.1 z));
}

pub full_view : (t n u m : ℕ) (xs ys : List ℕ) (P : SetRows → Type 0) → t ≡ u → n ≡ m → xs ≡ ys
    → P (record { period = t; events = n; words = xs }) → P (record { period = u; events = m; words = ys })
full_view t n u m xs ys P e f g h =
    let A : ℕ → Type 0 = λ k. P (record { period = k; events = n; words = xs }) in
    let B : ℕ → Type 0 = λ k. P (record { period = u; events = k; words = xs }) in
    let C : List ℕ → Type 0 = λ ws. P (record { period = u; events = m; words = ws }) in
    subst C g (subst B f (subst A e h))
