-- Domains keep their form.
use Rattle.std.proofs.Common.{◌≡◌, ℕ, ◌+◌, ◌*◌, ◌<◌, ◌≤◌, ◌⊎◌, inl, inr, List, [], ◌++◌, length, take, drop, refl, ap, arith, sym, ◌∙◌, subst, Bool, true, false}
use Rattle.std.specs.Prelude.{nat_eq}
use Rattle.std.proofs.lemmas.Bool.Decides.{nat_tests}
use Rattle.std.proofs.Math.Nat.{mul-le-mul_left}
use Rattle.std.proofs.lemmas.Slice.{between_is}
use Rattle.std.proofs.lemmas.List.{drop_all, take_at, length-take}
use Rattle.pesp_problem.specs.declared.arc.Arc.{Arc}
use Rattle.pesp_problem.specs.Families.{IsWithin}
use Rattle.pesp_domains.specs.Bits.{bit}
use Rattle.pesp_domains.specs.Sets.{set_of, family, IsClear, Narrows, Revises, Changes}
use Rattle.pesp_domains.specs.Domains.{SetRows, width_of, family_of, AreKept, HasScratchRoom, Revised}
use Rattle.pesp_domains.proofs.Revising.{is_one, one_is}
use Rattle.pesp_domains.proofs.Words.{bit-lt, cleared}

zero_of : (a b : ℕ) → a < 2 → b ≡ 0 → (a ≡ 1 → b ≡ 1) → a ≡ 0
zero_of a b l z f = elim (cases a l) [ inl e ↦ e | inr e ↦ let o : b ≡ 1 = f e in absurd (omega arith) ]
  where
    cases : (a : ℕ) → a < 2 → (a ≡ 0) ⊎ (a ≡ 1)
    cases a l = grind arith

pub clear_within : (t w : ℕ) (xs ys : List ℕ) → IsClear t w xs → IsWithin (family w ys) (family w xs) → IsClear t w ys
clear_within t w xs ys c wi x d h = zero_of (bit (set_of w ys x) d) (bit (set_of w xs x) d)
    (bit-lt (set_of w ys x) d) (c x d h) (λ s. is_one _ (wi x d (one_is _ s)))

pub not_one : (n : ℕ) → n ≡ 0 → nat_eq n 1 ≡ false
not_one n h = grind (arith, nat_tests)

-- the whole of a vector was written
pub whole : (len : ℕ) (xs ys : List ℕ) → length ys ≡ len → take len (ys ++ drop (length ys) xs) ≡ ys
whole len xs ys e = take_at ys (drop (length ys) xs) len e

pub kept_is : (t n : ℕ) (arc : Arc) (range : ℕ × ℕ) (xs ys ws : List ℕ) → ws ≡ ys
    → AreKept (record { period = t; events = n; words = xs }) → Revises t (width_of t) arc range xs ys
    → length ys ≡ length xs → AreKept (record { period = t; events = n; words = ws })
kept_is t n arc range xs ys ws e k r l =
    let P : List ℕ → Type 0 = λ zs. AreKept (record { period = t; events = n; words = zs }) in
    subst P (sym e) (record {
      some_period = k.some_period;
      period_most = k.period_most;
      events_most = k.events_most;
      long = l ∙ k.long;
      clear = clear_within t (width_of t) xs ys k.clear r.within;
    })

pub revised_is : (t n : ℕ) (arc : Arc) (range : ℕ × ℕ) (xs ys ws : List ℕ) (now : SetRows) (tail head : Bool)
    → ws ≡ ys → record { period = t; events = n; words = xs } ≡ now
    → Revises t (width_of t) arc range xs ys → Changes (width_of t) arc xs ys tail head
    → Revised arc range now (record { period = t; events = n; words = ws }) tail head
revised_is t n arc range xs ys ws now tail head e f r c =
    let P : List ℕ → Type 0 = λ zs. Revised arc range now (record { period = t; events = n; words = zs }) tail head in
    let Q : SetRows → Type 0 = λ s. Revised arc range s (record { period = t; events = n; words = ys }) tail head in
    subst P (sym e) (subst Q f (record { sizes = record { period = refl; events = refl }; revises = r; changes = c }))

-- an event's words lie within all
pub row_fits : (x n w len : ℕ) → x < n → len ≡ n * w → x * w + w ≤ len
row_fits x n w len h e = omega (arith, mul-le-mul_left w h)

-- past the events no bit is set
pub empty_past : (w n event : ℕ) (words : List ℕ) → length words ≡ n * w → n ≤ event → (d : ℕ) → bit (set_of w words event) d ≡ 0
empty_past w n event words long l d =
    let m : w * n ≤ w * event = mul-le-mul_left w l in
    let e : set_of w words event ≡ [] = between_is words (event * w) (event * w + w)
    ∙ drop_all (event * w) (take (event * w + w) words) (omega (arith, length-take (event * w + w) words)) in
    ap (λ (ws : List ℕ). bit ws d) e ∙ cleared [] 0 (omega arith) (λ m l. absurd (omega arith)) d

-- past the events and past the period nothing is possible
pub nothing_past : (sets : SetRows) (event difference : ℕ) → AreKept sets
    → (sets.events ≤ event) ⊎ (sets.period ≤ difference) → false ≡ family_of sets event difference
nothing_past sets event difference k (inr l) = sym (not_one _ (k.clear event difference l))
nothing_past sets event difference k (inl l) =
    sym (not_one _ (empty_past (width_of sets.period) sets.events event sets.words k.long l difference))

pub revises_at : (t v w : ℕ) (arc : Arc) (range : ℕ × ℕ) (xs zs ys : List ℕ) → v ≡ w → xs ≡ zs
    → Revises t v arc range xs ys → Revises t w arc range zs ys
revises_at t v w arc range xs zs ys e f r =
    let P : ℕ → Type 0 = λ n. Revises t n arc range zs ys in
    let Q : List ℕ → Type 0 = λ ws. Revises t v arc range ws ys in
    subst P e (subst Q f r)

pub changes_at : (v w : ℕ) (arc : Arc) (xs zs ys : List ℕ) (tail head : Bool) → v ≡ w → xs ≡ zs
    → Changes v arc xs ys tail head → Changes w arc zs ys tail head
changes_at v w arc xs zs ys tail head e f r =
    let P : ℕ → Type 0 = λ n. Changes n arc zs ys tail head in
    let Q : List ℕ → Type 0 = λ ws. Changes v arc ws ys tail head in
    subst P e (subst Q f r)

pub narrows_at : (t v w kept other first count : ℕ) (xs ys : List ℕ) → v ≡ w
    → Narrows t v kept other first count xs ys → Narrows t w kept other first count xs ys
narrows_at t v w kept other first count xs ys e h = let P : ℕ → Type 0 = λ n. Narrows t n kept other first count xs ys in subst P e h

pub room_is : (t a b x y : ℕ) → x ≡ a → y ≡ b → HasScratchRoom t a b → HasScratchRoom t x y
room_is t a b x y e f h = record { once = e ∙ h.once; twice = let q = h.twice in omega arith; few = let q = h.few in omega arith }

-- a bit of an event's words is a difference of its set
pub some_difference : (inside now : SetRows) (event : ℕ) (set : List ℕ) → inside ≡ now
    → set ≡ set_of (width_of inside.period) inside.words event → (d : ℕ) × (bit set d ≡ 1)
    → (d : ℕ) × (family_of now event d ≡ true)
some_difference inside now event set e f h =
    let P : SetRows → Type 0 = λ s. (d : ℕ) × (family_of s event d ≡ true) in
    subst P e (h.0, one_is _ (ap (λ (ws : List ℕ). bit ws h.0) (sym f) ∙ h.1))
