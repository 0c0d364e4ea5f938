-- Each event has a first event of its component, and the differences of times to it are a supported family.
use Rattle.std.proofs.Common.{◌≡◌, ℕ, ◌<◌, ◌≤◌, List, length, refl, ap, arith, sym, ◌∙◌, subst, Bool, true, false}
use Rattle.std.specs.Prelude.{nat_eq, nat_lt, ◌&&◌, ℤ, pos, ◌-ℤ◌, slice_index}
use Rattle.std.proofs.lemmas.Int.{ints}
use Rattle.std.proofs.lemmas.Bool.Decides.{nat_tests}
use Rattle.pesp_problem.specs.Timetables.{remainder, difference}
use Rattle.pesp_problem.specs.Arcs.{Net, arc_at, slacks_at}
use Rattle.pesp_problem.specs.Nodes.{slack_range, SlacksIn}
use Rattle.pesp_problem.specs.Families.{Family, IsSupported, IsWithin, remainder_of}
use Rattle.pesp_problem.proofs.Joined.{first_event, first_is, one_first, row_first}
use Rattle.pesp_problem.proofs.Remainders.{remainder_of_both}
use Rattle.pesp_problem.specs.ArcLimits.{HaveEnds}
use Rattle.pesp_propagate.specs.Answers.{HasDifferences}

-- ---- differences

-- the difference of an event's time to that of its first event
own : Net → List ℕ → ℕ → ℕ
own n times x = remainder n.period (difference times (first_event n.arcs x) x)

differences : Net → ℕ → List ℕ → Family
differences n events times x d = nat_lt x events && nat_eq d (own n times x)

in_both : (b c : Bool) → b ≡ true → c ≡ true → (b && c) ≡ true
in_both true c e f = f
in_both false c e f = cc

of_both : (b c : Bool) → (b && c) ≡ true → (b ≡ true) × (c ≡ true)
of_both true c e = (refl, e)
of_both false c e = absurd (cc)

is_difference : (n : Net) (events : ℕ) (times : List ℕ) (x d : ℕ) → x < events → d ≡ own n times x → differences n events times x d ≡ true
unfolding differences
is_difference n events times x d l e = in_both _ _ (is_lt x events l) (is_eq d (own n times x) e)
  where
    is_lt : (x n : ℕ) → x < n → nat_lt x n ≡ true
    is_lt x n h = grind (arith, nat_tests)

    is_eq : (x y : ℕ) → x ≡ y → nat_eq x y ≡ true
    is_eq x y h = grind (arith, nat_tests)

difference_is : (n : Net) (events : ℕ) (times : List ℕ) (x d : ℕ) → differences n events times x d ≡ true
    → (x < events) × (d ≡ own n times x)
unfolding differences
difference_is n events times x d h = let q = of_both _ _ h in (lt_is x events q.0, eq_is d (own n times x) q.1)
  where
    lt_is : (x n : ℕ) → nat_lt x n ≡ true → x < n
    lt_is x n h = grind (arith, nat_tests)

    eq_is : (x y : ℕ) → nat_eq x y ≡ true → x ≡ y
    eq_is x y h = grind (arith, nat_tests)

-- between the differences of its ends an arc has its slack
between : (n : Net) (times : List ℕ) (i : ℕ) → 0 < n.period → i < length n.arcs
    → remainder_of n.period (arc_at n.arcs i) (own n times (arc_at n.arcs i).tail)
    (own n times (arc_at n.arcs i).head) ≡ slacks_at n times i
unfolding own
between n times i p l =
    let arc = arc_at n.arcs i in
    let f = first_event n.arcs arc.tail in
    let g = first_event n.arcs arc.head in
    let q : slice_index times f ≡ slice_index times g = ap (λ (x : ℕ). slice_index times x) (row_first n.arcs i l) in
    remainder_of_both n.period (difference times g arc.head) (difference times f arc.tail) arc.lower p
    ∙ ap (λ (z : ℤ). remainder n.period z) (sums (slice_index times arc.head) (slice_index times arc.tail)
    (slice_index times f) (slice_index times g) arc.lower q)
  where
    sums : (h t f g : ℕ) (l : ℤ) → f ≡ g → ((pos h -ℤ pos g) -ℤ (pos t -ℤ pos f)) -ℤ l ≡ (pos h -ℤ pos t) -ℤ l
    sums h t f g l q = omega (arith, ints)

supported : (n : Net) (ranges : List (ℕ × ℕ)) (events : ℕ) (times : List ℕ) → 0 < n.period → HaveEnds events n.arcs
    → SlacksIn n (slacks_at n times) ranges → IsSupported n ranges (differences n events times)
supported n ranges events times p ends slacks i l =
    let arc = arc_at n.arcs i in
    let e = ends i l in
    let s = slacks i l in
    let m : remainder_of n.period arc (own n times arc.tail) (own n times arc.head) ≡ slacks_at n times i = between n times i p l in
    let lo : (slack_range ranges i).0 ≤ slacks_at n times i = s.0 in
    let hi : slacks_at n times i ≤ (slack_range ranges i).1 = s.1 in
    record {
      tails = λ a d.
          let q = difference_is n events times arc.tail a d in
          let r : remainder_of n.period arc a (own n times arc.head)
          ≡ remainder_of n.period arc (own n times arc.tail) (own n times arc.head) =
          ap (λ (x : ℕ). remainder_of n.period arc x (own n times arc.head)) q.1 in (
            own n times arc.head,
            is_difference n events times arc.head (own n times arc.head) e.1 refl,
            record { low = omega arith; high = omega arith; loop = λ t. q.1 ∙ ap (λ (x : ℕ). own n times x) t },
          );
      heads = λ b d.
          let q = difference_is n events times arc.head b d in
          let r : remainder_of n.period arc (own n times arc.tail) b
          ≡ remainder_of n.period arc (own n times arc.tail) (own n times arc.head) =
          ap (λ (x : ℕ). remainder_of n.period arc (own n times arc.tail) x) q.1 in (
            own n times arc.tail,
            is_difference n events times arc.tail (own n times arc.tail) e.0 refl,
            record {
              low = omega arith;
              high = omega arith;
              loop = λ t. ap (λ (x : ℕ). own n times x) t ∙ sym q.1;
            },
          );
    }

-- what keeps every supported family keeps the differences of times
pub times_kept : (n : Net) (ranges : List (ℕ × ℕ)) (events : ℕ) (old new : Family) → 0 < n.period
    → HaveEnds events n.arcs → ((s : Family) → IsSupported n ranges s → IsWithin s old → IsWithin s new)
    → (times : List ℕ) → SlacksIn n (slacks_at n times) ranges → HasDifferences n events times old → HasDifferences n events times new
unfolding own
times_kept n ranges events old new p ends keeps times slacks has x f l first =
    let P : ℕ → Type 0 = λ g. new x (remainder n.period (difference times g x)) ≡ true in
    let within : IsWithin (differences n events times) old = λ y d m.
    let q = difference_is n events times y d m in
    let Q : ℕ → Type 0 = λ e. old y e ≡ true in
    subst Q (sym q.1) (has y (first_event n.arcs y) q.0 (first_is n.arcs y)) in
    subst P (sym (one_first n.arcs x f first))
    (keeps (differences n events times) (supported n ranges events times p ends slacks) within x
    (own n times x) (is_difference n events times x (own n times x) l refl))
