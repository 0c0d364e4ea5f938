-- The differences of times to the first events of their components are a family without an empty set, and the rows support it
-- under ranges that have the slacks.
use Rattle.std.proofs.Common.{◌≡◌, ℕ, ◌<◌, List, length, sym, ap, ◌∙◌, arith, subst, true}
use Rattle.std.specs.Prelude.{pos, ◌-ℤ◌, ◌==◌}
use Rattle.std.proofs.lemmas.Int.{ints}
use Rattle.std.proofs.lemmas.Bool.Decides.{nat_tests}
use Rattle.pesp_problem.specs.Timetables.{remainder, difference}
use Rattle.pesp_problem.specs.Arcs.{Net, arc_at, slacks_at}
use Rattle.pesp_problem.specs.Nodes.{SlacksIn, slack_range}
use Rattle.pesp_problem.specs.Forests.{IsFirstOf}
use Rattle.pesp_problem.specs.Families.{Family, IsFamily, ArePartners, IsSupported, NoFamilyIsSupported}
use Rattle.pesp_problem.proofs.Integers.{remainder-lt}
use Rattle.pesp_problem.proofs.Joined.{first_event, one_first, row_first}
use Rattle.pesp_problem.proofs.Remainders.{remainder_of_both, remainder_of_zero}

-- the first event of an event's component
abbrev first_of : Net → ℕ → ℕ
first_of n e = first_event n.arcs e

-- ---- the family

-- the difference of an event's time to that of its component's first event
abbrev difference_of : Net → List ℕ → ℕ → ℕ
difference_of n times e = remainder n.period (difference times (first_of n e) e)

abbrev differences : Net → List ℕ → Family
differences n times e d = d == difference_of n times e

has_one : (n : Net) (times : List ℕ) (e : ℕ) → differences n times e (difference_of n times e) ≡ true
has_one n times e = grind (arith, nat_tests)

only_one : (n : Net) (times : List ℕ) (e d : ℕ) → differences n times e d ≡ true → d ≡ difference_of n times e
only_one n times e d h = grind (arith, nat_tests)

-- a component's first event is its own
own_first : (n : Net) (e : ℕ) → IsFirstOf n.arcs e e → first_of n e ≡ e
own_first n e f = sym (one_first n.arcs e e f)

none_at_first : (n : Net) (times : List ℕ) (e : ℕ) → 0 < n.period → first_of n e ≡ e → difference_of n times e ≡ 0
none_at_first n times e h f = ap (λ (x : ℕ). remainder n.period (difference times x e)) f
    ∙ remainder_of_zero n.period (difference times e e) h (omega (arith, ints))

are_family : (n : Net) (events : ℕ) (times : List ℕ) → 0 < n.period → IsFamily n events (differences n times)
are_family n events times h = record {
  below = λ e d l s. omega (arith, only_one n times e d s, remainder-lt (difference times (first_of n e) e) n.period h);
  first = λ e d l f s. only_one n times e d s ∙ none_at_first n times e h (own_first n e f);
}

-- the remainder between the differences at an arc's ends is its slack
between : (n : Net) (times : List ℕ) (i : ℕ) → 0 < n.period → i < length n.arcs
    → remainder n.period (pos (difference_of n times (arc_at n.arcs i).head) -ℤ pos
    (difference_of n times (arc_at n.arcs i).tail) -ℤ (arc_at n.arcs i).lower) ≡ slacks_at n times i
between n times i h l =
    let arc = arc_at n.arcs i in
    let first = first_of n arc.tail in
    let same : difference_of n times arc.head ≡ remainder n.period (difference times first arc.head) =
    ap (λ (x : ℕ). remainder n.period (difference times x arc.head)) (sym (row_first n.arcs i l)) in
    let both = remainder_of_both n.period (difference times first arc.head) (difference times first arc.tail) arc.lower h in
    let apart : (difference times first arc.head -ℤ difference times first arc.tail) -ℤ arc.lower
    ≡ difference times arc.tail arc.head -ℤ arc.lower = omega (arith, ints) in
    ap (λ (x : ℕ). remainder n.period (pos x -ℤ pos (difference_of n times arc.tail) -ℤ arc.lower)) same ∙ both
    ∙ ap (remainder n.period) apart

are_supported : (n : Net) (ranges : List (ℕ × ℕ)) (times : List ℕ) → 0 < n.period
    → SlacksIn n (slacks_at n times) ranges → IsSupported n ranges (differences n times)
are_supported n ranges times h within i l =
    let arc = arc_at n.arcs i in
    let slack = between n times i h l in
    let loop = λ (e : arc.tail ≡ arc.head). ap (difference_of n times) e in
    let partners : ArePartners n.period arc (slack_range ranges i) (difference_of n times arc.tail)
    (difference_of n times arc.head) = record {
      low = omega (arith, slack, (within i l).0);
      high = omega (arith, slack, (within i l).1);
      loop = loop;
    } in
    record {
      tails = λ t s. (
        difference_of n times arc.head,
        has_one n times arc.head,
        subst (λ (x : ℕ). ArePartners n.period arc (slack_range ranges i) x (difference_of n times arc.head))
            (sym (only_one n times arc.tail t s)) partners,
      );
      heads = λ d s. (
        difference_of n times arc.tail,
        has_one n times arc.tail,
        subst (λ (x : ℕ). ArePartners n.period arc (slack_range ranges i) (difference_of n times arc.tail) x)
            (sym (only_one n times arc.head d s)) partners,
      );
    }

-- so where no family without an empty set is supported, no times have their slacks in the ranges
pub differences_are_supported : (n : Net) (ranges : List (ℕ × ℕ)) (times : List ℕ) (events : ℕ) → 0 < n.period
    → SlacksIn n (slacks_at n times) ranges → NoFamilyIsSupported n ranges events → ⊥
differences_are_supported n ranges times events h within none =
    none (differences n times) (are_family n events times h) (are_supported n ranges times h within)
    (λ e l. (difference_of n times e, has_one n times e))
