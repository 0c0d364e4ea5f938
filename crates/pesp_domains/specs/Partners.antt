-- What an arc supports at its ends, of two sets of differences, and the shifts that lead from an end to the other.
use Rattle.std.specs.Prelude.{◌≡◌, ℕ, ◌+◌, ◌-◌, ◌*◌, ◌%◌, ◌≤◌, List, min, nat_le, ◌&&◌, if◌then◌else◌}
use Rattle.pesp_problem.specs.declared.arc.Arc.{Arc}
use Rattle.pesp_problem.specs.Timetables.{remainder}
use Rattle.pesp_problem.specs.Families.{ArePartners}
use Rattle.pesp_domains.specs.Bits.{bit}

-- no number from the period on
abbrev pub NoBitAbove : ℕ → List ℕ → Type 0
NoBitAbove period set = (d : ℕ) → period ≤ d → bit set d ≡ 0

-- kept are exactly those numbers that were there and are related to one of the others
pub record KeepsRelated (R : ℕ → ℕ → Type 0) (old others new : List ℕ) : Type 0 where
  pub was : (d : ℕ) → bit new d ≡ 1 → bit old d ≡ 1
  pub found : (d : ℕ) → bit new d ≡ 1 → (e : ℕ) × (bit others e ≡ 1) × R d e
  pub all : (d e : ℕ) → bit old d ≡ 1 → bit others e ≡ 1 → R d e → bit new d ≡ 1

-- kept are the differences at the tail that have a partner at the head
abbrev pub KeepsTails : ℕ → Arc → ℕ × ℕ → List ℕ → List ℕ → List ℕ → Type 0
KeepsTails period arc range tails heads new = KeepsRelated (λ at_tail at_head. ArePartners period arc range at_tail at_head) tails heads new

-- kept are the differences at the head that have a partner at the tail
abbrev pub KeepsHeads : ℕ → Arc → ℕ × ℕ → List ℕ → List ℕ → List ℕ → Type 0
KeepsHeads period arc range tails heads new = KeepsRelated (λ at_head at_tail. ArePartners period arc range at_tail at_head) heads tails new

-- the greatest remainder of a range that there is
abbrev pub greatest : ℕ → ℕ × ℕ → ℕ
greatest period range = min range.1 (period - 1)

-- how many remainders a range has
abbrev pub count_in_range : ℕ → ℕ × ℕ → ℕ
count_in_range period range = greatest period range + 1 - range.0

-- the first shift from the tail to the head, and from the head to the tail
abbrev pub first_ahead : ℕ → Arc → ℕ × ℕ → ℕ
first_ahead period arc range = (remainder period arc.lower + range.0) % period

-- the first shift from the head to the tail
abbrev pub first_back : ℕ → Arc → ℕ × ℕ → ℕ
first_back period arc range = (2 * period - remainder period arc.lower - greatest period range) % period

-- the remainder of a loop, whatever the difference
abbrev pub loop_remainder : ℕ → Arc → ℕ
loop_remainder period arc = (period - remainder period arc.lower) % period

-- 1 where the remainder of a loop is in the range, else 0
abbrev pub loop_count : ℕ → Arc → ℕ × ℕ → ℕ
loop_count period arc range = if nat_le range.0 (loop_remainder period arc)
    && nat_le (loop_remainder period arc) (greatest period range) then 1 else 0
