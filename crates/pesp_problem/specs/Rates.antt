-- Working numbers of a leaf: for each row what its plain passes and its flipped ones count.
use Rattle.std.specs.Prelude.{◌≡◌, ℕ, ◌<◌, ◌≤◌, ◌*◌, ◌^◌, List, length, slice_index_or, ℤ, pos, unsigned_abs, if◌then◌else◌, ◌==◌, ◌&&◌, not, ◌+◌, Bool}
use Rattle.pesp_problem.specs.declared.marked.MarkedRow.{MarkedRow}
use Rattle.pesp_problem.specs.Marked.{rate}
use Rattle.pesp_problem.specs.declared.rates.Rates.{Rates}

-- both numbers 0, as for a row that no marked walk passes
abbrev pub none : Rates
none = record { plain = pos 0; flipped = pos 0 }

-- the numbers of the row at place i
abbrev pub rates_at : List Rates → ℕ → Rates
rates_at rates i = slice_index_or rates i none

-- the number of the flipped passes, or that of the plain ones
abbrev pub rate_of : Bool → Rates → ℤ
rate_of flipped r = if flipped then r.flipped else r.plain

-- what is added to the plain or to the flipped passes, where it is one of these
abbrev pub more_of : Bool → ℤ → Bool → ℤ
more_of flipped by b = if (if b then flipped else not flipped) then by else pos 0

-- the rate of a marked row, where it passes the row at place i so
abbrev pub passed : ℕ → ℕ → ℕ → Bool → MarkedRow → ℤ
passed period alpha i flipped s = if (s.signed.row == i + 1)
    && (if flipped then s.flipped else not s.flipped) then pos (rate period alpha s) else pos 0

-- the numbers are small enough to go on with, where so many marked walks were added
abbrev pub AreSmallRates : ℕ → List Rates → Type 0
AreSmallRates walks rates = (i : ℕ) (flipped : Bool) → i < length rates → unsigned_abs (rate_of flipped (rates_at rates i)) ≤ walks * 10 ^ 23

-- all numbers are 0
abbrev pub AreNoRates : List Rates → Type 0
AreNoRates rates = (i : ℕ) → i < length rates → rates_at rates i ≡ none
