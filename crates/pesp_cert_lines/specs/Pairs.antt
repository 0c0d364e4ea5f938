-- The pairs of a leaf line: cycle numbers that rise, each with a multiplier other than 0.
use Rattle.std.specs.Prelude.{◌≡◌, ℕ, ◌+◌, ◌≤◌, Bool, true, false, ◌&&◌, not, ◌==◌, nat_le, if◌then◌else◌, ℤ, nat_abs, Option, Some, None, Result, Ok, Err, List, [], ◌∷◌, length, decimal}
use Rattle.std.specs.List.{list_all}
use Rattle.std.specs.Option.{option_and_then, option_map}
use Rattle.std.specs.Fmt.{signed_decimal}
use Rattle.pesp_problem.specs.declared.limits.TheConstants.{MOST_CYCLES, MOST_MULTIPLIER}
use Rattle.pesp_problem.specs.declared.pair.Pair.{Pair}
use Rattle.pesp_stream.specs.Number.{natural_of, whole_of}
use Rattle.pesp_cert_lines.specs.declared.rows.TheConstants.{MOST_WORDS}
use Rattle.pesp_cert_lines.specs.declared.fault.LineFault.{LineFault}
use Rattle.pesp_cert_lines.specs.declared.fault.LineFault.TheVariants.{Number, Limit}

-- the number and the multiplier of a pair are within their limits
abbrev pub is_pair_within : Pair → Bool
is_pair_within p = nat_le 1 p.cycle && nat_le p.cycle MOST_CYCLES && nat_le (nat_abs p.mult) MOST_MULTIPLIER

-- so are those of each pair
abbrev pub all_within : List Pair → Bool
all_within ps = list_all is_pair_within ps

-- ---- the spelling: the cycle's number and the multiplier, two words a pair

-- the words of pairs
abbrev pub pair_words : List Pair → List (List ℕ)
pair_words [] = []
pair_words (p ∷ ps) = decimal p.cycle ∷ signed_decimal p.mult ∷ pair_words ps

-- a cycle number of at least `least`, and a multiplier other than 0
abbrev pub follows : ℕ → Pair → Bool
follows least p = nat_le least p.cycle && not (nat_abs p.mult == 0)

-- the cycle numbers rise from least on, and no multiplier is 0
abbrev pub rise_from : ℕ → List Pair → Bool
rise_from least [] = true
rise_from least (p ∷ ps) = follows least p && rise_from (p.cycle + 1) ps

-- ---- reading

-- two words that spell a cycle number of at least `least` and a multiplier
unfoldable pub pair_at : ℕ → List ℕ → List ℕ → Option (ℕ × ℤ)
pair_at least c m = option_and_then (λ n. option_and_then
    (λ z. if nat_le least n && not (nat_abs z == 0) then Some (n, z) else None) (whole_of m)) (natural_of c)

-- the pairs that words spell two by two, where the cycle numbers rise from least on
unfoldable pub pairs_from : ℕ → List (List ℕ) → Option (List Pair)
pairs_from least [] = Some []
pairs_from least (c ∷ []) = None
pairs_from least (c ∷ m ∷ ws) = option_and_then
    (λ p. option_map (λ ps. record { cycle = p.0; mult = p.1 } ∷ ps) (pairs_from (p.0 + 1) ws)) (pair_at least c m)

-- the spelling first, then the limits
abbrev pub pairs_within : Option (List Pair) → Result (List Pair) LineFault
pairs_within None = Err Number
pairs_within (Some ps) = if all_within ps then Ok ps else Err Limit

-- how many they are, behind n others
abbrev pub counted_pairs : ℕ → Bool → Option (List Pair) → Result ℕ LineFault
counted_pairs n within None = Err Number
counted_pairs n within (Some ps) = if within && all_within ps then Ok (n + length ps) else Err Limit

-- how many they are, behind no others
abbrev pub count_of_pairs : Option (List Pair) → Result ℕ LineFault
count_of_pairs o = counted_pairs 0 true o

-- ---- the pairs that are left in a line that was judged

-- the pairs that words spell, none where they spell no pairs
abbrev pub pairs_left : Option (List Pair) → List Pair
pairs_left None = []
pairs_left (Some ps) = ps

-- whether words spell pairs within their limits
abbrev pub pairs_are_good : Option (List Pair) → Bool
pairs_are_good None = false
pairs_are_good (Some ps) = all_within ps

-- the words spell pairs within their limits, and so many
pub record PairsAreGood (pairs : Option (List Pair)) (number : ℕ) : Type 0 where
  pub good : pairs_are_good pairs ≡ true
  pub count : number ≡ length (pairs_left pairs)
  pub short : number ≤ MOST_WORDS

-- the first pair of the words and the words of the others, or there is none
abbrev pub BeginsPairs : Option Pair → ℕ → List (List ℕ) → List (List ℕ) → Type 0
BeginsPairs None least old new = (pairs_are_good (pairs_from least new) ≡ true)
    × (pairs_left (pairs_from least old) ≡ []) × (pairs_left (pairs_from least new) ≡ [])
BeginsPairs (Some p) least old new = (pairs_are_good (pairs_from (p.cycle + 1) new) ≡ true)
    × (pairs_left (pairs_from least old) ≡ p ∷ pairs_left (pairs_from (p.cycle + 1) new))
