-- Slacks below the period, row by row.
use Rattle.std.proofs.Common.{◌≡◌, ℕ, ◌+◌, ◌<◌, List, [], ◌∷◌, ◌++◌, length, length-append, refl, ap, ◌∙◌}
use Rattle.std.specs.Prelude.{All}
use Rattle.std.proofs.lemmas.List.Elements.{All-append, All-cons, All-nil}

-- the slacks of so many rows, each below the period
pub record AreBelowTo (period : ℕ) (left : List ℕ) (n : ℕ) : Type 0 where
  pub long : length left ≡ n
  pub each : All (λ y. y < period) left

pub none_below : (period : ℕ) → AreBelowTo period [] 0
none_below period = record { long = refl; each = All-nil (λ y. y < period) }

pub more_below : (period : ℕ) (left : List ℕ) (n x : ℕ) → AreBelowTo period left n → x < period → AreBelowTo period (left ++ x ∷ []) (n + 1)
more_below period left n x h below = record {
  long = length-append left (x ∷ []) ∙ ap (λ (k : ℕ). k + 1) h.long;
  each = All-append (λ y. y < period) left (x ∷ []) h.each (All-cons (λ y. y < period) x [] below (All-nil (λ y. y < period)));
}
