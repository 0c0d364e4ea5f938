use Rattle.std.proofs.Common.{◌≡◌, ◌<◌, inl, inr, ℕ, true, arith}
use Rattle.std.specs.Prelude.{nat_lt}
use Rattle.std.proofs.lemmas.Bool.{cases_lt}
use Rattle.std.proofs.lemmas.Bool.Decides.{nat_tests}
use Rattle.pesp_truth.proofs.Placing.{below, true_or_false}
use Rattle.pesp_truth.proofs.visit.has_some.Goals as goal

is_lt : (x n : ℕ) → x < n → nat_lt x n ≡ true
is_lt x n h = grind (arith, nat_tests)

lt_is : (x n : ℕ) → nat_lt x n ≡ true → x < n
lt_is x n h = grind (arith, nat_tests)

pub returns : goal.returns
returns c = (
  λ t. (c.least.result, c.least.ensures.found (lt_is _ _ t)),
  λ h.
      elim (cases_lt c.least.result c.args.period) [
        | inl l ↦ is_lt _ _ l
        | inr m ↦ let b = below c.args.period c.args.event h.0 c.args.words.now h.1 in
            absurd (true_or_false _ h.1 (c.least.ensures.below h.0 (omega arith)))
      ],
)
