use Rattle.std.proofs.Common.{◌≡◌, arith, ap, ◌∙◌, rules}
use Rattle.std.specs.Prelude.{ℤ, pos, ◌-ℤ◌, unsigned_abs}
use Rattle.std.specs.Int.{int_rem_euclid}
use Rattle.std.proofs.lemmas.Int.{ints, to_z-of_z}
use mir.Syntax.{w64}
use mir.Val.{SFits}
use Rattle.pesp_problem.specs.Timetables.{difference}
use Rattle.pesp_problem.proofs.net_times.slack_between.Goals as goal

same_remainder : (r a b m n : ℤ) → r ≡ int_rem_euclid a m → a ≡ b → m ≡ n → unsigned_abs r ≡ unsigned_abs (int_rem_euclid b n)
same_remainder r a b m n h e k = cc

pub returns-clause-value : goal.returns-clause-value
returns-clause-value c =
    let fits : SFits w64 c.rem_euclid-rest.result = search rules in
    ap unsigned_abs (to_z-of_z w64 c.rem_euclid-rest.result fits)
    ∙ same_remainder _ _ (difference c.args.times.now c.args.tail c.args.head -ℤ c.args.lower) _
    (pos c.args.period) c.rem_euclid-rest.ensures.value (omega (arith, ints)) (omega (arith, ints))
