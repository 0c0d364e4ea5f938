use Rattle.std.proofs.Common.{◌+◌, ◌-◌, ◌≤◌}
use Rattle.pesp_problem.specs.Words.{IsLess}
use Rattle.pesp_truth.specs.Sets.{family_at}
use Rattle.pesp_truth.proofs.Narrowing.{IsGap, Partly}
use Rattle.pesp_truth.proofs.narrow.narrow.Given as goal

abbrev pub invariant-loop-step : goal.invariant-loop-step
invariant-loop-step l = record {
  bound : l.gap ≤ l.period + l.step;
  gap : IsGap l.period l.other (family_at l.period l.initial.words) (l.period - l.step) l.gap;
  partly : Partly l.period l.kept l.other l.window.first l.window.count (l.period - l.step)
      (family_at l.period l.initial.words) (family_at l.period l.words);
  less : IsLess l.initial.words l.words l.changed;
}
