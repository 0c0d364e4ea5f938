-- What came was judged, the working numbers are 0, and the reader worked.
use Rattle.std.proofs.Common.{◌≡◌, ◌-◌, ◌+◌, ◌≤◌, length}
use Rattle.pesp_stream.specs.Counts.{Worked}
use Rattle.pesp_cert_items.specs.Views.{reading}
use Rattle.pesp_cert_items.proofs.Telling.{at_first}
use Rattle.pesp_problem.specs.Nets.{AreZeros}
use Rattle.pesp_check.specs.Views.{kept}
use Rattle.pesp_check.proofs.Texts.{IsCheckedTo}
use Rattle.pesp_check.proofs.text_check.judge_lines.Given as goal

abbrev pub invariant-loop-judge : goal.invariant-loop-judge
invariant-loop-judge g l = record {
  checked : IsCheckedTo l.initial.judge.instance.now (at_first l.fn.versions (g.S.Source.remaining l.initial.source) 1073741824)
      (reading (g.S.Source.remaining l.source) l.lines) l.judge.stage (kept l.judge);
  instance : l.judge.instance.now ≡ l.initial.judge.instance.now;
  line : l.judge.line ≤ l.lines.n + 1;
  zeros : AreZeros l.working;
  long : length l.working ≡ length l.initial.judge.instance.now.rows;
  most : l.lines.most ≡ l.initial.lines.most;
  worked : Worked (g.S.Source.calls l.initial.source) l.lines.most (g.S.Source.calls l.source);
}

abbrev pub decreases-loop-judge : goal.decreases-loop-judge
decreases-loop-judge g l = 1073741824 - l.lines.n
