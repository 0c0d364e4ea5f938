use Rattle.std.proofs.Common.{◌∙◌, sym}
use Rattle.pesp_sharp_work.proofs.Branching.{one_passed}
use Rattle.pesp_sharp_work.proofs.branches.pass_lines.Goals as goal

pub loop-line-preserved : goal.loop-line-preserved
loop-line-preserved c =
    let passed = c.in_ok-pass_line.ensures in
    record {
      cycles = passed.cycles ∙ c.loop-line.invariant.cycles;
      passed = one_passed c.args.walk.now.cycles c.args.lines.now c.args.walk.now.nodes c.loop-line.line-index
          c.loop-line.walk.nodes c.loop-line.invariant.passed c.line-item.result c.pass_line.new.walk.nodes
          c.loop-line-test.true c.line-item.is (passed.nodes c.if-not-branch.false)
          (λ n table long. passed.both c.if-not-branch.false n table (long ∙ sym c.loop-line.invariant.cycles));
    }
