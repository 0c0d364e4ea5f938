use Rattle.std.proofs.Common.{◌≡◌, ◌+◌, ◌-◌, ◌∙◌, ap, length, arith}
use Rattle.std.proofs.lemmas.Bool.Decides.{nat_tests}
use Rattle.pesp_sharp_work.specs.Paths.{paths_passed}
use Rattle.pesp_sharp_work.proofs.Waiting.{leave_at, turn_at}
use Rattle.pesp_sharp_work.proofs.paths.turn.Goals as goal

pub loop-path-preserved : goal.loop-path-preserved
loop-path-preserved c =
    let top : c.len-top.result - 1 + 1 ≡ length c.loop-path.path.items =
    grind (arith, nat_tests, c.loop-path.path.ok.0, c.is_empty.ensures, c.len-top.ensures) in
    ap paths_passed c.truncate.ensures.items ∙ leave_at c.loop-path.path.items (c.len-top.result - 1) c.index-last.result.now
    top c.index-last.ensures c.in-High.is ∙ c.loop-path.invariant

pub returns-in-Low : goal.returns-in-Low
returns-in-Low c =
    let top : c.len-top.result - 1 + 1 ≡ length c.loop-path.path.items =
    grind (arith, nat_tests, c.loop-path.path.ok.0, c.is_empty.ensures, c.len-top.ensures) in
    turn_at c.loop-path.path.items (c.len-top.result - 1) c.index-last.result.now top c.index-last.ensures c.in-Low.is
    ∙ c.loop-path.invariant
