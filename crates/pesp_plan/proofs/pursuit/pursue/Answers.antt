use Rattle.std.proofs.Common.{rules}
use Rattle.pesp_plan.specs.Planning.{IsAsGood}
use Rattle.pesp_plan.proofs.Standing.{goes_on}
use Rattle.pesp_plan.proofs.pursuit.pursue.Goals as goal

pub loop-piece-preserved : goal.loop-piece-preserved
loop-piece-preserved g c =
    let kept : IsAsGood (g.H.Shelf.holds c.keep-in-loop-piece.new.shelf) c.go_on-more.new.going.content.answer = search rules in
    record {
      goes_on = goes_on c.args.instance.now c.args.going.now c.loop-piece.going c.go_on-more.new.going
          c.loop-piece.invariant.goes_on c.go_on-more.ensures.valid c.go_on-more.ensures.no_worse;
      kept = kept;
    }

pub returns-in_err-keep-2-clause-no_worse : goal.returns-in_err-keep-2-clause-no_worse
returns-in_err-keep-2-clause-no_worse g c =
    (goes_on c.args.instance.now c.args.going.now c.loop-piece.going c.go_on-more.new.going
    c.loop-piece.invariant.goes_on c.go_on-more.ensures.valid c.go_on-more.ensures.no_worse).no_worse
