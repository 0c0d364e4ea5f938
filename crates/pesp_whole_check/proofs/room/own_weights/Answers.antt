use Rattle.std.proofs.Common.{rules, ◌∙◌, ◌<◌, ap, length, FitsSigned, w64}
use Rattle.std.proofs.lemmas.Int.{to_z-of_z}
use Rattle.std.proofs.lemmas.List.{take_all}
use Rattle.pesp_problem.specs.Timetables.{no_row}
use Rattle.pesp_whole_check.proofs.OwnWeights.{weights_of, weights_more, own_long, own_value, own_small}
use Rattle.pesp_whole_check.proofs.room.own_weights.Goals as goal

pub own_weight-requires : goal.own_weight-requires
own_weight-requires c =
    let rows = c.rows-row-items.ensures in
    let within : c.loop-row.row-index < length c.args.instance.now.rows = rw rows.rows at c.loop-row-test.true in
    rw rows.rows (rows.limits.each c.loop-row.row-index no_row within).weight

pub loop-row-preserved : goal.loop-row-preserved
loop-row-preserved c =
    let weight = c.own_weight.result in
    let fits : FitsSigned w64 weight = search rules in
    weights_more c.rows-row-items.result.now c.loop-row.row-index c.loop-row.own.items c.push.new.self.items weight c.loop-row.invariant
    c.loop-row-test.true c.own_weight.ensures (rw (to_z-of_z w64 weight fits) at c.in_ok-push.ensures.items)

pub returns-clause-own : goal.returns-clause-own
returns-clause-own c =
    let all = take_all c.loop-row.row-index c.rows-row-items.result.now c.loop-row-test.false in
    let is = c.loop-row.invariant ∙ ap weights_of (all ∙ c.rows-row-items.ensures.rows) in
    record {
      long = own_long c.args.instance.now c.loop-row.own.items is;
      own = own_value c.args.instance.now c.loop-row.own.items is;
    }

pub returns-clause-small : goal.returns-clause-small
returns-clause-small c =
    let all = take_all c.loop-row.row-index c.rows-row-items.result.now c.loop-row-test.false in
    own_small c.args.instance.now c.loop-row.own.items (c.loop-row.invariant ∙ ap weights_of (all ∙ c.rows-row-items.ensures.rows))
    c.rows-row-items.ensures.limits
