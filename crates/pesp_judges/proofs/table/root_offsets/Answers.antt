use Rattle.std.proofs.Common.{◌∙◌, ◌+◌, ap, length}
use Rattle.std.proofs.lemmas.List.{length_push}
use Rattle.pesp_problem.specs.Arcs.{net_of}
use Rattle.pesp_judges.proofs.Tables.{offsets_more}
use Rattle.pesp_judges.proofs.table.root_offsets.Goals as goal

pub loop-nets-preserved : goal.loop-nets-preserved
loop-nets-preserved c =
    let items = c.in_ok-push.ensures.items in
    record {
      offsets = λ walks nets.
          rw items (offsets_more (length c.args.instance.now.rows)
          (net_of c.args.instance.now) c.args.slacks.now walks c.args.table.now c.loop-nets.nets-index
          c.counts.result.now c.nets-item.result c.odijk_range.result c.loop-nets.offsets.items nets
          c.loop-nets-test.true c.nets-item.is c.counts.ensures c.odijk_range.ensures
          (c.loop-nets.invariant.offsets walks nets));
      long = ap length items ∙ length_push c.loop-nets.offsets.items c.odijk_range.result ∙ ap (λ n. n + 1) c.loop-nets.invariant.long;
    }
