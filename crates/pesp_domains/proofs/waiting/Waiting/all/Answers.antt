use Rattle.std.proofs.Common.{◌≡◌, true, arith}
use borrow.Author.Count.{below_more}
use Rattle.pesp_domains.specs.Waiting.{waits_at}
use Rattle.pesp_domains.proofs.Queueing.{listed_none, listed_more}
use Rattle.pesp_domains.proofs.waiting.Waiting.all.Goals as goal

pub loop-row-init : goal.loop-row-init
loop-row-init c = record {
  listed = listed_none c.args.count c.in_ok-waiting.waiting c.in_ok-waiting.ensures.long
      c.in_ok-waiting.ensures.none c.in_ok-waiting.ensures.list;
  all = λ row l. absurd (omega arith);
}

pub loop-row-preserved : goal.loop-row-preserved
loop-row-preserved c = record {
  listed = listed_more c.args.count c.loop-row.waiting c.add.new.self c.loop-row.invariant.listed c.add.ensures.grows;
  all = below_more (λ row. waits_at c.add.new.self row ≡ true) c.loop-row.row
      (λ row l. c.add.ensures.grows.still row (c.loop-row.invariant.all row l)) c.in_ok-add.ensures.waits;
}
