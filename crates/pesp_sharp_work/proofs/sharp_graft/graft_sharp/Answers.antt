use Rattle.std.proofs.Common.{◌≡◌, arith, ap, length}
use Rattle.std.proofs.lemmas.Bool.Decides.{nat_tests}
use Rattle.std.proofs.lemmas.List.{length-append}
use Rattle.pesp_sharp_work.proofs.Taking.{none_taken, one_taken, all_taken, nothing_left}
use Rattle.pesp_sharp_work.proofs.sharp_graft.graft_sharp.Goals as goal

pub loop-rest-init : goal.loop-rest-init
loop-rest-init c = record {
  taken = rw c.new-replies.ensures.items (none_taken c.args.instance.now c.args.base c.args.works.now c.requires.valid);
  short = c.requires.short;
}

pub take_work-requires-clause-short : goal.take_work-requires-clause-short
take_work-requires-clause-short c =
    let whole = ap length c.cut_work.ensures.cut.0 in
    let parts = length-append c.cut_work.result.0.now c.cut_work.result.1.now in
    omega (arith, whole, parts, c.loop-rest.invariant.short)

pub loop-rest-preserved : goal.loop-rest-preserved
loop-rest-preserved c = record {
  taken = one_taken c.args.instance.now c.args.base c.args.works.now c.loop-rest.rest.now c.loop-rest.stood
      c.loop-rest.replies.items c.loop-rest.invariant.taken c.cut_work.result.0.now c.cut_work.result.1.now
      c.take_work.new.stood c.in_ok-reply.reply c.push.new.self.items c.cut_work.ensures.cut
      c.in_ok-reply.ensures c.in_ok-push.ensures.items;
  short = omega (arith, c.cut_work.ensures.shorter, c.loop-rest.invariant.short);
}

pub returns : goal.returns
returns c =
    let none : length c.loop-rest.rest.now ≡ 0 = grind (arith, nat_tests, c.is_empty.ensures, c.loop-rest-test.false) in
    all_taken c.args.instance.now c.args.base c.args.works.now c.loop-rest.rest.now c.loop-rest.stood
    c.loop-rest.replies.items c.loop-rest.invariant.taken (nothing_left c.loop-rest.rest.now none)
