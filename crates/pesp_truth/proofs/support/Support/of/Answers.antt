use Rattle.std.proofs.Common.{◌∙◌, ap, arith, length}
use Rattle.pesp_truth.proofs.Starting.{ends_of, firsts_at}
use Rattle.pesp_truth.proofs.support.Support.of.Goals as goal

pub firsts_of-requires : goal.firsts_of-requires
firsts_of-requires c =
    ends_of c.args.instance.now c.deref.result.now (length c.events-events.result.now)
    (c.deref.ensures.value ∙ c.in_ok-arcs.ensures)
    (ap length c.events-events.ensures.events) c.period-period.ensures.limits

pub invariant_of-result : goal.invariant_of-result
invariant_of-result c =
    let k = c.period-period.ensures.limits in
    let e = ap length c.events-events.ensures.events in
    let p = c.period-period.ensures.period in
    record {
      some_period = let a = k.some_period in omega arith;
      period_most = let a = k.period in omega arith;
      events_most = let a = k.events in omega arith;
      ends = ends_of c.args.instance.now c.in_ok-arcs.arcs.items (length c.events-events.result.now) c.in_ok-arcs.ensures e k;
      long = c.in_ok-firsts.ensures.long;
      first_events = firsts_at c.in_ok-arcs.arcs.items c.deref.result.now
          (length c.events-events.result.now) c.in_ok-firsts.firsts.items c.deref.ensures.value
          c.in_ok-firsts.ensures.firsts;
      room = omega (arith, c.in_ok-words.ensures.len, c.in_ok-words.words.ok.0, c.words_for.ensures);
      marks_before = omega (arith, c.in_ok-before.ensures.len, c.in_ok-before.before.ok.0);
      marks_now = omega (arith, c.in_ok-now.ensures.len, c.in_ok-now.now.ok.0);
    }
