use Rattle.std.proofs.Common.{rules, ◌≡◌, ℕ, arith, replicate, sym, subst, ◌∙◌}
use Rattle.std.proofs.lemmas.List.{get_or_read}
use Rattle.pesp_network.specs.Networks.{arcs_of_network}
use Rattle.pesp_network.specs.Rooted.{IsForest}
use Rattle.pesp_network.proofs.Flooding.{at_zeros}
use Rattle.pesp_network.proofs.Reaching.{event_below}
use Rattle.pesp_network.proofs.Fitting.{fits_none, fits_root, fits_view, less_more, fits_all}
use Rattle.pesp_network.proofs.times.spread.Goals as goal

pub loop-i-init : goal.loop-i-init
loop-i-init c =
    let z : c.in_ok-times.times.items ≡ replicate c.args.events 0 = search rules in
    let p = c.requires.slacks.period_some in
    record {
      count = c.in_ok-times.ensures.len;
      less = λ x. let q = at_zeros c.args.events x c.in_ok-times.times.items z in omega arith;
      fits = fits_none c.args.events c.args.period
          (arcs_of_network c.args.rows.now) c.args.forest.now c.args.slacks.now _ c.requires.forest;
    }

pub loop-i-preserved-then-index-eq0 : goal.loop-i-preserved-then-index-eq0
loop-i-preserved-then-index-eq0 c =
    let g = c.args.forest.now in let f = c.requires.forest in let i = c.loop-i.invariant in
    let lo = g.order.ok.0 in let lb = g.by.ok.0 in let s = g.sized in let n = f.events in
    let q = get_or_read g.order.items c.loop-i.i _ (omega arith) c.index-event.ensures 0 in
    let below = event_below c.args.events (arcs_of_network c.args.rows.now) g c.loop-i.i _ f (omega arith) q in
    let b = get_or_read g.by.items _ _ (omega arith) c.index.ensures 0 in
    record {
      count = i.count;
      less = i.less;
      fits =
          fits_root c.args.events c.args.period (arcs_of_network c.args.rows.now) g c.args.slacks.now _ c.loop-i.i
          c.index-event.result.now f i.fits q (sym b ∙ c.if-index-eq0.true);
    }

pub time_of-time-requires-clause-forest : goal.time_of-time-requires-clause-forest
time_of-time-requires-clause-forest c =
    subst (λ (k : ℕ). IsForest k (arcs_of_network c.args.rows.now) c.args.forest.now)
    (sym (c.as_slice.ensures.len ∙ c.loop-i.invariant.count)) c.requires.forest

pub time_of-time-requires-clause-event : goal.time_of-time-requires-clause-event
time_of-time-requires-clause-event c =
    let g = c.args.forest.now in let lo = g.order.ok.0 in
    let q = get_or_read g.order.items c.loop-i.i _ (omega arith) c.index-event.ensures 0 in
    let below = event_below c.args.events (arcs_of_network c.args.rows.now) g c.loop-i.i _ c.requires.forest (omega arith) q in
    let l = c.as_slice.ensures.len in let n = c.loop-i.invariant.count in
    omega (arith, below, l, n)

pub time_of-time-requires-clause-joined : goal.time_of-time-requires-clause-joined
time_of-time-requires-clause-joined c =
    let g = c.args.forest.now in let f = c.requires.forest in let lo = g.order.ok.0 in let lb = g.by.ok.0 in
    let s = g.sized in let n = f.events in
    let q = get_or_read g.order.items c.loop-i.i _ (omega arith) c.index-event.ensures 0 in
    let below = event_below c.args.events (arcs_of_network c.args.rows.now) g c.loop-i.i _ f (omega arith) q in
    let b = get_or_read g.by.items _ _ (omega arith) c.index.ensures 0 in let t = c.if-index-eq0.false in omega arith

pub index_mut-requires : goal.index_mut-requires
index_mut-requires c =
    let g = c.args.forest.now in let f = c.requires.forest in let lo = g.order.ok.0 in let i = c.loop-i.invariant.count in
    let q = get_or_read g.order.items c.loop-i.i _ (omega arith) c.index-event.ensures 0 in
    let below = event_below c.args.events (arcs_of_network c.args.rows.now) g c.loop-i.i _ f (omega arith) q in omega arith

pub loop-i-preserved : goal.loop-i-preserved
loop-i-preserved c =
    let g = c.args.forest.now in let f = c.requires.forest in let i = c.loop-i.invariant in
    let lo = g.order.ok.0 in let lb = g.by.ok.0 in let s = g.sized in let n = f.events in
    let lt = c.loop-i.times.ok.0 in let co = i.count in
    let e = c.index-event.result.now in
    let q = get_or_read g.order.items c.loop-i.i _ (omega arith) c.index-event.ensures 0 in
    let below = event_below c.args.events (arcs_of_network c.args.rows.now) g c.loop-i.i _ f (omega arith) q in
    let b = get_or_read g.by.items _ _ (omega arith) c.index.ensures 0 in let t = c.if-index-eq0.false in
    let a = c.time_of-time.ensures in
    record {
      count = i.count;
      less = less_more c.args.period c.loop-i.times.items e c.time_of-time.result a.less (omega arith) i.less;
      fits = fits_view c.args.events c.args.period
          (arcs_of_network c.args.rows.now) g c.args.slacks.now c.loop-i.times.items _ c.loop-i.i e
          c.time_of-time.result f i.fits (omega arith) q (omega arith)
          (omega arith) c.as_slice.ensures.value a.as_head a.as_tail;
    }

pub returns-clause-fits : goal.returns-clause-fits
returns-clause-fits c = let t = c.loop-i-test.false in let a = c.len-i-end.ensures in
    fits_all c.args.period (arcs_of_network c.args.rows.now) c.args.forest.now c.args.slacks.now _ c.loop-i.i _
    (omega arith) c.loop-i.invariant.fits
