use Rattle.std.proofs.Common.{◌≡◌, ℕ, ◌-◌, ◌<◌, length, arith, sym, ◌∙◌, ap, subst, List, drop}
use Rattle.pesp_bound.specs.Settling.{at, GainsForEver}
use Rattle.std.proofs.lemmas.List.{get_or_read}
use Rattle.pesp_bound.proofs.Lifting.{length_zeros, closes, climbs_on_as, starts_as}
use Rattle.pesp_bound.proofs.passes.climb.Goals as goal

pub loop-k-init : goal.loop-k-init
loop-k-init c =
    record {
      size = let l = c.in_ok-place.place.ok.0 in
          let z = length_zeros (length c.args.level.now) c.in_ok-place.place.items c.in_ok-place.ensures in
          omega (arith, l, z);
      here = c.requires.event;
      climbed = starts_as c.args.edges.now c.args.level.now c.args.by.now c.in_ok-place.place.items
          c.new-way.result.items c.args.event c.requires.grown c.in_ok-place.ensures
          c.new-way.ensures.items;
    }

pub loop-k-preserved : goal.loop-k-preserved
loop-k-preserved c =
    let i = c.loop-k.invariant in
    let cur = c.loop-k.current in
    let some = c.if-k-eq0.false in
    let row = i.climbed.grown.row cur in
    let w = c.requires.within.1 (at c.args.by.now cur - 1) (omega (arith, row, some)) in
    let in_place : cur < length c.loop-k.place.items = let l = c.loop-k.place.ok.0 in let s = i.size in
    let h = i.here in omega (arith, l, s, h) in
    record {
      size = i.size;
      here = w.1;
      climbed = climbs_on_as c.args.edges.now c.args.level.now c.args.by.now c.loop-k.place.items
          c.loop-k.way.items c.push.new.self.items cur c.args.event c.len.result i.climbed in_place
          (sym (get_or_read c.loop-k.place.items cur _ in_place c.index.ensures 0) ∙ c.loop-k-test.true)
          (omega (arith, some)) (let l = c.loop-k.way.ok.0 in let n = c.in_ok-push.ensures.len in
          let e = c.len.ensures in omega (arith, l, n, e)) c.in_ok-push.ensures.items;
    }

pub returns-clause-gains : goal.returns-clause-gains
returns-clause-gains c =
    let i = c.loop-k.invariant in
    let cur = c.loop-k.current in
    let items = c.loop-k.place.items in
    let in_place : cur < length items = let l = c.loop-k.place.ok.0 in let s = i.size in let h = i.here in omega (arith, l, s, h) in
    let first : at items cur ≡ c.index.result.now = sym (get_or_read items cur _ in_place c.index.ensures 0) in
    let second : at items cur ≡ c.index-2.result.now = sym (get_or_read items cur _ in_place c.index-2.ensures 0) in
    let test = c.loop-k-test.false in
    let some : 0 < at items cur = omega (arith, first, test) in
    let tail : c.in_ok-closed.closed.items ≡ drop (at items cur - 1) c.loop-k.way.items =
    c.in_ok-closed.ensures.tail ∙ ap (λ (n : ℕ). drop (n - 1) c.loop-k.way.items) (sym second) in
    subst (λ (w : List ℕ). GainsForEver c.args.edges.now w) (sym tail)
    (closes c.args.edges.now (at c.args.level.now) i.climbed.t cur (drop (at items cur - 1) c.loop-k.way.items)
    (i.climbed.comes cur some))

pub returns-then-k-eq0-clause-found : goal.returns-then-k-eq0-clause-found
returns-then-k-eq0-clause-found c most within above =
    let climbed = c.loop-k.invariant.climbed in
    let high = climbed.high most within above in
    let low = climbed.grown.root c.loop-k.current c.if-k-eq0.true in
    absurd (omega (arith, high, low))
