use Rattle.std.proofs.Common.{◌≡◌, ℕ, ◌*◌, length, arith, sym, ◌∙◌, ap, subst}
use Rattle.pesp_bound.specs.Settling.{at, EdgesAreWithin}
use Rattle.pesp_bound.proofs.Lifting.{not_found, less_left}
use Rattle.pesp_bound.proofs.passes.settle_in.Goals as goal

pub pass-requires-clause-within : goal.pass-requires-clause-within
pass-requires-clause-within c =
    let small = c.requires.small in (
      c.args.most,
      omega (arith, small),
      subst (λ (k : ℕ). EdgesAreWithin k c.args.most c.args.edges.now)
          (sym c.loop-event.invariant.size) c.requires.within,
    )

pub climb-requires-clause-within : goal.climb-requires-clause-within
climb-requires-clause-within c = (
  c.args.most,
  subst (λ (k : ℕ). EdgesAreWithin k c.args.most c.args.edges.now)
      (sym (c.in-Some.ensures.events ∙ c.loop-event.invariant.size)) c.requires.within,
)

pub loop-event-smaller : goal.loop-event-smaller
loop-event-smaller c =
    let i = c.loop-event.invariant in
    let e = c.in-Some.ensures in
    let size : length c.pass.new.level ≡ length c.args.level.now = e.events ∙ i.size in
    let all : EdgesAreWithin (length c.pass.new.level) c.args.most c.args.edges.now =
    subst (λ (k : ℕ). EdgesAreWithin k c.args.most c.args.edges.now) (sym size) c.requires.within in
    let none = not_found (length c.pass.new.level * c.args.most)
    (at c.pass.new.level c.in-Some.event) c.in_ok-found.found (c.in_ok-found.ensures.found c.args.most all)
    (sym c.if-is_some.ensures) in
    less_left c.loop-event.level c.pass.new.level c.in-Some.event (length c.args.level.now * c.args.most)
    (length c.args.level.now) size e.cases.1 e.cases.2
    (let s = ap (λ (n : ℕ). n * c.args.most) size in omega (arith, none, s))
