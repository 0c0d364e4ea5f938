use Rattle.std.proofs.Common.{◌∙◌, ap, sym, ℕ}
use Rattle.std.specs.Prelude.{Ok, Option, Result}
use Rattle.pesp_problem.specs.declared.memory.Memory.{Memory}
use Rattle.pesp_domains.proofs.Visiting.{none_of, visit_result, some_visit, visited, empty_at}
use Rattle.pesp_domains.proofs.settle.visit.Goals as goal

ok_of : Option ℕ → Result (Option ℕ) Memory
ok_of o = Ok o

pub returns-clause-visit : goal.returns-clause-visit
unfolding ok_of
returns-clause-visit c =
    let t = c.args.domains.now.period in
    let none = ap ok_of (none_of c.in_ok-at_tail.at_tail (sym c.is_some.ensures ∙ c.if-is_some.false)) in
    visit_result t c.args.domains.now.events c.args.arcs.now c.args.row c.args.domains.now.words
    c.revise-changed.new.self.words c.args.waiting.now c.pass_on-2.new.waiting c.pass_on-2.result
    (empty_at c.revise-changed.new.self.period t c.revise-changed.new.self.events c.args.domains.now.events
    c.revise-changed.new.self.words c.pass_on-2.result c.revise-changed.ensures.sizes.period
    c.revise-changed.ensures.sizes.events c.pass_on-2.ensures.empty)
    (λ e. visited t c.args.arcs.now c.args.row c.args.domains.now.words c.revise-changed.new.self.words
    c.args.waiting.now c.leave.new.self c.pass_on.new.waiting c.pass_on-2.new.waiting
    c.revise-changed.result.tail c.revise-changed.result.head
    c.leave.ensures c.revise-changed.ensures.changes c.pass_on.ensures.grows c.pass_on-2.ensures.grows
    (c.in_ok-at_tail.ensures.woken none) (c.pass_on-2.ensures.woken e) c.pass_on.ensures.quiet
    c.pass_on-2.ensures.quiet)

pub returns-then-is_some-clause-visit : goal.returns-then-is_some-clause-visit
unfolding ok_of
returns-then-is_some-clause-visit c =
    let t = c.args.domains.now.period in
    let s = c.revise-changed.new.self in
    some_visit t c.args.domains.now.events c.args.arcs.now c.args.row c.args.domains.now.words s.words
    c.args.waiting.now c.pass_on.new.waiting c.in_ok-at_tail.at_tail (sym c.is_some.ensures ∙ c.if-is_some.true)
    (empty_at s.period t s.events c.args.domains.now.events s.words
    (ok_of c.in_ok-at_tail.at_tail) c.revise-changed.ensures.sizes.period c.revise-changed.ensures.sizes.events
    c.in_ok-at_tail.ensures.empty)
