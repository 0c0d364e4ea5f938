use Rattle.std.proofs.Common.{◌≡◌, ◌<◌, length, sym, ap, subst, arith}
use Rattle.std.proofs.lemmas.Grind.{common_steps}
use Rattle.std.specs.List.{Contains}
use Rattle.pesp_tree.specs.Entries.{entry, item_at, HasItem}
use Rattle.pesp_tree.proofs.Placing.{contained_before, not_before}
use Rattle.pesp_tree.proofs.queue.Queue.waiting_value.Goals as goal

pub returns-clause-value : goal.returns-clause-value
returns-clause-value c =
    let xs = c.self.inside.entries.items in
    let named : item_at xs c.in_ok-at.at ≡ c.args.item =
    subst (λ l. item_at l c.in_ok-at.at ≡ c.args.item) c.deref.ensures.value c.in_ok-at.ensures.1 in
    subst (λ l. Contains l (entry c.args.item c.index.result.now.value)) (ap (λ q. q.waiting) c.self.view_is)
    (contained_before xs c.self.inside.waiting c.in_ok-at.at c.args.item c.index.result.now c.self.invariant.within
    c.if-at-self.false named c.index.ensures)

pub returns-then-at-self-clause-value : goal.returns-then-at-self-clause-value
returns-then-at-self-clause-value c = λ has.
    let xs = c.self.inside.entries.items in
    let item = c.args.item in
    let at = c.in_ok-at.at in
    let h = c.in_ok-at.ensures in
    let d = c.deref.ensures.value in
    not_before xs c.self.inside.places.items c.self.invariant.placed c.self.inside.waiting at item
    c.if-at-self.true (subst (λ l. at < length l) d h.0) (subst (λ l. item_at l at ≡ item) d h.1)
    (subst (λ l. HasItem l item) (sym (ap (λ q. q.waiting) c.self.view_is)) has)

pub returns-in_err-at-clause-value : goal.returns-in_err-at-clause-value
returns-in_err-at-clause-value c = grind (arith, common_steps)
