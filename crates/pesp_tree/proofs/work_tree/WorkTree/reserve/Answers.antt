use Rattle.std.proofs.Common.{◌≡◌, ◌+◌, max, length, arith, sym, ap, ◌∙◌}
use Rattle.std.specs.Vec.{vec_capacity}
use Rattle.pesp_tree.proofs.Holding.{room_is_kept}
use Rattle.pesp_tree.proofs.Standing.{length_leaves}
use Rattle.pesp_tree.proofs.work_tree.WorkTree.reserve.Goals as goal

pub invariant_of-self-2 : goal.invariant_of-self-2
invariant_of-self-2 c =
    let bs = c.self.inside.branchings.ok.0 in
    let kept = c.self.inside.nodes.ok.0 in
    let a = c.in_ok-reserve.ensures in
    let b = c.in_ok-reserve-2.ensures in
    let a_len = a.len in
    let a_fits = a.ok in
    let b_len = b.len in
    let b_fits = b.ok in
    let long : c.nodes.result ≡ length c.self.inside.nodes.items = c.nodes.ensures.count
    ∙ ap (λ t. length t.leaves) (sym c.self.view_is) ∙ length_leaves c.self.inside.nodes.items in
    let new = c.max-self-inside.ensures in
    room_is_kept c.self.inside.branchings.items c.reserve.new.self.items c.self.inside.nodes.items
    c.reserve-2.new.self.items c.self.inside.room c.args.more c.max-self-inside.result
    (vec_capacity c.self.inside.branchings) (vec_capacity c.self.inside.nodes)
    (vec_capacity c.reserve.new.self) (vec_capacity c.reserve-2.new.self) c.self.invariant a.items b.items
    a.capacity b.capacity
    (omega (arith, bs, a_len, a_fits)) (omega (arith, kept, b_len, b_fits)) (new ∙ ap (λ n. max c.self.inside.room (n + c.args.more)) long)
