use Rattle.std.proofs.Common.{arith, ◌∙◌, refl, ap, sym, subst, List, length}
use Rattle.pesp_problem.specs.Arcs.{net_of}
use Rattle.pesp_problem.specs.Nodes.{root}
use Rattle.pesp_truth.specs.Marks.{Marks}
use Rattle.pesp_truth.specs.Lemmas.{Lemma}
use Rattle.pesp_truth.specs.Certificates.{claim_of, least_of, lines_of}
use Rattle.pesp_leaves.specs.Taken.{HaveRows}
use Rattle.pesp_whole_check.specs.Rooms.{AreOwnWeights, FitsWalks}
use Rattle.pesp_whole_check.proofs.Inner.{if_behind}
use Rattle.pesp_whole_check.proofs.Valid.{front_rows, shown_lemmas, shown_closed}
use Rattle.pesp_whole_check.proofs.Claims.{for_marks, front_fits, own_weights_there, room_there, told_there, least_few}
use Rattle.pesp_whole_check.proofs.costs.costs_shown.Goals as goal

pub table_of-requires-clause-walks : goal.table_of-requires-clause-walks
table_of-requires-clause-walks c = (rw (← c.certificate.view_is) at c.requires).cycles

pub new-checker-requires-clause-few : goal.new-checker-requires-clause-few
new-checker-requires-clause-few c =
    let same = ap length c.deref-4.ensures.value in omega (arith, same, c.in_ok-table.ensures.few)

pub new-checker-requires-clause-fits : goal.new-checker-requires-clause-fits
new-checker-requires-clause-fits c =
    let p = c.args.instance.now in
    let front = c.certificate.inside.front in
    let valid = rw (← c.certificate.view_is) at c.requires in
    let R : List Lemma → Type 0 = HaveRows (length p.rows) in
    c.claim_over-claim.ensures.fits p
    (subst R (sym (c.deref.ensures.value ∙ c.in_ok-facts.ensures)) (front_rows p front (shown_lemmas front p valid.shown)))
    (for_marks (λ m. m.now) c.marks_of.result front (λ (m : Marks). FitsWalks p m c.deref-2.result.now c.deref-3.result.now)
    c.marks_of.ensures (front_fits front p c.in_ok-room.room c.deref-2.result.now c.deref-3.result.now
    c.deref-2.ensures.value c.deref-3.ensures.value (if_behind front _ c.is_some.result c.is_some.ensures c.in_ok-room.ensures) (shown_closed front p valid.shown)))

pub tree_costs-requires-clause-told : goal.tree_costs-requires-clause-told
tree_costs-requires-clause-told c =
    let p = c.args.instance.now in
    let front = c.certificate.inside.front in
    let content = c.certificate.inside.certificate in
    let least = c.least-least.ensures ∙ ap least_of c.answer.ensures.value in
    let own = for_marks (λ m. m.now) c.marks_of.result front (λ (m : Marks). AreOwnWeights p c.deref-3.result.now) c.marks_of.ensures
    (own_weights_there front p c.in_ok-room.room c.deref-3.result.now c.deref-3.ensures.value
    (if_behind front _ c.is_some.result c.is_some.ensures c.in_ok-room.ensures)) in
    let tells = (rw least at c.claim_over-claim.ensures.told) p own (least_few content.answer c.answer.ensures.limits.answer) in
    rw (c.new-checker.ensures.instance, c.new-checker.ensures.claim)
    (told_there front (net_of p) (least_of content.answer) _ c.deref.result.now c.claim_over-claim.result c.marks_of.ensures
    (c.deref.ensures.value ∙ c.in_ok-facts.ensures) tells)

pub tree_costs-requires-clause-sound : goal.tree_costs-requires-clause-sound
tree_costs-requires-clause-sound c =
    let n = net_of c.args.instance.now in
    let front = c.certificate.inside.front in
    let content = c.certificate.inside.certificate in
    let valid = rw (← c.certificate.view_is) at c.requires in
    rw c.new-checker.ensures.instance
    (c.lines_are_sound_as_tree.ensures.lines (claim_of front n (least_of content.answer)) n content.cycles (lines_of content)
    (root n content.cycles) valid.tree)

pub tree_costs-requires-clause-room : goal.tree_costs-requires-clause-room
tree_costs-requires-clause-room c =
    let front = c.certificate.inside.front in
    let rates = ap length c.deref_mut-3.ensures.value in
    rw (c.new-checker.ensures.claim, c.new-checker.ensures.instance)
    (c.claim_over-claim.ensures.room (length c.args.instance.now.rows) _ (for_marks (λ m. m.now) c.marks_of.result front (λ (m : Marks). _) c.marks_of.ensures
    (room_there front c.args.instance.now c.in_ok-room.room _ _ refl rates
    (if_behind front _ c.is_some.result c.is_some.ensures c.in_ok-room.ensures))))

pub returns : goal.returns
returns c = rw (← c.certificate.view_is) (rw c.new-checker.ensures.instance at c.in_ok-shown.ensures)
