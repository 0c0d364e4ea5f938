use Rattle.std.proofs.Common.{◌∙◌, arith, refl, ap, sym, subst, List, length}
use Rattle.std.specs.Prelude.{All}
use Rattle.pesp_problem.specs.Arcs.{net_of}
use Rattle.pesp_truth.specs.declared.tree.TreeLine.{TreeLine}
use Rattle.pesp_truth.specs.Marks.{Marks}
use Rattle.pesp_truth.specs.Certificates.{claim_of, least_of}
use Rattle.pesp_judges.specs.Lines.{KeepsLineLimits}
use Rattle.pesp_whole_check.specs.Rooms.{AreOwnWeights, FitsWalks}
use Rattle.pesp_whole_check.proofs.Limits.{line_limits}
use Rattle.pesp_whole_check.proofs.Inner.{if_behind}
use Rattle.pesp_whole_check.proofs.Claims.{for_marks, front_fits, own_weights_there, room_there, told_there, least_few}
use Rattle.pesp_whole_check.proofs.whole_check.tree_fault.Goals as goal

pub new-checker-requires-clause-few : goal.new-checker-requires-clause-few
new-checker-requires-clause-few c = omega (arith, c.requires.nets.long, c.cycles.ensures.limits.cycles)

pub new-checker-requires-clause-fits : goal.new-checker-requires-clause-fits
new-checker-requires-clause-fits c =
    let p = c.args.instance.now in
    let front = c.args.front.now in
    c.claim_over-claim.ensures.fits p c.requires.rows
    (for_marks (λ m. m.now) c.marks_of.result front (λ (m : Marks). FitsWalks p m c.deref.result.now c.deref-2.result.now)
    c.marks_of.ensures (front_fits front p c.in_ok-room.room c.deref.result.now c.deref-2.result.now
    c.deref.ensures.value c.deref-2.ensures.value (if_behind front _ c.is_some.result c.is_some.ensures c.in_ok-room.ensures) c.requires.closed))

pub judge_tree-requires-clause-lines : goal.judge_tree-requires-clause-lines
judge_tree-requires-clause-lines c =
    let P : List TreeLine → Type 0 = All KeepsLineLimits in
    subst P (sym c.tree-lines.ensures.value) (line_limits c.args.certificate.now.tree c.tree-lines.ensures.limits.each_line)

pub judge_tree-requires-clause-room : goal.judge_tree-requires-clause-room
judge_tree-requires-clause-room c =
    let front = c.args.front.now in
    let rates = ap length c.deref_mut.ensures.value in
    rw (c.new-checker.ensures.claim, c.new-checker.ensures.instance)
    (c.claim_over-claim.ensures.room (length c.args.instance.now.rows) _ (for_marks (λ m. m.now) c.marks_of.result front
    (λ (m : Marks). _) c.marks_of.ensures
    (room_there front c.args.instance.now c.in_ok-room.room _ _ refl rates
    (if_behind front _ c.is_some.result c.is_some.ensures c.in_ok-room.ensures))))

pub returns : goal.returns
returns c =
    let p = c.args.instance.now in
    let n = net_of p in
    let front = c.args.front.now in
    let content = c.args.certificate.now in
    let least = c.least-least.ensures ∙ ap least_of c.answer.ensures.value in
    let own = for_marks (λ m. m.now) c.marks_of.result front (λ (m : Marks). AreOwnWeights p c.deref-2.result.now) c.marks_of.ensures
    (own_weights_there front p c.in_ok-room.room c.deref-2.result.now c.deref-2.ensures.value
    (if_behind front _ c.is_some.result c.is_some.ensures c.in_ok-room.ensures)) in
    let tells = (rw least at c.claim_over-claim.ensures.told) p own (least_few content.answer c.cycles.ensures.limits.answer) in
    let told = told_there front n (least_of content.answer) _ c.args.facts.now c.claim_over-claim.result c.marks_of.ensures c.requires.facts tells in
    (rw (
      c.new-checker.ensures.instance,
      c.new-checker.ensures.table,
      c.new-checker.ensures.claim,
      c.tree-lines.ensures.value,
      c.own_line-first.ensures.value,
      c.times.ensures.value,
      c.cycles.ensures.value,
    ) at
    c.in_ok-judge_tree.ensures) content.cycles (claim_of front n (least_of content.answer)) c.requires.nets told
