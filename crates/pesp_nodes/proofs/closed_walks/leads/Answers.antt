use Rattle.std.proofs.Common.{false}
use Rattle.pesp_problem.specs.declared.row.SignedRow.{SignedRow}
use Rattle.std.proofs.Common.{◌∙◌, sym, refl}
use Rattle.pesp_nodes.proofs.Following.{continues_more, stops_no_row, stops_elsewhere, ends, not_true, same_test}
use Rattle.pesp_nodes.proofs.closed_walks.leads.Goals as goal

none : SignedRow
none = record { row = 0; plus = false }

pub loop-s-preserved : goal.loop-s-preserved
unfolding none
loop-s-preserved c =
    rw c.finish-event.ensures (continues_more c.args.arcs.now c.args.from c.args.way.now c.args.to c.loop-s.event
    c.loop-s.s-index none c.loop-s-test.true (c.if-not-exists.ensures.0 refl)
    (sym c.start.ensures ∙ c.if-start-event.false) c.loop-s.invariant)

pub returns-then-not-exists : goal.returns-then-not-exists
unfolding none
returns-then-not-exists c = (
  λ h. not_true h,
  λ w.
      absurd (stops_no_row c.args.arcs.now c.args.from c.args.way.now c.args.to c.loop-s.event c.loop-s.s-index none
      c.loop-s-test.true (λ e. not_true (c.if-not-exists.ensures.1 e)) c.loop-s.invariant w),
)

pub returns-then-start-event : goal.returns-then-start-event
unfolding none
returns-then-start-event c = (
  λ h. not_true h,
  λ w. absurd (stops_elsewhere c.args.arcs.now c.args.from c.args.way.now c.args.to c.loop-s.event
      c.loop-s.s-index none c.loop-s-test.true (λ e. c.if-start-event.true (c.start.ensures ∙ e)) c.loop-s.invariant
      w),
)

pub returns : goal.returns
returns c =
    let e = ends c.args.arcs.now c.args.from c.args.way.now c.args.to c.loop-s.event c.loop-s.s-index
    c.loop-s-test.false c.loop-s.invariant in
    let same = same_test c.loop-s.event c.args.to in
    (λ t. e.0 (same.0 t), λ w. same.1 (e.1 w))
