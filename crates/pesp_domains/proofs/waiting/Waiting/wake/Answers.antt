use Rattle.std.proofs.Common.{◌≡◌, ◌≢◌, ◌-◌, length, true, subst, sym, arith}
use Rattle.std.proofs.lemmas.Grind.{elements}
use Rattle.pesp_domains.specs.declared.waiting.Waiting.{Waiting}
use Rattle.pesp_problem.specs.Arcs.{tail_of, head_of}
use Rattle.pesp_domains.specs.Waiting.{waits_at, WaitingGrows}
use Rattle.pesp_domains.proofs.Queueing.{grows_none, grows_more, woken_more}
use Rattle.pesp_domains.proofs.waiting.Waiting.wake.Goals as goal
use Rattle.pesp_domains.proofs.waiting.Waiting.wake.Goals.{then-row-but+in_ok-add, else-row-but}

pub returns-in_err-add-clause-grows : goal.returns-in_err-add-clause-grows
returns-in_err-add-clause-grows c = grows_more c.args.self.now c.loop-row.self c.add.new.self c.loop-row.invariant.grows c.add.ensures.grows

pub loop-row-preserved : goal.loop-row-preserved
loop-row-preserved c =
    let P : Waiting → Type 0 = λ w. WaitingGrows c.loop-row.self w × (c.loop-row.row ≢ c.args.but → waits_at w (c.loop-row.row - 1) ≡ true) in
    let step : P c.if-row-but.self = elim c.if-row-but.branch [
      | then-row-but+in_ok-add w ↦ subst P (sym w.self-is) (w.add.ensures.grows, λ _. w.in_ok-add.ensures.waits)
      | else-row-but w ↦ subst P (sym w.self-is) (grows_none c.loop-row.self, λ ne. absurd (ne w.if-row-but.false))
    ] in
    let less = c.next_at-row.ensures.less in
    let within = c.loop-row.invariant.within in
    record {
      grows = grows_more c.args.self.now c.loop-row.self c.if-row-but.self c.loop-row.invariant.grows step.0;
      within = omega arith;
      end = c.next_at-row.ensures.end;
      woken = woken_more (length c.args.arcs.now) (tail_of c.args.arcs.now)
          (head_of c.args.arcs.now) c.args.event c.args.but c.loop-row.row c.next_at-row.result c.loop-row.self
          c.if-row-but.self c.next_at-row.ensures step.0 step.1 c.loop-row.invariant.woken;
    }

pub loop-row-init : goal.loop-row-init
loop-row-init c = grind (arith, elements)
