use Rattle.std.proofs.Common.{ℕ, ◌+◌, sym, subst}
use Rattle.std.proofs.lemmas.Grind.{common_steps}
use Rattle.std.proofs.Common.{arith}
use Rattle.pesp_turns.proofs.Counts.{IsSoFar, at_first, after_split, after_close, after_none, grown_over, all_used, is_over}
use Rattle.pesp_turns.proofs.Endings.{AreTakenTo, taken_none, taken_split, taken_closed, taken_given_up, ends_used, ends_taken, ends_over}
use Rattle.pesp_turns.proofs.all_turns.run_turns.Goals as goal
use Rattle.pesp_turns.proofs.all_turns.run_turns.Goals.{in-Split, in-Closed, in-GivenUp}

pub loop-turn-init : goal.loop-turn-init
loop-turn-init g c = record {
  counts = at_first c.args.board.now.problem c.problem.result.now c.args.known.now.reduced c.args.steps
      c.args.board.now.state c.problem.ensures c.keeps_limits.ensures.network c.keeps_limits.ensures.table;
  taken = taken_none c.args.board.now.problem c.args.known.now.reduced c.args.board.now.state;
}

pub loop-turn-preserved : goal.loop-turn-preserved
loop-turn-preserved g c =
    let p = c.args.board.now.problem in
    let q = c.loop-turn.board.problem in
    let x = c.take_turn.new.board.problem in
    let r = c.args.known.now.reduced in
    let steps = c.args.steps in
    let used = c.loop-turn.used in
    let turn = c.loop-turn._turn in
    let old = c.args.board.now.state in
    let now = c.loop-turn.board.state in
    let new = c.take_turn.new.board.state in
    let was = c.loop-turn.invariant in
    let same = c.in_ok-take_turn.ensures.problem in
    let counted : ℕ → Type 0 = λ n. IsSoFar p x r steps n (turn + 1) old new in
    let taken : ℕ → Type 0 = λ n. AreTakenTo p x r n (turn + 1) old new in
    elim c.match-branch-2.branch [
      | in-Split w ↦ record {
        counts = subst counted (sym w.used-is)
            (after_split p q x r steps used turn old now new c.requires.few c.if-used-steps.false same was.counts
            (rw w.in-Split.is at c.in_ok-take_turn.ensures.turn));
        taken = subst taken (sym w.used-is) (taken_split p q x r used turn old now new same was.taken
            (rw w.in-Split.is at c.in_ok-take_turn.ensures.turn));
      }
      | in-Closed w ↦ record {
        counts = subst counted (sym w.used-is)
            (after_close p q x r steps used turn old now new c.requires.few same was.counts
            (rw w.in-Closed.is at c.in_ok-take_turn.ensures.turn));
        taken = subst taken (sym w.used-is) (taken_closed p q x r used turn old now new same was.taken
            (rw w.in-Closed.is at c.in_ok-take_turn.ensures.turn));
      }
      | in-GivenUp w ↦ record {
        counts = subst counted (sym w.used-is)
            (after_none p q x r steps used turn old now new c.requires.few same was.counts
            (rw w.in-GivenUp.is at c.in_ok-take_turn.ensures.turn));
        taken = subst taken (sym w.used-is) (taken_given_up p q x r used turn old now new same was.taken
            (rw w.in-GivenUp.is at c.in_ok-take_turn.ensures.turn));
      }
    ]

pub returns-in-Over-clause-grows : goal.returns-in-Over-clause-grows
returns-in-Over-clause-grows g c = grown_over c.args.board.now.problem c.loop-turn.board.problem
    c.args.known.now.reduced c.args.steps c.loop-turn.used c.loop-turn._turn c.args.board.now.state
    c.loop-turn.board.state c.take_turn.new.board.state c.in-Over.ending c.loop-turn.invariant.counts
    (rw c.in-Over.is at c.in_ok-take_turn.ensures.turn)

pub returns-in-Over-clause-counted : goal.returns-in-Over-clause-counted
returns-in-Over-clause-counted g c searched worked =
    is_over c.args.board.now.problem c.loop-turn.board.problem c.args.known.now.reduced c.args.steps
    c.loop-turn.used c.loop-turn._turn c.args.board.now.state c.loop-turn.board.state c.take_turn.new.board.state
    c.in-Over.ending c.requires.few c.if-used-steps.false c.loop-turn.invariant.counts
    (rw c.in-Over.is at c.in_ok-take_turn.ensures.turn) searched worked

pub returns-in-Over-clause-ends : goal.returns-in-Over-clause-ends
returns-in-Over-clause-ends g c settled = ends_over c.args.board.now.problem c.loop-turn.board.problem
    c.args.known.now.reduced c.args.steps c.loop-turn.used c.loop-turn._turn c.args.board.now.state
    c.loop-turn.board.state c.take_turn.new.board.state c.in-Over.ending c.loop-turn.invariant.taken
    (rw c.in-Over.is at c.in_ok-take_turn.ensures.turn) settled

pub returns-then-used-steps-clause-counted : goal.returns-then-used-steps-clause-counted
returns-then-used-steps-clause-counted g c searched worked =
    all_used c.args.board.now.problem c.loop-turn.board.problem c.args.known.now.reduced c.args.steps
    c.loop-turn.used c.loop-turn._turn c.args.board.now.state c.loop-turn.board.state c.if-used-steps.true
    c.loop-turn.invariant.counts searched worked

pub returns-then-used-steps-clause-ends : goal.returns-then-used-steps-clause-ends
returns-then-used-steps-clause-ends g c settled =
    ends_used c.args.board.now.problem c.loop-turn.board.problem c.args.known.now.reduced c.args.steps
    c.loop-turn.used c.loop-turn._turn c.args.board.now.state c.loop-turn.board.state c.if-used-steps.true
    c.loop-turn.invariant.taken settled

pub returns-clause-ends : goal.returns-clause-ends
returns-clause-ends g c settled = ends_taken c.args.board.now.problem c.loop-turn.board.problem
    c.args.known.now.reduced c.args.steps c.loop-turn.used c.loop-turn._turn c.args.board.now.state
    c.loop-turn.board.state (grind (arith, common_steps)) c.loop-turn.invariant.taken settled
