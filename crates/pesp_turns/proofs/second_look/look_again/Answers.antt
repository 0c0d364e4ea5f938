use Rattle.std.proofs.Common.{◌≤◌, refl, arith}
use Rattle.std.proofs.lemmas.Grind.{common_steps}
use Rattle.pesp_turns.proofs.Looks.{look_goes_on}
use Rattle.pesp_turns.proofs.ResumeEndings.{looked, all_looked, none_told, told_full, nothing_to_tell, stopped_at_once}
use Rattle.pesp_turns.proofs.second_look.look_again.Goals as goal

pub loop-look-preserved : goal.loop-look-preserved
loop-look-preserved g c =
    let at = c.loop-look in
    let one = c.in_ok-ending.ensures in
    let new = c.look_at_next.new.board in
    record {
      looked = look_goes_on c.args.board.now.problem at.board.problem new.problem c.args.board.now.state
          at.board.state new.state at.invariant.looked one.problem one.grows;
      watch = λ may. at.invariant.watch (c.goes_on.ensures.same may);
      heeded = λ was. at.invariant.heeded (c.goes_on.ensures.going c.if-not-goes_on.false was);
      spent = (let more = rw c.in_default.is at one.look in let was = at.invariant.spent in omega (arith, more, was));
    }

pub returns-in-Some-clause-grows : goal.returns-in-Some-clause-grows
returns-in-Some-clause-grows g c =
    let at = c.loop-look in
    let one = c.in_ok-ending.ensures in
    let new = c.look_at_next.new.board in
    (look_goes_on c.args.board.now.problem at.board.problem new.problem c.args.board.now.state at.board.state
    new.state at.invariant.looked one.problem one.grows).grows

pub returns-in-Some-clause-ended : goal.returns-in-Some-clause-ended
returns-in-Some-clause-ended g c =
    let at = c.loop-look in
    let one = c.in_ok-ending.ensures in
    let new = c.look_at_next.new.board in
    looked c.args.board.now.problem at.board.problem
    (g.W.Watcher.may_end c.args.watcher.now × g.W.Watcher.has_ended at.watcher) c.args.board.now.state
    at.board.state new.state c.in-Some.ending at.invariant.looked.problem (rw c.in-Some.is at one.look)

pub returns-in-Some-clause-told : goal.returns-in-Some-clause-told
returns-in-Some-clause-told g c = nothing_to_tell (g.W.Watcher.has_said c.loop-look.watcher) c.loop-look.board.problem
    c.loop-look.board.state c.look_at_next.new.board.state c.in-Some.ending (rw c.in-Some.is at c.in_ok-ending.ensures.look)

pub returns-in-Some-clause-heeded : goal.returns-in-Some-clause-heeded
returns-in-Some-clause-heeded g c = λ other. c.loop-look.invariant.heeded

pub returns-then-not-goes_on-clause-grows : goal.returns-then-not-goes_on-clause-grows
returns-then-not-goes_on-clause-grows g c =
    let at = c.loop-look in
    let one = c.in_ok-ending.ensures in
    let new = c.look_at_next.new.board in
    (look_goes_on c.args.board.now.problem at.board.problem new.problem c.args.board.now.state at.board.state
    new.state at.invariant.looked one.problem one.grows).grows

pub returns-then-not-goes_on-clause-ended : goal.returns-then-not-goes_on-clause-ended
returns-then-not-goes_on-clause-ended g c = (let stopped = c.goes_on.ensures.ended c.if-not-goes_on.true in
    (c.loop-look.invariant.watch stopped.0, stopped.1))

pub returns-then-not-goes_on-clause-told : goal.returns-then-not-goes_on-clause-told
returns-then-not-goes_on-clause-told g c = stopped_at_once (g.W.Watcher.has_said c.goes_on.new.self) c.goes_on.result
    c.if-not-goes_on.true c.goes_on.ensures.said

pub returns-then-not-goes_on-clause-heeded : goal.returns-then-not-goes_on-clause-heeded
returns-then-not-goes_on-clause-heeded g c = λ other. absurd (other refl)

pub returns-clause-told : goal.returns-clause-told
returns-clause-told g c = (let said = g.W.Watcher.has_said c.loop-look.watcher in told_full said 0 (none_told said))

pub returns-clause-heeded : goal.returns-clause-heeded
returns-clause-heeded g c = λ other. c.loop-look.invariant.heeded

pub returns-clause-ended : goal.returns-clause-ended
returns-clause-ended g c =
    let at = c.loop-look in
    let most : 1000000 ≤ at._look = grind (arith, common_steps) in
    let spent = at.invariant.spent in
    all_looked c.args.board.now.problem (g.W.Watcher.may_end c.args.watcher.now × g.W.Watcher.has_ended at.watcher)
    c.args.board.now.state at.board.state (omega (arith, most, spent))
