use Rattle.std.proofs.Common.{◌+◌, ◌∙◌, sym, refl, arith}
use Rattle.std.proofs.lemmas.Grind.{common_steps}
use Rattle.pesp_turns.proofs.Looks.{split_goes_on, known_after}
use Rattle.pesp_turns.proofs.ResumeEndings.{ends_known, look_more, look_ends, looks_end, all_used, told_more, told_stop, told_before, told_full}
use Rattle.pesp_turns.proofs.splits.split_leaves.Goals as goal

pub loop-look-preserved : goal.loop-look-preserved
loop-look-preserved g c =
    let at = c.loop-look in
    let one = c.in_ok-ended in
    let new = c.split_one.new.search in
    record {
      known = known_after at.search.board.problem new.board.problem at.search.known new.known one.ensures.problem
          one.ensures.known at.invariant.known;
      watch = λ may. at.invariant.watch (c.goes_on.ensures.same may);
      heeded = λ was. at.invariant.heeded (c.goes_on.ensures.going c.if-not-goes_on.false was);
      told = told_more (g.W.Watcher.has_said at.watcher) (g.W.Watcher.has_said c.goes_on.new.self) at.used one.ended.used
          c.goes_on.result one.ensures.few at.invariant.told c.goes_on.ensures.kept c.if-not-goes_on.false
          c.goes_on.ensures.said;
      same = one.ensures.known ∙ at.invariant.same;
      looks = look_more c.args.search.now.board.problem at.search.board.problem new.board.problem
          c.args.search.now.known.reduced at._look one.ended.used one.ended.ending c.args.search.now.board.state
          at.search.board.state new.board.state one.ensures.problem at.invariant.looks
          (sym c.end_of.ensures ∙ c.in_default.is) (ends_known at.search.board.problem at.search.known
          c.args.search.now.known one.ended.used one.ended.ending at.search.board.state new.board.state
          at.invariant.same one.ensures.ends);
      split = split_goes_on c.args.search.now.board.problem at.search.board.problem new.board.problem c.args.steps
          at.used one.ended.used c.args.search.now.board.state at.search.board.state new.board.state
          at.invariant.split c.if-used-steps.false one.ensures.few one.ensures.problem one.ensures.grows;
    }

pub returns-in-Some-clause-grows : goal.returns-in-Some-clause-grows
returns-in-Some-clause-grows g c =
    let at = c.loop-look in
    let one = c.in_ok-ended in
    let new = c.split_one.new.search in
    (split_goes_on c.args.search.now.board.problem at.search.board.problem new.board.problem c.args.steps at.used
    one.ended.used c.args.search.now.board.state at.search.board.state new.board.state at.invariant.split
    c.if-used-steps.false one.ensures.few one.ensures.problem one.ensures.grows).grows

pub returns-in-Some-clause-ends : goal.returns-in-Some-clause-ends
returns-in-Some-clause-ends g c some settled =
    let at = c.loop-look in
    let one = c.in_ok-ended in
    let new = c.split_one.new.search in
    look_ends c.args.search.now.board.problem at.search.board.problem c.args.search.now.known.reduced c.args.steps
    at._look one.ended.used (at.used + one.ended.used)
    (g.W.Watcher.may_end c.args.watcher.now × g.W.Watcher.has_ended at.watcher) one.ended.ending
    c.in-Some.ending c.args.search.now.board.state at.search.board.state new.board.state at.invariant.looks
    (sym c.end_of.ensures ∙ c.in-Some.is) (ends_known at.search.board.problem at.search.known
    c.args.search.now.known one.ended.used one.ended.ending at.search.board.state new.board.state
    at.invariant.same one.ensures.ends) settled

pub returns-in-Some-clause-heeded : goal.returns-in-Some-clause-heeded
returns-in-Some-clause-heeded g c = λ other. c.loop-look.invariant.heeded

pub returns-in-Some-clause-told : goal.returns-in-Some-clause-told
returns-in-Some-clause-told g c =
    let at = c.loop-look in
    let one = c.in_ok-ended in
    told_before (g.W.Watcher.has_said at.watcher) at.used one.ended.used one.ended.ending c.in-Some.ending
    (sym c.end_of.ensures ∙ c.in-Some.is) one.ensures.few at.invariant.told

pub returns-then-not-goes_on-clause-grows : goal.returns-then-not-goes_on-clause-grows
returns-then-not-goes_on-clause-grows g c =
    let at = c.loop-look in
    let one = c.in_ok-ended in
    let new = c.split_one.new.search in
    (split_goes_on c.args.search.now.board.problem at.search.board.problem new.board.problem c.args.steps at.used
    one.ended.used c.args.search.now.board.state at.search.board.state new.board.state at.invariant.split
    c.if-used-steps.false one.ensures.few one.ensures.problem one.ensures.grows).grows

pub returns-then-not-goes_on-clause-ends : goal.returns-then-not-goes_on-clause-ends
returns-then-not-goes_on-clause-ends g c some settled =
    (let stopped = c.goes_on.ensures.ended c.if-not-goes_on.true in
    (c.loop-look.invariant.watch stopped.0, stopped.1))

pub returns-then-not-goes_on-clause-heeded : goal.returns-then-not-goes_on-clause-heeded
returns-then-not-goes_on-clause-heeded g c = λ other. absurd (other refl)

pub returns-then-not-goes_on-clause-told : goal.returns-then-not-goes_on-clause-told
returns-then-not-goes_on-clause-told g c =
    let at = c.loop-look in
    let one = c.in_ok-ended in
    told_stop (g.W.Watcher.has_said at.watcher) (g.W.Watcher.has_said c.goes_on.new.self) at.used one.ended.used
    c.goes_on.result one.ensures.few at.invariant.told c.goes_on.ensures.kept c.if-not-goes_on.true c.goes_on.ensures.said

pub returns-then-used-steps-clause-told : goal.returns-then-used-steps-clause-told
returns-then-used-steps-clause-told g c = c.loop-look.invariant.told

pub returns-then-used-steps-clause-heeded : goal.returns-then-used-steps-clause-heeded
returns-then-used-steps-clause-heeded g c = λ other. c.loop-look.invariant.heeded

pub returns-then-used-steps-clause-ends : goal.returns-then-used-steps-clause-ends
returns-then-used-steps-clause-ends g c some settled =
    all_used c.args.search.now.board.problem c.args.steps c.loop-look.used
    (g.W.Watcher.may_end c.args.watcher.now × g.W.Watcher.has_ended c.loop-look.watcher)
    c.args.search.now.board.state c.loop-look.search.board.state c.if-used-steps.true
    c.loop-look.invariant.split.few some

pub returns-clause-told : goal.returns-clause-told
returns-clause-told g c = told_full (g.W.Watcher.has_said c.loop-look.watcher) c.loop-look.used c.loop-look.invariant.told

pub returns-clause-heeded : goal.returns-clause-heeded
returns-clause-heeded g c = λ other. c.loop-look.invariant.heeded

pub returns-clause-ends : goal.returns-clause-ends
returns-clause-ends g c some settled = looks_end c.args.search.now.board.problem c.loop-look.search.board.problem
    c.args.search.now.known.reduced c.args.steps c.loop-look._look c.loop-look.used
    (g.W.Watcher.may_end c.args.watcher.now × g.W.Watcher.has_ended c.loop-look.watcher)
    c.args.search.now.board.state c.loop-look.search.board.state
    (grind (arith, common_steps)) c.loop-look.invariant.looks settled
