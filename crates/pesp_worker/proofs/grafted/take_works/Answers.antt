use Rattle.std.proofs.Common.{◌≡◌, ◌∷◌, [], List, length, sym, ap, subst, ◌∙◌, append_assoc, append-nil, arith}
use Rattle.std.specs.Vec.Iter.{into_iter_items}
use Rattle.pesp_cert_items.specs.Works.{WorkValue}
use Rattle.pesp_worker.specs.Grafts.{TakesWorks}
use Rattle.pesp_worker.proofs.Opening.{nothing_left}
use Rattle.pesp_worker.proofs.Taking.{more_taken}
use Rattle.pesp_worker.proofs.grafted.take_works.Goals as goal

pub loop-work-preserved : goal.loop-work-preserved
loop-work-preserved c =
    let at = c.loop-work in
    let work = c.in-Some.work in
    let steps : into_iter_items at.work-iterator ≡ work ∷ into_iter_items c.next.new.self = c.in-Some.ensures.steps.0 in
    record {
      all = append_assoc at.yielded (work ∷ []) _ ∙ rw (← steps) at.invariant.all;
      takes = more_taken c.args.board.now.problem at.board.problem c.args.events.now c.args.board.now.state
          at.board.state c.take_work.new.board.state at.yielded at.replies.items c.keep.new.replies.items work
          c.in_ok-reply.reply at.invariant.problem at.invariant.takes c.in_ok-reply.ensures.takes
          c.in_ok-keep.ensures;
      problem = c.in_ok-reply.ensures.problem ∙ at.invariant.problem;
      left = (let was = at.invariant.left in let gone = c.in-Some.ensures.steps.1 in let short = ap length steps in omega arith);
    }

pub returns-clause-takes : goal.returns-clause-takes
returns-clause-takes c =
    let at = c.loop-work in
    let none = c.in-None.ensures.steps in
    let empty : into_iter_items at.work-iterator ≡ [] = nothing_left _ (at.invariant.left ∙ none.0) in
    let all = sym (append-nil at.yielded) ∙ rw empty at at.invariant.all ∙ c.into_iter-work-iterator.ensures.into_iter_gives.0 in
    subst (λ (works : List WorkValue). TakesWorks c.args.board.now.problem c.args.events.now c.args.board.now.state
    works at.replies.items at.board.state) all at.invariant.takes
