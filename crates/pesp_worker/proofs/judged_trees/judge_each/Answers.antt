use Rattle.std.proofs.Common.{◌≡◌, ◌∷◌, [], ◌++◌, List, length, refl, sym, ap, subst, ◌∙◌, append_assoc, append-nil, arith}
use Rattle.std.specs.Vec.Iter.{into_iter_items}
use Rattle.pesp_cert_items.specs.Works.{WorkValue}
use Rattle.pesp_worker.proofs.Opening.{nothing_left}
use Rattle.pesp_worker.specs.HandingIn.{AreHandedIn}
use Rattle.pesp_worker.proofs.Works.{none_judged, judged_next, lent_still, this_is_lent, all_judged, rise_of}
use Rattle.pesp_worker.proofs.judged_trees.judge_each.Goals as goal

pub loop-work-init : goal.loop-work-init
loop-work-init c =
    let items = c.into_iter-work-iterator.ensures.into_iter_gives in
    record {
      all = refl;
      so_far = rw c.new-works.ensures.items (none_judged c.args.board.now.problem c.args.board.now.state
          c.args.steps c.args.until _ (rw items.0 (rise_of c.args.found.items c.requires.rise)));
      count = (let long = ap length items.0 in let len = items.1 in let fits = c.args.found.ok.0 in omega arith);
    }

pub judge_next-requires : goal.judge_next-requires
judge_next-requires c =
    let at = c.loop-work in
    let work = c.in-Some.work in
    let rest = into_iter_items c.next.new.self in
    let steps : into_iter_items at.work-iterator ≡ work ∷ rest = c.in-Some.ensures.steps.0 in
    let items : at.yielded ++ work ∷ rest ≡ c.args.found.items = rw steps at at.invariant.all
    ∙ c.into_iter-work-iterator.ensures.into_iter_gives.0 in
    let so_far = rw steps at at.invariant.so_far in
    lent_still c.args.board.now.problem c.args.board.now.state at.board.state so_far.above work.job
    c.best-best.ensures.orderly so_far.stay so_far.rise.0
    (this_is_lent c.args.board.now.state at.yielded rest c.args.found.items work items c.requires.lent)

pub loop-work-preserved : goal.loop-work-preserved
loop-work-preserved c =
    let at = c.loop-work in
    let work = c.in-Some.work in
    let rest = into_iter_items c.next.new.self in
    let steps : into_iter_items at.work-iterator ≡ work ∷ rest = c.in-Some.ensures.steps.0 in
    let items : at.yielded ++ work ∷ rest ≡ c.args.found.items = rw steps at at.invariant.all
    ∙ c.into_iter-work-iterator.ensures.into_iter_gives.0 in
    let so_far = rw steps at at.invariant.so_far in
    let made = c.in_ok-judged in
    record {
      all = append_assoc at.yielded (work ∷ []) _ ∙ rw (← steps) at.invariant.all;
      so_far = judged_next c.args.board.now.problem at.board.problem c.judge_next.new.board.problem
          c.args.board.now.state at.board.state c.judge_next.new.board.state c.args.steps at.left _ c.args.until
          at.yielded rest at.works.items c.add.new.works.items work _ c.best-best.ensures.orderly
          (this_is_lent c.args.board.now.state at.yielded rest c.args.found.items work items c.requires.lent)
          so_far made.ensures.problem made.ensures.judged made.ensures.left made.ensures.others c.in_ok-add.ensures;
      count = (let was = at.invariant.count in let gone = c.in-Some.ensures.steps.1 in let short = ap length steps in omega arith);
    }

pub returns : goal.returns
returns c =
    let at = c.loop-work in
    let none = c.in-None.ensures.steps in
    let empty : into_iter_items at.work-iterator ≡ [] = nothing_left _ (at.invariant.count ∙ none.0) in
    let all = sym (append-nil at.yielded) ∙ rw empty at at.invariant.all ∙ c.into_iter-work-iterator.ensures.into_iter_gives.0 in
    subst (λ (found : List WorkValue). AreHandedIn c.args.board.now.problem c.args.board.now.state c.args.steps
    c.args.until found at.works.items) all (all_judged c.args.board.now.problem at.board.problem
    c.args.board.now.state at.board.state c.args.steps at.left c.args.until at.yielded _ at.works.items
    at.invariant.so_far)
