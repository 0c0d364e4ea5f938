use Rattle.std.proofs.Common.{◌≡◌, ◌∷◌, [], ◌++◌, List, length, sym, ap, subst, ◌∙◌, append_assoc, append-nil, arith}
use Rattle.std.specs.Vec.Iter.{into_iter_items}
use Rattle.pesp_tree.specs.declared.job.Job.{Job}
use Rattle.pesp_tree.specs.Adopting.{LendsEach}
use Rattle.pesp_worker.proofs.Lending.{one_lent}
use Rattle.pesp_worker.proofs.Opening.{nothing_left, one_more_job, one_more_value}
use Rattle.pesp_worker.proofs.jobs.valued_jobs.Goals as goal

pub valued-leaf-requires : goal.valued-leaf-requires
valued-leaf-requires c =
    let at = c.loop-job in
    let job = c.in-Some.job in
    let rest = into_iter_items c.next.new.self in
    let steps : into_iter_items at.job-iterator ≡ job ∷ rest = c.in-Some.ensures.steps.0 in
    let items : at.yielded ++ job ∷ rest ≡ c.args.jobs.items = rw steps at at.invariant.all
    ∙ c.into_iter-job-iterator.ensures.into_iter_gives.0 in
    one_lent c.args.board.now.problem c.requires.0 c.args.board.now.state at.yielded rest job
    (subst (λ (jobs : List Job). LendsEach c.args.board.now.problem c.requires.0 jobs c.args.board.now.state)
    (sym items) c.requires.1)

pub loop-job-preserved : goal.loop-job-preserved
loop-job-preserved c =
    let at = c.loop-job in
    let job = c.in-Some.job in
    let steps : into_iter_items at.job-iterator ≡ job ∷ into_iter_items c.next.new.self = c.in-Some.ensures.steps.0 in
    record {
      all = append_assoc at.yielded (job ∷ []) _ ∙ rw (← steps) at.invariant.all;
      jobs = one_more_job at.opens.items c.keep.new.opens.items at.yielded c.valued-leaf.result job
          at.invariant.jobs c.valued-leaf.ensures.job c.in_ok-keep.ensures;
      values = one_more_value c.args.board.now.problem c.args.board.now.state at.opens.items c.keep.new.opens.items
          c.valued-leaf.result at.invariant.values c.valued-leaf.ensures.value c.in_ok-keep.ensures;
      left = (let was = at.invariant.left in let gone = c.in-Some.ensures.steps.1 in let short = ap length steps in omega arith);
    }

pub returns-clause-jobs : goal.returns-clause-jobs
returns-clause-jobs c =
    let at = c.loop-job in
    let none = c.in-None.ensures.steps in
    let empty : into_iter_items at.job-iterator ≡ [] = nothing_left _ (at.invariant.left ∙ none.0) in
    at.invariant.jobs ∙ sym (append-nil at.yielded) ∙ rw empty at at.invariant.all ∙ c.into_iter-job-iterator.ensures.into_iter_gives.0
