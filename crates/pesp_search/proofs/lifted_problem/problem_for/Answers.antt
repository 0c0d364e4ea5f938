use Rattle.std.proofs.Common.{List, subst}
use Rattle.std.specs.Prelude.{IfOk}
use Rattle.pesp_problem.specs.declared.row.SignedRow.{SignedRow}
use Rattle.pesp_branching.specs.Lifted.{AreLifted}
use Rattle.pesp_search.proofs.Beginnings.{few_there, searched_there}
use Rattle.pesp_search.proofs.lifted_problem.problem_for.Goals as goal

pub returns-clause-searched : goal.returns-clause-searched
returns-clause-searched c =
    let lifted = subst (λ (walks : List (List SignedRow)).
    IfOk c.problem_of.result (λ p. AreLifted c.args.reduced.now walks p.table)) c.deref.ensures.value
    c.problem_of.ensures.lifted in
    searched_there c.args.instance.now c.args.reduced.now c.in_ok-walks.walks.items c.problem_of.result
    c.rows-limits.ensures.limits c.requires.original c.requires.reduced c.in_ok-walks.ensures.fundamental
    c.problem_of.ensures.of lifted

pub returns-clause-few : goal.returns-clause-few
returns-clause-few c =
    let lifted = subst (λ (walks : List (List SignedRow)).
    IfOk c.problem_of.result (λ p. AreLifted c.args.reduced.now walks p.table)) c.deref.ensures.value
    c.problem_of.ensures.lifted in
    few_there c.args.instance.now c.args.reduced.now c.in_ok-walks.walks.items c.problem_of.result
    c.requires.original c.requires.reduced c.in_ok-walks.ensures.fundamental lifted
