use Rattle.std.proofs.Common.{◌∙◌, ap, sym, subst, inl, length}
use Rattle.pesp_problem.specs.Timetables.{Pesp}
use Rattle.pesp_leaves.specs.Taken.{HaveRows}
use Rattle.pesp_judges.specs.Showing.{kept_of_lemma}
use Rattle.pesp_whole_check.proofs.Limits.{shown_within}
use Rattle.pesp_whole_check.proofs.LemmaCheck.{whole_lemma}
use Rattle.pesp_whole_check.proofs.lemma_check.judge_lemma.Goals as goal

pub parts_fault-found-requires-clause-rows : goal.parts_fault-found-requires-clause-rows
parts_fault-found-requires-clause-rows c =
    let begun = rw c.in-Ok.is at c.in_ok-judge.ensures in
    let H : Pesp → Type 0 = λ p. HaveRows (length p.rows) c.args.facts.now in
    subst H (sym begun.0) c.requires.rows

pub parts_fault-found-requires-clause-begun : goal.parts_fault-found-requires-clause-begun
parts_fault-found-requires-clause-begun c =
    let begun = rw c.in-Ok.is at c.in_ok-judge.ensures in
    rw begun.0 begun.1

pub parts_fault-found-requires-clause-long : goal.parts_fault-found-requires-clause-long
parts_fault-found-requires-clause-long c =
    let begun = rw c.in-Ok.is at c.in_ok-judge.ensures in
    c.requires.long ∙ ap (λ (p : Pesp). length p.rows) (sym begun.0)

pub returns-in-Err-clause-verdict : goal.returns-in-Err-clause-verdict
returns-in-Err-clause-verdict c = inl (rw c.in-Err.is at c.in_ok-judge.ensures)

pub returns-in-None-clause-verdict : goal.returns-in-None-clause-verdict
returns-in-None-clause-verdict c =
    let begun = rw c.in-Ok.is at c.in_ok-judge.ensures in
    let s = c.args.lemma.now in
    let whole = rw (c.in-None.is, begun.0) at c.in_ok-found.ensures.verdict in
    whole_lemma c.args.instance.now c.args.facts.now s c.args.at (kept_of_lemma c.parts_fault-found.new.judge) c.into_lemma-fact.result
    (shown_within s c.requires.limits).within whole c.into_lemma-fact.ensures.lemma

pub returns-in-Some-clause-verdict : goal.returns-in-Some-clause-verdict
returns-in-Some-clause-verdict c =
    let begun = rw c.in-Ok.is at c.in_ok-judge.ensures in
    rw (c.in-Some.is, begun.0) at c.in_ok-found.ensures.verdict
