use Rattle.std.proofs.Common.{◌∙◌, ap, sym, subst, length}
use Rattle.pesp_problem.specs.Timetables.{Pesp}
use Rattle.pesp_problem.specs.Nets.{AreZeros}
use Rattle.pesp_check.proofs.text_check.check_text_of.Goals as goal

pub judge_lines-found-requires-clause-period : goal.judge_lines-found-requires-clause-period
judge_lines-found-requires-clause-period g c = rw c.new-judge.ensures.instance c.rows.ensures.limits.some_period

pub judge_lines-found-requires-clause-judged : goal.judge_lines-found-requires-clause-judged
judge_lines-found-requires-clause-judged g c = rw c.new-judge.ensures.instance c.new-judge.ensures.judged

pub judge_lines-found-requires-clause-long : goal.judge_lines-found-requires-clause-long
judge_lines-found-requires-clause-long g c =
    ap length c.deref_mut.ensures.value ∙ c.in_ok-working.ensures.long ∙ ap length c.rows.ensures.rows
    ∙ ap (λ (p : Pesp). length p.rows) (sym c.new-judge.ensures.instance)

pub judge_lines-found-requires-clause-zeros : goal.judge_lines-found-requires-clause-zeros
judge_lines-found-requires-clause-zeros g c = subst AreZeros (sym c.deref_mut.ensures.value) c.in_ok-working.ensures.zeros

pub returns-clause-ok : goal.returns-clause-ok
returns-clause-ok g c = rw c.new-judge.ensures.instance at c.judge_lines-found.ensures.ok
