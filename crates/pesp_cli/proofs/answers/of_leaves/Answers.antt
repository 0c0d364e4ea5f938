use Rattle.pesp_cli.proofs.answers.of_leaves.Goals as goal

pub returns-in-Work-clause-stopped : goal.returns-in-Work-clause-stopped
returns-in-Work-clause-stopped g c =
    let cause = rw c.as_slice-jobs.ensures.value at c.on_base-answer.ensures.stopped in
    rw c.in-Work.is cause

pub returns-in-WorkSharp-clause-stopped : goal.returns-in-WorkSharp-clause-stopped
returns-in-WorkSharp-clause-stopped g c =
    let cause = rw c.as_slice-jobs-in-WorkSharp.ensures.value at c.on_base-answer-in-WorkSharp.ensures.stopped in
    rw c.in-WorkSharp.is cause

pub returns-in-WorkSharp-clause-answered : goal.returns-in-WorkSharp-clause-answered
returns-in-WorkSharp-clause-answered g c =
    let answered = rw c.as_slice-jobs-in-WorkSharp.ensures.value at c.on_base-answer-in-WorkSharp.ensures.answered in
    rw c.in-WorkSharp.is answered
