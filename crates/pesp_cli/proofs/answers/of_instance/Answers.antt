use Rattle.pesp_cli.proofs.answers.of_instance.Goals as goal

pub returns-in-Solve-clause-stopped : goal.returns-in-Solve-clause-stopped
returns-in-Solve-clause-stopped g c = rw c.in-Solve.is c.search-answer.ensures.stopped

pub returns-in-SolveSharp-clause-stopped : goal.returns-in-SolveSharp-clause-stopped
returns-in-SolveSharp-clause-stopped g c = rw c.in-SolveSharp.is c.search-answer-in-SolveSharp.ensures.stopped

pub returns-in-Solve-clause-answered : goal.returns-in-Solve-clause-answered
returns-in-Solve-clause-answered g c = rw c.in-Solve.is c.search-answer.ensures.answered

pub returns-in-SolveSharp-clause-answered : goal.returns-in-SolveSharp-clause-answered
returns-in-SolveSharp-clause-answered g c = rw c.in-SolveSharp.is c.search-answer-in-SolveSharp.ensures.answered
