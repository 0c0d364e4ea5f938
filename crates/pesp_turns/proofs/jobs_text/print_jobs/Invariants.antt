use Rattle.std.proofs.Common.{take}
use Rattle.std.specs.List.{flat_map}
use Rattle.pesp_stream.specs.Printing.{Sends}
use Rattle.pesp_turns.specs.JobsTexts.{open_job_line}
use Rattle.pesp_turns.proofs.jobs_text.print_jobs.Given as goal

abbrev pub invariant-loop-leaf : goal.invariant-loop-leaf
invariant-loop-leaf g l = Sends (g.O.Output.sending l.initial.out) (g.O.Output.sending l.out)
    (flat_map open_job_line (take l.leaf-index l.opens))
