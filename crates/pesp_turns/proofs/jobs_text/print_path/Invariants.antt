use Rattle.std.proofs.Common.{take}
use Rattle.std.specs.List.{flat_map}
use Rattle.pesp_stream.specs.Printing.{Sends}
use Rattle.pesp_turns.specs.JobsTexts.{step_words}
use Rattle.pesp_turns.proofs.jobs_text.print_path.Given as goal

abbrev pub invariant-loop-step : goal.invariant-loop-step
invariant-loop-step g l = Sends (g.O.Output.sending l.initial.out) (g.O.Output.sending l.out)
    (flat_map step_words (take l.step-index l.path))
