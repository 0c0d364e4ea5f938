use Rattle.pesp_stream.proofs.Printing.{sends_more}
use Rattle.pesp_turns.specs.JobsTexts.{step_words}
use Rattle.pesp_turns.proofs.jobs_text.print_path.Goals as goal

pub loop-step-preserved : goal.loop-step-preserved
loop-step-preserved g c = sends_more step_words c.args.path.now c.loop-step.step-index _ c.loop-step-test.true
    c.loop-step.invariant c.print_step.ensures
