use Rattle.pesp_stream.proofs.Printing.{sends_then}
use Rattle.pesp_turns.proofs.jobs_text.print_step.Goals as goal

pub returns : goal.returns
returns g c = sends_then c.print_cut.ensures c.print_side.ensures
