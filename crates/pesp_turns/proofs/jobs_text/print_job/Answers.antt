use Rattle.pesp_stream.proofs.Printing.{sends_then}
use Rattle.pesp_turns.proofs.jobs_text.print_job.Goals as goal

pub returns : goal.returns
returns g c = sends_then (sends_then c.print.ensures (rw c.deref.ensures.value at c.print_path.ensures)) c.put.ensures
