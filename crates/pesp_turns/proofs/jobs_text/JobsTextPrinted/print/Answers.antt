use Rattle.pesp_stream.proofs.Printing.{sends_then}
use Rattle.pesp_turns.proofs.jobs_text.JobsTextPrinted.print.Goals as goal

pub returns : goal.returns
returns g c = sends_then (sends_then c.put.ensures c.print_jobs.ensures) c.put-2.ensures
