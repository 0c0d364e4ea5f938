use Rattle.std.proofs.Common.{sym}
use Rattle.pesp_cert_items.proofs.Steps.{job_fault, job_taken}
use Rattle.pesp_cert_items.proofs.reader.take_job.Goals as goal

pub returns-in-Err-clause-refused : goal.returns-in-Err-clause-refused
returns-in-Err-clause-refused c = rw c.refusal_at.ensures
    (job_fault c.args.cursor.now.n c.take_bytes.new.cursor.n c.args.cursor.now.rest.now c.in_ok-line.line.now
    c.take_bytes.new.cursor.rest.now c.in-Err.fault c.in_ok-line.ensures.takes (sym c.in-Err.ensures))

pub returns-in-Ok-clause-goes : goal.returns-in-Ok-clause-goes
returns-in-Ok-clause-goes c = job_taken c.args.cursor.now.n c.take_bytes.new.cursor.n c.args.cursor.now.rest.now
    c.in_ok-line.line.now c.take_bytes.new.cursor.rest.now c.in-Ok.job c.in_ok-line.ensures.takes
    (sym c.in-Ok.ensures)
