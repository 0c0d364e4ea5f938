use Rattle.pesp_cert.proofs.TextLaws.{plain_found, plain_reads, plain_none, err_is}
use Rattle.pesp_cert.proofs.reader.parse.Goals as goal

pub returns-in_err-front-clause-only : goal.returns-in_err-front-clause-only
returns-in_err-front-clause-only c = rw (err_is c.from_residual.result c.in_err-front.field-0.0
    c.from_residual.ensures.1) (plain_none c.args.text.now _ (rw c.in_err-front.was at c.parse_text.ensures.only))

pub returns-clause-found : goal.returns-clause-found
returns-clause-found c = plain_found c.args.text.now c.in_ok-front.front c.in_ok-front.certificate
    c.in_ok-front.ensures.found c.in_ok-front.ensures.taken

pub returns-clause-only : goal.returns-clause-only
returns-clause-only c = plain_reads c.args.text.now c.in_ok-front.front c.in_ok-front.certificate c.in_ok-front.ensures.only
