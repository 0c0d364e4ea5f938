use Rattle.pesp_cert.proofs.TextLaws.{err_is}
use Rattle.pesp_cert.proofs.FrontedTexts.{limits_said, reads_only, reads_none}
use Rattle.pesp_cert.proofs.reader.parse_fronted.Goals as goal

pub returns-in_err-front-clause-only : goal.returns-in_err-front-clause-only
returns-in_err-front-clause-only c = rw (err_is c.from_residual.result c.in_err-front.field-0.0
    c.from_residual.ensures.1) (reads_none c.args.text.now _ (rw c.in_err-front.was at c.parse_text.ensures.only))

pub front_of-requires : goal.front_of-requires
front_of-requires c = limits_said c.args.text.now _ c.in_ok-front.certificate c.in_ok-front.ensures.found

pub returns-clause-found : goal.returns-clause-found
returns-clause-found c = rw c.front_of.ensures c.in_ok-front.ensures.found

pub returns-clause-only : goal.returns-clause-only
returns-clause-only c = rw c.front_of.ensures
    (reads_only c.args.text.now c.in_ok-front.front c.in_ok-front.certificate c.in_ok-front.ensures.only)
