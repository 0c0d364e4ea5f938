use Rattle.pesp_cert.proofs.TextLaws.{reads_whole, reads_text, reads_none, whole_keeps, err_is}
use Rattle.pesp_cert.proofs.reader.parse_text.Goals as goal

pub returns-in_err-front-clause-only : goal.returns-in_err-front-clause-only
returns-in_err-front-clause-only c = rw (err_is c.from_residual.result c.in_err-front.field-0.0
    c.from_residual.ensures.1) (reads_none c.args.versions c.args.text.now _ (rw c.in_err-front.was at c.read_text.ensures))

pub from_draft-requires : goal.from_draft-requires
from_draft-requires c = whole_keeps _ c.args.text.now c.in_ok-front.draft
    (reads_whole c.args.versions c.args.text.now c.in_ok-front.front c.in_ok-front.draft
    (rw c.in_ok-front.was at c.read_text.ensures)).0

pub returns-clause-found : goal.returns-clause-found
returns-clause-found c = rw c.from_draft.ensures
    (reads_whole c.args.versions c.args.text.now c.in_ok-front.front c.in_ok-front.draft
    (rw c.in_ok-front.was at c.read_text.ensures)).0

pub returns-clause-taken : goal.returns-clause-taken
returns-clause-taken c = (reads_whole c.args.versions c.args.text.now c.in_ok-front.front c.in_ok-front.draft
    (rw c.in_ok-front.was at c.read_text.ensures)).1

pub returns-clause-only : goal.returns-clause-only
returns-clause-only c = rw c.from_draft.ensures
    (reads_text c.args.versions c.args.text.now c.in_ok-front.front c.in_ok-front.draft
    (rw c.in_ok-front.was at c.read_text.ensures))
