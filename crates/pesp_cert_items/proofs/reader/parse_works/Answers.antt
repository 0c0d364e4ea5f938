use Rattle.pesp_cert_items.proofs.TextLaws.{reads_found, reads_only, reads_refused}
use Rattle.pesp_cert_items.proofs.reader.parse_works.Goals as goal

pub returns-clause-found : goal.returns-clause-found
returns-clause-found c = reads_found c.args.text.now _ c.read_works.ensures

pub returns-clause-only : goal.returns-clause-only
returns-clause-only c = reads_only c.args.text.now _ c.read_works.ensures

pub returns-clause-refused : goal.returns-clause-refused
returns-clause-refused c = reads_refused c.args.text.now _ c.read_works.ensures
