use Rattle.pesp_cert_items.proofs.TextLaws.{none_begins_another, lists_differ}
use Rattle.pesp_cert_items.proofs.laws.no_text_begins_another.Goals as goal

pub returns-clause-single : goal.returns-clause-single
returns-clause-single c = none_begins_another

pub returns-clause-lists : goal.returns-clause-lists
returns-clause-lists c = lists_differ
