use Rattle.std.proofs.Common.{ap, refl}
use Rattle.pesp_cert_lines.proofs.MarkedLoop.{no_row}
use Rattle.pesp_cert_lines.specs.declared.item.Item.TheVariants as items
use Rattle.pesp_cert_lines.proofs.PairLoop.{no_pair}
use Rattle.pesp_cert_items.proofs.Lists.{no_marked, no_pairs}
use Rattle.pesp_cert_items.proofs.lent_item.bare_line.Goals as goal

pub new-requires : goal.new-requires
new-requires c = no_row.0

pub new-requires-in-Lemma : goal.new-requires-in-Lemma
new-requires-in-Lemma c = (no_pair 0).0

pub returns-in-Lemma : goal.returns-in-Lemma
returns-in-Lemma c = rw c.in-Lemma.is (refl, ap items.Lemma (no_pairs c.new-in-Lemma.result c.new-in-Lemma.ensures.words))

pub returns-in-Walk : goal.returns-in-Walk
returns-in-Walk c = rw c.in-Walk.is (refl, ap items.Walk (no_marked c.new.result c.new.ensures))
