use Rattle.std.proofs.Common.{ap}
use Rattle.pesp_cert_lines.specs.declared.item.Item.TheVariants as items
use Rattle.pesp_cert_lines.proofs.RowLoop.{no_row}
use Rattle.pesp_cert_lines.proofs.PairLoop.{no_pair}
use Rattle.pesp_cert_items.proofs.Lists.{no_rows, no_pairs}
use Rattle.pesp_cert_items.proofs.lent_item.bare_item.Goals as goal

pub new-requires : goal.new-requires
new-requires c = no_row.0

pub new-requires-in-Bound : goal.new-requires-in-Bound
new-requires-in-Bound c = (no_pair 0).0

pub new-requires-in-Nothing : goal.new-requires-in-Nothing
new-requires-in-Nothing c = (no_pair 0).0

pub returns-in-Cycle : goal.returns-in-Cycle
returns-in-Cycle c = rw c.in-Cycle.is (ap items.Cycle (no_rows c.new.result c.new.ensures))

pub returns-in-Bound : goal.returns-in-Bound
returns-in-Bound c = rw c.in-Bound.is (ap items.Bound (no_pairs c.new-in-Bound.result c.new-in-Bound.ensures.words))

pub returns-in-Nothing : goal.returns-in-Nothing
returns-in-Nothing c = rw c.in-Nothing.is (ap items.Nothing (no_pairs c.new-in-Nothing.result c.new-in-Nothing.ensures.words))
