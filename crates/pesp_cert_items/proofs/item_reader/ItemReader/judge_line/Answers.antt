use Rattle.std.proofs.Common.{refl, sym}
use Rattle.pesp_cert_items.proofs.Lists.{is_item}
use Rattle.pesp_cert_items.proofs.item_reader.ItemReader.judge_line.Goals as goal

pub returns-in-Some-clause-says : goal.returns-in-Some-clause-says
returns-in-Some-clause-says c =
    let item = c.in_ok-item.item in
    let taken = c.in_ok-item.ensures in
    let said = rw c.line.ensures at (sym taken.exact) in
    let spelt = rw c.line.ensures at (taken.spelt item) in
    let bare = rw c.in-Some.is at c.bare_line.ensures in
    (item, is_item _ _ _ _ item said (spelt.0 refl) taken.goes bare.0 bare.1)
