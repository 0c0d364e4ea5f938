use Rattle.std.proofs.Common.{◌≡◌, ℕ, ◌<◌, length, get_or, Option, None}
use Rattle.std.proofs.lemmas.List.{get_or_default}
use Rattle.pesp_sharp_work.proofs.Lesser.{one_read}
use Rattle.pesp_sharp_work.proofs.least.least_shown.Goals as goal

pub loop-value-preserved : goal.loop-value-preserved
loop-value-preserved c =
    let shown = c.args.shown.now in
    let k = c.loop-value.value-index in
    let below : k < length shown = c.loop-value-test.true in
    let value : Option ℕ = get_or shown k None in
    let is : value ≡ get_or shown k value = get_or_default shown k None value below in
    one_read shown c.args.cost c.loop-value.least value c.lesser-least.result k below is c.lesser-least.ensures
    c.loop-value.invariant
