use Rattle.std.proofs.Common.{◌≡◌, ◌∙◌}
use Rattle.pesp_cert.specs.Fronted.{Fronted}
use Rattle.pesp_whole_check.specs.Costs.{shown_of}
use Rattle.pesp_sharp_work.proofs.Retelling.{again_costs, again}
use Rattle.pesp_sharp_work.proofs.shown_answer.retold.Goals as goal

pub with_answer-requires : goal.with_answer-requires
with_answer-requires c =
    let p = c.args.instance.now in
    let told : Fronted = record { front = c.told.inside.front; content = c.told.inside.certificate } in
    let shown : c.in_ok-shown.shown.items ≡ shown_of p told = rw (← c.told.view_is) at c.in_ok-shown.ensures in
    again_costs p told c.answer-answer.ensures.limits (rw (← c.told.view_is) at c.requires)
    c.answer-answer.result c.cost-cost.result c.least_shown-least.result c.deref.result.now c.answer_of.result
    c.answer-answer.ensures.value c.cost-cost.ensures (c.deref.ensures.value ∙ shown) c.least_shown-least.ensures
    c.answer_of.ensures

pub returns : goal.returns
returns c =
    let p = c.args.instance.now in
    let told : Fronted = record { front = c.told.inside.front; content = c.told.inside.certificate } in
    let shown : c.in_ok-shown.shown.items ≡ shown_of p told = rw (← c.told.view_is) at c.in_ok-shown.ensures in
    rw (← c.told.view_is) (again p told c.answer-answer.ensures.limits (rw (← c.told.view_is) at c.requires)
    c.answer-answer.result c.cost-cost.result c.least_shown-least.result c.deref.result.now c.answer_of.result
    c.answer-answer.ensures.value c.cost-cost.ensures (c.deref.ensures.value ∙ shown) c.least_shown-least.ensures
    c.answer_of.ensures c.in_ok-certificate.certificate c.in_ok-certificate.ensures)
