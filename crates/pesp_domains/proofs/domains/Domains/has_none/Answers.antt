use Rattle.std.proofs.Common.{◌∙◌, ◌+◌, ◌*◌, ap, ℕ, List}
use Rattle.std.specs.Prelude.{slice_range}
use Rattle.pesp_domains.proofs.Holding.{some_difference}
use Rattle.pesp_domains.proofs.domains.Domains.has_none.Goals as goal

pub returns-clause-some : goal.returns-clause-some
returns-clause-some c = λ e.
    let v = c.width_of-width.result in
    some_difference _ c.args.self.now c.args.event _ c.self.view_is
    (ap (λ (ws : List ℕ). slice_range ws (c.args.event * v) (c.args.event * v + v)) c.deref.ensures.value
    ∙ ap (λ (w : ℕ). slice_range c.self.inside.words.items (c.args.event * w) (c.args.event * w + w))
    c.width_of-width.ensures) (c.has_none.ensures.some e)
