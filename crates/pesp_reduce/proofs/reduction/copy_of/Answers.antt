use Rattle.std.proofs.Common.{◌≡◌, ℕ, ap, sym, ◌∙◌, subst, List}
use Rattle.std.specs.Prelude.{ℤ}
use Rattle.pesp_problem.specs.declared.row.Row.{Row}
use Rattle.pesp_problem.specs.Timetables.{Pesp}
use Rattle.pesp_problem.specs.Limits.{KeepsLimits}
use Rattle.pesp_reduce.proofs.reduction.copy_of.Goals as goal

abbrev instance_of : ℕ → List ℤ → List Row → Pesp
instance_of period labels rows = record { period = period; events = labels; rows = rows }

copy_is : (p : Pesp) (period : ℕ) (labels : List ℤ) (rows : List Row) → period ≡ p.period → labels ≡ p.events
    → rows ≡ p.rows → record { period = period; events = labels; rows = rows } ≡ p
copy_is p period labels rows e f g = ap (λ t. instance_of t labels rows) e
    ∙ ap (λ xs. instance_of p.period xs rows) f ∙ ap (λ xs. instance_of p.period p.events xs) g

pub new-requires : goal.new-requires
new-requires c =
    let p = c.args.instance.now in
    subst (λ q. KeepsLimits q) (sym (copy_is p c.period.result c.in_ok-events.events.items c.in_ok-rows.rows.items
    c.period.ensures.period (c.in_ok-events.ensures.items ∙ c.events.ensures.events)
    (c.in_ok-rows.ensures.items ∙ c.rows.ensures.rows))) c.period.ensures.limits

pub returns : goal.returns
returns c =
    c.new.ensures ∙ copy_is c.args.instance.now c.period.result c.in_ok-events.events.items c.in_ok-rows.rows.items
    c.period.ensures.period (c.in_ok-events.ensures.items ∙ c.events.ensures.events)
    (c.in_ok-rows.ensures.items ∙ c.rows.ensures.rows)
