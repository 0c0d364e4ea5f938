use Rattle.std.proofs.Common.{◌≡◌, ◌<◌, ℕ, length, map, ap, sym, ◌∙◌, arith, subst, List}
use Rattle.std.specs.Prelude.{unsigned_abs, ◌≤◌}
use Rattle.std.proofs.lemmas.List.{length-map}
use Rattle.std.proofs.lemmas.List.Elements.{All-from_get_or}
use Rattle.pesp_problem.specs.Timetables.{Pesp}
use Rattle.pesp_problem.specs.Limits.{KeepsLimits}
use Rattle.pesp_problem.specs.Arcs.{arcs_of}
use Rattle.pesp_problem.proofs.Arcs.{length-arcs_of}
use Rattle.pesp_network.specs.declared.row.NetRow.{NetRow}
use Rattle.pesp_network.specs.Networks.{net_row_at, no_net_row, arcs_of_network}
use Rattle.pesp_reduce.specs.declared.contraction.Contraction.{Contraction}
use Rattle.pesp_reduce.specs.Rows.{row_that_matters}
use Rattle.pesp_reduce.specs.Contracting.{IsContraction}
use Rattle.pesp_reduce.proofs.Lists.{arcs_length}
use Rattle.pesp_reduce.proofs.Reducing.{matter_lower}
use Rattle.pesp_reduce.proofs.Results.{is_reduction}
use Rattle.pesp_reduce.proofs.parts.parts_of.Goals as goal

contraction_at : (period events own own_events : ℕ) (rows : List NetRow) (c : Contraction) → own ≡ period
    → own_events ≡ events → IsContraction own own_events rows c → IsContraction period events rows c
contraction_at period events own own_events rows c e f h =
    subst (λ m. IsContraction period m rows c) f (subst (λ t. IsContraction t own_events rows c) e h)

whole_is : (p : Pesp) (period : ℕ) (given whole : List NetRow) → period ≡ p.period
    → whole ≡ map (row_that_matters period) given → whole ≡ map (row_that_matters p.period) given
whole_is p period given whole e f = f ∙ ap (λ t. map (row_that_matters t) given) e

whole_low : (p : Pesp) (given whole : List NetRow) (i : ℕ) → KeepsLimits p → arcs_of_network given ≡ arcs_of p
    → whole ≡ map (row_that_matters p.period) given → i < length whole
    → unsigned_abs (net_row_at whole i).lower ≤ 1000000
whole_low p given whole i limits arcs_are e l =
    let sizes : length whole ≡ length p.rows = ap length e ∙ length-map given (row_that_matters p.period)
    ∙ sym (arcs_length given) ∙ ap length arcs_are ∙ length-arcs_of p in
    subst (λ rows. unsigned_abs (net_row_at rows i).lower ≤ 1000000) (sym e) (matter_lower p given i limits arcs_are (omega (arith, sizes)))

pub kept_of-requires-clause-count : goal.kept_of-requires-clause-count
kept_of-requires-clause-count c =
    let g = c.args.given.now in
    ap length c.in_ok-whole.ensures.rows ∙ length-map g.rows (row_that_matters g.period) ∙ sym (ap length c.rows.ensures.rows)

pub kept_of-requires-clause-lowers : goal.kept_of-requires-clause-lowers
kept_of-requires-clause-lowers c =
    let p = c.args.instance.now in
    let g = c.args.given.now in
    let w = c.in_ok-whole.whole.rows in
    All-from_get_or (λ (row : NetRow). unsigned_abs row.lower ≤ 1000000) w no_net_row
    (λ i l. whole_low p g.rows w i c.period-period.ensures.limits c.requires.rows
    (whole_is p g.period g.rows w c.requires.period c.in_ok-whole.ensures.rows) l)

pub returns : goal.returns
returns c =
    let p = c.args.instance.now in
    let g = c.args.given.now in
    let w = c.in_ok-whole.whole in
    let k = c.in_ok-contraction.contraction in
    let made = c.in_ok-fates.field-0 in
    let kept = rw (c.period-period.ensures.period, c.rows.ensures.rows) at c.in_ok-fates.ensures.kept in
    let period_is : w.period ≡ p.period = c.in_ok-whole.ensures.period ∙ c.requires.period in
    let events_are : w.events ≡ length p.events = c.in_ok-whole.ensures.events ∙ c.requires.events in
    is_reduction p g.rows w made.network k made.fates.items c.period-period.ensures.limits c.requires.rows
    c.requires.origins period_is events_are (whole_is p g.period g.rows w.rows c.requires.period
    c.in_ok-whole.ensures.rows)
    (contraction_at p.period (length p.events) w.period w.events w.rows k period_is events_are
    c.in_ok-contraction.ensures) kept.count kept.fates
    (c.in_ok-fates.ensures.period ∙ period_is) c.in_ok-fates.ensures.events kept.rows
