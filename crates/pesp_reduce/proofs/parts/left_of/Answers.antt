use Rattle.std.proofs.Common.{◌≡◌, ◌<◌, ℕ, length, map, ap, sym, ◌∙◌, arith, subst, List}
use Rattle.std.specs.Prelude.{unsigned_abs, ◌≤◌, [], All}
use Rattle.std.proofs.lemmas.List.Elements.{All-get_or}
use Rattle.pesp_network.specs.declared.row.NetRow.{NetRow}
use Rattle.pesp_network.specs.Networks.{net_row_at, no_net_row, arcs_of_network, KeepsNetLimits}
use Rattle.pesp_reduce.specs.declared.contraction.Contraction.{Contraction}
use Rattle.pesp_reduce.specs.Fates.{mapped_row}
use Rattle.pesp_reduce.proofs.Reducing.{keeps_mapped}
use Rattle.pesp_reduce.proofs.parts.left_of.Goals as goal

-- what the rows are made of, over what was lent
mapped_is : (c : Contraction) (stands shifts : List ℕ) (rows lent made : List NetRow)
    → made ≡ map (mapped_row stands shifts) lent → stands ≡ c.stands.items → shifts ≡ c.shifts.items → lent ≡ rows
    → made ≡ map (mapped_row c.stands.items c.shifts.items) rows
mapped_is c stands shifts rows lent made e f g h =
    e ∙ ap (λ xs. map (mapped_row xs shifts) lent) f ∙ ap (λ xs. map (mapped_row c.stands.items xs) lent) g
    ∙ ap (map (mapped_row c.stands.items c.shifts.items)) h

pub network_of-requires : goal.network_of-requires
network_of-requires c =
    let w = c.args.whole.now in
    let k = c.args.contraction.now in
    let ic = c.requires.contraction in
    let low : (i : ℕ) → i < length w.rows → unsigned_abs (net_row_at w.rows i).lower
    ≤ 1000000 = λ i l. All-get_or (λ row. unsigned_abs row.lower ≤ 1000000) w.rows i no_net_row l
    c.requires.lowers in
    let made_is = mapped_is k c.as_slice-stands.result.now c.as_slice-shifts.result.now w.rows c.rows.result.now
    c.in_ok-rows.rows.items c.in_ok-rows.ensures c.as_slice-stands.ensures.value
    c.as_slice-shifts.ensures.value c.rows.ensures.rows in
    let count : c.len-events.result ≡ length k.firsts.items = let a = c.len-events.ensures in let b = k.firsts.ok.0 in omega arith in
    let P : ℕ → Type 0 = λ m. KeepsNetLimits (record { period = w.period; events = m; rows = c.in_ok-rows.rows.items; forest = [] }) in
    rw c.period-period.ensures.period (subst P (sym count)
    (keeps_mapped w.period w.events (arcs_of_network k.tree.rows) w.rows c.in_ok-rows.rows.items w.forest
    k.stands.items k.firsts.items k.shifts.items c.rows.ensures.limits low ic.standing ic.shifts.count
    ic.shifts.below made_is))

pub returns-clause-rows : goal.returns-clause-rows
returns-clause-rows c =
    c.in_ok-left.ensures.rows ∙ mapped_is c.args.contraction.now c.as_slice-stands.result.now
    c.as_slice-shifts.result.now c.args.whole.now.rows c.rows.result.now c.in_ok-rows.rows.items
    c.in_ok-rows.ensures c.as_slice-stands.ensures.value c.as_slice-shifts.ensures.value c.rows.ensures.rows
