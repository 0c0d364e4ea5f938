use Rattle.std.proofs.Common.{◌≡◌, length, ap, ◌∙◌, arith, List}
use Rattle.pesp_network.specs.declared.row.NetRow.{NetRow}
use Rattle.pesp_reduce.specs.declared.fate.Fate.{Fate}
use Rattle.pesp_reduce.specs.Fates.{kept_below}
use Rattle.pesp_reduce.proofs.Reducing.{keeps_kept}
use Rattle.pesp_reduce.proofs.parts.fated.Goals as goal

-- the rows that are kept, over what was lent
kept_is : (fates lent_fates : List Fate) (rows lent made : List NetRow)
    → made ≡ kept_below lent_fates lent (length lent) → lent_fates ≡ fates → lent ≡ rows
    → made ≡ kept_below fates rows (length rows)
kept_is fates lent_fates rows lent made e f g = e ∙ ap (λ xs. kept_below xs lent (length lent)) f
    ∙ ap (λ ys. kept_below fates ys (length ys)) g

pub network_of-requires : goal.network_of-requires
network_of-requires c =
    let left = c.args.left.now in
    let fates = c.in_ok-fates.fates.items in
    rw (c.period.ensures.period, c.events.ensures.events)
    (keeps_kept left.period left.events left.rows c.in_ok-kept.kept.items left.forest fates
    c.rows-rows.ensures.limits
    (kept_is fates c.as_slice.result.now left.rows c.rows-rows.result.now c.in_ok-kept.kept.items
    c.in_ok-kept.ensures c.as_slice.ensures.value c.rows-rows.ensures.rows))

pub returns-clause-kept : goal.returns-clause-kept
returns-clause-kept c =
    let fates = c.in_ok-fates.fates in
    record {
      count = let a = c.in_ok-fates.ensures.count in let b = fates.ok.0 in omega arith;
      fates = record { each = c.in_ok-fates.ensures.each };
      rows = c.in_ok-network.ensures.rows ∙ kept_is fates.items c.as_slice.result.now c.args.left.now.rows
          c.rows-rows.result.now c.in_ok-kept.kept.items c.in_ok-kept.ensures c.as_slice.ensures.value
          c.rows-rows.ensures.rows;
    }
