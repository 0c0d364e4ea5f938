use Rattle.std.proofs.Common.{◌≡◌, ◌<◌, ℕ, length, ap, sym, arith, subst, List, Bool}
use Rattle.pesp_network.specs.declared.row.NetRow.{NetRow}
use Rattle.pesp_network.specs.Networks.{net_row_at}
use Rattle.pesp_reduce.specs.Rows.{flag, row_or_loop}
use Rattle.pesp_reduce.specs.Contractions.{AreTree}
use Rattle.pesp_reduce.proofs.Contracting.{keeps_some, are_tree}
use Rattle.pesp_reduce.proofs.contraction.tree_of.Goals as goal

each_part : (rows lent made : List NetRow) (flags : List Bool) → lent ≡ rows
    → ((i : ℕ) → i < length lent → net_row_at made i ≡ row_or_loop (flag flags i) (net_row_at lent i)) → (i : ℕ)
    → i < length rows → net_row_at made i ≡ row_or_loop (flag flags i) (net_row_at rows i)
each_part rows lent made flags e each = subst (λ (xs : List NetRow). (i : ℕ) → i < length xs
    → net_row_at made i ≡ row_or_loop (flag flags i) (net_row_at xs i)) e each

pub network_of-requires : goal.network_of-requires
network_of-requires c =
    let n = c.args.whole.now in
    let made = c.in_ok-parts.parts.items in
    let flags = c.args.contracted.now in
    let count : length made ≡ length n.rows = let k = c.in_ok-parts.parts.ok.0 in
    let m = c.in_ok-parts.ensures.count in let e = ap length c.rows.ensures.rows in omega arith in
    rw (c.period.ensures.period, c.events.ensures.events)
    (keeps_some n.period n.events n.rows made n.forest flags c.period.ensures.limits count
    (each_part n.rows c.rows.result.now made flags c.rows.ensures.rows c.in_ok-parts.ensures.rows))

pub returns-clause-tree : goal.returns-clause-tree
returns-clause-tree c =
    let rows = c.args.whole.now.rows in
    let made = c.in_ok-parts.parts.items in
    let flags = c.args.contracted.now in
    let count : length made ≡ length rows = let k = c.in_ok-parts.parts.ok.0 in
    let m = c.in_ok-parts.ensures.count in let e = ap length c.rows.ensures.rows in omega arith in
    let each = each_part rows c.rows.result.now made flags c.rows.ensures.rows c.in_ok-parts.ensures.rows in
    let f = c.requires in
    subst (λ xs. AreTree rows xs flags) (sym c.in_ok-tree.ensures.rows) (are_tree rows made f.0 flags f.1 f.2 count each)
