use Rattle.std.proofs.Common.{◌*◌, ◌<◌, inr, length, ap, sym, ◌∙◌, subst}
use Rattle.pesp_problem.specs.Timetables.{Pesp}
use Rattle.pesp_problem.specs.Limits.{KeepsLimits}
use Rattle.pesp_problem.specs.Arcs.{arcs_of}
use Rattle.pesp_network.specs.Networks.{NetworkValue, arcs_of_network}
use Rattle.pesp_branching.specs.Lifted.{AreLifted, IsFrugal}
use Rattle.pesp_search.proofs.Lifting.{none_open, large_has_many_rows}
use Rattle.pesp_search.proofs.lifted_problem.problem_of.Goals as goal

pub lifted_table-requires : goal.lifted_table-requires
lifted_table-requires c = λ i d l. (c.requires.fundamental.each i d l).closes

pub returns-in-Ok-clause-of : goal.returns-in-Ok-clause-of
returns-in-Ok-clause-of c =
    let made = c.in_ok-network.ensures in
    let network = c.in-Ok.ensures.network in
    record {
      period = ap (λ (n : NetworkValue). n.period) network ∙ made.period;
      events = ap (λ (n : NetworkValue). n.events) network ∙ made.events;
      rows = ap (λ (n : NetworkValue). arcs_of_network n.rows) network ∙ made.rows;
    }

pub returns-in-Ok-clause-lifted : goal.returns-in-Ok-clause-lifted
returns-in-Ok-clause-lifted c = subst (AreLifted c.args.reduced.now c.args.walks.now) (sym c.in-Ok.ensures.table) c.in_ok-table.ensures

pub unreachable-requires : goal.unreachable-requires
unreachable-requires c =
    let refused = rw (c.in-Err-OpenWalk.field-0-is) at c.in-Err-OpenWalk.ensures.refused in
    none_open c.args.reduced.now c.args.walks.now c.in_ok-table.table.items _ _ c.in_ok-table.ensures
    (c.in_ok-network.ensures.rows ∙ sym (ap arcs_of c.requires.original)) refused

pub returns-in-Ok-clause-frugal : goal.returns-in-Ok-clause-frugal
returns-in-Ok-clause-frugal c =
    subst IsFrugal (sym c.in-Ok.ensures.table)
    (c.lifted_tables_are_frugal.ensures c.args.reduced.now c.args.walks.now c.in_ok-table.table.items
    c.requires.reduced c.requires.fundamental c.requires.simple c.in_ok-table.ensures)

pub returns-in-Err-TableTooLarge-clause-refused : goal.returns-in-Err-TableTooLarge-clause-refused
returns-in-Err-TableTooLarge-clause-refused c =
    let r = c.args.reduced.now in
    let frugal = c.lifted_tables_are_frugal.ensures r c.args.walks.now c.in_ok-table.table.items c.requires.reduced
    c.requires.fundamental c.requires.simple c.in_ok-table.ensures in
    let refused = rw (c.in-Err-TableTooLarge.field-0-is) at c.in-Err-TableTooLarge.ensures.refused in
    subst (λ (i : Pesp). 10000000 < length i.rows * length i.rows) c.requires.original
    (large_has_many_rows r c.args.walks.now c.in_ok-table.table.items c.requires.reduced
    (subst KeepsLimits (sym c.requires.original) c.rows-limits.ensures.limits) c.requires.fundamental
    c.in_ok-table.ensures frugal refused.large)

pub returns-in-Err-TableTooLarge-clause-passed : goal.returns-in-Err-TableTooLarge-clause-passed
returns-in-Err-TableTooLarge-clause-passed c =
    let refused = rw (c.in-Err-TableTooLarge.field-0-is) at c.in-Err-TableTooLarge.ensures.refused in
    record {
      left = c.args.reduced.now;
      original = c.requires.original;
      reduced = c.requires.reduced;
      spans = c.requires.spans;
      walks = c.args.walks.now;
      fundamental = c.requires.fundamental;
      simple = c.requires.simple;
      large = inr (c.in_ok-table.table.items, c.in_ok-table.ensures, refused.large);
    }
