use Rattle.std.proofs.Common.{◌≡◌, sym, subst}
use Rattle.pesp_reduce.specs.Reductions.{IsReduction}
use Rattle.pesp_reduce.proofs.Results.{reduced_row, none_free, none_fixed, no_contracted_cycle}
use Rattle.pesp_reduce.proofs.Fated.{kept_in_order, fates_are_right, are_merged, are_for_events}
use Rattle.pesp_reduce.proofs.reduction.reduce.Goals as goal

pub returns : goal.returns
returns c =
    let p = c.args.instance.now in
    let parts = c.in_ok-whole.field-0 in
    let own = c.in_ok-whole.ensures in
    let same : c.in_ok-original.original ≡ p = c.in_ok-original.ensures in
    let r = subst (λ q. IsReduction q parts.fates.items parts.whole parts.contraction parts.network) (sym same) own in
    record {
      original = same;
      period = own.period;
      no_bridge = r.no_bridge;
      no_free = λ j l. none_free _ _ _ _ _ j r l;
      no_fixed = λ j l. none_fixed _ _ _ _ _ j r l;
      rows = λ j l. reduced_row _ _ _ _ _ j r l;
      kept = kept_in_order _ _ _ _ _ r;
      fates = fates_are_right _ _ _ _ _ r;
      merged = are_merged _ _ _ _ _ r;
      lengths = are_for_events _ _ _ _ _ r;
      shifts = own.contraction.shifts.below;
      no_cycle = no_contracted_cycle _ _ _ _ _ r;
    }

pub invariant_of-result : goal.invariant_of-result
invariant_of-result c =
    let parts = c.in_ok-whole.field-0 in
    subst (λ q. IsReduction q parts.fates.items parts.whole parts.contraction parts.network)
    (sym c.in_ok-original.ensures) c.in_ok-whole.ensures
