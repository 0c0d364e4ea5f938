use Rattle.std.proofs.Common.{ℕ, ◌∙◌, ap, sym, subst, length, List}
use Rattle.pesp_problem.specs.Arcs.{arcs_of}
use Rattle.pesp_leaves.specs.Offsets.{AreSlackRanges}
use Rattle.pesp_leaves.specs.Ranges.{idle_sum}
use Rattle.pesp_judges.proofs.Tables.{root_are_ranges, root_idle}
use Rattle.pesp_judges.proofs.table.root.Goals as goal

pub root_offsets-requires-clause-slacks : goal.root_offsets-requires-clause-slacks
root_offsets-requires-clause-slacks c =
    let P : List (ℕ × ℕ) → Type 0 = λ slacks. AreSlackRanges (length c.args.instance.now.rows) slacks in
    subst P (sym (c.deref.ensures.value ∙ c.in_ok-slacks.ensures.slacks))
    (root_are_ranges c.args.instance.now c.in_ok-slacks.ensures.limits)

pub returns-clause-ranges : goal.returns-clause-ranges
returns-clause-ranges c =
    let P : List (ℕ × ℕ) → Type 0 = λ slacks. AreSlackRanges (length c.args.instance.now.rows) slacks in
    record {
      slacks = subst P (sym c.in_ok-slacks.ensures.slacks) (root_are_ranges c.args.instance.now c.in_ok-slacks.ensures.limits);
      idle = sym (root_idle c.args.instance.now)
          ∙ ap (λ (slacks : List (ℕ × ℕ)). idle_sum (arcs_of c.args.instance.now) slacks)
          (sym c.in_ok-slacks.ensures.slacks);
    }
