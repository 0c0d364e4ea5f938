use Rattle.std.proofs.Common.{List, ℕ, sym, subst}
use Rattle.std.specs.Prelude.{All}
use Rattle.pesp_truth.specs.Conflicts.{IsNeeded}
use Rattle.pesp_conflict.specs.Insides.{IsTrial}
use Rattle.pesp_conflict.proofs.Trials.{each_still_needed, one_more_needed}
use Rattle.pesp_conflict.proofs.known.take.Goals as goal

pub returns-in_ok-push-in-Needed : goal.returns-in_ok-push-in-Needed
returns-in_ok-push-in-Needed c p known trial =
    let listed = c.args.known.now.listed.items in
    let one : IsNeeded p listed c.in-Needed.row = subst (IsTrial p listed) c.in-Needed.is trial in (
      known.0,
      subst (λ (rows : List ℕ). All (IsNeeded p listed) rows) (sym c.in_ok-push-in-Needed.ensures.items)
          (one_more_needed p listed c.args.known.now.needed.items c.in-Needed.row known.1 one),
    )

pub returns-in-Fewer : goal.returns-in-Fewer
returns-in-Fewer c p known trial =
    let listed = c.args.known.now.listed.items in
    let t = subst (IsTrial p listed) c.in-Fewer.is trial in
    (t.0, each_still_needed p listed c.in-Fewer.rows.items c.args.known.now.needed.items t.1 known.1)
