use Rattle.std.proofs.Common.{rules}
use Rattle.pesp_sharp_search.proofs.Choices.{costs_no_more}
use Rattle.pesp_plan.proofs.kept_plan.KeptPlanSearch.write.Goals as goal

pub returns-clause-ok : goal.returns-clause-ok
returns-clause-ok g c =
    let kept = c.in_ok-kept.ensures in
    let begun = c.in_ok-going in
    let known = c.pursue-kept.new.going in (
      record {
        certificate = known;
        valid = kept.valid;
        improved = costs_no_more c.args.instance.now c.args.times.now begun.going.content known.content kept.no_worse begun.ensures.improved;
        kept = kept.kept;
      },
      search rules,
    )
