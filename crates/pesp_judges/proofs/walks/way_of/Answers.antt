use Rattle.std.proofs.lemmas.Result.{IfOk-weaker}
use Rattle.pesp_problem.specs.Arcs.{arcs_of}
use Rattle.pesp_judges.specs.declared.walks.Way.{Way}
use Rattle.pesp_judges.proofs.Following.{way_from}
use Rattle.pesp_judges.proofs.walks.way_of.Goals as goal

pub returns-clause-way : goal.returns-clause-way
returns-clause-way g c =
    IfOk-weaker c.follow.result _ _ (λ (way : Way) h.
    way_from (arcs_of c.args.instance.now) (g.R.Elements.elements c.args.rows)
    (g.R.Elements.elements c.take_next.new.self) c.in-Some.first c.ends-begin.result.0 way c.in-Some.ensures
    c.ends-begin.ensures.start h) c.follow.ensures.way
