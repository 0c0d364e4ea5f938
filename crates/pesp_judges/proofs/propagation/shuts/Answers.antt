use Rattle.std.specs.Prelude.{None}
use Rattle.pesp_leaves.specs.Ranges.{node_of}
use Rattle.pesp_judges.proofs.Shutting.{shut_is}
use Rattle.pesp_truth.specs.Trees.{Plain}
use Rattle.pesp_judges.proofs.propagation.shuts.Goals as goal

pub returns-clause-shut : goal.returns-clause-shut
returns-clause-shut c walks = shut_is (Plain None) c.args.instance.now walks
    (node_of c.args.ranges.now) c.args.pass.now _ c.supports_none.result c.period-period.ensures.limits
    c.requires.pass c.deref.ensures.value c.supports_none.ensures.exact
