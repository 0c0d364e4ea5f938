use Rattle.std.proofs.Common.{to_z, of_z, rules}
use Rattle.std.specs.Int.{w128}
use Rattle.std.proofs.lemmas.Int.{to_z-of_z}
use Rattle.pesp_search.proofs.SinglePairs.{one_valued}
use Rattle.pesp_search.proofs.single.with_pair.Goals as goal

pub returns-in_ok-push-in-Some-clause-value : goal.returns-in_ok-push-in-Some-clause-value
returns-in_ok-push-in-Some-clause-value c =
    one_valued c.args.problem.now c.args.node.now c.args.pair.now c.push.new.self.items c.single_value.result
    c.in-Some.value (to_z w128 (of_z w128 c.in-Some.value)) c.requires.cycle c.requires.one
    (search rules) c.single_value.ensures c.in-Some.is (search (rules, to_z-of_z))
