use Rattle.std.proofs.Common.{arith}
use Rattle.std.proofs.lemmas.Grind.{common_steps}
use Rattle.pesp_problem.proofs.Walking.{enter_parts}
use Rattle.pesp_nodes.proofs.walk.enter.Goals as goal

pub returns-clause-parts : goal.returns-clause-parts
returns-clause-parts c = enter_parts c.args.node.now c.cut.new.self c.args.path.now.items c.push.new.self.items
    c.args.cut c.change_of.result c.cut.ensures.part c.change_of.ensures.change c.in_ok-push.ensures.items

pub returns-clause-path : goal.returns-clause-path
returns-clause-path c = grind (arith, common_steps)
