use Rattle.pesp_leaves.specs.Ranges.{node_of}
use Rattle.pesp_problem.proofs.Walking.{enter_parts}
use Rattle.pesp_judges.proofs.node_walk.enter.Goals as goal

pub returns-clause-parts : goal.returns-clause-parts
returns-clause-parts c =
    enter_parts (node_of c.args.ranges.now) (node_of c.take_part.new.ranges) c.args.path.now.items
    c.push.new.self.items c.args.cut c.change_of.result c.take_part.ensures.node c.change_of.ensures.change
    c.in_ok-push.ensures.items
