use Rattle.std.proofs.Common.{arith}
use Rattle.std.proofs.lemmas.Grind.{common_steps}
use Rattle.pesp_network.proofs.limits.rows_of.Goals as goal

pub loop-i-preserved : goal.loop-i-preserved
loop-i-preserved c =
    let i = c.loop-i.invariant in
    record {
      len = grind (arith, common_steps);
      arcs = grind (arith, common_steps);
      origins = grind (arith, common_steps);
      each = λ events rows. (let kept = i.each events rows in grind (arith, common_steps));
    }

pub returns-clause-arcs : goal.returns-clause-arcs
returns-clause-arcs c = grind (arith, common_steps)
