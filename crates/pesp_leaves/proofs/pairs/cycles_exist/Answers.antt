use Rattle.std.proofs.Common.{refl}
use Rattle.std.specs.Prelude.{All}
use Rattle.pesp_problem.specs.declared.pair.Pair.{Pair}
use Rattle.pesp_problem.specs.Walks.{Names}
use Rattle.pesp_leaves.proofs.Flowing.{exist_more}
use Rattle.pesp_leaves.proofs.pairs.cycles_exist.Goals as goal

pub loop-pair-preserved : goal.loop-pair-preserved
loop-pair-preserved g c =
    let elements = g.P.Elements.elements in
    let P : Pair → Type 0 = λ pair. Names c.args.cycles pair.cycle in
    exist_more P (elements c.loop-pair.left) (elements c.take_next.new.self) c.in-Some.pair
    (All P (elements c.args.pairs)) c.in-Some.ensures (c.if-not-is_cycle.ensures.0 refl) c.loop-pair.invariant
