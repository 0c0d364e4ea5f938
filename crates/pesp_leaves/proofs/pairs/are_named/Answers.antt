use Rattle.std.proofs.Common.{refl}
use Rattle.pesp_leaves.proofs.Flowing.{exist_more}
use Rattle.pesp_truth.specs.Named.{IsNamed, AreNamed}
use Rattle.pesp_leaves.proofs.Naming.{not_all}
use Rattle.pesp_leaves.proofs.pairs.are_named.Goals as goal

pub returns-then-not-is_named : goal.returns-then-not-is_named
returns-then-not-is_named g c =
    let elements = g.P.Elements.elements in (
      λ t. cc,
      λ all. c.if-not-is_named.ensures.1
          (not_all (IsNamed c.args.cycles c.args.others) (elements c.loop-pair.left)
          (elements c.take_next.new.self) c.in-Some.pair
          (AreNamed c.args.cycles c.args.others (elements c.args.pairs)) c.in-Some.ensures c.loop-pair.invariant all),
    )

pub loop-pair-preserved : goal.loop-pair-preserved
loop-pair-preserved g c =
    let elements = g.P.Elements.elements in
    exist_more (IsNamed c.args.cycles c.args.others) (elements c.loop-pair.left)
    (elements c.take_next.new.self) c.in-Some.pair
    (AreNamed c.args.cycles c.args.others (elements c.args.pairs)) c.in-Some.ensures
    (c.if-not-is_named.ensures.0 refl) c.loop-pair.invariant
