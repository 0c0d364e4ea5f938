use Rattle.std.proofs.Common.{inl, inr, refl, subst}
use Rattle.pesp_nodes.specs.Problems.{ProblemValue}
use Rattle.pesp_turns.specs.Turning.{IsSettledByTimes}
use Rattle.pesp_turns.proofs.settled_leaf.settle.Goals as goal

pub returns-in_default-clause-settles : goal.returns-in_default-clause-settles
returns-in_default-clause-settles c = inl (refl, λ s. rw c.in_default.is at (c.in_ok-found.ensures c.args.board.now.problem s))

pub returns-then-not-is_reached-clause-settles : goal.returns-then-not-is_reached-clause-settles
returns-then-not-is_reached-clause-settles c = inr (record {
  offers = record {
    times = c.in-Some.times.items;
    least = λ s. rw c.in-Some.is at (c.in_ok-found.ensures c.args.board.now.problem s);
    kept = c.offer.result;
    offers = c.offer.ensures.state;
  };
  unreached = subst (λ (x : ProblemValue). IsSettledByTimes x c.offer.new.self.state c.args.job.now.number → ⊥)
      c.offer.ensures.problem (c.is_reached.ensures.unreached c.if-not-is_reached.true);
})

pub returns-clause-settles : goal.returns-clause-settles
returns-clause-settles c = record {
  offered = c.offer.new.self.state;
  offers = record {
    times = c.in-Some.times.items;
    least = λ s. rw c.in-Some.is at (c.in_ok-found.ensures c.args.board.now.problem s);
    kept = c.offer.result;
    offers = c.offer.ensures.state;
  };
  reached = subst (λ (x : ProblemValue). IsSettledByTimes x c.offer.new.self.state c.args.job.now.number)
      c.offer.ensures.problem (c.is_reached.ensures.reached c.if-not-is_reached.false);
  back = c.recall.result;
  recalls = c.recall.ensures.state;
}
