use Rattle.std.proofs.Common.{◌≡◌, inl, inr, length, rules}
use Rattle.pesp_nodes.specs.Problems.{ArePairs}
use Rattle.pesp_nodes.proofs.Rising.{nothing_rises}
use Rattle.pesp_bound.proofs.best.best_pairs.Goals as goal

pub returns-clause-pairs : goal.returns-clause-pairs
returns-clause-pairs c =
    let kept : c.in_ok-kept.kept.items ≡ c.args.start.now = search rules in
    let started : ArePairs (length c.args.problem.now.table) c.better-started.result.pairs.items =
    elim c.better-started.ensures.which [
      | inl w ↦ rw (w.0, c.no_pairs-none.ensures.pairs) (nothing_rises (length c.args.problem.now.table))
      | inr w ↦ rw (w.0, kept) c.requires.start
    ] in
    elim c.better.ensures.which [
      | inl w ↦ rw w.0 started
      | inr w ↦ rw (w.0, ← c.deref.ensures.value) (rw w.1 at c.judged-value.ensures.pairs)
    ]

pub returns-clause-start : goal.returns-clause-start
returns-clause-start c = search rules
