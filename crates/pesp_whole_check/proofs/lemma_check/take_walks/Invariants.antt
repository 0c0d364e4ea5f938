use Rattle.std.proofs.Common.{◌≡◌, ◌++◌, take}
use Rattle.pesp_judges.specs.Showing.{kept_of_lemma}
use Rattle.pesp_whole_check.proofs.lemma_check.take_walks.Given as goal

abbrev pub invariant-loop-walk : goal.invariant-loop-walk
invariant-loop-walk l = record {
  instance : l.judge.instance.now ≡ l.initial.judge.instance.now;
  kept : kept_of_lemma l.judge ≡ record (kept_of_lemma l.initial.judge) { walks = (kept_of_lemma l.initial.judge).walks ++ take l.walk-index l.walks };
}
