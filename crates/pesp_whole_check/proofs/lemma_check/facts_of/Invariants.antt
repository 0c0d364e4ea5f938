use Rattle.std.proofs.Common.{◌≡◌, take}
use Rattle.pesp_truth.specs.Shown.{lemmas_of}
use Rattle.pesp_whole_check.proofs.lemma_check.facts_of.Given as goal

abbrev pub invariant-loop-lemma : goal.invariant-loop-lemma
invariant-loop-lemma l = l.facts.items ≡ lemmas_of (take l.lemma-index l.lemma-items)
