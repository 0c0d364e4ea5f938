use Rattle.std.proofs.Common.{◌≡◌, ◌≤◌, ◌+◌, ◌*◌, [], take, length}
use Rattle.std.specs.List.{sum_by}
use Rattle.pesp_problem.specs.Arcs.{net_of}
use Rattle.pesp_problem.specs.Nets.{AreZeros}
use Rattle.pesp_truth.specs.Shown.{lemmas_of, lemma_lines, AreShownLemmas}
use Rattle.pesp_leaves.specs.Taken.{HaveRows}
use Rattle.pesp_whole_check.proofs.lemma_check.judge_lemmas.Given as goal

abbrev pub invariant-loop-lemma : goal.invariant-loop-lemma
invariant-loop-lemma l = record {
  facts : l.facts.items ≡ lemmas_of (take l.lemma-index l.lemmas);
  shown : AreShownLemmas (net_of l.instance) [] (take l.lemma-index l.lemmas);
  rows : HaveRows (length l.instance.rows) l.facts.items;
  line : l.line ≡ l.at + sum_by lemma_lines (take l.lemma-index l.lemmas);
  few : l.line ≤ l.at + l.lemma-index * 1200003;
  zeros : AreZeros l.working;
  long : length l.working ≡ length l.instance.rows;
}
