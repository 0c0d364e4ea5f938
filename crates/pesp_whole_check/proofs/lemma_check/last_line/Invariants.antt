use Rattle.std.proofs.Common.{◌≡◌, ◌≤◌, ◌+◌, ◌*◌, take, length}
use Rattle.std.specs.List.{sum_by}
use Rattle.pesp_truth.specs.Shown.{lemma_lines}
use Rattle.pesp_whole_check.proofs.lemma_check.last_line.Given as goal

abbrev pub invariant-loop-lemma : goal.invariant-loop-lemma
invariant-loop-lemma l = record {
  sum : l.lines ≡ (2 + length l.front.marks.walks) + sum_by lemma_lines (take l.lemma-index l.lemma-items);
  few : l.lines ≤ 100002 + l.lemma-index * 1200003;
}
