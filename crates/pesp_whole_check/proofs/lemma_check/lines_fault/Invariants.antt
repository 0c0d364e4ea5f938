use Rattle.std.proofs.Common.{◌≡◌, ℕ, length}
use Rattle.pesp_problem.specs.Nets.{AreZeros}
use Rattle.pesp_truth.specs.Shown.{LemmaProof}
use Rattle.pesp_judges.specs.Showing.{kept_of_lemma, KeepsLemmaLimits, ShownTo, first_line}
use Rattle.pesp_whole_check.proofs.lemma_check.lines_fault.Given as goal

abbrev pub invariant-loop-place : goal.invariant-loop-place
invariant-loop-place l = record {
  instance : l.judge.instance.now ≡ l.initial.judge.instance.now;
  zeros : AreZeros l.working;
  long : length l.working ≡ length l.initial.judge.instance.now.rows;
  shown : (s : LemmaProof) (at : ℕ) → KeepsLemmaLimits s → s.tree ≡ l.lines → l.first ≡ first_line s at
      → ShownTo l.initial.judge.instance.now l.facts s at (kept_of_lemma l.initial.judge) 0
      → ShownTo l.initial.judge.instance.now l.facts s at (kept_of_lemma l.judge) l.place;
}
