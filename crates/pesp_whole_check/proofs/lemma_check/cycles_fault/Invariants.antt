use Rattle.std.proofs.Common.{◌≡◌, ℕ, ◌+◌, length}
use Rattle.pesp_problem.specs.Nets.{AreZeros}
use Rattle.pesp_truth.specs.Shown.{LemmaProof}
use Rattle.pesp_judges.specs.Showing.{kept_of_lemma, KeepsLemmaLimits, CyclesShown}
use Rattle.pesp_whole_check.proofs.lemma_check.cycles_fault.Given as goal

abbrev pub invariant-loop-place : goal.invariant-loop-place
invariant-loop-place l = record {
  instance : l.judge.instance.now ≡ l.initial.judge.instance.now;
  zeros : AreZeros l.working;
  long : length l.working ≡ length l.initial.judge.instance.now.rows;
  shown : (s : LemmaProof) (at : ℕ) → KeepsLemmaLimits s → s.cycles ≡ l.cycles → l.line ≡ at + 2 + length s.marks.walks
      → CyclesShown l.initial.judge.instance.now s at (kept_of_lemma l.initial.judge) 0
      → CyclesShown l.initial.judge.instance.now s at (kept_of_lemma l.judge) l.place;
}
