use Rattle.std.proofs.Common.{◌≡◌, ◌∙◌, arith, ap, sym, subst, List, length, true}
use Rattle.pesp_cert.specs.Limits.{are_lemmas}
use Rattle.pesp_truth.specs.Shown.{LemmaProof}
use Rattle.pesp_whole_check.proofs.Limits.{lemmas_keep}
use Rattle.pesp_whole_check.proofs.LemmaCheck.{none_said, none_shown}
use Rattle.pesp_whole_check.proofs.lemma_check.judge_front.Goals as goal

pub judge_lemmas-requires-clause-limits : goal.judge_lemmas-requires-clause-limits
judge_lemmas-requires-clause-limits c =
    let P : List LemmaProof → Type 0 = λ ss. are_lemmas ss ≡ true in
    subst P (sym c.lemmas.ensures.value) (lemmas_keep c.in-Some.front c.lemmas.ensures.limits)

pub judge_lemmas-requires-clause-line : goal.judge_lemmas-requires-clause-line
judge_lemmas-requires-clause-line c = let same = ap length c.walks.ensures.value in omega (arith, same, c.walks.ensures.limits.walks)

pub returns-in_default-clause-verdict : goal.returns-in_default-clause-verdict
returns-in_default-clause-verdict c = (
  c.new.ensures.items ∙ none_said c.args.front.now c.in_default.not-Some,
  none_shown c.args.instance.now c.args.front.now c.in_default.not-Some,
)

pub returns-clause-verdict : goal.returns-clause-verdict
returns-clause-verdict c =
    rw c.in-Some.is (rw (c.lemmas.ensures.value, c.walks.ensures.value, c.marks.ensures) at c.judge_lemmas.ensures.verdict)
