use Rattle.std.proofs.Common.{◌≡◌, List, arith, sym, subst, length, ap, true}
use Rattle.std.proofs.lemmas.List.{take_all}
use Rattle.std.specs.List.{sum_by}
use Rattle.pesp_truth.specs.Marks.{Marks}
use Rattle.pesp_cert.specs.Limits.{is_shown_lemma, are_lemmas}
use Rattle.pesp_truth.specs.Shown.{LemmaProof, lemma_lines}
use Rattle.pesp_whole_check.proofs.Limits.{lemmas_keep, each_lemma, few_lemmas}
use Rattle.pesp_whole_check.proofs.LemmaCheck.{lines_more}
use Rattle.pesp_whole_check.proofs.lemma_check.last_line.Goals as goal

pub loop-lemma-init : goal.loop-lemma-init
loop-lemma-init c =
    let walks = ap (λ (m : Marks). length m.walks) c.marks.ensures in
    let same = ap length c.walks.ensures.value in
    let few = c.walks.ensures.limits.walks in
    record { sum = omega (arith, walks, same); few = omega (arith, same, few) }

pub lemma_lines-lines-requires : goal.lemma_lines-lines-requires
lemma_lines-lines-requires c =
    let L : List LemmaProof → Type 0 = λ ss. are_lemmas ss ≡ true in
    let P : LemmaProof → Type 0 = λ s. is_shown_lemma s ≡ true in
    let all = c.lemmas-lemma-items.ensures in
    let keep = subst L (sym all.value) (lemmas_keep c.args.front.now all.limits) in
    subst P (sym c.lemma-item.is)
    (each_lemma c.lemmas-lemma-items.result.now keep c.loop-lemma.lemma-index c.lemma-item.result c.loop-lemma-test.true)

pub loop-lemma-preserved : goal.loop-lemma-preserved
loop-lemma-preserved c =
    let inv = c.loop-lemma.invariant in
    let lines = lines_more c.lemmas-lemma-items.result.now c.loop-lemma.lemma-index c.lemma-item.result c.loop-lemma-test.true c.lemma-item.is
    c.loop-lemma.lines _ inv.sum in
    record { sum = omega (arith, lines, c.lemma_lines-lines.ensures.value); few = omega (arith, inv.few, c.lemma_lines-lines.ensures.few) }

pub overflow_add-lines-in-loop-lemma : goal.overflow_add-lines-in-loop-lemma
overflow_add-lines-in-loop-lemma c =
    let same = ap length c.lemmas-lemma-items.ensures.value in
    let few = few_lemmas c.args.front.now.lemmas (lemmas_keep c.args.front.now c.lemmas-lemma-items.ensures.limits) in
    omega (arith, c.loop-lemma.invariant.few, c.lemma_lines-lines.ensures.few, same, few, c.loop-lemma-test.true)

pub returns-clause-value : goal.returns-clause-value
returns-clause-value c =
    let inv = c.loop-lemma.invariant in
    let all = ap (sum_by lemma_lines) (take_all c.loop-lemma.lemma-index c.lemmas-lemma-items.result.now c.loop-lemma-test.false) in
    let same = ap (sum_by lemma_lines) c.lemmas-lemma-items.ensures.value in
    omega (arith, inv.sum, all, same)

pub returns-clause-few : goal.returns-clause-few
returns-clause-few c =
    let same = ap length c.lemmas-lemma-items.ensures.value in
    let few = few_lemmas c.args.front.now.lemmas (lemmas_keep c.args.front.now c.lemmas-lemma-items.ensures.limits) in
    omega (arith, c.loop-lemma.invariant.few, same, few, c.loop-lemma-test.false)

pub returns-clause-keeps : goal.returns-clause-keeps
returns-clause-keeps c = rw c.marks.ensures at c.walks.ensures.limits
