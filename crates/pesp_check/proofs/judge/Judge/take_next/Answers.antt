use Rattle.std.proofs.Common.{rules, FitsSigned, w64}
use Rattle.std.proofs.lemmas.Int.{to_z-of_z}
use Rattle.std.proofs.lemmas.Result.{IfOk-weaker}
use Rattle.pesp_check.proofs.judge.Judge.take_next.Goals as goal

pub returns-in-Own-clause-judged : goal.returns-in-Own-clause-judged
returns-in-Own-clause-judged c = rw c.in-Own.is c.take_item.ensures.judged

pub returns-in-Lemma-clause-judged : goal.returns-in-Lemma-clause-judged
returns-in-Lemma-clause-judged c =
    rw c.in-Lemma.is (IfOk-weaker c.begin_lemma.result _ _ (λ done h front c' rest has before. h front c' rest before) c.begin_lemma.ensures.judged)

pub returns-in-Front-clause-judged : goal.returns-in-Front-clause-judged
returns-in-Front-clause-judged c =
    rw c.in-Front.is (IfOk-weaker c.take_mark.result _ _ (λ done h front c' rest has before. h front c' rest before) c.take_mark.ensures.judged)

pub returns-in-Scale-clause-judged : goal.returns-in-Scale-clause-judged
returns-in-Scale-clause-judged c =
    rw c.in-Scale.is (IfOk-weaker c.take_mark-in-Scale.result _ _ (λ done h front c' rest has before. h front c' rest before)
    c.take_mark-in-Scale.ensures.judged)

pub returns-in-Walk-clause-judged : goal.returns-in-Walk-clause-judged
returns-in-Walk-clause-judged c =
    rw c.in-Walk.is (IfOk-weaker c.take_mark-in-Walk.result _ _ (λ done h front c' rest has before. h front c' rest before)
    c.take_mark-in-Walk.ensures.judged)

pub returns-in-Least-clause-judged : goal.returns-in-Least-clause-judged
returns-in-Least-clause-judged c =
    let least = c.in-Least.least in
    let fits : FitsSigned w64 least = search rules in
    let judged = rw (to_z-of_z w64 least fits) at c.take_mark-in-Least.ensures.judged in
    rw c.in-Least.is (IfOk-weaker c.take_mark-in-Least.result _ _ (λ done h front c' rest has before. h front c' rest before) judged)
