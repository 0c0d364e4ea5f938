use Rattle.std.proofs.Common.{sym}
use Rattle.std.proofs.lemmas.Result.{IfOk-weaker}
use Rattle.pesp_check.proofs.judge.Judge.take.Goals as goal

pub returns-then-is_some-clause-judged : goal.returns-then-is_some-clause-judged
returns-then-is_some-clause-judged c =
    let end = c.in_ok-end_lemma.ensures in
    IfOk-weaker c.show.result _ _ (λ done h front c' rest has before.
    rw end.instance at (h front c' rest has (rw (sym end.instance) at (end.judged front c' rest has before)))) c.show.ensures.judged

pub returns-clause-judged : goal.returns-clause-judged
returns-clause-judged c =
    let end = c.in_ok-end_lemma.ensures in
    IfOk-weaker c.take_next.result _ _ (λ done h front c' rest has before.
    rw end.instance at (h front c' rest has (rw (sym end.instance) at (end.judged front c' rest has before)))) c.take_next.ensures.judged
