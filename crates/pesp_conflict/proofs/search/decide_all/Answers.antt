use Rattle.std.proofs.Common.{length}
use Rattle.pesp_conflict.specs.Findings.{AreAll, IsOpenOver}
use Rattle.pesp_conflict.specs.Insides.{IsDecision, IsFirstDecision}
use Rattle.pesp_conflict.proofs.Trials.{if_ok, first_is}
use Rattle.pesp_conflict.proofs.search.decide_all.Goals as goal

pub decide-requires-clause-fit : goal.decide-requires-clause-fit
decide-requires-clause-fit g c =
    let all : AreAll (length c.args.instance.now.rows) c.in_ok-rows.rows.items = rw (c.rows.ensures.rows) at c.in_ok-rows.ensures in
    rw (c.deref.ensures.value) (all.rising, all.named)

pub returns-clause-decided : goal.returns-clause-decided
returns-clause-decided g c =
    let p = c.args.instance.now in
    let rows = c.in_ok-rows.rows.items in
    let all : AreAll (length p.rows) rows = rw (c.rows.ensures.rows) at c.in_ok-rows.ensures in
    let decided = rw (c.deref.ensures.value) at c.decide.ensures.decided in
    if_ok c.decide.result (IsDecision p rows (IsOpenOver p c.args.steps rows))
    (IsFirstDecision p c.args.steps) decided (λ d is. first_is p c.args.steps rows d all is)
