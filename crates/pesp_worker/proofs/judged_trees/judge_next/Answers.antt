use Rattle.std.proofs.Common.{refl, subst, arith}
use Rattle.pesp_cert_items.specs.Works.{WorkValue}
use Rattle.pesp_worker.specs.Holding.{KeepsOthers}
use Rattle.pesp_worker.specs.HandingIn.{IsJudged}
use Rattle.pesp_worker.proofs.Judgments.{whole_fewer}
use Rattle.pesp_worker.proofs.judged_trees.judge_next.Goals as goal

pub returns-clause-judged : goal.returns-clause-judged
returns-clause-judged c =
    let p = c.args.board.now.problem in
    let state = c.args.board.now.state in
    let job = c.found.inside.job in
    let made = c.in_ok-tree.ensures in
    let room = c.room_for-most in
    let work : WorkValue = record { job = job; times = c.found.inside.times.items; tree = c.in_ok-tree.field-0.tree.items } in
    subst (λ (found : WorkValue). IsJudged p state c.args.until found work) c.found.view_is (record {
      number = refl;
      times = refl;
      fits = made.fits;
      whole = whole_fewer p state c.args.until job room.result _ (omega (arith, made.branches, made.few)) room.ensures.whole;
    })

pub returns-clause-others : goal.returns-clause-others
returns-clause-others c = subst (λ (found : WorkValue).
    KeepsOthers c.args.board.now.state found.job c.judged_on.new.board.state) c.found.view_is
    c.in_ok-tree.ensures.others
