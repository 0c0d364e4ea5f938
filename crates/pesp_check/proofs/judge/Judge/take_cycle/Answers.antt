use Rattle.std.proofs.Common.{rules, ◌≡◌, refl}
use Rattle.pesp_cert_items.specs.Lent.{rows_in}
use Rattle.pesp_check.specs.declared.stage.Stage.TheVariants as stages
use Rattle.pesp_check.specs.Views.{kept}
use Rattle.pesp_check.proofs.Cycles.{cycle_passed}
use Rattle.pesp_check.proofs.judge.Judge.take_cycle.Goals as goal

pub returns-clause-judged : goal.returns-clause-judged
returns-clause-judged c f c' rest before =
    let other : c.end_front.new.self.stage ≡ stages.Cycles → ⊥ = search rules in
    let front = c.in_ok-end_front.ensures in
    cycle_passed c.end_front.new.self.stage c.args.self.now.instance.now f c' (rows_in c.args.rows) rest
    (kept c.end_front.new.self) _ front.past other refl refl (front.judged f c' _ refl before)
