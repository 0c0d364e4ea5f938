use Rattle.std.proofs.Common.{rules, ◌≡◌, refl, sym}
use Rattle.std.proofs.lemmas.Result.{IfOk-weaker}
use Rattle.pesp_check.specs.declared.stage.Stage.TheVariants as stages
use Rattle.pesp_check.specs.Said.{pairs_of, tree_line}
use Rattle.pesp_check.specs.Views.{kept}
use Rattle.pesp_check.proofs.Lines.{line_passed}
use Rattle.pesp_check.proofs.Lists.{line_is_later, line_is_line}
use Rattle.pesp_check.proofs.judge.Judge.take_line.Goals as goal

pub returns-clause-judged : goal.returns-clause-judged
returns-clause-judged c f c' rest has before =
    let other : c.end_cycles.new.self.stage ≡ stages.Tree → ⊥ = search rules in
    let front = c.in_ok-end_front.ensures in
    let cycles = c.in_ok-end_cycles.ensures in
    let at_front = front.judged f c' _ (line_is_later (tree_line pairs_of c.args.said)) before in
    line_passed c.end_cycles.new.self.stage c.args.self.now.instance.now f c' (tree_line pairs_of c.args.said) rest
    (kept c.end_cycles.new.self) _ cycles.past other refl refl
    (rw front.instance at (cycles.judged f c' _ has (line_is_line (tree_line pairs_of c.args.said))
    (rw (sym front.instance) at at_front)))

pub returns-then-eq-clause-judged : goal.returns-then-eq-clause-judged
returns-then-eq-clause-judged c =
    let front = c.in_ok-end_front.ensures in
    let cycles = c.in_ok-end_cycles.ensures in
    IfOk-weaker c.judge_line.result _ _ (λ done h f c' rest has before.
    let at_front = front.judged f c' _ (line_is_later (tree_line pairs_of c.args.said)) before in
    let at_tree = cycles.judged f c' _ has (line_is_line (tree_line pairs_of c.args.said)) (rw (sym front.instance) at at_front) in
    rw (cycles.instance, front.instance) at (h f c' rest has (rw (sym cycles.instance) at at_tree))) c.judge_line.ensures.judged
