use Rattle.std.proofs.Common.{◌∙◌, sym, arith, ◌-◌, length, drop, length-drop}
use Rattle.std.proofs.lemmas.List.{take_all}
use Rattle.pesp_old_times.proofs.Mark.{short-text, with-mark, without-mark}
use Rattle.pesp_old_times.proofs.old_times.without_mark.Goals as goal

pub returns-then-text-lt3 : goal.returns-then-text-lt3
returns-then-text-lt3 c = short-text c.args.text.now (omega (arith, c.if-text-lt3.true))

pub returns-then-is_mark : goal.returns-then-is_mark
returns-then-is_mark c =
    take_all (length c.args.text.now - 3) (drop 3 c.args.text.now) (omega (arith, length-drop 3 c.args.text.now))
    ∙ with-mark c.args.text.now (omega (arith, c.if-text-lt3.false)) (sym c.is_mark.ensures ∙ c.if-is_mark.true)

pub returns-else-is_mark : goal.returns-else-is_mark
returns-else-is_mark c = without-mark c.args.text.now (sym c.is_mark.ensures ∙ c.if-is_mark.false)
