use Rattle.std.proofs.Common.{sym, arith}
use Rattle.pesp_runs.proofs.FrontedTexts.{has_text_of}
use Rattle.pesp_runs.proofs.fronted.vouch.Goals as goal

pub returns-clause-is_true : goal.returns-clause-is_true
returns-clause-is_true c = c.valid_is_true.ensures _ c.args.instance.now _
    (omega (arith, c.period.ensures.limits.some_period)) c.requires

pub returns-clause-has_text : goal.returns-clause-has_text
returns-clause-has_text c = has_text_of c.args.fronted.now _ _ (sym c.fronted.view_is)
    ((c.limits_of_fronts_are_those_of_texts.ensures _ _).0 (c.keeps_limits.ensures, c.period-2.ensures.limits))
