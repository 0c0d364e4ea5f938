use Rattle.std.proofs.lemmas.Result.{on_ok_weaker, IfErr-weaker}
use Rattle.pesp_report_run.proofs.Causes.{blamed}
use Rattle.pesp_report_run.proofs.sheet.DiagramsSheet.write.Goals as goal

pub returns-clause-text : goal.returns-clause-text
returns-clause-text g c = on_ok_weaker c.diagram.result (λ w. (w.0, tt, w.1)) c.diagram.ensures.text

pub returns-clause-front : goal.returns-clause-front
returns-clause-front g c = IfErr-weaker c.diagram.result _ _ (λ e out. blamed e _ _ (λ w. (w.0, tt, w.1)) out) c.diagram.ensures.front
