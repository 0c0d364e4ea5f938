use Rattle.std.proofs.lemmas.Result.{on_ok_weaker, IfErr-weaker}
use Rattle.pesp_report_run.proofs.Causes.{blamed}
use Rattle.pesp_report_run.proofs.sheet.PictureSheet.write.Goals as goal

pub returns-clause-text : goal.returns-clause-text
returns-clause-text g c = on_ok_weaker c.draw.result (λ w. (w.0, tt, w.1)) c.draw.ensures.text

pub returns-clause-front : goal.returns-clause-front
returns-clause-front g c = IfErr-weaker c.draw.result _ _ (λ e out. blamed e _ _ (λ w. (w.0, tt, w.1)) out) c.draw.ensures.front
