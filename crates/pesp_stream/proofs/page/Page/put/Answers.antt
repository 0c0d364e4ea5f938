use Rattle.pesp_stream.proofs.Fronts.{front_after, front_before, moves_all, on_err}
use Rattle.pesp_stream.proofs.page.Page.put.Goals as goal

pub returns-in_err-write_all-clause-front : goal.returns-in_err-write_all-clause-front
returns-in_err-write_all-clause-front g c =
    on_err _ c.from_residual-in_err-write_all.result (front_after _ _ _ _ _ c.in_ok-finish.ensures.text c.in_err-write_all.ensures.text)

pub returns-clause-ok : goal.returns-clause-ok
returns-clause-ok g c = moves_all _ _ _ _ _ _ c.in_ok-finish.ensures.text c.in_ok-write_all.ensures.text c.in_ok-finish.ensures.emptied

pub returns-in_err-finish-clause-front : goal.returns-in_err-finish-clause-front
returns-in_err-finish-clause-front g c =
    on_err _ c.from_residual.result (front_before _ _ _ c.args.piece.now c.in_err-finish.ensures.text)
