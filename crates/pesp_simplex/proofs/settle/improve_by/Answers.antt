use Rattle.std.proofs.Common.{arith}
use Rattle.std.proofs.lemmas.Result.{IfOk-weaker}
use Rattle.pesp_simplex.specs.declared.improved.Improved.{Improved}
use Rattle.pesp_simplex.proofs.settle.improve_by.Goals as goal

pub returns : goal.returns
returns c =
    let no_dearer = c.in_ok-best.ensures.no_dearer in
    IfOk-weaker c.settle.result _ _ (λ (i : Improved) h. (let never_dearer = h.never_dearer in record {
      timetable = h.timetable;
      cost = h.cost;
      never_dearer = omega arith;
      forest = h.forest;
      ended = h.ended;
    })) c.settle.ensures
