use Rattle.std.proofs.Common.{refl}
use Rattle.pesp_simplex.proofs.settle.list_cuts.Goals as goal

pub returns-then-lay_out : goal.returns-then-lay_out
returns-then-lay_out c done =
    let laid = c.if-lay_out.ensures.empty refl in
    c.list_rows.ensures done (rw c.requires.counts at laid)
