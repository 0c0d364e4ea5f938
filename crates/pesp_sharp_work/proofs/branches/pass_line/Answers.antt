use Rattle.std.proofs.Common.{rules, to_z-of_z, w64, SFits}
use Rattle.pesp_sharp_work.proofs.branches.pass_line.Goals as goal

pub returns-in-Offset-clause-both : goal.returns-in-Offset-clause-both
returns-in-Offset-clause-both c =
    let fits : SFits w64 c.in-Offset.k = search rules in
    let same = to_z-of_z {w = w64} {z = c.in-Offset.k} fits in
    rw c.in-Offset.is (rw same at c.pass_cut.ensures.both)
