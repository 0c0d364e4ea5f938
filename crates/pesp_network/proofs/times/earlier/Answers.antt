use Rattle.std.proofs.Common.{arith}
use Rattle.std.proofs.lemmas.Int.{ints}
use Rattle.pesp_network.proofs.Timing.{earlier_is}
use Rattle.pesp_network.proofs.times.earlier.Goals as goal

pub returns-clause-same : goal.returns-clause-same
returns-clause-same c =
    let l = c.requires.lower in let m = c.requires.most in let s = c.requires.slack in let t = c.requires.time in
    earlier_is c.args.period c.wrapped.result c.args.time c.args.slack c.args.row.now.lower _ c.requires.some
    c.wrapped.ensures.value (omega (arith, ints))
