use Rattle.std.proofs.Common.{◌/◌, arith}
use Rattle.pesp_truth.proofs.Starting.{full_word}
use Rattle.pesp_truth.proofs.support.fill.Goals as goal

pub returns : goal.returns
returns c = λ place l. full_word c.loop-k.words place
    (c.loop-k.invariant (place / 64) (let m = c.loop-k-test.false in omega (arith, c.loop-k.auto.words)))
