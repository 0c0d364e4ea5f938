use Rattle.std.proofs.Common.{◌+◌, ℕ, ap, ◌∙◌}
use Rattle.std.proofs.lemmas.List.{length_push}
use Rattle.pesp_network.specs.Networks.{arcs_of_network}
use Rattle.pesp_reduce.proofs.Fating.{fates_more}
use Rattle.pesp_reduce.proofs.fates.fates_of.Goals as goal

pub loop-i-preserved : goal.loop-i-preserved
loop-i-preserved c =
    let v = c.loop-i.invariant in
    let xs = c.loop-i.fates.items in let x = c.fate_of.result in
    rw c.in_ok-push.ensures.items (
      length_push xs x ∙ ap (λ (n : ℕ). n + 1) v.0,
      fates_more c.args.period c.args.rows.now c.args.contracted.now
          (arcs_of_network c.args.left.now.rows) xs x c.loop-i.i v.0 v.1 c.fate_of.ensures,
    )
