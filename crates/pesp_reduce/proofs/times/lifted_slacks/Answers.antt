use Rattle.std.proofs.Common.{◌<◌, ◌+◌, ℕ, refl, arith, sym, ap, ◌∙◌}
use Rattle.std.proofs.lemmas.List.{length_push}
use Rattle.std.proofs.lemmas.List.Elements.{All-nil, All-push}
use Rattle.pesp_network.specs.Networks.{net_row_at}
use Rattle.pesp_reduce.specs.Fates.{fate_at}
use Rattle.pesp_reduce.specs.Times.{lifted_slack}
use Rattle.pesp_reduce.proofs.Lists.{holds_none, holds_more}
use Rattle.pesp_reduce.proofs.times.lifted_slacks.Goals as goal

pub loop-i-init : goal.loop-i-init
loop-i-init c =
    let f : ℕ → ℕ = λ k. lifted_slack c.args.period c.args.stands.now c.args.shifts.now c.args.times.now
    (net_row_at c.args.rows.now k) (fate_at c.args.fates.now k) in
    rw c.new-slacks.ensures.items (refl, All-nil (λ (y : ℕ). y < c.args.period), holds_none 0 f)

pub loop-i-preserved : goal.loop-i-preserved
loop-i-preserved c =
    let f : ℕ → ℕ = λ k. lifted_slack c.args.period c.args.stands.now c.args.shifts.now c.args.times.now
    (net_row_at c.args.rows.now k) (fate_at c.args.fates.now k) in
    let made = c.loop-i.slacks.items in
    let v = c.loop-i.invariant in
    let x = c.lifted_slack.result in
    let h = holds_more 0 f made x v.2 (c.lifted_slack.ensures.value ∙ ap f (sym v.0)) in
    rw c.in_ok-push.ensures.items (
      length_push made x ∙ ap (λ (n : ℕ). n + 1) v.0,
      All-push (λ (y : ℕ). y < c.args.period) made x v.1 c.lifted_slack.ensures.below,
      h,
    )

pub returns : goal.returns
returns c = record {
  count = let v = c.loop-i.invariant.0 in let k = c.loop-i.slacks.ok.0 in let t = c.loop-i-test.false in
      let a = c.loop-i.auto.i-end in omega arith;
  below = c.loop-i.invariant.1;
  each = λ i l. c.loop-i.invariant.2.at i (let v = c.loop-i.invariant.0 in let t = c.loop-i-test.false in omega arith);
}
