use Rattle.std.proofs.Common.{◌+◌, ℕ, refl, arith, sym, ap, ◌∙◌}
use Rattle.std.proofs.lemmas.List.{length_push}
use Rattle.pesp_network.specs.declared.row.NetRow.{NetRow}
use Rattle.pesp_network.specs.Networks.{net_row_at, no_net_row}
use Rattle.pesp_reduce.specs.Rows.{row_or_loop, flag}
use Rattle.pesp_reduce.proofs.Lists.{holds_none, holds_more}
use Rattle.pesp_reduce.proofs.rows.part_of.Goals as goal

pub loop-i-init : goal.loop-i-init
loop-i-init c = rw c.new-made.ensures.items (
  refl,
  holds_none no_net_row (λ k. row_or_loop (flag c.args.takes.now k) (net_row_at c.args.rows.now k)),
)

pub loop-i-preserved : goal.loop-i-preserved
loop-i-preserved c =
    let f : ℕ → NetRow = λ k. row_or_loop (flag c.args.takes.now k) (net_row_at c.args.rows.now k) in
    let made = c.loop-i.made.items in
    let v = c.loop-i.invariant in
    let e = c.part.ensures in
    let h = holds_more no_net_row f made c.part.result v.1 (e ∙ ap f (sym v.0)) in
    rw c.in_ok-push.ensures.items (length_push made c.part.result ∙ ap (λ (n : ℕ). n + 1) v.0, h)

pub returns : goal.returns
returns c = record {
  count = let v = c.loop-i.invariant.0 in let k = c.loop-i.made.ok.0 in let t = c.loop-i-test.false in
      let a = c.loop-i.auto.i-end in omega arith;
  rows = λ i l. c.loop-i.invariant.1.at i (let v = c.loop-i.invariant.0 in let t = c.loop-i-test.false in omega arith);
}
