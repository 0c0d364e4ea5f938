use Rattle.std.proofs.Common.{◌≡◌, ◌∙◌, ℕ, ap, arith, length, refl, subst}
use Rattle.pesp_network.specs.Networks.{arcs_of_network}
use Rattle.pesp_network.specs.Chains.{Chained}
use Rattle.pesp_network.specs.Growing.{at}
use Rattle.pesp_problem.specs.Arcs.{tail_of, head_of}
use Rattle.pesp_network.proofs.Places.{count, tail_below, head_below, tail_more, head_more}
use Rattle.pesp_network.proofs.Chaining.{all_zero, chained_none, chained_lists}
use Rattle.pesp_network.proofs.chains.chain_rows.Goals as goal

pub add-requires-clause-tail : goal.add-requires-clause-tail
add-requires-clause-tail c = let h = tail_below c.args.events c.args.rows.now c.loop-i.i c.requires.ends
    c.loop-i-test.true in let e = c.loop-i.invariant.events in omega arith

pub add-requires-clause-head : goal.add-requires-clause-head
add-requires-clause-head c = let h = head_below c.args.events c.args.rows.now c.loop-i.i c.requires.ends
    c.loop-i-test.true in let e = c.loop-i.invariant.events in omega arith

pub loop-i-init : goal.loop-i-init
loop-i-init c =
    let arcs = arcs_of_network c.args.rows.now in let chains = c.in_ok-chains.chains in let e = c.in_ok-chains.ensures in
    record {
      chained = chained_none (tail_of arcs) (head_of arcs) (at chains.first.items) (at chains.at_tail.items)
          (at chains.at_head.items) (λ x. ap (λ l. at l x) e.first ∙ all_zero c.args.events x);
      events = e.firsts;
      tails = e.tails;
      heads = e.heads;
    }

pub loop-i-preserved : goal.loop-i-preserved
loop-i-preserved c =
    let rows = c.args.rows.now in let arcs = arcs_of_network rows in let i = c.loop-i.i in
    let old = c.loop-i.chains in let new = c.add.new.self in let e = c.add.ensures in let v = c.loop-i.invariant in
    let ht = tail_below c.args.events rows i c.requires.ends c.loop-i-test.true in
    let hh = head_below c.args.events rows i c.requires.ends c.loop-i-test.true in
    let ev = v.events in let te = v.tails in let he = v.heads in
    let lf = old.first.ok.0 in let lt = old.at_tail.ok.0 in let lh = old.at_head.ok.0 in
    let test = c.loop-i-test.true in
    record {
      chained = rw (e.first, e.at_tail, e.at_head)
          (chained_lists i (tail_of arcs) (head_of arcs) old.first.items old.at_tail.items old.at_head.items _ _ _
          _ v.chained (tail_more rows i test) (head_more rows i test)
          (omega arith) (omega arith) (omega arith) (omega arith) refl refl);
      events = e.firsts ∙ ev;
      tails = e.tails ∙ te;
      heads = e.heads ∙ he;
    }

pub returns : goal.returns
returns c =
    let rows = c.args.rows.now in let arcs = arcs_of_network rows in let chains = c.loop-i.chains in let v = c.loop-i.invariant in
    let n = count rows in let t = c.loop-i-test.false in let a = c.loop-i.auto.i-end in let te = v.tails in let he = v.heads in
    let P : ℕ → Type 0 = λ m. Chained m (tail_of arcs) (head_of arcs) (at chains.first.items)
    (at chains.at_tail.items) (at chains.at_head.items) in
    let all : c.loop-i.i ≡ length arcs = omega arith in
    record { chained = subst P all v.chained; firsts = v.events; tails = omega arith; heads = omega arith }
