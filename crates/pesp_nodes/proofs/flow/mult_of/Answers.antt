use Rattle.std.proofs.Common.{◌∙◌, ap, sym, arith, pos, FitsSigned, slice_index_or}
use Rattle.std.specs.Int.{w64}
use Rattle.std.proofs.lemmas.Int.{ints, to_z-of_z}
use Rattle.pesp_problem.specs.declared.pair.Pair.{Pair}
use Rattle.pesp_nodes.proofs.Searching.{search_right, search_left, search_found, search_missing, get_or-default}
use Rattle.pesp_nodes.proofs.flow.mult_of.Goals as goal
use Rattle.pesp_nodes.proofs.flow.mult_of.Goals.{else-from-pairs-via-then-from-pairs+else-pairs-from, else-from-pairs-via-else-from-pairs}

pub loop-from-preserved-then-pairs-middle : goal.loop-from-preserved-then-pairs-middle
loop-from-preserved-then-pairs-middle c =
    search_right c.args.pairs.now c.args.cycle c.loop-from.from c.loop-from.to c.loop-from.invariant
    c.requires.rise _ (record { cycle = 0; mult = pos 0 }) (omega arith) (omega arith) c.if-pairs-middle.true

pub loop-from-preserved : goal.loop-from-preserved
loop-from-preserved c =
    search_left c.args.pairs.now c.args.cycle c.loop-from.from c.loop-from.to c.loop-from.invariant c.requires.rise
    _ (record { cycle = 0; mult = pos 0 }) (omega arith) (omega arith) c.if-pairs-middle.false

pub returns-then-pairs-from-clause-value : goal.returns-then-pairs-from-clause-value
returns-then-pairs-from-clause-value c =
    let d : Pair = record { cycle = 0; mult = pos 0 } in
    let small = c.requires.mults c.loop-from.from d c.if-from-pairs.true in
    let fits : FitsSigned w64 (slice_index_or c.args.pairs.now c.loop-from.from d).mult = omega (arith, ints) in
    to_z-of_z w64 _ fits ∙ sym (search_found c.args.pairs.now c.args.cycle c.loop-from.from c.loop-from.to
    c.loop-from.invariant c.requires.rise d c.loop-from-test.false c.if-from-pairs.true c.if-pairs-from.true)

pub returns-else-from-pairs-clause-value : goal.returns-else-from-pairs-clause-value
returns-else-from-pairs-clause-value c =
    sym (search_missing c.args.pairs.now c.args.cycle c.loop-from.from c.loop-from.to c.loop-from.invariant
    c.requires.rise c.loop-from-test.false
    (λ d l. elim c.else-from-pairs.branch [
      | else-from-pairs-via-then-from-pairs+else-pairs-from w ↦
          (λ q. w.if-pairs-from.false (ap (λ x. x.cycle)
          (get_or-default c.args.pairs.now c.loop-from.from (record { cycle = 0; mult = pos 0 }) d l) ∙ q))
      | else-from-pairs-via-else-from-pairs w ↦ (let g = w.if-from-pairs.false in absurd (omega arith))
    ]))
