use Rattle.std.proofs.Common.{List, ◌∷◌, ℕ, reverse, arith, sym, subst}
use Rattle.pesp_board.proofs.Planted.{ArePlanted, popped, few_wait, may_grow, number_fits, planted_more}
use Rattle.pesp_board.proofs.replacement.plant.Goals.{In-Some-pop}
use Rattle.pesp_board.proofs.replacement.plant.Goals as goal

-- what is planted, with the last of both lists in front
abbrev Now : In-Some-pop → Type 0
Now c = ArePlanted c.args.tree.now c.args.queue.now (reverse c.args.waiting.now.items)
    (reverse c.args.parts.items) c.loop-part.tree c.loop-part.queue
    (c.in-Some-pop.node ∷ reverse c.pop-in-Some.new.self.items) (c.in-Some.part ∷ reverse c.pop.new.self.items)

now : (c : In-Some-pop) → Now c
now c = popped c.args.tree.now c.args.queue.now (reverse c.args.waiting.now.items)
    (reverse c.args.parts.items) c.loop-part.tree c.loop-part.queue c.loop-part.waiting.items
    c.pop-in-Some.new.self.items c.in-Some-pop.node c.loop-part.left.items c.pop.new.self.items c.in-Some.part
    c.loop-part.invariant.planted c.in-Some-pop.ensures.items c.in-Some.ensures.items

pub plant_part-requires-clause-grows : goal.plant_part-requires-clause-grows
plant_part-requires-clause-grows c =
    let m = (goal.at.plant_part-requires-clause-grows c).In-Some-pop in
    may_grow c.loop-part.tree c.loop-part.queue c.in-Some-pop.node
    (reverse c.pop-in-Some.new.self.items) c.in-Some.part (reverse c.pop.new.self.items) (now m).ready

pub plant_part-requires-clause-number : goal.plant_part-requires-clause-number
plant_part-requires-clause-number c =
    let m = (goal.at.plant_part-requires-clause-number c).In-Some-pop in
    number_fits c.loop-part.tree c.loop-part.queue c.in-Some-pop.node (reverse c.pop-in-Some.new.self.items)
    (c.in-Some.part ∷ reverse c.pop.new.self.items) (now m).ready

pub plant_part-requires-clause-memory : goal.plant_part-requires-clause-memory
plant_part-requires-clause-memory c =
    let wait = few_wait c.loop-part.tree c.loop-part.queue c.loop-part.waiting.items c.loop-part.left.items
    c.loop-part.invariant.planted.ready in
    let waiting = c.loop-part.waiting.ok.0 in
    let left = c.loop-part.left.ok.0 in
    let memory = c.loop-part.invariant.memory in
    let fewer = c.loop-part.invariant.fewer in
    let less = c.in-Some-pop.ensures.len in
    let same = c.in-Some-pop.ensures.capacity in
    omega (arith, wait, waiting, left, memory, fewer, less, same)

pub loop-part-preserved : goal.loop-part-preserved
loop-part-preserved c =
    let m = (goal.at.loop-part-preserved c).In-Some-pop in
    let more = planted_more c.args.tree.now c.args.queue.now (reverse c.args.waiting.now.items)
    (reverse c.args.parts.items) c.loop-part.tree c.plant_part.new.tree c.loop-part.queue
    c.plant_part.new.queue c.in-Some-pop.node (reverse c.pop-in-Some.new.self.items) c.in-Some.part
    (reverse c.pop.new.self.items) (now m)
    c.plant_part.ensures.tree c.plant_part.ensures.whole
    (record { waiting = c.plant_part.ensures.waiting; parked = c.plant_part.ensures.parked })
    c.plant_part.ensures.room in
    let memory = c.loop-part.invariant.memory in
    let fewer = c.loop-part.invariant.fewer in
    let less = c.in-Some.ensures.len in
    let same = c.in-Some-pop.ensures.capacity in
    let kept = c.plant_part.ensures.memory in
    record {
      planted = subst (λ (x : List ℕ). ArePlanted c.args.tree.now c.args.queue.now
          (reverse c.args.waiting.now.items) (reverse c.args.parts.items) c.plant_part.new.tree
          c.plant_part.new.queue x (reverse c.pop.new.self.items)) (sym c.plant_part.ensures.nodes) more;
      memory = omega (arith, memory, same, kept);
      fewer = omega (arith, fewer, less);
    }
