use Rattle.std.proofs.Common.{◌≡◌, [], ◌∷◌, reverse, arith, ap, ◌∙◌, rules}
use Rattle.std.proofs.lemmas.List.{reverse-reverse}
use Rattle.pesp_board.specs.Growing.{AreReady}
use Rattle.pesp_board.proofs.Replacing.{IsWithout}
use Rattle.pesp_board.proofs.Planted.{all_told, ready_once, planted_there}
use Rattle.pesp_board.proofs.replacement.take.Goals.{After-reverse}
use Rattle.pesp_board.proofs.replacement.take.Goals as goal

nodes : (c : After-reverse) → reverse c.reserve.new.self.items ≡ c.args.node ∷ []
nodes c = search rules

turned : (c : After-reverse) → reverse c.reverse.new.self.items ≡ c.args.parts.items
turned c = ap reverse c.reverse.ensures.items ∙ reverse-reverse c.args.parts.items

without : (c : After-reverse) → IsWithout c.reserve-2.new.self c.remove.new.self c.args.node c.remove.result
without c = record { parked = c.remove.ensures.parked; waiting = c.remove.ensures.waiting }

ready : (c : After-reverse) → AreReady c.reserve-3.new.self c.remove.new.self (c.args.node ∷ []) c.args.parts.items
ready c =
    let long = c.args.parts.ok.0 in
    let lines = c.len-lines.ensures in
    let count = c.nodes.ensures.count in
    let room = c.in_ok-reserve-3.ensures.room in
    let numbers = c.in_ok-reserve-2.ensures.numbers in
    let free = c.in_ok-reserve-2.ensures.room in
    let few = c.requires.room in
    ready_once c.args.tree.now c.reserve-3.new.self c.args.queue.now c.reserve-2.new.self c.remove.new.self
    c.args.node c.remove.result c.args.parts.items c.nodes.ensures.whole c.requires.leaf c.requires.shape
    c.requires.room c.requires.beyond
    c.in_ok-reserve-3.ensures.tree (omega (arith, long, lines, room)) c.in_ok-reserve-2.ensures.waiting
    c.in_ok-reserve-2.ensures.parked (omega (arith, long, lines, count, numbers))
    (omega (arith, long, lines, free))
    c.keeps_limits.ensures (without c) c.remove.ensures.room

pub plant-requires-clause-ready : goal.plant-requires-clause-ready
plant-requires-clause-ready c =
    let m = (goal.at.plant-requires-clause-ready c).After-reverse in
    rw (nodes m) (rw (turned m) (ready m))

pub returns-clause-planted : goal.returns-clause-planted
returns-clause-planted c =
    let m = (goal.at.returns-clause-planted c).After-reverse in
    let all = all_told c.reserve-3.new.self c.remove.new.self (reverse c.reserve.new.self.items) (c.args.node ∷ [])
    (reverse c.reverse.new.self.items) c.args.parts.items c.plant.new.tree c.plant.new.queue
    (record {
      tree = c.plant.ensures.tree;
      whole = c.plant.ensures.whole;
      waits = c.plant.ensures.waiting;
      parked = c.plant.ensures.parked;
    }) (nodes m) (turned m) in
    planted_there c.args.tree.now c.reserve-3.new.self c.plant.new.tree c.args.queue.now c.reserve-2.new.self
    c.remove.new.self c.plant.new.queue c.args.node c.remove.result c.args.parts.items
    c.in_ok-reserve-3.ensures.tree c.in_ok-reserve-2.ensures.waiting c.in_ok-reserve-2.ensures.parked
    (without m) all
