use Rattle.std.proofs.Common.{◌≡◌, ◌∙◌, [], ◌∷◌, ap, reverse, rules}
use Rattle.std.proofs.lemmas.List.{reverse-reverse}
use Rattle.pesp_board.proofs.Planted.{all_told}
use Rattle.pesp_board.proofs.Adopted.{planted_alone}
use Rattle.pesp_board.proofs.adoption.plant_alone.Goals as goal

pub returns-clause-planted : goal.returns-clause-planted
returns-clause-planted c =
    let nodes : reverse c.reserve.new.self.items ≡ 0 ∷ [] = search rules in
    let turned : reverse c.reverse.new.self.items ≡ c.args.parts.items = ap reverse c.reverse.ensures.items
    ∙ reverse-reverse c.args.parts.items in
    let all = all_told c.reserve-2.new.self c.reserve-3.new.self (reverse c.reserve.new.self.items) (0 ∷ [])
    (reverse c.reverse.new.self.items) c.args.parts.items c.plant.new.tree c.plant.new.queue
    (record {
      tree = c.plant.ensures.tree;
      whole = c.plant.ensures.whole;
      waits = c.plant.ensures.waiting;
      parked = c.plant.ensures.parked;
    }) nodes turned in
    planted_alone c.args.parts.items c.in_ok-tree.tree c.reserve-2.new.self c.plant.new.tree c.reserve-3.new.self
    c.plant.new.queue c.in_ok-tree.ensures.tree c.in_ok-reserve-2.ensures.tree
    (c.reserve-3.ensures.waiting ∙ ap (λ q. q.waiting) c.new-queue.ensures)
    (c.reserve-3.ensures.parked ∙ ap (λ q. q.parked) c.new-queue.ensures) all
