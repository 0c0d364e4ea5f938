use Rattle.std.proofs.Common.{◌≡◌, ◌⊎◌, ◌∙◌, ℕ, ap, arith, set, subst, sym, vec_len}
use Rattle.pesp_network.specs.Networks.{arcs_of_network}
use Rattle.pesp_problem.specs.Arcs.{tail_of, head_of}
use Rattle.pesp_network.proofs.Places.{count}
use Rattle.pesp_network.proofs.Steps.{leads_on, read_left, other_below, read_place, read_root, current_below, advance_seen, advance_new, sum_less, keeps_opening, keeps_looking}
use Rattle.pesp_network.proofs.parts.Growth.advance.Goals as goal

pub index-requires : goal.index-requires
index-requires c =
    let g = c.args.self.now in
    let o = leads_on (arcs_of_network c.args.rows.now) g c.args.current _ _ _ c.requires.grown c.requires.current
    c.index-k.ensures c.requires.some_left c.beyond-next.ensures.next c.beyond-next.ensures.ends in
    let b = other_below (arcs_of_network c.args.rows.now) g _ _ _ _ o c.requires.ends in let s = g.sized in omega arith

pub returns-then-index-ne0-clause-grown : goal.returns-then-index-ne0-clause-grown
returns-then-index-ne0-clause-grown c =
    let g = c.args.self.now in
    let o = leads_on (arcs_of_network c.args.rows.now) g c.args.current _ _ _ c.requires.grown c.requires.current
    c.index-k.ensures c.requires.some_left c.beyond-next.ensures.next c.beyond-next.ensures.ends in
    let b = other_below (arcs_of_network c.args.rows.now) g _ _ _ _ o c.requires.ends in
    let p = read_place g c.beyond-next.result.1 c.index.result.now b c.index.ensures in
    let t = c.if-index-ne0.true in
    (advance_seen (arcs_of_network c.args.rows.now) g c.look.new.self c.args.current _ _ _ o
    (omega arith) c.look.ensures.looks c.look.ensures.events).0

pub returns-then-index-ne0-clause-current : goal.returns-then-index-ne0-clause-current
returns-then-index-ne0-clause-current c =
    let g = c.args.self.now in
    let o = leads_on (arcs_of_network c.args.rows.now) g c.args.current _ _ _ c.requires.grown c.requires.current
    c.index-k.ensures c.requires.some_left c.beyond-next.ensures.next c.beyond-next.ensures.ends in
    let b = other_below (arcs_of_network c.args.rows.now) g _ _ _ _ o c.requires.ends in
    let p = read_place g c.beyond-next.result.1 c.index.result.now b c.index.ensures in
    let t = c.if-index-ne0.true in
    (advance_seen (arcs_of_network c.args.rows.now) g c.look.new.self c.args.current _ _ _ o
    (omega arith) c.look.ensures.looks c.look.ensures.events).1

pub returns-then-index-ne0-clause-smaller : goal.returns-then-index-ne0-clause-smaller
returns-then-index-ne0-clause-smaller c =
    let g = c.args.self.now in
    let o = leads_on (arcs_of_network c.args.rows.now) g c.args.current _ _ _ c.requires.grown c.requires.current
    c.index-k.ensures c.requires.some_left c.beyond-next.ensures.next c.beyond-next.ensures.ends in
    let b = current_below (arcs_of_network c.args.rows.now) g c.args.current c.requires.grown c.requires.current in
    let s = g.sized in let l = g.left.ok.0 in let e = o.left in let f = c.beyond-next.ensures.next.less in
    sum_less g.left.items c.look.new.self.left.items c.args.current c.beyond-next.result.0 c.look.ensures.lefts (omega arith) (omega arith)

pub open-requires : goal.open-requires
open-requires c =
    let g = c.args.self.now in
    let o = leads_on (arcs_of_network c.args.rows.now) g c.args.current _ _ _ c.requires.grown c.requires.current
    c.index-k.ensures c.requires.some_left c.beyond-next.ensures.next c.beyond-next.ensures.ends in
    other_below (arcs_of_network c.args.rows.now) g _ _ _ _ o c.requires.ends

pub returns-clause-grown : goal.returns-clause-grown
returns-clause-grown c =
    let g = c.args.self.now in
    let o = leads_on (arcs_of_network c.args.rows.now) g c.args.current _ _ _ c.requires.grown c.requires.current
    c.index-k.ensures c.requires.some_left c.beyond-next.ensures.next c.beyond-next.ensures.ends in
    let b = other_below (arcs_of_network c.args.rows.now) g _ _ _ _ o c.requires.ends in
    let d = current_below (arcs_of_network c.args.rows.now) g c.args.current c.requires.grown c.requires.current in
    let p = read_place g c.beyond-next.result.1 c.index.result.now b c.index.ensures in
    let t = c.if-index-ne0.false in
    (advance_new (arcs_of_network c.args.rows.now) g c.open.new.self c.look-2.new.self c.args.current _ _ _ _ o
    c.requires.ends (omega arith) (read_root g c.args.current _ d c.index-root.ensures)
    c.in_ok-open.ensures.opens c.open.ensures.lefts c.open.ensures.events c.look-2.ensures.looks c.look-2.ensures.events).0

pub returns-clause-current : goal.returns-clause-current
returns-clause-current c =
    let g = c.args.self.now in
    let o = leads_on (arcs_of_network c.args.rows.now) g c.args.current _ _ _ c.requires.grown c.requires.current
    c.index-k.ensures c.requires.some_left c.beyond-next.ensures.next c.beyond-next.ensures.ends in
    let b = other_below (arcs_of_network c.args.rows.now) g _ _ _ _ o c.requires.ends in
    let d = current_below (arcs_of_network c.args.rows.now) g c.args.current c.requires.grown c.requires.current in
    let p = read_place g c.beyond-next.result.1 c.index.result.now b c.index.ensures in
    let t = c.if-index-ne0.false in
    (advance_new (arcs_of_network c.args.rows.now) g c.open.new.self c.look-2.new.self c.args.current _ _ _ _ o
    c.requires.ends (omega arith) (read_root g c.args.current _ d c.index-root.ensures)
    c.in_ok-open.ensures.opens c.open.ensures.lefts c.open.ensures.events c.look-2.ensures.looks c.look-2.ensures.events).1

pub returns-then-index-ne0-clause-seen : goal.returns-then-index-ne0-clause-seen
returns-then-index-ne0-clause-seen c = keeps_looking c.args.self.now c.look.new.self c.args.current _ c.look.ensures.looks

pub returns-clause-seen : goal.returns-clause-seen
returns-clause-seen c = λ x seen. keeps_looking c.open.new.self c.look-2.new.self c.args.current _
    c.look-2.ensures.looks x (keeps_opening c.args.self.now c.open.new.self _ _ _ _ c.in_ok-open.ensures.opens x
    seen)

pub returns-clause-smaller : goal.returns-clause-smaller
returns-clause-smaller c =
    let g = c.args.self.now in
    let o = leads_on (arcs_of_network c.args.rows.now) g c.args.current _ _ _ c.requires.grown c.requires.current
    c.index-k.ensures c.requires.some_left c.beyond-next.ensures.next c.beyond-next.ensures.ends in
    let b = current_below (arcs_of_network c.args.rows.now) g c.args.current c.requires.grown c.requires.current in
    let s = g.sized in let l = g.left.ok.0 in let e = o.left in let f = c.beyond-next.ensures.next.less in
    sum_less g.left.items c.look-2.new.self.left.items c.args.current c.beyond-next.result.0
    (c.look-2.ensures.lefts ∙ ap (λ xs. set xs c.args.current c.beyond-next.result.0) c.open.ensures.lefts)
    (omega arith) (omega arith)

pub beyond-next-requires-clause-row : goal.beyond-next-requires-clause-row
beyond-next-requires-clause-row c =
    let g = c.args.self.now in let u = c.args.current in
    let l = read_left g u _ (current_below (arcs_of_network c.args.rows.now) g u c.requires.grown c.requires.current) c.index-k.ensures in
    let s = c.requires.some_left in let r = c.requires.grown.left_row u in let n = count c.args.rows.now in (omega arith, omega arith)

pub beyond-next-requires-clause-at_event : goal.beyond-next-requires-clause-at_event
beyond-next-requires-clause-at_event c =
    let g = c.args.self.now in let u = c.args.current in let arcs = arcs_of_network c.args.rows.now in
    let l = read_left g u _ (current_below arcs g u c.requires.grown c.requires.current) c.index-k.ensures in
    let P : ℕ → Type 0 = λ k. (tail_of arcs k ≡ u) ⊎ (head_of arcs k ≡ u) in
    subst P (sym l) (c.requires.grown.left_end u c.requires.some_left)

pub beyond-next-requires-clause-chains : goal.beyond-next-requires-clause-chains
beyond-next-requires-clause-chains c = (vec_len c.args.self.now.up, c.requires.chains)
