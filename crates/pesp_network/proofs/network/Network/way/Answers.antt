use Rattle.std.proofs.Common.{arith, ap}
use Rattle.std.specs.Option.{IfSome}
use Rattle.std.proofs.lemmas.Option.{IfSome_then}
use Rattle.pesp_network.specs.Networks.{NetworkValue, arcs_of_network}
use Rattle.pesp_network.proofs.Holding.{IsWayHeld, way_held, apart_held, none_then, own_forest}
use Rattle.pesp_network.proofs.network.Network.way.Goals as goal

held : (c : goal.In_ok-found) → IfSome c.in_ok-found.found (λ way. IsWayHeld c.args.self.now c.args.from c.args.to way.items)
held c = IfSome_then c.in_ok-found.found c.in_ok-found.ensures.way
    (λ way w. way_held _ c.args.self.now c.self.inside.arcs.items c.self.inside.forest c.self.inside.reaches
    c.as_slice.result.now c.args.from c.args.to way.items c.self.view_is c.self.invariant
    c.as_slice.ensures.value c.requires.from c.requires.to w)

pub returns-clause-rows : goal.returns-clause-rows
returns-clause-rows c = IfSome_then c.in_ok-found.found (held c) (λ way h. h.rows)

pub returns-clause-leads : goal.returns-clause-leads
returns-clause-leads c = IfSome_then c.in_ok-found.found (held c) (λ way h. h.leads)

pub returns-clause-forest : goal.returns-clause-forest
returns-clause-forest c = IfSome_then c.in_ok-found.found (held c) (λ way h. h.keeps)

pub returns-clause-simple : goal.returns-clause-simple
returns-clause-simple c = IfSome_then c.in_ok-found.found (held c) (λ way h. h.simple)

pub returns-clause-end_once : goal.returns-clause-end_once
returns-clause-end_once c = IfSome_then c.in_ok-found.found (held c) (λ way h. h.end_once)

pub returns-clause-none : goal.returns-clause-none
returns-clause-none c = none_then c.in_ok-found.found c.in_ok-found.ensures.none
    (λ ne. apart_held _ c.args.self.now c.self.inside.arcs.items c.self.inside.forest c.self.inside.reaches
    c.args.from c.args.to c.self.view_is c.self.invariant c.requires.from ne)

pub way-requires-clause-forest : goal.way-requires-clause-forest
way-requires-clause-forest c =
    let n = c.self.inside in
    rw c.as_slice.ensures.value
    (own_forest n.events (arcs_of_network n.rows.items) n.forest c.self.invariant.forest)

pub way-requires-clause-from : goal.way-requires-clause-from
way-requires-clause-from c =
    let same = ap (λ (x : NetworkValue). x.events) c.self.view_is in let events = c.self.invariant.forest.events in
    let below = c.requires.from in
    omega (arith, same, events, below)

pub way-requires-clause-to : goal.way-requires-clause-to
way-requires-clause-to c =
    let same = ap (λ (x : NetworkValue). x.events) c.self.view_is in let events = c.self.invariant.forest.events in
    let below = c.requires.to in
    omega (arith, same, events, below)
