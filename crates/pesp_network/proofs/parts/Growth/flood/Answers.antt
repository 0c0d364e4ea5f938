use Rattle.std.proofs.Common.{arith, sym, ◌∙◌}
use Rattle.std.proofs.lemmas.Grind.{common_steps}
use Rattle.std.proofs.lemmas.List.{get_or_read}
use Rattle.pesp_network.specs.Networks.{arcs_of_network}
use Rattle.pesp_network.proofs.Steps.{read_left, current_below}
use Rattle.pesp_network.proofs.Flooding.{start_flood, close_grown, close_root, close_up, keeps_closing, less_work}
use Rattle.pesp_network.proofs.parts.Growth.flood.Goals as goal

pub events-init : goal.events-init
events-init c =
    let b = c.requires.event in let s = c.args.self.now.sized in let k = c.args.self.now.place.ok.0 in
    let r = get_or_read c.args.self.now.place.items c.args.start _ (omega arith) c.index.ensures 0 in let f = c.if-index-ne0.false in
    let w = start_flood (arcs_of_network c.args.rows.now) c.args.self.now c.open.new.self c.args.start
    c.requires.grown c.requires.closed c.requires.event c.requires.before
    (omega arith) c.in_ok-open.ensures.opens c.open.ensures.events in
    record { grown = w.0; current = w.1; seen = w.2; started = w.3; events = c.open.ensures.events }

pub returns-then-row_up-eq0-clause-grown : goal.returns-then-row_up-eq0-clause-grown
returns-then-row_up-eq0-clause-grown c =
    let g = c.events.self in let u = c.events.current in let i = c.events.invariant in
    let l = read_left g u _ (current_below (arcs_of_network c.args.rows.now) g u i.grown i.current) c.index-row_left.ensures in
    let t = c.if-row_left-eq0.true in
    close_grown (arcs_of_network c.args.rows.now) g c.close.new.self u i.grown i.current
    (sym l ∙ t) c.close.ensures.closes c.close.ensures.events

pub returns-then-row_up-eq0-clause-closed : goal.returns-then-row_up-eq0-clause-closed
returns-then-row_up-eq0-clause-closed c =
    let g = c.events.self in let u = c.events.current in let i = c.events.invariant in let h = c.close.new.self in
    let b = current_below (arcs_of_network c.args.rows.now) g u i.grown i.current in
    let l = read_left g u _ b c.index-row_left.ensures in
    let t = c.if-row_left-eq0.true in
    let e = c.close.ensures.events in let s = h.sized in let k = h.by.ok.0 in
    let r = get_or_read h.by.items u _ (omega arith) c.index-row_up.ensures 0 in
    close_root (arcs_of_network c.args.rows.now) g h u i.grown i.current (sym l ∙ t) c.close.ensures.closes (sym r ∙ c.if-row_up-eq0.true)

pub events-smaller-then-row_left-eq0 : goal.events-smaller-then-row_left-eq0
events-smaller-then-row_left-eq0 c =
    let i = c.events.invariant in
    less_work (arcs_of_network c.args.rows.now) c.events.self c.close.new.self c.events.current i.grown i.current
    c.close.ensures.lasts c.close.ensures.lefts

pub events-preserved-then-row_left-eq0 : goal.events-preserved-then-row_left-eq0
events-preserved-then-row_left-eq0 c =
    let g = c.events.self in let u = c.events.current in let i = c.events.invariant in let h = c.close.new.self in
    let b = current_below (arcs_of_network c.args.rows.now) g u i.grown i.current in
    let l = read_left g u _ b c.index-row_left.ensures in
    let t = c.if-row_left-eq0.true in
    let e = c.close.ensures.events in let s = h.sized in let k = h.by.ok.0 in let j = h.up.ok.0 in
    let r = get_or_read h.by.items u _ (omega arith) c.index-row_up.ensures 0 in
    let p = get_or_read h.up.items u _ (omega arith) c.index-current.ensures 0 in
    let f = c.if-row_up-eq0.false in
    let keeps = keeps_closing g h u c.close.ensures.closes in
    record {
      grown = close_grown (arcs_of_network c.args.rows.now) g h u i.grown i.current (sym l ∙ t) c.close.ensures.closes e;
      current = close_up (arcs_of_network c.args.rows.now) g h u _ i.grown i.current (sym l ∙ t) c.close.ensures.closes (omega arith) p;
      seen = λ x sx. keeps x (i.seen x sx);
      started = keeps c.args.start i.started;
      events = e ∙ i.events;
    }

pub events-preserved : goal.events-preserved
events-preserved c =
    let i = c.events.invariant in let a = c.in_ok-current.ensures in
    record {
      grown = a.grown;
      current = a.current;
      seen = λ x sx. a.seen x (i.seen x sx);
      started = a.seen c.args.start i.started;
      events = a.events ∙ i.events;
    }

pub returns-then-index-ne0-clause-start_seen : goal.returns-then-index-ne0-clause-start_seen
returns-then-index-ne0-clause-start_seen c = grind (arith, common_steps)

pub index-row_left-requires : goal.index-row_left-requires
index-row_left-requires c = grind (arith, common_steps)

pub close-requires : goal.close-requires
close-requires c = grind (arith, common_steps)

pub index-row_up-requires : goal.index-row_up-requires
index-row_up-requires c = grind (arith, common_steps)

pub index-current-requires : goal.index-current-requires
index-current-requires c = grind (arith, common_steps)

pub advance-requires-clause-ends : goal.advance-requires-clause-ends
advance-requires-clause-ends c = grind (arith, common_steps)

pub advance-requires-clause-some_left : goal.advance-requires-clause-some_left
advance-requires-clause-some_left c = grind (arith, common_steps)
