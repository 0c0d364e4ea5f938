use Rattle.std.proofs.Common.{sym, ap, arith, rules, ◌<◌, ◌≤◌, length, ◌++◌, ◌∷◌, [], inr, to_z-of_z, w64, SFits}
use Rattle.std.proofs.lemmas.Grind.{common_steps}
use Rattle.pesp_instance.specs.Activities.{events_of}
use Rattle.pesp_instance.proofs.Tables.{admit-crowded, admit-ok, length-table, one-more}
use Rattle.pesp_instance.proofs.table.Table.add.Goals as goal

pub returns-clause-added : goal.returns-clause-added
returns-clause-added c = λ before t.
    let a = c.args.activity in
    let fl : SFits w64 c.args.activity.label = search rules in
    let ft : SFits w64 c.args.activity.tail = search rules in
    let fh : SFits w64 c.args.activity.head = search rules in
    let fw : SFits w64 c.args.activity.lower = search rules in
    let fu : SFits w64 c.args.activity.upper = search rules in
    let sl = to_z-of_z {w = w64} {z = c.args.activity.label} fl in
    let st = to_z-of_z {w = w64} {z = c.args.activity.tail} ft in
    let sh = to_z-of_z {w = w64} {z = c.args.activity.head} fh in
    let sw = to_z-of_z {w = w64} {z = c.args.activity.lower} fw in
    let su = to_z-of_z {w = w64} {z = c.args.activity.upper} fu in
    let k1 = rw st at c.in_ok-tail.ensures.keys in
    let i1 = rw st at c.in_ok-tail.ensures.index in
    let k2 = rw (sh, k1) at c.in_ok-head.ensures.keys in
    let i2 = rw (sh, k1) at c.in_ok-head.ensures.index in
    let items = rw (sl, sw, su, i1, i2) at c.in_ok-push.ensures.items in
    let m = one-more c.args.self.now.rows.items c.args.self.now.events.keys before c.args.activity t in
    let few : length before < 100000 = omega (arith, length-table _ _ _ t, c.len.ensures, c.if-len-ge-MAX_ROWS.false) in
    let count = ap length (sym m.in_order) in
    let crowd : length (events_of (before ++ c.args.activity ∷ []))
    ≤ 100000 = omega (arith, count, ap length k2, c.len-2.ensures.len, c.if-len-gt-MAX_EVENTS.false) in
    (before ++ c.args.activity ∷ [], admit-ok before c.args.at c.args.activity few crowd, rw (items, k2) m)

pub returns-then-len-gt-MAX_EVENTS-clause-refused : goal.returns-then-len-gt-MAX_EVENTS-clause-refused
returns-then-len-gt-MAX_EVENTS-clause-refused c = λ before t.
    let ft : SFits w64 c.args.activity.tail = search rules in
    let fh : SFits w64 c.args.activity.head = search rules in
    let st = to_z-of_z {w = w64} {z = c.args.activity.tail} ft in
    let sh = to_z-of_z {w = w64} {z = c.args.activity.head} fh in
    let k1 = rw st at c.in_ok-tail.ensures.keys in
    let k2 = rw (sh, k1) at c.in_ok-head.ensures.keys in
    let m = one-more c.args.self.now.rows.items c.args.self.now.events.keys before c.args.activity t in
    let few : length before < 100000 = omega (arith, length-table _ _ _ t, c.len.ensures, c.if-len-ge-MAX_ROWS.false) in
    let count = ap length (sym m.in_order) in
    let crowd : 100000 < length (events_of (before ++ c.args.activity ∷ [])) =
    omega (arith, count, ap length k2, c.len-2.ensures.len, c.if-len-gt-MAX_EVENTS.true) in
    inr (admit-crowded before c.args.at c.args.activity few crowd)

pub returns-then-len-ge-MAX_ROWS-clause-refused : goal.returns-then-len-ge-MAX_ROWS-clause-refused
returns-then-len-ge-MAX_ROWS-clause-refused c = grind (arith, common_steps)
