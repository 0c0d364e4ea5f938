use Rattle.std.proofs.Common.{◌≡◌, ◌∙◌, ◌+◌, sym, ap, arith, drop, ℕ, Option, [], drop_of_length-le}
use Rattle.pesp_report.specs.Naming.{distance_among, first_told}
use Rattle.pesp_report.proofs.Distances.{distance-at}
use Rattle.pesp_report.proofs.names.first_distance.Goals as goal

pub returns-in-Some : goal.returns-in-Some
unfolding first_told
returns-in-Some c =
    let later = distance_among c.args.station.now (drop (c.loop-entry.entry-index + 1) c.args.entries.now) in
    let here = distance-at c.args.station.now c.args.entries.now c.loop-entry.entry-index c.entry-item.result
    c.loop-entry-test.true c.entry-item.is in
    sym (c.loop-entry.invariant ∙ here ∙ ap (λ (told : Option ℕ). first_told told later) (sym c.in-Some.ensures))

pub loop-entry-preserved : goal.loop-entry-preserved
unfolding distance_among first_told
loop-entry-preserved c =
    let later = distance_among c.args.station.now (drop (c.loop-entry.entry-index + 1) c.args.entries.now) in
    let here = distance-at c.args.station.now c.args.entries.now c.loop-entry.entry-index c.entry-item.result
    c.loop-entry-test.true c.entry-item.is in
    c.loop-entry.invariant ∙ here ∙ ap (λ (told : Option ℕ). first_told told later) (sym c.in_default.ensures)

pub returns : goal.returns
unfolding distance_among
returns c =
    let test = c.loop-entry-test.false in
    let end : drop c.loop-entry.entry-index c.args.entries.now ≡ [] = drop_of_length-le c.args.entries.now (omega (arith, test)) in
    sym (c.loop-entry.invariant ∙ ap (distance_among c.args.station.now) end)
