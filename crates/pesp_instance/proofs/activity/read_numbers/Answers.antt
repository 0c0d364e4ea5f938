use Rattle.std.proofs.Common.{◌≡◌, ◌∙◌, sym, ap, refl, arith, rules, ◌<◌, ◌+◌, length, drop, take, length-take, [], get_or, to_z-of_z, w64, SFits, drop_of_length-le}
use Rattle.std.proofs.lemmas.List.{get_or-take}
use Rattle.csv.specs.Records.{fields_of}
use Rattle.pesp_instance.specs.Number.{number_of}
use Rattle.pesp_instance.proofs.Fields.{numbers-all, numbers-more, numbers-none, numbers-start}
use Rattle.pesp_instance.proofs.activity.read_numbers.Goals as goal

pub loop-index-init : goal.loop-index-init
loop-index-init c = rw c.new-numbers.ensures (numbers-start c.args.at (take 6 (fields_of c.args.line.now)), refl)

pub returns-in-None-clause-refused : goal.returns-in-None-clause-refused
returns-in-None-clause-refused c =
    let i = c.loop-index.index in
    let six = length-take 6 (fields_of c.args.line.now) in
    let there : i < length (take 6 (fields_of c.args.line.now)) = omega (arith, six) in
    let same : get_or (take 6 (fields_of c.args.line.now)) i []
    ≡ get_or (fields_of c.args.line.now) i [] =
    get_or-take 6 (fields_of c.args.line.now) i [] c.loop-index-test.true in
    let e = numbers-none c.args.at (take 6 (fields_of c.args.line.now)) c.loop-index.numbers.items i there
    (ap number_of same ∙ sym c.number_at.ensures ∙ c.in-None.is) in
    rw c.loop-index.invariant.1 at (c.loop-index.invariant.0 ∙ e)

pub loop-index-preserved : goal.loop-index-preserved
loop-index-preserved c =
    let i = c.loop-index.index in
    let six = length-take 6 (fields_of c.args.line.now) in
    let there : i < length (take 6 (fields_of c.args.line.now)) = omega (arith, six) in
    let same : get_or (take 6 (fields_of c.args.line.now)) i []
    ≡ get_or (fields_of c.args.line.now) i [] =
    get_or-take 6 (fields_of c.args.line.now) i [] c.loop-index-test.true in
    let fits : SFits w64 c.in-Some.number = search rules in
    let fit = to_z-of_z {w = w64} {z = c.in-Some.number} fits in
    let e = numbers-more c.args.at (take 6 (fields_of c.args.line.now)) c.loop-index.numbers.items i there
    c.in-Some.number (ap number_of same ∙ sym c.number_at.ensures ∙ c.in-Some.is) in
    (c.loop-index.invariant.0 ∙ rw (c.push.ensures.items, fit) e, c.push.ensures.len ∙ ap (λ n. n + 1) c.loop-index.invariant.1)

pub returns-clause-numbers : goal.returns-clause-numbers
returns-clause-numbers c =
    let six = length-take 6 (fields_of c.args.line.now) in
    let e : drop c.loop-index.index (take 6 (fields_of c.args.line.now))
    ≡ [] = drop_of_length-le (take 6 (fields_of c.args.line.now)) (omega (arith, six)) in
    rw e at c.loop-index.invariant.0 ∙ numbers-all c.args.at c.loop-index.numbers.items
