use Rattle.pesp_truth.proofs.Removing.{gone, others}
use Rattle.pesp_truth.proofs.Placing.{place_within}
use Rattle.pesp_truth.proofs.bits.remove.Goals as goal

pub returns-clause-gone : goal.returns-clause-gone
returns-clause-gone c =
    let e = c.place_of-place.ensures in
    gone c.args.words.now c.place_of-place.result _
    (place_within c.args.words.now c.args.period c.args.event c.args.difference _ c.requires.difference
    c.requires.long e) e

pub returns-clause-others : goal.returns-clause-others
returns-clause-others c = λ other ne.
    let e = c.place_of-place.ensures in
    others c.args.words.now c.place_of-place.result _ other
    (place_within c.args.words.now c.args.period c.args.event c.args.difference _ c.requires.difference
    c.requires.long e) e ne

pub bounds-words-place : goal.bounds-words-place
bounds-words-place c = place_within c.args.words.now c.args.period c.args.event c.args.difference _
    c.requires.difference c.requires.long c.place_of-place.ensures

pub bounds-words-place-2 : goal.bounds-words-place-2
bounds-words-place-2 c = place_within c.args.words.now c.args.period c.args.event c.args.difference _
    c.requires.difference c.requires.long c.place_of-place.ensures
