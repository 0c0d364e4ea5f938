use Rattle.std.proofs.Common.{◌/◌, ◌%◌, ◌∙◌, ap, ℕ}
use Rattle.std.specs.Prelude.{nat_eq, slice_index}
use Rattle.std.proofs.lemmas.Nat.Bits.{shr_and_one}
use Rattle.pesp_truth.specs.Sets.{is_set}
use Rattle.pesp_truth.proofs.Placing.{place_within}
use Rattle.pesp_truth.proofs.bits.has.Goals as goal

pub returns : goal.returns
unfolding is_set
returns c =
    let place = c.place_of-place.result in
    ap (λ (m : ℕ). nat_eq m 1) (shr_and_one (slice_index c.args.words.now (place / 64)) (place % 64))
    ∙ ap (λ x. is_set c.args.words.now x) c.place_of-place.ensures

pub bounds-words-place : goal.bounds-words-place
bounds-words-place c = place_within c.args.words.now c.args.period c.args.event c.args.difference _
    c.requires.difference c.requires.long c.place_of-place.ensures
