use Rattle.std.proofs.Common.{◌≡◌, ◌≢◌, ℕ, true, arith}
use Rattle.std.specs.Prelude.{not, ◌==◌}
use Rattle.std.proofs.lemmas.Bool.Decides.{nat_tests}
use Rattle.pesp_truth.proofs.Words.{word_within, some_number, no_number}
use Rattle.pesp_truth.proofs.word.has_number.Goals as goal

ne_of : (n : ℕ) → not (n == 0) ≡ true → n ≢ 0
ne_of n h = grind (arith, nat_tests)

of_ne : (n : ℕ) → n ≢ 0 → not (n == 0) ≡ true
of_ne n h = grind (arith, nat_tests)

pub set_of-requires-clause-event : goal.set_of-requires-clause-event
set_of-requires-clause-event c = word_within c.args.words.now c.args.period c.args.event c.requires.period.0
    c.requires.period.1 c.requires.long

pub returns : goal.returns
returns c =
    let set = c.set_of.result in
    let p = c.requires.period in (
      λ t. some_number c.args.period c.args.event set c.args.words.now p.0 p.1 c.set_of.type_inv c.set_of.ensures (ne_of set t),
      λ h. of_ne set (no_number c.args.period c.args.event set c.args.words.now p.0 p.1 c.set_of.ensures h),
    )
