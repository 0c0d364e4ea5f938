use Rattle.std.proofs.Common.{refl, arith}
use Rattle.pesp_truth.proofs.Starting.{taking_more, taken_all}
use Rattle.pesp_truth.proofs.support.start_one.Goals as goal

pub loop-difference-init : goal.loop-difference-init
loop-difference-init c = record { gone = λ d m l. absurd (omega arith); zero = refl; others = λ _ _ _. refl }

pub loop-difference-preserved : goal.loop-difference-preserved
loop-difference-preserved c =
    taking_more c.args.period c.args.event c.loop-difference.difference c.args.words.now c.loop-difference.words
    c.remove-had.new.words c.loop-difference.auto.difference c.loop-difference-test.true
    c.loop-difference.invariant c.remove-had.ensures.gone c.remove-had.ensures.others

pub returns-clause-alone : goal.returns-clause-alone
returns-clause-alone c = λ _. taken_all c.args.period c.args.event c.loop-difference.difference c.args.words.now
    c.loop-difference.words c.loop-difference-test.false c.loop-difference.invariant

pub returns-clause-whole : goal.returns-clause-whole
returns-clause-whole c = λ n. absurd (n c.if-first-event.false)
