use Rattle.pesp_truth.proofs.Words.{word_within, narrowed_word}
use Rattle.pesp_truth.proofs.word.narrow_word.Goals as goal

pub set_of-set-requires-clause-event : goal.set_of-set-requires-clause-event
set_of-set-requires-clause-event c = word_within c.args.words.now c.args.period c.args.other c.requires.period.0
    c.requires.period.1 c.requires.long_other

pub keep-requires-clause-event : goal.keep-requires-clause-event
keep-requires-clause-event c = word_within c.args.words.now c.args.period c.args.kept c.requires.period.0
    c.requires.period.1 c.requires.long_kept

pub returns-clause-narrows : goal.returns-clause-narrows
returns-clause-narrows c =
    narrowed_word c.args.period c.args.kept c.args.other c.args.window.first c.args.window.count
    c.set_of-set.result c.partners_of-partners.result c.args.words.now c.keep.new.words c.requires.period.0
    c.requires.period.1
    c.set_of-set.ensures c.partners_of-partners.ensures c.keep.ensures.kept
