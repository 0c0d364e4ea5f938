use Rattle.pesp_stream.specs.Words.{words_of}
use Rattle.pesp_stream.proofs.SplitPieces.{IsCounted}
use Rattle.pesp_stream.proofs.words.count_words.Given as goal

abbrev pub invariant-loop-word : goal.invariant-loop-word
invariant-loop-word l =
    (goal.iterator-loop-word).can_next l.word-iterator ×
    (goal.iterator-loop-word).is_finite l.word-iterator ×
    IsCounted (words_of l.line) l.word-iterator l.number
