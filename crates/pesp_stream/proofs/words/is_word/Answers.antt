use Rattle.std.proofs.Common.{rules}
use Rattle.pesp_stream.proofs.words.is_word.Goals as goal

pub returns : goal.returns
returns c = search rules
