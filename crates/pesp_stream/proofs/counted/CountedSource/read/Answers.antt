use Rattle.std.proofs.Common.{rules}
use Rattle.pesp_stream.proofs.counted.CountedSource.read.Goals as goal

pub returns-in_default-clause-bytes : goal.returns-in_default-clause-bytes
returns-in_default-clause-bytes g c = search rules
