use Rattle.pesp_network.proofs.Reversal.{counted_alike}
use Rattle.pesp_network.proofs.laws.fundamental_walks_count_alike.Goals as goal

pub returns : goal.returns
returns c = counted_alike
