use Rattle.pesp_network.proofs.Reversal.{none_open}
use Rattle.pesp_network.proofs.laws.whole_offsets_leave_no_row_open.Goals as goal

pub returns : goal.returns
returns c = none_open
