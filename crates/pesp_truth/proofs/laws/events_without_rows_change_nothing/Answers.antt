use Rattle.pesp_truth.proofs.Events as lemmas
use Rattle.pesp_truth.proofs.laws.events_without_rows_change_nothing.Goals as goal

pub returns : goal.returns
returns c = lemmas.any_count
