use Rattle.pesp_judges.proofs.leaf.judge_leaf.Goals as goal

pub returns-in-Gap-clause-verdict : goal.returns-in-Gap-clause-verdict
returns-in-Gap-clause-verdict g c walks claim nets told = rw c.in-Gap.is (c.judge_gap.ensures walks claim nets)
