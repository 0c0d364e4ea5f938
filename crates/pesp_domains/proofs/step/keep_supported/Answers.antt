use Rattle.pesp_domains.proofs.Words.{supported_kept}
use Rattle.pesp_domains.proofs.step.keep_supported.Goals as goal

pub returns-clause-supported : goal.returns-clause-supported
returns-clause-supported c =
    supported_kept c.args.period c.args.shifts.first c.args.shifts.count c.args.kept.now c.args.others.now _ _ _
    c.requires.period.0 c.requires.first c.requires.count c.requires.clear_kept
    c.lay_twice.ensures c.spread.ensures c.keep_shifted.ensures.shifted
