use Rattle.std.proofs.Common.{arith, ◌∙◌, ◌*◌, length}
use Rattle.pesp_domains.proofs.Narrowing.{narrowed, part_length}
use Rattle.pesp_domains.proofs.revise.narrow.Goals as goal

pub returns-clause-narrows : goal.returns-clause-narrows
returns-clause-narrows c =
    let w = length c.args.beside.now in
    (narrowed c.args.period w c.args.kept c.args.other c.args.shifts.first c.args.shifts.count _ c.args.words.now
    c.keep_supported.new.kept _ c.keep_supported.result (omega arith) c.requires.kept
    (c.keep_supported.auto.kept ∙ part_length (c.args.kept * w) w c.args.words.now c.requires.kept)
    c.copy_from_slice.ensures.after c.keep_supported.ensures.supported c.keep_supported.ensures.less).0

pub returns-clause-less : goal.returns-clause-less
returns-clause-less c =
    let w = length c.args.beside.now in
    (narrowed c.args.period w c.args.kept c.args.other c.args.shifts.first c.args.shifts.count _ c.args.words.now
    c.keep_supported.new.kept _ c.keep_supported.result (omega arith) c.requires.kept
    (c.keep_supported.auto.kept ∙ part_length (c.args.kept * w) w c.args.words.now c.requires.kept)
    c.copy_from_slice.ensures.after c.keep_supported.ensures.supported c.keep_supported.ensures.less).1
