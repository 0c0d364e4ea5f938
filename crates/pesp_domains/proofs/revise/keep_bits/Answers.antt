use Rattle.std.proofs.Common.{◌∙◌, ◌*◌, arith}
use Rattle.pesp_domains.proofs.Narrowing.{part_length}
use Rattle.pesp_domains.proofs.Masking.{masked_within}
use Rattle.pesp_domains.proofs.revise.keep_bits.Goals as goal

pub returns : goal.returns
returns c = masked_within c.args.width c.args.event _ c.args.words.now c.mask_set.new.set
    (omega arith) c.requires.event (c.mask_set.auto.set
    ∙ part_length (c.args.event * c.args.width) c.args.width c.args.words.now c.requires.event) c.mask_set.ensures
