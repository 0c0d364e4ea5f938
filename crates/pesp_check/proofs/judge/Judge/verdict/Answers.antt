use Rattle.pesp_check.specs.Views.{kept}
use Rattle.pesp_check.proofs.Lines.{end_valid}
use Rattle.pesp_check.proofs.judge.Judge.verdict.Goals as goal

pub returns-in-Front : goal.returns-in-Front
returns-in-Front c front c' has before = end_valid c.args.self.now.stage c.args.self.now.instance.now front c'
    (kept c.args.self.now) c.in-Front.is has before
