use Rattle.pesp_check.specs.Views.{kept}
use Rattle.pesp_check.proofs.Lines.{end_answer, whole_text}
use Rattle.pesp_check.proofs.judge.Judge.answer.Goals as goal

pub returns : goal.returns
returns c front c' has before =
    end_answer c.args.self.now.stage c.args.self.now.instance.now front c' (kept c.args.self.now) (whole_text front c' has) before
