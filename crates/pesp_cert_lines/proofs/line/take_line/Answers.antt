use Rattle.pesp_cert_lines.proofs.LineLaws.{reads_line}
use Rattle.pesp_cert_lines.proofs.line.take_line.Goals as goal

pub returns-clause-spelt : goal.returns-clause-spelt
returns-clause-spelt c = reads_line c.args.progress.now c.args.line.now c.judge_line.result c.judge_line.ensures.exact
