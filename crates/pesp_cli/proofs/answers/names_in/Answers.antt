use Rattle.std.proofs.Common.{inl}
use Rattle.pesp_check.proofs.ReadingLemmas.{told_as}
use Rattle.pesp_cli.proofs.Ends.{names_stopped}
use Rattle.pesp_cli.proofs.answers.names_in.Goals as goal

pub returns : goal.returns
returns g c =
    names_stopped c.read_whole_names.result _ c.read_whole_names.ensures.cause

pub returns-in_err-reader : goal.returns-in_err-reader
returns-in_err-reader g c =
    told_as _ _ _ c.from_residual.ensures.1 (inl c.in_err-reader.ensures.stopped)
