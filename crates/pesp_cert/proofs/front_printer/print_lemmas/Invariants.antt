use Rattle.std.proofs.Common.{take}
use Rattle.std.specs.List.{flat_map}
use Rattle.pesp_stream.specs.Printing.{Sends}
use Rattle.pesp_cert.specs.FrontPrint.{lemma_text}
use Rattle.pesp_cert.proofs.front_printer.print_lemmas.Given as goal

abbrev pub invariant-loop-lemma : goal.invariant-loop-lemma
invariant-loop-lemma g l = Sends (g.O.Output.sending l.initial.out) (g.O.Output.sending l.out)
    (flat_map lemma_text (take l.lemma-index l.lemmas))
