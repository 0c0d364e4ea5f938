use Rattle.std.proofs.Common.{◌≡◌, ◌∙◌, ap}
use Rattle.pesp_stream.proofs.Printing.{sends_then, sends_as}
use Rattle.pesp_truth.specs.Shown.{LemmaProof}
use Rattle.pesp_cert.specs.Print.{pairs_text}
use Rattle.pesp_cert.proofs.front_printer.print_lemma_rows.Goals as goal

pub returns : goal.returns
returns g c =
    let weights : c.deref.result.now ≡ c.args.lemma.now.fact.weights =
    c.deref.ensures.value ∙ ap (λ (s : LemmaProof). s.fact.weights) c.lemma.view_is in
    sends_then c.put.ensures (sends_as (pairs_text c.args.lemma.now.fact.weights) (ap pairs_text weights) c.print_pairs.ensures)
