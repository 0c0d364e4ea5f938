-- Texts of certificates that may have a front.
use Rattle.std.proofs.Common.{◌≡◌, refl, sym, subst}
use Rattle.std.specs.Prelude.{Option}
use Rattle.pesp_truth.specs.Certificates.{Content, Front as FrontOf}
use Rattle.pesp_cert.specs.Texts.{HasText}
use Rattle.pesp_cert.specs.Fronted.{Fronted, IsFrontedText, fronted_text}

-- a certificate whose parts have a text has it
pub has_text_of : (c : Fronted) (front : Option FrontOf) (content : Content)
    → c ≡ record { front = front; content = content } → HasText front content → IsFrontedText (fronted_text c) c
has_text_of c front content is has =
    let there : IsFrontedText (fronted_text (record { front = front; content = content }))
    (record { front = front; content = content }) = record { has_text = has; spelt = refl } in
    subst (λ (x : Fronted). IsFrontedText (fronted_text x) x) (sym is) there
