-- Works and their texts, both ways. No text begins another.
use Rattle.std.proofs.Common.{◌≡◌, ℕ, List, [], ◌∷◌, Result, Ok, Err, sym, ap, ◌∙◌, inl, inr, append-nil}
use Rattle.std.specs.Prelude.{IfOk, IfErr}
use Rattle.std.specs.Global.{Vec}
use Rattle.std.proofs.lemmas.List.Elements.{All-from_recursion, recursion_from_All}
use Rattle.std.proofs.lemmas.List.Splits.{join_with_byte-slice_split}
use Rattle.pesp_stream.specs.Words.{pieces}
use Rattle.pesp_cert.specs.declared.refusal.CertRefusal.{CertRefusal}
use Rattle.pesp_cert_items.specs.Works.{WorkValue, HasWorkText, work_spelling, NoWorkBeginsAnother, ListsDiffer}
use Rattle.pesp_cert_items.specs.Refusals.{Front, onto, works_of_text, IsTextOfWorks, ReadsListsOfWorks, RefusesFirstWork, ReadsWorks}
use Rattle.pesp_cert_items.specs.Steps.{given}
use Rattle.pesp_cert_items.proofs.Founds.{AreWhole, works_found}
use Rattle.pesp_cert_items.proofs.Spelt.{work_read, works_read}

whole_of : (text : List ℕ) (n : ℕ) (ws : List WorkValue) → given n Front text ≡ Ok ws → AreWhole text ws
whole_of text n ws h =
    let found = works_found n Front (pieces 10 text) ws h in
    record { spelt = sym (join_with_byte-slice_split 10 text) ∙ found.spelt; have = found.have }

one_onto : (a b : WorkValue) (r : Result (List WorkValue) CertRefusal) → onto a r ≡ Ok (b ∷ []) → (a ≡ b) × (r ≡ Ok [])
one_onto a b (Ok ws) h = let same : a ∷ ws ≡ b ∷ [] = cc in (cc, cc)
one_onto a b (Err e) h = absurd cc

pub none_begins_another : NoWorkBeginsAnother
none_begins_another a b more text_a text_b same =
    let front = work_read 1 a more text_a in
    let whole : given 1 Front (work_spelling b) ≡ Ok (b ∷ []) = ap (given 1 Front) (sym (append-nil (work_spelling b)))
    ∙ works_read (b ∷ []) 1 (text_b, tt) in
    let one = one_onto a b (given front.number Front more) (sym front.same ∙ ap (given 1 Front) same ∙ whole) in
    (one.0, (whole_of more front.number [] one.1).spelt)

text_read : (text : List ℕ) (ws : List WorkValue) → IsTextOfWorks text ws → works_of_text text ≡ Ok ws
text_read text ws is = ap works_of_text is.spelt ∙ works_read ws 1 (recursion_from_All HasWorkText ws is.have_texts)

pub lists_differ : ListsDiffer
lists_differ first other h k same =
    let both : Ok first ≡ Ok other = sym (works_read first 1 (recursion_from_All HasWorkText first h))
    ∙ ap works_of_text same ∙ works_read other 1 (recursion_from_All HasWorkText other k) in
    cc

-- ---- what a reader answers

pub reads_found : (text : List ℕ) (r : Result (Vec WorkValue) CertRefusal) → ReadsWorks r (works_of_text text)
    → IfOk r (λ v. IsTextOfWorks text v.items)
reads_found text (Ok v) r = let w = whole_of text 1 v.items r in
    record { have_texts = All-from_recursion HasWorkText v.items w.have; spelt = w.spelt }
reads_found text (Err e) r = tt

pub reads_only : (text : List ℕ) (r : Result (Vec WorkValue) CertRefusal) → ReadsWorks r (works_of_text text) → ReadsListsOfWorks text r
reads_only text (Ok v) r ws is = let same : Ok v.items ≡ Ok ws = sym r ∙ text_read text ws is in inl cc
reads_only text (Err e) (inl memory) ws is = inr (ap Err memory)
reads_only text (Err e) (inr first) ws is = let bad : Err e ≡ Ok ws = sym first ∙ text_read text ws is in absurd cc

pub reads_refused : (text : List ℕ) (r : Result (Vec WorkValue) CertRefusal) → ReadsWorks r (works_of_text text)
    → IfErr r (RefusesFirstWork text)
reads_refused text (Ok v) r = tt
reads_refused text (Err e) r = r
