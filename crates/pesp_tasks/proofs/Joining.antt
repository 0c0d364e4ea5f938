-- What is solved is read and accepted, and what is gone on from and grafted is accepted.
use Rattle.std.proofs.Common.{◌≡◌, ◌⊎◌, inl, inr, ◌∙◌, ℕ, ◌<◌, List, [], ◌++◌, length, take, drop, sym, ap, subst, arith, length-append, Some, None, Ok, Err}
use Rattle.std.specs.Prelude.{Option, Result, ◌↔◌, ⊤}
use Rattle.std.specs.Io.KnownBytes.{Appends}
use Rattle.std.proofs.lemmas.List.{append_cancel_left, take-append-drop}
use Rattle.pesp_problem.specs.Timetables.{Pesp}
use Rattle.pesp_instance.specs.Instance.{instance_of}
use Rattle.pesp_instance.specs.declared.refusal.ReadRefusal.{ReadRefusal}
use Rattle.pesp_truth.specs.Certificates.{Content, IsValid, Front as FrontOf}
use Rattle.pesp_cert.specs.declared.refusal.CertRefusal.{CertRefusal}
use Rattle.pesp_cert_lines.specs.declared.versions.Versions.{Versions}
use Rattle.pesp_cert_lines.specs.declared.versions.Versions.TheVariants.{Plain}
use Rattle.pesp_cert.specs.Texts.{spelling, HasText}
use Rattle.pesp_cert.specs.Refusals.{IsTextOf, items_of_text}
use Rattle.pesp_cert.proofs.TextLaws.{none_begins_another, plain_read_of}
use Rattle.pesp_cert.proofs.TextLengths.{texts_short}
use Rattle.pesp_cert_items.specs.Texts.{RefusesText}
use Rattle.pesp_judges.specs.declared.refusal.Verdict.{Verdict}
use Rattle.pesp_judges.specs.declared.refusal.Verdict.TheVariants.{Accepted}
use Rattle.pesp_check.specs.Checking.{Checks, ReadsInstance, RefusesInstance}
use Rattle.pesp_runs.specs.Reading.{ReadsBase, ReadsTimetable}
use Rattle.pesp_tasks.specs.Solving.{Solves, WritesSolution}
use Rattle.pesp_runs.specs.Bases.{ReadsSharpBase}
use Rattle.pesp_runs.specs.Runs.{OverBase, OverWorks}
use Rattle.pesp_tasks.specs.Resuming.{WritesResumed, GoesOnBy, WritesGoneOn}
use Rattle.pesp_tasks.specs.Outside.{Grafts}

-- what a writer got behind what it held before
pub appended_is : (before bytes text : List ℕ) → Appends (Some before) (Some (before ++ bytes)) text → text ≡ bytes
appended_is before bytes text e = append_cancel_left before text bytes (sym e)

pub same_instance : (text : List ℕ) (period : ℕ) (p q : Pesp) → instance_of text period ≡ Ok p → instance_of text period ≡ Ok q → p ≡ q
same_instance text period p q is also = let same : ◌≡◌ {A = Result Pesp ReadRefusal} (Ok p) (Ok q) = sym is ∙ also in cc

-- a text of which the front that is read is a certificate's text is that text
same_content : (bytes read : List ℕ) (limit : ℕ) (f g : Option FrontOf) (c d : Content) → HasText f c → spelling f c ≡ bytes
    → read ≡ take limit bytes → IsTextOf g read d → (g ≡ f) × (d ≡ c)
same_content bytes read limit f g c d text spelt is whole =
    let joined : spelling g d ++ drop limit bytes
    ≡ spelling f c = ap (λ t. t ++ drop limit bytes) (sym whole.spelt ∙ is) ∙ take-append-drop limit bytes
    ∙ sym spelt in
    let same = none_begins_another g f d c (drop limit bytes) whole.has_text text joined in
    (same.0, same.1)

accepted : (p q : Pesp) (f g : Option FrontOf) (c d : Content) (verdict : Verdict) → p ≡ q → (g ≡ f) × (d ≡ c) → IsValid f p c
    → (verdict ≡ Accepted) ↔ IsValid g q d → verdict ≡ Accepted
accepted p q f g c d verdict same is valid exactly = exactly.1 (rw (← same, is.0, is.1) valid)

-- a certificate that is valid for the instance of a text is accepted for it, where its text was appended
pub accepts_written : (versions : Versions) (text before bytes : List ℕ)
    (left left_instance left_certificate old new : Option (List ℕ)) (period : ℕ)
    (verdict : Verdict) (p : Pesp) (front : Option FrontOf) (c : Content) → ReadsInstance (Some text) left period p
    → IsValid front p c → HasText front c
    → Appends (Some before) (Some (before ++ bytes)) (spelling front c)
    → Checks versions (Some text) left_instance (Some bytes) left_certificate period verdict (Appends old new)
    → verdict ≡ Accepted
accepts_written versions text before bytes left left_instance left_certificate old new period verdict p front c read valid has_text
    gets (q, read_again, checked) =
    let one = ap (λ t. instance_of t period) (read.read.whole) ∙ read.is_instance in
    let other = ap (λ t. instance_of t period) (read_again.read.whole) ∙ read_again.is_instance in
    let written = appended_is before bytes (spelling front c) gets in
    let judged = checked.judged in
    accepted
    p
    q
    front
    judged.front
    c
    judged.content
    verdict
    (same_instance text period p q one other)
    (same_content bytes judged.text 1073741824 front judged.front c judged.content has_text written judged.read.front judged.spelt)
    valid
    judged.exactly

pub accepts_what_is_solved : (text before bytes : List ℕ)
    (left left_instance left_certificate old new : Option (List ℕ)) (period steps : ℕ) (verdict : Verdict)
    → Solves (Some text) left period steps (Appends (Some before) (Some (before ++ bytes)))
    → Checks Plain (Some text) left_instance (Some bytes) left_certificate period verdict (Appends old new)
    → verdict ≡ Accepted
accepts_what_is_solved text before bytes left left_instance left_certificate old new period steps verdict (p, read, solved) =
    accepts_written Plain text before bytes left left_instance left_certificate old new period verdict p None solved.certificate read
    solved.solved.valid solved.has_text solved.written

pub accepts_from_times : (text before bytes : List ℕ)
    (left times left_times left_instance left_certificate old new : Option (List ℕ)) (period steps : ℕ) (verdict : Verdict)
    → ReadsTimetable (Some text) left times left_times period
    (λ p begun. WritesSolution p begun steps (Appends (Some before) (Some (before ++ bytes))))
    → Checks Plain (Some text) left_instance (Some bytes) left_certificate period verdict (Appends old new)
    → verdict ≡ Accepted
accepts_from_times text before bytes left times left_times left_instance left_certificate old new period steps verdict
    (p, read, (begun, reads, solved)) =
    accepts_written Plain text before bytes left left_instance left_certificate old new period verdict p None solved.certificate read
    solved.solved.valid solved.has_text solved.written

pub accepts_what_is_gone_on_from : (text before bytes : List ℕ)
    (left base left_base left_instance left_certificate old new : Option (List ℕ)) (period steps : ℕ) (verdict : Verdict)
    → OverBase ReadsSharpBase (Some text) left base left_base period
    (λ p begun. (begun.front ≡ None) × WritesGoneOn p begun steps ⊤ (Appends (Some before) (Some (before ++ bytes))))
    → Checks Plain (Some text) left_instance (Some bytes) left_certificate period verdict (Appends old new)
    → verdict ≡ Accepted
accepts_what_is_gone_on_from text before bytes left base left_base left_instance left_certificate old new period steps verdict
    (p, read, (begun, reads, (plain, gone_on))) =
    let resumed : WritesResumed p begun.content steps ⊤ (Appends (Some before) (Some (before ++ bytes))) = subst
    (λ (front : Option FrontOf). GoesOnBy front p begun steps ⊤ (Appends (Some before) (Some (before ++ bytes)))) plain gone_on in
    accepts_written Plain text before bytes left left_instance left_certificate old new period verdict p None resumed.certificate read
    resumed.resumed.valid resumed.has_text resumed.written

pub accepts_what_is_grafted : (text before bytes : List ℕ)
    (left base left_base works left_works left_instance left_certificate told_old told_new old new : Option (List ℕ)) (period : ℕ)
    (verdict : Verdict)
    → OverWorks ReadsBase (Some text) left base left_base works left_works period
    (λ p begun work. Grafts p begun work (Appends (Some before) (Some (before ++ bytes))) (Appends told_old told_new))
    → Checks Plain (Some text) left_instance (Some bytes) left_certificate period verdict (Appends old new)
    → verdict ≡ Accepted
accepts_what_is_grafted text before bytes left base left_base works left_works left_instance left_certificate told_old told_new old
    new period verdict (p, read, (begun, reads, next)) =
    let (are, is_text, grafted) = next.holds in
    accepts_written Plain text before bytes left left_instance left_certificate old new period verdict p None grafted.certificate read
    grafted.grafted.valid grafted.has_text grafted.written

pub instance_is_read : (text : List ℕ) (left left_instance old new : Option (List ℕ)) (period steps : ℕ)
    (refusal : ReadRefusal) → Solves (Some text) left period steps (Appends old new)
    → RefusesInstance (Some text) left_instance period refusal → ⊥
instance_is_read text left left_instance old new period steps refusal (p, read, solved) refused =
    let one = ap (λ t. instance_of t period) (read.read.whole) ∙ read.is_instance in
    let bad : ◌≡◌ {A = Result Pesp ReadRefusal} (Ok p) (Err refusal) = sym one ∙ refused.whole in
    cc

-- a text that is shorter than the limit has nothing behind what was read, where no more of it is read
nothing_behind : (bytes read rest : List ℕ) → length bytes < 1073741824 → bytes ≡ read ++ rest
    → (length read ≡ 1073741824) ⊎ (rest ≡ []) → rest ≡ []
nothing_behind bytes read rest short is (inl full) = absurd (omega (arith, short, full, ap length is, length-append read rest))
nothing_behind bytes read rest short is (inr e) = e

-- the text of a certificate isn't refused
never_refused : (bytes : List ℕ) (left : Option (List ℕ)) (c : Content) (refusal : CertRefusal) → IsTextOf None bytes c
    → RefusesText Plain (Some bytes) left 1073741824 refusal → ⊥
never_refused bytes None c refusal is refused = refused.consumed
never_refused bytes (Some rest) c refusal is refused =
    let short : length bytes < 1073741824 = omega (arith, texts_short c is.has_text, ap length is.spelt) in
    let first = refused.first rest (nothing_behind bytes refused.read rest short refused.consumed) in
    let bad = sym (plain_read_of bytes c is) ∙ ap (items_of_text Plain) refused.consumed ∙ first in
    cc

pub certificate_is_read : (text before bytes : List ℕ) (left left_certificate : Option (List ℕ)) (period steps : ℕ) (refusal : CertRefusal)
    → Solves (Some text) left period steps (Appends (Some before) (Some (before ++ bytes)))
    → RefusesText Plain (Some bytes) left_certificate 1073741824 refusal → ⊥
certificate_is_read text before bytes left left_certificate period steps refusal (p, read, solved) refused =
    let written = appended_is before bytes (spelling None solved.certificate) solved.written in
    never_refused bytes left_certificate solved.certificate refusal (record { has_text = solved.has_text; spelt = sym written }) refused
