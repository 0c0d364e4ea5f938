-- What a reader answers of the texts of certificates with their fronts.
use Rattle.std.proofs.Common.{◌≡◌, ℕ, true, List, Option, Result, Ok, Err, refl, ap, inl, inr}
use Rattle.std.specs.Prelude.{◌⊎◌, IfSome, IsOkAnd}
use Rattle.pesp_truth.specs.Certificates.{Content, Front}
use Rattle.pesp_cert.specs.Limits.{front_keeps_limits}
use Rattle.pesp_cert_lines.specs.declared.versions.Versions.TheVariants.{All}
use Rattle.pesp_cert.specs.declared.refusal.CertRefusal.{CertRefusal}
use Rattle.pesp_cert.specs.declared.refusal.CertRefusal.TheVariants as refusals
use Rattle.pesp_cert.specs.Drafts.{FrontValue, front_said}
use Rattle.pesp_cert.specs.Refusals.{IsTextOf, ReadsWhole}
use Rattle.pesp_cert.specs.Fronted.{Fronted, ReadsFrontedTexts}
use Rattle.pesp_cert.proofs.FrontRuns.{fronts_iff}

pub limits_said : (text : List ℕ) (front : Option Front) (c : Content) → IsTextOf front text c → IfSome front (λ f. front_keeps_limits f ≡ true)
limits_said text front c h = ((fronts_iff front c).1 h.has_text).0

both : (f g : Option Front) (x y : Content) → f ≡ g → x ≡ y
    → ◌≡◌ {A = Fronted} (record { front = f; content = x }) (record { front = g; content = y })
both f g x y e k = cc

pub reads_only : (text : List ℕ) (f : FrontValue) (d : Content) → ReadsWhole All text (Ok (f, d))
    → ReadsFrontedTexts text (Ok (record { front = front_said f; content = d }))
reads_only text f d reads c is = go (reads c.front c.content is refl)
  where
    go : IsOkAnd {T = FrontValue × Content} {E = CertRefusal} (Ok (f, d)) (λ p. (front_said p.0 ≡ c.front) × (p.1 ≡ c.content))
        ⊎ (◌≡◌ {A = Result (FrontValue × Content) CertRefusal} (Ok (f, d)) (Err refusals.Memory))
        → (◌≡◌ {A = Result Fronted CertRefusal} (Ok (record { front = front_said f; content = d })) (Ok c))
        ⊎ (◌≡◌ {A = Result Fronted CertRefusal} (Ok (record { front = front_said f; content = d })) (Err refusals.Memory))
    go (inl same) = inl (ap Ok (both (front_said f) c.front d c.content same.0 same.1))
    go (inr bad) = absurd cc

pub reads_none : (text : List ℕ) (e : CertRefusal) → ReadsWhole All text (Err e) → ReadsFrontedTexts text (Err e)
reads_none text e reads c is = go (reads c.front c.content is refl)
  where
    go : IsOkAnd {T = FrontValue × Content} {E = CertRefusal} (Err e) (λ p. (front_said p.0 ≡ c.front) × (p.1 ≡ c.content))
        ⊎ (◌≡◌ {A = Result (FrontValue × Content) CertRefusal} (Err e) (Err refusals.Memory))
        → (◌≡◌ {A = Result Fronted CertRefusal} (Err e) (Ok c)) ⊎ (◌≡◌ {A = Result Fronted CertRefusal} (Err e) (Err refusals.Memory))
    go (inl bad) = absurd bad
    go (inr same) = inr cc
