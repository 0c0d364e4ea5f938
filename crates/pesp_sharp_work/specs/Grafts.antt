-- Works that are grafted onto a certificate, one after the other.
use Rattle.std.specs.Prelude.{◌≡◌, ℕ, List, [], ◌∷◌, Err}
use Rattle.pesp_problem.specs.Timetables.{Pesp}
use Rattle.pesp_judges.specs.declared.refusal.Verdict.TheVariants.{Refused}
use Rattle.pesp_cert_lines.specs.declared.versions.Versions.TheVariants.{All}
use Rattle.pesp_cert.specs.Fronted.{Fronted, IsFrontedText}
use Rattle.pesp_cert.specs.Refusals.{items_of_text}
use Rattle.pesp_judges.specs.Faults.{IsVerdict}
use Rattle.pesp_truth.specs.Certificates.{IsValid}
use Rattle.pesp_sharp_work.specs.Ranks.{IsNoWorse}
use Rattle.pesp_sharp_work.specs.Cutting.{IsTextCut}
use Rattle.pesp_sharp_work.specs.declared.sharp_graft.SharpReply.{SharpReply}
use Rattle.pesp_sharp_work.specs.declared.sharp_graft.SharpReply.TheVariants.{Taken, AddsNothing, Unread, NotValid, TooLarge}

-- ---- one work

-- the text is that of a certificate, of which this is said
abbrev pub SaysWork : List ℕ → (Fronted → Type 0) → Type 0
SaysWork text Holds = (work : Fronted) × IsFrontedText text work × Holds work

-- what is said of a text of a work, of what stood and of what stands then, where this is the reply
abbrev pub TakesSharpWork : Pesp → Fronted → List ℕ → SharpReply → Fronted → Type 0
TakesSharpWork p old text Taken new =
    IsValid new.front p new.content × IsNoWorse old.content.answer new.content.answer
    × SaysWork text (λ work. IsValid work.front p work.content × IsNoWorse work.content.answer new.content.answer)
TakesSharpWork p old text AddsNothing new =
    (new ≡ old)
    × SaysWork text (λ work. IsValid work.front p work.content × IsNoWorse work.content.answer old.content.answer)
TakesSharpWork p old text (Unread refusal) new = (new ≡ old) × (items_of_text All text ≡ Err refusal)
TakesSharpWork p old text (NotValid refusal) new = (new ≡ old) × SaysWork text (λ work. IsVerdict work.front p work.content (Refused refusal))
TakesSharpWork p old text TooLarge new =
    (new ≡ old)
    × SaysWork text (λ work. IsValid work.front p work.content
    × (IsNoWorse work.content.answer old.content.answer → ⊥)
    × (IsNoWorse old.content.answer work.content.answer → ⊥))

-- ---- works

-- the works of a text are taken, one after the other, each with its reply
abbrev pub TakesSharpWorks : Pesp → Fronted → List ℕ → List SharpReply → Fronted → Type 0
TakesSharpWorks p old text [] new = (text ≡ []) × (new ≡ old)
TakesSharpWorks p old text (reply ∷ replies) new =
    (work rest : List ℕ) × (between : Fronted) × IsTextCut text work rest
    × TakesSharpWork p old work reply between × TakesSharpWorks p between rest replies new

-- what a certificate becomes by works: it is valid with its marked walks, its bound isn't below the base's, and its cost isn't above it
pub record IsSharpGrafted (p : Pesp) (base : Fronted) (text : List ℕ) (replies : List SharpReply) (c : Fronted) : Type 0 where
  pub takes : TakesSharpWorks p base text replies c
  pub valid : IsValid c.front p c.content
  pub no_worse : IsNoWorse base.content.answer c.content.answer
