-- What the lines of a text add up to, those of its front and those behind it.
use Rattle.std.specs.Prelude.{◌≡◌, ◌⊎◌, ℕ, pos, Bool, true, false, if◌then◌else◌, Option, Some, None, List, [], ◌∷◌, ◌++◌, Result, Ok, Err}
use Rattle.pesp_truth.specs.declared.answer.Answer.TheVariants.{Infeasible}
use Rattle.pesp_truth.specs.declared.tree.TreeLine.{TreeLine}
use Rattle.pesp_truth.specs.declared.tree.TreeLine.TheVariants as lines
use Rattle.pesp_truth.specs.Certificates.{Content, Front as FrontOf}
use Rattle.pesp_problem.specs.declared.marked.MarkedRow.{MarkedRow}
use Rattle.pesp_problem.specs.declared.pair.Pair.{Pair}
use Rattle.pesp_truth.specs.Shown.{LemmaProof}
use Rattle.pesp_cert.specs.declared.refusal.CertRefusal.{CertRefusal}
use Rattle.pesp_cert.specs.declared.refusal.CertRefusal.TheVariants as refusals
use Rattle.pesp_cert_lines.specs.declared.item.Item.{Item}
use Rattle.pesp_cert_lines.specs.declared.item.Item.TheVariants.{Front, Scale, Walk, Lemma, Least, Version, Period, Answer as Says, Time, Cycle, Slack, Offset, Bound, Nothing, Gap, Propagated, End}

-- a certificate of which nothing was said yet
abbrev pub blank : Content
blank = record { version = 0; period = 0; answer = Infeasible; times = []; cycles = []; tree = [] }

-- a certificate with one line of the tree more
abbrev pub with_line : Content → TreeLine → Content
with_line c line = record c { tree = c.tree ++ line ∷ [] }

-- what was said so far, and what the next item says
abbrev pub added : Content → Item → Content
added c Front = c
added c (Scale n) = c
added c (Walk walk) = c
added c (Lemma ps) = c
added c (Least n) = c
added c (Version n) = record c { version = n }
added c (Period n) = record c { period = n }
added c (Says a) = record c { answer = a }
added c (Time label time) = record c { times = c.times ++ (label, time) ∷ [] }
added c (Cycle rows) = record c { cycles = c.cycles ++ rows ∷ [] }
added c (Slack row k) = with_line c (lines.Slack row k)
added c (Offset cycle k) = with_line c (lines.Offset cycle k)
added c (Bound ps) = with_line c (lines.Bound ps)
added c (Nothing ps) = with_line c (lines.Nothing ps)
added c (Gap cycle) = with_line c (lines.Gap cycle)
added c Propagated = with_line c lines.Propagated
added c End = c

-- ---- a lemma of a front

-- a lemma whose rows came
abbrev pub with_rows : List Pair → LemmaProof
with_rows ps = record { fact = record { weights = ps; least = pos 0 }; marks = record { scale = 0; walks = [] }; cycles = []; tree = [] }

-- a lemma with one line of its tree more
abbrev pub with_step : LemmaProof → TreeLine → LemmaProof
with_step s line = record s { tree = s.tree ++ line ∷ [] }

-- what was said of a lemma so far, and what the next item says of it
abbrev pub shown_by : LemmaProof → Item → LemmaProof
shown_by s (Least n) = record s { fact = record { weights = s.fact.weights; least = n } }
shown_by s (Scale n) = record s { marks = record { scale = n; walks = s.marks.walks } }
shown_by s (Walk walk) = record s { marks = record { scale = s.marks.scale; walks = s.marks.walks ++ walk ∷ [] } }
shown_by s (Cycle rows) = record s { cycles = s.cycles ++ rows ∷ [] }
shown_by s (Slack row k) = with_step s (lines.Slack row k)
shown_by s (Offset cycle k) = with_step s (lines.Offset cycle k)
shown_by s (Bound ps) = with_step s (lines.Bound ps)
shown_by s (Nothing ps) = with_step s (lines.Nothing ps)
shown_by s (Gap cycle) = with_step s (lines.Gap cycle)
shown_by s Propagated = with_step s lines.Propagated
shown_by s _ = s

-- ---- the front

-- whether a front began, its scale, its marked walks, the lemmas that are shown whole, and the one that the lines show
pub record FrontValue : Type 0 where
  pub begun : Bool
  pub scale : ℕ
  pub walks : List (List MarkedRow)
  pub lemmas : List LemmaProof
  pub shown : Option LemmaProof

-- a front of which nothing was said yet
abbrev pub no_front : FrontValue
no_front = record { begun = false; scale = 0; walks = []; lemmas = []; shown = None }

-- the lemma that the lines show is whole
abbrev pub lemmas_with : List LemmaProof → Option LemmaProof → List LemmaProof
lemmas_with lemmas None = lemmas
lemmas_with lemmas (Some s) = lemmas ++ s ∷ []

-- what the next item says of the front's own scale and walks
abbrev pub noted_walks : FrontValue → Item → FrontValue
noted_walks f (Scale n) = record f { scale = n }
noted_walks f (Walk walk) = record f { walks = f.walks ++ walk ∷ [] }
noted_walks f _ = f

-- or of the lemma that the lines show
abbrev pub noted_at : FrontValue → Option LemmaProof → Item → FrontValue
noted_at f None item = noted_walks f item
noted_at f (Some s) item = record f { shown = Some (shown_by s item) }

-- what was said of the front so far, and what the next item says of it
abbrev pub noted : FrontValue → Item → FrontValue
noted f Front = record f { begun = true }
noted f (Lemma ps) = record f { lemmas = lemmas_with f.lemmas f.shown; shown = Some (with_rows ps) }
noted f (Version n) = record f { lemmas = lemmas_with f.lemmas f.shown; shown = None }
noted f item = noted_at f f.shown item

-- what was said of the front so far, and what all these items say of it
abbrev pub all_noted : FrontValue → List Item → FrontValue
all_noted f [] = f
all_noted f (item ∷ items) = all_noted (noted f item) items

-- the front that was said, if one was
abbrev pub front_said : FrontValue → Option FrontOf
front_said f = if f.begun then Some (record { marks = record { scale = f.scale; walks = f.walks }; lemmas = f.lemmas }) else None

-- ---- behind the front

-- what an item says of the certificate's own parts; while a lemma is shown it says nothing of them
abbrev pub added_behind : Option LemmaProof → Content → Item → Content
added_behind None c item = added c item
added_behind (Some s) c item = c

-- what was said of the certificate's own parts so far, and what all these items say of them
abbrev pub all_added : FrontValue → Content → List Item → Content
all_added f c [] = c
all_added f c (item ∷ items) = all_added (noted f item) (added_behind (noted f item).shown c item) items

-- what was read is what the items add up to, or the refusal is theirs, unless a growth was refused
abbrev pub ReadsItems : Result (FrontValue × Content) CertRefusal → Result (List Item) CertRefusal → Type 0
ReadsItems (Ok p) r = (items : List Item) × (r ≡ Ok items) × (p.0 ≡ all_noted no_front items) × (p.1 ≡ all_added no_front blank items)
ReadsItems (Err e) r = (e ≡ refusals.Memory) ⊎ (r ≡ Err e)
