-- What a plan keeps and writes.
use Rattle.std.specs.Prelude.{ℕ, List, [], Option, IfSome, IsSomeAnd}
use Rattle.pesp_problem.specs.Timetables.{Pesp}
use Rattle.pesp_truth.specs.declared.answer.Answer.{Answer}
use Rattle.pesp_truth.specs.Truth.{IsTrueAnswer}
use Rattle.pesp_truth.specs.Certificates.{shown_times}
use Rattle.pesp_cert.specs.Fronted.{Fronted, IsFrontedText, fronted_text}
use Rattle.pesp_search.specs.Solving.{CostsNoMore}
use Rattle.pesp_sharp_work.specs.Ranks.{IsNoWorse}
use Rattle.pesp_runs.specs.Bases.{IsSharpBase}
use Rattle.pesp_runs.specs.Fronts.{WritesFronted}

-- what may be put where this stands: a certificate that is valid for the instance with its marked walks, whose answer is true;
-- it has a text, and it is no worse than what stands
pub record MayBePut (p : Pesp) (stands : Option Answer) (c : Fronted) : Type 0 where
  pub valid : IsSharpBase p c
  pub is_true : IsTrueAnswer p c.content.answer (shown_times c.content)
  pub has_text : IsFrontedText (fronted_text c) c
  pub no_worse : IfSome stands (λ answer. IsNoWorse answer c.content.answer)

-- something stands, and neither it nor the answer is worse
abbrev pub IsAsGood : Option Answer → Answer → Type 0
IsAsGood stands answer = IsSomeAnd stands (λ a. IsNoWorse a answer × IsNoWorse answer a)

-- something stands that is no worse than the answer
abbrev pub StandsNoWorse : Option Answer → Answer → Type 0
StandsNoWorse stands answer = IsSomeAnd stands (λ a. IsNoWorse answer a)

-- the writer got what the relation says of the text of a certificate that is valid for the instance with its marked walks; its
-- answer is true, and it costs no more than the times where they are a timetable
abbrev pub WritesPlan : Pesp → List ℕ → (List ℕ → Type 0) → Type 0
WritesPlan p times Gets = WritesFronted p (λ c. IsSharpBase p c × CostsNoMore p times c.content) Gets

-- what stands is as good as a certificate that is valid for the instance with its marked walks, and costs no more than the times
-- where they are a timetable
pub record KeepsPlan (p : Pesp) (times : List ℕ) (stands : Option Answer) : Type 0 where
  pub certificate : Fronted
  pub valid : IsSharpBase p certificate
  pub improved : CostsNoMore p times certificate.content
  pub kept : IsAsGood stands certificate.content.answer

-- a plan from such times is kept, as this stands, and nothing is written
abbrev pub KeepsAndWrites : Pesp → List ℕ → Option Answer → (List ℕ → Type 0) → Type 0
KeepsAndWrites p times stands Gets = KeepsPlan p times stands × Gets []

-- what this stands for is no worse than the base, and nothing is written
abbrev pub KeepsOn : Fronted → Option Answer → (List ℕ → Type 0) → Type 0
KeepsOn base stands Gets = StandsNoWorse stands base.content.answer × Gets []

-- the same of whatever stands
abbrev pub KeepsSome : Pesp → List ℕ → (List ℕ → Type 0) → Type 0
KeepsSome p times Gets = (stands : Option Answer) × KeepsAndWrites p times stands Gets

-- something stands that is no worse than the base, and nothing is written
abbrev pub KeepsSomeOn : Fronted → (List ℕ → Type 0) → Type 0
KeepsSomeOn base Gets = (stands : Option Answer) × KeepsOn base stands Gets
