-- What stands where a plan is kept, beside what is known.
use Rattle.std.proofs.Common.{◌≡◌, ℕ, ◌≤◌, List, Bool, arith}
use Rattle.std.specs.Prelude.{Option, Some, None, IfSome, IsSomeAnd, IsTrue, ◌↔◌}
use Rattle.pesp_problem.specs.Timetables.{Pesp}
use Rattle.pesp_truth.specs.declared.answer.Answer.{Answer}
use Rattle.pesp_truth.specs.Truth.{IsTrueAnswer}
use Rattle.pesp_truth.specs.Certificates.{shown_times, least_of, cost_of}
use Rattle.pesp_tree.specs.States.{IsAtMost}
use Rattle.pesp_cert.specs.Fronted.{Fronted, IsFrontedText, fronted_text}
use Rattle.pesp_search.specs.Solving.{CostsNoMore}
use Rattle.pesp_sharp_work.specs.Ranks.{IsNoWorse}
use Rattle.pesp_sharp_search.proofs.Choices.{costs_no_more}
use Rattle.pesp_runs.specs.Bases.{IsSharpBase}
use Rattle.pesp_plan.specs.Planning.{MayBePut, IsAsGood, StandsNoWorse, WritesPlan, KeepsPlan}

at_most_itself : (a : Option ℕ) → IsAtMost a a
at_most_itself None = tt
at_most_itself (Some a) = omega arith

at_most_trans : (a b c : Option ℕ) → IsAtMost a b → IsAtMost b c → IsAtMost a c
at_most_trans a b None h k = tt
at_most_trans a None (Some c) h k = absurd k
at_most_trans None (Some b) (Some c) h k = absurd h
at_most_trans (Some a) (Some b) (Some c) h k = omega (arith, h, k)

pub no_worse_itself : (a : Answer) → IsNoWorse a a
no_worse_itself a = (at_most_itself (least_of a), at_most_itself (cost_of a))

pub no_worse_trans : (a b c : Answer) → IsNoWorse a b → IsNoWorse b c → IsNoWorse a c
no_worse_trans a b c h k = (
  at_most_trans (least_of a) (least_of b) (least_of c) h.0 k.0,
  at_most_trans (cost_of c) (cost_of b) (cost_of a) k.1 h.1,
)

pub may_be_put : {p : Pesp} {stands : Option Answer} {c : Fronted} → IsSharpBase p c
    → IsTrueAnswer p c.content.answer (shown_times c.content) → IsFrontedText (fronted_text c) c
    → IfSome stands (λ answer. IsNoWorse answer c.content.answer) → MayBePut p stands c
may_be_put valid is_true has_text no_worse =
    record { valid = valid; is_true = is_true; has_text = has_text; no_worse = no_worse }

-- what was put is as good as itself
pub as_good : (stands : Option Answer) (answer : Answer) → stands ≡ Some answer → IsAsGood stands answer
as_good stands answer is = rw is (no_worse_itself answer, no_worse_itself answer)

-- what is as good is no better
pub no_better : (stands : Option Answer) (answer : Answer) → IsAsGood stands answer
    → IfSome stands (λ a. IsNoWorse a answer)
no_better None answer h = absurd h
no_better (Some a) answer h = h.0

-- what is no better than an answer is no better than a better one
pub stands_longer : (stands : Option Answer) (old new : Answer) → IsNoWorse old new
    → IfSome stands (λ a. IsNoWorse a old) → IfSome stands (λ a. IsNoWorse a new)
stands_longer None old new h stands = tt
stands_longer (Some a) old new h stands = no_worse_trans a old new stands h

-- what is as good as a better answer is no worse than the base
pub no_worse_than : (stands : Option Answer) (base known : Answer) → IsNoWorse base known → IsAsGood stands known
    → StandsNoWorse stands base
no_worse_than None base known h kept = absurd kept
no_worse_than (Some a) base known h kept = no_worse_trans base known a h kept.1

-- what stands is as good where it is no worse, since it is no better
pub decides_as_good : (r : Bool) (stands answer : Answer) → IsNoWorse stands answer
    → IsTrue r ↔ IsNoWorse answer stands → IsTrue r ↔ IsAsGood (Some stands) answer
decides_as_good r stands answer h is = (λ yes. (h, is.0 yes), λ good. is.1 good.1)

-- ---- pieces

-- what is known goes on from what was known
pub record GoesOn (p : Pesp) (old new : Fronted) : Type 0 where
  pub valid : IsSharpBase p new
  pub no_worse : IsNoWorse old.content.answer new.content.answer

pub stays : (p : Pesp) (c : Fronted) → IsSharpBase p c → GoesOn p c c
stays p c valid = record { valid = valid; no_worse = no_worse_itself c.content.answer }

pub goes_on : (p : Pesp) (first old new : Fronted) → GoesOn p first old → IsSharpBase p new
    → IsNoWorse old.content.answer new.content.answer → GoesOn p first new
goes_on p first old new h valid better = record {
  valid = valid;
  no_worse = no_worse_trans first.content.answer old.content.answer new.content.answer h.no_worse better;
}

-- the same, and it is kept
pub record IsKept (p : Pesp) (first known : Fronted) (stands : Option Answer) : Type 0 where
  pub goes_on : GoesOn p first known
  pub kept : IsAsGood stands known.content.answer

-- ---- plans

-- what is known costs no more than what the plan began with, and the writer got what is said of its text
pub writes_plan : {Gets : List ℕ → Type 0} (p : Pesp) (times : List ℕ) (begun known : Fronted)
    → CostsNoMore p times begun.content → IsNoWorse begun.content.answer known.content.answer → IsSharpBase p known
    → IsTrueAnswer p known.content.answer (shown_times known.content) → IsFrontedText (fronted_text known) known
    → Gets (fronted_text known) → WritesPlan p times Gets
writes_plan p times begun known cheap better valid is_true has_text gets = record {
  certificate = known;
  holds = (valid, costs_no_more p times begun.content known.content better cheap);
  is_true = is_true;
  has_text = has_text;
  written = gets;
}
