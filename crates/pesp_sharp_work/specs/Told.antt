-- The answer that a tree shows beside times.
use Rattle.std.specs.Prelude.{◌≡◌, ℕ, min, nat_lt, if◌then◌else◌, List, [], ◌∷◌, Option, Some, None}
use Rattle.pesp_problem.specs.Timetables.{Pesp}
use Rattle.pesp_truth.specs.declared.answer.Answer.{Answer}
use Rattle.pesp_truth.specs.declared.answer.Answer.TheVariants.{Optimal, Infeasible, Bounded}
use Rattle.pesp_truth.specs.Certificates.{least_of, cost_of, IsValid}
use Rattle.pesp_cert.specs.Fronted.{Fronted}
use Rattle.pesp_whole_check.specs.Costs.{shown_of}
use Rattle.pesp_tree.specs.States.{IsAtMost}

-- the lesser of two numbers; none stands above every number
abbrev pub lesser_bound : Option ℕ → Option ℕ → Option ℕ
lesser_bound None b = b
lesser_bound (Some a) None = Some a
lesser_bound (Some a) (Some b) = Some (min a b)

-- the least of a cost and of what lines show
abbrev pub least_shown : Option ℕ → List (Option ℕ) → Option ℕ
least_shown cost [] = cost
least_shown cost (value ∷ shown) = lesser_bound value (least_shown cost shown)

-- the bound that a certificate tells is the least that its tree shows, and its cost
abbrev pub TellsLeast : Pesp → Fronted → Type 0
TellsLeast p c = least_of c.content.answer ≡ least_shown (cost_of c.content.answer) (shown_of p c)

-- the answer of a bound beside times of a cost
abbrev pub answer_of : Option ℕ → Option ℕ → Answer
answer_of None cost = Infeasible
answer_of (Some least) None = Bounded least None
answer_of (Some least) (Some cost) = if nat_lt least cost then Bounded least (Some cost) else Optimal cost

-- the same certificate with another answer, which is valid and tells the least that its tree shows; the cost is the same, and
-- the bound isn't less
pub record IsRetold (p : Pesp) (old new : Fronted) : Type 0 where
  pub valid : IsValid new.front p new.content
  pub told : TellsLeast p new
  pub same : new ≡ record { front = old.front; content = record old.content { answer = new.content.answer } }
  pub least : IsAtMost (least_of old.content.answer) (least_of new.content.answer)
  pub cost : cost_of new.content.answer ≡ cost_of old.content.answer
