-- The line of a verdict, and its exit status.
use Rattle.std.specs.Prelude.{ℕ, List, ◌++◌, codes, decimal, Some, None}
use Rattle.pesp_truth.specs.declared.answer.Answer.{Answer}
use Rattle.pesp_truth.specs.declared.answer.Answer.TheVariants.{Optimal, Infeasible, Bounded}
use Rattle.pesp_judges.specs.declared.refusal.Refusal.{Refusal}
use Rattle.pesp_judges.specs.declared.refusal.Refusal.TheVariants.{OtherPeriod, Times, Violates, WrongCost, OpenWalk, NoSuch, LeafBelow, NotEmpty, NotAGap, BoundInInfeasible, AnswerShape, NotPropagated}
use Rattle.pesp_judges.specs.declared.refusal.Verdict.{Verdict}
use Rattle.pesp_judges.specs.declared.refusal.Verdict.TheVariants.{Accepted, Refused}

-- the words of an answer's line after `answer`
abbrev pub answer_text : Answer → List ℕ
answer_text (Optimal c) = codes "optimal " ++ decimal c
answer_text Infeasible = codes "infeasible"
answer_text (Bounded least None) = codes "open " ++ decimal least ++ codes " none"
answer_text (Bounded least (Some c)) = codes "open " ++ decimal least ++ codes " " ++ decimal c

-- number, name and place of a refusal
abbrev pub refusal_text : Refusal → List ℕ
refusal_text OtherPeriod = codes "1 OtherPeriod"
refusal_text Times = codes "2 Times"
refusal_text (Violates row) = codes "3 Violates row " ++ decimal row
refusal_text WrongCost = codes "4 WrongCost"
refusal_text (OpenWalk cycle) = codes "5 OpenWalk cycle " ++ decimal cycle
refusal_text (NoSuch line) = codes "6 NoSuch line " ++ decimal line
refusal_text (LeafBelow line) = codes "7 LeafBelow line " ++ decimal line
refusal_text (NotEmpty line) = codes "8 NotEmpty line " ++ decimal line
refusal_text (NotAGap line) = codes "9 NotAGap line " ++ decimal line
refusal_text (BoundInInfeasible line) = codes "10 BoundInInfeasible line " ++ decimal line
refusal_text AnswerShape = codes "11 AnswerShape"
refusal_text (NotPropagated line) = codes "12 NotPropagated line " ++ decimal line

-- `accepted` with the answer, or `refused` with what is wrong
abbrev pub verdict_text : Answer → Verdict → List ℕ
verdict_text answer Accepted = codes "accepted " ++ answer_text answer
verdict_text answer (Refused refusal) = codes "refused " ++ refusal_text refusal

-- with its line feed
abbrev pub verdict_line : Answer → Verdict → List ℕ
verdict_line answer verdict = verdict_text answer verdict ++ codes "\n"

-- 0 for a yes, 1 for a no
abbrev pub verdict_status : Verdict → ℕ
verdict_status Accepted = 0
verdict_status (Refused refusal) = 1
