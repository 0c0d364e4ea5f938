-- A valid certificate's answer is true.
use Rattle.std.proofs.Common.{ℕ, ◌<◌, List, []}
use Rattle.std.specs.Prelude.{ℤ, Option, Some, None, IfSome}
use Rattle.std.proofs.lemmas.List.Elements.{All-nil}
use Rattle.pesp_problem.specs.Timetables.{Pesp, IsTimetable}
use Rattle.pesp_problem.specs.Arcs.{net_of, slacks_at}
use Rattle.pesp_truth.specs.declared.answer.Answer.{Answer}
use Rattle.pesp_truth.specs.declared.answer.Answer.TheVariants.{Optimal, Infeasible, Bounded}
use Rattle.pesp_truth.specs.Lemmas.{IsTrueOf}
use Rattle.pesp_truth.specs.Trees.{Stands, goal_of, IsReachedBy}
use Rattle.pesp_truth.specs.Truth.{IsTrueAnswer}
use Rattle.pesp_truth.specs.Certificates.{Content, Front, IsShownFront, claim_of, IsValid, ShowsAnswer, least_of, shown_times, shown_labels}
use Rattle.pesp_truth.proofs.Trees.{CostsAtLeast, root_is_right, cost_of_goal}
use Rattle.pesp_truth.proofs.Shown.{shown_are_true}

answer_is_true : (p : Pesp) (answer : Answer) (labels : List ℤ) (times : List ℕ)
    → ShowsAnswer p answer labels times → ((t : List ℕ) → IsTimetable p t → CostsAtLeast p t (least_of answer))
    → IsTrueAnswer p answer times
answer_is_true p (Optimal c) labels times s h = (s.1, h)
answer_is_true p Infeasible labels times s h = h
answer_is_true p (Bounded least (Some c)) labels times s h = (s.1.1, s.0, h)
answer_is_true p (Bounded least None) labels times s h = h

-- what a claim of a certificate's tree stands on
stands : (front : Option Front) (p : Pesp) (times : List ℕ) (least : Option ℕ) → 0 < p.period
    → IfSome front (IsShownFront (net_of p)) → IsTimetable p times
    → Stands (net_of p) (slacks_at (net_of p) times) (claim_of front (net_of p) least)
stands None p times least h shown t = tt
stands (Some f) p times least h shown t =
    let are = shown_are_true p [] f.lemmas h (All-nil (IsTrueOf p)) shown.lemmas in
    (shown.marks, λ i d l. are i d l times t)

-- and what it shows
costs : (front : Option Front) (p : Pesp) (times : List ℕ) (least : Option ℕ)
    → IsReachedBy (net_of p) (slacks_at (net_of p) times) (goal_of (net_of p) (claim_of front (net_of p) least))
    → CostsAtLeast p times least
costs None p times least s = cost_of_goal p times least s
costs (Some f) p times least s = cost_of_goal p times least s

pub valid_is_true : (front : Option Front) (p : Pesp) (content : Content) → 0 < p.period → IsValid front p content
    → IsTrueAnswer p content.answer (shown_times content)
valid_is_true front p content h v =
    let least = least_of content.answer in
    answer_is_true p content.answer (shown_labels content) (shown_times content) v.answer
    (λ times t. costs front p times least (root_is_right (claim_of front (net_of p) least) p content.cycles times v.tree.0 h v.cycles
    (stands front p times least h v.shown t) v.tree.2 t))
