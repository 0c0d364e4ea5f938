-- What is certified after a search that went on is no worse than the base.
use Rattle.std.proofs.Common.{◌≡◌, ℕ, ◌≤◌, List, ap, sym, ◌∙◌, subst, arith, true}
use Rattle.std.specs.Prelude.{All, Result, Ok, Err, IfOk, None}
use Rattle.pesp_problem.specs.declared.row.SignedRow.{SignedRow}
use Rattle.pesp_problem.specs.Timetables.{Pesp}
use Rattle.pesp_problem.specs.Limits.{KeepsLimits}
use Rattle.pesp_problem.specs.Arcs.{Net}
use Rattle.pesp_problem.specs.Walks.{IsWalk}
use Rattle.pesp_truth.specs.Certificates.{Content, IsValid, lines_of}
use Rattle.pesp_nodes.specs.Problems.{ProblemValue, problem_net}
use Rattle.pesp_tree.specs.States.{State}
use Rattle.pesp_tree.proofs.Certified.{same_net}
use Rattle.pesp_tree.proofs.Tightening.{later_is_not_below, later_is_not_above}
use Rattle.pesp_cert.specs.Limits.{has_costs}
use Rattle.pesp_board.proofs.Adopted.{bound_is_short}
use Rattle.pesp_branching.specs.Rooms.{branches, branch_lines}
use Rattle.pesp_branching.proofs.Branches.{as_lines}
use Rattle.pesp_turns.specs.Growing.{Grows}
use Rattle.pesp_turns.specs.declared.resume_ending.ResumeEnding.{ResumeEnding}
use Rattle.pesp_turns.specs.declared.resume_ending.ResumeEnding.TheVariants.{StepsUsed, NoneOpen, Full, Stopped}
use Rattle.pesp_turns.specs.declared.resumption.Resumed.{Resumed}
use Rattle.pesp_turns.specs.ResumeEndings.{IsEndedAs}
use Rattle.pesp_turns.specs.Resuming.{IsTakenUp, IsCertified, IsResumed}

-- the cycles of a valid base are walks of the problem
walks_there : (i : Pesp) (base : Content) (p : ProblemValue) (opening : State) → IsValid None i base
    → IsTakenUp i base p opening → All (IsWalk (problem_net p).arcs) p.table
walks_there i base p opening valid b = subst (λ (table : List (List SignedRow)).
    All (IsWalk (problem_net p).arcs) table) (sym b.cycles)
    (subst (λ (n : Net). All (IsWalk n.arcs) base.cycles) (sym (same_net i p b.of)) valid.cycles)

is_resumed : (i : Pesp) (base : Content) (p : ProblemValue) (opening state : State) (steps : ℕ) (stopped : Type 0)
    (used : ℕ) (ending : ResumeEnding) (content : Content) → KeepsLimits i → has_costs base.answer ≡ true
    → IsValid None i base → IsTakenUp i base p opening → Grows p used opening state → used ≤ steps
    → IsEndedAs p steps stopped opening state used ending → IsCertified i p state content
    → IsResumed i base steps stopped used ending content
is_resumed i base p opening state steps stopped used ending content limits costs valid b g few ended c =
    let walks = walks_there i base p opening valid b in
    let before : branch_lines (lines_of base) ≡ branches opening.tree = ap branch_lines (sym b.adopts.tree) ∙ as_lines opening.tree in
    let after : branch_lines (lines_of content) ≡ branches state.tree = ap branch_lines c.is_certificate.tree ∙ as_lines state.tree in
    let grown = g.branches in
    record {
      problem = p;
      opening = opening;
      begins = b;
      state = state;
      grows = g;
      ended = ended;
      certified = c;
      few = few;
      valid = c.valid;
      bound = later_is_not_below i p g.events base opening state content limits b.of walks
          (sym b.cycles) valid b.adopts g.run c.is_certificate (bound_is_short base.answer costs);
      cost = later_is_not_above i p g.events base opening state content limits b.of walks
          (sym b.cycles) valid b.adopts g.run c.is_certificate;
      branches = omega (arith, before, after, grown);
    }

pub is_resumed_of : {E : Type 0} (i : Pesp) (base : Content) (p : ProblemValue) (opening state : State) (steps : ℕ)
    (stopped : Type 0) (r : Result Resumed E) → KeepsLimits i → has_costs base.answer ≡ true → IsValid None i base
    → IsTakenUp i base p opening
    → IfOk r (λ x. Grows p x.steps_used opening state) → IfOk r (λ x. x.steps_used ≤ steps)
    → IfOk r (λ x. IsEndedAs p steps stopped opening state x.steps_used x.ending)
    → IfOk r (λ x. IsCertified i p state x.certificate)
    → IfOk r (λ x. IsResumed i base steps stopped x.steps_used x.ending x.certificate)
is_resumed_of i base p opening state steps stopped (Ok x) limits costs valid b g few ended c =
    is_resumed i base p opening state steps stopped x.steps_used x.ending x.certificate limits costs valid b g few
    ended c
is_resumed_of i base p opening state steps stopped (Err e) limits costs valid b g few ended c = tt

-- ---- where less is said of a stop

ended_weaker : {A B : Type 0} (p : ProblemValue) (steps used : ℕ) (opening state : State) (ending : ResumeEnding)
    → (A → B) → IsEndedAs p steps A opening state used ending → IsEndedAs p steps B opening state used ending
ended_weaker p steps used opening state StepsUsed f h = h
ended_weaker p steps used opening state NoneOpen f h = h
ended_weaker p steps used opening state Full f h = h
ended_weaker p steps used opening state Stopped f h = f h

pub resumed_weaker : {A B : Type 0} (p : Pesp) (base : Content) (steps used : ℕ) (ending : ResumeEnding)
    (content : Content) → (A → B) → IsResumed p base steps A used ending content
    → IsResumed p base steps B used ending content
resumed_weaker p base steps used ending content f r = record {
  problem = r.problem;
  opening = r.opening;
  begins = r.begins;
  state = r.state;
  grows = r.grows;
  ended = ended_weaker r.problem steps used r.opening r.state ending f r.ended;
  certified = r.certified;
  few = r.few;
  valid = r.valid;
  bound = r.bound;
  cost = r.cost;
  branches = r.branches;
}
