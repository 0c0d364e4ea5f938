-- Works that are taken are a run of gives and offers, so what is known after them is no worse than the base.
use Rattle.std.proofs.Common.{◌≡◌, List, [], ◌∷◌, ◌++◌, refl, sym, subst, inl, inr, true}
use Rattle.std.specs.Prelude.{ℤ, All, map, Result, Ok, Err, IfOk, None}
use Rattle.pesp_problem.specs.declared.row.SignedRow.{SignedRow}
use Rattle.pesp_problem.specs.Timetables.{Pesp}
use Rattle.pesp_problem.specs.Limits.{KeepsLimits}
use Rattle.pesp_problem.specs.Arcs.{Net}
use Rattle.pesp_problem.specs.Walks.{IsWalk}
use Rattle.pesp_truth.specs.Certificates.{Content, IsValid}
use Rattle.pesp_nodes.specs.Problems.{ProblemValue, problem_net}
use Rattle.pesp_tree.specs.declared.job.Job.{Job}
use Rattle.pesp_tree.specs.declared.work.Work.TheVariants.{Tree}
use Rattle.pesp_tree.specs.States.{State}
use Rattle.pesp_tree.specs.Events.{Event, Give, Offer, Run}
use Rattle.pesp_tree.specs.Adopting.{lends_of}
use Rattle.pesp_tree.specs.Certificates.{IsCertificateOf}
use Rattle.pesp_tree.proofs.Adopting.{lends_each_run}
use Rattle.pesp_tree.proofs.Certified.{same_net}
use Rattle.pesp_tree.proofs.Tightening.{later_is_not_below, later_is_not_above}
use Rattle.pesp_cert.specs.Limits.{has_costs}
use Rattle.pesp_board.proofs.Adopted.{bound_is_short}
use Rattle.pesp_cert_items.specs.Works.{WorkValue}
use Rattle.pesp_worker.specs.declared.grafted.Reply.{Reply}
use Rattle.pesp_worker.specs.declared.grafted.Grafted.{Grafted}
use Rattle.pesp_worker.specs.Lent.{IsLentFrom}
use Rattle.pesp_worker.specs.Grafts.{TakesWork, TakesWorks, IsGrafted}

run_then : (p : ProblemValue) (first rest : List Event) (a b c : State) → Run p a first b → Run p b rest c → Run p a (first ++ rest) c
run_then p [] rest a b c r s = subst (λ (x : State). Run p x rest c) r s
run_then p (event ∷ first) rest a b c r s = (r.0, r.1, run_then p first rest r.0 b c r.2 s)

-- some events lead from the one state to the other
abbrev Leads : ProblemValue → State → State → Type 0
Leads p old new = (events : List Event) × Run p old events new

work_leads : (p : ProblemValue) (labels : List ℤ) (old new : State) (work : WorkValue) (reply : Reply)
    → TakesWork p labels old work reply new → Leads p old new
work_leads p labels old new work reply t = elim (t.offers) [
  | inl o ↦ (
    Give work.job (Tree t.lines) reply.given ∷ Offer (map (λ t. t.1) work.times) o.1.0 ∷ [],
    (t.given, t.gives, (new, o.1.1, refl)),
  )
  | inr o ↦ (Give work.job (Tree t.lines) reply.given ∷ [], (t.given, t.gives, o.1))
]

works_lead : (p : ProblemValue) (labels : List ℤ) (works : List WorkValue) (replies : List Reply) (old new : State)
    → TakesWorks p labels old works replies new → Leads p old new
works_lead p labels [] replies old new h = ([], h.1)
works_lead p labels (work ∷ works) [] old new h = absurd h
works_lead p labels (work ∷ works) (reply ∷ replies) old new h =
    let first = work_leads p labels old h.0 work reply h.1 in
    let rest = works_lead p labels works replies h.0 new h.2 in
    (first.0 ++ rest.0, run_then p first.0 rest.0 old h.0 new first.1 rest.1)

-- the cycles of a valid base are walks of the problem
walks_there : (i : Pesp) (base : Content) (p : ProblemValue) (jobs : List Job) (lent : State) → IsValid None i base
    → IsLentFrom i base p jobs lent → All (IsWalk (problem_net p).arcs) p.table
walks_there i base p jobs lent valid b = subst
    (λ (table : List (List SignedRow)). All (IsWalk (problem_net p).arcs) table) (sym b.cycles)
    (subst (λ (n : Net). All (IsWalk n.arcs) base.cycles) (sym (same_net i p b.of)) valid.cycles)

pub all_grafted : {E : Type 0} (i : Pesp) (base : Content) (p : ProblemValue) (jobs : List Job)
    (lent state : State) (works : List WorkValue) (r : Result Grafted E) → KeepsLimits i
    → has_costs base.answer ≡ true → IsValid None i base → IsLentFrom i base p jobs lent
    → IfOk r (λ g. TakesWorks p i.events lent works g.replies.items state)
    → IfOk r (λ g. IsCertificateOf p i.events state g.certificate) → IfOk r (λ g. IsValid None i g.certificate)
    → IfOk r (λ g. IsGrafted i base works g.replies.items g.certificate)
all_grafted i base p jobs lent state works (Ok g) limits costs valid begins takes certified after =
    let lead = works_lead p i.events works g.replies.items lent state takes in
    let run = run_then p (lends_of jobs) lead.0 begins.opening lent state (lends_each_run p begins.opening lent jobs begins.lends) lead.1 in
    let events = lends_of jobs ++ lead.0 in
    let walks = walks_there i base p jobs lent valid begins in
    record {
      problem = p;
      jobs = jobs;
      lent = lent;
      begins = begins;
      state = state;
      takes = takes;
      certified = certified;
      valid = after;
      bound = later_is_not_below i p events base begins.opening state g.certificate limits begins.of walks
          (sym begins.cycles) valid begins.adopts run certified (bound_is_short base.answer costs);
      cost = later_is_not_above i p events base begins.opening state g.certificate limits begins.of walks
          (sym begins.cycles) valid begins.adopts run certified;
    }
all_grafted i base p jobs lent state works (Err e) limits costs valid begins takes certified after = tt
