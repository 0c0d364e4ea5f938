-- The jobs of a base, with their values.
use Rattle.std.proofs.Common.{◌≡◌, List, [], ◌∷◌, ◌++◌, length, refl, ap, sym, ◌∙◌, subst, arith}
use Rattle.std.specs.Prelude.{Result, Ok, Err, IfOk, All, map}
use Rattle.std.specs.Global.{Vec}
use Rattle.std.proofs.lemmas.List.{map-append}
use Rattle.std.proofs.lemmas.List.Elements.{All-append, All-cons, All-nil}
use Rattle.pesp_problem.specs.Timetables.{Pesp}
use Rattle.pesp_truth.specs.Certificates.{Content}
use Rattle.pesp_nodes.specs.Problems.{ProblemValue}
use Rattle.pesp_tree.specs.declared.job.Job.{Job}
use Rattle.pesp_tree.specs.States.{State}
use Rattle.pesp_turns.specs.declared.open_job.OpenJob.{OpenJob}
use Rattle.pesp_worker.specs.Lent.{IsLentFrom}
use Rattle.pesp_worker.specs.Jobs.{HasItsValue, AreOpenJobs}

pub nothing_left : {X : Type 0} (xs : List X) → length xs ≡ 0 → xs ≡ []
nothing_left [] e = refl
nothing_left (x ∷ xs) e = absurd (omega (arith, e))

pub one_more_job : (old new : List OpenJob) (jobs : List Job) (leaf : OpenJob) (job : Job)
    → map (λ (l : OpenJob). l.job) old ≡ jobs → leaf.job ≡ job → new ≡ old ++ leaf ∷ []
    → map (λ (l : OpenJob). l.job) new ≡ jobs ++ job ∷ []
one_more_job old new jobs leaf job are is e =
    ap (map (λ (l : OpenJob). l.job)) e ∙ map-append (λ (l : OpenJob). l.job) old (leaf ∷ [])
    ∙ ap (λ (xs : List Job). xs ++ leaf.job ∷ []) are ∙ ap (λ (x : Job). jobs ++ x ∷ []) is

pub one_more_value : (p : ProblemValue) (state : State) (old new : List OpenJob) (leaf : OpenJob)
    → All (HasItsValue p state) old → HasItsValue p state leaf → new ≡ old ++ leaf ∷ []
    → All (HasItsValue p state) new
one_more_value p state old new leaf are is e =
    subst (All (HasItsValue p state)) (sym e) (All-append (HasItsValue p state) old (leaf ∷ []) are
    (All-cons (HasItsValue p state) leaf [] is (All-nil (HasItsValue p state))))

pub all_open : {E : Type 0} (instance : Pesp) (base : Content) (p : ProblemValue) (jobs : List Job) (state : State)
    (r : Result (Vec OpenJob) E) → IsLentFrom instance base p jobs state
    → IfOk r (λ v. map (λ (l : OpenJob). l.job) v.items ≡ jobs) → IfOk r (λ v. All (HasItsValue p state) v.items)
    → IfOk r (λ v. AreOpenJobs instance base v.items)
all_open instance base p jobs state (Ok v) lent are values =
    record {
      problem = p;
      state = state;
      lent = subst (λ (js : List Job). IsLentFrom instance base p js state)
          (sym are) lent;
      values = values;
    }
all_open instance base p jobs state (Err e) lent are values = tt
