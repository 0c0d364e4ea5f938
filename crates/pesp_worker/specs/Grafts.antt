-- Works that are grafted onto a certificate, one after the other.
use Rattle.std.specs.Prelude.{◌≡◌, ◌⊎◌, ℕ, ℤ, List, [], ◌∷◌, map, Bool, Err, None}
use Rattle.std.specs.Global.{Vec}
use Rattle.pesp_problem.specs.Timetables.{Pesp}
use Rattle.pesp_truth.specs.declared.tree.TreeLine.{TreeLine}
use Rattle.pesp_truth.specs.Certificates.{Content, IsValid, least_of, cost_of}
use Rattle.pesp_nodes.specs.Problems.{ProblemValue}
use Rattle.pesp_tree.specs.declared.job.Job.{Job}
use Rattle.pesp_tree.specs.declared.work.Work.TheVariants.{Tree}
use Rattle.pesp_tree.specs.declared.refusal.GiveRefusal.TheVariants.{Memory}
use Rattle.pesp_tree.specs.States.{State, IsAtMost}
use Rattle.pesp_tree.specs.Events.{Gives, Offers}
use Rattle.pesp_tree.specs.Certificates.{IsCertificateOf}
use Rattle.pesp_cert_items.specs.Works.{WorkValue}
use Rattle.pesp_worker.specs.declared.grafted.Reply.{Reply}
use Rattle.pesp_worker.specs.Lent.{IsLentFrom}

-- times are offered where their labels are the events in order, and passed over where they aren't
abbrev pub OffersShown : ProblemValue → List ℤ → State → List (ℤ × ℕ) → State → Type 0
OffersShown p events old shown new = ((map (λ t. t.0) shown ≡ events) × ((kept : Bool) × Offers p old (map (λ t. t.1) shown) kept new))
    ⊎ ((map (λ t. t.0) shown ≡ events → ⊥) × (new ≡ old))

-- a work's tree is given for its job, with some reply but a refusal of memory; and then, whatever the reply, its times are offered
pub record TakesWork (p : ProblemValue) (events : List ℤ) (old : State) (work : WorkValue) (reply : Reply) (new : State) : Type 0 where
  pub lines : Vec TreeLine
  pub are_lines : lines.items ≡ work.tree
  pub job : reply.job ≡ work.job
  pub given : State
  pub gives : Gives p old work.job (Tree lines) reply.given given
  pub answered : reply.given ≡ Err Memory → ⊥
  pub offers : OffersShown p events given work.times new

-- works are taken, one after the other, each with its reply
abbrev pub TakesWorks : ProblemValue → List ℤ → State → List WorkValue → List Reply → State → Type 0
TakesWorks p events old [] replies new = (replies ≡ []) × (new ≡ old)
TakesWorks p events old (work ∷ works) [] new = ⊥
TakesWorks p events old (work ∷ works) (reply ∷ replies) new = (between : State)
    × TakesWork p events old work reply between × TakesWorks p events between works replies new

-- what a certificate becomes by works: that of the state which they lead to from the base, all of whose open leaves are
-- lent; it is valid, its bound isn't below the base's, no bound standing above every number, and its cost isn't above
-- the base's
pub record IsGrafted (instance : Pesp) (base : Content) (works : List WorkValue) (replies : List Reply) (content : Content) : Type 0 where
  pub problem : ProblemValue
  pub jobs : List Job
  pub lent : State
  pub begins : IsLentFrom instance base problem jobs lent
  pub state : State
  pub takes : TakesWorks problem instance.events lent works replies state
  pub certified : IsCertificateOf problem instance.events state content
  pub valid : IsValid None instance content
  pub bound : IsAtMost (least_of base.answer) (least_of content.answer)
  pub cost : IsAtMost (cost_of content.answer) (cost_of base.answer)
