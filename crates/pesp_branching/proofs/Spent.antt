-- A turn spends one number.
use Rattle.std.proofs.Common.{◌≡◌, ℕ, ◌+◌, Bool, true, false, List, [], ◌∷◌, length, ap, ◌∙◌, length-append}
use Rattle.std.proofs.lemmas.List.{length-set}
use Rattle.pesp_nodes.specs.Problems.{ProblemValue}
use Rattle.pesp_tree.specs.declared.job.Job.{Job}
use Rattle.pesp_tree.specs.declared.work.Work.{Work}
use Rattle.pesp_tree.specs.States.{State, Lent, Given, Recalled}
use Rattle.pesp_tree.specs.Events.{LendsLeaf, Takes, Offers, Recalls}

lends_one : (p : ProblemValue) (old mid : State) (job : Job) → LendsLeaf p old job mid → length mid.numbers ≡ length old.numbers + 1
lends_one p old mid job l = ap (λ (s : State). length s.numbers) l.state ∙ length-append old.numbers (Lent job.path.items ∷ [])

pub given_one : (p : ProblemValue) (old mid new : State) (job : Job) (work : Work) → LendsLeaf p old job mid
    → Takes p mid job.number work new → length new.numbers ≡ length old.numbers + 1
given_one p old mid new job work l t = ap (λ (s : State). length s.numbers) t.state
    ∙ length-set mid.numbers job.number Given ∙ lends_one p old mid job l

pub offers_none : (p : ProblemValue) (mid after : State) (times : List ℕ) (kept : Bool)
    → Offers p mid times kept after → length after.numbers ≡ length mid.numbers
offers_none p mid after times true o = ap (λ (s : State). length s.numbers) o.1
offers_none p mid after times false o = ap (λ (s : State). length s.numbers) o.1

pub recalls_none : (after new : State) (number : ℕ) (back : Bool) → Recalls after number back new
    → length new.numbers ≡ length after.numbers
recalls_none after new number true r = ap (λ (s : State). length s.numbers) r.1 ∙ length-set after.numbers number Recalled
recalls_none after new number false r = ap (λ (s : State). length s.numbers) r.1

pub recalled_one : (p : ProblemValue) (old mid after new : State) (job : Job) (times : List ℕ) (kept back : Bool)
    → LendsLeaf p old job mid → Offers p mid times kept after → Recalls after job.number back new
    → length new.numbers ≡ length old.numbers + 1
recalled_one p old mid after new job times kept back l o r = recalls_none after new job.number back r
    ∙ offers_none p mid after times kept o ∙ lends_one p old mid job l

-- offers and recalls change no tree
pub offered_tree : (p : ProblemValue) (mid after : State) (times : List ℕ) (kept : Bool)
    → Offers p mid times kept after → after.tree ≡ mid.tree
offered_tree p mid after times true o = ap (λ (s : State). s.tree) o.1
offered_tree p mid after times false o = ap (λ (s : State). s.tree) o.1

pub recalled_tree : (after new : State) (number : ℕ) (back : Bool) → Recalls after number back new → new.tree ≡ after.tree
recalled_tree after new number true r = ap (λ (s : State). s.tree) r.1
recalled_tree after new number false r = ap (λ (s : State). s.tree) r.1
