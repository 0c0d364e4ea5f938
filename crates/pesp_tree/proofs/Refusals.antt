-- A refused call changes nothing.
use Rattle.std.proofs.Common.{◌≡◌, ℕ, refl, sym, subst}
use Rattle.std.specs.Prelude.{Err}
use Rattle.pesp_nodes.specs.Problems.{ProblemValue}
use Rattle.pesp_tree.specs.declared.work.Work.{Work}
use Rattle.pesp_tree.specs.declared.refusal.LendRefusal.{LendRefusal}
use Rattle.pesp_tree.specs.declared.refusal.LendRefusal.TheVariants as lending
use Rattle.pesp_tree.specs.declared.refusal.GiveRefusal.{GiveRefusal}
use Rattle.pesp_tree.specs.declared.refusal.GiveRefusal.TheVariants.{UnknownJob, AlreadyGiven, NotValid, Memory, TooLarge}
use Rattle.pesp_tree.specs.States.{State, IsLentNumber}
use Rattle.pesp_tree.specs.Events.{Lends, Gives, IsRefusedFor}

pub unlent_same : (p : ProblemValue) (old : State) (refusal : LendRefusal) (new : State) → Lends p old (Err refusal) new → new ≡ old
unlent_same p old lending.NumbersSpent new s = s.0
unlent_same p old lending.Memory new s = s

pub untaken_same : (p : ProblemValue) (old : State) (number : ℕ) (work : Work) (refusal : GiveRefusal)
    (new : State) → Gives p old number work (Err refusal) new → new ≡ old
untaken_same p old number work refusal new s = s.0

lent_before : (p : ProblemValue) (old : State) (number : ℕ) (work : Work) (refusal : GiveRefusal)
    → (refusal ≡ UnknownJob → ⊥) → (refusal ≡ AlreadyGiven → ⊥) → IsRefusedFor p old number work refusal
    → IsLentNumber old number
lent_before p old number work UnknownJob h k r = absurd (h refl)
lent_before p old number work AlreadyGiven h k r = absurd (k refl)
lent_before p old number work NotValid h k r = (r.path, r.leaf.0)
lent_before p old number work Memory h k r = r
lent_before p old number work TooLarge h k r = (r.path, r.leaf.0)

pub still_lent : (p : ProblemValue) (old : State) (number : ℕ) (work : Work) (refusal : GiveRefusal) (new : State)
    → Gives p old number work (Err refusal) new → (refusal ≡ UnknownJob → ⊥) → (refusal ≡ AlreadyGiven → ⊥)
    → IsLentNumber new number
still_lent p old number work refusal new s h k =
    subst (λ state. IsLentNumber state number) (sym s.0) (lent_before p old number work refusal h k s.1)
