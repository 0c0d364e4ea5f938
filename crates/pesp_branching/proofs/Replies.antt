-- Valid work for a leaf that was just lent is refused for want of memory or room alone.
use Rattle.std.proofs.Common.{◌≡◌, ℕ, ◌⊎◌, inl, inr, List, [], ◌∷◌, ◌++◌, refl, ap, sym, ◌∙◌, subst}
use Rattle.pesp_problem.specs.declared.cut.Cut.{Cut}
use Rattle.pesp_problem.specs.declared.cut.Side.{Side}
use Rattle.pesp_truth.specs.Trees.{Tree, Bound}
use Rattle.pesp_truth.specs.Leaves.{IsLeafAt}
use Rattle.pesp_problem.specs.declared.pair.Pair.{Pair}
use Rattle.pesp_nodes.specs.Problems.{ProblemValue}
use Rattle.pesp_tree.specs.declared.job.Job.{Job}
use Rattle.pesp_tree.specs.declared.work.Work.{Work}
use Rattle.pesp_tree.specs.declared.refusal.GiveRefusal.{GiveRefusal}
use Rattle.pesp_tree.specs.declared.refusal.GiveRefusal.TheVariants.{UnknownJob, AlreadyGiven, NotValid, Memory, TooLarge}
use Rattle.pesp_tree.specs.States.{State, Lent, Given, Recalled, HasLeaf, ticket, node_at}
use Rattle.pesp_tree.specs.Events.{LendsLeaf, Makes, IsValidAt, IsRefusedFor}
use Rattle.pesp_tree.proofs.Making.{valid_works_make}
use Rattle.pesp_tree.proofs.OneSize.{same_path, same_pairs}
use Rattle.pesp_branching.proofs.Numbers.{lent_last}

not_recalled : (path : List (Cut × Side)) → Lent path ≡ Recalled → ⊥
not_recalled path e = cc

not_given : (path : List (Cut × Side)) → Lent path ≡ Given → ⊥
not_given path e = cc

pub lent_here : (p : ProblemValue) (old mid : State) (job : Job) → LendsLeaf p old job mid → ticket mid job.number ≡ Lent job.path.items
lent_here p old mid job l =
    let numbers : mid.numbers ≡ old.numbers ++ Lent job.path.items ∷ [] = ap (λ (s : State). s.numbers) l.state in
    rw (numbers, l.number) (lent_last old.numbers job.path.items)

pub refused_for_room : (p : ProblemValue) (state : State) (number : ℕ) (path : List (Cut × Side))
    (pairs : List Pair) (work : Work) (refusal : GiveRefusal) → HasLeaf state number path pairs
    → IsValidAt p (node_at p path) pairs work → IsRefusedFor p state number work refusal
    → (refusal ≡ Memory) ⊎ (refusal ≡ TooLarge)
refused_for_room p state number path pairs work UnknownJob l v r = absurd (not_recalled path (sym l.0 ∙ r))
refused_for_room p state number path pairs work AlreadyGiven l v r = absurd (not_given path (sym l.0 ∙ r))
refused_for_room p state number path pairs work NotValid l v r =
    let at = same_path state number path r.path pairs r.pairs l r.leaf in
    let of = same_pairs state number path r.path pairs r.pairs l r.leaf in
    let made = (valid_works_make p (node_at p path) pairs work).1 v in
    absurd (r.none made.0 (subst (λ (q : List (Cut × Side)). Makes p (node_at p q) r.pairs work made.0) at
    (subst (λ (x : List Pair). Makes p (node_at p path) x work made.0) of made.1)))
refused_for_room p state number path pairs work Memory l v r = inl refl
refused_for_room p state number path pairs work TooLarge l v r = inr refl

-- the leaf that was lent last
pub lent_leaf : (p : ProblemValue) (old mid : State) (job : Job) (l : LendsLeaf p old job mid)
    → HasLeaf mid job.number job.path.items l.opens.pairs
lent_leaf p old mid job l = (
  lent_here p old mid job l,
  subst (λ (t : Tree). IsLeafAt t job.path.items (Bound l.opens.pairs))
      (sym (ap (λ (s : State). s.tree) l.state)) l.opens.leaf,
)
