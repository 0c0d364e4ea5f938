-- How a turn grows the tree.
use Rattle.std.proofs.Common.{◌≡◌, ℕ, ◌+◌, inl, inr, Bool, true, false, List, [], ◌∷◌, ◌++◌, refl, ap, arith, sym, ◌∙◌, subst}
use Rattle.std.specs.Prelude.{Some, Ok}
use Rattle.pesp_problem.specs.Nodes.{Node}
use Rattle.pesp_truth.specs.Trees.{Tree, Bound}
use Rattle.pesp_nodes.specs.Problems.{ProblemValue}
use Rattle.pesp_tree.specs.declared.job.Job.{Job}
use Rattle.pesp_tree.specs.declared.work.Work.{Work}
use Rattle.pesp_tree.specs.declared.work.Work.TheVariants as works
use Rattle.pesp_tree.specs.States.{State, node_at}
use Rattle.pesp_tree.specs.Events.{Event, Lend, Give, Recall, Offer, Step, Run, LendsLeaf, Takes, Offers, Recalls}
use Rattle.pesp_reduce.specs.Reductions.{ReducedValue}
use Rattle.pesp_branching.specs.Offering.{MayOffer}
use Rattle.pesp_branching.specs.Rooms.{branches, branch_lines}
use Rattle.pesp_branching.proofs.Branches.{as_lines, put_branches}
use Rattle.pesp_branching.proofs.Spent.{offered_tree, recalled_tree}
use Rattle.pesp_turns.specs.declared.ending.Ending.{Ending}
use Rattle.pesp_turns.specs.declared.ending.Ending.TheVariants.{StepsUsed, NoneOpen, NumbersSpent, TreeTooLarge, TurnsUsed}
use Rattle.pesp_turns.specs.declared.turn.Turn.{Turn}
use Rattle.pesp_turns.specs.declared.turn.Turn.TheVariants.{Split, Closed, GivenUp, Over}
use Rattle.pesp_turns.specs.Turning.{IsSplit, IsSettling, IsSettledTurn, OffersAndRecalls, IsOver, IsTurn, splits_in}
use Rattle.pesp_turns.specs.Growing.{Grows}

-- ---- runs

runs_join : (p : ProblemValue) (first : List Event) (old mid new : State) (second : List Event)
    → Run p old first mid → Run p mid second new → Run p old (first ++ second) new
runs_join p [] old mid new second r s = subst (λ (x : State). Run p x second new) r s
runs_join p (event ∷ events) old mid new second r s = (r.0, r.1, runs_join p events r.0 mid new second r.2 s)

pub none_grows : (p : ProblemValue) (old new : State) → new ≡ old → Grows p 0 old new
none_grows p old new e = record { events = []; run = e; branches = ap (λ (s : State). branches s.tree) e ∙ omega arith }

pub then_grows : (p : ProblemValue) (m n : ℕ) (old mid new : State) → Grows p m old mid → Grows p n mid new → Grows p (m + n) old new
then_grows p m n old mid new g h = record {
  events = g.events ++ h.events;
  run = runs_join p g.events old mid new h.events g.run h.run;
  branches = (let first = g.branches in let second = h.branches in omega (arith, first, second));
}

one_event : (p : ProblemValue) (n : ℕ) (old new : State) (event : Event) → Step p old event new
    → branches new.tree ≡ branches old.tree + n → Grows p n old new
one_event p n old new event s e = record { events = event ∷ []; run = (new, s, refl); branches = e }

-- ---- events

lent_grows : (p : ProblemValue) (old new : State) (job : Job) → LendsLeaf p old job new → Grows p 0 old new
lent_grows p old new job l = one_event p 0 old new (Lend (Ok (Some job))) l (ap (λ (s : State). branches s.tree) l.state ∙ omega arith)

taken_grows : (p : ProblemValue) (n : ℕ) (old new : State) (number : ℕ) (work : Work)
    (t : Takes p old number work new) → branches t.part ≡ n → Grows p n old new
taken_grows p n old new number work t made =
    let put = put_branches old.tree t.path (Bound t.pairs) t.part t.leaf.1 in
    let tree = ap (λ (s : State). branches s.tree) t.state in
    one_event p n old new (Give number work (Ok tt)) t (omega (arith, put, made, tree))

same_branches : (a b : Tree) → a ≡ b → branches a ≡ branches b + 0
same_branches a b e = ap branches e ∙ omega arith

offer_grows : (p : ProblemValue) (old new : State) (times : List ℕ) (kept : Bool) → Offers p old times kept new → Grows p 0 old new
offer_grows p old new times kept o = one_event p 0 old new (Offer times kept) o
    (same_branches new.tree old.tree (offered_tree p old new times kept o))

recall_grows : (p : ProblemValue) (old new : State) (number : ℕ) (back : Bool) → Recalls old number back new → Grows p 0 old new
recall_grows p old new number back r = one_event p 0 old new (Recall number back) r
    (same_branches new.tree old.tree (recalled_tree old new number back r))

may_offer_grows : (p : ProblemValue) (old new : State) → MayOffer p old new → Grows p 0 old new
may_offer_grows p old new (inl same) = none_grows p old new same
may_offer_grows p old new (inr (times, kept, offers)) = offer_grows p old new times kept offers

settling_grows : (p : ProblemValue) (r : ReducedValue) (node : Node) (old new : State) (number : ℕ)
    → OffersAndRecalls p r node old number new → Grows p 0 old new
settling_grows p r node old new number s = then_grows p 0 0 old s.offered new
    (offer_grows p old s.offered s.offers.times s.offers.kept s.offers.offers)
    (recall_grows p s.offered new number s.back s.recalls)

-- ---- turns

split_grows : (p : ProblemValue) (old new : State) → IsSplit p old new → Grows p 1 old new
split_grows p old new s =
    let g = s.gives in
    let made : branches g.given.part ≡ 1 = sym (as_lines g.given.part) ∙ ap branch_lines g.given.makes.0 ∙ ap branch_lines g.step in
    let taken = taken_grows p 1 s.lent s.split s.job.number (works.Tree g.lines) g.given made in
    then_grows p 0 1 old s.lent new (lent_grows p old s.lent s.job s.lends)
    (then_grows p 1 0 s.lent s.split new taken (may_offer_grows p s.split new s.offers))

over_grows : (p : ProblemValue) (ending : Ending) (old new : State) → IsOver p old ending new → Grows p 0 old new
over_grows p StepsUsed old new o = absurd o
over_grows p NoneOpen old new o = none_grows p old new o.0
over_grows p NumbersSpent old new o = none_grows p old new o.0
over_grows p TreeTooLarge old new o = lent_grows p old new o.job o.lends
over_grows p TurnsUsed old new o = absurd o

settled_grows : (p : ProblemValue) (r : ReducedValue) (found : Bool) (old new : State) → IsSettledTurn p r old found new → Grows p 0 old new
settled_grows p r true old new s = then_grows p 0 0 old s.lent new (lent_grows p old s.lent s.job s.lends)
    (settling_grows p r (node_at p s.job.path.items) s.lent new s.job.number s.settles)
settled_grows p r false old new s =
    then_grows p 0 0 old s.lent new (lent_grows p old s.lent s.job s.lends) (by_times s.settles)
  where
    by_times : IsSettling p r (node_at p s.job.path.items) s.lent s.job.number false new → Grows p 0 s.lent new
    by_times (inl none) = none_grows p s.lent new none.0
    by_times (inr vain) = offer_grows p s.lent new vain.offers.times vain.offers.kept vain.offers.offers

pub turn_grows : (p : ProblemValue) (r : ReducedValue) (turn : Turn) (old new : State) → IsTurn p r old turn new
    → Grows p (splits_in turn) old new
turn_grows p r Split old new t = split_grows p old new t
turn_grows p r Closed old new (inl c) = then_grows p 0 0 old c.lent new (lent_grows p old c.lent c.job c.lends)
    (taken_grows p 0 c.lent new c.job.number (works.Gap c.cycle) c.takes (ap branches c.takes.makes.1))
turn_grows p r Closed old new (inr s) = settled_grows p r true old new s
turn_grows p r GivenUp old new s = settled_grows p r false old new s
turn_grows p r (Over ending) old new t = over_grows p ending old new t
