-- A leaf that is looked at anew: no event adds a branch.
use Rattle.std.proofs.Common.{◌≡◌, ℕ, ◌+◌, ◌<◌, ◌≤◌, List, [], ◌∷◌, length, inl, inr, refl, ap, sym, ◌∙◌, subst, arith}
use Rattle.std.specs.Prelude.{Option, Some, None, Result, Ok, Err, IfOk, OnOk}
use Rattle.pesp_problem.specs.declared.cut.Cut.{Cut}
use Rattle.pesp_problem.specs.declared.cut.Side.{Side}
use Rattle.pesp_problem.specs.declared.pair.Pair.{Pair}
use Rattle.pesp_problem.specs.Nodes.{Node}
use Rattle.pesp_network.specs.Networks.{KeepsNetLimits}
use Rattle.pesp_truth.specs.Trees.{Tree, Bound}
use Rattle.pesp_nodes.specs.Problems.{ProblemValue, IsSmallTable, ArePairs}
use Rattle.pesp_tree.specs.declared.job.Job.{Job}
use Rattle.pesp_tree.specs.declared.work.Work.{Work}
use Rattle.pesp_tree.specs.declared.work.Work.TheVariants as works
use Rattle.pesp_tree.specs.declared.refusal.LendRefusal.{LendRefusal}
use Rattle.pesp_tree.specs.declared.refusal.LendRefusal.TheVariants as lending
use Rattle.pesp_tree.specs.declared.refusal.GiveRefusal.{GiveRefusal}
use Rattle.pesp_tree.specs.States.{State, IsJobLeaf}
use Rattle.pesp_tree.specs.Reached.{IsOrderly}
use Rattle.pesp_tree.specs.Events.{Event, Lend, Give, Offer, Step, Lends, LendsLeaf, Gives, Makes}
use Rattle.pesp_tree.proofs.OneSize.{same_pairs}
use Rattle.pesp_board.specs.Giving.{AreCuts}
use Rattle.pesp_branching.specs.Offering.{OffersSome, MayOffer, OffersFirst}
use Rattle.pesp_branching.specs.Rooms.{branches, branch_lines}
use Rattle.pesp_branching.specs.Turns.{splits_of}
use Rattle.pesp_branching.proofs.Branches.{as_lines, put_branches}
use Rattle.pesp_branching.proofs.Replies.{lent_leaf}
use Rattle.pesp_branching.proofs.Sizes.{path_cuts, leaf_pairs}
use Rattle.pesp_branching.proofs.Spent.{offered_tree}
use Rattle.pesp_turns.specs.declared.known.Known.{Known}
use Rattle.pesp_turns.specs.Knowing.{IsKnown}
use Rattle.pesp_turns.specs.Growing.{Grows}
use Rattle.pesp_turns.proofs.Growth.{none_grows, then_grows}
use Rattle.pesp_turns.specs.Looking.{IsLentTo}

-- ---- events

one_event : (p : ProblemValue) (old new : State) (event : Event) → Step p old event new
    → branches new.tree ≡ branches old.tree → Grows p 0 old new
one_event p old new event s e = record { events = event ∷ []; run = (new, s, refl); branches = e ∙ omega arith }

same_tree : (old new : State) → new ≡ old → branches new.tree ≡ branches old.tree
same_tree old new e = ap (λ (s : State). branches s.tree) e

pub lend_grows : (p : ProblemValue) (old new : State) (reply : Result (Option Job) LendRefusal) → Lends p old reply new → Grows p 0 old new
lend_grows p old new (Ok None) l = one_event p old new (Lend (Ok None)) l (same_tree old new l.0)
lend_grows p old new (Ok (Some job)) l = one_event p old new (Lend (Ok (Some job))) l (ap (λ (s : State). branches s.tree) l.state)
lend_grows p old new (Err lending.NumbersSpent) l = one_event p old new (Lend (Err lending.NumbersSpent)) l (same_tree old new l.0)
lend_grows p old new (Err lending.Memory) l = one_event p old new (Lend (Err lending.Memory)) l (same_tree old new l)

-- a work that splits no leaf makes one leaf
made_none : (p : ProblemValue) (node : Node) (pairs : List Pair) (work : Work) (part : Tree) → splits_of work ≡ 0
    → Makes p node pairs work part → branches part ≡ 0
made_none p node pairs (works.Leaf new) part none m = ap branches m.2
made_none p node pairs (works.Nothing new) part none m = ap branches m.1
made_none p node pairs (works.Gap cycle) part none m = ap branches m.1
made_none p node pairs works.Propagated part none m = ap branches m.1
made_none p node pairs (works.Split cut) part none m = cc
made_none p node pairs (works.Tree lines) part none m = sym (as_lines part) ∙ ap branch_lines m.0 ∙ none

pub give_grows : (p : ProblemValue) (old new : State) (number : ℕ) (work : Work)
    (reply : Result (Unit {0}) GiveRefusal) → splits_of work ≡ 0 → Gives p old number work reply new
    → Grows p 0 old new
give_grows p old new number work (Ok done) none t =
    let put_count = put_branches old.tree t.path (Bound t.pairs) t.part t.leaf.1 in
    let made = made_none p _ t.pairs work t.part none t.makes in
    let now = ap (λ (s : State). branches s.tree) t.state in
    one_event p old new (Give number work (Ok done)) t (omega (arith, put_count, made, now))
give_grows p old new number work (Err refusal) none g = none_grows p old new g.0

offer_grows : (p : ProblemValue) (old new : State) → OffersSome p old new → Grows p 0 old new
offer_grows p old new o = one_event p old new (Offer o.0 o.1) o.2 (ap branches (offered_tree p old new o.0 o.1 o.2))

may_offer_grows : (p : ProblemValue) (old new : State) → MayOffer p old new → Grows p 0 old new
may_offer_grows p old new o = elim o [
  | inl same ↦ none_grows p old new same
  | inr some ↦ offer_grows p old new some
]

pub offers_grow : (p : ProblemValue) (old new : State) → OffersFirst p old new → Grows p 0 old new
offers_grow p old new o = then_grows p 0 0 old o.0 new (offer_grows p old o.0 o.1) (may_offer_grows p o.0 new o.2)

pub offers_grow_on : {A E : Type 0} (p : ProblemValue) (old new : State) (r : Result A E)
    → OnOk r (OffersFirst p old new) → OnOk r (Grows p 0 old new)
offers_grow_on p old new (Ok a) o = offers_grow p old new o
offers_grow_on p old new (Err e) o = tt

-- what a call does after another one
pub grows_after : (p q : ProblemValue) (m n : ℕ) (old mid new : State) → q ≡ p → Grows p m old mid
    → Grows q n mid new → Grows p (m + n) old new
grows_after p q m n old mid new e g h = then_grows p m n old mid new g (subst (λ (x : ProblemValue). Grows x n mid new) e h)

pub none_after : {A E : Type 0} (p q : ProblemValue) (old mid new : State) (r : Result A E) → q ≡ p
    → Grows p 0 old mid → IfOk r (λ a. Grows q 0 mid new) → IfOk r (λ a. Grows p 0 old new)
none_after p q old mid new (Ok a) e g h = grows_after p q 0 0 old mid new e g h
none_after p q old mid new (Err x) e g h = tt

-- ---- the leaf

pub lent_to : (p q r : ProblemValue) (old mid : State) (job : Job) → q ≡ p → r ≡ q → KeepsNetLimits q.network
    → IsSmallTable r.table → IsOrderly q mid → LendsLeaf p old job mid → IsLentTo q mid job
lent_to p q r old mid job e f limits small orderly l = record {
  limits = limits;
  small = subst (λ (x : ProblemValue). IsSmallTable x.table) f small;
  orderly = orderly;
  pairs = l.opens.pairs;
  leaf = lent_leaf p old mid job l;
}

pub lent_cuts : (p q : ProblemValue) (state : State) (job : Job) (path : List (Cut × Side)) → q ≡ p
    → path ≡ job.path.items → IsLentTo p state job → AreCuts q path
lent_cuts p q state job path e f l =
    subst (λ (x : ProblemValue). AreCuts x path) (sym e)
    (subst (AreCuts p) (sym f) (path_cuts p state job.path.items (Bound l.pairs) l.orderly l.leaf.1))

pub lent_pairs : (p q : ProblemValue) (state : State) (job : Job) (value : ℕ) (pairs : List Pair) → q ≡ p
    → IsLentTo p state job → IsJobLeaf p state job.number value pairs → ArePairs (length q.table) pairs
lent_pairs p q state job value pairs e l told =
    let ours : l.pairs ≡ pairs = same_pairs state job.number job.path.items told.path l.pairs pairs l.leaf told.leaf in
    subst (λ (x : ProblemValue). ArePairs (length x.table) pairs) (sym e)
    (subst (ArePairs (length p.table)) ours (leaf_pairs p state job.path.items l.pairs l.orderly l.leaf.1))

-- ---- one leaf after the other

-- on the way from the old state to this one, no leaf was split
pub record IsLookedAt (p q : ProblemValue) (old now : State) : Type 0 where
  pub problem : q ≡ p
  pub grows : Grows p 0 old now

pub look_begins : (p : ProblemValue) (state : State) → IsLookedAt p p state state
look_begins p state = record { problem = refl; grows = none_grows p state state refl }

pub look_goes_on : (p q r : ProblemValue) (old now new : State) → IsLookedAt p q old now → r ≡ q
    → Grows q 0 now new → IsLookedAt p r old new
look_goes_on p q r old now new h e g = record { problem = e ∙ h.problem; grows = grows_after p q 0 0 old now new h.problem h.grows g }

-- so many leaves were split, of at most so many
pub record IsSplitTo (p q : ProblemValue) (steps used : ℕ) (old now : State) : Type 0 where
  pub problem : q ≡ p
  pub few : used ≤ steps
  pub grows : Grows p used old now

pub split_begins : (p : ProblemValue) (steps : ℕ) (state : State) → IsSplitTo p p steps 0 state state
split_begins p steps state = record { problem = refl; few = omega arith; grows = none_grows p state state refl }

pub split_goes_on : (p q r : ProblemValue) (steps used more : ℕ) (old now new : State)
    → IsSplitTo p q steps used old now → used < steps → more ≤ 1 → r ≡ q → Grows q more now new
    → IsSplitTo p r steps (used + more) old new
split_goes_on p q r steps used more old now new h left one e g = record {
  problem = e ∙ h.problem;
  few = omega (arith, left, one);
  grows = grows_after p q used more old now new h.problem h.grows g;
}

pub known_after : (p q : ProblemValue) (a b : Known) → q ≡ p → b ≡ a → IsKnown p a → IsKnown q b
known_after p q a b e f h = subst (λ (x : ProblemValue). IsKnown x b) (sym e) (subst (IsKnown p) (sym f) h)
