-- Which reply a give has is decided by the state and the work, but for refusals of memory.
use Rattle.std.proofs.Common.{◌≡◌, ℕ, List, refl, sym, ◌∙◌, subst}
use Rattle.std.specs.Prelude.{Result, Ok, Err}
use Rattle.pesp_problem.specs.declared.pair.Pair.{Pair}
use Rattle.pesp_problem.specs.declared.cut.Cut.{Cut}
use Rattle.pesp_problem.specs.declared.cut.Side.{Side}
use Rattle.pesp_truth.specs.Trees.{Tree, Bound}
use Rattle.pesp_nodes.specs.Problems.{ProblemValue}
use Rattle.pesp_tree.specs.declared.work.Work.{Work}
use Rattle.pesp_tree.specs.declared.refusal.GiveRefusal.{GiveRefusal}
use Rattle.pesp_tree.specs.declared.refusal.GiveRefusal.TheVariants.{UnknownJob, AlreadyGiven, NotValid, Memory, TooLarge}
use Rattle.pesp_truth.specs.Leaves.{put}
use Rattle.pesp_tree.specs.Limits.{IsSmallTree}
use Rattle.pesp_tree.specs.States.{State, Lent, Given, Recalled, ticket, HasLeaf, IsLentNumber, node_at}
use Rattle.pesp_tree.specs.Events.{Makes, Takes, MakesNothing, MakesTooMuch, Gives}
use Rattle.pesp_tree.proofs.OneSize.{same_path, same_pairs, made_same, small_same}

-- what is made of the leaf that a number has is made of the one that it has
remade : (p : ProblemValue) (state : State) (number : ℕ) (work : Work) (path path' : List (Cut × Side))
    (pairs pairs' : List Pair) (part : Tree) → HasLeaf state number path pairs → HasLeaf state number path' pairs'
    → Makes p (node_at p path) pairs work part → Makes p (node_at p path') pairs' work part
remade p state number work path path' pairs pairs' part h k m =
    subst (λ x. Makes p (node_at p path') x work part) (same_pairs state number path path' pairs pairs' h k)
    (subst (λ q. Makes p (node_at p q) pairs work part) (same_path state number path path' pairs pairs' h k) m)

taken_not_nothing : (p : ProblemValue) (old new : State) (number : ℕ) (work : Work) → Takes p old number work new
    → MakesNothing p old number work → ⊥
taken_not_nothing p old new number work t r = r.none t.part
    (remade p old number work t.path r.path t.pairs r.pairs t.part t.leaf r.leaf t.makes)

large_not_nothing : (p : ProblemValue) (old : State) (number : ℕ) (work : Work) → MakesTooMuch p old number work
    → MakesNothing p old number work → ⊥
large_not_nothing p old number work t r = r.none t.part
    (remade p old number work t.path r.path t.pairs r.pairs t.part t.leaf r.leaf t.makes)

taken_not_large : (p : ProblemValue) (old new : State) (number : ℕ) (work : Work) → Takes p old number work new
    → MakesTooMuch p old number work → ⊥
taken_not_large p old new number work t r =
    let same = same_path old number t.path r.path t.pairs r.pairs t.leaf r.leaf in
    let made = remade p old number work t.path r.path t.pairs r.pairs t.part t.leaf r.leaf t.makes in
    let small : IsSmallTree (put old.tree r.path t.part) = subst (λ q. IsSmallTree (put old.tree q t.part)) same t.small in
    r.large (small_same old.tree r.path (Bound r.pairs) t.part r.part r.leaf.1
    (made_same p (node_at p r.path) r.pairs work t.part r.part made r.makes) small)

lent_not_recalled : (state : State) (number : ℕ) → IsLentNumber state number → ticket state number ≡ Recalled → ⊥
lent_not_recalled state number h k = let e : Lent h.0 ≡ Recalled = sym h.1 ∙ k in cc e

lent_not_given : (state : State) (number : ℕ) → IsLentNumber state number → ticket state number ≡ Given → ⊥
lent_not_given state number h k = let e : Lent h.0 ≡ Given = sym h.1 ∙ k in cc e

given_not_recalled : (state : State) (number : ℕ) → ticket state number ≡ Given → ticket state number ≡ Recalled → ⊥
given_not_recalled state number h k = let e : Given ≡ Recalled = sym h ∙ k in cc e

pub replies_are_decided : (p : ProblemValue) (old a b : State) (number : ℕ) (work : Work)
    (first second : Result (Unit {0}) GiveRefusal) → Gives p old number work first a
    → Gives p old number work second b → (first ≡ Err Memory → ⊥) → (second ≡ Err Memory → ⊥) → first ≡ second
replies_are_decided p old a b number work (Ok x) (Ok y) g h m n = refl
replies_are_decided p old a b number work (Ok x) (Err UnknownJob) g h m n = absurd (lent_not_recalled old number (g.path, g.leaf.0) h.1)
replies_are_decided p old a b number work (Ok x) (Err AlreadyGiven) g h m n = absurd (lent_not_given old number (g.path, g.leaf.0) h.1)
replies_are_decided p old a b number work (Ok x) (Err NotValid) g h m n = absurd (taken_not_nothing p old a number work g h.1)
replies_are_decided p old a b number work (Ok x) (Err TooLarge) g h m n = absurd (taken_not_large p old a number work g h.1)
replies_are_decided p old a b number work (Err UnknownJob) (Ok y) g h m n = absurd (lent_not_recalled old number (h.path, h.leaf.0) g.1)
replies_are_decided p old a b number work (Err UnknownJob) (Err UnknownJob) g h m n = refl
replies_are_decided p old a b number work (Err UnknownJob) (Err AlreadyGiven) g h m n = absurd (given_not_recalled old number h.1 g.1)
replies_are_decided p old a b number work (Err UnknownJob) (Err NotValid) g h m n =
    absurd (lent_not_recalled old number (h.1.path, h.1.leaf.0) g.1)
replies_are_decided p old a b number work (Err UnknownJob) (Err TooLarge) g h m n =
    absurd (lent_not_recalled old number (h.1.path, h.1.leaf.0) g.1)
replies_are_decided p old a b number work (Err AlreadyGiven) (Ok y) g h m n = absurd (lent_not_given old number (h.path, h.leaf.0) g.1)
replies_are_decided p old a b number work (Err AlreadyGiven) (Err UnknownJob) g h m n = absurd (given_not_recalled old number g.1 h.1)
replies_are_decided p old a b number work (Err AlreadyGiven) (Err AlreadyGiven) g h m n = refl
replies_are_decided p old a b number work (Err AlreadyGiven) (Err NotValid) g h m n =
    absurd (lent_not_given old number (h.1.path, h.1.leaf.0) g.1)
replies_are_decided p old a b number work (Err AlreadyGiven) (Err TooLarge) g h m n =
    absurd (lent_not_given old number (h.1.path, h.1.leaf.0) g.1)
replies_are_decided p old a b number work (Err NotValid) (Ok y) g h m n = absurd (taken_not_nothing p old b number work h g.1)
replies_are_decided p old a b number work (Err NotValid) (Err UnknownJob) g h m n =
    absurd (lent_not_recalled old number (g.1.path, g.1.leaf.0) h.1)
replies_are_decided p old a b number work (Err NotValid) (Err AlreadyGiven) g h m n =
    absurd (lent_not_given old number (g.1.path, g.1.leaf.0) h.1)
replies_are_decided p old a b number work (Err NotValid) (Err NotValid) g h m n = refl
replies_are_decided p old a b number work (Err NotValid) (Err TooLarge) g h m n = absurd (large_not_nothing p old number work h.1 g.1)
replies_are_decided p old a b number work (Err TooLarge) (Ok y) g h m n = absurd (taken_not_large p old b number work h g.1)
replies_are_decided p old a b number work (Err TooLarge) (Err UnknownJob) g h m n =
    absurd (lent_not_recalled old number (g.1.path, g.1.leaf.0) h.1)
replies_are_decided p old a b number work (Err TooLarge) (Err AlreadyGiven) g h m n =
    absurd (lent_not_given old number (g.1.path, g.1.leaf.0) h.1)
replies_are_decided p old a b number work (Err TooLarge) (Err NotValid) g h m n = absurd (large_not_nothing p old number work g.1 h.1)
replies_are_decided p old a b number work (Err TooLarge) (Err TooLarge) g h m n = refl
replies_are_decided p old a b number work (Err Memory) second g h m n = absurd (m refl)
replies_are_decided p old a b number work first (Err Memory) g h m n = absurd (n refl)
