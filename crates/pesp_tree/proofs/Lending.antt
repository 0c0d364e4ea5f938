-- Each number that is lent has a bound leaf of its own, whatever happens.
use Rattle.std.proofs.Common.{◌≡◌, ◌≢◌, ℕ, zero, suc, ◌<◌, List, [], ◌∷◌, ◌++◌, length, get_or, set, refl, sym, ap, ◌∙◌, arith, subst, ◌⊎◌, inl, inr}
use Rattle.std.proofs.lemmas.Bool.{cases_eq}
use Rattle.std.proofs.lemmas.List.{get_or-set_other, get_or-set_same}
use Rattle.pesp_problem.specs.declared.cut.Cut.{Cut}
use Rattle.pesp_problem.specs.declared.cut.Side.{Side}
use Rattle.pesp_problem.specs.declared.cut.Side.TheVariants.{Low, High}
use Rattle.pesp_truth.specs.Trees.{Tree, Leaf, Ends, Branch, Bound}
use Rattle.pesp_nodes.specs.Problems.{ProblemValue}
use Rattle.pesp_tree.specs.declared.job.Job.{Job}
use Rattle.pesp_tree.specs.declared.work.Work.{Work}
use Rattle.pesp_truth.specs.Leaves.{IsLeafAt, put}
use Rattle.pesp_tree.specs.States.{State, Ticket, Lent, Given, Recalled, ticket, opening}
use Rattle.pesp_tree.specs.Reached.{AreLentApart}
use Rattle.pesp_tree.specs.Events.{LendsLeaf, Takes}
use Rattle.pesp_tree.proofs.EventChanges.{Change, Lends_leaf, Takes_work, Recalls_number, Keeps_times, Same}

-- ---- the list of numbers

-- what became of a number, in a list
abbrev pub ticket_in : List Ticket → ℕ → Ticket
ticket_in tickets number = get_or tickets number Recalled

pub none_is_lent : (number : ℕ) (path : List (Cut × Side)) → ticket_in [] number ≡ Lent path → ⊥
none_is_lent number path e = cc

lent_within : (tickets : List Ticket) (number : ℕ) (path : List (Cut × Side))
    → ticket_in tickets number ≡ Lent path → number < length tickets
lent_within [] number path e = absurd (none_is_lent number path e)
lent_within (t ∷ tickets) zero path e = omega arith
lent_within (t ∷ tickets) (suc number) path e = omega (arith, lent_within tickets number path e)

-- a number that is lent behind one that ends is another, and was lent before
ended : (tickets : List Ticket) (number other : ℕ) (new : Ticket) (path : List (Cut × Side))
    → number < length tickets → ((q : List (Cut × Side)) → new ≡ Lent q → ⊥)
    → ticket_in (set tickets number new) other ≡ Lent path
    → (other ≢ number) × (ticket_in tickets other ≡ Lent path)
ended tickets number other new path h never e =
    elim (cases_eq other number) [
      | inl same ↦ absurd (never path (sym (get_or-set_same tickets number new Recalled h)
          ∙ ap (λ (m : ℕ). ticket_in (set tickets number new) m) (sym same) ∙ e))
      | inr another ↦ (another, sym (get_or-set_other tickets number other new Recalled another) ∙ e)
    ]

-- a number that is lent once one more is lent was lent before, or is that one
pub lent_more : (tickets : List Ticket) (number : ℕ) (path q : List (Cut × Side))
    → ticket_in (tickets ++ Lent q ∷ []) number ≡ Lent path
    → (ticket_in tickets number ≡ Lent path) ⊎ ((number ≡ length tickets) × (path ≡ q))
lent_more [] zero path q e = inr (refl, cc)
lent_more [] (suc number) path q e = absurd (none_is_lent number path e)
lent_more (t ∷ tickets) zero path q e = inl e
lent_more (t ∷ tickets) (suc number) path q e =
    elim (lent_more tickets number path q e) [ inl old ↦ inl old | inr new ↦ inr (ap suc new.0, new.1) ]

-- ---- other leaves

-- what stands elsewhere still stands when a leaf is replaced
put_elsewhere : (tree : Tree) (path q : List (Cut × Side)) (leaf other : Leaf) (new : Tree)
    → IsLeafAt tree path leaf → IsLeafAt tree q other → q ≢ path → IsLeafAt (put tree path new) q other
put_elsewhere (Ends there) [] [] leaf other new h k n = absurd (n refl)
put_elsewhere (Ends there) [] (step ∷ q) leaf other new h k n = absurd k
put_elsewhere (Ends there) (step ∷ path) q leaf other new h k n = absurd h
put_elsewhere (Branch cut low high) [] q leaf other new h k n = absurd h
put_elsewhere (Branch cut low high) (step ∷ path) [] leaf other new h k n = absurd k
put_elsewhere (Branch cut low high) ((c, Low) ∷ path) ((d, Low) ∷ q) leaf other new h k n =
    (k.0, put_elsewhere low path q leaf other new h.1 k.1 (λ e. n (rw (h.0, k.0, e) refl)))
put_elsewhere (Branch cut low high) ((c, Low) ∷ path) ((d, High) ∷ q) leaf other new h k n = k
put_elsewhere (Branch cut low high) ((c, High) ∷ path) ((d, Low) ∷ q) leaf other new h k n = k
put_elsewhere (Branch cut low high) ((c, High) ∷ path) ((d, High) ∷ q) leaf other new h k n =
    (k.0, put_elsewhere high path q leaf other new h.1 k.1 (λ e. n (rw (h.0, k.0, e) refl)))

-- ---- events

pub opening_is_apart : AreLentApart opening
opening_is_apart = record {
  leaf = λ number path e. absurd (none_is_lent number path e);
  apart = λ a b path e f. absurd (none_is_lent a path e);
}

-- a number ends, and the tree is the same
ends : (old : State) (number : ℕ) (new : Ticket) (path : List (Cut × Side)) → AreLentApart old
    → ticket old number ≡ Lent path → ((q : List (Cut × Side)) → new ≡ Lent q → ⊥)
    → AreLentApart (record old { numbers = set old.numbers number new })
ends old number new path k lent never =
    let within = lent_within old.numbers number path lent in
    record {
      leaf = λ other q e. k.leaf other q (ended old.numbers number other new q within never e).1;
      apart = λ a b q e f. k.apart a b q (ended old.numbers number a new q within never e).1
          (ended old.numbers number b new q within never f).1;
    }

given_is_not_lent : (q : List (Cut × Side)) → Given ≡ Lent q → ⊥
given_is_not_lent q e = cc

recalled_is_not_lent : (q : List (Cut × Side)) → Recalled ≡ Lent q → ⊥
recalled_is_not_lent q e = cc

-- a number ends, and its leaf is replaced
takes_apart : (p : ProblemValue) (old : State) (number : ℕ) (work : Work) (new : State) → AreLentApart old
    → Takes p old number work new → AreLentApart new
takes_apart p old number work new k s =
    let within = lent_within old.numbers number s.path s.leaf.0 in
    let was : (other : ℕ) (q : List (Cut × Side)) → ticket_in (set old.numbers number Given) other ≡ Lent q
    → (other ≢ number) × (ticket_in old.numbers other ≡ Lent q) =
    λ other q e. ended old.numbers number other Given q within given_is_not_lent e in
    subst AreLentApart (sym s.state) (record {
      leaf = λ other q e.
          let before = was other q e in
          let there = k.leaf other q before.1 in (
            there.0,
            put_elsewhere old.tree s.path q (Bound s.pairs) (Bound there.0) s.part s.leaf.1 there.1
                (λ same. before.0 (k.apart other number s.path (before.1 ∙ ap Lent same) s.leaf.0)),
          );
      apart = λ a b q e f. k.apart a b q (was a q e).1 (was b q f).1;
    })

lends_apart : (p : ProblemValue) (old : State) (job : Job) (new : State) → AreLentApart old → LendsLeaf p old job new → AreLentApart new
lends_apart p old job new k s =
    let path = job.path.items in
    let was : (number : ℕ) (q : List (Cut × Side)) → ticket_in (old.numbers ++ Lent path ∷ []) number ≡ Lent q
    → (ticket_in old.numbers number ≡ Lent q) ⊎ ((number ≡ length old.numbers) × (q ≡ path)) =
    λ number q e. lent_more old.numbers number q path e in
    subst AreLentApart (sym s.state) (record {
      leaf = λ number q e. elim (was number q e) [
        | inl before ↦ k.leaf number q before
        | inr here ↦ (s.opens.pairs, subst (λ x. IsLeafAt old.tree x (Bound s.opens.pairs)) (sym here.1) s.opens.leaf)
      ];
      apart = λ a b q e f. elim (was a q e) [
        | inl first ↦ elim (was b q f) [
          | inl second ↦ k.apart a b q first second
          | inr here ↦ absurd (s.opens.unlent (a, first ∙ ap Lent here.1))
        ]
        | inr here ↦ elim (was b q f) [
          | inl second ↦ absurd (s.opens.unlent (b, second ∙ ap Lent here.1))
          | inr there ↦ here.0 ∙ sym there.0
        ]
      ];
    })

pub change_keeps_apart : (p : ProblemValue) (old new : State) → AreLentApart old → Change p old new → AreLentApart new
change_keeps_apart p old new k (Lends_leaf job s) = lends_apart p old job new k s
change_keeps_apart p old new k (Takes_work number work s) = takes_apart p old number work new k s
change_keeps_apart p old new k (Recalls_number number lent e) =
    subst AreLentApart (sym e) (ends old number Recalled lent.0 k lent.1 recalled_is_not_lent)
change_keeps_apart p old new k (Keeps_times times better e) = subst AreLentApart (sym e) (record { leaf = k.leaf; apart = k.apart })
change_keeps_apart p old new k (Same e) = subst AreLentApart (sym e) k
