-- What is told of a number.
use Rattle.std.proofs.Common.{◌≡◌, ℕ, ◌<◌, List, length, sym, ap, ◌∙◌, subst}
use Rattle.std.specs.Prelude.{Option, Some, None, option_map, Contains}
use Rattle.std.proofs.lemmas.List.Elements.{Contains-append_right}
use Rattle.pesp_problem.specs.declared.pair.Pair.{Pair}
use Rattle.pesp_truth.specs.Trees.{Bound}
use Rattle.pesp_nodes.specs.Problems.{ProblemValue}
use Rattle.pesp_tree.specs.WorkTrees.{WorkTreeValue, path_to, leaf_at}
use Rattle.pesp_tree.specs.Entries.{entry, HasItem}
use Rattle.pesp_tree.specs.Queues.{QueueValue}
use Rattle.pesp_tree.specs.States.{TellsLeaf, value_at}
use Rattle.pesp_tree.specs.BoardLeaves.{told}
use Rattle.pesp_board.specs.declared.best.Best.{Best}
use Rattle.pesp_board.specs.declared.slot.Slot.{Slot}
use Rattle.pesp_board.specs.Insides.{ticket_of, times_of, state_of, slot_at, LendsNode, IsBoard}
use Rattle.pesp_board.proofs.Places.{one_leaf}
use Rattle.pesp_board.proofs.Lent.{leaf_within}
use Rattle.pesp_board.proofs.Slots.{ticket_is, lent_by}

pub none_told : (p : ProblemValue) (t : WorkTreeValue) (slots : List Slot) (times : Option (List ℕ)) (number : ℕ)
    → LendsNode slots number None → TellsLeaf p (state_of t slots times) number None
none_told p t slots times number h l = let by = lent_by t (slot_at slots number) l.0 (sym (ticket_is t slots number) ∙ l.1) in h by.0 by.1

pub leaf_told : (p : ProblemValue) (t : WorkTreeValue) (slots : List Slot) (q : QueueValue) (best : Option Best)
    (count number node value : ℕ) (pairs : List Pair) → IsBoard p t slots q best count
    → LendsNode slots number (Some node) → Contains q.parked (entry node value)
    → leaf_at t node ≡ Some (Bound pairs) → TellsLeaf p (state_of t slots (times_of best)) number
    (Some (value, pairs))
leaf_told p t slots q best count number node value pairs b h held leaf =
    let worth = b.queue.each (entry node value) (Contains-append_right q.waiting q.parked (entry node value) held) in
    let same = one_leaf t node worth.pairs pairs worth.leaf leaf in
    record {
      path = path_to t node;
      leaf = (ticket_is t slots number ∙ ap (ticket_of t) h.1, b.whole.stands node (Bound pairs) leaf);
      worth = subst (λ x. option_map told (value_at p (path_to t node) x) ≡ Some value) same worth.worth;
    }

-- a number that is lent has a parked node with a bound leaf
pub lent_is_parked : (p : ProblemValue) (t : WorkTreeValue) (slots : List Slot) (q : QueueValue)
    (best : Option Best) (count number node : ℕ) → IsBoard p t slots q best count
    → LendsNode slots number (Some node) → HasItem q.parked node
lent_is_parked p t slots q best count number node b h = b.queue.lent node (number, h.1)

pub lent_leaf_is : (p : ProblemValue) (t : WorkTreeValue) (slots : List Slot) (q : QueueValue) (best : Option Best)
    (count number node : ℕ) → IsBoard p t slots q best count → LendsNode slots number (Some node)
    → (pairs : List Pair) × (leaf_at t node ≡ Some (Bound pairs)) × (node < length t.leaves)
lent_leaf_is p t slots q best count number node b h =
    let held = b.queue.lent node (number, h.1) in
    let worth = b.queue.each (entry node held.0) (Contains-append_right q.waiting q.parked (entry node held.0) held.1) in
    (worth.pairs, worth.leaf, leaf_within t.leaves node (Bound worth.pairs) worth.leaf)

pub not_parked : (p : ProblemValue) (t : WorkTreeValue) (slots : List Slot) (q : QueueValue) (best : Option Best)
    (count number node : ℕ) → IsBoard p t slots q best count → LendsNode slots number (Some node)
    → ¬ HasItem q.parked node → TellsLeaf p (state_of t slots (times_of best)) number None
not_parked p t slots q best count number node b h k = absurd (k (b.queue.lent node (number, h.1)))

pub no_pairs_there : (p : ProblemValue) (t : WorkTreeValue) (slots : List Slot) (q : QueueValue)
    (best : Option Best) (count number node : ℕ) → IsBoard p t slots q best count
    → LendsNode slots number (Some node) → ((pairs : List Pair) → leaf_at t node ≡ Some (Bound pairs) → ⊥)
    → TellsLeaf p (state_of t slots (times_of best)) number None
no_pairs_there p t slots q best count number node b h k = let leaf =
    lent_leaf_is p t slots q best count number node b h in absurd (k leaf.0 leaf.1)
