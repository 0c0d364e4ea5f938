-- The number under which a leaf is lent ends before the next one begins.
use Rattle.std.proofs.Common.{◌≡◌, ℕ, zero, suc, ◌+◌, List, [], ◌∷◌, ◌++◌, length, get_or, set, sym, ◌∙◌, length-append}
use Rattle.std.proofs.lemmas.List.{length-set}
use Rattle.std.proofs.Math.Seq.{get_or-append_seam}
use Rattle.pesp_problem.specs.declared.cut.Cut.{Cut}
use Rattle.pesp_problem.specs.declared.cut.Side.{Side}
use Rattle.pesp_truth.specs.Trees.{Tree, Leaf, Ends, Branch}
use Rattle.pesp_truth.specs.Leaves.{IsLeafAt}
use Rattle.pesp_problem.specs.declared.cut.Side.TheVariants.{Low, High}
use Rattle.pesp_tree.specs.States.{Ticket, Lent, Recalled}

abbrev pub ticket_in : List Ticket → ℕ → Ticket
ticket_in tickets number = get_or tickets number Recalled

-- the number next to be lent, once it is lent
pub lent_last : (tickets : List Ticket) (path : List (Cut × Side)) → ticket_in (tickets ++ Lent path ∷ []) (length tickets) ≡ Lent path
lent_last tickets path = get_or-append_seam tickets (Lent path) [] Recalled

pub same_path : (path q : List (Cut × Side)) → Lent path ≡ Lent q → path ≡ q
same_path path q e = cc

-- where none was lent, and the one that was lent since is so no more, none is lent
pub none_lent : (tickets : List Ticket) (path q : List (Cut × Side)) (ended : Ticket) (number : ℕ)
    → ((m : ℕ) (r : List (Cut × Side)) → ticket_in tickets m ≡ Lent r → ⊥)
    → ((r : List (Cut × Side)) → ended ≡ Lent r → ⊥)
    → ticket_in (set (tickets ++ Lent path ∷ []) (length tickets) ended) number ≡ Lent q → ⊥
none_lent [] path q ended zero before never e = never q e
none_lent [] path q ended (suc number) before never e = cc
none_lent (t ∷ tickets) path q ended zero before never e = before zero q e
none_lent (t ∷ tickets) path q ended (suc number) before never e =
    none_lent tickets path q ended number (λ m r h. before (suc m) r h) never e

pub one_more : (tickets : List Ticket) (path : List (Cut × Side)) (ended : Ticket)
    → length (set (tickets ++ Lent path ∷ []) (length tickets) ended) ≡ length tickets + 1
one_more tickets path ended = length-set (tickets ++ Lent path ∷ []) (length tickets) ended ∙ length-append tickets (Lent path ∷ [])

-- one leaf stands at a path
pub one_leaf : (tree : Tree) (path : List (Cut × Side)) (a b : Leaf) → IsLeafAt tree path a → IsLeafAt tree path b → a ≡ b
one_leaf (Ends there) [] a b h k = sym h ∙ k
one_leaf (Ends there) (step ∷ path) a b h k = absurd h
one_leaf (Branch cut low high) [] a b h k = absurd h
one_leaf (Branch cut low high) ((c, Low) ∷ path) a b h k = one_leaf low path a b h.1 k.1
one_leaf (Branch cut low high) ((c, High) ∷ path) a b h k = one_leaf high path a b h.1 k.1
