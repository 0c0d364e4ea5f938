-- Slots: what became of a number, and of all others when one ends.
use Rattle.std.proofs.Common.{◌≡◌, ◌≢◌, ℕ, zero, suc, ◌<◌, List, [], ◌∷◌, length, get_or, set, map, refl, sym, ap, ◌∙◌, inl, inr}
use Rattle.std.specs.Prelude.{Option}
use Rattle.std.proofs.lemmas.Bool.{cases_eq}
use Rattle.std.proofs.lemmas.List.{get_or-set_other, get_or-set_same}
use Rattle.pesp_problem.specs.declared.cut.Cut.{Cut}
use Rattle.pesp_problem.specs.declared.cut.Side.{Side}
use Rattle.pesp_nodes.specs.Problems.{ProblemValue}
use Rattle.pesp_tree.specs.WorkTrees.{WorkTreeValue, path_to}
use Rattle.pesp_tree.specs.States.{Lent, Recalled}
use Rattle.pesp_tree.specs.Reached.{IsOrderly}
use Rattle.pesp_board.specs.declared.slot.Slot.{Slot}
use Rattle.pesp_board.specs.declared.slot.Slot.TheVariants.{Lent as LentSlot, Given as GivenSlot, Recalled as RecalledSlot}
use Rattle.pesp_board.specs.Insides.{ticket_of, state_of, slot_at, IsLentNode}

pub ticket_is : (t : WorkTreeValue) (slots : List Slot) (number : ℕ)
    → get_or (map (ticket_of t) slots) number Recalled ≡ ticket_of t (slot_at slots number)
ticket_is t [] number = refl
ticket_is t (s ∷ slots) zero = refl
ticket_is t (s ∷ slots) (suc number) = ticket_is t slots number

pub map_set : (t : WorkTreeValue) (slots : List Slot) (i : ℕ) (s : Slot)
    → map (ticket_of t) (set slots i s) ≡ set (map (ticket_of t) slots) i (ticket_of t s)
map_set t [] i s = refl
map_set t (x ∷ xs) zero s = refl
map_set t (x ∷ xs) (suc i) s = ap (λ l. ticket_of t x ∷ l) (map_set t xs i s)

-- a ticket that is lent is that of a slot with a node
pub lent_by : (t : WorkTreeValue) (s : Slot) (path : List (Cut × Side)) → ticket_of t s ≡ Lent path → (node : ℕ) × (s ≡ LentSlot node)
lent_by t (LentSlot node) path e = (node, refl)
lent_by t GivenSlot path e = cc
lent_by t RecalledSlot path e = cc

-- no two numbers are lent with one node
pub one_number : (p : ProblemValue) (t : WorkTreeValue) (slots : List Slot) (times : Option (List ℕ))
    → IsOrderly p (state_of t slots times) → (a b node : ℕ) → slot_at slots a ≡ LentSlot node
    → slot_at slots b ≡ LentSlot node → a ≡ b
one_number p t slots times o a b node e f = o.lent.apart a b (path_to t node)
    (ticket_is t slots a ∙ ap (ticket_of t) e) (ticket_is t slots b ∙ ap (ticket_of t) f)

-- what is lent once a number has ended was lent before, and is another number
pub ended : (slots : List Slot) (number other node : ℕ) (new : Slot) → number < length slots
    → ((m : ℕ) → new ≡ LentSlot m → ⊥) → slot_at (set slots number new) other ≡ LentSlot node
    → (other ≢ number) × (slot_at slots other ≡ LentSlot node)
ended slots number other node new h never e =
    elim (cases_eq other number) [
      | inl same ↦ absurd (never node (sym (get_or-set_same slots number new RecalledSlot h)
          ∙ ap (λ (m : ℕ). slot_at (set slots number new) m) (sym same) ∙ e))
      | inr another ↦ (another, sym (get_or-set_other slots number other new RecalledSlot another) ∙ e)
    ]

-- and what was lent under another number still is
pub still_lent : (slots : List Slot) (number other node : ℕ) (new : Slot) → other ≢ number
    → slot_at slots other ≡ LentSlot node → IsLentNode (set slots number new) node
still_lent slots number other node new another e = (other, get_or-set_other slots number other new RecalledSlot another ∙ e)

pub recalled_is_not_lent : (m : ℕ) → RecalledSlot ≡ LentSlot m → ⊥
recalled_is_not_lent m e = cc

pub node_of_slot : (a b : ℕ) → LentSlot a ≡ LentSlot b → a ≡ b
node_of_slot a b e = cc
