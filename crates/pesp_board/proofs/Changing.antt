-- A leaf is changed: the queue of what is in its place.
use Rattle.std.proofs.Common.{◌≡◌, ◌≢◌, ℕ, ◌<◌, List, ◌++◌, length, set, sym, ap, ◌∙◌, subst, ◌⊎◌, inl, inr}
use Rattle.std.specs.Prelude.{Some, option_map, Contains}
use Rattle.std.proofs.lemmas.Bool.{cases_eq}
use Rattle.std.proofs.lemmas.List.Elements.{Contains-append_cases, Contains-append_left, Contains-append_right}
use Rattle.std.proofs.lemmas.List.Sorted.{IsPermutation-sym, Contains-permutation}
use Rattle.pesp_problem.specs.declared.pair.Pair.{Pair}
use Rattle.pesp_truth.specs.Trees.{Bound}
use Rattle.pesp_nodes.specs.Problems.{ProblemValue}
use Rattle.pesp_tree.specs.WorkTrees.{WorkTreeValue, path_to, leaf_at}
use Rattle.pesp_tree.specs.declared.entry.Entry.{Entry}
use Rattle.pesp_tree.specs.Entries.{entry, HasItem, ItemsDiffer}
use Rattle.pesp_tree.specs.Queues.{QueueValue, all_of}
use Rattle.pesp_tree.specs.BoardLeaves.{told}
use Rattle.pesp_tree.specs.States.{value_at}
use Rattle.pesp_board.specs.declared.slot.Slot.{Slot}
use Rattle.pesp_board.specs.declared.slot.Slot.TheVariants.{Lent as LentSlot, Given as GivenSlot}
use Rattle.pesp_board.specs.Insides.{slot_at, IsWorth, IsQueue}
use Rattle.pesp_board.specs.Giving.{Replaces}
use Rattle.pesp_board.proofs.Counting.{gone}
use Rattle.pesp_board.proofs.Lent.{leaf_within}
use Rattle.pesp_board.proofs.Queues.{held_cases, held_more, held_first, apart}
use Rattle.pesp_board.proofs.Slots.{ended, still_lent, node_of_slot}

given_is_not_lent : (m : ℕ) → GivenSlot ≡ LentSlot m → ⊥
given_is_not_lent m e = cc

-- a change at a node leaves the other nodes, and these entries are those of the bound leaves that it makes
pub record IsChanged (p : ProblemValue) (t u : WorkTreeValue) (node : ℕ) (news : List Entry) : Type 0 where
  pub leaves : (other : ℕ) → other < length t.leaves → other ≢ node → leaf_at u other ≡ leaf_at t other
  pub paths : (other : ℕ) → other < length t.leaves → path_to u other ≡ path_to t other
  pub each : (e : Entry) → Contains news e → IsWorth p u e
  pub has : (n : ℕ) (pairs : List Pair) → leaf_at u n ≡ Some (Bound pairs) → HasItem news n ⊎ ((n < length t.leaves) × (n ≢ node))

-- what another node's entry is worth
still_worth : (p : ProblemValue) (t u : WorkTreeValue) (node : ℕ) (news : List Entry) (e : Entry)
    → IsChanged p t u node news → IsWorth p t e → e.item ≢ node → IsWorth p u e
still_worth p t u node news e c w other =
    let within = leaf_within t.leaves e.item (Bound w.pairs) w.leaf in
    record {
      pairs = w.pairs;
      leaf = c.leaves e.item within other ∙ w.leaf;
      worth = subst (λ path. option_map told (value_at p path w.pairs) ≡ Some e.value) (sym (c.paths e.item within)) w.worth;
    }

-- the item of an entry is held where the entry is
held_item : (xs : List Entry) (e : Entry) (item : ℕ) → e.item ≡ item → Contains xs e → HasItem xs item
held_item xs e item same h = subst (HasItem xs) same (e.value, h)

pub changed_queue : (p : ProblemValue) (t u : WorkTreeValue) (slots : List Slot) (q r : QueueValue)
    (number node : ℕ) (news : List Entry) → IsQueue p t slots q
    → ((a b n : ℕ) → slot_at slots a ≡ LentSlot n → slot_at slots b ≡ LentSlot n → a ≡ b) → ItemsDiffer (all_of q)
    → number < length slots → slot_at slots number ≡ LentSlot node → IsChanged p t u node news
    → Replaces q node news r → IsQueue p u (set slots number GivenSlot) r
changed_queue p t u slots q r number node news is one differ within lends c k =
    let x = entry node k.value in
    let back = IsPermutation-sym _ _ k.parked in
    let was_parked : HasItem q.parked node = (k.value, Contains-permutation _ _ _ back (held_first x r.parked)) in
    let none : HasItem (q.waiting ++ r.parked) node → ⊥ = gone q.waiting q.parked r.parked node k.value differ k.parked in
    record {
      each = λ e h. elim (Contains-append_cases r.waiting r.parked e h) [
        | inl waits ↦ elim (Contains-append_cases news q.waiting e (Contains-permutation _ _ e (IsPermutation-sym _ _ k.waiting) waits)) [
          | inl new ↦ c.each e new
          | inr old ↦ still_worth p t u node news e c (is.each e (Contains-append_left q.waiting q.parked e old))
              (λ same. apart q node differ (held_item q.waiting e node same old) was_parked)
        ]
        | inr lies ↦ still_worth p t u node news e c
            (is.each e (Contains-append_right q.waiting q.parked e
            (Contains-permutation _ _ e back (held_more x r.parked e lies))))
            (λ same. none (held_item (q.waiting ++ r.parked) e node same
            (Contains-append_right q.waiting r.parked e lies)))
      ];
      has = λ n pairs l. elim (c.has n pairs l) [
        | inl new ↦ (
          new.0,
          Contains-append_left r.waiting r.parked (entry n new.0)
              (Contains-permutation _ _ _ k.waiting (Contains-append_left news q.waiting (entry n new.0) new.1)),
        )
        | inr other ↦ (let old = is.has n pairs (sym (c.leaves n other.0 other.1) ∙ l) in
            elim (Contains-append_cases q.waiting q.parked (entry n old.0) old.1) [
              | inl waits ↦ (
                old.0,
                Contains-append_left r.waiting r.parked (entry n old.0)
                    (Contains-permutation _ _ _ k.waiting (Contains-append_right news q.waiting (entry n old.0) waits)),
              )
              | inr lies ↦ elim (held_cases x r.parked (entry n old.0) (Contains-permutation _ _ _ k.parked lies)) [
                | inl here ↦ absurd (other.1 (sym (ap (λ (e : Entry). e.item) here)))
                | inr rest ↦ (old.0, Contains-append_right r.waiting r.parked (entry n old.0) rest)
              ]
            ])
      ];
      lent = λ n l.
          let was = ended slots number l.0 n GivenSlot within given_is_not_lent l.1 in
          let old = is.lent n (l.0, was.1) in
          elim (held_cases x r.parked (entry n old.0) (Contains-permutation _ _ _ k.parked old.1)) [
            | inl here ↦ absurd (was.0 (one l.0 number n was.1 (lends ∙ ap (λ (e : Entry). LentSlot e.item) here)))
            | inr rest ↦ (old.0, rest)
          ];
      parked = λ n h.
          let old = is.parked n (h.0, Contains-permutation _ _ _ back (held_more x r.parked (entry n h.0) h.1)) in
          elim (cases_eq old.0 number) [
            | inl same ↦ absurd (none (held_item (q.waiting ++ r.parked) (entry n h.0) node
                (node_of_slot n node (sym old.1 ∙ ap (slot_at slots) same ∙ lends))
                (Contains-append_right q.waiting r.parked (entry n h.0) h.1)))
            | inr another ↦ still_lent slots number old.0 n GivenSlot another old.1
          ];
    }
