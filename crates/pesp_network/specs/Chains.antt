-- The rows at each event, as chains. Rows are named by their numbers from 1.
use Rattle.std.specs.Prelude.{◌≡◌, ℕ, ◌+◌, ◌<◌, ◌≤◌, ◌⊎◌, List, length, slice_index, vec_len}
use Rattle.pesp_problem.specs.declared.arc.Arc.{Arc}
use Rattle.pesp_network.specs.declared.chains.Chains.{Chains}
use Rattle.pesp_problem.specs.Arcs.{tail_of, head_of}

-- the row next comes after the row k among the rows at u
pub record IsNext (T H : ℕ → ℕ) (u k next : ℕ) : Type 0 where
  pub less : next < k
  pub end : 0 < next → (T next ≡ u) ⊎ (H next ≡ u)
  pub none_between : (j : ℕ) → next < j → j < k → (T j ≡ u) ⊎ (H j ≡ u) → ⊥

-- the rows at each event as chains, of the rows up to i: first has an event's last row, A and B the row that comes next
-- at a row's tail and head
pub record Chained (i : ℕ) (T H F A B : ℕ → ℕ) : Type 0 where
  pub tail_reached : (k : ℕ) → 0 < k → k ≤ i → k ≤ F (T k)
  pub head_reached : (k : ℕ) → 0 < k → k ≤ i → k ≤ F (H k)
  pub first_row : (e : ℕ) → F e ≤ i
  pub first_end : (e : ℕ) → 0 < F e → (T (F e) ≡ e) ⊎ (H (F e) ≡ e)
  pub tail_next : (k : ℕ) → 0 < k → k ≤ i → IsNext T H (T k) k (A k)
  pub head_next : (k : ℕ) → 0 < k → k ≤ i → IsNext T H (H k) k (B k)

-- the chains of these arcs between n events
pub record AreChains (arcs : List Arc) (n : ℕ) (chains : Chains) : Type 0 where
  pub chained : Chained (length arcs) (tail_of arcs) (head_of arcs) (slice_index chains.first.items)
      (slice_index chains.at_tail.items) (slice_index chains.at_head.items)
  pub firsts : vec_len chains.first ≡ n
  pub tails : vec_len chains.at_tail ≡ length arcs + 1
  pub heads : vec_len chains.at_head ≡ length arcs + 1
