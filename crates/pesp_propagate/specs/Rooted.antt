-- Rooted forests as the code keeps them, and how it tests them.
use Rattle.std.specs.Prelude.{◌≡◌, ℕ, ◌-◌, ◌<◌, ◌≤◌, List, length, slice_index, vec_len}
use Rattle.pesp_propagate.specs.declared.rooted.Rooted.{Rooted}
use Rattle.pesp_problem.specs.declared.arc.Arc.{Arc}
use Rattle.pesp_problem.specs.Arcs.{arc_at, HasEnds}
use Rattle.pesp_problem.specs.Roots.{Roots}

-- the lists of a rooted forest as functions of the events
abbrev pub roots_of : Rooted → Roots
roots_of r = record {
  up = slice_index r.up.items;
  by = slice_index r.by.items;
  depth = slice_index r.depth.items;
  root = slice_index r.root.items;
}

-- each list has an entry for each of n events
pub record IsFor (n : ℕ) (r : Rooted) : Type 0 where
  pub up : vec_len r.up ≡ n
  pub by : vec_len r.by ≡ n
  pub depth : vec_len r.depth ≡ n
  pub root : vec_len r.root ≡ n

-- an event is a root, or a row joins it to the event above it, which is less deep and has the same root
pub record IsJoined (n : ℕ) (arcs : List Arc) (r : Roots) (x : ℕ) : Type 0 where
  pub row : r.by x ≤ length arcs
  pub ends : 0 < r.by x → HasEnds (arc_at arcs (r.by x - 1)) x (r.up x)
  pub above : 0 < r.by x → r.up x < n
  pub climbs : 0 < r.by x → r.depth (r.up x) < r.depth x
  pub same_root : 0 < r.by x → r.root (r.up x) ≡ r.root x
  pub own_root : r.by x ≡ 0 → r.root x ≡ x

-- both ends of an arc are events with the same root
pub record IsSpanned (n : ℕ) (arc : Arc) (r : Roots) : Type 0 where
  pub tail : arc.tail < n
  pub head : arc.head < n
  pub same : r.root arc.tail ≡ r.root arc.head
