-- The fundamental walks of a rooted forest, as functions of it.
use Rattle.std.specs.Prelude.{◌≡◌, ⊤, ◌<◌, ℕ, zero, suc, List, [], ◌∷◌, ◌++◌, map, Bool, ◌&&◌, ◌||◌, ◌==◌, nat_le, true, if◌then◌else◌}
use Rattle.pesp_problem.specs.declared.limits.TheConstants.{MOST_SIGNED_ROWS}
use Rattle.pesp_problem.specs.declared.row.SignedRow.{SignedRow}
use Rattle.pesp_problem.specs.declared.arc.Arc.{Arc}
use Rattle.pesp_network.specs.declared.parts.Forest.{Forest}
use Rattle.pesp_network.specs.declared.refusal.NetRefusal.{NetRefusal}
use Rattle.pesp_network.specs.declared.refusal.NetRefusal.TheVariants.{Memory, TableTooLarge, BadRow}
use Rattle.pesp_network.specs.Networks.{signed_rows}
use Rattle.pesp_network.specs.Growing.{at}
use Rattle.pesp_problem.specs.Arcs.{tail_of, head_of}

-- from an event to the one above it, and from there down to it
abbrev pub step_up : List Arc → Forest → ℕ → SignedRow
step_up arcs g x = record { row = at g.by.items x; plus = tail_of arcs (at g.by.items x) == x }

-- from the event above an event down to it
abbrev pub step_down : List Arc → Forest → ℕ → SignedRow
step_down arcs g x = record { row = at g.by.items x; plus = head_of arcs (at g.by.items x) == x }

-- whether y is x or lies below it
abbrev pub is_under : Forest → ℕ → ℕ → Bool
is_under g x y = nat_le (at g.place.items x) (at g.place.items y) && nat_le (at g.place.items y) (at g.last.items x)

-- at most so many steps from x up to the first event that t is or lies below, and that event
abbrev pub up_way : List Arc → Forest → ℕ → ℕ → ℕ → List SignedRow
up_way arcs g t zero x = []
up_way arcs g t (suc most) x = if is_under g x t then [] else step_up arcs g x ∷ up_way arcs g t most (at g.up.items x)

-- the event to which at most so many such steps from x lead
abbrev pub top : Forest → ℕ → ℕ → ℕ → ℕ
top g t zero x = x
top g t (suc most) x = if is_under g x t then x else top g t most (at g.up.items x)

-- at most so many steps from u down to y
abbrev pub down_way : List Arc → Forest → ℕ → ℕ → ℕ → List SignedRow
down_way arcs g u zero y = []
down_way arcs g u (suc most) y = if y == u then [] else down_way arcs g u most (at g.up.items y) ++ step_down arcs g y ∷ []

-- from x up and then down to t
abbrev pub way_between : List Arc → Forest → ℕ → ℕ → List SignedRow
way_between arcs g x t = up_way arcs g t (at g.place.items x) x ++ down_way arcs g (top g t (at g.place.items x) x) (at g.place.items t) t

-- two events of one tree and the way between them
pub record IsForestWay (arcs : List Arc) (g : Forest) (from to : ℕ) (way : List SignedRow) : Type 0 where
  pub one_tree : at g.root.items from ≡ at g.root.items to
  pub way_is : way ≡ way_between arcs g from to

-- the row of this number, and the way from its head back to its tail
abbrev pub walk_of : List Arc → Forest → ℕ → List SignedRow
walk_of arcs g k = record { row = k; plus = true } ∷ way_between arcs g (head_of arcs k) (tail_of arcs k)

-- whether the row joins one of its ends to the event above it
abbrev pub joins_upwards : List Arc → Forest → ℕ → Bool
joins_upwards arcs g k = (at g.by.items (tail_of arcs k) == k) || (at g.by.items (head_of arcs k) == k)

-- the first so many rows, without those of the forest
abbrev pub outside : List Arc → Forest → ℕ → List ℕ
outside arcs g zero = []
outside arcs g (suc i) = if joins_upwards arcs g (suc i) then outside arcs g i else outside arcs g i ++ suc i ∷ []

-- their fundamental walks
abbrev pub walks_of : List Arc → Forest → ℕ → List (List SignedRow)
walks_of arcs g i = map (walk_of arcs g) (outside arcs g i)

-- when these walks aren't given
abbrev pub IsTooMany : List Arc → Forest → ℕ → NetRefusal → Type 0
IsTooMany arcs g i Memory = ⊤
IsTooMany arcs g i TableTooLarge = MOST_SIGNED_ROWS < signed_rows (walks_of arcs g i)
IsTooMany arcs g i (BadRow row) = ⊥
