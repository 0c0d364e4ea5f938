-- What holds while a forest grows depth first over rows.
use Rattle.std.specs.Prelude.{ℕ, ◌+◌, ◌<◌, List, length, sum, count_by, ◌==◌, vec_len}
use Rattle.pesp_problem.specs.declared.arc.Arc.{Arc}
use Rattle.pesp_network.specs.declared.parts.Growth.{Growth}
use Rattle.pesp_network.specs.Growing.{Fns, Grown, OpenAt, at}
use Rattle.pesp_problem.specs.Arcs.{tail_of, head_of}

-- what an open event has as its last place
abbrev pub OPEN_END : ℕ
OPEN_END = 18446744073709551615

-- the lists of a growth as functions
abbrev pub fns_of : Growth → Fns
fns_of g = record {
  up = at g.up.items;
  by = at g.by.items;
  place = at g.place.items;
  last = at g.last.items;
  root = at g.root.items;
  left = at g.left.items;
  order = at g.order.items;
  count = vec_len g.order;
}

-- the growth is a forest that grows depth first over these arcs
abbrev pub GrownOver : List Arc → Growth → Type 0
GrownOver arcs g = Grown (vec_len g.up) (length arcs) OPEN_END (tail_of arcs) (head_of arcs) (fns_of g)

-- the growth goes on at this event: open are the event and those above it
abbrev pub IsCurrent : Growth → ℕ → Type 0
IsCurrent g u = OpenAt OPEN_END (fns_of g) u

-- no event that was seen is open
abbrev pub AllClosed : Growth → Type 0
AllClosed g = (x : ℕ) → 0 < at g.place.items x → at g.last.items x < OPEN_END

-- what was seen stays seen
abbrev pub KeepsSeen : Growth → Growth → Type 0
KeepsSeen old new = (x : ℕ) → 0 < at old.place.items x → 0 < at new.place.items x

-- what is left to do: the rows to be looked at, and the events to be closed
abbrev pub work_left : Growth → ℕ
work_left g = sum g.left.items + count_by (λ x. x == OPEN_END) g.last.items
