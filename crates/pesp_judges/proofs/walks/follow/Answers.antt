use Rattle.std.proofs.Common.{◌-◌, ◌<◌, arith, refl, length, get_or}
use Rattle.std.specs.Prelude.{pos, ◌+ℤ◌}
use Rattle.pesp_problem.specs.Arcs.{arcs_of}
use Rattle.pesp_problem.specs.Walks.{Names, sign}
use Rattle.pesp_leaves.proofs.Arcs.{arcs_long}
use Rattle.pesp_judges.proofs.Following.{followed_next, counted_small, counted_more, counted_all, placed_more}
use Rattle.pesp_judges.proofs.walks.follow.Goals as goal

pub count_row-requires-clause-small : goal.count_row-requires-clause-small
count_row-requires-clause-small g c =
    let elements = g.R.Elements.elements in
    let s = c.in-Some.s in
    let exists = c.if-not-row_exists.ensures.0 refl in
    let inside : s.row - 1 < length c.loop-s.working =
    omega (arith, exists, arcs_long c.args.instance.now, c.loop-s.auto.working, c.requires.long) in
    counted_small (elements c.args.rows) (elements c.loop-s.left)
    (elements c.take_next.new.self) s c.in-Some.ensures c.loop-s.working c.loop-s.invariant.counts
    (s.row - 1) inside c.requires.short

pub loop-s-preserved : goal.loop-s-preserved
loop-s-preserved g c =
    let elements = g.R.Elements.elements in
    let s = c.in-Some.s in
    let exists = c.if-not-row_exists.ensures.0 refl in
    let named : Names (length c.loop-s.working) s.row = (
      omega (arith, exists),
      omega (
        arith,
        exists,
        arcs_long c.args.instance.now,
        c.loop-s.auto.working,
        c.requires.long,
      ),
    ) in
    let inside : s.row - 1 < length c.loop-s.working = omega (arith, named) in
    record {
      way = rw c.ends-start.ensures.finish (followed_next (arcs_of c.args.instance.now) (elements c.args.rows)
          (elements c.loop-s.left) (elements c.take_next.new.self) s c.in-Some.ensures c.args.begin c.loop-s.at
          c.loop-s.joined c.ends-start.result.0 c.ends-start.ensures.start exists c.loop-s.invariant.way);
      counts = rw c.in_ok-count_row.ensures.counts
          (counted_more (elements c.args.rows) (elements c.loop-s.left)
          (elements c.take_next.new.self) s c.in-Some.ensures c.loop-s.working c.loop-s.invariant.counts named);
      places = rw c.in_ok-count_row.ensures.counts
          (placed_more c.loop-s.places.items c.count_row.new.places.items c.loop-s.working (s.row - 1)
          (get_or c.loop-s.working (s.row - 1) (pos 0) +ℤ sign s) inside c.in_ok-count_row.ensures.places
          c.loop-s.invariant.places);
    }

pub returns-then-at-begin-clause-counts : goal.returns-then-at-begin-clause-counts
returns-then-at-begin-clause-counts g c _ = counted_all (g.R.Elements.elements c.args.rows)
    (g.R.Elements.elements c.loop-s.left) c.loop-s.working c.in_default.ensures c.loop-s.invariant.counts
