use Rattle.std.proofs.Common.{subst, length}
use Rattle.std.specs.Prelude.{Option, ◌||◌}
use Rattle.pesp_problem.specs.Arcs.{arc_at}
use Rattle.pesp_problem.specs.Nodes.{slack_range}
use Rattle.pesp_truth.specs.declared.visit.Narrowed.{Narrowed}
use Rattle.pesp_truth.specs.Sets.{family_at}
use Rattle.pesp_truth.specs.Visits.{IsVisit}
use Rattle.pesp_truth.specs.Rounds.{net_at}
use Rattle.pesp_truth.proofs.Rounding.{passed, refuted, visited, or_true, or_false}
use Rattle.pesp_truth.proofs.rounds.visit_at.Goals as goal

pub returns-then-not-has_mark-2 : goal.returns-then-not-has_mark-2
returns-then-not-has_mark-2 c =
    passed (net_at c.args.period c.args.arcs.now) c.args.ranges.now _ c.args.place c.args.before.now c.args.now.now
    c.args.words.now c.requires.place c.requires.wide c.requires.round
    (c.has_mark.ensures c.if-not-has_mark.true) (c.has_mark-then-not-has_mark.ensures c.if-not-has_mark-2.true)

pub returns-in_default : goal.returns-in_default
returns-in_default c =
    let n = net_at c.args.period c.args.arcs.now in
    let P : Option Narrowed → Type 0 = λ o. IsVisit c.args.period (arc_at c.args.arcs.now c.args.place)
    (slack_range c.args.ranges.now c.args.place) c.args.words.now c.visit.new.words o in
    refuted n c.args.ranges.now (length c.args.before.now) c.args.place
    (family_at c.args.period c.args.words.now) c.requires.ends c.requires.place c.requires.wide
    (subst P c.in_default.is c.visit.ensures)

pub returns : goal.returns
returns c =
    let n = net_at c.args.period c.args.arcs.now in
    let narrowed = c.in-Some.narrowed in
    visited n c.args.ranges.now (length c.args.before.now) c.args.place c.args.before.now c.args.now.now
    c.mark_ends.new.marks c.args.words.now c.visit.new.words narrowed
    (narrowed.tail || narrowed.head) c.requires.ends c.requires.place c.requires.wide c.requires.round
    c.in-Some.ensures (record {
      kept = c.mark_ends.ensures.kept;
      tail = c.mark_ends.ensures.tail;
      head = c.mark_ends.ensures.head;
      none = c.mark_ends.ensures.none;
    }) (or_true narrowed.tail narrowed.head)
    (or_false narrowed.tail narrowed.head)
