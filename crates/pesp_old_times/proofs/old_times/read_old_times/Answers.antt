use Rattle.std.proofs.Common.{◌∙◌, sym, ap, arith, rules, ◌++◌, ◌∷◌, [], ℕ, ℤ, length, inr, to_z-of_z, w64, SFits}
use Rattle.std.specs.Prelude.{sum_by}
use Rattle.std.specs.Ordering.{int_eq}
use Rattle.std.proofs.lemmas.List.Sums.{count_by-le-length}
use Rattle.indexmap.specs.IndexMap.{get}
use Rattle.csv.specs.Reading.{strip_bom}
use Rattle.pesp_report.proofs.TimeLines.{most_lines}
use Rattle.pesp_old_times.specs.OldTimes.{is_stray, lack}
use Rattle.pesp_old_times.proofs.Entries.{reads-all, reads-fault, reads-more}
use Rattle.pesp_old_times.proofs.Mark.{no-longer}
use Rattle.pesp_old_times.proofs.Slots.{told-each}
use Rattle.pesp_old_times.proofs.old_times.read_old_times.Goals as goal

pub overflow_add-n : goal.overflow_add-n
overflow_add-n c = omega (
  arith,
  most_lines (strip_bom c.args.text.now),
  no-longer c.args.text.now,
  c.loop-line.invariant.2.1.count,
  ap length c.in-Some.ensures.steps,
)

pub note-requires : goal.note-requires
note-requires c = omega (
  arith,
  most_lines (strip_bom c.args.text.now),
  no-longer c.args.text.now,
  c.loop-line.invariant.2.1.count,
  ap length c.in-Some.ensures.steps,
  c.loop-line.invariant.2.1.few,
  c.loop-line.invariant.2.2.strays,
  count_by-le-length (is_stray c.events-events.result.now) c.loop-line.invariant.2.0,
)

pub loop-line-preserved-in-Continue-branch-2 : goal.loop-line-preserved-in-Continue-branch-2
loop-line-preserved-in-Continue-branch-2 c =
    let es = c.loop-line.invariant.2.0 in
    let e : ℤ × ℕ = (c.in-Some-entry_of.label, c.in-Some-entry_of.time) in
    let r = rw c.in-Some.ensures.steps at c.loop-line.invariant.2.1 in
    let tells = sym c.names_a_time.ensures ∙ c.if-names_a_time.true in
    let more = reads-more c.period-period.result (strip_bom c.args.text.now) c.in-Some.line.now c.next.new.self
    c.loop-line.n es r e tells (sym c.entry_of.ensures ∙ c.in-Some-entry_of.is) in
    let fits : SFits w64 c.in-Some-entry_of.label = search rules in
    let same = to_z-of_z {w = w64} {z = c.in-Some-entry_of.label} fits in
    let noted = rw same at (c.in_ok-note-in-Some-entry_of.ensures c.events-events.result.now es c.loop-line.invariant.2.2) in
    (tt, tt, (es ++ e ∷ [], more, noted))

pub returns-in-None-entry_of-clause-refused : goal.returns-in-None-entry_of-clause-refused
returns-in-None-entry_of-clause-refused c =
    let r = rw c.in-Some.ensures.steps at c.loop-line.invariant.2.1 in
    let tells = sym c.names_a_time.ensures ∙ c.if-names_a_time.true in
    let fault = reads-fault c.period-period.result (strip_bom c.args.text.now) c.in-Some.line.now c.next.new.self
    c.loop-line.n c.loop-line.invariant.2.0 r tells (sym c.entry_of.ensures ∙ c.in-None-entry_of.is) in
    inr (rw c.period-period.ensures.period at fault)

pub returns-clause-told : goal.returns-clause-told
returns-clause-told c =
    let es = c.loop-line.invariant.2.0 in
    let events = c.events-events.result.now in
    let r = rw c.in-None.ensures.steps.0 at c.loop-line.invariant.2.1 in
    let all = reads-all c.period-period.result (strip_bom c.args.text.now) c.loop-line.n es r in
    let each = told-each c.events-events.result.now c.events-events.result.now es
    (get int_eq c.loop-line.table.slots) c.loop-line.invariant.2.2.slots (λ q there. there) in (
      es,
      rw c.period-period.ensures.period at all,
      record {
        times_told = rw c.events-events.ensures.events at (c.in_ok-times.ensures ∙ each);
        without = c.count_missing-missing.ensures ∙ ap (sum_by lack) c.deref.ensures.value;
        others = rw c.events-events.ensures.events at c.loop-line.invariant.2.2.strays;
      },
    )
