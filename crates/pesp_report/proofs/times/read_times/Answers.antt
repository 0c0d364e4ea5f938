use Rattle.std.proofs.Common.{◌≡◌, ◌∙◌, sym, ap, arith, length, vec_len, inr}
use Rattle.pesp_report.proofs.TimeLines.{most_lines, reads-all, reads-fault, reads-more, reads-short}
use Rattle.pesp_report.specs.TimesText.{time_lines}
use Rattle.pesp_report.proofs.Told.{lines-all-tell, lines-tell}
use Rattle.pesp_report.proofs.times.read_times.Goals as goal

pub overflow_add-n : goal.overflow_add-n
overflow_add-n c = omega (arith, most_lines c.args.text.now, c.loop-line.invariant.2.count, ap length c.in-Some.ensures.steps)

pub loop-line-preserved-in-Continue-1 : goal.loop-line-preserved-in-Continue-1
loop-line-preserved-in-Continue-1 c =
    let r = rw c.in-Some.ensures.steps at c.loop-line.invariant.2 in
    let tells = sym c.names_a_time.ensures ∙ c.if-names_a_time.true in
    let same : vec_len c.loop-line.times ≡ length c.loop-line.times.items = omega (arith, c.loop-line.times.ok) in
    let time = rw (c.len.ensures, same) at (sym c.in-Some-time_at.ensures.time) in
    let more = reads-more c.period-period.result c.events-events.result.now c.args.text.now c.in-Some.line.now
    c.next.new.self c.loop-line.n c.loop-line.times.items r c.in-Some-time_at.time tells time
    c.in-Some-time_at.ensures.below in
    (tt, tt, rw c.in_ok-push-in-Some-time_at.ensures.items more)

pub returns-in-None-time_at-clause-refused : goal.returns-in-None-time_at-clause-refused
returns-in-None-time_at-clause-refused c =
    let r = rw c.in-Some.ensures.steps at c.loop-line.invariant.2 in
    let tells = sym c.names_a_time.ensures ∙ c.if-names_a_time.true in
    let same : vec_len c.loop-line.times ≡ length c.loop-line.times.items = omega (arith, c.loop-line.times.ok) in
    let time = rw (c.len.ensures, same) at (sym c.in-None-time_at.ensures.time) in
    let fault = reads-fault c.period-period.result c.events-events.result.now c.args.text.now c.in-Some.line.now
    c.next.new.self c.loop-line.n c.loop-line.times.items r tells time in
    inr (rw (c.period-period.ensures.period, c.events-events.ensures.events) at fault)

pub returns-then-len-events-clause-refused : goal.returns-then-len-events-clause-refused
returns-then-len-events-clause-refused c =
    let r = rw c.in-None.ensures.steps.0 at c.loop-line.invariant.2 in
    let short = reads-short c.period-period.result c.events-events.result.now c.args.text.now c.loop-line.n
    c.loop-line.times.items r (omega (arith, c.len-2.ensures)) in
    inr (rw (c.period-period.ensures.period, c.events-events.ensures.events) at short)

pub returns-clause-exact : goal.returns-clause-exact
returns-clause-exact c =
    let r = rw c.in-None.ensures.steps.0 at c.loop-line.invariant.2 in
    let all = reads-all c.period-period.result c.events-events.result.now c.args.text.now c.loop-line.n
    c.loop-line.times.items r (omega (arith, c.len-2.ensures)) in
    rw (c.period-period.ensures.period, c.events-events.ensures.events) at all

pub returns-clause-told : goal.returns-clause-told
returns-clause-told c =
    let r = rw c.in-None.ensures.steps.0 at c.loop-line.invariant.2 in
    let all = reads-all c.period-period.result c.events-events.result.now c.args.text.now c.loop-line.n
    c.loop-line.times.items r (omega (arith, c.len-2.ensures)) in
    rw c.events-events.ensures.events at (lines-tell c.period-period.result c.events-events.result.now
    (time_lines c.args.text.now) c.loop-line.times.items (lines-all-tell c.args.text.now) all)
