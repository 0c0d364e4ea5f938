use Rattle.std.proofs.Common.{◌≡◌, ◌<◌, ◌≤◌, ℕ, List, All, sym, ap, ◌∙◌, Bool, false, ℤ, ◌-ℤ◌, arith}
use Rattle.std.proofs.lemmas.List.Elements.{All-weaker}
use Rattle.std.specs.Prelude.{if◌then◌else◌}
use Rattle.std.proofs.lemmas.Int.{ints}
use Rattle.pesp_problem.specs.Timetables.{remainder}
use Rattle.pesp_reduce.specs.Times.{shifted, is_bridge}
use Rattle.pesp_reduce.proofs.times.lifted_slack.Goals as goal

below_most : (period : ℕ) (xs : List ℕ) → period ≤ 10000 → All (λ t. t < period) xs → All (λ t. t < 10000) xs
below_most period xs most below =
    All-weaker (λ t. t < period) (λ t. t < 10000) (λ t less. omega (arith, less, most)) xs below

pub shifted-head-requires-clause-times : goal.shifted-head-requires-clause-times
shifted-head-requires-clause-times c = below_most c.args.period c.args.times.now c.requires.most c.requires.times

pub shifted-head-requires-clause-shifts : goal.shifted-head-requires-clause-shifts
shifted-head-requires-clause-shifts c = below_most c.args.period c.args.shifts.now c.requires.most c.requires.shifts

pub shifted-tail-requires-clause-times : goal.shifted-tail-requires-clause-times
shifted-tail-requires-clause-times c = below_most c.args.period c.args.times.now c.requires.most c.requires.times

pub shifted-tail-requires-clause-shifts : goal.shifted-tail-requires-clause-shifts
shifted-tail-requires-clause-shifts c = below_most c.args.period c.args.shifts.now c.requires.most c.requires.shifts

pub returns-clause-value : goal.returns-clause-value
returns-clause-value c =
    let e : is_bridge c.args.fate ≡ false = sym c.is_bridge.ensures ∙ c.if-is_bridge.false in
    let y = remainder c.args.period ((shifted c.args.stands.now c.args.shifts.now c.args.times.now
    c.args.row.now.head -ℤ shifted c.args.stands.now c.args.shifts.now c.args.times.now c.args.row.now.tail) -ℤ
    c.args.row.now.lower) in
    let a = c.shifted-head.ensures.size in let b = c.shifted-tail.ensures.size in let l = c.requires.lower in
    let h = c.shifted-head.ensures.value in let t = c.shifted-tail.ensures.value in
    let z : c.wrapped.result ≡ y = c.wrapped.ensures.value ∙ ap (λ (w : ℤ). remainder c.args.period w) (omega (arith, ints, h, t)) in
    z ∙ sym (ap (λ (b : Bool). if b then 0 else y) e)
