use Rattle.std.proofs.Common.{◌≡◌, Bool, true, false, subst}
use Rattle.std.specs.Prelude.{IsTrue}
use Rattle.pesp_truth.specs.Sets.{family_at}
use Rattle.pesp_truth.specs.Windows.{NarrowsFamily}
use Rattle.pesp_truth.proofs.Revising.{AreWindows, tail_refutes, head_refutes, narrowed}
use Rattle.pesp_truth.proofs.visit.revise.Goals as goal

never : {P : Type 0} (b : Bool) → b ≡ false → (P → IsTrue b) → P → ⊥
never true e f p = absurd (cc)
never false e f p = let t : false ≡ true = f p in absurd (cc)

pub returns-then-not-has_some : goal.returns-then-not-has_some
returns-then-not-has_some c =
    let w = c.windows.result in
    let are : AreWindows c.args.period c.args.shift c.args.arc.now c.args.range.0 c.args.range.1 w.0.first w.1.first w.0.count =
    record {
      some = c.requires.period.0;
      shift = c.requires.shift;
      ahead_is = c.windows.ensures.ahead;
      back_is = c.windows.ensures.back;
      count_is = c.windows.ensures.count;
    } in
    tail_refutes c.args.period c.args.shift c.args.arc.now c.args.range.0 c.args.range.1 w.0.first w.1.first
    w.0.count c.args.words.now c.narrow-tail.new.words are c.narrow-tail.ensures.narrows
    (never c.has_some.result c.if-not-has_some.true c.has_some.ensures.1)

pub returns-then-not-has_some-2 : goal.returns-then-not-has_some-2
returns-then-not-has_some-2 c =
    let w = c.windows.result in
    let are : AreWindows c.args.period c.args.shift c.args.arc.now c.args.range.0 c.args.range.1 w.0.first w.1.first w.0.count =
    record {
      some = c.requires.period.0;
      shift = c.requires.shift;
      ahead_is = c.windows.ensures.ahead;
      back_is = c.windows.ensures.back;
      count_is = c.windows.ensures.count;
    } in
    let two = subst (λ n. NarrowsFamily c.args.period c.args.arc.now.head c.args.arc.now.tail w.1.first n
    (family_at c.args.period c.narrow-tail.new.words) (family_at c.args.period c.narrow-head.new.words))
    c.windows.ensures.same c.narrow-head.ensures.narrows in
    head_refutes c.args.period c.args.shift c.args.arc.now c.args.range.0 c.args.range.1 w.0.first w.1.first
    w.0.count c.args.words.now c.narrow-tail.new.words c.narrow-head.new.words are c.requires.apart
    c.narrow-tail.ensures.narrows two
    (never c.has_some-2.result c.if-not-has_some-2.true c.has_some-2.ensures.1)

pub returns : goal.returns
returns c =
    let w = c.windows.result in
    let are : AreWindows c.args.period c.args.shift c.args.arc.now c.args.range.0 c.args.range.1 w.0.first w.1.first w.0.count =
    record {
      some = c.requires.period.0;
      shift = c.requires.shift;
      ahead_is = c.windows.ensures.ahead;
      back_is = c.windows.ensures.back;
      count_is = c.windows.ensures.count;
    } in
    let two = subst (λ n. NarrowsFamily c.args.period c.args.arc.now.head c.args.arc.now.tail w.1.first n
    (family_at c.args.period c.narrow-tail.new.words) (family_at c.args.period c.narrow-head.new.words))
    c.windows.ensures.same c.narrow-head.ensures.narrows in
    narrowed c.args.period c.args.shift c.args.arc.now c.args.range.0 c.args.range.1 w.0.first w.1.first w.0.count
    c.args.words.now c.narrow-tail.new.words c.narrow-head.new.words c.narrow-tail.result c.narrow-head.result
    are c.requires.apart
    c.narrow-tail.ensures.narrows two c.narrow-tail.ensures.less c.narrow-head.ensures.less
    (c.has_some.ensures.0 (some c.has_some.result c.if-not-has_some.false))
    (c.has_some-2.ensures.0 (some c.has_some-2.result c.if-not-has_some-2.false))
  where
    some : (b : Bool) → b ≡ true → IsTrue b
    some b e = e
