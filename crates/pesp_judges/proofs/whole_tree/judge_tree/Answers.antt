use Rattle.std.proofs.Common.{◌≡◌, ◌+◌, ◌∙◌, sym, subst, refl, true, false}
use Rattle.std.specs.Prelude.{is_some}
use Rattle.pesp_problem.specs.Arcs.{net_of}
use Rattle.pesp_problem.specs.Nodes.{root}
use Rattle.pesp_truth.specs.Trees.{Line}
use Rattle.pesp_judges.specs.Lines.{after, IsLineVerdict}
use Rattle.pesp_judges.proofs.Options.{match_none, none_then, of_some}
use Rattle.pesp_judges.proofs.Judged.{open_there, whole_more, judged_more, judged_all, fault_here}
use Rattle.pesp_judges.proofs.whole_tree.judge_tree.Goals as goal

pub loop-place-preserved : goal.loop-place-preserved
loop-place-preserved c =
    let none : is_some c.in_ok-found.found ≡ false = sym c.is_some.ensures ∙ c.if-is_some.false in
    let N : Line → Type 0 = λ l. c.take_line.new.walk.nodes ≡ after l c.loop-place.walk.nodes in
    let nodes = subst N c.said_by.ensures.line (none_then c.in_ok-found.found _ none c.in_ok-found.ensures.nodes) in
    record {
      problem = c.in_ok-found.ensures.problem;
      cycles = c.in_ok-found.ensures.cycles;
      zeros = c.in_ok-found.ensures.zeros;
      room = rw c.take_line.auto.rates c.loop-place.invariant.room;
      whole = whole_more c.args.lines.now c.loop-place.place c.index-lines-place.result c.loop-place-test.true
          c.index-lines-place.is c.loop-place.walk.nodes c.take_line.new.walk.nodes nodes
          c.loop-place.invariant.whole;
      judged = λ walks claim nets told.
          let V : Line → Type 0 = λ l. IsLineVerdict claim (net_of c.args.checker.now.instance.now) walks l c.loop-place.walk.nodes
          c.take_line.new.walk.nodes (c.args.first + c.loop-place.place) c.in_ok-found.found in
          let sound = match_none c.in_ok-found.found _ _ none (subst V c.said_by.ensures.line (c.in_ok-found.ensures.verdict walks claim nets told)) in
          judged_more c.args.lines.now c.loop-place.place c.index-lines-place.result c.loop-place-test.true
          c.index-lines-place.is claim (net_of c.args.checker.now.instance.now) walks
          (root (net_of c.args.checker.now.instance.now) walks) c.args.first c.loop-place.walk.nodes
          (c.loop-place.invariant.judged walks claim nets told) c.take_line.new.walk.nodes sound.0 nodes;
    }

pub take_line-requires-clause-open : goal.take_line-requires-clause-open
take_line-requires-clause-open c = open_there c.args.lines.now c.loop-place.place c.index-lines-place.result c.loop-place-test.true
    c.index-lines-place.is c.loop-place.walk.nodes c.loop-place.invariant.whole

pub returns-then-is_some : goal.returns-then-is_some
returns-then-is_some c walks claim nets told =
    let some : is_some c.in_ok-found.found ≡ true = sym c.is_some.ensures ∙ c.if-is_some.true in
    let n = net_of c.args.checker.now.instance.now in
    let V : Line → Type 0 = λ l. IsLineVerdict claim n walks l c.loop-place.walk.nodes c.take_line.new.walk.nodes
    (c.args.first + c.loop-place.place) c.in_ok-found.found in
    of_some c.in_ok-found.found _ _ _ _ some (subst V c.said_by.ensures.line (c.in_ok-found.ensures.verdict walks claim nets told))
    (λ refusal f. fault_here c.args.lines.now c.loop-place.place c.index-lines-place.result c.loop-place-test.true
    c.index-lines-place.is claim n walks (root n walks) c.args.first
    c.loop-place.walk.nodes (c.loop-place.invariant.judged walks claim nets told) (c.args.first + c.loop-place.place) refusal refl f)

pub returns : goal.returns
returns c walks claim nets told =
    let n = net_of c.args.checker.now.instance.now in
    judged_all claim n walks c.args.lines.now (root n walks) c.args.first
    c.loop-place.walk.nodes c.loop-place.place c.loop-place-test.false c.loop-place.invariant.whole
    (c.loop-place.invariant.judged walks claim nets told)
