use Rattle.std.proofs.Common.{◌≡◌, ◌<◌, sym, subst, ◌∷◌, [], length, get_or}
use Rattle.pesp_problem.specs.Arcs.{net_of}
use Rattle.pesp_problem.specs.Nodes.{root}
use Rattle.pesp_truth.specs.declared.tree.TreeLine.{TreeLine}
use Rattle.pesp_truth.specs.Trees.{Line}
use Rattle.pesp_truth.specs.Certificates.{claim_of, least_of}
use Rattle.pesp_judges.specs.Lines.{after, KeepsLineLimits}
use Rattle.pesp_whole_check.proofs.Limits.{line_limits}
use Rattle.pesp_whole_check.specs.Costs.{line_shows, LineIsNamed}
use Rattle.pesp_whole_check.proofs.Shown.{next_named, one_shown}
use Rattle.pesp_whole_check.proofs.costs.tree_costs.Goals as goal

pub pass_line-requires-clause-named : goal.pass_line-requires-clause-named
pass_line-requires-clause-named c =
    let p = c.args.checker.now.instance.now in
    let told = c.args.checker.now.claim in
    let claim = claim_of c.args.front.now (net_of p) (least_of c.args.certificate.now.answer) in
    let table = c.args.certificate.now.cycles in
    let tree = c.args.certificate.now.tree in
    let k = c.loop-line.line-index in
    let within : k < length tree = rw c.tree-line-items.ensures.value at c.loop-line-test.true in
    let is : c.line-item.result ≡ get_or tree k c.line-item.result = rw c.tree-line-items.ensures.value at c.line-item.is in
    let cycles = length c.args.checker.now.table.now in
    let P : Line → Type 0 = LineIsNamed told (length p.rows) cycles in
    subst P (sym c.said_by.ensures.line) (next_named p table told claim c.requires.told tree (root (net_of p) table ∷ []) k
    c.loop-line.walk.nodes c.loop-line.shown.items c.loop-line.invariant.shown c.line-item.result within is cycles
    c.requires.nets.long)

pub pass_line-requires-clause-limits : goal.pass_line-requires-clause-limits
pass_line-requires-clause-limits c =
    let tree = c.args.certificate.now.tree in
    let k = c.loop-line.line-index in
    let within : k < length tree = rw c.tree-line-items.ensures.value at c.loop-line-test.true in
    let is : c.line-item.result ≡ get_or tree k c.line-item.result = rw c.tree-line-items.ensures.value at c.line-item.is in
    let P : TreeLine → Type 0 = KeepsLineLimits in
    c.said_by.ensures.limits (subst P (sym is)
    (line_limits tree c.tree-line-items.ensures.limits.each_line k c.line-item.result within))

pub loop-line-preserved : goal.loop-line-preserved
loop-line-preserved c =
    let p = c.args.checker.now.instance.now in
    let claim = claim_of c.args.front.now (net_of p) (least_of c.args.certificate.now.answer) in
    let tree = c.args.certificate.now.tree in
    let table = c.args.certificate.now.cycles in
    let k = c.loop-line.line-index in
    let within : k < length tree = rw c.tree-line-items.ensures.value at c.loop-line-test.true in
    let is : c.line-item.result ≡ get_or tree k c.line-item.result = rw c.tree-line-items.ensures.value at c.line-item.is in
    let passed = c.in_ok-cost.ensures in
    let here = passed.shown table claim c.requires.nets c.requires.told in
    let V : Line → Type 0 = λ l. c.in_ok-cost.cost ≡ line_shows claim (net_of p) table l here.0 in
    let N : Line → Type 0 = λ l. c.pass_line.new.walk.nodes ≡ after l c.loop-line.walk.nodes in
    record {
      problem = passed.problem;
      cycles = passed.cycles;
      zeros = passed.zeros;
      shown = one_shown p table claim tree (root (net_of p) table ∷ []) k
          c.loop-line.walk.nodes c.loop-line.shown.items c.loop-line.invariant.shown c.line-item.result within is
          c.pass_line.new.walk.nodes c.push.new.self.items c.in_ok-cost.cost here.0 here.1 here.2
          (subst V c.said_by.ensures.line here.3) (subst N c.said_by.ensures.line passed.nodes)
          c.in_ok-push.ensures.items;
    }
