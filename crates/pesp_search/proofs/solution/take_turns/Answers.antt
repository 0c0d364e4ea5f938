use Rattle.std.proofs.Common.{subst, rules}
use Rattle.pesp_network.specs.Networks.{KeepsNetLimits}
use Rattle.pesp_nodes.specs.Problems.{ProblemValue}
use Rattle.pesp_search.proofs.Turns.{all_used, none_open, fills_tree}
use Rattle.pesp_search.proofs.solution.take_turns.Goals as goal

pub returns-in-StepsUsed-clause-turns : goal.returns-in-StepsUsed-clause-turns
returns-in-StepsUsed-clause-turns g c =
    let p = c.args.search.now.board.problem in
    let done = c.in_ok-ended.ensures in
    let turns = rw c.in-StepsUsed.is at (done.counted c.requires.searched c.requires.worked) in
    all_used p c.args.steps c.in_ok-ended.ended.used c.args.search.now.board.state c.run.new.self.board.state
    (subst (λ (x : ProblemValue). KeepsNetLimits x.network) c.problem.ensures c.keeps_limits.ensures.network)
    done.few done.grows c.requires.worked turns

pub returns-in-StepsUsed-clause-refused : goal.returns-in-StepsUsed-clause-refused
returns-in-StepsUsed-clause-refused g c = search rules

pub returns-in-NoneOpen-clause-turns : goal.returns-in-NoneOpen-clause-turns
returns-in-NoneOpen-clause-turns g c =
    let p = c.args.search.now.board.problem in
    let done = c.in_ok-ended.ensures in
    let turns = rw c.in-NoneOpen.is at (done.counted c.requires.searched c.requires.worked) in
    none_open p c.args.steps c.in_ok-ended.ended.used c.args.search.now.board.state c.run.new.self.board.state
    (subst (λ (x : ProblemValue). KeepsNetLimits x.network) c.problem.ensures c.keeps_limits.ensures.network)
    done.few done.grows c.requires.worked turns

pub returns-in-TreeTooLarge-clause-refused : goal.returns-in-TreeTooLarge-clause-refused
returns-in-TreeTooLarge-clause-refused g c =
    let done = c.in_ok-ended.ensures in
    let many = rw c.in-TreeTooLarge.is at (done.counted c.requires.searched c.requires.worked) in
    fills_tree c.args.search.now.board.problem c.args.search.now.known.reduced c.args.steps
    c.in_ok-ended.ended.used c.args.search.now.board.state c.run.new.self.board.state done.few done.grows
    c.requires.worked many (λ settled. rw c.in-TreeTooLarge.is at (done.ends settled))

pub unreachable-requires : goal.unreachable-requires
unreachable-requires g c = rw c.in-NumbersSpent.is at (c.in_ok-ended.ensures.counted c.requires.searched c.requires.worked)

pub unreachable-requires-in-TurnsUsed : goal.unreachable-requires-in-TurnsUsed
unreachable-requires-in-TurnsUsed g c = rw c.in-TurnsUsed.is at (c.in_ok-ended.ensures.counted c.requires.searched c.requires.worked)
