use Rattle.std.proofs.Common.{true, false}
use Rattle.pesp_search.proofs.RootLooks.{root_lent, handed_root, root_given, shuts_root, root_worked, root_refused, found_at_root, root_bound}
use Rattle.pesp_search.proofs.root.look_at_root.Goals as goal

pub hand_in-requires : goal.hand_in-requires
hand_in-requires c =
    let p = c.args.board.now.problem in
    let lent = root_lent p c.problem.result.now c.args.board.now.state c.lend_root.new.board.state c.in_ok-job.job
    c.problem.ensures c.keeps_limits.ensures.network c.keeps_limits.ensures.table c.requires.opening
    c.in_ok-job.ensures.lends in
    let shuts = shuts_root p c.lend_root.new.board.problem c.problem-4.result.now c.args.root.now c.in_ok-shut.shut
    c.in_ok-job.ensures.problem c.problem-4.ensures c.requires.root c.in_ok-shut.ensures in
    handed_root p c.lend_root.new.board.problem c.problem-3.result.now c.lend_root.new.board.state c.in_ok-job.job
    c.args.root.now c.in_ok-shut.shut c.in_ok-leaf.leaf c.work_of.result c.in_ok-job.ensures.problem
    c.problem-3.ensures c.requires.root lent c.in_ok-leaf.ensures.leaf shuts c.work_of.ensures

pub returns-then-not-taken-clause-refused : goal.returns-then-not-taken-clause-refused
returns-then-not-taken-clause-refused c =
    let p = c.args.board.now.problem in
    let mid = c.lend_root.new.board.state in
    let new = c.hand_in.new.board.state in
    let lent = root_lent p c.problem.result.now c.args.board.now.state mid c.in_ok-job.job c.problem.ensures
    c.keeps_limits.ensures.network c.keeps_limits.ensures.table c.requires.opening c.in_ok-job.ensures.lends in
    root_refused p mid new c.in_ok-job.job c.in_ok-shut.shut c.in_ok-leaf.leaf lent
    (root_given p c.lend_root.new.board.problem mid new c.in_ok-job.job.number c.work_of.result c.in_ok-shut.shut
    c.in_ok-leaf.leaf false c.in_ok-job.ensures.problem c.work_of.ensures
    (rw c.if-not-taken.true at c.in_ok-taken.ensures.given))

pub returns-clause-worked : goal.returns-clause-worked
returns-clause-worked c =
    let p = c.args.board.now.problem in
    let mid = c.lend_root.new.board.state in
    let new = c.hand_in.new.board.state in
    let lent = root_lent p c.problem.result.now c.args.board.now.state mid c.in_ok-job.job c.problem.ensures
    c.keeps_limits.ensures.network c.keeps_limits.ensures.table c.requires.opening c.in_ok-job.ensures.lends in
    root_worked p mid new c.in_ok-job.job c.in_ok-shut.shut c.in_ok-leaf.leaf lent
    (root_given p c.lend_root.new.board.problem mid new c.in_ok-job.job.number c.work_of.result c.in_ok-shut.shut
    c.in_ok-leaf.leaf true c.in_ok-job.ensures.problem c.work_of.ensures
    (rw c.if-not-taken.false at c.in_ok-taken.ensures.given))

pub returns-clause-least : goal.returns-clause-least
returns-clause-least c =
    let p = c.args.board.now.problem in
    let mid = c.lend_root.new.board.state in
    let new = c.hand_in.new.board.state in
    let lent = root_lent p c.problem.result.now c.args.board.now.state mid c.in_ok-job.job c.problem.ensures
    c.keeps_limits.ensures.network c.keeps_limits.ensures.table c.requires.opening c.in_ok-job.ensures.lends in
    let found = found_at_root p c.lend_root.new.board.problem c.problem-2.result.now c.problem-3.result.now
    c.args.root.now c.in_ok-start.start.items c.deref.result.now c.in_ok-leaf.leaf c.in_ok-job.ensures.problem
    c.problem-2.ensures c.problem-3.ensures c.requires.root c.deref.ensures.value c.in_ok-start.ensures
    c.in_ok-leaf.ensures.leaf c.in_ok-leaf.ensures.start in
    (let shuts = shuts_root p c.lend_root.new.board.problem c.problem-4.result.now c.args.root.now
    c.in_ok-shut.shut c.in_ok-job.ensures.problem c.problem-4.ensures c.requires.root c.in_ok-shut.ensures in
    root_bound p mid new c.in_ok-job.job c.in_ok-shut.shut c.in_ok-leaf.leaf lent found shuts
    (root_given p c.lend_root.new.board.problem mid new c.in_ok-job.job.number c.work_of.result c.in_ok-shut.shut
    c.in_ok-leaf.leaf true c.in_ok-job.ensures.problem c.work_of.ensures
    (rw c.if-not-taken.false at c.in_ok-taken.ensures.given)))
