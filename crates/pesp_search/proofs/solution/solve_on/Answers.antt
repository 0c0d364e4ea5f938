use Rattle.std.proofs.Common.{◌≤◌, length, sym, ◌∙◌, subst, rules}
use Rattle.pesp_nodes.specs.Problems.{ProblemValue}
use Rattle.pesp_tree.specs.Certificates.{IsProblemOf}
use Rattle.pesp_branching.specs.Lifted.{IsFrugal}
use Rattle.pesp_turns.specs.declared.known.Known.{Known}
use Rattle.pesp_turns.specs.Knowing.{IsKnown}
use Rattle.pesp_turns.specs.Settling.{IsSearched}
use Rattle.pesp_branching.specs.Turns.{IsWorked}
use Rattle.pesp_search.specs.Rooting.{IsRootBound}
use Rattle.pesp_search.specs.Searching.{AreAllTurns, IsAsCheapAs}
use Rattle.pesp_search.specs.Solving.{IsSearchRefusal}
use Rattle.pesp_search.proofs.Costs.{still_cheap}
use Rattle.pesp_search.specs.Refusals.{MeetsLimit}
use Rattle.pesp_search.proofs.Solutions.{refused_for_rows, refused_at_once, meets_limit, meets_at_once}
use Rattle.pesp_search.proofs.solution.solve_on.Goals as goal

pub take_turns-requires-clause-known : goal.take_turns-requires-clause-known
take_turns-requires-clause-known g c =
    let made = c.in_ok-make_ready.ensures in
    subst (IsKnown c.make_ready.new.search.board.problem) (sym made.known)
    (subst (λ (x : ProblemValue). IsKnown x c.args.search.now.known) (sym made.problem) c.requires.begun.known)

pub take_turns-requires-clause-searched : goal.take_turns-requires-clause-searched
take_turns-requires-clause-searched g c =
    let made = c.in_ok-make_ready.ensures in
    subst (λ (k : Known). IsSearched c.make_ready.new.search.board.problem k.reduced) (sym made.known)
    (subst (λ (x : ProblemValue). IsSearched x c.args.search.now.known.reduced)
    (sym made.problem) c.requires.begun.board.searched)

pub take_turns-requires-clause-worked : goal.take_turns-requires-clause-worked
take_turns-requires-clause-worked g c =
    let made = c.in_ok-make_ready.ensures in
    subst (λ (x : ProblemValue). IsWorked x 0 c.make_ready.new.search.board.state) (sym made.problem) made.ready.worked

pub certify-requires-clause-of : goal.certify-requires-clause-of
certify-requires-clause-of g c = subst (IsProblemOf c.args.instance.now)
    (sym (c.in_ok-steps_used.ensures.problem ∙ c.in_ok-make_ready.ensures.problem)) c.requires.begun.board.of

pub certify-requires-clause-frugal : goal.certify-requires-clause-frugal
certify-requires-clause-frugal g c = subst (λ (p : ProblemValue). IsFrugal p.table)
    (sym (c.in_ok-steps_used.ensures.problem ∙ c.in_ok-make_ready.ensures.problem)) c.requires.begun.board.frugal

pub returns-clause-solved : goal.returns-clause-solved
returns-clause-solved g c =
    let made = c.in_ok-make_ready.ensures in
    let done = c.in_ok-steps_used.ensures in
    let first = c.make_ready.new.search.board.state in
    c.in_ok-solved.ensures.solved c.args.steps first
    (subst (λ (x : ProblemValue). IsRootBound x first) (sym (done.problem ∙ made.problem)) made.ready.bound)
    (subst (λ (x : ProblemValue). AreAllTurns x c.args.steps first c.in_ok-steps_used.steps_used
    c.take_turns.new.search.board.state) (sym done.problem) done.turns)

pub returns-clause-improved : goal.returns-clause-improved
returns-clause-improved g c =
    let p = c.args.search.now.board.problem in
    let made = c.in_ok-make_ready.ensures in
    let done = c.in_ok-steps_used.ensures in
    let first = c.make_ready.new.search.board.state in
    let last = c.take_turns.new.search.board.state in
    let turns = subst (λ (x : ProblemValue). AreAllTurns x c.args.steps first c.in_ok-steps_used.steps_used last) made.problem done.turns in
    c.in_ok-solved.ensures.improved c.args.times.now
    (subst (λ (x : ProblemValue). IsAsCheapAs x c.args.times.now last) (sym (done.problem ∙ made.problem))
    (still_cheap p c.args.times.now first last turns.best made.ready.cheap))

pub returns-in_err-make_ready-clause-refused : goal.returns-in_err-make_ready-clause-refused
returns-in_err-make_ready-clause-refused g c =
    let at_root = refused_for_rows c.args.instance.now c.args.search.now.board.problem 0
    c.in_err-make_ready.field-0.0 c.requires.begun.board.few c.in_err-make_ready.ensures.refused in
    let refused : IsSearchRefusal c.args.instance.now c.args.steps c.in_err-make_ready.field-0.0 =
    refused_at_once c.args.instance.now c.args.steps c.in_err-make_ready.field-0.0 at_root in
    search rules

pub returns-in_err-steps_used-clause-refused : goal.returns-in_err-steps_used-clause-refused
returns-in_err-steps_used-clause-refused g c =
    let few = subst (λ (x : ProblemValue). length x.table ≤ length c.args.instance.now.rows)
    (sym c.in_ok-make_ready.ensures.problem) c.requires.begun.board.few in
    let refused : IsSearchRefusal c.args.instance.now c.args.steps c.in_err-steps_used.field-0.0 =
    refused_for_rows c.args.instance.now c.make_ready.new.search.board.problem c.args.steps
    c.in_err-steps_used.field-0.0 few c.in_err-steps_used.ensures.refused in
    search rules

pub returns-in_err-make_ready-clause-passed : goal.returns-in_err-make_ready-clause-passed
returns-in_err-make_ready-clause-passed g c =
    let board = c.requires.begun.board in
    let at_root = meets_limit c.args.instance.now c.args.search.now.board.problem 0 c.in_err-make_ready.field-0.0
    board.of board.frugal c.in_err-make_ready.ensures.refused in
    let passed : MeetsLimit c.args.instance.now c.args.steps c.in_err-make_ready.field-0.0 =
    meets_at_once c.args.instance.now c.args.steps c.in_err-make_ready.field-0.0 at_root in
    search rules

pub returns-in_err-steps_used-clause-passed : goal.returns-in_err-steps_used-clause-passed
returns-in_err-steps_used-clause-passed g c =
    let board = c.requires.begun.board in
    let same = sym c.in_ok-make_ready.ensures.problem in
    let of = subst (IsProblemOf c.args.instance.now) same board.of in
    let frugal = subst (λ (x : ProblemValue). IsFrugal x.table) same board.frugal in
    let passed : MeetsLimit c.args.instance.now c.args.steps c.in_err-steps_used.field-0.0 =
    meets_limit c.args.instance.now c.make_ready.new.search.board.problem c.args.steps
    c.in_err-steps_used.field-0.0 of frugal c.in_err-steps_used.ensures.refused in
    search rules
