use Rattle.std.proofs.Common.{◌≡◌, ◌+◌, arith, ap, refl, sym, subst, length, true, List, true≢false, ◌∙◌}
use Rattle.pesp_check.specs.Judging.{JudgedAt, is_before_tree}
use Rattle.pesp_check.specs.Views.{kept}
use Rattle.std.specs.Option.{is_some}
use Rattle.pesp_problem.specs.declared.nets.NetCount.{NetCount}
use Rattle.pesp_cert_items.specs.Lent.{rows_in}
use Rattle.pesp_check.proofs.Cycles.{walk_taken, walk_refused}
use Rattle.pesp_check.proofs.judge.Judge.judge_walk.Goals as goal

pub returns-in-Err-clause-judged : goal.returns-in-Err-clause-judged
returns-in-Err-clause-judged c front c' rest before =
    let j = c.args.self.now in
    let fault = rw c.in-Err.is at c.in_ok-nets.ensures.verdict in
    let number : c.len.result + 1 ≡ length j.table.items + 1 = (let s = j.table.ok.0 in omega (arith, c.len.ensures)) in
    walk_refused j.instance.now front c' (rows_in c.args.rows) rest
    (kept j) j.stage c.requires.stage before c.in-Err.refusal _ _ _ number refl refl refl fault

pub returns-clause-judged : goal.returns-clause-judged
returns-clause-judged c front c' rest before =
    let j = c.args.self.now in
    let found = rw c.in-Ok.is at c.in_ok-nets.ensures.verdict in
    let Q : List (List NetCount) → Type 0 = λ t.
    JudgedAt j.stage j.instance.now front c' rest (record (kept j) { line = j.line + 1; table = t }) in
    subst Q (sym c.in_ok-add_nets.ensures.items)
    (walk_taken j.instance.now front c' (rows_in c.args.rows) rest
    (kept j) j.stage c.requires.stage before c.in-Ok.nets _ refl found.0 found.1)

pub invariant_of-self-2-clause-standing : goal.invariant_of-self-2-clause-standing
invariant_of-self-2-clause-standing c x e =
    let stage : is_before_tree c.args.self.now.stage ≡ true = ap is_before_tree c.requires.stage in
    let none = c.args.self.now.begun stage in
    let some : is_some c.args.self.now.walk ≡ true = ap is_some e in
    absurd (true≢false (sym some ∙ none))

pub invariant_of-self-2-clause-small : goal.invariant_of-self-2-clause-small
invariant_of-self-2-clause-small c =
    let found = rw c.in-Ok.is at c.in_ok-nets.ensures.verdict in
    c.add_nets.ensures.small (length c.args.self.now.instance.now.rows) c.args.self.now.small found.1.small
