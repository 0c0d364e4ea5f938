use Rattle.std.proofs.Common.{◌≡◌, ◌+◌, arith, refl, sym, subst, length, List}
use Rattle.pesp_problem.specs.declared.nets.NetCount.{NetCount}
use Rattle.pesp_judges.specs.Showing.{kept_of_lemma, CyclesShown}
use Rattle.pesp_judges.proofs.Telling.{cycle_shown, cycle_fault}
use Rattle.pesp_judges.proofs.lemma_judge.LemmaJudge.take_cycle.Goals as goal

pub returns-in-Err-clause-verdict : goal.returns-in-Err-clause-verdict
returns-in-Err-clause-verdict g c s at k limits before within is line =
    let j = c.args.self.now in
    let number : c.len-2.result + 1 ≡ length j.table.items + 1 = (let l = j.table.ok.0 in omega (arith, c.len-2.ensures)) in
    cycle_fault j.instance.now s at (kept_of_lemma j) k before within (g.R.Elements.elements c.args.rows) is c.in-Err.refusal _ _ number line
    (rw c.in-Err.is at c.in_ok-nets.ensures.verdict)

pub returns-in_ok-add_nets-in-Ok-clause-verdict : goal.returns-in_ok-add_nets-in-Ok-clause-verdict
returns-in_ok-add_nets-in-Ok-clause-verdict g c s at k limits before within is line =
    let j = c.args.self.now in
    let found = rw c.in-Ok.is at c.in_ok-nets.ensures.verdict in
    let P : List (List NetCount) → Type 0 = λ t. CyclesShown j.instance.now s at (record (kept_of_lemma j) { table = t }) (k + 1) in
    subst P (sym c.in_ok-add_nets-in-Ok.ensures.items)
    (cycle_shown j.instance.now s at (kept_of_lemma j) k before within (g.R.Elements.elements c.args.rows) is c.in-Ok.nets _ refl found.0 found.1)

pub invariant_of-self-in-Ok-clause-small : goal.invariant_of-self-in-Ok-clause-small
invariant_of-self-in-Ok-clause-small g c =
    let found = rw c.in-Ok.is at c.in_ok-nets.ensures.verdict in
    c.add_nets.ensures.small (length c.args.self.now.instance.now.rows) c.args.self.now.small found.1.small
