use Rattle.std.proofs.Common.{◌≡◌, ap, refl, sym, ◌∙◌, arith, length}
use Rattle.pesp_judges.specs.Pending.{Standing}
use Rattle.pesp_leaves.specs.Ranges.{node_of}
use Rattle.pesp_judges.specs.Showing.{kept_of_lemma}
use Rattle.pesp_judges.proofs.Options.{match_none, of_some}
use Rattle.pesp_judges.proofs.Telling.{mark_fault, tree_begins, rows_there}
use Rattle.pesp_judges.proofs.lemma_judge.LemmaJudge.begin_tree.Goals as goal

pub returns-then-is_some-clause-verdict : goal.returns-then-is_some-clause-verdict
returns-then-is_some-clause-verdict c earlier s at limits before =
    let j = c.args.self.now in
    let some = sym c.is_some.ensures ∙ c.if-is_some.true in
    let made = rw c.in-Ok.is at c.new-2.ensures.parts in
    let is = rw c.replace-walks.ensures.value at made in
    let number : c.len-cycles.result ≡ length j.table.items = (let l = j.table.ok.0 in omega (arith, c.len-cycles.ensures)) in
    of_some c.in_ok-found.found _ _ _ _ some c.in_ok-found.ensures.verdict (λ refusal h.
    mark_fault j.instance.now s at (kept_of_lemma j) limits before c.in-Ok.marks is _ _ refusal number refl h earlier)

pub returns-clause-verdict : goal.returns-clause-verdict
returns-clause-verdict c earlier s at limits before =
    let j = c.args.self.now in
    let none = sym c.is_some.ensures ∙ c.if-is_some.false in
    let made = rw c.in-Ok.is at c.new-2.ensures.parts in
    let is = rw c.replace-walks.ensures.value at made in
    let closed = match_none c.in_ok-found.found _ _ none c.in_ok-found.ensures.verdict in
    tree_begins j.instance.now s at (kept_of_lemma j) limits before c.in-Ok.marks is c.new-3.result (node_of c.in_ok-ranges.ranges) _ refl closed
    (rw c.deref.ensures.value at c.in_ok-ranges.ensures.node) (ap (λ (w : Standing). w.nodes) c.new-3.ensures) earlier

pub invariant_of-self-2-clause-exist : goal.invariant_of-self-2-clause-exist
invariant_of-self-2-clause-exist c b x same =
    let none = sym c.is_some.ensures ∙ c.if-is_some.false in
    rows_there c.args.self.now.instance.now _ c.in-Ok.marks x c.in_ok-self.ensures
    (match_none c.in_ok-found.found _ _ none c.in_ok-found.ensures.verdict) same

pub invariant_of-self-2-clause-small : goal.invariant_of-self-2-clause-small
invariant_of-self-2-clause-small c = c.args.self.now.small

pub invariant_of-self-2-clause-placed : goal.invariant_of-self-2-clause-placed
invariant_of-self-2-clause-placed c b i l =
    (rw c.weights.ensures.value at c.in_ok-self-2.ensures.value) i (omega (arith, l, c.in_ok-self-2.ensures.long))
