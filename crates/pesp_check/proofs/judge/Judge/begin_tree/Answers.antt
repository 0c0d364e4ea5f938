use Rattle.std.proofs.Common.{◌≡◌, ◌∙◌, ap, refl, sym, subst, arith, length, List}
use Rattle.std.specs.Prelude.{min, is_some, All}
use Rattle.pesp_problem.specs.declared.arc.Arc.{Arc}
use Rattle.pesp_problem.specs.Arcs.{arcs_of}
use Rattle.pesp_problem.specs.Walks.{RowExists}
use Rattle.pesp_problem.specs.Marked.{IsMarkedWalk}
use Rattle.pesp_truth.specs.Marks.{Marks}
use Rattle.pesp_judges.specs.Pending.{Standing}
use Rattle.pesp_judges.specs.Faults.{IsMarkFault}
use Rattle.pesp_leaves.specs.Ranges.{node_of}
use Rattle.pesp_check.specs.Views.{kept}
use Rattle.pesp_whole_check.proofs.Refusing.{of_none}
use Rattle.pesp_whole_check.proofs.Inner.{if_for, lent_if, lent_and, walks_exist}
use Rattle.pesp_check.proofs.Lines.{cycles_end, marks_refused}
use Rattle.pesp_check.proofs.judge.Judge.begin_tree.Goals as goal

pub returns-clause-judged : goal.returns-clause-judged
returns-clause-judged c front c' rest has b before =
    let j = c.args.self.now in
    let C : Marks → Type 0 = λ m. All (IsMarkedWalk (arcs_of j.instance.now)) m.walks in
    let limits = rw c.replace-draft.ensures.value at c.front_of.ensures in
    let closed = lent_if (λ m. m.now) C c.as_ref.result c.front_of.result c.as_ref.ensures.value
    (of_none c.in_ok-found.found _ _ c.in_default.not-Some c.in_ok-found.ensures.verdict) in
    cycles_end j.stage j.instance.now front c' rest (kept j) c.front_of.result c.requires.stage has b limits before c.new-2.result
    (node_of c.in_ok-ranges.ranges) _ refl closed (rw c.deref.ensures.value at c.in_ok-ranges.ensures.node)
    (ap (λ (s : Standing). s.nodes) c.new-2.ensures)

pub returns-in-Some-clause-judged : goal.returns-in-Some-clause-judged
returns-in-Some-clause-judged c front c' rest has b before =
    let j = c.args.self.now in
    let F : Marks → Type 0 = λ m. IsMarkFault (arcs_of j.instance.now) c.min-cycles.result 2 m.walks c.in-Some.refusal in
    let limits = rw c.replace-draft.ensures.value at c.front_of.ensures in
    let number : c.min-cycles.result ≡ min (length j.table.items) 100000 =
    (let s = j.table.ok.0 in omega (arith, c.len.ensures, c.min-cycles.ensures)) in
    marks_refused j.stage j.instance.now front c' rest (kept j) c.front_of.result c.requires.stage has b limits before c.in-Some.refusal
    c.min-cycles.result _ number refl refl
    (lent_and (λ m. m.now) F c.as_ref.result c.front_of.result c.as_ref.ensures.value (rw c.in-Some.is at c.in_ok-found.ensures.verdict))

pub invariant_of-self-2-clause-roomy : goal.invariant_of-self-2-clause-roomy
invariant_of-self-2-clause-roomy c = λ _ m is. c.in_ok-self.ensures (c.is_some.ensures ∙ ap is_some is)

pub invariant_of-self-2-clause-exist : goal.invariant_of-self-2-clause-exist
invariant_of-self-2-clause-exist c = λ _ m is.
    let p = c.args.self.now.instance.now in
    let C : Marks → Type 0 = λ m. All (IsMarkedWalk (arcs_of p)) m.walks in
    let closed = lent_if (λ m. m.now) C c.as_ref.result c.front_of.result c.as_ref.ensures.value
    (of_none c.in_ok-found.found _ _ c.in_default.not-Some c.in_ok-found.ensures.verdict) in
    let fits = c.in_ok-self.ensures (c.is_some.ensures ∙ ap is_some is) in
    if_for c.front_of.result _ (walks_exist c.front_of.result _ (arcs_of p) fits.arcs closed) m is
