use Rattle.std.proofs.Common.{◌∙◌, ℕ, ap, sym, subst, arith, inl, inr, length, Option}
use Rattle.std.specs.Prelude.{All}
use Rattle.std.proofs.lemmas.Result.{IfOk-weaker}
use Rattle.pesp_judges.specs.declared.refusal.Refusal.{Refusal}
use Rattle.pesp_judges.proofs.Options.{match_map, match_some, match_none}
use Rattle.pesp_problem.specs.Arcs.{arcs_of}
use Rattle.pesp_problem.specs.Marked.{IsMarkedWalk}
use Rattle.pesp_truth.specs.Marks.{Marks}
use Rattle.pesp_judges.specs.Faults.{IsMarkFault, IsMarksFault}
use Rattle.pesp_whole_check.proofs.Inner.{marks_in, in_front, fault_in, lent_if, lent_and}
use Rattle.pesp_whole_check.proofs.whole_check.inner_fault.Goals as goal

pub walks_fault-requires-clause-few : goal.walks_fault-requires-clause-few
walks_fault-requires-clause-few c =
    let same = ap length c.cycles-cycles.ensures.value in omega (arith, same, c.cycles-cycles.ensures.limits.cycles)

pub tree_fault-requires-clause-closed : goal.tree_fault-requires-clause-closed
tree_fault-requires-clause-closed c =
    let C : Marks → Type 0 = λ m. All (IsMarkedWalk (arcs_of c.args.instance.now)) m.walks in
    in_front c.args.front.now C (lent_if (λ m. m.now) C c.marks_of.result (marks_in c.args.front.now) c.marks_of.ensures
    (match_none c.in_ok-found.found _ _ (sym c.is_some.ensures ∙ c.if-is_some.false) c.in_ok-found.ensures.verdict))

pub returns-then-is_some : goal.returns-then-is_some
returns-then-is_some c =
    let p = c.args.instance.now in
    let front = c.args.front.now in
    let F : ℕ → Refusal → Marks → Type 0 = λ n refusal m. IsMarkFault (arcs_of p) n 2 m.walks refusal in
    let cycles = length c.cycles-cycles.result.now in
    let long = ap length c.cycles-cycles.ensures.value in
    match_some c.in_ok-found.found _ _ _ _ (sym c.is_some.ensures ∙ c.if-is_some.true)
    (λ refusal fault. inl (subst (λ (n : ℕ). IsMarksFault front p n refusal) long (fault_in front (F cycles refusal)
    (lent_and (λ m. m.now) (F cycles refusal) c.marks_of.result (marks_in front) c.marks_of.ensures fault))))
    c.in_ok-found.ensures.verdict

pub returns : goal.returns
returns c =
    let C : Marks → Type 0 = λ m. All (IsMarkedWalk (arcs_of c.args.instance.now)) m.walks in
    let closed = in_front c.args.front.now C (lent_if (λ m. m.now) C c.marks_of.result (marks_in c.args.front.now) c.marks_of.ensures
    (match_none c.in_ok-found.found _ _ (sym c.is_some.ensures ∙ c.if-is_some.false) c.in_ok-found.ensures.verdict)) in
    IfOk-weaker c.tree_fault.result _ _ (λ (found : Option Refusal) h. match_map found _ _ _ _ (λ sound. (closed, sound))
    (λ refusal fault. inr (closed, fault)) h) c.tree_fault.ensures
