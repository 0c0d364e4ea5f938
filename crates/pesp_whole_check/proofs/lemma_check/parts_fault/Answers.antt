use Rattle.std.proofs.Common.{◌≡◌, ◌∙◌, ◌+◌, ◌≤◌, arith, ap, refl, sym, subst, inl, inr, ℕ, List, Option, length}
use Rattle.std.specs.Prelude.{All}
use Rattle.std.proofs.lemmas.Result.{IfOk-weaker}
use Rattle.pesp_problem.specs.declared.row.SignedRow.{SignedRow}
use Rattle.pesp_problem.specs.Timetables.{Pesp}
use Rattle.pesp_problem.specs.Arcs.{arcs_of}
use Rattle.pesp_truth.specs.declared.tree.TreeLine.{TreeLine}
use Rattle.pesp_truth.proofs.FrontLimits.{limits_of}
use Rattle.pesp_cert.specs.Limits.{total_rows}
use Rattle.pesp_judges.specs.declared.refusal.Refusal.{Refusal}
use Rattle.pesp_judges.specs.Faults.{IsCycleFault}
use Rattle.pesp_judges.specs.Lines.{KeepsLineLimits}
use Rattle.pesp_truth.specs.Shown.{LemmaProof}
use Rattle.pesp_leaves.specs.Taken.{HaveRows}
use Rattle.pesp_whole_check.proofs.Limits.{shown_within}
use Rattle.pesp_whole_check.proofs.Refusing.{of_none}
use Rattle.pesp_whole_check.proofs.lemma_check.parts_fault.Goals as goal

pub cycles_fault-requires-clause-few : goal.cycles_fault-requires-clause-few
cycles_fault-requires-clause-few c =
    let w = shown_within c.args.lemma.now c.requires.limits in
    let same : c.deref.result.now ≡ c.args.lemma.now.cycles = c.deref.ensures.value ∙ ap (λ (s : LemmaProof). s.cycles) c.lemma.view_is in
    let P : List (List SignedRow) → Type 0 = λ cs. length cs ≤ 100000 in subst P (sym same) w.within.cycles

pub cycles_fault-requires-clause-rows : goal.cycles_fault-requires-clause-rows
cycles_fault-requires-clause-rows c =
    let w = shown_within c.args.lemma.now c.requires.limits in
    let same : c.deref.result.now ≡ c.args.lemma.now.cycles = c.deref.ensures.value ∙ ap (λ (s : LemmaProof). s.cycles) c.lemma.view_is in
    let P : List (List SignedRow) → Type 0 = λ cs. total_rows cs ≤ 10000000 in subst P (sym same) w.rows

pub cycles_fault-requires-clause-line : goal.cycles_fault-requires-clause-line
cycles_fault-requires-clause-line c =
    let w = shown_within c.args.lemma.now c.requires.limits in
    let few = (limits_of c.args.lemma.now.marks w.within.marks).walks in
    let walks = ap (λ (x : LemmaProof). length x.marks.walks) c.lemma.view_is in
    let l = c.lemma.inside.walks.ok.0 in
    omega (arith, few, walks, l, c.len.ensures, c.requires.line)

pub lines_fault-requires-clause-first : goal.lines_fault-requires-clause-first
lines_fault-requires-clause-first c =
    let w = shown_within c.args.lemma.now c.requires.limits in
    let few = (limits_of c.args.lemma.now.marks w.within.marks).walks in
    let walks = ap (λ (x : LemmaProof). length x.marks.walks) c.lemma.view_is in
    let cycles = ap (λ (x : LemmaProof). length x.cycles) c.lemma.view_is in
    let l = c.lemma.inside.walks.ok.0 in
    let m = c.lemma.inside.cycles.ok.0 in
    omega (arith, few, w.within.cycles, walks, cycles, l, m, c.len.ensures, c.len-2.ensures, c.requires.line)

pub lines_fault-requires-clause-rows : goal.lines_fault-requires-clause-rows
lines_fault-requires-clause-rows c =
    let H : Pesp → Type 0 = λ p. HaveRows (length p.rows) c.args.facts.now in
    subst H (sym c.in_ok-found.ensures.instance) c.requires.rows

pub lines_fault-requires-clause-long : goal.lines_fault-requires-clause-long
lines_fault-requires-clause-long c =
    c.cycles_fault.auto.working ∙ c.requires.long ∙ ap (λ (p : Pesp). length p.rows) (sym c.in_ok-found.ensures.instance)

pub lines_fault-requires-clause-limits : goal.lines_fault-requires-clause-limits
lines_fault-requires-clause-limits c =
    let w = shown_within c.args.lemma.now c.requires.limits in
    let same : c.deref-2.result.now ≡ c.args.lemma.now.tree = c.deref-2.ensures.value ∙ ap (λ (s : LemmaProof). s.tree) c.lemma.view_is in
    let P : List TreeLine → Type 0 = All KeepsLineLimits in subst P (sym same) w.each_line

pub lines_fault-requires-clause-few : goal.lines_fault-requires-clause-few
lines_fault-requires-clause-few c =
    let w = shown_within c.args.lemma.now c.requires.limits in
    let same : c.deref-2.result.now ≡ c.args.lemma.now.tree = c.deref-2.ensures.value ∙ ap (λ (s : LemmaProof). s.tree) c.lemma.view_is in
    let P : List TreeLine → Type 0 = λ ls. length ls ≤ 1000000 in subst P (sym same) w.lines

pub returns-in-Some-clause-verdict : goal.returns-in-Some-clause-verdict
returns-in-Some-clause-verdict c =
    let p = c.args.judge.now.instance.now in
    let s = c.args.lemma.now in
    let w = shown_within s c.requires.limits in
    let same : s.cycles ≡ c.deref.result.now = sym (c.deref.ensures.value ∙ ap (λ (x : LemmaProof). x.cycles) c.lemma.view_is) in
    let walks = ap (λ (x : LemmaProof). length x.marks.walks) c.lemma.view_is in
    let first : c.args.at + 2 + c.len.result ≡ c.args.at + 2 + length s.marks.walks =
    (let l = c.lemma.inside.walks.ok.0 in omega (arith, l, walks, c.len.ensures)) in
    let told = c.in_ok-found.ensures.verdict s c.args.at w.within same first c.requires.begun in
    let N : ℕ → Type 0 = λ n. IsCycleFault (arcs_of p) s.cycles n c.in-Some.refusal in
    inr (inl (c.requires.begun.rows, subst N first (rw c.in-Some.is at told)))

pub returns-clause-verdict : goal.returns-clause-verdict
returns-clause-verdict c =
    let s = c.args.lemma.now in
    let w = shown_within s c.requires.limits in
    let same : s.cycles ≡ c.deref.result.now = sym (c.deref.ensures.value ∙ ap (λ (x : LemmaProof). x.cycles) c.lemma.view_is) in
    let lines : s.tree ≡ c.deref-2.result.now = sym (c.deref-2.ensures.value ∙ ap (λ (x : LemmaProof). x.tree) c.lemma.view_is) in
    let walks = ap (λ (x : LemmaProof). length x.marks.walks) c.lemma.view_is in
    let cycles = ap (λ (x : LemmaProof). length x.cycles) c.lemma.view_is in
    let first : c.args.at + 2 + c.len.result ≡ c.args.at + 2 + length s.marks.walks =
    (let l = c.lemma.inside.walks.ok.0 in omega (arith, l, walks, c.len.ensures)) in
    let told = c.in_ok-found.ensures.verdict s c.args.at w.within same first c.requires.begun in
    let came = of_none c.in_ok-found.found _ _ c.in_default.not-Some told in
    let begins : c.args.at + 2 + c.len.result + 1 + c.len-2.result ≡ c.args.at + 3 + length s.marks.walks + length s.cycles =
    (let l = c.lemma.inside.cycles.ok.0 in omega (arith, l, cycles, first, c.len-2.ensures)) in
    IfOk-weaker c.lines_fault.result _ _ (λ (found : Option Refusal) h. h s c.args.at w.within lines begins (inl (refl, came)))
    (rw c.in_ok-found.ensures.instance at c.lines_fault.ensures.verdict)
