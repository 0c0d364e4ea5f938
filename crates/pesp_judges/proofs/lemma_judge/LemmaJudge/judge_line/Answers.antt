use Rattle.std.proofs.Common.{refl, sym, ap, subst, ◌∙◌, length, List, Some, FitsSigned, rules}
use Rattle.std.specs.Prelude.{ℤ, is_some}
use Rattle.std.specs.Int.{w64}
use Rattle.std.proofs.lemmas.Int.{to_z-of_z}
use Rattle.pesp_problem.specs.declared.pair.Pair.{Pair}
use Rattle.pesp_problem.specs.Arcs.{net_of}
use Rattle.pesp_problem.specs.declared.nets.NetCount.{NetCount}
use Rattle.pesp_problem.specs.Nets.{AreNets}
use Rattle.pesp_truth.specs.Marks.{Marks}
use Rattle.pesp_judges.specs.Pending.{Standing}
use Rattle.pesp_judges.specs.SaidLines.{line_said}
use Rattle.pesp_truth.specs.Lemmas.{weight_at}
use Rattle.pesp_truth.specs.Trees.{lemma_goal, Claim, Behind}
use Rattle.pesp_truth.specs.Shown.{lemma_claim}
use Rattle.pesp_leaves.specs.Claims.{AreOf}
use Rattle.pesp_judges.specs.Lines.{IsLineVerdict}
use Rattle.pesp_judges.specs.Showing.{kept_of_lemma}
use Rattle.pesp_judges.proofs.Options.{ok_then}
use Rattle.pesp_judges.proofs.Telling.{line_told, marks_are, stands}
use Rattle.pesp_judges.proofs.lemma_judge.LemmaJudge.judge_line.Goals as goal

pub returns-clause-verdict : goal.returns-clause-verdict
returns-clause-verdict g c =
    ok_then c.take_line.result _ _ c.take_line.ensures.verdict (λ found h s at k standing limits before within is line.
    let j = c.args.self.now in
    let n = net_of j.instance.now in
    let facts = c.args.facts.now in
    let wanted = lemma_goal s.fact in
    let said = line_said g.P.Elements.elements c.args.said in
    let new = c.take_line.new.walk.nodes in
    let fits : FitsSigned w64 j.least = search rules in
    let T : List (List NetCount) → Type 0 = AreNets (length j.instance.now.rows) s.cycles in
    let O : List ℤ → Type 0 = λ own. AreOf own (Some j.least) wanted in
    let of : AreOf j.own.items (Some j.least) wanted = record {
      weights_are = λ i l. j.placed (ap is_some c.in-Some.is) i l ∙ ap (λ (ws : List Pair). weight_at ws i) before.weights;
      least_is = ap Some before.least;
    } in
    let told = rw (c.new-checker.ensures.instance, c.new-checker.ensures.table, c.new-checker.ensures.claim, to_z-of_z w64 j.least fits) at h in
    let goal_of : Marks → Claim = λ m. Behind m facts wanted in
    let same_claim = ap goal_of (marks_are j.instance.now facts s at (kept_of_lemma j) k standing limits before within c.in-Some-front.marks c.in-Some-front.is) in
    let verdict = told s.cycles (goal_of c.in-Some-front.marks) (subst T (sym c.deref-3.ensures.value) before.nets) (wanted, refl, subst O (sym c.deref-2.ensures.value) of) in
    let M : Claim → Type 0 = λ m. IsLineVerdict m n s.cycles said c.in-Some.walk.nodes new c.args.line found in
    let N : Standing → Type 0 = λ w. IsLineVerdict (lemma_claim facts s) n s.cycles said w.nodes new c.args.line found in
    let same = stands j.instance.now facts s at (kept_of_lemma j) k standing limits before within c.in-Some.walk c.in-Some.is in
    line_told j.instance.now facts s at (kept_of_lemma j) k standing limits before within said is c.args.line line c.take_line.new.walk _ refl found
    (subst N (sym same) (subst M same_claim verdict)))
