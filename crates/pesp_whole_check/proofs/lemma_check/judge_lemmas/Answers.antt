use Rattle.std.proofs.Common.{◌≡◌, ◌+◌, ◌∙◌, arith, sym, ap, subst, length, ℕ, List, true, [], take}
use Rattle.std.proofs.lemmas.List.{take_all}
use Rattle.pesp_problem.specs.Arcs.{net_of}
use Rattle.pesp_cert.specs.Limits.{is_shown_lemma}
use Rattle.pesp_truth.specs.Lemmas.{Lemma as Fact}
use Rattle.pesp_truth.specs.Shown.{LemmaProof, lemmas_of, AreShownLemmas}
use Rattle.pesp_leaves.specs.Taken.{HaveRows}
use Rattle.pesp_judges.specs.Faults.{IsLemmaFault}
use Rattle.pesp_whole_check.proofs.Limits.{each_lemma, few_lemmas}
use Rattle.pesp_whole_check.proofs.LemmaCheck.{fault_among, facts_more, shown_next, lines_more}
use Rattle.pesp_whole_check.proofs.Valid.{have_rows}
use Rattle.pesp_whole_check.proofs.lemma_check.judge_lemmas.Goals as goal

pub judge_lemma-requires-clause-limits : goal.judge_lemma-requires-clause-limits
judge_lemma-requires-clause-limits c =
    let P : LemmaProof → Type 0 = λ s. is_shown_lemma s ≡ true in
    subst P (sym c.lemma-item.is)
    (each_lemma c.args.lemmas.now c.requires.limits c.loop-lemma.lemma-index c.lemma-item.result c.loop-lemma-test.true)

pub judge_lemma-requires-clause-line : goal.judge_lemma-requires-clause-line
judge_lemma-requires-clause-line c =
    let few = few_lemmas c.args.lemmas.now c.requires.limits in
    omega (arith, few, c.loop-lemma.invariant.few, c.loop-lemma-test.true, c.requires.line)

pub loop-lemma-preserved : goal.loop-lemma-preserved
loop-lemma-preserved c =
    let inv = c.loop-lemma.invariant in
    let p = c.args.instance.now in
    let lemmas = c.args.lemmas.now in
    let k = c.loop-lemma.lemma-index in
    let s = c.lemma-item.result in
    let old = c.loop-lemma.facts.items in
    let within = c.loop-lemma-test.true in
    let is = c.lemma-item.is in
    let told = rw (c.in-Ok.is, c.deref.ensures.value) at c.in_ok-fact.ensures.verdict in
    let facts = facts_more lemmas k s within is old c.push.new.self.items c.in-Ok.fact inv.facts told.0 c.in_ok-push-in-Ok.ensures.items in
    let shown = shown_next lemmas k s within is p old inv.facts inv.shown told.1 in
    let lines = lines_more lemmas k s within is c.loop-lemma.line c.args.at inv.line in
    let R : List Fact → Type 0 = HaveRows (length p.rows) in
    record {
      facts = facts;
      shown = shown;
      rows = subst R (sym facts) (have_rows p [] (take (k + 1) lemmas) shown);
      line = omega (arith, lines, c.lemma_lines-line.ensures.value);
      few = omega (arith, inv.few, c.lemma_lines-line.ensures.few);
      zeros = c.in_ok-fact.ensures.zeros;
      long = c.judge_lemma.auto.working ∙ inv.long;
    }

pub returns-in-Err-clause-verdict : goal.returns-in-Err-clause-verdict
returns-in-Err-clause-verdict c =
    let inv = c.loop-lemma.invariant in
    let n = net_of c.args.instance.now in
    let s = c.lemma-item.result in
    let k = c.loop-lemma.lemma-index in
    let F : List Fact → Type 0 = λ fs. IsLemmaFault n fs s c.loop-lemma.line c.in-Err.refusal in
    let L : ℕ → Type 0 = λ i. IsLemmaFault n (lemmas_of (take k c.args.lemmas.now)) s i c.in-Err.refusal in
    let fault = rw (c.in-Err.is, c.deref.ensures.value) at c.in_ok-fact.ensures.verdict in
    fault_among n [] c.args.lemmas.now k c.args.at s c.in-Err.refusal c.loop-lemma-test.true c.lemma-item.is inv.shown
    (subst L inv.line (subst F inv.facts fault))

pub returns-clause-verdict : goal.returns-clause-verdict
returns-clause-verdict c =
    let inv = c.loop-lemma.invariant in
    let all = take_all c.loop-lemma.lemma-index c.args.lemmas.now c.loop-lemma-test.false in
    (inv.facts ∙ ap lemmas_of all, subst (λ (ss : List LemmaProof). AreShownLemmas (net_of c.args.instance.now) [] ss) all inv.shown)
