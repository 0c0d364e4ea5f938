use Rattle.std.proofs.Common.{arith, ◌+◌, ◌∙◌, refl, sym, ap, subst, length, List, Some}
use Rattle.std.specs.Prelude.{option_map}
use Rattle.std.specs.Option.{is_some}
use Rattle.pesp_problem.specs.Arcs.{net_of}
use Rattle.pesp_problem.specs.declared.nets.NetCount.{NetCount}
use Rattle.pesp_problem.specs.Nets.{AreNets}
use Rattle.pesp_truth.specs.Marks.{Marks}
use Rattle.pesp_truth.specs.Lemmas.{Lemma}
use Rattle.pesp_truth.specs.Trees.{Line}
use Rattle.pesp_truth.specs.Certificates.{least_of}
use Rattle.pesp_leaves.specs.Taken.{HaveRows}
use Rattle.pesp_judges.specs.Lines.{IsLineVerdict}
use Rattle.pesp_whole_check.specs.Rooms.{AreOwnWeights, FitsWalks, claim_from}
use Rattle.pesp_check.specs.Said.{pairs_of, tree_line}
use Rattle.pesp_check.specs.Views.{kept}
use Rattle.pesp_whole_check.proofs.Claims.{walks_fit}
use Rattle.pesp_whole_check.proofs.Refusing.{of_none}
use Rattle.pesp_whole_check.proofs.Inner.{lent_for}
use Rattle.pesp_check.proofs.Lists.{said_is}
use Rattle.pesp_check.proofs.Lines.{nets_are, answer_is, never_done, never_gone, line_told, whole_text, few_cycles, few_least}
use Rattle.pesp_check.proofs.judge.Judge.judge_line.Goals as goal

pub returns-then-is_done-clause-judged : goal.returns-then-is_done-clause-judged
returns-then-is_done-clause-judged c front c' rest has before =
    let j = c.args.self.now in
    absurd (never_done j.instance.now front c' (tree_line pairs_of c.args.said) rest
    (kept j) j.stage c.requires.stage before c.in-Some.walk c.in-Some.is (c.is_done.ensures.0 c.if-is_done.true))

pub returns-then-len-gt-MOST_CYCLES-clause-judged : goal.returns-then-len-gt-MOST_CYCLES-clause-judged
returns-then-len-gt-MOST_CYCLES-clause-judged c front c' rest has before =
    let j = c.args.self.now in
    let nets = nets_are j.instance.now front c' (tree_line pairs_of c.args.said) rest (kept j) j.stage c.requires.stage before in
    let few = few_cycles front c' has in
    let l = j.table.ok.0 in absurd (omega (arith, nets.long, few, l, c.len.ensures, c.if-len-gt-MOST_CYCLES.true))

pub new-checker-requires-clause-few : goal.new-checker-requires-clause-few
new-checker-requires-clause-few c =
    let same = ap length c.deref-4.ensures.value in
    let l = c.args.self.now.table.ok.0 in omega (arith, same, l, c.len.ensures, c.if-len-gt-MOST_CYCLES.false)

pub new-checker-requires-clause-fits : goal.new-checker-requires-clause-fits
new-checker-requires-clause-fits c =
    let j = c.args.self.now in
    let p = j.instance.now in
    let some = ap is_some c.in-Some.is in
    let R : List Lemma → Type 0 = HaveRows (length p.rows) in
    c.claim_over-claim.ensures.fits p (subst R (sym c.deref.ensures.value) j.named)
    (lent_for (λ m. m.now) (λ (m : Marks). FitsWalks p m c.deref-2.result.now c.deref-3.result.now) c.as_ref-marks.result j.front
    c.as_ref-marks.ensures.value (λ m is. walks_fit p m j.room c.deref-2.result.now c.deref-3.result.now c.deref-2.ensures.value
    c.deref-3.ensures.value (j.roomy some m is) (j.exist some m is)))

pub take_line-requires-clause-room : goal.take_line-requires-clause-room
take_line-requires-clause-room c =
    let j = c.args.self.now in
    let some = ap is_some c.in-Some.is in
    let rates = ap length c.deref_mut.ensures.value in
    rw (c.new-checker.ensures.claim, c.new-checker.ensures.instance)
    (c.claim_over-claim.ensures.room _ _ (lent_for (λ m. m.now) _ c.as_ref-marks.result j.front c.as_ref-marks.ensures.value
    (λ m is. rates ∙ (j.roomy some m is).rates)))

pub returns-in-Some-found-clause-judged : goal.returns-in-Some-found-clause-judged
returns-in-Some-found-clause-judged c front c' rest has before =
    let j = c.args.self.now in
    let p = j.instance.now in
    let some = ap is_some c.in-Some.is in
    let line = tree_line pairs_of c.args.said in
    let walk = c.take_line.new.walk in
    let facts = c.deref.result.now in
    let claim = claim_from (option_map (λ m. m.now) c.as_ref-marks.result) facts (net_of p) (least_of c'.answer) in
    let T : List (List NetCount) → Type 0 = AreNets (length p.rows) c'.cycles in
    let nets = subst T (sym c.deref-4.ensures.value) (nets_are p front c' line rest (kept j) j.stage c.requires.stage before) in
    let least = c.least-least.ensures ∙ ap least_of (answer_is p front c' line rest (kept j) j.stage c.requires.stage before) in
    let own = lent_for (λ m. m.now) (λ (m : Marks). AreOwnWeights p c.deref-3.result.now) c.as_ref-marks.result j.front
    c.as_ref-marks.ensures.value (λ m is. rw c.deref-3.ensures.value ((j.roomy some m is).weights)) in
    let tells = (rw least at c.claim_over-claim.ensures.told) p own (few_least front c' has) in
    let told = (rw (c.new-checker.ensures.instance, c.new-checker.ensures.table, c.new-checker.ensures.claim) at
    c.in_ok-found.ensures.verdict) c'.cycles claim nets tells in
    let V : Line → Type 0 = λ l. IsLineVerdict claim (net_of p) c'.cycles l c.in-Some.walk.nodes walk.nodes (j.line + 1) c.in_ok-found.found in
    rw c.in-Some-found.is at
    (line_told p front c' line rest (kept j) j.stage c.requires.stage before c.in-Some.walk walk _ facts (j.line + 1) c.in_ok-found.found
    (record (kept j) { line = j.line + 1; walk = Some walk }) (record (kept j) { line = j.line + 1; walk = Some walk })
    c.in-Some.is c.as_ref-marks.ensures.value c.deref.ensures.value refl (whole_text front c' has) refl refl refl
    (subst V (said_is pairs_of c.args.said) told))

pub returns-clause-judged : goal.returns-clause-judged
returns-clause-judged c front c' rest has before =
    let j = c.args.self.now in
    let p = j.instance.now in
    let some = ap is_some c.in-Some.is in
    let line = tree_line pairs_of c.args.said in
    let walk = c.take_line.new.walk in
    let facts = c.deref.result.now in
    let claim = claim_from (option_map (λ m. m.now) c.as_ref-marks.result) facts (net_of p) (least_of c'.answer) in
    let T : List (List NetCount) → Type 0 = AreNets (length p.rows) c'.cycles in
    let nets = subst T (sym c.deref-4.ensures.value) (nets_are p front c' line rest (kept j) j.stage c.requires.stage before) in
    let least = c.least-least.ensures ∙ ap least_of (answer_is p front c' line rest (kept j) j.stage c.requires.stage before) in
    let own = lent_for (λ m. m.now) (λ (m : Marks). AreOwnWeights p c.deref-3.result.now) c.as_ref-marks.result j.front
    c.as_ref-marks.ensures.value (λ m is. rw c.deref-3.ensures.value ((j.roomy some m is).weights)) in
    let tells = (rw least at c.claim_over-claim.ensures.told) p own (few_least front c' has) in
    let told = (rw (c.new-checker.ensures.instance, c.new-checker.ensures.table, c.new-checker.ensures.claim) at
    c.in_ok-found.ensures.verdict) c'.cycles claim nets tells in
    let V : Line → Type 0 = λ l. IsLineVerdict claim (net_of p) c'.cycles l c.in-Some.walk.nodes walk.nodes (j.line + 1) c.in_ok-found.found in
    of_none c.in_ok-found.found _ _ c.in_default-found.not-Some
    (line_told p front c' line rest (kept j) j.stage c.requires.stage before c.in-Some.walk walk _ facts (j.line + 1) c.in_ok-found.found
    (record (kept j) { line = j.line + 1; walk = Some walk }) (kept j)
    c.in-Some.is c.as_ref-marks.ensures.value c.deref.ensures.value refl (whole_text front c' has) refl refl refl
    (subst V (said_is pairs_of c.args.said) told))
