use Rattle.std.proofs.Common.{arith, ap, length}
use Rattle.pesp_truth.specs.Shown.{LemmaProof}
use Rattle.pesp_whole_check.proofs.LemmaCheck.{few_lines}
use Rattle.pesp_whole_check.proofs.lemma_check.lemma_lines.Goals as goal

pub returns-clause-value : goal.returns-clause-value
returns-clause-value c =
    let walks = ap (λ (s : LemmaProof). length s.marks.walks) c.lemma.view_is in
    let cycles = ap (λ (s : LemmaProof). length s.cycles) c.lemma.view_is in
    let tree = ap (λ (s : LemmaProof). length s.tree) c.lemma.view_is in
    let a = c.lemma.inside.walks.ok.0 in
    let b = c.lemma.inside.cycles.ok.0 in
    let d = c.lemma.inside.tree.ok.0 in
    omega (arith, a, b, d, walks, cycles, tree, c.len.ensures, c.len-2.ensures, c.len-3.ensures)

pub returns-clause-few : goal.returns-clause-few
returns-clause-few c =
    let few = few_lines c.args.lemma.now c.requires in
    let walks = ap (λ (s : LemmaProof). length s.marks.walks) c.lemma.view_is in
    let cycles = ap (λ (s : LemmaProof). length s.cycles) c.lemma.view_is in
    let tree = ap (λ (s : LemmaProof). length s.tree) c.lemma.view_is in
    let a = c.lemma.inside.walks.ok.0 in
    let b = c.lemma.inside.cycles.ok.0 in
    let d = c.lemma.inside.tree.ok.0 in
    omega (arith, few, a, b, d, walks, cycles, tree, c.len.ensures, c.len-2.ensures, c.len-3.ensures)

pub overflow_add-result-2 : goal.overflow_add-result-2
overflow_add-result-2 c =
    let few = few_lines c.args.lemma.now c.requires in
    let walks = ap (λ (s : LemmaProof). length s.marks.walks) c.lemma.view_is in
    let cycles = ap (λ (s : LemmaProof). length s.cycles) c.lemma.view_is in
    let a = c.lemma.inside.walks.ok.0 in
    let b = c.lemma.inside.cycles.ok.0 in
    omega (arith, few, a, b, walks, cycles, c.len.ensures, c.len-2.ensures)

pub overflow_add-result-3 : goal.overflow_add-result-3
overflow_add-result-3 c =
    let few = few_lines c.args.lemma.now c.requires in
    let walks = ap (λ (s : LemmaProof). length s.marks.walks) c.lemma.view_is in
    let cycles = ap (λ (s : LemmaProof). length s.cycles) c.lemma.view_is in
    let tree = ap (λ (s : LemmaProof). length s.tree) c.lemma.view_is in
    let a = c.lemma.inside.walks.ok.0 in
    let b = c.lemma.inside.cycles.ok.0 in
    let d = c.lemma.inside.tree.ok.0 in
    omega (arith, few, a, b, d, walks, cycles, tree, c.len.ensures, c.len-2.ensures, c.len-3.ensures)
