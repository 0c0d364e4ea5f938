use Rattle.std.proofs.Common.{◌≡◌, ◌++◌, ◌∷◌, ◌∙◌, ◌+◌, List, [], ap, refl, sym, get_or, take, append_assoc, append-nil}
use Rattle.std.proofs.lemmas.List.{take_more, take_all}
use Rattle.pesp_problem.specs.declared.marked.MarkedRow.{MarkedRow}
use Rattle.pesp_judges.specs.Showing.{KeptLemma, kept_of_lemma}
use Rattle.pesp_whole_check.proofs.lemma_check.take_walks.Goals as goal

pub loop-walk-init : goal.loop-walk-init
loop-walk-init c =
    let old = kept_of_lemma c.args.judge.now in
    let W : List (List MarkedRow) → KeptLemma = λ ws. record old { walks = ws } in
    record { instance = refl; kept = ap W (sym (append-nil old.walks)) }

pub loop-walk-preserved : goal.loop-walk-preserved
loop-walk-preserved c =
    let inv = c.loop-walk.invariant in
    let i = c.loop-walk.walk-index in
    let walks = c.args.walks.now in
    let old = kept_of_lemma c.args.judge.now in
    let again = c.in_ok-again.again in
    let A : KeptLemma → KeptLemma = λ k. record k { walks = k.walks ++ again ∷ [] } in
    let W : List (List MarkedRow) → KeptLemma = λ ws. record old { walks = ws } in
    let read : again ≡ get_or walks i c.walk-item.result = c.in_ok-again.ensures ∙ c.walk-item.is in
    let more : (old.walks ++ take i walks) ++ again ∷ [] ≡ old.walks ++ take (i + 1) walks =
    append_assoc old.walks (take i walks) (again ∷ [])
    ∙ ap (λ (ws : List (List MarkedRow)). old.walks ++ ws) (ap (λ (w : List MarkedRow). take i walks ++ w ∷ []) read
    ∙ sym (take_more walks i c.walk-item.result c.loop-walk-test.true)) in
    record {
      instance = c.in_ok-take_walk.ensures.instance ∙ inv.instance;
      kept = c.in_ok-take_walk.ensures.kept ∙ ap A inv.kept ∙ ap W more;
    }

pub returns-clause-kept : goal.returns-clause-kept
returns-clause-kept c =
    let old = kept_of_lemma c.args.judge.now in
    let W : List (List MarkedRow) → KeptLemma = λ ws. record old { walks = old.walks ++ ws } in
    c.loop-walk.invariant.kept ∙ ap W (take_all c.loop-walk.walk-index c.args.walks.now c.loop-walk-test.false)
