use Rattle.std.proofs.Common.{◌∙◌, ◌≡◌, ap, rules, [], ◌∷◌, ◌++◌, List, ℕ}
use Rattle.std.specs.Prelude.{replicate}
use Rattle.std.proofs.lemmas.List.{replicate_more}
use Rattle.pesp_nodes.specs.declared.passages.Passage.{Passage}
use Rattle.pesp_nodes.proofs.table.no_passages.Goals as goal

pub loop-preserved : goal.loop-preserved
loop-preserved c =
    let before : c.loop.by_row.items ≡ replicate c.loop.counter [] = c.loop.invariant in
    let grow : List Passage → List (List Passage) = λ x. c.loop.by_row.items ++ x ∷ [] in
    let longer : List (List Passage) → List (List Passage) = λ xs. xs ++ [] ∷ [] in
    c.in_ok-push.ensures.items ∙ ap grow c.new.ensures ∙ ap longer before ∙ replicate_more c.loop.counter []

pub returns : goal.returns
returns c =
    let before : c.loop.by_row.items ≡ replicate c.loop.counter [] = c.loop.invariant in
    let count : c.loop.counter ≡ c.args.rows = search (rules) in
    before ∙ ap (λ (n : ℕ). replicate {A = List Passage} n []) count
