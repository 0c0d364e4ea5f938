use Rattle.std.proofs.Common.{◌∙◌, ◌≡◌, ap, rules, [], ◌∷◌, ◌++◌, List, ℕ}
use Rattle.std.specs.Prelude.{replicate}
use Rattle.std.proofs.lemmas.List.{replicate_more}
use Rattle.pesp_problem.specs.declared.nets.NetCount.{NetCount}
use Rattle.pesp_nodes.proofs.table.no_nets.Goals as goal

pub loop-preserved : goal.loop-preserved
loop-preserved c =
    let before : c.loop.nets.items ≡ replicate c.loop.counter [] = c.loop.invariant in
    let grow : List NetCount → List (List NetCount) = λ x. c.loop.nets.items ++ x ∷ [] in
    let longer : List (List NetCount) → List (List NetCount) = λ xs. xs ++ [] ∷ [] in
    c.in_ok-push.ensures.items ∙ ap grow c.new.ensures ∙ ap longer before ∙ replicate_more c.loop.counter []

pub returns : goal.returns
returns c =
    let before : c.loop.nets.items ≡ replicate c.loop.counter [] = c.loop.invariant in
    let count : c.loop.counter ≡ c.args.cycles = search (rules) in
    before ∙ ap (λ (n : ℕ). replicate {A = List NetCount} n []) count
