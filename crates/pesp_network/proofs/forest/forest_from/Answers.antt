use Rattle.std.proofs.Common.{◌≡◌, ℕ, ◌+◌, ◌<◌, List, length, arith, ◌∙◌, ap, sym, subst}
use Rattle.std.specs.Prelude.{slice_index}
use Rattle.std.proofs.lemmas.List.Elements.{All-from_get_or}
use Rattle.pesp_problem.specs.Walks.{Names}
use Rattle.pesp_network.specs.Networks.{arcs_of_network}
use Rattle.pesp_network.specs.Rooted.{IsGrown}
use Rattle.pesp_network.proofs.Picking.{met_forest, all_met}
use Rattle.pesp_network.proofs.forest.forest_from.Goals as goal

-- what is lent of all numbers
lent : (n : ℕ) (numbers view : List ℕ) → view ≡ numbers → ((i : ℕ) → i < n → slice_index numbers i ≡ i + 1)
    → (i : ℕ) → i < n → slice_index view i ≡ i + 1
lent n numbers view e each i h = ap (λ xs. slice_index xs i) e ∙ each i h

pub meets_all-requires : goal.meets_all-requires
meets_all-requires c =
    let grown = c.in_ok-forest.ensures.grown in
    subst (λ (k : ℕ). IsGrown k (arcs_of_network c.args.rows.now) c.in_ok-forest.forest) (sym grown.events) grown

pub grow_over-requires-2-clause-names : goal.grow_over-requires-2-clause-names
grow_over-requires-2-clause-names c =
    let n = length c.args.rows.now in let a = c.in_ok-all.ensures in let s = c.as_slice.ensures in let l = s.len in let m = a.len in
    All-from_get_or (Names n) c.as_slice.result.now 0 (λ i h.
    let below : i < n = omega arith in
    let e = lent n _ c.as_slice.result.now s.value a.each i below in
    (omega arith, omega arith))

pub returns : goal.returns
returns c =
    let rows = c.args.rows.now in let f = c.in_ok-whole.whole in let e = c.in_ok-whole.ensures in
    let a = c.in_ok-all.ensures in let s = c.as_slice.ensures in
    let l = s.len in let n = a.len in
    met_forest c.args.events (arcs_of_network rows) f e.grown
    (all_met rows c.as_slice.result.now f (lent (length rows) _ c.as_slice.result.now s.value a.each)
    (λ i h. e.met i (omega arith)))
