-- The weights of an instance's rows, and its least cost, as those of a lemma.
use Rattle.std.proofs.Common.{◌≡◌, ◌∙◌, ℕ, ◌+◌, ◌<◌, arith, List, [], ◌∷◌, ◌++◌, length, map, take, refl, sym, ap}
use Rattle.std.specs.Prelude.{ℤ, pos, Option, Some, None, option_map}
use Rattle.std.proofs.lemmas.List.{length-map, get_or-map, take_more}
use Rattle.pesp_problem.specs.declared.row.Row.{Row}
use Rattle.pesp_problem.specs.declared.arc.Arc.{Arc}
use Rattle.pesp_problem.specs.Timetables.{Pesp, no_row, row_at}
use Rattle.pesp_problem.specs.Limits.{KeepsLimits}
use Rattle.pesp_problem.specs.Arcs.{arcs_of, arc_at}
use Rattle.pesp_problem.specs.Terms.{number_at}
use Rattle.pesp_leaves.proofs.Arcs.{arc_is}
use Rattle.pesp_leaves.specs.Taken.{AreSmallWeights}

abbrev pub weights_of : List Row → List ℤ
weights_of rows = map (λ row. pos row.weight) rows

mapped : (xs : List Row) (r : Row) → weights_of xs ++ pos r.weight ∷ [] ≡ weights_of (xs ++ r ∷ [])
mapped [] r = refl
mapped (x ∷ xs) r = ap (λ (ws : List ℤ). pos x.weight ∷ ws) (mapped xs r)

-- one more
pub weights_more : (rows : List Row) (k : ℕ) (own own' : List ℤ) (w : ℤ) → own ≡ weights_of (take k rows) → k < length rows
    → w ≡ pos (row_at rows k).weight → own' ≡ own ++ w ∷ [] → own' ≡ weights_of (take (k + 1) rows)
weights_more rows k own own' w are within is new =
    new ∙ ap (λ (ws : List ℤ). ws ++ w ∷ []) are ∙ ap (λ (z : ℤ). weights_of (take k rows) ++ z ∷ []) is
    ∙ mapped (take k rows) (row_at rows k) ∙ ap weights_of (sym (take_more rows k no_row within))

-- where no least cost is said, no least sum is
pub no_least : (o : Option ℕ) → ((c : ℕ) → o ≡ Some c → ⊥) → ◌≡◌ {A = Option ℤ} None (option_map pos o)
no_least None none = refl
no_least (Some c) none = absurd (none c refl)

module _ (p : Pesp) (own : List ℤ) (is : own ≡ weights_of p.rows) where
  pub own_long : length own ≡ length p.rows
  own_long = ap length is ∙ length-map p.rows (λ (row : Row). pos row.weight)

  at_row : (i : ℕ) → i < length p.rows → number_at own i ≡ pos (row_at p.rows i).weight
  at_row i within = ap (λ (ws : List ℤ). number_at ws i) is ∙ get_or-map (λ (row : Row). pos row.weight) p.rows i no_row (pos 0) within

  pub own_value : (i : ℕ) → i < length own → number_at own i ≡ pos (arc_at (arcs_of p) i).weight
  own_value i l =
      let within : i < length p.rows = omega (arith, own_long, l) in
      at_row i within ∙ sym (ap (λ (arc : Arc). pos arc.weight) (arc_is p i within))

  pub own_small : KeepsLimits p → AreSmallWeights own
  own_small limits i l =
      let within : i < length p.rows = omega (arith, own_long, l) in
      let one = (limits.each i no_row within).weight in
      rw (at_row i within) (omega (arith, one))
