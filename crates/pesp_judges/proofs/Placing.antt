-- The weights of a lemma, as they are put into a list, one a row.
use Rattle.std.proofs.Common.{◌≡◌, inl, inr, ℕ, ◌+◌, ◌*◌, ◌^◌, ◌<◌, ◌≤◌, arith, ap, sym, ◌∙◌, List, length, get_or, set, drop, Bool, true}
use Rattle.std.specs.Prelude.{ℤ, pos, ◌+ℤ◌, unsigned_abs, if◌then◌else◌, ◌==◌}
use Rattle.std.proofs.lemmas.Int.{ints}
use Rattle.std.proofs.lemmas.Bool.{cases_eq, eq-eqb, ne_eqb}
use Rattle.std.proofs.lemmas.List.{get_or-set_same, get_or-set_other, length-set, drop_all, drop_more}
use Rattle.pesp_problem.specs.declared.pair.Pair.{Pair}
use Rattle.pesp_problem.specs.Terms.{number_at}
use Rattle.pesp_truth.specs.Lemmas.{weight_at}
use Rattle.pesp_truth.specs.Limits.{rises_from, weights_keep_limits}
use Rattle.pesp_truth.proofs.Small.{Apart, first_apart, weight_small}

-- the first k weights stand in the list
pub record ArePlaced (weights : List Pair) (own : List ℤ) (k : ℕ) : Type 0 where
  pub rises : (least : ℕ) × (rises_from least (drop k weights) ≡ true)
  pub sum : (i : ℕ) → i < length own → number_at own i +ℤ weight_at (drop k weights) i ≡ weight_at weights i

pub placed_none : (weights : List Pair) (own : List ℤ) → weights_keep_limits weights ≡ true
    → ((i : ℕ) → i < length own → number_at own i ≡ pos 0) → ArePlaced weights own 0
placed_none weights own e none = record { rises = (1, e); sum = λ i l. omega (arith, ints, none i l) }

module _ (weights : List Pair) (own : List ℤ) (k : ℕ) (keeps : weights_keep_limits weights ≡ true) (before : ArePlaced weights own k) where
  pub so_far : (i : ℕ) → i < length own → unsigned_abs (number_at own i) ≤ 2 * 10 ^ 12
  so_far i l =
      let all = weight_small 1 weights i keeps in
      let left = weight_small before.rises.0 (drop k weights) i before.rises.1 in
      omega (arith, ints, before.sum i l, all, left)

  module _ (d : Pair) (h : k < length weights) where
    here : Apart before.rises.0 (get_or weights k d) (drop (k + 1) weights)
    here = first_apart before.rises.0 (get_or weights k d) (drop (k + 1) weights)
        (ap (rises_from before.rises.0) (sym (drop_more weights k d h)) ∙ before.rises.1)

    pub weight_here : unsigned_abs (get_or weights k d).mult ≤ 1000000000000
    weight_here = omega (arith, ints, here.weight)

    go_on : (old now more left all rest : ℤ) → old +ℤ left ≡ all → left ≡ more +ℤ rest → now ≡ old +ℤ more → now +ℤ rest ≡ all
    go_on old now more left all rest a b c = omega (arith, ints)

    pub placed_more : (at : ℕ) (next : ℤ) → (get_or weights k d).cycle ≡ at + 1 → at < length own
        → next ≡ number_at own at +ℤ (get_or weights k d).mult → ArePlaced weights (set own at next) (k + 1)
    placed_more at next is inside e = record {
      rises = ((get_or weights k d).cycle + 1, here.rest);
      sum = λ i l.
          let p = get_or weights k d in
          let l' : i < length own = omega (arith, l, length-set own at next) in
          let pick : Bool → ℤ = λ b. if b then p.mult else pos 0 in
          let rest = weight_at (drop (k + 1) weights) i in
          let apart : weight_at (drop k weights) i ≡ pick (p.cycle == i + 1) +ℤ rest =
          ap (λ (ws : List Pair). weight_at ws i) (drop_more weights k d h) in
          elim (cases_eq i at) [
            | inl same ↦
                let read : number_at (set own at next) i ≡ next = ap (number_at (set own at next)) same
                ∙ get_or-set_same own at next (pos 0) inside in
                let now : number_at (set own at next) i ≡ number_at own i +ℤ p.mult = read ∙ e
                ∙ ap (λ j. number_at own j +ℤ p.mult) (sym same) in
                let picked = ap pick (eq-eqb p.cycle (i + 1) (omega (arith, is, same))) in
                go_on _ _ _ _ _ _ (before.sum i l') (apart ∙ ap (λ z. z +ℤ rest) picked) now
            | inr other ↦
                let read = get_or-set_other own at i next (pos 0) other in
                let now : number_at (set own at next) i ≡ number_at own i +ℤ pos 0 = omega (arith, ints, read) in
                let picked = ap pick (ne_eqb p.cycle (i + 1) (λ f. other (omega (arith, f, is)))) in
                go_on _ _ _ _ _ _ (before.sum i l') (apart ∙ ap (λ z. z +ℤ rest) picked) now
          ];
    }

  -- all of them stand there
  pub all_placed : (i : ℕ) → length weights ≤ k → i < length own → number_at own i ≡ weight_at weights i
  all_placed i done l =
      let none : weight_at (drop k weights) i ≡ pos 0 = ap (λ (ws : List Pair). weight_at ws i) (drop_all k weights done) in
      omega (arith, ints, before.sum i l, none)

  pub all_small : (i : ℕ) → length weights ≤ k → i < length own → unsigned_abs (number_at own i) ≤ 1000000000000
  all_small i done l = let all = weight_small 1 weights i keeps in omega (arith, ints, all_placed i done l, all)
