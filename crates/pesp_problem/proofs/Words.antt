-- What is taken away from words in one step and in two.
use Rattle.std.proofs.Common.{◌≡◌, ℕ, ◌<◌, ◌≤◌, List, refl, ap, arith, ◌∙◌, Bool, true, false, sum}
use Rattle.std.specs.Prelude.{◌||◌}
use Rattle.pesp_problem.specs.Words.{IsLess}

pub sum_most : (xs ys : List ℕ) (b : Bool) → IsLess xs ys b → sum ys ≤ sum xs
sum_most xs ys true h = let l : sum ys < sum xs = h.less refl in omega arith
sum_most xs ys false h = let e : sum ys ≡ sum xs = ap sum (h.same refl) in omega arith

pub less_step : (xs ys zs : List ℕ) (b c : Bool) → IsLess xs ys b → IsLess ys zs c → IsLess xs zs (b || c)
less_step xs ys zs true true h k = record { same = λ e. absurd (cc); less = λ _. let l = h.less refl in let m = k.less refl in omega arith }
less_step xs ys zs true false h k = record {
  same = λ e. absurd (cc);
  less = λ _. let l = h.less refl in
      let m : sum zs ≡ sum ys = ap sum (k.same refl) in omega arith;
}
less_step xs ys zs false true h k = record {
  same = λ e. absurd (cc);
  less = λ _. let l : sum ys ≡ sum xs = ap sum (h.same refl) in let m = k.less refl in omega arith;
}
less_step xs ys zs false false h k = record { same = λ _. k.same refl ∙ h.same refl; less = λ e. absurd (cc) }
