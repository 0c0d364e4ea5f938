-- The multiplier of a cycle, found among pairs that rise.
use Rattle.std.proofs.Common.{◌≡◌, ◌≢◌, inl, inr, ℕ, pos, ◌+◌, ◌<◌, ◌≤◌, ◌+ℤ◌, zero, suc, refl, ap, sym, ◌∙◌, arith, List, [], ◌∷◌, length, get_or, eqb, cond, false, true}
use Rattle.std.proofs.lemmas.Bool.{cases_lt, cases_eq}
use Rattle.std.proofs.lemmas.List.{get_or_default}
use Rattle.std.proofs.lemmas.Bool.Decides.{nat_tests}
use Rattle.std.proofs.Math.IntN.{+ℤ_idr, +ℤ_idl}
use Rattle.pesp_problem.specs.declared.pair.Pair.{Pair}
use Rattle.pesp_nodes.specs.Passages.{mult_of}
use Rattle.pesp_nodes.specs.Problems.{Rise}

pub mult_of-none : (pairs : List Pair) (c : ℕ)
    → ((k : ℕ) (d : Pair) → k < length pairs → (get_or pairs k d).cycle ≢ c) → mult_of pairs c ≡ pos 0
mult_of-none [] c h = refl
mult_of-none (p ∷ pairs) c h =
    let other : eqb p.cycle c ≡ false = (let ne = h 0 p (omega arith) in grind (arith, nat_tests)) in
    let ih = mult_of-none pairs c (λ k d l. h (suc k) d (omega arith)) in
    ap (λ b. cond b p.mult (pos 0) +ℤ mult_of pairs c) other ∙ ap (λ z. pos 0 +ℤ z) ih

pub mult_of-at : (pairs : List Pair) (c i : ℕ) (d : Pair) → i < length pairs → (get_or pairs i d).cycle ≡ c
    → ((k : ℕ) (e : Pair) → k < length pairs → k ≢ i → (get_or pairs k e).cycle ≢ c)
    → mult_of pairs c ≡ (get_or pairs i d).mult
mult_of-at [] c i d l is h = absurd (omega arith)
mult_of-at (p ∷ pairs) c zero d l is h =
    let here : eqb p.cycle c ≡ true = grind (arith, nat_tests) in
    ap (λ b. cond b p.mult (pos 0) +ℤ mult_of pairs c) here
    ∙ ap (λ z. p.mult +ℤ z) (mult_of-none pairs c (λ k e l. h (suc k) e (omega arith) (omega arith)))
    ∙ +ℤ_idr p.mult
mult_of-at (p ∷ pairs) c (suc i) d l is h =
    let other : eqb p.cycle c ≡ false = (let ne = h 0 p (omega arith) (omega arith) in grind (arith, nat_tests)) in
    ap (λ b. cond b p.mult (pos 0) +ℤ mult_of pairs c) other ∙ +ℤ_idl (mult_of pairs c)
    ∙ mult_of-at pairs c i d (omega arith) is (λ k e l ne. h (suc k) e (omega arith) (omega arith))

-- where a search among rising cycles ends
pub record IsSearched (pairs : List Pair) (cycle from to : ℕ) : Type 0 where
  pub in_order : from ≤ to
  pub within : to ≤ length pairs
  pub below : (k : ℕ) (d : Pair) → k < from → (get_or pairs k d).cycle < cycle
  pub above : (k : ℕ) (d : Pair) → to ≤ k → k < length pairs → cycle ≤ (get_or pairs k d).cycle

by_order : {P : Type 0} (a b : ℕ) → (a < b → P) → (b ≤ a → P) → P
by_order a b f g = elim (cases_lt a b) [ inl l ↦ f l | inr l ↦ g l ]

pub get_or-default : (pairs : List Pair) (i : ℕ) (d e : Pair) → i < length pairs → get_or pairs i d ≡ get_or pairs i e
get_or-default pairs i d e l = get_or_default pairs i d e l

module _ (pairs : List Pair) (c from to : ℕ) (h : IsSearched pairs c from to) (rises : Rise pairs) where
  pub search_right : (middle : ℕ) (d : Pair) → from ≤ middle → middle < to → (get_or pairs middle d).cycle < c
      → IsSearched pairs c (middle + 1) to
  search_right middle d p q lower = record {
    in_order = omega arith;
    within = h.within;
    below = λ k e l. elim (cases_eq k middle) [
      | inl is ↦ (let same : get_or pairs k e ≡ get_or pairs middle d = ap (λ j. get_or pairs j e) is
          ∙ get_or-default pairs middle e d (omega (arith, h.within)) in omega (arith, ap (λ x. x.cycle) same))
      | inr ne ↦ (let r = rises k middle e (omega arith) (omega (arith, h.within)) in
          let same : get_or pairs middle e ≡ get_or pairs middle d =
          get_or-default pairs middle e d (omega (arith, h.within)) in omega (arith, ap (λ x. x.cycle) same))
    ];
    above = h.above;
  }

  pub search_left : (middle : ℕ) (d : Pair) → from ≤ middle → middle < to → c ≤ (get_or pairs middle d).cycle
      → IsSearched pairs c from middle
  search_left middle d p q higher = record {
    in_order = p;
    within = omega (arith, h.within);
    below = h.below;
    above = λ k e l m. elim (cases_eq k middle) [
      | inl is ↦ (let same : get_or pairs k e ≡ get_or pairs middle d = ap (λ j. get_or pairs j e) is
          ∙ get_or-default pairs middle e d (omega (arith, h.within)) in omega (arith, ap (λ x. x.cycle) same))
      | inr ne ↦ (let r = rises middle k e (omega arith) m in
          let same : get_or pairs middle e ≡ get_or pairs middle d =
          get_or-default pairs middle e d (omega (arith, h.within)) in omega (arith, ap (λ x. x.cycle) same))
    ];
  }

  pub search_found : (d : Pair) → to ≤ from → from < length pairs → (get_or pairs from d).cycle ≡ c
      → mult_of pairs c ≡ (get_or pairs from d).mult
  search_found d done inside is = mult_of-at pairs c from d inside is (λ k e l ne.
      by_order k from (λ (lt : k < from). (let b = h.below k e lt in λ (q : (get_or pairs k e).cycle ≡ c). absurd (omega arith)))
      (λ (ge : from ≤ k). (let r = rises from k e (omega arith) l in
      let same : get_or pairs from e ≡ get_or pairs from d = get_or-default pairs from e d inside in
      λ (q : (get_or pairs k e).cycle ≡ c). absurd (omega (arith, ap (λ x. x.cycle) same)))))

  pub search_missing : to ≤ from → ((d : Pair) → from < length pairs → (get_or pairs from d).cycle ≢ c) → mult_of pairs c ≡ pos 0
  search_missing done not_here = mult_of-none pairs c (λ k e l.
      by_order k from (λ (lt : k < from). (let b = h.below k e lt in λ (q : (get_or pairs k e).cycle ≡ c). absurd (omega arith)))
      (λ (ge : from ≤ k). elim (cases_eq k from) [
        | inl is ↦ (let n = not_here e (omega arith) in
            λ (q : (get_or pairs k e).cycle ≡ c). n (ap (λ j. (get_or pairs j e).cycle) (sym is) ∙ q))
        | inr ne ↦ (let r = rises from k e (omega arith) l in let a = h.above from e (omega arith) (omega arith) in
            λ (q : (get_or pairs k e).cycle ≡ c). absurd (omega arith))
      ]))
