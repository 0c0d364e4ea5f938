-- What lemmas take of the rows, as it is added to the flows.
use Rattle.std.proofs.Common.{◌≡◌, inl, inr, ℕ, ◌+◌, ◌-◌, ◌*◌, ◌^◌, ◌<◌, ◌≤◌, arith, refl, ap, sym, ◌∙◌, List, [], ◌∷◌, length, get_or, set, drop, Bool, true}
use Rattle.std.specs.Prelude.{ℤ, pos, negsuc, ◌+ℤ◌, ◌*ℤ◌, ◌<ℤ◌, unsigned_abs, nat_abs, if◌then◌else◌, ◌==◌}
use Rattle.std.proofs.lemmas.Int.{ints, unsigned_abs-mul}
use Rattle.std.proofs.Math.Nat.{mul-le-mul}
use Rattle.std.proofs.lemmas.Bool.{cases_eq, eq-eqb, ne_eqb}
use Rattle.std.proofs.lemmas.List.{get_or-set_same, get_or-set_other, length-set, drop_all, drop_more}
use Rattle.pesp_problem.specs.declared.pair.Pair.{Pair}
use Rattle.pesp_problem.proofs.Integers.{mul-add}
use Rattle.pesp_problem.specs.Terms.{number_at, AreSmallFlows}
use Rattle.pesp_truth.specs.Named.{IsNamed, AreNamed, lemma_at, of_lemmas}
use Rattle.pesp_truth.proofs.Named.{at_most}
use Rattle.pesp_leaves.specs.Flows.{ArePairLimits}
use Rattle.pesp_leaves.proofs.Naming.{limits_apart, named_apart}
use Rattle.pesp_truth.specs.Lemmas.{Lemma, weight_at}
use Rattle.pesp_truth.specs.LemmaLeaves.{over_lemmas}
use Rattle.pesp_truth.specs.Limits.{rises_from, weights_keep_limits}
use Rattle.pesp_truth.proofs.Small.{Apart, first_apart, weight_small}
use Rattle.pesp_leaves.specs.Taken.{floor_of, taken_of, AreFlowsWith}

-- ---- the weights of one lemma

-- the first k weights are added
pub record AreAdded (weights : List Pair) (mult : ℤ) (initial flows : List ℤ) (k : ℕ) : Type 0 where
  pub rises : (least : ℕ) × (rises_from least (drop k weights) ≡ true)
  pub sum : (i : ℕ) → i < length flows
      → number_at flows i +ℤ mult *ℤ weight_at (drop k weights) i ≡ number_at initial i +ℤ mult *ℤ weight_at weights i

pub added_none : (weights : List Pair) (mult : ℤ) (flows : List ℤ) → weights_keep_limits weights ≡ true → AreAdded weights mult flows flows 0
added_none weights mult flows e = record { rises = (1, e); sum = λ i l. refl }

-- a multiplier times a weight
times_small : (mult w : ℤ) → unsigned_abs mult ≤ 1000000000000 → unsigned_abs w ≤ 1000000000000 → unsigned_abs (mult *ℤ w) ≤ 10 ^ 24
times_small mult w m h = omega (arith, unsigned_abs-mul mult w, mul-le-mul m h)

-- so far a flow is little more than at the beginning
module _ (weights : List Pair) (mult : ℤ) (initial flows : List ℤ) (k : ℕ) (keeps : weights_keep_limits weights ≡ true)
    (m : unsigned_abs mult ≤ 1000000000000) (before : AreAdded weights mult initial flows k) where
  pub so_far : (i : ℕ) → i < length flows → unsigned_abs (number_at flows i) ≤ unsigned_abs (number_at initial i) + 2 * 10 ^ 24
  so_far i l =
      let all = times_small mult (weight_at weights i) m (weight_small 1 weights i keeps) in
      let left = times_small mult (weight_at (drop k weights) i) m (weight_small before.rises.0 (drop k weights) i before.rises.1) in
      omega (arith, ints, before.sum i l, all, left)

  module _ (d : Pair) (h : k < length weights) where
    here : Apart before.rises.0 (get_or weights k d) (drop (k + 1) weights)
    here = first_apart before.rises.0 (get_or weights k d) (drop (k + 1) weights)
        (ap (rises_from before.rises.0) (sym (drop_more weights k d h)) ∙ before.rises.1)

    pub weight_here : unsigned_abs (get_or weights k d).mult ≤ 1000000000000
    weight_here = omega (arith, ints, here.weight)

    go_on : (old now more left all there rest : ℤ) → old +ℤ left ≡ all → left ≡ there +ℤ rest → now ≡ old +ℤ more → more ≡ there
        → now +ℤ rest ≡ all
    go_on old now more left all there rest a b c e = omega (arith, ints)

    pub added_more : (at : ℕ) (next : ℤ) → (get_or weights k d).cycle ≡ at + 1 → at < length flows
        → next ≡ number_at flows at +ℤ mult *ℤ (get_or weights k d).mult
        → AreAdded weights mult initial (set flows at next) (k + 1)
    added_more at next is inside e = record {
      rises = ((get_or weights k d).cycle + 1, here.rest);
      sum = λ i l.
          let p = get_or weights k d in
          let l' : i < length flows = omega (arith, length-set flows at next) in
          let pick : Bool → ℤ = λ b. if b then p.mult else pos 0 in
          let rest = weight_at (drop (k + 1) weights) i in
          let apart : mult *ℤ weight_at (drop k weights) i ≡ mult *ℤ pick (p.cycle == i + 1) +ℤ mult *ℤ rest =
          ap (λ (ws : List Pair). mult *ℤ weight_at ws i) (drop_more weights k d h) ∙ mul-add mult (pick (p.cycle == i + 1)) rest in
          elim (cases_eq i at) [
            | inl same ↦
                let read : number_at (set flows at next) i ≡ next = ap (number_at (set flows at next)) same
                ∙ get_or-set_same flows at next (pos 0) inside in
                let now : number_at (set flows at next) i ≡ number_at flows i +ℤ mult *ℤ p.mult = read ∙ e
                ∙ ap (λ j. number_at flows j +ℤ mult *ℤ p.mult) (sym same) in
                let picked = ap (λ b. mult *ℤ pick b) (eq-eqb p.cycle (i + 1) (omega (arith, is, same))) in
                go_on _ _ _ _ _ _ _ (before.sum i l') apart now (sym picked)
            | inr other ↦
                let read = get_or-set_other flows at i next (pos 0) other in
                let now : number_at (set flows at next) i ≡ number_at flows i +ℤ mult *ℤ pos 0 = omega (arith, ints, read) in
                let picked = ap (λ b. mult *ℤ pick b) (ne_eqb p.cycle (i + 1) (λ f. other (omega (arith, f, is)))) in
                go_on _ _ _ _ _ _ _ (before.sum i l') apart now (sym picked)
          ];
    }

  -- all are added
  pub all_added : (i : ℕ) → length weights ≤ k → i < length flows → number_at flows i ≡ number_at initial i +ℤ mult *ℤ weight_at weights i
  all_added i done l =
      let none : mult *ℤ weight_at (drop k weights) i ≡ mult *ℤ pos 0 = ap (λ (ws : List Pair). mult *ℤ weight_at ws i) (drop_all k weights done) in
      omega (arith, ints, before.sum i l, none)

  pub all_small : (i : ℕ) → length weights ≤ k → i < length flows
      → unsigned_abs (number_at flows i) ≤ unsigned_abs (number_at initial i) + 10 ^ 24
  all_small i done l =
      let all = times_small mult (weight_at weights i) m (weight_small 1 weights i keeps) in
      omega (arith, ints, all_added i done l, all)

-- ---- one pair

none_more : (z : ℤ) → z ≡ pos 0 +ℤ z
none_more z = omega (arith, ints)

one_more : (a z : ℤ) → a +ℤ z ≡ (a +ℤ pos 0) +ℤ z
one_more a z = omega (arith, ints)

no_more : (a : ℤ) → a +ℤ pos 0 ≡ a
no_more a = omega (arith, ints)

-- a pair and the others
over_more : (others : ℕ) (facts : List Lemma) (pair : Pair) (rest : List Pair) (term : Lemma → ℤ)
    → over_lemmas (of_lemmas others facts (pair ∷ rest)) term
    ≡ over_lemmas (of_lemmas others facts (pair ∷ [])) term +ℤ over_lemmas (of_lemmas others facts rest) term
over_more others facts pair rest term =
    elim (at_most pair.cycle others) [
      | inl m ↦ rw m.0 (none_more (over_lemmas (of_lemmas others facts rest) term))
      | inr m ↦ rw m.0 (one_more _ (over_lemmas (of_lemmas others facts rest) term))
    ]

-- one that names no lemma adds nothing
pub over_none : (others : ℕ) (facts : List Lemma) (pair : Pair) (term : Lemma → ℤ)
    → pair.cycle ≤ others → over_lemmas (of_lemmas others facts (pair ∷ [])) term ≡ pos 0
over_none others facts pair term h = elim (at_most pair.cycle others) [ inl m ↦ rw m.0 refl | inr m ↦ absurd (omega (arith, h, m.1)) ]

pos_abs : (z : ℤ) → pos 0 <ℤ z → pos (nat_abs z) ≡ z
pos_abs (pos n) h = refl
pos_abs (negsuc n) h = absurd (omega (arith, ints, h))

-- one that names a lemma adds its term, under the multiplier
pub over_one : (others : ℕ) (facts : List Lemma) (pair : Pair) (term : Lemma → ℤ)
    → others < pair.cycle → pos 0 <ℤ pair.mult → over_lemmas (of_lemmas others facts (pair ∷ [])) term
    ≡ pair.mult *ℤ term (lemma_at facts (pair.cycle - others - 1))
over_one others facts pair term h above =
    elim (at_most pair.cycle others) [
      | inl m ↦ absurd (omega (arith, h, m.1))
      | inr m ↦ rw m.0 (no_more (pos (nat_abs pair.mult) *ℤ term (lemma_at facts (pair.cycle - others - 1)))
          ∙ ap (λ z. z *ℤ term (lemma_at facts (pair.cycle - others - 1))) (pos_abs pair.mult above))
    ]

-- ---- pair by pair

pub record AreSummed (others : ℕ) (facts : List Lemma) (pairs left : List Pair) (initial : List ℤ) (sum : ℤ) (flows : List ℤ) : Type 0 where
  pub named : AreNamed others (length facts) left
  pub limits : ArePairLimits left
  pub floors : sum +ℤ floor_of others facts left ≡ floor_of others facts pairs
  pub size : unsigned_abs sum + length left * 10 ^ 31 ≤ 10 ^ 36
  pub flows_are : (i : ℕ) → i < length flows
      → number_at flows i +ℤ taken_of others facts left i ≡ number_at initial i +ℤ taken_of others facts pairs i
  pub small : (i : ℕ) → i < length flows → unsigned_abs (number_at flows i) + length left * 10 ^ 24 ≤ 100001 * 10 ^ 24

pub summed_none : (others : ℕ) (facts : List Lemma) (pairs : List Pair) (flows : List ℤ) → AreNamed others (length facts) pairs
    → ArePairLimits pairs → AreSmallFlows flows → AreSummed others facts pairs pairs flows (pos 0) flows
summed_none others facts pairs flows named limits small = record {
  named = named;
  limits = limits;
  floors = sym (none_more (floor_of others facts pairs));
  size = omega (arith, limits.1);
  flows_are = λ i l. refl;
  small = λ i l. omega (arith, limits.1, small i l);
}

next_sum : (sum more all here rest whole : ℤ) → all ≡ sum +ℤ here → more ≡ here +ℤ rest → sum +ℤ more ≡ whole → all +ℤ rest ≡ whole
next_sum sum more all here rest whole a b c = omega (arith, ints)

module _ (others : ℕ) (facts : List Lemma) (pairs left rest : List Pair) (pair : Pair) (initial : List ℤ) (sum : ℤ) (flows : List ℤ)
    (is : left ≡ pair ∷ rest) (before : AreSummed others facts pairs left initial sum flows) where
  pub here_named : IsNamed others (length facts) pair
  here_named = (named_apart others left rest pair is (length facts) before.named).0

  pub here_small : unsigned_abs pair.mult ≤ 1000000000000
  here_small = (limits_apart others left rest pair is before.limits).0

  one_fewer : length left ≡ length rest + 1
  one_fewer = let e = ap length is in omega (arith, e)

  pub room : AreFlowsWith 99999 flows
  room i l = omega (arith, before.small i l, one_fewer)

  pub sum_small : unsigned_abs sum ≤ 10 ^ 36
  sum_small = omega (arith, before.size)

  pub summed_more : (sum' here : ℤ) (flows' : List ℤ) → length flows' ≡ length flows → sum' ≡ sum +ℤ here
      → here ≡ floor_of others facts (pair ∷ []) → unsigned_abs here ≤ 10 ^ 31
      → ((i : ℕ) → i < length flows → number_at flows' i ≡ number_at flows i +ℤ taken_of others facts (pair ∷ []) i)
      → ((i : ℕ) → i < length flows → unsigned_abs (number_at flows' i) ≤ unsigned_abs (number_at flows i) + 10 ^ 24)
      → AreSummed others facts pairs rest initial sum' flows'
  summed_more sum' here flows' long e h s added small = record {
    named = (named_apart others left rest pair is (length facts) before.named).1;
    limits = (limits_apart others left rest pair is before.limits).1;
    floors = next_sum sum (floor_of others facts left) sum' here (floor_of others facts rest) (floor_of others facts pairs) e
        (ap (floor_of others facts) is ∙ over_more others facts pair rest _
        ∙ ap (λ z. z +ℤ floor_of others facts rest) (sym h)) before.floors;
    size = omega (arith, ints, before.size, one_fewer, s, e);
    flows_are = λ i l.
        let l' : i < length flows = omega (arith, l, long) in
        next_sum (number_at flows i) (taken_of others facts left i) (number_at flows' i) (taken_of others facts (pair ∷ []) i)
        (taken_of others facts rest i) (number_at initial i +ℤ taken_of others facts pairs i) (added i l')
        (ap (λ (ps : List Pair). taken_of others facts ps i) is ∙ over_more others facts pair rest _) (before.flows_are i l');
    small = λ i l.
        let l' : i < length flows = omega (arith, l, long) in
        omega (arith, before.small i l', small i l', one_fewer);
  }

-- all pairs are added
module _ (others : ℕ) (facts : List Lemma) (pairs left : List Pair) (initial : List ℤ) (sum : ℤ) (flows : List ℤ) (done : left ≡ [])
    (h : AreSummed others facts pairs left initial sum flows) where
  pub all_floors : sum ≡ floor_of others facts pairs
  all_floors = sym (no_more sum) ∙ ap (λ (ps : List Pair). sum +ℤ floor_of others facts ps) (sym done) ∙ h.floors

  pub all_flows : (i : ℕ) → i < length flows → number_at flows i ≡ number_at initial i +ℤ taken_of others facts pairs i
  all_flows i l = sym (no_more (number_at flows i))
      ∙ ap (λ (ps : List Pair). number_at flows i +ℤ taken_of others facts ps i) (sym done) ∙ h.flows_are i l

  pub flows_small : AreFlowsWith 100000 flows
  flows_small i l = omega (arith, h.small i l)
