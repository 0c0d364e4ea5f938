-- Numbers of events that are joined by rows.
use Rattle.std.proofs.Common.{◌≡◌, ℕ, ◌+◌, ◌<◌, inl, inr, refl, sym, ◌∙◌, ap, arith, subst, List, [], ◌∷◌, ◌++◌, length}
use Rattle.std.specs.Prelude.{slice_index}
use Rattle.std.proofs.lemmas.List.{get_or_append_left, get_or_push, length_push}
use Rattle.pesp_problem.specs.declared.arc.Arc.{Arc}
use Rattle.pesp_problem.specs.Forests.{AreJoined, IsFirstOf}
use Rattle.pesp_problem.proofs.Integers.{lt-or-same}
use Rattle.pesp_reduce.specs.Contractions.{IsStanding}
use Rattle.pesp_reduce.proofs.Ways.{one_first, first_by}

pub standing_none : (arcs : List Arc) → IsStanding arcs 0 [] []
standing_none arcs = record {
  stands_count = refl;
  firsts_count = omega arith;
  stands_below = λ e h. absurd (omega arith);
  firsts_below = λ c h. absurd (omega arith);
  first = λ e h. absurd (omega arith);
  own = λ c h. absurd (omega arith);
}

at_old : (xs : List ℕ) (x k : ℕ) → k < length xs → slice_index (xs ++ x ∷ []) k ≡ slice_index xs k
at_old xs x k h = get_or_append_left xs (x ∷ []) 0 k h

at_new : (xs : List ℕ) (x k : ℕ) → length xs ≡ k → slice_index (xs ++ x ∷ []) k ≡ x
at_new xs x k h = get_or_push xs x 0 k h

-- an event that is joined with an earlier one has its number
pub standing_old : (arcs : List Arc) (e f : ℕ) (stands firsts : List ℕ) → IsStanding arcs e stands firsts
    → IsFirstOf arcs e f → f < e → IsStanding arcs (e + 1) (stands ++ slice_index stands f ∷ []) firsts
standing_old arcs e f stands firsts s x l =
    let c = slice_index stands f in
    let new = at_new stands c e s.stands_count in
    let old = λ (k : ℕ) (h : k < e). at_old stands c k (omega (arith, s.stands_count)) in
    record {
      stands_count = length_push stands c ∙ ap (λ n. n + 1) s.stands_count;
      firsts_count = omega (arith, s.firsts_count);
      stands_below = λ k h. elim (lt-or-same k e h) [
        | inl m ↦ subst (λ y. y < length firsts) (sym (old k m)) (s.stands_below k m)
        | inr q ↦ subst (λ y. y < length firsts) (sym (ap (λ j. slice_index (stands ++ c ∷ []) j) q ∙ new)) (s.stands_below f l)
      ];
      firsts_below = λ k h. let b = s.firsts_below k h in omega arith;
      first = λ k h. elim (lt-or-same k e h) [
        | inl m ↦ subst (λ y. IsFirstOf arcs k (slice_index firsts y)) (sym (old k m)) (s.first k m)
        | inr q ↦
            let here : IsFirstOf arcs e (slice_index firsts c) = first_by arcs e f (slice_index firsts c) x (s.first f l) in
            let there : IsFirstOf arcs e (slice_index firsts (slice_index (stands ++ c ∷ []) e)) =
            subst (λ y. IsFirstOf arcs e (slice_index firsts y)) (sym new) here in
            subst (λ j. IsFirstOf arcs j (slice_index firsts (slice_index (stands ++ c ∷ []) j))) (sym q) there
      ];
      own = λ k h. old (slice_index firsts k) (s.firsts_below k h) ∙ s.own k h;
    }

-- an event that is the first of those joined with it has a number of its own
pub standing_new : (arcs : List Arc) (e : ℕ) (stands firsts : List ℕ) → IsStanding arcs e stands firsts
    → IsFirstOf arcs e e → IsStanding arcs (e + 1) (stands ++ length firsts ∷ []) (firsts ++ e ∷ [])
standing_new arcs e stands firsts s x =
    let c = length firsts in
    let S = stands ++ c ∷ [] in let F = firsts ++ e ∷ [] in
    let more = length_push firsts e in
    let new = at_new stands c e s.stands_count in
    let new_first = at_new firsts e c refl in
    let old = λ (k : ℕ) (h : k < e). at_old stands c k (omega (arith, s.stands_count)) in
    let old_first = λ (k : ℕ) (h : k < c). at_old firsts e k h in
    record {
      stands_count = length_push stands c ∙ ap (λ n. n + 1) s.stands_count;
      firsts_count = omega (arith, s.firsts_count, more);
      stands_below = λ k h. elim (lt-or-same k e h) [
        | inl m ↦ let b = s.stands_below k m in omega (arith, b, more, old k m)
        | inr q ↦ let at = ap (λ j. slice_index S j) q ∙ new in omega (arith, at, more)
      ];
      firsts_below = λ k h. elim (lt-or-same k c (omega (arith, more))) [
        | inl m ↦ let b = s.firsts_below k m in omega (arith, b, old_first k m)
        | inr q ↦ let at = ap (λ j. slice_index F j) q ∙ new_first in omega (arith, at)
      ];
      first = λ k h. elim (lt-or-same k e h) [
        | inl m ↦
            let b = s.stands_below k m in
            let is : slice_index F (slice_index S k)
            ≡ slice_index firsts (slice_index stands k) = ap (slice_index F) (old k m)
            ∙ old_first (slice_index stands k) b in
            subst (λ y. IsFirstOf arcs k y) (sym is) (s.first k m)
        | inr q ↦
            let is : slice_index F (slice_index S e) ≡ e = ap (slice_index F) new ∙ new_first in
            let here : IsFirstOf arcs e (slice_index F (slice_index S e)) = subst (λ y. IsFirstOf arcs e y) (sym is) x in
            subst (λ j. IsFirstOf arcs j (slice_index F (slice_index S j))) (sym q) here
      ];
      own = λ k h. elim (lt-or-same k c (omega (arith, more))) [
        | inl m ↦ ap (slice_index S) (old_first k m) ∙ old (slice_index firsts k) (s.firsts_below k m) ∙ s.own k m
        | inr q ↦ ap (λ j. slice_index S (slice_index F j)) q ∙ ap (slice_index S) new_first ∙ new ∙ sym q
      ];
    }

-- joined events have one number
pub standing_joined : (arcs : List Arc) (events : ℕ) (stands firsts : List ℕ) (a b : ℕ)
    → IsStanding arcs events stands firsts → a < events → b < events → AreJoined arcs a b
    → slice_index stands a ≡ slice_index stands b
standing_joined arcs events stands firsts a b s x y j =
    let same = one_first arcs a b (slice_index firsts (slice_index stands a))
    (slice_index firsts (slice_index stands b)) (s.first a x) (s.first b y) j in
    sym (s.own (slice_index stands a) (s.stands_below a x)) ∙ ap (slice_index stands) same
    ∙ s.own (slice_index stands b) (s.stands_below b y)
