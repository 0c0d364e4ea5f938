-- The least of numbers of which some are missing.
use Rattle.std.proofs.Common.{◌≡◌, ℕ, ◌+◌, ◌<◌, ◌≤◌, arith, ap, sym, ◌∙◌, refl, List, [], ◌∷◌, length, get_or, drop, Option, Some, None, true}
use Rattle.std.proofs.lemmas.List.{drop_all, drop_more}
use Rattle.std.proofs.lemmas.Bool.Decides.{nat_tests}
use Rattle.pesp_cert.specs.Limits.{is_cost}
use Rattle.pesp_tree.specs.States.{IsAtMost}
use Rattle.pesp_sharp_work.specs.Told.{lesser_bound, least_shown}

lesser_first : (a b : Option ℕ) → IsAtMost (lesser_bound a b) a
lesser_first None b = tt
lesser_first (Some a) None = omega arith
lesser_first (Some a) (Some b) = omega arith

lesser_second : (a b : Option ℕ) → IsAtMost (lesser_bound a b) b
lesser_second a None = tt
lesser_second None (Some b) = omega arith
lesser_second (Some a) (Some b) = omega arith

at_most_lesser : (l a b : Option ℕ) → IsAtMost l a → IsAtMost l b → IsAtMost l (lesser_bound a b)
at_most_lesser l None b h k = k
at_most_lesser l (Some a) None h k = h
at_most_lesser None (Some a) (Some b) h k = absurd h
at_most_lesser (Some l) (Some a) (Some b) h k = omega (arith, h, k)

at_most_then : (a b c : Option ℕ) → IsAtMost a b → IsAtMost b c → IsAtMost a c
at_most_then a b None h k = tt
at_most_then None None (Some c) h k = absurd k
at_most_then (Some a) None (Some c) h k = absurd k
at_most_then None (Some b) (Some c) h k = absurd h
at_most_then (Some a) (Some b) (Some c) h k = omega (arith, h, k)

lesser_swap : (a b c : Option ℕ) → lesser_bound a (lesser_bound b c) ≡ lesser_bound b (lesser_bound a c)
lesser_swap None b c = refl
lesser_swap (Some a) None c = refl
lesser_swap (Some a) (Some b) None = ap (λ (n : ℕ). Some n) (omega arith)
lesser_swap (Some a) (Some b) (Some c) = ap (λ (n : ℕ). Some n) (omega arith)

least_of_lesser : (value cost : Option ℕ) (shown : List (Option ℕ))
    → least_shown (lesser_bound value cost) shown ≡ lesser_bound value (least_shown cost shown)
least_of_lesser value cost [] = refl
least_of_lesser value cost (other ∷ shown) = ap (lesser_bound other) (least_of_lesser value cost shown) ∙ lesser_swap other value (least_shown cost shown)

-- ---- line by line

-- once k of those that are shown are read
pub record IsLeastSoFar (shown : List (Option ℕ)) (cost least : Option ℕ) (k : ℕ) : Type 0 where
  pub rest : least_shown least (drop k shown) ≡ least_shown cost shown

pub none_read : (shown : List (Option ℕ)) (cost : Option ℕ) → IsLeastSoFar shown cost cost 0
none_read shown cost = record { rest = refl }

pub one_read : (shown : List (Option ℕ)) (cost least value new : Option ℕ) (k : ℕ) → k < length shown
    → value ≡ get_or shown k value → new ≡ lesser_bound value least → IsLeastSoFar shown cost least k
    → IsLeastSoFar shown cost new (k + 1)
one_read shown cost least value new k below is now h =
    let rest = drop (k + 1) shown in
    let there : drop k shown ≡ value ∷ rest = drop_more shown k value below ∙ ap (λ (v : Option ℕ). v ∷ rest) (sym is) in
    record {
      rest = ap (λ (l : Option ℕ). least_shown l rest) now ∙ least_of_lesser value least rest
          ∙ sym (ap (least_shown least) there) ∙ h.rest;
    }

pub all_read : (shown : List (Option ℕ)) (cost least : Option ℕ) (k : ℕ) → length shown ≤ k
    → IsLeastSoFar shown cost least k → least ≡ least_shown cost shown
all_read shown cost least k done h = sym (ap (least_shown least) (drop_all k shown done)) ∙ h.rest

-- ---- what it is the least of

-- a number is at most each of those that are shown
abbrev pub IsReached : Option ℕ → List (Option ℕ) → Type 0
IsReached l [] = Unit {0}
IsReached l (value ∷ shown) = IsAtMost l value × IsReached l shown

lower : (a b : Option ℕ) (shown : List (Option ℕ)) → IsAtMost a b → IsReached b shown → IsReached a shown
lower a b [] h r = tt
lower a b (value ∷ shown) h r = (at_most_then a b value h r.0, lower a b shown h r.1)

pub least_is_reached : (cost : Option ℕ) (shown : List (Option ℕ)) → IsReached (least_shown cost shown) shown
least_is_reached cost [] = tt
least_is_reached cost (value ∷ shown) = (
  lesser_first value (least_shown cost shown),
  lower (lesser_bound value (least_shown cost shown)) (least_shown cost shown) shown (lesser_second value (least_shown cost shown))
      (least_is_reached cost shown),
)

pub least_within_cost : (cost : Option ℕ) (shown : List (Option ℕ)) → IsAtMost (least_shown cost shown) cost
least_within_cost None [] = tt
least_within_cost (Some cost) [] = omega arith
least_within_cost cost (value ∷ shown) = at_most_then (lesser_bound value (least_shown cost shown)) (least_shown cost shown) cost
    (lesser_second value (least_shown cost shown)) (least_within_cost cost shown)

pub reached_by_least : (l cost : Option ℕ) (shown : List (Option ℕ)) → IsAtMost l cost → IsReached l shown
    → IsAtMost l (least_shown cost shown)
reached_by_least l cost [] h r = h
reached_by_least l cost (value ∷ shown) h r = at_most_lesser l value (least_shown cost shown) r.0 (reached_by_least l cost shown h r.1)

-- ---- their texts

abbrev pub AreCosts : List (Option ℕ) → Type 0
AreCosts [] = Unit {0}
AreCosts (value ∷ shown) = (is_cost value ≡ true) × AreCosts shown

lesser_cost : (a b : Option ℕ) → is_cost a ≡ true → is_cost b ≡ true → is_cost (lesser_bound a b) ≡ true
lesser_cost None b h k = k
lesser_cost (Some a) None h k = h
lesser_cost (Some a) (Some b) h k = grind (arith, nat_tests, h, k)

pub least_cost : (cost : Option ℕ) (shown : List (Option ℕ)) → is_cost cost ≡ true → AreCosts shown
    → is_cost (least_shown cost shown) ≡ true
least_cost cost [] h a = h
least_cost cost (value ∷ shown) h a = lesser_cost value (least_shown cost shown) a.0 (least_cost cost shown h a.1)
