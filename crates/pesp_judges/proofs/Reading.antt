-- How far a list was read.
use Rattle.std.proofs.Common.{◌≡◌, ℕ, ◌+◌, ◌<◌, ◌≤◌, arith, ap, sym, refl, ◌∙◌, List, [], ◌∷◌, length, get_or, drop}
use Rattle.std.proofs.lemmas.List.{drop_more, length-drop}

-- k elements of a list came, and these are left
pub record Came {A : Type 0} (all left : List A) (k : ℕ) : Type 0 where
  pub rest : drop k all ≡ left

pub came_none : {A : Type 0} (all : List A) → Came all all 0
came_none all = record { rest = refl }

module _ {A : Type 0} (all left others : List A) (x : A) (k : ℕ) (came : Came all left k) (is : left ≡ x ∷ others) where
  pub came_within : k < length all
  came_within = omega (arith, length-drop k all, ap length (came.rest ∙ is))

  apart : (d : A) → get_or all k d ∷ drop (k + 1) all ≡ x ∷ others
  apart d = sym (drop_more all k d came_within) ∙ came.rest ∙ is

  pub came_here : (d : A) → get_or all k d ≡ x
  came_here d = let e = apart d in cc

  pub came_more : Came all others (k + 1)
  came_more = let e = apart x in record { rest = cc }

pub came_all : {A : Type 0} (all left : List A) (k : ℕ) → Came all left k → left ≡ [] → length all ≤ k
came_all all left k came is = omega (arith, length-drop k all, ap length (came.rest ∙ is))
