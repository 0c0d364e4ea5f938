-- What holds of two lists, place by place.
use Rattle.std.proofs.Common.{◌≡◌, ℕ, ◌+◌, ◌<◌, List, [], ◌∷◌, ◌++◌, length, map, take, get_or, refl, sym, ap, subst, ◌∙◌}
use Rattle.std.proofs.lemmas.List.{take_more}
use Rattle.std.proofs.lemmas.Slice.Zip.{all_zipped_more}
use Rattle.std.specs.List.{AllZip}

-- what follows of each pair
pub zip_weaker : {A B : Type 0} (R S : A → B → Type 0) (xs : List A) (ys : List B)
    → ((x : A) (y : B) → R x y → S x y) → AllZip R xs ys → AllZip S xs ys
zip_weaker R S [] [] f h = tt
zip_weaker R S [] (b ∷ ys) f h = absurd h
zip_weaker R S (a ∷ xs) [] f h = absurd h
zip_weaker R S (a ∷ xs) (b ∷ ys) f h = (f a b h.0, zip_weaker R S xs ys f h.1)

-- the list that a part of each element is
pub zip_map : {A B : Type 0} (R : A → B → Type 0) (f : B → A) (xs : List A) (ys : List B)
    → ((x : A) (y : B) → R x y → f y ≡ x) → AllZip R xs ys → map f ys ≡ xs
zip_map R f [] [] is h = refl
zip_map R f [] (b ∷ ys) is h = absurd h
zip_map R f (a ∷ xs) [] is h = absurd h
zip_map R f (a ∷ xs) (b ∷ ys) is h = ap (λ x. x ∷ map f ys) (is a b h.0) ∙ ap (λ rest. a ∷ rest) (zip_map R f xs ys is h.1)

-- one more of the first elements
pub zip_more : {A B : Type 0} (R : A → B → Type 0) (xs : List A) (i : ℕ) (d : A) (ys : List B) (y : B)
    → i < length xs → AllZip R (take i xs) ys → R (get_or xs i d) y → AllZip R (take (i + 1) xs) (ys ++ y ∷ [])
zip_more {A = A} R xs i d ys y below h k =
    subst (λ (first : List A). AllZip R first (ys ++ y ∷ [])) (sym (take_more xs i d below))
    (all_zipped_more R (take i xs) ys (get_or xs i d) y h k)
