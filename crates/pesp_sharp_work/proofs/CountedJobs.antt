-- Open leaves counted line by line.
use Rattle.std.proofs.Common.{◌≡◌, ℕ, ◌+◌, ◌<◌, ◌≤◌, arith, ap, sym, ◌∙◌, List, [], ◌∷◌, length, get_or, drop, Option, Some, None}
use Rattle.std.specs.Prelude.{Bool, true, false, if◌then◌else◌}
use Rattle.std.proofs.lemmas.List.{drop_all, drop_more}
use Rattle.pesp_sharp_work.specs.Jobs.{is_open, count_open}

first_line : (cost : Option ℕ) (value : Option ℕ) (rest : List (Option ℕ))
    → count_open cost (value ∷ rest) ≡ count_open cost (value ∷ []) + count_open cost rest
first_line cost None rest = omega arith
first_line cost (Some value) rest = go (is_open cost value)
  where
    go : (b : Bool) → (if b then 1 + count_open cost rest else count_open cost rest)
        ≡ (if b then 1 + 0 else 0) + count_open cost rest
    go true = omega arith
    go false = omega arith

at_most_one : (cost : Option ℕ) (value : Option ℕ) → count_open cost (value ∷ []) ≤ 1
at_most_one cost None = omega arith
at_most_one cost (Some value) = go (is_open cost value)
  where
    go : (b : Bool) → (if b then 1 + 0 else 0) ≤ 1
    go true = omega arith
    go false = omega arith

-- so many open leaves were counted, at most one a line, once k lines are read
pub record AreCounted (cost : Option ℕ) (shown : List (Option ℕ)) (k count : ℕ) : Type 0 where
  pub counted : count + count_open cost (drop k shown) ≡ count_open cost shown
  pub most : count ≤ k

pub none_read : (cost : Option ℕ) (shown : List (Option ℕ)) → AreCounted cost shown 0 0
none_read cost shown = record { counted = omega arith; most = omega arith }

pub one_read : (cost : Option ℕ) (shown : List (Option ℕ)) (k count new own : ℕ) (value : Option ℕ) → k < length shown
    → value ≡ get_or shown k value → own ≡ count_open cost (value ∷ []) → new ≡ count + own
    → AreCounted cost shown k count → AreCounted cost shown (k + 1) new
one_read cost shown k count new own value below is e sum h =
    let there : drop k shown ≡ value ∷ drop (k + 1) shown =
    drop_more shown k value below ∙ ap (λ (v : Option ℕ). v ∷ drop (k + 1) shown) (sym is) in
    let split = ap (count_open cost) there ∙ first_line cost value (drop (k + 1) shown) in
    let one = at_most_one cost value in
    let counted = h.counted in
    let before = h.most in
    record { counted = omega (arith, split, e, sum, counted); most = omega (arith, one, e, sum, before) }

pub all_read : (cost : Option ℕ) (shown : List (Option ℕ)) (k count : ℕ) → length shown ≤ k
    → AreCounted cost shown k count → count ≡ count_open cost shown
all_read cost shown k count done h =
    let none = ap (count_open cost) (drop_all k shown done) in
    let counted = h.counted in
    omega (arith, none, counted)
