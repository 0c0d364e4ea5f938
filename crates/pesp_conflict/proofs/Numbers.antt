-- Lists that have all numbers from 1 up to some number.
use Rattle.std.proofs.Common.{◌≡◌, ℕ, Bool, true, eqb, nat_cmp, Ok, Err, ◌+◌, ◌≤◌, ◌<◌, ◌⊎◌, inl, inr, ◌-◌, List, [], ◌∷◌, ◌++◌, length, get_or, refl, subst, sym, ap, ◌∙◌, arith}
use Rattle.std.specs.Prelude.{◌↔◌, Result, Contains, All, slice_index, is_ok}
use Rattle.std.specs.List.{IsAnyAnswer}
use Rattle.std.proofs.lemmas.Bool.{cases_lt}
use Rattle.std.proofs.lemmas.Grind.{common_steps}
use Rattle.std.proofs.lemmas.List.{get_or_push, get_or_default, get_or-append_right, length_push}
use Rattle.std.proofs.lemmas.List.Elements.{Contains-append_left, Decides-contains, contains_decides, All-from_get_or, All-nil, All-push, All-weaker, All-get_or}
use Rattle.std.proofs.lemmas.List.Kept.{AllPairs-from_increasing}
use Rattle.std.proofs.lemmas.List.Sorted.{searched}
use Rattle.std.proofs.lemmas.Bool.Decides.{Decides-eqb}
use Rattle.std.specs.List.Sorted.{IsStrictlyIncreasing, IsBinarySearchResult}
use Rattle.pesp_problem.specs.Walks.{Names}
use Rattle.pesp_problem.proofs.Integers.{lt-or-same}
use Rattle.pesp_conflict.specs.Findings.{AreAll}

-- all numbers from 1 to n
abbrev pub HasFirst : List ℕ → ℕ → Type 0
HasFirst xs n = (row : ℕ) → Names n row → Contains xs row

pub has_none : (xs : List ℕ) → HasFirst xs 0
has_none xs row names = absurd (omega (arith, names))

before-or-last : (n row : ℕ) → Names (n + 1) row → (Names n row) ⊎ (row ≡ n + 1)
before-or-last n row names = by (lt_or_same row n)
  where
    lt_or_same : (a b : ℕ) → (a ≤ b) ⊎ (b + 1 ≤ a)
    lt_or_same a b = grind arith

    by : ((row ≤ n) ⊎ (n + 1 ≤ row)) → (Names n row) ⊎ (row ≡ n + 1)
    by (inl low) = inl (names.0, low)
    by (inr high) = inr (omega (arith, names, high))

-- one number more is in the list
pub has_more : (xs : List ℕ) (n : ℕ) → HasFirst xs n → Contains xs (n + 1) → HasFirst xs (n + 1)
has_more xs n h last row names =
    elim (before-or-last n row names) [
      | inl before ↦ h row before
      | inr same ↦ subst (Contains xs) (sym same) last
    ]

-- and is put behind it
pub has_pushed : (xs : List ℕ) (n : ℕ) → HasFirst xs n → HasFirst (xs ++ (n + 1) ∷ []) (n + 1)
has_pushed xs n h = has_more (xs ++ (n + 1) ∷ []) n
    (λ row names. Contains-append_left xs ((n + 1) ∷ []) row (h row names))
    (length xs, omega (arith, length_push xs (n + 1)), get_or_push xs (n + 1) (n + 1) (length xs) refl)

-- ---- all numbers from 1 up to some number, which rise

get_or-append_left : (xs ys : List ℕ) (i : ℕ) → i < length xs → get_or (xs ++ ys) i 0 ≡ get_or xs i 0
get_or-append_left xs ys i h = grind (arith, common_steps)

rising_push : (xs : List ℕ) (v : ℕ) → IsStrictlyIncreasing xs → All (λ x. x < v) xs → IsStrictlyIncreasing (xs ++ v ∷ [])
rising_push xs v r a k h =
    let l = length_push xs v in
    let here = get_or-append_left xs (v ∷ []) k (omega arith) in
    elim (cases_lt (k + 1) (length xs)) [
      | inl w ↦ let next = get_or-append_left xs (v ∷ []) (k + 1) w in let q = r k w in omega arith
      | inr w ↦
          let e : k + 1 - length xs ≡ 0 = omega arith in
          let next = get_or-append_right xs (v ∷ []) (length xs) (k + 1) 0 refl (omega arith) ∙ ap (λ i. get_or (v ∷ []) i 0) e in
          let q = All-get_or (λ x. x < v) xs k 0 (omega arith) a in omega arith
    ]

pub none_are_all : AreAll 0 []
none_are_all = record { rising = λ k h. absurd (omega arith); named = All-nil (Names 0); all = has_none [] }

pub more_are_all : (xs : List ℕ) (n : ℕ) → AreAll n xs → AreAll (n + 1) (xs ++ (n + 1) ∷ [])
more_are_all xs n h = record {
  rising = rising_push xs (n + 1) h.rising
      (All-weaker (Names n) (λ x. x < n + 1) (λ x names. (omega (arith, names))) xs h.named);
  named = All-push (Names (n + 1)) xs (n + 1)
      (All-weaker (Names n) (Names (n + 1)) (λ x names. (names.0, omega (arith, names))) xs h.named)
      (omega arith, omega arith);
  all = has_pushed xs n h.all;
}

-- ---- numbers that are among others

-- the first numbers of some are in a list
abbrev pub AreAmong : List ℕ → List ℕ → ℕ → Type 0
AreAmong listed some n = (i : ℕ) → i < n → Contains listed (slice_index some i)

pub more_among : (listed some : List ℕ) (n : ℕ) → AreAmong listed some n → Contains listed (slice_index some n)
    → AreAmong listed some (n + 1)
more_among listed some n h last i l =
    elim (lt-or-same i n l) [
      | inl before ↦ h i before
      | inr same ↦ subst (λ (k : ℕ). Contains listed (slice_index some k)) (sym same) last
    ]

pub all_among : (listed some : List ℕ) (n : ℕ) → AreAmong listed some n → length some ≤ n → All (Contains listed) some
all_among listed some n h l = All-from_get_or (Contains listed) some 0 (λ i k. h i (omega (arith, k, l)))

-- what holds of the first elements of a list, whatever stands for places past its end
abbrev pub AllTo : {X : Type 0} → (X → Type 0) → List X → ℕ → Type 0
AllTo {X} P xs n = (i : ℕ) (d : X) → i < n → P (get_or xs i d)

pub more_to : {X : Type 0} (P : X → Type 0) (xs : List X) (n : ℕ) (x : X) → AllTo P xs n → n < length xs
    → x ≡ get_or xs n x → P x → AllTo P xs (n + 1)
more_to P xs n x h inside is p i d l =
    elim (lt-or-same i n l) [
      | inl before ↦ h i d before
      | inr same ↦ subst P (is ∙ get_or_default xs n x d inside ∙ ap (λ (k : ℕ). get_or xs k d) (sym same)) p
    ]

pub more_at : {X : Type 0} (P : X → Type 0) (xs : List X) (n : ℕ) (e : X) → AllTo P xs n → n < length xs
    → P (get_or xs n e) → AllTo P xs (n + 1)
more_at P xs n e h inside p i d l =
    elim (lt-or-same i n l) [
      | inl before ↦ h i d before
      | inr same ↦ subst P (get_or_default xs n e d inside ∙ ap (λ (k : ℕ). get_or xs k d) (sym same)) p
    ]

-- ---- numbers that are found

never_falls : (xs : List ℕ) → IsStrictlyIncreasing xs → (i j : ℕ) → i ≤ j → j < length xs → get_or xs i 0 ≤ get_or xs j 0
never_falls xs rising i j le l = elim (cases_lt i j) [
  | inl before ↦ (let below = AllPairs-from_increasing xs rising i j 0 before l in omega (arith, below))
  | inr behind ↦ (let same : i ≡ j = omega (arith, le, behind) in subst (λ (k : ℕ). get_or xs i 0 ≤ get_or xs k 0) same (omega arith))
]

-- a search among numbers that rise finds each that is there
pub found_where_rising : (xs : List ℕ) (x : ℕ) (r : Result ℕ ℕ) → IsBinarySearchResult (λ y. nat_cmp y x) xs r
    → IsStrictlyIncreasing xs → Contains xs x → is_ok r ≡ true
found_where_rising xs x (Ok i) h rising c = refl
found_where_rising xs x (Err i) h rising c =
    let parted = searched xs x (Err i) h (never_falls xs rising) in
    let here = get_or_default xs c.0 0 x c.1 in
    let is = c.2 in
    elim (cases_lt c.0 i) [
      | inl before ↦ absurd (let low = parted.1 c.0 before in omega (arith, low, here, is))
      | inr behind ↦ absurd (let high = parted.2 c.0 behind c.1 in omega (arith, high, here, is))
    ]

pub is_there : (xs : List ℕ) (x : ℕ) (r : Bool) → IsAnyAnswer (λ y b. eqb y x ≡ b) xs r → (r ≡ true) ↔ Contains xs x
is_there xs x r h = Decides-contains xs x r (contains_decides eqb Decides-eqb xs x r h)
