-- The loop that takes from a limit what is counted.
use Rattle.std.proofs.Common.{◌≡◌, ℕ, ◌+◌, ◌-◌, ◌<◌, ◌≤◌, false, true, List, length, get_or, drop, ap, arith}
use Rattle.std.specs.Prelude.{nat_le}
use Rattle.std.specs.List.{sum_by}
use Rattle.std.proofs.lemmas.Bool.Decides.{nat_tests}
use Rattle.std.proofs.lemmas.List.{drop_all}
use Rattle.std.proofs.lemmas.List.Sums.{sum_by-drop_more}

-- what is left of a limit after the first i of the things that are counted
pub record LeavesRoom {A : Type 0} (f : A → ℕ) (xs : List A) (limit i left : ℕ) : Type 0 where
  pub room : sum_by f xs + left ≡ limit + sum_by f (drop i xs)

pub room_next : {A : Type 0} (f : A → ℕ) (xs : List A) (limit i left : ℕ) (x : A) → i < length xs
    → x ≡ get_or xs i x → f x ≤ left → LeavesRoom f xs limit i left → LeavesRoom f xs limit (i + 1) (left - f x)
room_next f xs limit i left x lt is fits h =
    let more = sum_by-drop_more f xs i x lt in
    let same : f x ≡ f (get_or xs i x) = ap f is in
    record { room = omega (arith, h.room, more, same) }

pub no_room : {A : Type 0} (f : A → ℕ) (xs : List A) (limit i left : ℕ) (x : A) → i < length xs → x ≡ get_or xs i x
    → left < f x → LeavesRoom f xs limit i left → false ≡ nat_le (sum_by f xs) limit
no_room f xs limit i left x lt is over h =
    let more = sum_by-drop_more f xs i x lt in
    let same : f x ≡ f (get_or xs i x) = ap f is in
    let above : limit < sum_by f xs = omega (arith, h.room, more, same) in
    grind (arith, nat_tests, above)

pub all_fit : {A : Type 0} (f : A → ℕ) (xs : List A) (limit i left : ℕ) → length xs ≤ i
    → LeavesRoom f xs limit i left → true ≡ nat_le (sum_by f xs) limit
all_fit f xs limit i left past h =
    let nil : sum_by f (drop i xs) ≡ 0 = ap (sum_by f) (drop_all i xs past) in
    let below : sum_by f xs ≤ limit = omega (arith, h.room, nil) in
    grind (arith, nat_tests, below)
