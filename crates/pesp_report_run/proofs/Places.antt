-- What holds at each place below one, and at that one.
use Rattle.std.proofs.Common.{◌≡◌, ◌⊎◌, inl, inr, ℕ, ◌+◌, ◌<◌, arith}

nearer : (i n : ℕ) → i < n + 1 → (i < n) ⊎ (i ≡ n)
nearer i n below = grind arith

-- one place more
pub one-more : (P : ℕ → Type 0) (n : ℕ) → ((i : ℕ) → i < n → P i) → P n → (i : ℕ) → i < n + 1 → P i
one-more P n all here i below = by (nearer i n below)
  where
    by : (i < n) ⊎ (i ≡ n) → P i
    by (inl less) = all i less
    by (inr same) = rw same here
