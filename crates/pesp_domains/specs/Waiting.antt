-- The rows that wait for a visit, by their places from 0.
use Rattle.std.specs.Prelude.{◌≡◌, ℕ, ◌<◌, ◌⊎◌, slice_index_or, Bool, true, false, All, Contains, vec_len}
use Rattle.pesp_domains.specs.declared.waiting.Waiting.{Waiting}

-- whether the row at a place waits
abbrev pub waits_at : Waiting → ℕ → Bool
waits_at waiting row = slice_index_or waiting.flags.items row false

-- more rows wait; each that waits did so before or is listed, the list only grew, and it has rows alone
pub record WaitingGrows (old new : Waiting) : Type 0 where
  pub long : vec_len new.flags ≡ vec_len old.flags
  pub still : (row : ℕ) → waits_at old row ≡ true → waits_at new row ≡ true
  pub listed : (row : ℕ) → waits_at new row ≡ true → (waits_at old row ≡ true) ⊎ Contains new.rows.items row
  pub kept : (row : ℕ) → Contains old.rows.items row → Contains new.rows.items row
  pub below : All (λ row. row < vec_len old.flags) old.rows.items → All (λ row. row < vec_len old.flags) new.rows.items

-- one row waits no longer
pub record Leaves (row : ℕ) (old new : Waiting) : Type 0 where
  pub long : vec_len new.flags ≡ vec_len old.flags
  pub list : new.rows.items ≡ old.rows.items
  pub here : waits_at new row ≡ false
  pub else : (other : ℕ) → (other ≡ row → ⊥) → waits_at new other ≡ waits_at old other

-- rows wait only where they are listed, each below the number of rows
pub record WaitingAreListed (rows : ℕ) (waiting : Waiting) : Type 0 where
  pub long : vec_len waiting.flags ≡ rows
  pub listed : (row : ℕ) → waits_at waiting row ≡ true → Contains waiting.rows.items row
  pub below : All (λ row. row < rows) waiting.rows.items
