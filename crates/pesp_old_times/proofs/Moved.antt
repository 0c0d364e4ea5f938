-- One more event.
use Rattle.std.proofs.Common.{◌≡◌, ap, ℕ, ◌+◌, List, Option, add-one}
use Rattle.std.specs.Prelude.{max}
use Rattle.pesp_old_times.specs.Moves.{farthest, move_at, count_moved, some_move}

module _ (period : ℕ) (wanted : List (Option ℕ)) (times : List ℕ) (n : ℕ) where
  pub moved-more : count_moved period wanted times (n + 1) ≡ count_moved period wanted times n + some_move (move_at period wanted times n)
  unfolding count_moved
  moved-more = ap (count_moved period wanted times) (add-one n)

  pub farthest-more : farthest period wanted times (n + 1) ≡ max (farthest period wanted times n) (move_at period wanted times n)
  unfolding farthest
  farthest-more = ap (farthest period wanted times) (add-one n)
