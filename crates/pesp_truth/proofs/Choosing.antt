-- Conflicts among the rows of an instance that has listed rows alone.
use Rattle.std.proofs.Common.{◌≡◌, ℕ, ◌-◌, List, length, get_or, sym, subst, arith}
use Rattle.std.specs.Prelude.{All, map, slice_index, ◌↔◌}
use Rattle.std.proofs.lemmas.List.{get_or-map, length-map}
use Rattle.std.proofs.lemmas.List.Elements.{All-map}
use Rattle.pesp_problem.specs.declared.row.Row.{Row}
use Rattle.pesp_problem.specs.Timetables.{Pesp, row_at, no_row, IsSatisfied, IsTimetable}
use Rattle.pesp_problem.specs.Walks.{Names}
use Rattle.pesp_truth.specs.Truth.{HasNoTimetable}
use Rattle.pesp_truth.specs.Conflicts.{KeepsRow, KeepsRows, AreInConflict, only_rows, unweighted, chosen}

-- what holds of each value of a list holds of each element's
pub All-unmap : {X Y : Type 0} (P : Y → Type 0) (f : X → Y) (xs : List X) → All P (map f xs) → All (λ x. P (f x)) xs
All-unmap P f xs h i d l = subst P (get_or-map f xs i d (f d) l) (h i (f d) (omega (arith, l, length-map xs f)))

-- times that keep the listed rows are timetables of the instance that has these alone, and the other way
pub only_rows_are_kept : (p : Pesp) (listed times : List ℕ) → IsTimetable (only_rows p listed) times ↔ KeepsRows p listed times
only_rows_are_kept p listed times = (
  λ t. (t.0, All-unmap (λ (row : Row). IsSatisfied p times row) (λ (k : ℕ). unweighted (row_at p.rows (k - 1))) listed t.1),
  λ k. (k.0, All-map (λ (row : Row). IsSatisfied p times row) (λ (k : ℕ). unweighted (row_at p.rows (k - 1))) listed k.1),
)

pub conflict_is_none : (p : Pesp) (listed : List ℕ) → AreInConflict p listed ↔ HasNoTimetable (only_rows p listed)
conflict_is_none p listed = (
  λ c times t. c times ((only_rows_are_kept p listed times).0 t),
  λ none times k. none times ((only_rows_are_kept p listed times).1 k),
)

-- the row at a place of the instance of listed rows
row_of_place : (p : Pesp) (listed : List ℕ) (place : ℕ) → Names (length listed) place
    → row_at (only_rows p listed).rows (place - 1) ≡ unweighted (row_at p.rows (slice_index listed (place - 1) - 1))
row_of_place p listed place n = get_or-map (λ (k : ℕ). unweighted (row_at p.rows (k - 1))) listed (place - 1) 0 no_row (omega (arith, n))

pub chosen_conflict : (p : Pesp) (listed places : List ℕ) → All (Names (length listed)) places
    → AreInConflict (only_rows p listed) places → AreInConflict p (chosen listed places)
chosen_conflict p listed places names c times k =
    let of_places = All-unmap (KeepsRow p times) (λ (place : ℕ). slice_index listed (place - 1)) places k.1 in
    c times (
      k.0,
      λ i d l. subst (λ (row : Row). IsSatisfied p times row)
          (sym (row_of_place p listed (get_or places i d) (names i d l))) (of_places i d l),
    )
