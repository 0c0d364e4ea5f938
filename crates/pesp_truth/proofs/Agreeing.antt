-- Nodes that agree in the slack ranges of some rows and in the offset ranges of the cycles along them.
use Rattle.std.proofs.Common.{◌≡◌, ℕ, zero, suc, ◌+◌, ◌-◌, ◌<◌, List, [], ◌∷◌, length, get_or, set, refl, ap, sym, ◌∙◌, arith}
use Rattle.std.specs.Prelude.{ℤ, pos, ◌+ℤ◌, min, max}
use Rattle.std.specs.Int.{int_min, int_max}
use Rattle.pesp_problem.specs.declared.row.SignedRow.{SignedRow}
use Rattle.pesp_problem.specs.declared.cut.Cut.{Cut}
use Rattle.pesp_problem.specs.declared.cut.Cut.TheVariants.{Slack, Offset}
use Rattle.pesp_problem.specs.Nodes.{Node, slack_range, offset_range, cycle_at, low_part, high_part}
use Rattle.pesp_truth.proofs.Passing.{Rows}

-- over so many rows and a table, for the rows whose numbers have P
pub record Agree (P : ℕ → Type 0) (rows : ℕ) (table : List (List SignedRow)) (a b : Node) : Type 0 where
  pub slack_places : length a.slacks ≡ length b.slacks
  pub offset_places : length a.offsets ≡ length b.offsets
  pub slacks : (i : ℕ) → i < rows → P (i + 1) → slack_range a.slacks i ≡ slack_range b.slacks i
  pub offsets : (c : ℕ) → c < length table → Rows P (cycle_at table c) → offset_range a.offsets c ≡ offset_range b.offsets c

-- where one place of two lists is set, equal places stay equal
set_same : {X : Type 0} (xs ys : List X) (j i : ℕ) (x y d : X) → length xs ≡ length ys
    → get_or xs i d ≡ get_or ys i d → (i ≡ j → x ≡ y) → get_or (set xs j x) i d ≡ get_or (set ys j y) i d
set_same [] [] j i x y d l e h = e
set_same [] (v ∷ ys) j i x y d l e h = cc
set_same (u ∷ xs) [] j i x y d l e h = cc
set_same (u ∷ xs) (v ∷ ys) zero zero x y d l e h = h refl
set_same (u ∷ xs) (v ∷ ys) zero (suc i) x y d l e h = e
set_same (u ∷ xs) (v ∷ ys) (suc j) zero x y d l e h = e
set_same (u ∷ xs) (v ∷ ys) (suc j) (suc i) x y d l e h = set_same xs ys j i x y d (omega arith) e (λ s. h (ap suc s))

set_places : {X : Type 0} (xs ys : List X) (j : ℕ) (x y : X) → length xs ≡ length ys → length (set xs j x) ≡ length (set ys j y)
set_places [] [] j x y l = refl
set_places [] (v ∷ ys) j x y l = cc
set_places (u ∷ xs) [] j x y l = cc
set_places (u ∷ xs) (v ∷ ys) zero x y l = l
set_places (u ∷ xs) (v ∷ ys) (suc j) x y l = ap suc (set_places xs ys j x y (omega arith))

-- the same change of a place that they agree in
set_by : {X : Type 0} (f : X → X) (xs ys : List X) (j i : ℕ) (d : X) → length xs ≡ length ys
    → get_or xs i d ≡ get_or ys i d → get_or (set xs j (f (get_or xs j d))) i d
    ≡ get_or (set ys j (f (get_or ys j d))) i d
set_by f xs ys j i d l e = set_same xs ys j i (f (get_or xs j d)) (f (get_or ys j d)) d l e
    (λ s. ap f (ap (λ (k : ℕ). get_or xs k d) (sym s) ∙ e ∙ ap (λ (k : ℕ). get_or ys k d) s))

-- slack ranges changed alike at one place
with_slacks : (P : ℕ → Type 0) (rows : ℕ) (table : List (List SignedRow)) (a b : Node) (f : ℕ × ℕ → ℕ × ℕ) (j : ℕ)
    → Agree P rows table a b → Agree P rows table
    (record a { slacks = set a.slacks j (f (slack_range a.slacks j)) })
    (record b { slacks = set b.slacks j (f (slack_range b.slacks j)) })
with_slacks P rows table a b f j h = record {
  slack_places = set_places a.slacks b.slacks j (f (slack_range a.slacks j)) (f (slack_range b.slacks j)) h.slack_places;
  offset_places = h.offset_places;
  slacks = λ i l p. set_by f a.slacks b.slacks j i (0, 0) h.slack_places (h.slacks i l p);
  offsets = h.offsets;
}

with_offsets : (P : ℕ → Type 0) (rows : ℕ) (table : List (List SignedRow)) (a b : Node) (f : ℤ × ℤ → ℤ × ℤ) (j : ℕ)
    → Agree P rows table a b → Agree P rows table
    (record a { offsets = set a.offsets j (f (offset_range a.offsets j)) })
    (record b { offsets = set b.offsets j (f (offset_range b.offsets j)) })
with_offsets P rows table a b f j h = record {
  slack_places = h.slack_places;
  offset_places = set_places a.offsets b.offsets j (f (offset_range a.offsets j)) (f (offset_range b.offsets j)) h.offset_places;
  slacks = h.slacks;
  offsets = λ c l p. set_by f a.offsets b.offsets j c (pos 0, pos 0) h.offset_places (h.offsets c l p);
}

-- the parts of a cut agree too
pub low_parts : (P : ℕ → Type 0) (rows : ℕ) (table : List (List SignedRow)) (a b : Node) (cut : Cut)
    → Agree P rows table a b → Agree P rows table (low_part a cut) (low_part b cut)
low_parts P rows table a b (Slack row k) h = with_slacks P rows table a b (λ range. (range.0, min range.1 k)) (row - 1) h
low_parts P rows table a b (Offset cycle k) h = with_offsets P rows table a b (λ range. (range.0, int_min range.1 k)) (cycle - 1) h

pub high_parts : (P : ℕ → Type 0) (rows : ℕ) (table : List (List SignedRow)) (a b : Node) (cut : Cut)
    → Agree P rows table a b → Agree P rows table (high_part a cut) (high_part b cut)
high_parts P rows table a b (Slack row k) h = with_slacks P rows table a b (λ range. (max range.0 (k + 1), range.1)) (row - 1) h
high_parts P rows table a b (Offset cycle k) h =
    with_offsets P rows table a b (λ range. (int_max range.0 (k +ℤ pos 1), range.1)) (cycle - 1) h
