-- Rows that are marked, walk by walk.
use Rattle.std.proofs.Common.{◌≡◌, ℕ, ◌+◌, ◌-◌, ◌<◌, ◌≤◌, List, length, take, get_or, set, refl, ap, arith, sym, ◌∙◌, inl, inr, Bool, true, false}
use Rattle.std.specs.Prelude.{◌||◌, ◌==◌, slice_index_or}
use Rattle.std.specs.List.{list_any}
use Rattle.std.proofs.lemmas.Bool.{cases_eq}
use Rattle.std.proofs.lemmas.Bool.Decides.{nat_tests}
use Rattle.std.proofs.lemmas.List.{get_or-set_other, get_or-set_same, length-set}
use Rattle.std.proofs.lemmas.List.Folds.{list_any_more}
use Rattle.pesp_problem.specs.declared.row.SignedRow.{SignedRow}

-- the marks once the first k rows of a walk are marked
pub record AreMarked (old : List Bool) (rows : List SignedRow) (k : ℕ) (new : List Bool) : Type 0 where
  pub long : length new ≡ length old
  pub each : (i : ℕ) → i < length old → slice_index_or new i false
      ≡ (slice_index_or old i false || list_any (λ s. s.row == i + 1) (take k rows))

or_false : (a : Bool) → (a || false) ≡ a
or_false true = refl
or_false false = refl

or_true : (a : Bool) → (a || true) ≡ true
or_true true = refl
or_true false = refl

or_assoc : (a b c : Bool) → ((a || b) || c) ≡ (a || (b || c))
or_assoc true b c = refl
or_assoc false b c = refl

pub none_marked : (old : List Bool) (rows : List SignedRow) → AreMarked old rows 0 old
none_marked old rows = record { long = refl; each = λ i l. sym (or_false (slice_index_or old i false)) }

pub one_marked : (old : List Bool) (rows : List SignedRow) (k : ℕ) (now new : List Bool) (s : SignedRow)
    → AreMarked old rows k now → k < length rows → get_or rows k s ≡ s → 1 ≤ s.row → s.row ≤ length old
    → new ≡ set now (s.row - 1) true → AreMarked old rows (k + 1) new
one_marked old rows k now new s h l is some most e = record {
  long = ap length e ∙ length-set now (s.row - 1) true ∙ h.long;
  each = λ i m. ap (λ (xs : List Bool). get_or xs i false) e ∙ at i m ∙ ap (λ (b : Bool). get_or old i false || b) (sym (more i));
}
  where
    row_is : ℕ → SignedRow → Bool
    row_is i x = x.row == i + 1

    more : (i : ℕ) → list_any (λ (x : SignedRow). x.row == i + 1) (take (k + 1) rows)
        ≡ (list_any (λ (x : SignedRow). x.row == i + 1) (take k rows) || (s.row == i + 1))
    more i = list_any_more (λ (x : SignedRow). x.row == i + 1) rows k s l
        ∙ ap (λ (x : SignedRow). list_any (λ (y : SignedRow). y.row == i + 1) (take k rows) || (x.row == i + 1)) is

    at : (i : ℕ) → i < length old → get_or (set now (s.row - 1) true) i false
        ≡ (get_or old i false || (list_any (λ (x : SignedRow). x.row == i + 1) (take k rows) || (s.row == i + 1)))
    at i m = elim (cases_eq i (s.row - 1)) [
      | inl same ↦ (
          let test : (s.row == i + 1) ≡ true = grind (arith, nat_tests) in
          ap (λ (j : ℕ). get_or (set now (s.row - 1) true) j false) same
          ∙ get_or-set_same now (s.row - 1) true false (let long = h.long in omega (arith, same, m, long))
          ∙ sym (ap (λ (b : Bool). get_or old i false
          || (list_any (λ (x : SignedRow). x.row == i + 1) (take k rows) || b)) test
          ∙ ap (λ (b : Bool). get_or old i false || b)
          (or_true (list_any (λ (x : SignedRow). x.row == i + 1) (take k rows))) ∙ or_true (get_or old i false))
          )
      | inr other ↦ (
          let test : (s.row == i + 1) ≡ false = grind (arith, nat_tests) in
          get_or-set_other now (s.row - 1) i true false other ∙ h.each i m
          ∙ sym (ap (λ (b : Bool). get_or old i false
          || (list_any (λ (x : SignedRow). x.row == i + 1) (take k rows) || b)) test
          ∙ ap (λ (b : Bool). get_or old i false || b)
          (or_false (list_any (λ (x : SignedRow). x.row == i + 1) (take k rows))))
          )
    ]
