-- A row that a way does not pass has the net count 0 in it, and so the flow 0 in pairs of cycles that do not pass it.
use Rattle.std.proofs.Common.{◌≡◌, ℕ, ◌+◌, ◌-◌, ◌⊎◌, inl, inr, Bool, true, false, List, [], ◌∷◌, refl, ap, subst, ◌∙◌, arith, cond}
use Rattle.std.specs.Prelude.{pos, All, count_by, ◌&&◌, not, ◌==◌}
use Rattle.std.proofs.lemmas.Int.{ints}
use Rattle.std.proofs.lemmas.Bool.Decides.{nat_tests}
use Rattle.std.proofs.lemmas.List.Elements.{All-head, All-tail}
use Rattle.std.proofs.lemmas.List.Sums.{sum_by-cons}
use Rattle.pesp_problem.specs.declared.row.SignedRow.{SignedRow}
use Rattle.pesp_problem.specs.declared.pair.Pair.{Pair}
use Rattle.pesp_problem.specs.Walks.{net_count}
use Rattle.pesp_problem.specs.Nodes.{cycle_at, flow}

-- each row of the way has P
abbrev pub Rows : (ℕ → Type 0) → List SignedRow → Type 0
Rows P way = All (λ (s : SignedRow). P s.row) way

-- a test that only one number passes counts nothing, or the number has what all rows of the way have
counts_none_or : (P : ℕ → Type 0) (test : SignedRow → Bool) (number : ℕ)
    → ((s : SignedRow) → test s ≡ true → s.row ≡ number) → (way : List SignedRow) → Rows P way
    → (count_by test way ≡ 0) ⊎ P number
counts_none_or P test number only [] h = inl refl
counts_none_or P test number only (s ∷ way) h =
    by_test (test s) refl (counts_none_or P test number only way (All-tail (λ (x : SignedRow). P x.row) s way h))
  where
    by_test : (b : Bool) → test s ≡ b → ((count_by test way ≡ 0) ⊎ P number) → (count_by test (s ∷ way) ≡ 0) ⊎ P number
    by_test true e rest = inr (subst P (only s e) (All-head (λ (x : SignedRow). P x.row) s way h))
    by_test false e (inl none) = inl (sum_by-cons (λ (x : SignedRow). cond (test x) 1 0) s way
        ∙ ap (λ (b : Bool). cond b 1 0 + count_by test way) e ∙ omega (arith, none))
    by_test false e (inr p) = inr p

names_row : (b : Bool) (row number : ℕ) → (b && (row == number)) ≡ true → row ≡ number
names_row true row number h = grind (arith, nat_tests)
names_row false row number h = cc

-- the net count of the row at a place is 0, or its number has what all rows of the way have
pub net_none_or : (P : ℕ → Type 0) (way : List SignedRow) (i : ℕ) → Rows P way → (net_count way i ≡ pos 0) ⊎ P (i + 1)
net_none_or P way i h =
    both
    (counts_none_or P (λ s. s.plus && (s.row == i + 1)) (i + 1) (λ s. names_row s.plus s.row (i + 1)) way h)
    (counts_none_or P (λ s. not s.plus && (s.row == i + 1)) (i + 1) (λ s. names_row (not s.plus) s.row (i + 1)) way h)
  where
    both : ((count_by (λ (s : SignedRow). s.plus && (s.row == i + 1)) way ≡ 0) ⊎ P (i + 1))
        → ((count_by (λ (s : SignedRow). not s.plus && (s.row == i + 1)) way ≡ 0) ⊎ P (i + 1))
        → (net_count way i ≡ pos 0) ⊎ P (i + 1)
    both (inl a) (inl b) = inl (rw (a, b) refl)
    both (inr p) other = inr p
    both (inl a) (inr p) = inr p

-- the cycles of the pairs pass rows that have P alone
abbrev pub PairRows : (ℕ → Type 0) → List (List SignedRow) → List Pair → Type 0
PairRows P table pairs = All (λ (pair : Pair). Rows P (cycle_at table (pair.cycle - 1))) pairs

pub flow_none_or : (P : ℕ → Type 0) (table : List (List SignedRow)) (pairs : List Pair) (i : ℕ)
    → PairRows P table pairs → (flow table pairs i ≡ pos 0) ⊎ P (i + 1)
flow_none_or P table [] i h = inl refl
flow_none_or P table (pair ∷ pairs) i h =
    both
    (net_none_or P (cycle_at table (pair.cycle - 1)) i (All-head (λ (x : Pair). Rows P (cycle_at table (x.cycle - 1))) pair pairs h))
    (flow_none_or P table pairs i (All-tail (λ (x : Pair). Rows P (cycle_at table (x.cycle - 1))) pair pairs h))
  where
    both : ((net_count (cycle_at table (pair.cycle - 1)) i ≡ pos 0) ⊎ P (i + 1))
        → ((flow table pairs i ≡ pos 0) ⊎ P (i + 1)) → (flow table (pair ∷ pairs) i ≡ pos 0) ⊎ P (i + 1)
    both (inl a) (inl b) = inl (rw (a, b) (omega (arith, ints)))
    both (inr p) other = inr p
    both (inl a) (inr p) = inr p
