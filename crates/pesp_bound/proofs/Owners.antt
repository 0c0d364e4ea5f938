-- Which cycle of a table of fundamental walks owns a row: the one that begins with it.
use Rattle.std.proofs.Common.{subst, ◌≡◌, ℕ, zero, suc, ◌+◌, ◌-◌, ◌<◌, ◌≤◌, ◌≢◌, ◌⊎◌, inl, inr, true, List, [], ◌∷◌, map, length, refl, ap, sym, ◌∙◌, arith}
use Rattle.std.specs.Prelude.{pos, All, Contains, slice_index_or, if◌then◌else◌}
use Rattle.std.proofs.lemmas.Bool.{cases_eq}
use Rattle.std.proofs.lemmas.List.{get_or-map, length-map}
use Rattle.std.proofs.lemmas.List.Elements.{All-head, All-tail}
use Rattle.pesp_problem.specs.declared.arc.Arc.{Arc}
use Rattle.pesp_problem.specs.declared.row.SignedRow.{SignedRow}
use Rattle.pesp_problem.specs.Arcs.{arc_at}
use Rattle.pesp_problem.specs.Walks.{Names, RowExists, AreRows, IsWalk, Leads, net_count}
use Rattle.pesp_problem.specs.Forests.{HaveNoCycle, IsFundamental, AreFundamental, own_row}
use Rattle.pesp_problem.specs.Nodes.{cycle_at}
use Rattle.pesp_problem.proofs.Counting.{differ}
use Rattle.pesp_problem.proofs.Counts.{eq-true, eq-false}
use Rattle.pesp_bound.specs.Differences.{last_owner}

pub none_or_some : (n : ℕ) → (n ≡ 0) ⊎ (0 < n)
none_or_some zero = inl refl
none_or_some (suc n) = inr (omega arith)

-- all rows of the way are owned by no cycle
abbrev pub InForest : (ℕ → ℕ) → List SignedRow → Type 0
InForest owner way = All (λ (s : SignedRow). owner (s.row - 1) ≡ 0) way

abbrev pub plus_row : ℕ → SignedRow
plus_row row = record { row = row; plus = true }

-- the cycle closes, begins with a row under a plus sign that it owns, and goes back along rows that no cycle owns
pub record GoesBack (arcs : List Arc) (owner : ℕ → ℕ) (walk : List SignedRow) (c : ℕ) : Type 0 where
  pub row : ℕ
  pub rest : List SignedRow
  pub begins : walk ≡ plus_row row ∷ rest
  pub rows : AreRows arcs (plus_row row ∷ rest)
  pub leads : Leads arcs (arc_at arcs (row - 1)).head rest (arc_at arcs (row - 1)).tail
  pub owns : owner (row - 1) ≡ c + 1
  pub back : InForest owner rest

-- the rows that no cycle owns have no cycle, and each other row is owned by the cycle that begins with it
pub record AreOwned (arcs : List Arc) (table : List (List SignedRow)) (owner : ℕ → ℕ) : Type 0 where
  pub no_cycle : (walk : List SignedRow) (i : ℕ) → IsWalk arcs walk → InForest owner walk → net_count walk i ≡ pos 0
  pub walks : (c : ℕ) → c < length table → GoesBack arcs owner (cycle_at table c) c
  pub owned : (i : ℕ) → 0 < owner i → (c : ℕ) × (c < length table) × (owner i ≡ c + 1) × (own_row (cycle_at table c) ≡ i + 1)

-- ---- the last cycle that begins with a row

pub owned_last : (table : List (List SignedRow)) (m i : ℕ) → 0 < last_owner table m i
    → (c : ℕ) × (c < m) × (last_owner table m i ≡ c + 1) × (own_row (cycle_at table c) ≡ i + 1)
owned_last table zero i h = absurd (omega arith)
owned_last table (suc m) i h =
    elim (cases_eq (own_row (cycle_at table m)) (i + 1)) [
      | inl same ↦ (
        m,
        omega arith,
        ap (λ b. if b then m + 1 else last_owner table m i)
            (eq-true (own_row (cycle_at table m)) (i + 1) same),
        same,
      )
      | inr other ↦
          let e : last_owner table (suc m) i ≡ last_owner table m i =
          ap (λ b. if b then m + 1 else last_owner table m i)
          (eq-false (own_row (cycle_at table m)) (i + 1) other) in
          let before : 0 < last_owner table m i = omega (arith, h, e) in
          let o = owned_last table m i before in
          (o.0, (let l = o.1 in omega arith), e ∙ o.2, o.3)
    ]

owns_last : (table : List (List SignedRow)) (m c i : ℕ) → c < m → own_row (cycle_at table c) ≡ i + 1
    → ((d : ℕ) → d < m → own_row (cycle_at table d) ≡ i + 1 → d ≡ c) → last_owner table m i ≡ c + 1
owns_last table zero c i l own only = absurd (omega arith)
owns_last table (suc m) c i l own only =
    elim (cases_eq m c) [
      | inl same ↦ ap (λ b. if b then m + 1 else last_owner table m i)
          (eq-true (own_row (cycle_at table m)) (i + 1) (ap (λ k. own_row (cycle_at table k)) same ∙ own))
          ∙ ap (λ k. k + 1) same
      | inr other ↦
          let later : own_row (cycle_at table m) ≢ i + 1 = λ e. other (only m (omega arith) e) in
          ap (λ b. if b then m + 1 else last_owner table m i) (eq-false (own_row (cycle_at table m)) (i + 1) later)
          ∙ owns_last table m c i (omega arith) own (λ d k e. only d (omega arith) e)
    ]

-- ---- rows of the forest

contains_or_not : (xs : List ℕ) (x : ℕ) → Contains xs x ⊎ (Contains xs x → ⊥)
contains_or_not [] x = inr (λ c. let l = c.1 in absurd (omega arith))
contains_or_not (y ∷ xs) x =
    elim (cases_eq y x) [
      | inl same ↦ inl (0, omega arith, same)
      | inr other ↦ elim (contains_or_not xs x) [
        | inl c ↦ inl (suc c.0, (let l = c.1 in omega arith), c.2)
        | inr none ↦ inr (λ c. not_in y xs x other none c.0 c.1 c.2)
      ]
    ]
  where
    not_in : (y : ℕ) (xs : List ℕ) (x : ℕ) → y ≢ x → (Contains xs x → ⊥) → (k : ℕ) → k < length (y ∷ xs)
        → slice_index_or (y ∷ xs) k x ≡ x → ⊥
    not_in y xs x other none zero l e = other e
    not_in y xs x other none (suc k) l e = none (k, omega arith, e)

own_at : (table : List (List SignedRow)) (c d : ℕ) → c < length table → slice_index_or (map own_row table) c d ≡ own_row (cycle_at table c)
own_at table c d l = get_or-map own_row table c [] d l

is_own : (table : List (List SignedRow)) (c row : ℕ) → c < length table → own_row (cycle_at table c) ≡ row
    → Contains (map own_row table) row
is_own table c row l e = (c, (let n = length-map table own_row in omega (arith, n, l)), own_at table c row l ∙ e)

abbrev pub owner_of : List (List SignedRow) → ℕ → ℕ
owner_of table i = last_owner table (length table) i

-- a row of the forest is owned by no cycle
free_in_forest : (arcs : List Arc) (forest : List ℕ) (table : List (List SignedRow)) (row : ℕ)
    → AreFundamental arcs forest table → 1 ≤ row → Contains forest row → owner_of table (row - 1) ≡ 0
free_in_forest arcs forest table row f one c =
    elim (none_or_some (owner_of table (row - 1))) [
      | inl e ↦ e
      | inr some ↦
          let o = owned_last table (length table) (row - 1) some in
          let back : row - 1 + 1 ≡ row = omega arith in
          absurd (f.others row (is_own table o.0 row o.1 (o.3 ∙ back)) c)
    ]

-- and each row that no cycle owns is one
forest_if_free : (arcs : List Arc) (forest : List ℕ) (table : List (List SignedRow)) (row : ℕ)
    → AreFundamental arcs forest table → Names (length arcs) row → owner_of table (row - 1) ≡ 0
    → Contains forest row
forest_if_free arcs forest table row f names e =
    elim (contains_or_not forest row) [
      | inl c ↦ c
      | inr out ↦
          let w = f.outside row names out in
          let n = length-map table own_row in
          let l : w.0 < length table = let b = w.1 in omega (arith, n, b) in
          let one = names.0 in
          let own : own_row (cycle_at table w.0) ≡ row - 1 + 1 = let r = sym (own_at table w.0 row l) ∙ w.2 in omega (arith, r, one) in
          let o = owns_last table (length table) w.0 (row - 1) l own
          (λ d k s. differ (map own_row table) d w.0 f.rising (omega (arith, n, k)) (omega (arith, n, l))
          (own_at table d 0 k ∙ s ∙ sym own ∙ sym (own_at table w.0 0 l))) in
          absurd (omega (arith, o, e))
    ]

goes_back : (arcs : List Arc) (forest : List ℕ) (table : List (List SignedRow)) (c : ℕ)
    → AreFundamental arcs forest table → c < length table → GoesBack arcs (owner_of table) (cycle_at table c) c
goes_back arcs forest table c f l =
    let walk = cycle_at table c in
    let row = own_row walk in
    let g : IsFundamental arcs forest row walk = f.each c [] l in
    let w : IsWalk arcs (plus_row row ∷ g.back) = subst (λ (x : List SignedRow). IsWalk arcs x) g.begins g.closes in
    let one = (All-head (RowExists arcs) (plus_row row) g.back w.0).0 in
    let n = length-map table own_row in
    let again : row ≡ row - 1 + 1 = omega arith in
    record {
      row = row;
      rest = g.back;
      begins = g.begins;
      rows = w.0;
      leads = w.1.1;
      owns = owns_last table (length table) c (row - 1) l again
          (λ d k s. differ (map own_row table) d c f.rising (omega (arith, n, k)) (omega (arith, n, l))
          (own_at table d 0 k ∙ s ∙ sym again ∙ sym (own_at table c 0 l)));
      back = λ k d m. free_in_forest arcs forest table (slice_index_or g.back k d).row f
          (All-tail (RowExists arcs) (plus_row row) g.back w.0 k d m).0 (g.keeps k d m);
    }

pub are_owned : (arcs : List Arc) (forest : List ℕ) (table : List (List SignedRow))
    → AreFundamental arcs forest table → HaveNoCycle arcs forest → AreOwned arcs table (owner_of table)
are_owned arcs forest table f none = record {
  no_cycle = λ walk i w free. none walk i w (λ k d l.
      forest_if_free arcs forest table (slice_index_or walk k d).row f (rows_of walk w k d l) (free k d l));
  walks = λ c l. goes_back arcs forest table c f l;
  owned = λ i some. owned_last table (length table) i some;
}
  where
    rows_of : (walk : List SignedRow) → IsWalk arcs walk → AreRows arcs walk
    rows_of [] w = absurd w
    rows_of (s ∷ walk) w = w.0
