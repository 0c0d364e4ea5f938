-- Rows, edges and pairs as they are gathered one after the other.
use Rattle.std.proofs.Common.{subst, ◌≡◌, ℕ, suc, ◌+◌, ◌-◌, ◌<◌, ◌≤◌, inl, inr, Bool, true, false, List, [], ◌∷◌, ◌++◌, map, length, get_or, set, refl, ap, sym, ◌∙◌, arith, add-one}
use Rattle.std.specs.Prelude.{ℤ, pos, ◌+ℤ◌, ◌*ℤ◌, unsigned_abs, All, Some, if◌then◌else◌, replicate}
use Rattle.std.proofs.lemmas.Int.{ints}
use Rattle.std.proofs.lemmas.Bool.{cases_eq}
use Rattle.std.proofs.lemmas.List.{length_push, get_or-set_same, get_or-set_other, length-set, get_or-replicate, get_or_default, get_or-map, length-map, take_all}
use Rattle.std.proofs.lemmas.List.Elements.{All-push, All-nil, All-head}
use Rattle.std.proofs.Math.ListN.{get_or-append}
use Rattle.std.proofs.Math.Seq.{get_or-append_seam}
use Rattle.pesp_problem.specs.declared.row.SignedRow.{SignedRow}
use Rattle.pesp_problem.specs.declared.pair.Pair.{Pair}
use Rattle.pesp_problem.specs.Sums.{sum_below}
use Rattle.pesp_problem.specs.Arcs.{Net}
use Rattle.pesp_problem.specs.declared.arc.Arc.{Arc}
use Rattle.pesp_problem.specs.Walks.{Names, RowExists, IsWalk, net_count}
use Rattle.pesp_problem.specs.Forests.{own_row}
use Rattle.pesp_problem.specs.Nodes.{Node, cycle_at, offsets_left}
use Rattle.pesp_problem.proofs.Integers.{zero-mul}
use Rattle.pesp_nodes.specs.declared.passages.Passage.{Passage}
use Rattle.pesp_nodes.specs.Passages.{passages_at}
use Rattle.pesp_nodes.specs.Offsets.{IsSmallOffset}
use Rattle.pesp_nodes.specs.Problems.{IsPairOf, Rise}
use Rattle.pesp_problem.proofs.Counts.{eq-true, eq-false, net_count_bound}
use Rattle.pesp_bound.specs.declared.edge.Edge.{Edge}
use Rattle.pesp_bound.specs.Settling.{edge_at, no_edge}
use Rattle.pesp_bound.specs.Differences.{last_owner, IsShift, shift_at, AreRowShifts, IsDemand, AreDemands, signed_at, no_signed, ArePassed, over_pairs, AreCycleMultipliers}

at_end : {X : Type 0} (xs : List X) (x d : X) → get_or (xs ++ x ∷ []) (length xs) d ≡ x
at_end xs x d = get_or-append_seam xs x [] d

before_end : {X : Type 0} (xs : List X) (x d : X) (i : ℕ) → i < length xs → get_or (xs ++ x ∷ []) i d ≡ get_or xs i d
before_end xs x d i l = get_or-append xs (x ∷ []) d i l

-- ---- edges

-- edges along the first k signed rows
pub record DemandsTo (n : Net) (slacks : List (ℕ × ℕ)) (shifts : List (ℤ × ℤ)) (rows : List SignedRow) (k : ℕ)
    (edges : List Edge) : Type 0 where
  pub long : length edges ≡ k
  pub each : (j : ℕ) → j < k → IsDemand n slacks shifts (signed_at rows j) (edge_at edges j)

pub demands_none : (n : Net) (slacks : List (ℕ × ℕ)) (shifts : List (ℤ × ℤ)) (rows : List SignedRow) → DemandsTo n slacks shifts rows 0 []
demands_none n slacks shifts rows = record { long = refl; each = λ j l. absurd (omega arith) }

pub demands_more : (n : Net) (slacks : List (ℕ × ℕ)) (shifts : List (ℤ × ℤ)) (rows : List SignedRow) (k : ℕ)
    (edges : List Edge) (edge : Edge) → IsDemand n slacks shifts (signed_at rows k) edge
    → DemandsTo n slacks shifts rows k edges → DemandsTo n slacks shifts rows (k + 1) (edges ++ edge ∷ [])
demands_more n slacks shifts rows k edges edge here h = record {
  long = omega (arith, length_push edges edge, h.long);
  each = λ j l.
      let long = h.long in
      elim (cases_eq j k) [
        | inl same ↦
            let e : edge_at (edges ++ edge ∷ []) j
            ≡ edge = ap (λ i. edge_at (edges ++ edge ∷ []) i) (same ∙ sym long) ∙ at_end edges edge no_edge in
            subst (λ x. IsDemand n slacks shifts (signed_at rows j) x) (sym e)
            (subst (λ i. IsDemand n slacks shifts (signed_at rows i) edge) (sym same) here)
        | inr other ↦
            let e : edge_at (edges ++ edge ∷ []) j ≡ edge_at edges j = before_end edges edge no_edge j (omega arith) in
            subst (λ x. IsDemand n slacks shifts (signed_at rows j) x) (sym e) (h.each j (omega arith))
      ];
}

pub demands_all : (n : Net) (slacks : List (ℕ × ℕ)) (shifts : List (ℤ × ℤ)) (rows : List SignedRow) (k : ℕ)
    (edges : List Edge) → length rows ≤ k → k ≤ length rows → DemandsTo n slacks shifts rows k edges
    → AreDemands n slacks shifts rows edges
demands_all n slacks shifts rows k edges done within h = record { long = omega (arith, h.long); each = λ j l. h.each j (omega arith) }

-- ---- signed rows

pub passed_none : (by_row : List (List Passage)) → ArePassed by_row 0 []
passed_none by_row = record {
  exist = All-nil (λ (s : SignedRow). Names (length by_row) s.row);
  all = λ s names some. absurd (omega (arith, names));
}

-- a row that no cycle passes is left out
pub passed_skip : (by_row : List (List Passage)) (m : ℕ) (rows : List SignedRow)
    → length (passages_at by_row m) ≡ 0 → ArePassed by_row m rows → ArePassed by_row (m + 1) rows
passed_skip by_row m rows none h = record {
  exist = h.exist;
  all = λ s names some.
      elim (cases_eq s.row (m + 1)) [
        | inl same ↦
            let place : s.row - 1 ≡ m = omega arith in
            let count = ap (λ i. length (passages_at by_row i)) place in
            absurd (omega (arith, count, none, some))
        | inr other ↦ h.all s (omega (arith, names), omega (arith, names)) some
      ];
}

both_signs : (rows : List SignedRow) (row : ℕ) (plus : Bool)
    → (k : ℕ) × (k < length ((rows ++ record { row = row; plus = true } ∷ []) ++ record { row = row; plus = false }
    ∷ [])) × (signed_at ((rows ++ record { row = row; plus = true } ∷ []) ++ record { row = row; plus = false }
    ∷ []) k ≡ record { row = row; plus = plus })
both_signs rows row true =
    let s : SignedRow = record { row = row; plus = true } in
    let t : SignedRow = record { row = row; plus = false } in
    let first = length_push rows s in
    let second = length_push (rows ++ s ∷ []) t in (
      length rows,
      omega (arith, first, second),
      before_end (rows ++ s ∷ []) t no_signed (length rows) (omega (arith, first)) ∙ at_end rows s no_signed,
    )
both_signs rows row false =
    let s : SignedRow = record { row = row; plus = true } in
    let t : SignedRow = record { row = row; plus = false } in
    let second = length_push (rows ++ s ∷ []) t in
    (length (rows ++ s ∷ []), omega (arith, second), at_end (rows ++ s ∷ []) t no_signed)

-- one that a cycle passes comes in under both signs
pub passed_more : (by_row : List (List Passage)) (m : ℕ) (rows : List SignedRow) (row : ℕ) → m < length by_row
    → row ≡ m + 1 → ArePassed by_row m rows → ArePassed by_row (m + 1)
    ((rows ++ record { row = row; plus = true } ∷ []) ++ record { row = row; plus = false } ∷ [])
passed_more by_row m rows row l e h =
    let s : SignedRow = record { row = row; plus = true } in
    let t : SignedRow = record { row = row; plus = false } in
    let P : SignedRow → Type 0 = λ x. Names (length by_row) x.row in
    let here : Names (length by_row) row = (omega arith, omega arith) in
    record {
      exist = All-push P (rows ++ s ∷ []) t (All-push P rows s h.exist here) here;
      all = λ x names some.
          elim (cases_eq x.row row) [
            | inl same ↦
                let b = both_signs rows row x.plus in
                (b.0, b.1, b.2 ∙ ap (λ (i : ℕ). let y : SignedRow = record { row = i; plus = x.plus } in y) (sym same))
            | inr other ↦
                let k = h.all x (omega (arith, names), omega (arith, names)) some in
                let first = length_push rows s in
                let second = length_push (rows ++ s ∷ []) t in
                let kl = k.1 in (
                  k.0,
                  omega (arith, first, second, kl),
                  before_end (rows ++ s ∷ []) t no_signed k.0 (omega (arith, first, kl))
                      ∙ before_end rows s no_signed k.0 kl ∙ k.2,
                )
          ];
    }

-- the rows at these places exist
pub names_along : (count n : ℕ) (rows : List SignedRow) (way : List ℕ) (walk : List SignedRow)
    → walk ≡ map (signed_at rows) way → count ≡ n → All (λ (s : SignedRow). Names count s.row) rows
    → All (λ (k : ℕ). k < length rows) way → All (λ (s : SignedRow). Names n s.row) walk
names_along count n rows way walk e long exist places k d l =
    let size = ap length e ∙ length-map way (signed_at rows) in
    let within : k < length way = omega (arith, l, size) in
    let at : get_or walk k d ≡ signed_at rows (get_or way k 0) = ap (λ (w : List SignedRow). get_or w k d) e
    ∙ get_or-map (signed_at rows) way k 0 d within in
    let names = exist (get_or way k 0) no_signed (places k 0 within) in
    let row = ap (λ (s : SignedRow). s.row) at in
    (omega (arith, names, row), omega (arith, names, row, long))

-- the counts along a short walk are small
pub small_counts : (count : ℕ) (walk : List SignedRow) (flows : List ℤ) → length flows ≡ count
    → length walk ≤ 100000 → ((i : ℕ) → i < count → get_or flows i (pos 0) ≡ net_count walk i)
    → All (λ (z : ℤ). unsigned_abs z ≤ 1000000000000) flows
small_counts count walk flows long short counts k d l =
    let at = get_or_default flows k d (pos 0) l in
    let is = counts k (omega (arith, l, long)) in
    let bound = net_count_bound walk (length walk) k in
    let all = ap (λ (w : List SignedRow). net_count w k) (take_all (length walk) walk (omega arith)) in
    omega (arith, ints, at, is, bound, all, short)

-- ---- shifts

pub shifts_none : (n : Net) (table : List (List SignedRow)) (node : Node) (count : ℕ) (shifts : List (ℤ × ℤ))
    → shifts ≡ replicate count (pos 0, pos 0) → length shifts ≡ count → AreRowShifts n table node 0 shifts
shifts_none n table node count shifts e long i l =
    inl (refl, ap (λ (x : List (ℤ × ℤ)). shift_at x i) e ∙ get_or-replicate count i (pos 0, pos 0) (pos 0, pos 0) (omega (arith, l, long)))

-- the row with which the next cycle begins takes the offsets that are left to the cycle
pub shifts_more : (n : Net) (table : List (List SignedRow)) (node : Node) (m place : ℕ) (left : ℤ × ℤ)
    (shifts : List (ℤ × ℤ)) → 1 ≤ own_row (cycle_at table m) → place ≡ own_row (cycle_at table m) - 1
    → place < length shifts → offsets_left n table node m ≡ Some left → AreRowShifts n table node m shifts
    → AreRowShifts n table node (m + 1) (set shifts place left)
shifts_more n table node m place left shifts one is within e h i l =
    let next : last_owner table (m + 1) i ≡ last_owner table (suc m) i = ap (λ k. last_owner table k i) (add-one m) in
    elim (cases_eq i place) [
      | inl same ↦
          let own : own_row (cycle_at table m) ≡ i + 1 = omega arith in
          let here : last_owner table (m + 1) i ≡ m + 1 = next
          ∙ ap (λ b. if b then m + 1 else last_owner table m i)
          (eq-true (own_row (cycle_at table m)) (i + 1) own) in
          let back : last_owner table (m + 1) i - 1 ≡ m = omega arith in
          let read : shift_at (set shifts place left) i ≡ left = ap (λ j. shift_at (set shifts place left) j) same
          ∙ get_or-set_same shifts place left (pos 0, pos 0) within in
          inr (omega (arith, here), ap (λ k. offsets_left n table node k) back ∙ e ∙ ap (λ (x : ℤ × ℤ). Some x) (sym read))
      | inr other ↦
          let before : last_owner table (m + 1) i ≡ last_owner table m i = next
          ∙ ap (λ b. if b then m + 1 else last_owner table m i)
          (eq-false (own_row (cycle_at table m)) (i + 1) (λ s. other (omega arith))) in
          let read : shift_at (set shifts place left) i ≡ shift_at shifts i = get_or-set_other shifts place i left (pos 0, pos 0) other in
          let was = h i (let n = length-set shifts place left in omega (arith, l, n)) in
          subst (λ o. IsShift n table node o (shift_at (set shifts place left) i)) (sym before)
          (subst (λ x. IsShift n table node (last_owner table m i) x) (sym read) was)
    ]

pub as_shifts : (n : Net) (table : List (List SignedRow)) (node : Node) (m : ℕ) (shifts : List (ℤ × ℤ)) (k : ℕ)
    → m ≡ k → AreRowShifts n table node m shifts → AreRowShifts n table node k shifts
as_shifts n table node m shifts k e h = subst (λ j. AreRowShifts n table node j shifts) e h

pub small_set : (period : ℕ) (shifts : List (ℤ × ℤ)) (place : ℕ) (left : ℤ × ℤ)
    → All (λ (s : ℤ × ℤ). IsSmallOffset period s.0 × IsSmallOffset period s.1) shifts
    → IsSmallOffset period left.0 × IsSmallOffset period left.1
    → All (λ (s : ℤ × ℤ). IsSmallOffset period s.0 × IsSmallOffset period s.1) (set shifts place left)
small_set period shifts place left h here k d l =
    let long = length-set shifts place left in
    elim (cases_eq k place) [
      | inl same ↦
          let read : get_or (set shifts place left) k d ≡ left = ap (λ j. get_or (set shifts place left) j d) same
          ∙ get_or-set_same shifts place left d (omega (arith, l, long, same)) in
          subst (λ (s : ℤ × ℤ). IsSmallOffset period s.0 × IsSmallOffset period s.1) (sym read) here
      | inr other ↦
          let read : get_or (set shifts place left) k d ≡ get_or shifts k d = get_or-set_other shifts place k left d other in
          subst (λ (s : ℤ × ℤ). IsSmallOffset period s.0 × IsSmallOffset period s.1) (sym read) (h k d (omega (arith, l, long)))
    ]

-- a closed walk begins with a row that exists
pub own_row_names : (arcs : List Arc) (walk : List SignedRow) → IsWalk arcs walk → Names (length arcs) (own_row walk)
own_row_names arcs [] w = absurd w
own_row_names arcs (s ∷ walk) w = All-head (RowExists arcs) s walk w.0

-- ---- pairs

over_pairs-push : (pairs : List Pair) (pair : Pair) (term : ℕ → ℤ)
    → over_pairs (pairs ++ pair ∷ []) term ≡ over_pairs pairs term +ℤ pair.mult *ℤ term (pair.cycle - 1)
over_pairs-push [] pair term = omega (arith, ints)
over_pairs-push (x ∷ pairs) pair term = omega (arith, ints, over_pairs-push pairs pair term)

sum_more : (n : ℕ) (f : ℕ → ℤ) → sum_below (n + 1) f ≡ sum_below n f +ℤ f n
sum_more n f = ap (λ (k : ℕ). sum_below k f) (add-one n)

-- the pairs of the first n cycles
pub record PairsTo (cycles : ℕ) (mult : ℕ → ℤ) (n : ℕ) (pairs : List Pair) : Type 0 where
  pub mults : AreCycleMultipliers n mult pairs
  pub each : All (IsPairOf cycles) pairs
  pub below : (i : ℕ) (d : Pair) → i < length pairs → (get_or pairs i d).cycle ≤ n
  pub rise : Rise pairs

pub pairs_none : (cycles : ℕ) (mult : ℕ → ℤ) → PairsTo cycles mult 0 []
pairs_none cycles mult = record {
  mults = λ term. refl;
  each = All-nil (IsPairOf cycles);
  below = λ i d l. absurd (omega arith);
  rise = λ i j d l m. absurd (omega arith);
}

pub pairs_skip : (cycles : ℕ) (mult : ℕ → ℤ) (n : ℕ) (pairs : List Pair) → mult n ≡ pos 0
    → PairsTo cycles mult n pairs → PairsTo cycles mult (n + 1) pairs
pairs_skip cycles mult n pairs e h = record {
  mults = λ term. let none : mult n *ℤ term n ≡ pos 0 = ap (λ z. z *ℤ term n) e ∙ zero-mul (term n) in
      let more = sum_more n (λ c. mult c *ℤ term c) in omega (arith, ints, h.mults term, none, more);
  each = h.each;
  below = λ i d l. let b = h.below i d l in omega arith;
  rise = h.rise;
}

pub pairs_more : (cycles : ℕ) (mult : ℕ → ℤ) (n : ℕ) (pairs : List Pair) (pair : Pair) → n < cycles
    → pair.cycle ≡ n + 1 → pair.mult ≡ mult n → 1 ≤ unsigned_abs (mult n) → unsigned_abs (mult n) ≤ 1000000000000
    → PairsTo cycles mult n pairs → PairsTo cycles mult (n + 1) (pairs ++ pair ∷ [])
pairs_more cycles mult n pairs pair l c e some most h =
    let place : pair.cycle - 1 ≡ n = omega arith in
    let long = length_push pairs pair in
    let same = ap unsigned_abs e in
    let is : IsPairOf cycles pair = record {
      names = (omega arith, omega arith);
      some = omega (arith, same, some);
      most = omega (arith, same, most);
    } in
    record {
      mults = λ term. let here : pair.mult *ℤ term (pair.cycle - 1)
          ≡ mult n *ℤ term n = ap (λ z. z *ℤ term (pair.cycle - 1)) e ∙ ap (λ (k : ℕ). mult n *ℤ term k) place in
          let more = sum_more n (λ c. mult c *ℤ term c) in let last = over_pairs-push pairs pair term in
          omega (arith, ints, h.mults term, here, more, last);
      each = All-push (IsPairOf cycles) pairs pair h.each is;
      below = λ i d m. elim (cases_eq i (length pairs)) [
        | inl same ↦ let r = ap (λ (k : ℕ). (get_or (pairs ++ pair ∷ []) k d).cycle) same
            ∙ ap (λ (p : Pair). p.cycle) (at_end pairs pair d) in omega (arith, r, c)
        | inr other ↦ let r = ap (λ (p : Pair). p.cycle) (before_end pairs pair d i (omega (arith, long, m))) in
            let b = h.below i d (omega (arith, long, m)) in omega (arith, r, b)
      ];
      rise = λ i j d m o. elim (cases_eq j (length pairs)) [
        | inl same ↦
            let r = ap (λ (k : ℕ). (get_or (pairs ++ pair ∷ []) k d).cycle) same ∙ ap (λ (p : Pair). p.cycle) (at_end pairs pair d) in
            let q = ap (λ (p : Pair). p.cycle) (before_end pairs pair d i (omega (arith, m, same))) in
            let b = h.below i d (omega (arith, m, same)) in
            omega (arith, r, q, b, c)
        | inr other ↦
            let r = ap (λ (p : Pair). p.cycle) (before_end pairs pair d j (omega (arith, long, o))) in
            let q = ap (λ (p : Pair). p.cycle) (before_end pairs pair d i (omega (arith, long, m, o))) in
            let b = h.rise i j d m (omega (arith, long, o)) in
            omega (arith, r, q, b)
      ];
    }
