-- The list of a cut tells what a shift of what hangs below it costs.
use Rattle.std.proofs.Common.{◌≡◌, ◌≢◌, inl, inr, ℕ, ℤ, pos, ◌-◌, ◌<◌, ◌≤◌, ◌+ℤ◌, ◌*ℤ◌, ◌-ℤ◌, zero, suc, refl, ap, sym, ◌∙◌, arith, subst, List, [], ◌∷◌, ◌++◌, length, get_or, true, false, Bool}
use Rattle.std.specs.Prelude.{◌≤ℤ◌}
use Rattle.std.proofs.lemmas.Bool.{false≢true}
use Rattle.std.proofs.lemmas.Int.{ints}
use Rattle.std.proofs.lemmas.List.{length_push, get_or-append_right, get_or_append_left, append-nil}
use Rattle.pesp_problem.specs.declared.arc.Arc.{Arc}
use Rattle.pesp_problem.specs.Sums.{sum_below}
use Rattle.pesp_problem.specs.Arcs.{Net, arc_at, arc_slack}
use Rattle.pesp_propagate.specs.declared.crossing.Crossing.{Crossing}
use Rattle.pesp_propagate.specs.declared.crossing.Entry.{Entry}
use Rattle.pesp_propagate.specs.Slacks.{AreSlacksAt}
use Rattle.pesp_propagate.specs.Cuts.{arc_moved, IsCutBest}
use Rattle.pesp_propagate.specs.Shifts.{moved, change, row_change, AllFit, crossing_at, IsBestShift}
use Rattle.pesp_propagate.specs.Entries.{crossing_of, crossings_of, entry_if, cut_entries, cut_entry_at, no_entry}
use Rattle.pesp_problem.specs.Roots.{Roots, below}
use Rattle.pesp_problem.proofs.Integers.{sum_below-same, lt-or-same}
use Rattle.pesp_propagate.proofs.Crossings.{crosses_in, crosses_out, stays}
use Rattle.pesp_propagate.proofs.Tallying.{crossing_at-entry, length-crossings_of}

-- the entry is that of a row that crosses
abbrev IsTrueEntry : (ℕ → Bool) → List Arc → Entry → Type 0
IsTrueEntry side arcs e = (e.row < length arcs) × (side (arc_at arcs e.row).head ≡ e.inward) × (side (arc_at arcs e.row).tail ≢ e.inward)

last_of : (xs : List Entry) (e : Entry) (k : ℕ) → k ≡ length xs → cut_entry_at (xs ++ e ∷ []) k ≡ e
last_of xs e k q = get_or-append_right xs (e ∷ []) (length xs) k no_entry refl (omega arith)
    ∙ ap (λ (i : ℕ). get_or (e ∷ []) i no_entry) (let z : k - length xs ≡ 0 = omega arith in z)

-- ---- the entries are true

true_push : (side : ℕ → Bool) (arcs : List Arc) (xs : List Entry) (e : Entry)
    → ((k : ℕ) → k < length xs → IsTrueEntry side arcs (cut_entry_at xs k)) → IsTrueEntry side arcs e → (k : ℕ)
    → k < length (xs ++ e ∷ []) → IsTrueEntry side arcs (cut_entry_at (xs ++ e ∷ []) k)
true_push side arcs xs e before here k l =
    let p = length_push xs e in
    elim (lt-or-same k (length xs) (omega arith)) [
      | inl m ↦ let P : Entry → Type 0 = IsTrueEntry side arcs in subst P (sym (get_or_append_left xs (e ∷ []) no_entry k m)) (before k m)
      | inr q ↦ let P : Entry → Type 0 = IsTrueEntry side arcs in subst P (sym (last_of xs e k q)) here
    ]

true_if : (side : ℕ → Bool) (arcs : List Arc) (i : ℕ) (xs : List Entry) → i < length arcs
    → ((k : ℕ) → k < length xs → IsTrueEntry side arcs (cut_entry_at xs k)) → (h t : Bool)
    → side (arc_at arcs i).head ≡ h → side (arc_at arcs i).tail ≡ t
    → (k : ℕ) → k < length (xs ++ entry_if i h t) → IsTrueEntry side arcs (cut_entry_at (xs ++ entry_if i h t) k)
true_if side arcs i xs l before true true eh et k lk = let P : List Entry → Type 0 = λ ys. k < length ys
    → IsTrueEntry side arcs (cut_entry_at ys k) in subst P (sym (append-nil xs)) (before k) lk
true_if side arcs i xs l before true false eh et k lk =
    true_push side arcs xs (record { row = i; inward = true }) before (l, eh, λ q. false≢true (sym et ∙ q)) k lk
true_if side arcs i xs l before false true eh et k lk =
    true_push side arcs xs (record { row = i; inward = false }) before (l, eh, λ q. false≢true (sym q ∙ et)) k lk
true_if side arcs i xs l before false false eh et k lk = let P : List Entry → Type 0 = λ ys. k < length ys
    → IsTrueEntry side arcs (cut_entry_at ys k) in subst P (sym (append-nil xs)) (before k) lk

entries_are_true : (side : ℕ → Bool) (arcs : List Arc) (i : ℕ) → i ≤ length arcs → (k : ℕ)
    → k < length (cut_entries side arcs i) → IsTrueEntry side arcs (cut_entry_at (cut_entries side arcs i) k)
entries_are_true side arcs zero h k l = absurd (omega arith)
entries_are_true side arcs (suc i) h k l = true_if side arcs i (cut_entries side arcs i) (omega arith)
    (entries_are_true side arcs i (omega arith)) (side (arc_at arcs i).head)
    (side (arc_at arcs i).tail) refl refl k l

-- ---- an entry moves as its row does

by_times : (period : ℕ) (times : List ℕ) (arcs : List Arc) (slacks : List ℕ) (e : Entry)
    → AreSlacksAt period times arcs slacks → e.row < length arcs
    → crossing_of arcs slacks e ≡ record {
      slack = arc_slack period times (arc_at arcs e.row);
      span = (arc_at arcs e.row).span;
      weight = (arc_at arcs e.row).weight;
      inward = e.inward;
    }
by_times period times arcs slacks e s l = ap (λ (y : ℕ). let x : Crossing =
    record {
      slack = y;
      span = (arc_at arcs e.row).span;
      weight = (arc_at arcs e.row).weight;
      inward = e.inward;
    } in x) (s.each e.row l)

entry_moves : (period : ℕ) (times : List ℕ) (side : ℕ → Bool) (arcs : List Arc) (slacks : List ℕ) (d row : ℕ)
    (inward : Bool) → AreSlacksAt period times arcs slacks → row < length arcs → side (arc_at arcs row).head ≡ inward
    → side (arc_at arcs row).tail ≢ inward
    → moved period (crossing_of arcs slacks (record { row = row; inward = inward })) d ≡ arc_moved period times side (arc_at arcs row) d
entry_moves period times side arcs slacks d row true s l h t =
    ap (λ x. moved period x d) (by_times period times arcs slacks (record { row = row; inward = true }) s l)
    ∙ sym (crosses_in period times side (arc_at arcs row) d h (other _ t))
  where
    other : (b : Bool) → b ≢ true → b ≡ false
    other true ne = absurd (ne refl)
    other false ne = refl
entry_moves period times side arcs slacks d row false s l h t =
    ap (λ x. moved period x d) (by_times period times arcs slacks (record { row = row; inward = false }) s l)
    ∙ sym (crosses_out period times side (arc_at arcs row) d h (other _ t))
  where
    other : (b : Bool) → b ≢ false → b ≡ true
    other true ne = refl
    other false ne = absurd (ne refl)

-- ---- sums over the list

abbrev list_sum : (Entry → ℤ) → List Entry → ℤ
list_sum g xs = sum_below (length xs) (λ k. g (cut_entry_at xs k))

list_sum-push : (g : Entry → ℤ) (xs : List Entry) (e : Entry) → list_sum g (xs ++ e ∷ []) ≡ list_sum g xs +ℤ g e
list_sum-push g xs e =
    let p : length (xs ++ e ∷ []) ≡ suc (length xs) = (let q = length_push xs e in omega arith) in
    let front = sum_below-same (length xs) (λ k. g (cut_entry_at (xs ++ e ∷ []) k)) (λ k. g (cut_entry_at xs k))
    (λ k l. ap g (get_or_append_left xs (e ∷ []) no_entry k l)) in
    let last : g (cut_entry_at (xs ++ e ∷ []) (length xs)) ≡ g e = ap g (last_of xs e (length xs) refl) in
    ap (λ (n : ℕ). sum_below n (λ k. g (cut_entry_at (xs ++ e ∷ []) k))) p ∙ add front last
  where
    add : {a b c d : ℤ} → a ≡ b → c ≡ d → a +ℤ c ≡ b +ℤ d
    add h k = cc

-- what an arc changes is what its entry changes, or nothing
abbrev arc_change : ℕ → List ℕ → (ℕ → Bool) → List Arc → ℕ → ℕ → ℤ
arc_change period times side arcs d i = pos (arc_at arcs i).weight
    *ℤ (pos (arc_moved period times side (arc_at arcs i) d) -ℤ pos (arc_slack period times (arc_at arcs i)))

entry_change : (period : ℕ) (times : List ℕ) (side : ℕ → Bool) (arcs : List Arc) (slacks : List ℕ) (d i : ℕ)
    (inward : Bool) → AreSlacksAt period times arcs slacks → i < length arcs → side (arc_at arcs i).head ≡ inward
    → side (arc_at arcs i).tail ≢ inward
    → row_change period (crossing_of arcs slacks (record { row = i; inward = inward })) d ≡ arc_change period times side arcs d i
entry_change period times side arcs slacks d i inward s l h t =
    let w = (arc_at arcs i).weight in
    both w _ _ _ _ (entry_moves period times side arcs slacks d i inward s l h t) (s.each i l)
  where
    both : (w a b c d : ℕ) → a ≡ b → c ≡ d → pos w *ℤ (pos a -ℤ pos c) ≡ pos w *ℤ (pos b -ℤ pos d)
    both w a b c d e f = cc

no_change : (period : ℕ) (times : List ℕ) (side : ℕ → Bool) (arcs : List Arc) (d i : ℕ) → 0 < period
    → side (arc_at arcs i).head ≡ side (arc_at arcs i).tail → arc_change period times side arcs d i ≡ pos 0
no_change period times side arcs d i some e = gone (arc_at arcs i).weight _ _ (stays period times side (arc_at arcs i) d some e)
  where
    gone : (w a b : ℕ) → a ≡ b → pos w *ℤ (pos a -ℤ pos b) ≡ pos 0
    gone w a b q = (let z : pos a -ℤ pos b ≡ pos 0 = omega (arith, ints) in rw z (omega (arith, ints)))

sum_if : (period : ℕ) (times : List ℕ) (side : ℕ → Bool) (arcs : List Arc) (slacks : List ℕ) (d i : ℕ)
    (xs : List Entry) (s : ℤ) → 0 < period → AreSlacksAt period times arcs slacks → i < length arcs
    → list_sum (λ e. row_change period (crossing_of arcs slacks e) d) xs ≡ s
    → (h t : Bool) → side (arc_at arcs i).head ≡ h → side (arc_at arcs i).tail ≡ t
    → list_sum (λ e. row_change period (crossing_of arcs slacks e) d) (xs ++ entry_if i h t)
    ≡ s +ℤ arc_change period times side arcs d i
sum_if period times side arcs slacks d i xs s some a l ih true true eh et =
    let z = no_change period times side arcs d i some (eh ∙ sym et) in
    ap (list_sum (λ e. row_change period (crossing_of arcs slacks e) d)) (append-nil xs) ∙ ih
    ∙ (rw z (omega (arith, ints)))
sum_if period times side arcs slacks d i xs s some a l ih true false eh et =
    let e : Entry = record { row = i; inward = true } in
    list_sum-push (λ e. row_change period (crossing_of arcs slacks e) d) xs e
    ∙ add ih (entry_change period times side arcs slacks d i true a l eh (λ q. false≢true (sym et ∙ q)))
  where
    add : {a b c d : ℤ} → a ≡ b → c ≡ d → a +ℤ c ≡ b +ℤ d
    add h k = cc
sum_if period times side arcs slacks d i xs s some a l ih false true eh et =
    let e : Entry = record { row = i; inward = false } in
    list_sum-push (λ e. row_change period (crossing_of arcs slacks e) d) xs e
    ∙ add ih (entry_change period times side arcs slacks d i false a l eh (λ q. false≢true (sym q ∙ et)))
  where
    add : {a b c d : ℤ} → a ≡ b → c ≡ d → a +ℤ c ≡ b +ℤ d
    add h k = cc
sum_if period times side arcs slacks d i xs s some a l ih false false eh et =
    let z = no_change period times side arcs d i some (eh ∙ sym et) in
    ap (list_sum (λ e. row_change period (crossing_of arcs slacks e) d)) (append-nil xs) ∙ ih
    ∙ (rw z (omega (arith, ints)))

sum_is : (period : ℕ) (times : List ℕ) (side : ℕ → Bool) (arcs : List Arc) (slacks : List ℕ) (d i : ℕ) → 0 < period
    → AreSlacksAt period times arcs slacks → i ≤ length arcs
    → list_sum (λ e. row_change period (crossing_of arcs slacks e) d) (cut_entries side arcs i)
    ≡ sum_below i (arc_change period times side arcs d)
sum_is period times side arcs slacks d zero some a h = refl
sum_is period times side arcs slacks d (suc i) some a h =
    sum_if period times side arcs slacks d i (cut_entries side arcs i)
    (sum_below i (arc_change period times side arcs d)) some a (omega arith)
    (sum_is period times side arcs slacks d i some a (omega arith)) (side (arc_at arcs i).head)
    (side (arc_at arcs i).tail) refl refl

-- what the list of a cut changes is what the shift changes
change_is : (period : ℕ) (times : List ℕ) (side : ℕ → Bool) (arcs : List Arc) (slacks : List ℕ) (d : ℕ)
    → 0 < period → AreSlacksAt period times arcs slacks
    → change period (crossings_of arcs slacks (cut_entries side arcs (length arcs))) d
    ≡ sum_below (length arcs) (arc_change period times side arcs d)
change_is period times side arcs slacks d some a =
    let es = cut_entries side arcs (length arcs) in
    let rows = crossings_of arcs slacks es in
    let n = length-crossings_of arcs slacks es in
    ap (λ (k : ℕ). sum_below k (λ i. row_change period (crossing_at rows i) d)) n
    ∙ sum_below-same (length es) (λ i. row_change period (crossing_at rows i) d)
    (λ i. row_change period (crossing_of arcs slacks (cut_entry_at es i)) d)
    (λ i l. ap (λ x. row_change period x d) (crossing_at-entry arcs slacks es i l))
    ∙ sum_is period times side arcs slacks d (length arcs) some a (omega arith)

-- the best shift of the list is the best shift of the cut
pub cut_is_best : (net : Net) (times : List ℕ) (r : Roots) (c : ℕ) (slacks : List ℕ) (entries : List Entry)
    → 0 < net.period → AreSlacksAt net.period times net.arcs slacks
    → entries ≡ cut_entries (below r c) net.arcs (length net.arcs)
    → IsBestShift net.period (crossings_of net.arcs slacks entries) 0 → IsCutBest net times r c
cut_is_best net times r c slacks entries some a listed best d l fit =
    let arcs = net.arcs in let period = net.period in
    let es = cut_entries (below r c) arcs (length arcs) in
    let rows = crossings_of arcs slacks es in
    let P : List Entry → Type 0 = λ xs. IsBestShift period (crossings_of arcs slacks xs) 0 in
    let b : IsBestShift period rows 0 = subst P listed best in
    let fits : AllFit period rows d = λ k lk.
    (let lk2 : k < length es = (let n = length-crossings_of arcs slacks es in omega arith) in
    let e = cut_entry_at es k in
    let t = entries_are_true (below r c) arcs (length arcs) (omega arith) k lk2 in
    let m : moved period (crossing_of arcs slacks e) d
    ≡ arc_moved period times (below r c) (arc_at arcs e.row) d =
    entry_moves period times (below r c) arcs slacks d e.row e.inward a t.0 t.1 t.2 in
    let f = fit e.row t.0 in
    let Q : Crossing → Type 0 = λ x. moved period x d ≤ x.span in
    subst Q (sym (crossing_at-entry arcs slacks es k lk2))
    (let Q2 : ℕ → Type 0 = λ y. y ≤ (arc_at arcs e.row).span in subst Q2 (sym m) f)) in
    let z = b.none d l fits refl in
    let e = change_is period times (below r c) arcs slacks d some a in
    let R : ℤ → Type 0 = λ y. pos 0 ≤ℤ y in subst R e z
