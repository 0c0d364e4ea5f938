-- One row's part of the sums.
use Rattle.std.proofs.Common.{◌≡◌, inl, inr, ℕ, ℤ, pos, ◌+◌, ◌*◌, ◌-◌, ◌<◌, ◌≤◌, ◌+ℤ◌, ◌*ℤ◌, ◌-ℤ◌, refl, ap, subst, sym, ◌∙◌, arith, List, length, set, true, false, add-one}
use Rattle.std.specs.Prelude.{unsigned_abs, neg_ℤ, Bool}
use Rattle.std.proofs.lemmas.Int.{ints}
use Rattle.std.proofs.lemmas.Bool.{le-leb, lt-leb, cases_lt}
use Rattle.std.proofs.lemmas.List.{length-set}
use Rattle.pesp_propagate.specs.declared.crossing.Crossing.{Crossing}
use Rattle.pesp_propagate.specs.Shifts.{growth, moved, row_change, barred, number_at, IsCrossing, crossing_at}
use Rattle.pesp_propagate.specs.Tallies.{prefix, TakesRow, TakesRows}
use Rattle.pesp_problem.proofs.Integers.{lt-or-same, mul-sub, mul-add, add-mul, mul_assoc, sum_below-zero}
use Rattle.pesp_propagate.proofs.Prefixes.{abs-add, prefix-past, prefix-within, prefix-raised, raised-small}
use Rattle.pesp_propagate.proofs.Moving.{moved_in, moved_in-wrapped, moved_out, moved_out-wrapped}

pub fits-barred : (period : ℕ) (row : Crossing) (d m : ℕ) → moved period row d ≡ m → m ≤ row.span → barred period row d ≡ pos 0
fits-barred period row d m e l = rw (e, le-leb m row.span l) refl

pub misses-barred : (period : ℕ) (row : Crossing) (d m : ℕ) → moved period row d ≡ m → row.span < m → barred period row d ≡ pos 1
misses-barred period row d m e l = rw (e, lt-leb m row.span l) refl

grows_in : (row : Crossing) (d : ℕ) → row.inward ≡ true → growth row d ≡ pos d
grows_in row d inward = rw inward refl

grows_out : (row : Crossing) (d : ℕ) → row.inward ≡ false → growth row d ≡ neg_ℤ (pos d)
grows_out row d inward = rw inward refl

times : (w : ℕ) (a b : ℤ) → a ≡ b → pos w *ℤ a ≡ pos w *ℤ b
times w a b e = ap (λ (z : ℤ). pos w *ℤ z) e

-- what a row adds at d: its weight times the growth, and a lap where the slack has wrapped around
changes : (w y m : ℕ) (g : ℤ) → pos m -ℤ pos y ≡ g → pos w *ℤ (pos m -ℤ pos y) ≡ pos w *ℤ g +ℤ pos 0
changes w y m g e = let t = times w (pos m -ℤ pos y) g e in omega (arith, ints)

changes_down : (w y m period : ℕ) (g : ℤ) → pos m -ℤ pos y ≡ g -ℤ pos period
    → pos w *ℤ (pos m -ℤ pos y) ≡ pos w *ℤ g +ℤ neg_ℤ (pos (w * period))
changes_down w y m period g e = let t = times w (pos m -ℤ pos y) (g -ℤ pos period) e in
    let q = mul-sub (pos w) g (pos period) in omega (arith, ints)

changes_up : (w y m period : ℕ) (g : ℤ) → pos m -ℤ pos y ≡ g +ℤ pos period → pos w *ℤ (pos m -ℤ pos y) ≡ pos w *ℤ g +ℤ pos (w * period)
changes_up w y m period g e = let t = times w (pos m -ℤ pos y) (g +ℤ pos period) e in
    let q = mul-add (pos w) g (pos period) in omega (arith, ints)

adds : (old new g r lap : ℤ) → new ≡ old +ℤ lap → r ≡ g +ℤ lap → new +ℤ g ≡ old +ℤ r
adds old new g r lap e f = omega (arith, ints)

adds_none : (old new g r : ℤ) → new ≡ old → r ≡ g +ℤ pos 0 → new +ℤ g ≡ old +ℤ r
adds_none old new g r e f = omega (arith, ints)

pub takes_in : (period : ℕ) (row : Crossing) (c b : List ℤ) → row.inward ≡ true → IsCrossing period row
    → length c ≡ period + 1 → length b ≡ period + 1 → row.weight * period ≤ 10000000000000
    → let wrap = period - row.slack in let first = row.span - row.slack + 1 in let b2 = set b first (number_at b first +ℤ pos 1) in
    TakesRow period row c (set c wrap (number_at c wrap +ℤ neg_ℤ (pos (row.weight * period)))) b
    (set b2 wrap (number_at b2 wrap +ℤ neg_ℤ (pos 1)))
takes_in period row c b inward h lc lb lap =
    let wrap = period - row.slack in let first = row.span - row.slack + 1 in let b2 = set b first (number_at b first +ℤ pos 1) in
    let hy = h.slack in let hs = h.span in
    let lb2 : length b2 ≡ period + 1 = length-set b first _ ∙ lb in
    let within_c : wrap < length c = omega arith in let within_b : first < length b = omega arith in
    let within_b2 : wrap < length b2 = omega arith in
    record {
      costs_kept = length-set c wrap _;
      bars_kept = length-set b2 wrap _ ∙ length-set b first _;
      cost = λ d l. (let g = grows_in row d inward in elim (cases_lt d wrap) [
        | inl m ↦ (let e = moved_in period row d inward (omega arith) in
            adds_none _ _ (pos row.weight *ℤ growth row d) (row_change period row d)
            (prefix-past (d + 1) wrap c _ (omega arith))
            (changes row.weight row.slack (moved period row d) (growth row d)
            (rw (e, g) (omega (arith, ints)))))
        | inr m ↦ (let e = moved_in-wrapped period row d inward (omega arith) (omega arith) l in
            adds _ _ (pos row.weight *ℤ growth row d) (row_change period row d) _
            (prefix-within (d + 1) wrap c (neg_ℤ (pos (row.weight * period))) (omega arith) within_c)
            (changes_down row.weight row.slack (moved period row d) period (growth row d)
            (rw (e, g) (omega (arith, ints)))))
      ]);
      bar = λ d l. elim (cases_lt d first) [
        | inl m ↦ (let p = prefix-past (d + 1) first b (number_at b first +ℤ pos 1) (omega arith) in
            let q = prefix-past (d + 1) wrap b2 (number_at b2 wrap +ℤ neg_ℤ (pos 1)) (omega arith) in
            let e = fits-barred period row d (row.slack + d) (moved_in period row d inward (omega arith))
            (omega arith) in omega (arith, ints))
        | inr m ↦ (let p = prefix-within (d + 1) first b (pos 1) (omega arith) within_b in elim (cases_lt d wrap) [
          | inl k ↦ (let q = prefix-past (d + 1) wrap b2 (number_at b2 wrap +ℤ neg_ℤ (pos 1)) (omega arith) in
              let e = misses-barred period row d (row.slack + d) (moved_in period row d inward (omega arith))
              (omega arith) in omega (arith, ints))
          | inr k ↦ (let q = prefix-within (d + 1) wrap b2 (neg_ℤ (pos 1)) (omega arith) within_b2 in
              let e = fits-barred period row d (row.slack + d - period)
              (moved_in-wrapped period row d inward (omega arith) (omega arith) l) (omega arith) in
              omega (arith, ints))
        ])
      ];
      costs_level = λ d. (let s = prefix-raised (d + 1) wrap c (neg_ℤ (pos (row.weight * period))) within_c in omega (arith, ints));
      bars_level = λ d. (let s = prefix-raised (d + 1) first b (pos 1) within_b in
          let t = prefix-raised (d + 1) wrap b2 (neg_ℤ (pos 1)) within_b2 in omega (arith, ints));
      costs_small = λ p. (let s = raised-small c wrap p (neg_ℤ (pos (row.weight * period))) within_c in omega (arith, ints));
      bars_small = λ p. (let s = raised-small b first p (pos 1) within_b in
          let t = raised-small b2 wrap p (neg_ℤ (pos 1)) within_b2 in omega (arith, ints));
    }

pub takes_out : (period : ℕ) (row : Crossing) (c b : List ℤ) → row.inward ≡ false → IsCrossing period row
    → length c ≡ period + 1 → length b ≡ period + 1 → row.weight * period ≤ 10000000000000
    → let wrap = row.slack + 1 in let last = row.slack + (period - row.span) in let b2 = set b wrap (number_at b wrap +ℤ pos 1) in
    TakesRow period row c (set c wrap (number_at c wrap +ℤ pos (row.weight * period))) b (set b2 last (number_at b2 last +ℤ neg_ℤ (pos 1)))
takes_out period row c b inward h lc lb lap =
    let wrap = row.slack + 1 in let last = row.slack + (period - row.span) in let b2 = set b wrap (number_at b wrap +ℤ pos 1) in
    let hy = h.slack in let hs = h.span in
    let lb2 : length b2 ≡ period + 1 = length-set b wrap _ ∙ lb in
    let within_c : wrap < length c = omega arith in let within_b : wrap < length b = omega arith in
    let within_b2 : last < length b2 = omega arith in
    record {
      costs_kept = length-set c wrap _;
      bars_kept = length-set b2 last _ ∙ length-set b wrap _;
      cost = λ d l. (let g = grows_out row d inward in elim (cases_lt d wrap) [
        | inl m ↦ (let e = moved_out period row d inward (omega arith) (omega arith) in
            adds_none _ _ (pos row.weight *ℤ growth row d) (row_change period row d)
            (prefix-past (d + 1) wrap c _ (omega arith))
            (changes row.weight row.slack (moved period row d) (growth row d)
            (rw (e, g) (omega (arith, ints)))))
        | inr m ↦ (let e = moved_out-wrapped period row d inward (omega arith) l in
            adds _ _ (pos row.weight *ℤ growth row d) (row_change period row d) _
            (prefix-within (d + 1) wrap c (pos (row.weight * period)) (omega arith) within_c)
            (changes_up row.weight row.slack (moved period row d) period (growth row d)
            (rw (e, g) (omega (arith, ints)))))
      ]);
      bar = λ d l. elim (cases_lt d wrap) [
        | inl m ↦ (let p = prefix-past (d + 1) wrap b (number_at b wrap +ℤ pos 1) (omega arith) in
            let q = prefix-past (d + 1) last b2 (number_at b2 last +ℤ neg_ℤ (pos 1)) (omega arith) in
            let e = fits-barred period row d (row.slack - d)
            (moved_out period row d inward (omega arith) (omega arith)) (omega arith) in omega (arith, ints))
        | inr m ↦ (let p = prefix-within (d + 1) wrap b (pos 1) (omega arith) within_b in elim (cases_lt d last) [
          | inl k ↦ (let q = prefix-past (d + 1) last b2 (number_at b2 last +ℤ neg_ℤ (pos 1)) (omega arith) in
              let e = misses-barred period row d (row.slack + period - d)
              (moved_out-wrapped period row d inward (omega arith) l) (omega arith) in omega (arith, ints))
          | inr k ↦ (let q = prefix-within (d + 1) last b2 (neg_ℤ (pos 1)) (omega arith) within_b2 in
              let e = fits-barred period row d (row.slack + period - d)
              (moved_out-wrapped period row d inward (omega arith) l) (omega arith) in omega (arith, ints))
        ])
      ];
      costs_level = λ d. (let s = prefix-raised (d + 1) wrap c (pos (row.weight * period)) within_c in omega (arith, ints));
      bars_level = λ d. (let s = prefix-raised (d + 1) wrap b (pos 1) within_b in
          let t = prefix-raised (d + 1) last b2 (neg_ℤ (pos 1)) within_b2 in omega (arith, ints));
      costs_small = λ p. (let s = raised-small c wrap p (pos (row.weight * period)) within_c in omega (arith, ints));
      bars_small = λ p. (let s = raised-small b wrap p (pos 1) within_b in
          let t = raised-small b2 last p (neg_ℤ (pos 1)) within_b2 in omega (arith, ints));
    }

unit : (row : Crossing) (d : ℕ) → growth row 1 *ℤ pos d ≡ growth row d
unit row d = go row.inward refl
  where
    go : (b : Bool) → row.inward ≡ b → growth row 1 *ℤ pos d ≡ growth row d
    go true e = let g = grows_in row 1 e in let h = grows_in row d e in rw (g, h) (omega (arith, ints))
    go false e = let g = grows_out row 1 e in let h = grows_out row d e in rw (g, h) (omega (arith, ints))

-- the slope times d grows by the row's weight times its growth
tilts : (row : Crossing) (slope : ℤ) (d : ℕ) → (slope +ℤ pos row.weight *ℤ growth row 1) *ℤ pos d
    ≡ slope *ℤ pos d +ℤ pos row.weight *ℤ growth row d
tilts row slope d = add-mul slope (pos row.weight *ℤ growth row 1) (pos d)
    ∙ ap (λ (z : ℤ). slope *ℤ pos d +ℤ z) (mul_assoc (pos row.weight) (growth row 1) (pos d)
    ∙ times row.weight (growth row 1 *ℤ pos d) (growth row d) (unit row d))

tilt_small : (row : Crossing) → row.weight ≤ 1000000000 → unsigned_abs (pos row.weight *ℤ growth row 1) ≤ 1000000000
tilt_small row w = go row.inward refl
  where
    go : (b : Bool) → row.inward ≡ b → unsigned_abs (pos row.weight *ℤ growth row 1) ≤ 1000000000
    go true e = let g = grows_in row 1 e in rw g (omega (arith, ints))
    go false e = let g = grows_out row 1 e in rw g (omega (arith, ints))

joins : (new old s s2 w r total : ℤ) → new +ℤ w ≡ old +ℤ r → s2 ≡ s +ℤ w → old +ℤ s ≡ total → new +ℤ s2 ≡ total +ℤ r
joins new old s s2 w r total e f g = omega (arith, ints)

pub takes_more : (period : ℕ) (rows : List Crossing) (i : ℕ) (slope : ℤ) (c b c2 b2 : List ℤ)
    → TakesRows period rows i slope c b → IsCrossing period (crossing_at rows i)
    → TakesRow period (crossing_at rows i) c c2 b b2
    → TakesRows period rows (i + 1) (slope +ℤ pos (crossing_at rows i).weight *ℤ growth (crossing_at rows i) 1)
    c2 b2
takes_more period rows i slope c b c2 b2 h keeps t =
    let row = crossing_at rows i in
    let w = keeps.weight in
    record {
      costs_long = t.costs_kept ∙ h.costs_long;
      bars_long = t.bars_kept ∙ h.bars_long;
      cost = λ d l. rw (add-one i) (joins (prefix (d + 1) c2) (prefix (d + 1) c) (slope *ℤ pos d) _
          (pos row.weight *ℤ growth row d) (row_change period row d) _ (t.cost d l) (tilts row slope d)
          (h.cost d l));
      bar = λ d l. rw (add-one i) (let e = t.bar d l in let f = h.bar d l in omega (arith, ints));
      costs_small = λ p. (let e = t.costs_small p in let f = h.costs_small p in omega arith);
      bars_small = λ p. (let e = t.bars_small p in let f = h.bars_small p in omega arith);
      costs_level = λ d. (let e = t.costs_level d in let f = h.costs_level d in omega arith);
      bars_level = λ d. (let e = t.bars_level d in let f = h.bars_level d in omega arith);
      each = λ k l. elim (lt-or-same k i l) [ inl m ↦ h.each k m | inr e ↦ rw e keeps ];
      slope_small = (let e = abs-add slope (pos row.weight *ℤ growth row 1) in let f = tilt_small row w in
          let g = h.slope_small in omega arith);
    }

zeros_prefix : (m : ℕ) (z : List ℤ) → ((p : ℕ) → number_at z p ≡ pos 0) → prefix m z ≡ pos 0
zeros_prefix m z h = sum_below-zero m (number_at z) (λ i l. h i)

pub takes_none : (period : ℕ) (rows : List Crossing) (c b : List ℤ) → length c ≡ period + 1 → length b ≡ period + 1
    → ((p : ℕ) → number_at c p ≡ pos 0) → ((p : ℕ) → number_at b p ≡ pos 0) → TakesRows period rows 0 (pos 0) c b
takes_none period rows c b lc lb hc hb =
    record {
      costs_long = lc;
      bars_long = lb;
      cost = λ d l. (let e = zeros_prefix (d + 1) c hc in rw e (omega (arith, ints)));
      bar = λ d l. zeros_prefix (d + 1) b hb;
      costs_small = λ p. rw (hc p) (omega arith);
      bars_small = λ p. rw (hb p) (omega arith);
      costs_level = λ d. rw (zeros_prefix (d + 1) c hc) (omega arith);
      bars_level = λ d. rw (zeros_prefix (d + 1) b hb) (omega arith);
      slope_small = omega arith;
      each = λ k l. absurd (omega arith);
    }

pub takes_next : (period : ℕ) (rows : List Crossing) (i : ℕ) (row : Crossing) (slope : ℤ) (c b c2 b2 : List ℤ)
    → TakesRows period rows i slope c b → row ≡ crossing_at rows i → IsCrossing period row
    → TakesRow period row c c2 b b2 → TakesRows period rows (i + 1) (slope +ℤ pos row.weight *ℤ growth row 1) c2 b2
takes_next period rows i row slope c b c2 b2 h e keeps t =
    let P : Crossing → Type 0 = λ x. IsCrossing period x → TakesRow period x c c2 b b2
    → TakesRows period rows (i + 1) (slope +ℤ pos x.weight *ℤ growth x 1) c2 b2 in
    subst P (sym e) (λ k u. takes_more period rows i slope c b c2 b2 h k u) keeps t
