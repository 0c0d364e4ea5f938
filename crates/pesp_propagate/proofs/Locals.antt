-- Where the cuts of a rooted forest have no cheaper shift, the times are local for it.
use Rattle.std.proofs.Common.{◌≡◌, ◌≢◌, ◌⊎◌, inl, inr, ℕ, ℤ, pos, ◌<◌, ◌≤◌, ◌+ℤ◌, ◌*ℤ◌, ◌-ℤ◌, suc, refl, ap, sym, ◌∙◌, arith, List, length, true, false}
use Rattle.std.specs.Prelude.{unsigned_abs, neg_ℤ, Bool, ◌≤ℤ◌, if◌then◌else◌}
use Rattle.std.specs.Int.{int_rem_euclid, int_div_euclid}
use Rattle.std.proofs.lemmas.Int.{ints}
use Rattle.std.proofs.lemmas.Bool.{false≢true, cases_Bool}
use Rattle.pesp_problem.specs.declared.arc.Arc.{Arc}
use Rattle.pesp_problem.specs.Arcs.{Net, arc_at, no_arc, arc_slack}
use Rattle.pesp_problem.specs.NetTimetables.{net_cost}
use Rattle.pesp_propagate.specs.Cuts.{arc_growth, arc_moved, cut_change, AreCutsBest}
use Rattle.pesp_propagate.specs.Local.{IsLocal, IsFundamentalSide}
use Rattle.pesp_problem.specs.Roots.{Roots, AreRoots, AreTreeRows, below}
use Rattle.pesp_problem.proofs.Integers.{mul-add, mul-sub, mul-neg, sum_below-same, quotient-remainder, remainder-lt}
use Rattle.pesp_propagate.proofs.Shifting.{remainder_of, slack_shifts, cost_shifts}
use Rattle.pesp_propagate.proofs.Sides.{outside, within, parted}

-- multiples of the period don't count
laps : (period : ℕ) (y a b w : ℤ) → 0 < period → a ≡ b +ℤ pos period *ℤ w
    → unsigned_abs (int_rem_euclid (y +ℤ a) (pos period)) ≡ unsigned_abs (int_rem_euclid (y +ℤ b) (pos period))
laps period y a b w some e =
    let q = int_div_euclid (y +ℤ b) (pos period) in
    let f = quotient-remainder (y +ℤ b) period some in
    remainder_of (y +ℤ a) (q +ℤ w) period _ (remainder-lt (y +ℤ b) period some) (let m = mul-add (pos period) q w in omega (arith, ints))

abbrev part : Bool → ℕ → ℤ
part b d = if b then pos d else pos 0

flip : (d e p q : ℤ) → d ≡ e +ℤ p *ℤ q → pos 0 -ℤ d ≡ (pos 0 -ℤ e) +ℤ p *ℤ neg_ℤ q
flip d e p q k = let m = mul-neg p q in omega (arith, ints)

flip_back : (d e p q : ℤ) → neg_ℤ d ≡ e +ℤ p *ℤ q → d -ℤ pos 0 ≡ (pos 0 -ℤ e) +ℤ p *ℤ neg_ℤ q
flip_back d e p q k = let m = mul-neg p q in omega (arith, ints)

-- the growth for d from the growth for e, where they are the same around the period
alike : (period d e : ℕ) (q : ℤ) (h t : Bool) → pos d ≡ pos e +ℤ pos period *ℤ q
    → (w : ℤ) × (part h d -ℤ part t d ≡ (part h e -ℤ part t e) +ℤ pos period *ℤ w)
alike period d e q true true k = (pos 0, let m = mul-sub (pos period) q q in omega (arith, ints))
alike period d e q true false k = (q, omega (arith, ints))
alike period d e q false true k = (neg_ℤ q, flip (pos d) (pos e) (pos period) q k)
alike period d e q false false k = (pos 0, omega (arith, ints))

-- and where the sides are exchanged
opposite : (period d e : ℕ) (q : ℤ) (h t : Bool) → neg_ℤ (pos d) ≡ pos e +ℤ pos period *ℤ q → (h2 t2 : Bool)
    → h2 ≢ h → t2 ≢ t → (w : ℤ) × (part h2 d -ℤ part t2 d ≡ (part h e -ℤ part t e) +ℤ pos period *ℤ w)
opposite period d e q true true k true t2 n m = absurd (n refl)
opposite period d e q true true k false true n m = absurd (m refl)
opposite period d e q true true k false false n m = (pos 0, omega (arith, ints))
opposite period d e q true false k true t2 n m = absurd (n refl)
opposite period d e q true false k false false n m = absurd (m refl)
opposite period d e q true false k false true n m = (q, omega (arith, ints))
opposite period d e q false true k false t2 n m = absurd (n refl)
opposite period d e q false true k true true n m = absurd (m refl)
opposite period d e q false true k true false n m = (neg_ℤ q, flip_back (pos d) (pos e) (pos period) q k)
opposite period d e q false false k false t2 n m = absurd (n refl)
opposite period d e q false false k true false n m = absurd (m refl)
opposite period d e q false false k true true n m = (pos 0, omega (arith, ints))

still : (period d e : ℕ) (h t h2 t2 : Bool) → h ≡ t → h2 ≡ t2
    → (w : ℤ) × (part h2 d -ℤ part t2 d ≡ (part h e -ℤ part t e) +ℤ pos period *ℤ w)
still period d e h t h2 t2 a b = (pos 0, rw (a, b) (omega (arith, ints)))

-- how a side stands to what is below c, at the ends of a row: neither crosses, or both alike
abbrev Stands : (s h t h2 t2 : Bool) → Type 0
Stands s h t h2 t2 = ((h ≡ t) × (h2 ≡ t2)) ⊎ (((s ≡ true) × (h2 ≡ h) × (t2 ≡ t)) ⊎ ((s ≡ false) × (h2 ≢ h) × (t2 ≢ t)))

stands : (s o h t h2 t2 : Bool) → s ≢ o → (h ≡ true → h2 ≡ s) → (t ≡ true → t2 ≡ s)
    → (h ≡ true → t ≡ false → t2 ≡ o) → (h ≡ false → t ≡ true → h2 ≡ o) → (h ≡ false → t ≡ false → h2 ≡ t2)
    → Stands s h t h2 t2
stands s o true true h2 t2 n a b c d e = inl (refl, a refl ∙ sym (b refl))
stands s o false false h2 t2 n a b c d e = inl (refl, e refl refl)
stands true true true false h2 t2 n a b c d e = absurd (n refl)
stands true false true false h2 t2 n a b c d e = inr (inl (refl, a refl, c refl refl))
stands false true true false h2 t2 n a b c d e = inr (inr (refl, λ q. false≢true (sym (a refl) ∙ q), λ q. false≢true (sym q ∙ c refl refl)))
stands false false true false h2 t2 n a b c d e = absurd (n refl)
stands true true false true h2 t2 n a b c d e = absurd (n refl)
stands true false false true h2 t2 n a b c d e = inr (inl (refl, d refl refl, b refl))
stands false true false true h2 t2 n a b c d e = inr (inr (refl, λ q. false≢true (sym q ∙ d refl refl), λ q. false≢true (sym (b refl) ∙ q)))
stands false false false true h2 t2 n a b c d e = absurd (n refl)

row_stands : (n : ℕ) (arcs : List Arc) (forest : List ℕ) (r : Roots) (side : ℕ → Bool) (c i : ℕ)
    → AreRoots n arcs r → AreTreeRows n r forest → IsFundamentalSide arcs forest (r.by c) side → c < n → 0 < r.by c
    → i < length arcs
    → Stands (side c) (below r c (arc_at arcs i).head) (below r c (arc_at arcs i).tail) (side (arc_at arcs i).head)
    (side (arc_at arcs i).tail)
row_stands n arcs forest r side c i a tree f lc jc l =
    let h = (arc_at arcs i).head in let t = (arc_at arcs i).tail in
    let s = a.inside i l in let lt = s.0 in let lh = s.1 in let same = a.spans i l in
    let out : (x : ℕ) → x < n → below r c x ≡ false
    → side x ≡ side (r.root x) = λ x lx. outside (suc (r.depth x)) n arcs forest r side c x a tree f lc jc
    (omega arith) lx in
    let inn : (x : ℕ) → x < n → below r c x ≡ true
    → (side x ≡ side c) × (r.root x ≡ r.root c) =
    λ x lx. within (suc (r.depth x)) n arcs forest r side c x a tree f lc jc (omega arith) lx in
    stands (side c) (side (r.root c)) (below r c h) (below r c t) (side h) (side t) (parted n arcs forest r side c a tree f lc jc)
    (λ e. (inn h lh e).0)
    (λ e. (inn t lt e).0)
    (λ e g. out t lt g ∙ ap side (same ∙ (inn h lh e).1))
    (λ e g. out h lh e ∙ ap side (sym same ∙ (inn t lt g).1))
    (λ e g. out h lh e ∙ ap side (sym same) ∙ sym (out t lt g))

-- the amount below the period that does what the shift of the side by d does
row_moves : (period : ℕ) (times : List ℕ) (arc : Arc) (side below : ℕ → Bool) (d e : ℕ) → 0 < period
    → (w : ℤ) × (arc_growth side arc d ≡ arc_growth below arc e +ℤ pos period *ℤ w)
    → arc_moved period times side arc d ≡ arc_moved period times below arc e
row_moves period times arc side below d e some w =
    laps period (pos (arc_slack period times arc)) (arc_growth side arc d) (arc_growth below arc e) (w.0) some (w.1)

grows_straight : (period : ℕ) (s : Bool) (h t h2 t2 : Bool) (d e : ℕ) (q : ℤ) → s ≡ true
    → pos d ≡ pos e +ℤ pos period *ℤ q → Stands s h t h2 t2
    → (w : ℤ) × (part h2 d -ℤ part t2 d ≡ (part h e -ℤ part t e) +ℤ pos period *ℤ w)
grows_straight period s h t h2 t2 d e q is k st =
    elim st [
      | inl a ↦ still period d e h t h2 t2 a.0 a.1
      | inr b ↦ elim b [
        | inl a ↦ rw (a.1, a.2) (alike period d e q h t k)
        | inr a ↦ absurd (false≢true (sym (a.0) ∙ is))
      ]
    ]

grows_back : (period : ℕ) (s : Bool) (h t h2 t2 : Bool) (d e : ℕ) (q : ℤ) → s ≡ false
    → neg_ℤ (pos d) ≡ pos e +ℤ pos period *ℤ q → Stands s h t h2 t2
    → (w : ℤ) × (part h2 d -ℤ part t2 d ≡ (part h e -ℤ part t e) +ℤ pos period *ℤ w)
grows_back period s h t h2 t2 d e q is k st =
    elim st [
      | inl a ↦ still period d e h t h2 t2 a.0 a.1
      | inr b ↦ elim b [
        | inl a ↦ absurd (false≢true (sym is ∙ a.0))
        | inr a ↦ opposite period d e q h t k h2 t2 a.1 a.2
      ]
    ]

-- the shift of the side is a shift of what is below c
amount : (n : ℕ) (net : Net) (forest : List ℕ) (r : Roots) (side : ℕ → Bool) (times : List ℕ) (c d : ℕ)
    → 0 < net.period → AreRoots n net.arcs r → AreTreeRows n r forest
    → IsFundamentalSide net.arcs forest (r.by c) side → c < n → 0 < r.by c
    → (e : ℕ) × (e < net.period) × ((i : ℕ) → i < length net.arcs
    → arc_moved net.period times side (arc_at net.arcs i) d
    ≡ arc_moved net.period times (below r c) (arc_at net.arcs i) e)
amount n net forest r side times c d some a tree f lc jc =
    let period = net.period in
    let arcs = net.arcs in
    let st : (i : ℕ) → i < length arcs → Stands (side c) (below r c (arc_at arcs i).head)
    (below r c (arc_at arcs i).tail) (side (arc_at arcs i).head) (side (arc_at arcs i).tail) =
    λ i l. row_stands n arcs forest r side c i a tree f lc jc l in
    elim (cases_Bool (side c)) [
      | inl is ↦
          let z = pos d in let e = unsigned_abs (int_rem_euclid z (pos period)) in
          let k = turned z (pos period *ℤ int_div_euclid z (pos period)) (pos e) (quotient-remainder z period some) in (
            e,
            remainder-lt z period some,
            λ i l. row_moves period times (arc_at arcs i) side (below r c) d e some
                (grows_straight period (side c) (below r c (arc_at arcs i).head) (below r c (arc_at arcs i).tail)
                (side (arc_at arcs i).head) (side (arc_at arcs i).tail) d e
                (int_div_euclid z (pos period)) is k (st i l)),
          )
      | inr is ↦
          let z = neg_ℤ (pos d) in let e = unsigned_abs (int_rem_euclid z (pos period)) in
          let k = turned z (pos period *ℤ int_div_euclid z (pos period)) (pos e) (quotient-remainder z period some) in (
            e,
            remainder-lt z period some,
            λ i l. row_moves period times (arc_at arcs i) side (below r c) d e some
                (grows_back period (side c) (below r c (arc_at arcs i).head) (below r c (arc_at arcs i).tail)
                (side (arc_at arcs i).head) (side (arc_at arcs i).tail) d e
                (int_div_euclid z (pos period)) is k (st i l)),
          )
    ]
  where
    turned : (z a b : ℤ) → z ≡ a +ℤ b → z ≡ b +ℤ a
    turned z a b h = omega (arith, ints)

pub cuts_are_local : (n : ℕ) (net : Net) (forest : List ℕ) (r : Roots) (times : List ℕ) → 0 < net.period
    → length times ≡ n → AreRoots n net.arcs r → AreTreeRows n r forest → AreCutsBest n net times r
    → IsLocal net n forest times
cuts_are_local n net forest r times some len a tree best row listed side f d others shift table =
    let period = net.period in
    let arcs = net.arcs in
    let j = tree.joined row listed in
    let c = j.0 in let lc = j.1 in let jc = j.2 in let by : r.by c ≡ row = j.3 in
    let f2 : IsFundamentalSide arcs forest (r.by c) side = rw by f in
    let m = amount n net forest r side times c d some a tree f2 lc jc in
    let e = m.0 in
    let ends : (i : ℕ) → i < length arcs → ((arc_at arcs i).tail < length times)
    × ((arc_at arcs i).head < length times) = λ i l.
    (let s = a.inside i l in let lt = s.0 in let lh = s.1 in (omega arith, omega arith)) in
    let fits : (i : ℕ) → i < length arcs → arc_moved period times (below r c) (arc_at arcs i) e ≤ (arc_at arcs i).span =
    λ i l. (let g = table.slacks i no_arc l in
    let h = slack_shifts period times others side d (arc_at arcs i) some (ends i l).0 (ends i l).1 shift in
    let k = m.2 i l in omega arith) in
    let zero = best c lc jc e (m.1) fits in
    let total = cost_shifts net times others side d some ends shift in
    let change : cut_change net times side d ≡ cut_change net times (below r c) e =
    sum_below-same (length arcs) (λ i. pos (arc_at arcs i).weight
    *ℤ (pos (arc_moved period times side (arc_at arcs i) d) -ℤ pos (arc_slack period times (arc_at arcs i))))
    (λ i. pos (arc_at arcs i).weight *ℤ (pos (arc_moved period times (below r c) (arc_at arcs i) e) -ℤ pos
    (arc_slack period times (arc_at arcs i))))
    (λ i l. ap (λ (x : ℕ). pos (arc_at arcs i).weight *ℤ (pos x -ℤ pos (arc_slack period times (arc_at arcs i)))) (m.2 i l)) in
    ends_less (net_cost net others) (net_cost net times) (cut_change net times side d)
    (cut_change net times (below r c) e) total change zero
  where
    ends_less : (x y : ℕ) (a b : ℤ) → pos x -ℤ pos y ≡ a → a ≡ b → pos 0 ≤ℤ b → y ≤ x
    ends_less x y a b h k l = omega (arith, ints)
