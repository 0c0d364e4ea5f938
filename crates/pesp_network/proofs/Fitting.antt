-- Times that fit the forest, event by event.
use Rattle.std.proofs.Common.{◌≡◌, ◌≢◌, ℕ, ◌+◌, ◌-◌, ◌<◌, ◌≤◌, inl, inr, refl, sym, ◌∙◌, ap, arith, subst, List, [], ◌∷◌, length, vec_len, set, get_or, All, true, ℤ, pos, negsuc, neg_ℤ, ◌+ℤ◌, ◌-ℤ◌, ◌*ℤ◌, false, Bool, get_or-set_same, get_or-set_other}
use Rattle.std.proofs.lemmas.Bool.{cases_eq, cases_lt}
use Rattle.std.proofs.lemmas.Int.{ints}
use Rattle.std.proofs.lemmas.List.{get_or_read}
use Rattle.std.proofs.lemmas.List.Elements.{All-weaker, All-contains}
use Rattle.std.specs.Prelude.{slice_index, slice_index_or, unsigned_abs, if◌then◌else◌, Contains}
use Rattle.std.specs.Int.{int_rem_euclid}
use Rattle.pesp_problem.specs.declared.row.SignedRow.{SignedRow}
use Rattle.pesp_problem.specs.declared.arc.Arc.{Arc}
use Rattle.pesp_problem.specs.Arcs.{Net, arc_at, arc_slack, tail_of, head_of}
use Rattle.pesp_problem.specs.Walks.{Names, IsWalk, Leads, HasWholeOffset}
use Rattle.pesp_problem.specs.Forests.{KeepsTo}
use Rattle.pesp_problem.specs.Congruences.{IsSame}
use Rattle.pesp_problem.proofs.Walks.{sum_along, net_count_sum}
use Rattle.pesp_network.specs.declared.parts.Forest.{Forest}
use Rattle.pesp_network.specs.declared.row.NetRow.{NetRow}
use Rattle.pesp_network.specs.Networks.{HasOpenRow, arcs_of_network, arc_of_net, no_net_row}
use Rattle.pesp_network.specs.Growing.{at}
use Rattle.pesp_network.specs.Rooted.{IsForest, IsTreeRow, AreTreeRows}
use Rattle.pesp_network.specs.Ways.{walk_of}
use Rattle.pesp_network.specs.Times.{IsMultiple, duration, duration_of, FitsForest, OpensRow, AreSlacks}
use Rattle.pesp_network.proofs.Places.{count, arc_is, lower_at, tail_at}
use Rattle.pesp_problem.proofs.Ways.{leads_to, closed}
use Rattle.pesp_problem.proofs.Congruences.{same_rem}
use Rattle.pesp_network.proofs.Timing.{FitsRow, closes_row}
use Rattle.pesp_network.proofs.Tables.{not_listed, fundamental}

-- the slack of a row at times, as a whole number
abbrev pub slack_of : ℕ → List Arc → List ℕ → ℕ → ℤ
slack_of p arcs times k = int_rem_euclid ((pos (at times (head_of arcs k)) -ℤ pos (at times (tail_of arcs k))) -ℤ
    (arc_at arcs (k - 1)).lower) (pos p)

moved : (p : ℕ) (a b d : ℤ) → b ≡ a → IsSame p a d → IsSame p b d
moved p a b d e s = let P : ℤ → Type 0 = λ z. IsSame p z d in subst P (sym e) s

pub fits_none : (n p : ℕ) (arcs : List Arc) (g : Forest) (slacks times : List ℕ) → IsForest n arcs g → FitsForest p arcs g slacks times 0
fits_none n p arcs g slacks times f x b h = absurd (let c = f.grown.climbs x b in omega arith)

the_one : (n : ℕ) (arcs : List Arc) (g : Forest) (i e x : ℕ) → IsForest n arcs g → e ≡ at g.order.items i
    → i < at g.place.items x → at g.place.items x ≤ i + 1 → x ≡ e
the_one n arcs g i e x f q h w = let r = f.grown.place_at x (omega arith) in
    let c : at g.place.items x - 1 ≡ i = omega arith in let d = ap (at g.order.items) c in omega arith

pub fits_root : (n p : ℕ) (arcs : List Arc) (g : Forest) (slacks times : List ℕ) (i e : ℕ) → IsForest n arcs g
    → FitsForest p arcs g slacks times i → e ≡ at g.order.items i → at g.by.items e ≡ 0
    → FitsForest p arcs g slacks times (i + 1)
fits_root n p arcs g slacks times i e f o q z x b h = elim (cases_lt i (at g.place.items x)) [
  | inl w ↦ absurd (let u = the_one n arcs g i e x f q w h in let k = ap (at g.by.items) u in omega arith)
  | inr w ↦ o x b w
]

pub fits_more : (n p : ℕ) (arcs : List Arc) (g : Forest) (slacks times : List ℕ) (i e v : ℕ) → IsForest n arcs g
    → FitsForest p arcs g slacks times i → i < vec_len g.order → e ≡ at g.order.items i → 0 < at g.by.items e
    → e < length times
    → (tail_of arcs (at g.by.items e) ≡ at g.up.items e
    → IsSame p (pos v -ℤ pos (at times (at g.up.items e))) (duration arcs slacks (at g.by.items e)))
    → (tail_of arcs (at g.by.items e) ≢ at g.up.items e
    → IsSame p (pos (at times (at g.up.items e)) -ℤ pos v) (duration arcs slacks (at g.by.items e)))
    → FitsForest p arcs g slacks (set times e v) (i + 1)
fits_more n p arcs g slacks times i e v f o lt q be le as_head as_tail x b h =
    let place : at g.place.items e ≡ i + 1 = ap (at g.place.items) q ∙ f.grown.order_at i lt in
    let t2 = set times e v in
    let same : (y : ℕ) → y ≢ e → at t2 y ≡ at times y = λ y ne. get_or-set_other times e y v 0 ne in
    let here : at t2 e ≡ v = get_or-set_same times e v 0 le in
    elim (cases_lt i (at g.place.items x)) [
      | inl w ↦
          let u = the_one n arcs g i e x f q w h in
          let c = f.grown.climbs e be in
          let other : at g.up.items e ≢ e = λ z. let k = ap (at g.place.items) z in omega arith in
          let su = same (at g.up.items e) other in
          let P : ℕ → Type 0 = λ z. IsSame p (pos (at t2 (head_of arcs (at g.by.items z))) -ℤ pos
          (at t2 (tail_of arcs (at g.by.items z)))) (duration arcs slacks (at g.by.items z)) in
          subst P (sym u) (elim (f.grown.by_ends e be) [
            | inl m ↦ let a1 = ap (at t2) m.0 in let a2 = ap (at t2) m.1 in
                moved p _ _ _ (omega (arith, ints)) (as_tail (λ z. other (sym z ∙ m.0)))
            | inr m ↦ let a1 = ap (at t2) m.0 in let a2 = ap (at t2) m.1 in moved p _ _ _ (omega (arith, ints)) (as_head m.1)
          ])
      | inr w ↦
          let c = f.grown.climbs x b in
          let nx : x ≢ e = λ z. let k = ap (at g.place.items) z in omega arith in
          let nu : at g.up.items x ≢ e = λ z. let k = ap (at g.place.items) z in omega arith in
          let sx = same x nx in let su = same (at g.up.items x) nu in
          moved p _ _ _ (elim (f.grown.by_ends x b) [
            | inl m ↦ let a1 = ap (at t2) m.0 in let a2 = ap (at t2) m.1 in let b1 = ap (at times) m.0 in
                let b2 = ap (at times) m.1 in omega (arith, ints)
            | inr m ↦ let a1 = ap (at t2) m.0 in let a2 = ap (at t2) m.1 in let b1 = ap (at times) m.0 in
                let b2 = ap (at times) m.1 in omega (arith, ints)
          ]) (o x b w)
    ]

pub less_more : (p : ℕ) (times : List ℕ) (e v : ℕ) → v < p → e < length times → ((x : ℕ) → at times x < p)
    → (x : ℕ) → at (set times e v) x < p
less_more p times e v l le o x = elim (cases_eq x e) [
  | inl q ↦ let a = ap (at (set times e v)) q in let b = get_or-set_same times e v 0 le in omega arith
  | inr ne ↦ let a = get_or-set_other times e x v 0 ne in let b = o x in omega arith
]

tree_back : (g : Forest) (n : ℕ) (rows : List ℕ) (way : List SignedRow) → AreTreeRows n g rows → KeepsTo rows way
    → All (λ (s : SignedRow). IsTreeRow g s.row) way
tree_back g n rows way t h = All-weaker (λ (s : SignedRow). Contains rows s.row)
    (λ (s : SignedRow). IsTreeRow g s.row) (λ s c. All-contains (IsTreeRow g) rows s.row t.tree c) way h

tree_fits : (n p : ℕ) (arcs : List Arc) (g : Forest) (slacks times : List ℕ) → IsForest n arcs g
    → FitsForest p arcs g slacks times (vec_len g.order) → (s : SignedRow) → IsTreeRow g s.row
    → FitsRow p arcs (duration arcs slacks) (at times) s
tree_fits n p arcs g slacks times f o s t = let P : ℕ
    → Type 0 = λ k. IsSame p (pos (at times (head_of arcs k)) -ℤ pos (at times (tail_of arcs k)))
    (duration arcs slacks k) in subst P t.2 (o t.0 t.1 (f.grown.places t.0))

-- the lower bound and the slack of a row, by its place
abbrev pub duration_at : List Arc → List ℕ → ℕ → ℤ
duration_at arcs slacks i = (arc_at arcs i).lower +ℤ pos (slice_index slacks i)

signed_is : (b : Bool) (d : ℤ) → (if b then pos 1 else negsuc 0) *ℤ d ≡ (if b then d else neg_ℤ d)
signed_is true d = omega (arith, ints)
signed_is false d = omega (arith, ints)

along_is : (arcs : List Arc) (slacks : List ℕ) (way : List SignedRow)
    → sum_along way (duration_at arcs slacks) ≡ duration_of (duration arcs slacks) way
along_is arcs slacks [] = refl
along_is arcs slacks (s ∷ way) = let a = signed_is s.plus (duration arcs slacks s.row) in
    let b = along_is arcs slacks way in omega (arith, ints)

-- a whole offset along a walk
whole_is : (n : Net) (slacks : List ℕ) (walk : List SignedRow) → IsWalk n.arcs walk
    → HasWholeOffset n (slice_index slacks) walk → IsMultiple n.period (duration_of (duration n.arcs slacks) walk)
whole_is n slacks walk w h = (
  h.0,
  sym (along_is n.arcs slacks walk)
      ∙ sym (net_count_sum n.arcs walk (duration_at n.arcs slacks) (closed n.arcs walk w).rows) ∙ h.1,
)

-- the slack of a row that closes a way in times that fit the forest
pub closes : (n p : ℕ) (arcs : List Arc) (g : Forest) (slacks times : List ℕ) (k : ℕ) (walk : List SignedRow)
    → IsForest n arcs g → FitsForest p arcs g slacks times (vec_len g.order) → slice_index slacks (k - 1) < p
    → IsWalk arcs walk → (rest : List SignedRow) → walk ≡ record { row = k; plus = true } ∷ rest
    → All (λ (s : SignedRow). IsTreeRow g s.row) rest
    → HasWholeOffset (record { period = p; arcs = arcs }) (slice_index slacks) walk
    → slack_of p arcs times k ≡ pos (slice_index slacks (k - 1))
closes n p arcs g slacks times k walk f o y w rest e tree offset =
    let c = closed arcs walk w in
    let whole = whole_is (record { period = p; arcs = arcs }) slacks walk w offset in
    let P : List SignedRow → Type 0 = λ x. Leads arcs c.event x c.event in
    let l = subst P e c.closes in
    let Q : List SignedRow → Type 0 = λ x. IsMultiple p (duration_of (duration arcs slacks) x) in
    closes_row p arcs (duration arcs slacks) (at times) k (slice_index slacks (k - 1)) (arc_at arcs (k - 1)).lower rest y refl
    (leads_to arcs (head_of arcs k) c.event (tail_of arcs k) rest (sym l.0) l.1)
    (All-weaker (λ (x : SignedRow). IsTreeRow g x.row) (FitsRow p arcs (duration arcs slacks) (at times))
    (tree_fits n p arcs g slacks times f o) rest tree)
    (subst Q e whole)

pub fits_all : (p : ℕ) (arcs : List Arc) (g : Forest) (slacks times : List ℕ) (i m : ℕ) → m ≤ i
    → FitsForest p arcs g slacks times i → FitsForest p arcs g slacks times m
fits_all p arcs g slacks times i m le o x b h = o x b (omega arith)

pub fits_view : (n p : ℕ) (arcs : List Arc) (g : Forest) (slacks times view : List ℕ) (i e v : ℕ)
    → IsForest n arcs g → FitsForest p arcs g slacks times i → i < vec_len g.order → e ≡ at g.order.items i
    → 0 < at g.by.items e → e < length times → view ≡ times
    → (tail_of arcs (at g.by.items e) ≡ at g.up.items e
    → IsSame p (pos v -ℤ pos (at view (at g.up.items e))) (duration arcs slacks (at g.by.items e)))
    → (tail_of arcs (at g.by.items e) ≢ at g.up.items e
    → IsSame p (pos (at view (at g.up.items e)) -ℤ pos v) (duration arcs slacks (at g.by.items e)))
    → FitsForest p arcs g slacks (set times e v) (i + 1)
fits_view n p arcs g slacks times view i e v f o lt q be le same as_head as_tail =
    let w = ap (λ l. at l (at g.up.items e)) same in
    fits_more n p arcs g slacks times i e v f o lt q be le
    (λ z. moved p (pos v -ℤ pos (at view (at g.up.items e))) _ _ (omega (arith, ints)) (as_head z))
    (λ z. moved p (pos (at view (at g.up.items e)) -ℤ pos v) _ _ (omega (arith, ints)) (as_tail z))

-- a tree row has its slack
pub tree_slack : (n p : ℕ) (arcs : List Arc) (g : Forest) (slacks times : List ℕ) (k : ℕ) → IsForest n arcs g
    → FitsForest p arcs g slacks times (vec_len g.order) → slice_index slacks (k - 1) < p → IsTreeRow g k
    → slack_of p arcs times k ≡ pos (slice_index slacks (k - 1))
tree_slack n p arcs g slacks times k f o y t =
    let fits = tree_fits n p arcs g slacks times f o (record { row = k; plus = true }) t in
    let e = fits.even in
    same_rem p (slice_index slacks (k - 1)) _ y (record { more = fits.more; less = fits.less; even = omega (arith, ints) })

-- what a slack is, as a number
pub slack_is : (p : ℕ) (arcs : List Arc) (times : List ℕ) (k v : ℕ) → slack_of p arcs times k ≡ pos v
    → arc_slack p times (arc_at arcs (k - 1)) ≡ v
slack_is p arcs times k v e = ap unsigned_abs e

-- a row that hasn't its slack
pub open_row : (n p : ℕ) (arcs : List Arc) (g : Forest) (rows slacks times : List ℕ) (k : ℕ) → IsForest n arcs g
    → AreTreeRows n g rows → FitsForest p arcs g slacks times (vec_len g.order) → Names (length arcs) k
    → slice_index slacks (k - 1) < p
    → (arc_slack p times (arc_at arcs (k - 1)) ≡ slice_index slacks (k - 1) → ⊥)
    → HasOpenRow (record { period = p; arcs = arcs }) rows (slice_index slacks)
open_row n p arcs g rows slacks times k f t o names y ne =
    let ok = λ (e : slack_of p arcs times k ≡ pos (slice_index slacks (k - 1))).
    ne (slack_is p arcs times k (slice_index slacks (k - 1)) e) in
    record {
      row = k;
      exists = names;
      outside = not_listed g n rows k t (λ tree. ok (tree_slack n p arcs g slacks times k f o y tree));
      walk = walk_of arcs g k;
      fundamental = fundamental n arcs g rows k f t names;
      open_each = λ other is whole. ok (closes n p arcs g slacks times k other f o y is.closes is.back is.begins
          (tree_back g n rows is.back t is.keeps) whole);
    }

-- what the code reads of a row is its arc
pub lower_small : (rows : List NetRow) (i : ℕ) → i < length rows
    → ((j : ℕ) → unsigned_abs (arc_at (arcs_of_network rows) j).lower ≤ 1020000)
    → unsigned_abs (slice_index_or rows i no_net_row).lower ≤ 1020000
lower_small rows i h small = let a = small i in let e = ap unsigned_abs (lower_at rows i h) in omega arith

pub duration_read : (rows : List NetRow) (slacks : List ℕ) (k j slack : ℕ) → Names (length rows) k → j ≡ k
    → slack ≡ slice_index slacks (j - 1) → duration (arcs_of_network rows) slacks k
    ≡ (slice_index_or rows (j - 1) no_net_row).lower +ℤ pos slack
duration_read rows slacks k j slack names e q =
    let n0 = names.0 in let n1 = names.1 in
    let l = lower_at rows (j - 1) (omega arith) in
    let a = ap (λ i. (arc_at (arcs_of_network rows) (i - 1)).lower) e in
    let b = ap (λ i. pos (slice_index slacks (i - 1))) e in
    let d = ap pos q in
    omega (arith, ints)

pub same_both : (p : ℕ) (a b c d : ℤ) → b ≡ a → d ≡ c → IsSame p a c → IsSame p b d
same_both p a b c d e q s = let P : ℤ → Type 0 = λ z. IsSame p z c in let Q : ℤ → Type 0 = λ z. IsSame p b z in
    subst Q (sym q) (subst P (sym e) s)

pub slack_read : (period : ℕ) (rows : List NetRow) (times : List ℕ) (i v : ℕ) → i < length rows
    → v ≡ arc_slack period times (arc_of_net (slice_index_or rows i no_net_row))
    → v ≡ arc_slack period times (arc_at (arcs_of_network rows) i)
slack_read period rows times i v lt here = here ∙ ap (arc_slack period times) (sym (arc_is rows i no_net_row lt))

pub slack_more : (period : ℕ) (rows : List NetRow) (slacks times : List ℕ) (i v : ℕ) → i < length rows
    → ((j : ℕ) → j < i → arc_slack period times (arc_at (arcs_of_network rows) j) ≡ slice_index slacks j)
    → v ≡ arc_slack period times (arc_of_net (slice_index_or rows i no_net_row)) → v ≡ slice_index slacks i
    → (j : ℕ) → j < i + 1 → arc_slack period times (arc_at (arcs_of_network rows) j) ≡ slice_index slacks j
slack_more period rows slacks times i v lt before here ok j h = elim (cases_lt j i) [
  | inl w ↦ before j w
  | inr w ↦
      let e : i ≡ j = omega arith in
      let P : ℕ → Type 0 = λ x. arc_slack period times (arc_at (arcs_of_network rows) x) ≡ slice_index slacks x in
      subst P e (sym (slack_read period rows times i v lt here) ∙ ok)
]

-- a row that hasn't its slack is open
pub opens_row : (n p : ℕ) (rows : List NetRow) (g : Forest) (slacks times : List ℕ) (i : ℕ)
    → IsForest n (arcs_of_network rows) g → FitsForest p (arcs_of_network rows) g slacks times (vec_len g.order)
    → i < length rows → slice_index slacks i < p
    → arc_slack p times (arc_at (arcs_of_network rows) i) ≢ slice_index slacks i → OpensRow p n (arcs_of_network rows) g slacks
opens_row n p rows g slacks times i f o lt y ne kept t =
    let z : i + 1 - 1 ≡ i = omega arith in
    let c = count rows in
    let a = ap (slice_index slacks) z in
    let b = ap (λ j. arc_slack p times (arc_at (arcs_of_network rows) j)) z in
    open_row n p (arcs_of_network rows) g kept slacks times (i + 1) f t o (omega arith, omega arith) (omega arith) (λ e. ne (omega arith))

-- what is read at an event that is joined upwards: the row b, and the event u above
pub record ReadsUp (p : ℕ) (rows : List NetRow) (g : Forest) (slacks : List ℕ) (event b u : ℕ) : Type 0 where
  pub by_is : b ≡ at g.by.items event
  pub up_is : u ≡ at g.up.items event
  pub tail : (slice_index_or rows (b - 1) no_net_row).tail ≡ tail_of (arcs_of_network rows) (at g.by.items event)
  pub lower : unsigned_abs (slice_index_or rows (b - 1) no_net_row).lower ≤ 1020000
  pub small : slice_index slacks (b - 1) < p
  pub lasts : duration (arcs_of_network rows) slacks (at g.by.items event)
      ≡ (slice_index_or rows (b - 1) no_net_row).lower +ℤ pos (slice_index slacks (b - 1))

pub reads_up : (n p : ℕ) (rows : List NetRow) (g : Forest) (slacks : List ℕ) (event b u : ℕ)
    → IsForest n (arcs_of_network rows) g → AreSlacks p (arcs_of_network rows) slacks → event < n
    → 0 < at g.by.items event
    → b ≡ get_or g.by.items event b → u ≡ get_or g.up.items event u → ReadsUp p rows g slacks event b u
reads_up n p rows g slacks event b u f a l j eb eu =
    let s = g.sized in let v = f.events in let k = g.by.ok.0 in let m = g.up.ok.0 in
    let qb = get_or_read g.by.items event b (omega arith) eb 0 in
    let qu = get_or_read g.up.items event u (omega arith) eu 0 in
    let most = f.grown.by_row event in let c = count rows in let d = a.count in
    let names : Names (length rows) b = (omega arith, omega arith) in
    let there : Names (length rows) (at g.by.items event) = (omega arith, omega arith) in
    record {
      by_is = qb;
      up_is = qu;
      tail = tail_at rows b names ∙ ap (tail_of (arcs_of_network rows)) qb;
      lower = lower_small rows (b - 1) (omega arith) a.lowers;
      small = a.small (b - 1) (omega arith);
      lasts = duration_read rows slacks (at g.by.items event) b (slice_index slacks (b - 1)) there qb refl;
    }
