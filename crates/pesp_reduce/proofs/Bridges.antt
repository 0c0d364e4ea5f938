-- Walks without bridges.
use Rattle.std.proofs.Common.{◌≡◌, ◌≢◌, ℕ, zero, suc, ◌+◌, ◌-◌, ◌<◌, ◌≤◌, ◌⊎◌, inl, inr, refl, sym, ◌∙◌, ap, arith, subst, List, [], ◌∷◌, ◌++◌, length, true, false, Bool, All, pos, negsuc}
use Rattle.std.specs.Prelude.{if◌then◌else◌}
use Rattle.std.proofs.lemmas.Int.{ints}
use Rattle.std.proofs.lemmas.Bool.{cases_Bool, cases_eq}
use Rattle.std.proofs.lemmas.List.{append_assoc, append-nil, length-append, get_or_append_left}
use Rattle.std.proofs.lemmas.List.Elements.{All-cons, All-nil, All-head, All-tail, All-append, All-push}
use Rattle.pesp_problem.specs.declared.arc.Arc.{Arc}
use Rattle.pesp_problem.specs.declared.row.SignedRow.{SignedRow}
use Rattle.pesp_problem.specs.Arcs.{arc_at}
use Rattle.pesp_problem.specs.Walks.{RowExists, AreRows, Leads, start, finish, sign, net_count}
use Rattle.pesp_problem.specs.Forests.{IsBridge}
use Rattle.pesp_problem.proofs.Walks.{net_count-cons, step_same, step_other}
use Rattle.pesp_problem.proofs.Ways.{leads_append, net_count-append}
use Rattle.pesp_reduce.proofs.Trees.{loop_stays}

pub absent : (i : ℕ) (way : List SignedRow) → All (λ s. s.row ≢ i + 1) way → net_count way i ≡ pos 0
absent i [] h = refl
absent i (s ∷ way) h =
    let Q : SignedRow → Type 0 = λ x. x.row ≢ i + 1 in
    omega (arith, ints, net_count-cons s way i, step_other s i (All-head Q s way h), absent i way (All-tail Q s way h))

-- where a way along v and then w passes between the two
pub record Splits (arcs : List Arc) (a : ℕ) (v w : List SignedRow) (c : ℕ) : Type 0 where
  pub mid : ℕ
  pub first : Leads arcs a v mid
  pub second : Leads arcs mid w c

pub leads_split : (arcs : List Arc) (v w : List SignedRow) (a c : ℕ) → Leads arcs a (v ++ w) c → Splits arcs a v w c
leads_split arcs [] w a c h = record { mid = a; first = refl; second = h }
leads_split arcs (s ∷ v) w a c h = let r = leads_split arcs v w (finish arcs s) c h.1 in
    record { mid = r.mid; first = (h.0, r.first); second = r.second }

-- the first pass of a row
pub record FirstPass (k : ℕ) (way : List SignedRow) : Type 0 where
  pub before : List SignedRow
  pub pass : SignedRow
  pub after : List SignedRow
  pub is : way ≡ before ++ pass ∷ after
  pub none : All (λ s. s.row ≢ k) before
  pub row : pass.row ≡ k

pub first_pass : (k : ℕ) (way : List SignedRow) → All (λ s. s.row ≢ k) way ⊎ FirstPass k way
first_pass k [] = inl (All-nil (λ (s : SignedRow). s.row ≢ k))
first_pass k (s ∷ way) =
    let Q : SignedRow → Type 0 = λ x. x.row ≢ k in
    elim (cases_eq s.row k) [
      | inl e ↦ inr (record { before = []; pass = s; after = way; is = refl; none = All-nil Q; row = e })
      | inr ne ↦
          elim (first_pass k way) [
            | inl h ↦ inl (All-cons Q s way ne h)
            | inr f ↦ inr (record {
              before = s ∷ f.before;
              pass = f.pass;
              after = f.after;
              is = ap (λ w. s ∷ w) f.is;
              none = All-cons Q s f.before ne f.none;
              row = f.row;
            })
          ]
    ]

-- a closed way passes a bridge as often one way as the other
pub bridge_counts : (arcs : List Arc) (k a : ℕ) (way : List SignedRow) → IsBridge arcs k → AreRows arcs way
    → Leads arcs a way a → net_count way (k - 1) ≡ pos 0
bridge_counts arcs k a [] b r h = refl
bridge_counts arcs k a (s ∷ way) b r h = b (s ∷ way) (r, subst (λ x. Leads arcs x (s ∷ way) x) (sym h.0) h)

sign_is : (b : Bool) → (if b then pos 1 else negsuc 0) ≡ pos 0 → ⊥
sign_is true e = cc
sign_is false e = cc

sign_some : (s : SignedRow) → sign s ≡ pos 0 → ⊥
sign_some s e = sign_is s.plus e

abbrev IsKeptWay : (ℕ → Bool) → List SignedRow → Type 0
IsKeptWay kept way = All (λ s. kept (s.row - 1) ≡ true) way

-- each row is kept, or a loop, or a bridge
pub record IsSorted (arcs : List Arc) (kept : ℕ → Bool) : Type 0 where
  pub each : (i : ℕ) → i < length arcs → kept i ≡ false → ((arc_at arcs i).tail ≡ (arc_at arcs i).head) ⊎ IsBridge arcs (i + 1)

place_is : (i : ℕ) → (i + 1) - 1 ≡ i
place_is i = omega arith

All-left : {X : Type 0} (P : X → Type 0) (xs ys : List X) → All P (xs ++ ys) → All P xs
All-left P xs ys h = λ k d l. subst P (get_or_append_left xs ys d k l) (h k d (omega (arith, length-append xs ys)))

All-right : {X : Type 0} (P : X → Type 0) (xs ys : List X) → All P (xs ++ ys) → All P ys
All-right P [] ys h = h
All-right P (x ∷ xs) ys h = All-right P xs ys (All-tail P x (xs ++ ys) h)

not_kept_elsewhere : (kept : ℕ → Bool) (i : ℕ) (way : List SignedRow) (arcs : List Arc) → kept i ≡ false
    → AreRows arcs way → IsKeptWay kept way → All (λ s. s.row ≢ i + 1) way
not_kept_elsewhere kept i way arcs n r k = λ j d l e.
    let t = k j d l in
    let x = r j d l in
    let at = ap (λ m. kept (m - 1)) e in
    let back : kept ((i + 1) - 1) ≡ false = ap kept (place_is i) ∙ n in
    cc

other_row : (kept : ℕ → Bool) (i k : ℕ) → kept i ≡ true → 1 ≤ k → kept (k - 1) ≡ false → k ≢ i + 1
other_row kept i k t h f e =
    let at = ap (λ m. kept (m - 1)) e in
    let back : kept ((i + 1) - 1) ≡ true = ap kept (place_is i) ∙ t in
    cc

same_side : (arcs : List Arc) (s r : SignedRow) → r.row ≡ s.row → r.plus ≡ s.plus → start arcs r ≡ start arcs s
same_side arcs s r e p = ap (λ k. if r.plus then (arc_at arcs (k - 1)).tail else (arc_at arcs (k - 1)).head) e
    ∙ ap (λ (b : Bool). if b then (arc_at arcs (s.row - 1)).tail else (arc_at arcs (s.row - 1)).head) p

crossing : (b c : Bool) (x y : ℕ) → (c ≡ b → ⊥)
    → ((if c then x else y) ≡ (if b then y else x)) × ((if c then y else x) ≡ (if b then x else y))
crossing true true x y n = absurd (n refl)
crossing true false x y n = (refl, refl)
crossing false true x y n = (refl, refl)
crossing false false x y n = absurd (n refl)

other_side : (arcs : List Arc) (s r : SignedRow) → r.row ≡ s.row → (r.plus ≡ s.plus → ⊥)
    → (start arcs r ≡ finish arcs s) × (finish arcs r ≡ start arcs s)
other_side arcs s r e p =
    let arc = arc_at arcs (s.row - 1) in
    let x = crossing s.plus r.plus arc.tail arc.head p in (
      ap (λ k. if r.plus then (arc_at arcs (k - 1)).tail else (arc_at arcs (k - 1)).head) e ∙ x.0,
      ap (λ k. if r.plus then (arc_at arcs (k - 1)).head else (arc_at arcs (k - 1)).tail) e ∙ x.1,
    )

same_or_not : (b c : Bool) → (c ≡ b) ⊎ (c ≡ b → ⊥)
same_or_not true true = inl refl
same_or_not true false = inr (λ e. cc)
same_or_not false true = inr (λ e. cc)
same_or_not false false = inl refl

-- closed ways along kept rows alone
abbrev pub KeptCount : List Arc → (ℕ → Bool) → ℕ → Type 0
KeptCount arcs kept i = (way : List SignedRow) (a : ℕ) → AreRows arcs way → Leads arcs a way a → IsKeptWay kept way
    → net_count way i ≡ pos 0

lone_pass : (arcs : List Arc) (a k : ℕ) (s : SignedRow) (v w : List SignedRow) → IsBridge arcs k → s.row ≡ k
    → 1 ≤ k → AreRows arcs (v ++ s ∷ w) → Leads arcs a (v ++ s ∷ w) a → All (λ x. x.row ≢ k) v
    → All (λ x. x.row ≢ k) w → ⊥
lone_pass arcs a k s v w b e h r l nv nw =
    let zero = bridge_counts arcs k a (v ++ s ∷ w) b r l in
    let back : (k - 1) + 1 ≡ k = omega arith in
    let none_v = absent (k - 1) v (subst (λ m. All (λ x. x.row ≢ m) v) (sym back) nv) in
    let none_w = absent (k - 1) w (subst (λ m. All (λ x. x.row ≢ m) w) (sym back) nw) in
    let one = step_same s (k - 1) (e ∙ sym back) in
    let parts = net_count-append v (s ∷ w) (k - 1) in
    let first = net_count-cons s w (k - 1) in
    sign_some s (omega (arith, ints, zero, none_v, none_w, one, parts, first))

-- where no closed way along kept rows alone passes a kept row more often one way than the other, no closed way does
pub without_bridges : (arcs : List Arc) (kept : ℕ → Bool) (i : ℕ) → IsSorted arcs kept → kept i ≡ true
    → KeptCount arcs kept i → (m : ℕ) (done rest : List SignedRow) (a : ℕ) → length rest ≤ m → AreRows arcs done
    → AreRows arcs rest → IsKeptWay kept done → Leads arcs a (done ++ rest) a → net_count (done ++ rest) i ≡ pos 0
without_bridges arcs kept i sorted t base m done [] a h rd rr k l =
    subst (λ w. net_count w i ≡ pos 0) (sym (append-nil done)) (base done a rd (subst (λ w. Leads arcs a w a) (append-nil done) l) k)
without_bridges arcs kept i sorted t base zero done (s ∷ rest) a h rd rr k l = absurd (omega arith)
without_bridges arcs kept i sorted t base (suc m) done (s ∷ rest) a h rd rr k l =
    let E = RowExists arcs in
    let x = All-head E s rest rr in
    let rest_rows = All-tail E s rest rr in
    let K : SignedRow → Type 0 = λ y. kept (y.row - 1) ≡ true in
    let short : length rest ≤ m = omega arith in
    elim (cases_Bool (kept (s.row - 1))) [
      | inl e ↦
          let joined = append_assoc done (s ∷ []) rest in
          let all = without_bridges arcs kept i sorted t base m (done ++ s ∷ []) rest a short
          (All-push E done s rd x) rest_rows (All-push K done s k e)
          (subst (λ w. Leads arcs a w a) (sym joined) l) in
          subst (λ w. net_count w i ≡ pos 0) joined all
      | inr f ↦
          let row = s.row in
          let back : (row - 1) + 1 ≡ row = omega (arith, x) in
          let other = step_other s i (other_row kept i row t x.0 f) in
          let parts = net_count-append done (s ∷ rest) i in
          let first = net_count-cons s rest i in
          let cut = leads_split arcs done (s ∷ rest) a a l in
          elim (sorted.each (row - 1) (omega (arith, x)) f) [
            | inl loop ↦
                let stays = loop_stays arcs s loop in
                let on : Leads arcs cut.mid rest a = subst (λ y. Leads arcs y rest a) (sym stays ∙ cut.second.0) cut.second.1 in
                let less = without_bridges arcs kept i sorted t base m done rest a short rd rest_rows k
                (leads_append arcs done rest a cut.mid a cut.first on) in
                let fewer = net_count-append done rest i in
                omega (arith, ints, less, fewer, parts, first, other)
            | inr b ↦
                let bridge : IsBridge arcs row = subst (λ y. IsBridge arcs y) back b in
                let outside : All (λ y. y.row ≢ row) done =
                subst (λ n. All (λ y. y.row ≢ n) done) back
                (not_kept_elsewhere kept (row - 1) done arcs f rd k) in
                elim (first_pass row rest) [
                  | inl none ↦ absurd (lone_pass arcs a row s done rest bridge refl x.0 (All-append E done (s ∷ rest) rd rr) l outside none)
                  | inr p ↦
                      let rest_is = p.is in
                      let r2 : AreRows arcs (p.before ++ p.pass ∷ p.after) = subst (λ w. AreRows arcs w) rest_is rest_rows in
                      let l2 : Leads arcs (finish arcs s) (p.before ++ p.pass ∷ p.after) a =
                      subst (λ w. Leads arcs (finish arcs s) w a) rest_is cut.second.1 in
                      let turn = leads_split arcs p.before (p.pass ∷ p.after) (finish arcs s) a l2 in
                      let rows_before : AreRows arcs p.before = All-left E p.before (p.pass ∷ p.after) r2 in
                      let rows_after : AreRows arcs p.after = All-tail E p.pass p.after (All-right E p.before (p.pass ∷ p.after) r2) in
                      elim (same_or_not s.plus p.pass.plus) [
                        | inl e ↦
                            let closed : Leads arcs (start arcs s) (s ∷ p.before) (start arcs s) = (
                              refl,
                              subst (λ y. Leads arcs (finish arcs s) p.before y)
                                  (sym turn.second.0 ∙ same_side arcs s p.pass p.row e) turn.first,
                            ) in
                            absurd (lone_pass arcs (start arcs s) row s [] p.before bridge refl x.0
                            (All-cons E s p.before x rows_before) closed
                            (All-nil (λ (y : SignedRow). y.row ≢ row)) p.none)
                        | inr ne ↦
                            let sides = other_side arcs s p.pass p.row ne in
                            let sizes = ap length rest_is in
                            let sum = length-append p.before (p.pass ∷ p.after) in
                            let closed : Leads arcs (finish arcs s) p.before (finish arcs s) =
                            subst (λ y. Leads arcs (finish arcs s) p.before y)
                            (sym turn.second.0 ∙ sides.0) turn.first in
                            let inner = without_bridges arcs kept i sorted t base m [] p.before (finish arcs s)
                            (omega (arith, sizes, sum)) (All-nil E) rows_before (All-nil K) closed in
                            let on : Leads arcs cut.mid p.after a =
                            subst (λ y. Leads arcs y p.after a) (sides.1 ∙ cut.second.0) turn.second.1 in
                            let outer = without_bridges arcs kept i sorted t base m done p.after a
                            (omega (arith, sizes, sum)) rd rows_after k
                            (leads_append arcs done p.after a cut.mid a cut.first on) in
                            let outer_parts = net_count-append done p.after i in
                            let rest_net = ap (λ w. net_count w i) rest_is ∙ net_count-append p.before (p.pass ∷ p.after) i in
                            let pass_net = net_count-cons p.pass p.after i in
                            let pass_other = step_other p.pass i (λ q. other_row kept i row t x.0 f (sym p.row ∙ q)) in
                            omega (arith, ints, parts, first, other, inner, outer, outer_parts, rest_net, pass_net, pass_other)
                      ]
                ]
          ]
    ]
