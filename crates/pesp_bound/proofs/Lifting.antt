-- Levels that an edge lifts, and the way back along the edges that lifted them.
use Rattle.std.proofs.Common.{below_more, replicate, subst, cond, count_by, ◌≡◌, ℕ, zero, suc, ◌+◌, ◌-◌, ◌*◌, ◌<◌, ◌≤◌, ◌≢◌, ◌⊎◌, inl, inr, Bool, true, false, List, [], ◌∷◌, ◌++◌, length, refl, ap, arith, sym, ◌∙◌, drop, set, sum, get_or-set_same, get_or-set_other}
use Rattle.std.specs.Prelude.{if◌then◌else◌, ◌==◌, MatchBool, MatchOption, Option, Some, None, IsSome, is_some}
use Rattle.std.proofs.lemmas.List.Sums.{sum_by-set, sum_by-le, count_by-le-length}
use Rattle.std.proofs.Math.Seq.{drop-append_seam}
use Rattle.std.proofs.lemmas.List.{length-replicate, drop-append-le, length-append, get_or_default}
use Rattle.std.proofs.Math.Nat.{mul-le-mul_left}
use Rattle.std.proofs.lemmas.Bool.Decides.{nat_tests}
use Rattle.pesp_bound.specs.declared.edge.Edge.{Edge}
use Rattle.pesp_bound.specs.Settling.{edge_at, at, EdgesAreWithin, SettlesEdge, GainsForEver, IsEdgeWay, gains, losses}
use Rattle.pesp_bound.specs.Growing.{LevelsGrown, LevelsAreGrown}

eq-true : (a b : ℕ) → a ≡ b → (a == b) ≡ true
eq-true a b e = grind (arith, nat_tests)

eq-false : (a b : ℕ) → a ≢ b → (a == b) ≡ false
eq-false a b e = grind (arith, nat_tests)

pub same_or_not : (a b : ℕ) → (a ≡ b) ⊎ (a ≢ b)
same_or_not a b = grind arith

lt_or_le : (a b : ℕ) → (a < b) ⊎ (b ≤ a)
lt_or_le a b = grind arith

-- ---- lifting

-- what is asked of an event x whose level the edge j has set
record Held (edges : List Edge) (h t : ℕ → ℕ) (x j : ℕ) : Type 0 where
  from : (edge_at edges j).start ≡ x
  holds : h x + (edge_at edges j).loss ≤ h (edge_at edges j).finish + (edge_at edges j).gain
  strict : t x ≤ t (edge_at edges j).finish → h x + (edge_at edges j).loss + 1 ≤ h (edge_at edges j).finish + (edge_at edges j).gain

-- an event is lifted from old to new at the time now + 1
pub record Rises (old new t t2 : ℕ → ℕ) (now v : ℕ) : Type 0 where
  pub above : old v < new v
  pub time : t2 v ≡ now + 1
  pub times : (x : ℕ) → t x ≤ now
  pub others : (x : ℕ) → x ≢ v → (new x ≡ old x) × (t2 x ≡ t x)

-- the event that is lifted
here_held : (edges : List Edge) (old new t t2 : ℕ → ℕ) (now v k : ℕ) → Rises old new t t2 now v
    → (edge_at edges k).start ≡ v → new v + (edge_at edges k).loss
    ≡ old (edge_at edges k).finish + (edge_at edges k).gain → Held edges new t2 v k
here_held edges old new t t2 now v k r e set =
    let u = (edge_at edges k).finish in
    let above = r.above in
    elim (same_or_not u v) [
      | inl same ↦
          let o : old u ≡ old v = ap old same in
          let n : new u ≡ new v = ap new same in
          record { from = e; holds = omega arith; strict = λ _. omega arith }
      | inr other ↦
          let n : new u ≡ old u = (r.others u other).0 in
          let m : t2 u ≡ t u = (r.others u other).1 in
          let time = r.time in
          let before = r.times u in
          record { from = e; holds = omega arith; strict = λ s. absurd (omega arith) }
    ]

-- another event
other_held : (edges : List Edge) (old new t t2 : ℕ → ℕ) (now v x j : ℕ) → Rises old new t t2 now v → x ≢ v
    → Held edges old t x j → Held edges new t2 x j
other_held edges old new t t2 now v x j r ne h =
    let u = (edge_at edges j).finish in
    let above = r.above in
    let n : new x ≡ old x = (r.others x ne).0 in
    let m : t2 x ≡ t x = (r.others x ne).1 in
    let holds = h.holds in
    elim (same_or_not u v) [
      | inl same ↦
          let o : old u ≡ old v = ap old same in
          let w : new u ≡ new v = ap new same in
          record { from = h.from; holds = omega arith; strict = λ _. omega arith }
      | inr other ↦
          let w : new u ≡ old u = (r.others u other).0 in
          let y : t2 u ≡ t u = (r.others u other).1 in
          record { from = h.from; holds = omega arith; strict = λ s. let sharp = h.strict (omega arith) in omega arith }
    ]

held_as : (edges : List Edge) (h t : ℕ → ℕ) (x j i : ℕ) → i ≡ j → Held edges h t x j → Held edges h t x i
held_as edges h t x j i e k = subst (λ (y : ℕ). Held edges h t x y) (sym e) k

held_at : (edges : List Edge) (h t : ℕ → ℕ) (x y i : ℕ) → x ≡ y → Held edges h t y i → Held edges h t x i
held_at edges h t x y i e k = subst (λ (z : ℕ). Held edges h t z i) (sym e) k

old_held : (edges : List Edge) (h by t : ℕ → ℕ) (now x : ℕ) → LevelsGrown edges h by t now → 0 < by x → Held edges h t x (by x - 1)
old_held edges h by t now x g b = record { from = g.from x b; holds = g.holds x b; strict = g.strict x b }

all_held : (edges : List Edge) (old new by by2 t t2 : ℕ → ℕ) (now v k x : ℕ) → LevelsGrown edges old by t now
    → Rises old new t t2 now v → (edge_at edges k).start ≡ v
    → new v + (edge_at edges k).loss ≡ old (edge_at edges k).finish + (edge_at edges k).gain → by2 v ≡ k + 1
    → ((y : ℕ) → y ≢ v → by2 y ≡ by y) → 0 < by2 x → Held edges new t2 x (by2 x - 1)
all_held edges old new by by2 t t2 now v k x g r e is here others b =
    elim (same_or_not x v) [
      | inl same ↦ let place : by2 x - 1 ≡ k = let w : by2 x ≡ by2 v = ap by2 same in omega arith in
          held_as edges new t2 x k (by2 x - 1) place
          (held_at edges new t2 x v k same (here_held edges old new t t2 now v k r e is))
      | inr ne ↦ let w : by2 x ≡ by x = others x ne in
          held_as edges new t2 x (by x - 1) (by2 x - 1) (omega arith)
          (other_held edges old new t t2 now v x (by x - 1) r ne (old_held edges old by t now x g (omega arith)))
    ]

pub lifted : (edges : List Edge) (old new by by2 t t2 : ℕ → ℕ) (now v k : ℕ) → k < length edges
    → LevelsGrown edges old by t now → Rises old new t t2 now v → (edge_at edges k).start ≡ v
    → new v + (edge_at edges k).loss ≡ old (edge_at edges k).finish + (edge_at edges k).gain → by2 v ≡ k + 1
    → ((y : ℕ) → y ≢ v → by2 y ≡ by y) → LevelsGrown edges new by2 t2 (now + 1)
lifted edges old new by by2 t t2 now v k l g r e is here others =
    let held = λ (x : ℕ) (b : 0 < by2 x). all_held edges old new by by2 t t2 now v k x g r e is here others b in
    record {
      root = λ x z. elim (same_or_not x v) [
        | inl same ↦ let w : by2 x ≡ by2 v = ap by2 same in absurd (omega arith)
        | inr ne ↦ let w : by2 x ≡ by x = others x ne in (r.others x ne).0 ∙ g.root x (omega arith)
      ];
      row = λ x. elim (same_or_not x v) [
        | inl same ↦ let w : by2 x ≡ by2 v = ap by2 same in omega arith
        | inr ne ↦ let w : by2 x ≡ by x = others x ne in let o = g.row x in omega arith
      ];
      from = λ x b. (held x b).from;
      holds = λ x b. (held x b).holds;
      strict = λ x b. (held x b).strict;
      times = λ x. elim (same_or_not x v) [
        | inl same ↦ let w : t2 x ≡ t2 v = ap t2 same in let z = r.time in omega arith
        | inr ne ↦ let w : t2 x ≡ t x = (r.others x ne).1 in let z = r.times x in omega arith
      ];
    }

-- ---- lifting, in the lists that the code keeps

abbrev time_of : (ℕ → ℕ) → ℕ → ℕ → ℕ → ℕ
time_of t now v x = if x == v then now + 1 else t x

pub lifted_lists : (edges : List Edge) (level by : List ℕ) (k v new : ℕ) → k < length edges
    → LevelsAreGrown edges level by → (edge_at edges k).start ≡ v → v < length level → v < length by → at level v < new
    → new + (edge_at edges k).loss ≡ at level (edge_at edges k).finish + (edge_at edges k).gain
    → LevelsAreGrown edges (set level v new) (set by v (k + 1))
lifted_lists edges level by k v new l g e in_level in_by above is =
    let t = g.0 in
    let now = g.1 in
    let here : at (set level v new) v ≡ new = get_or-set_same level v new 0 in_level in
    let by_here : at (set by v (k + 1)) v ≡ k + 1 = get_or-set_same by v (k + 1) 0 in_by in
    let rises : Rises (at level) (at (set level v new)) t (time_of t now v) now v = record {
      above = omega arith;
      time = ap (λ b. if b then now + 1 else t v) (eq-true v v refl);
      times = g.2.times;
      others = λ x ne. (get_or-set_other level v x new 0 ne, ap (λ b. if b then now + 1 else t x) (eq-false x v ne));
    } in (
      time_of t now v,
      now + 1,
      lifted edges (at level) (at (set level v new)) (at by) (at (set by v (k + 1))) t
          (time_of t now v) now v k l g.2 rises e (omega arith) by_here
          (λ x ne. get_or-set_other by v x (k + 1) 0 ne),
    )

pub sum_rises : (level : List ℕ) (v new : ℕ) → v < length level → at level v < new → sum level < sum (set level v new)
sum_rises level v new l above = let s = sum_by-set (λ (x : ℕ). x) level v new 0 l in omega arith

-- ---- ways

-- the way goes from y to the current event, and its gains are known
pub record Comes (edges : List Edge) (h t : ℕ → ℕ) (y : ℕ) (way : List ℕ) (cur : ℕ) : Type 0 where
  pub leads : IsEdgeWay edges y way cur
  pub holds : h y + losses edges way ≤ h cur + gains edges way
  pub strict : t y ≤ t cur → h y + losses edges way + 1 ≤ h cur + gains edges way

-- how many events are not on the way yet
abbrev pub unmarked : List ℕ → ℕ
unmarked place = count_by (λ x. x == 0) place

-- place has where an event stands on the way, from 1, or 0; the way leads from the first event to the current one
pub record Climbed (edges : List Edge) (level by place way : List ℕ) (cur event : ℕ) : Type 0 where
  pub t : ℕ → ℕ
  pub now : ℕ
  pub grown : LevelsGrown edges (at level) (at by) t now
  pub few : length way + unmarked place ≤ length level
  pub marked : (y : ℕ) → 0 < at place y → at place y ≤ length way
  pub comes : (y : ℕ) → 0 < at place y → Comes edges (at level) t y (drop (at place y - 1) way) cur
  pub high : (most : ℕ) → EdgesAreWithin (length level) most edges → length level * most < at level event
      → unmarked place * most < at level cur

pub IsWay-snoc : (edges : List Edge) (way : List ℕ) (a b k : ℕ) → IsEdgeWay edges a way b → k < length edges
    → (edge_at edges k).start ≡ b → IsEdgeWay edges a (way ++ k ∷ []) (edge_at edges k).finish
IsWay-snoc edges [] a b k h l e = (l, e ∙ sym h, refl)
IsWay-snoc edges (j ∷ way) a b k h l e = (h.0, h.1, IsWay-snoc edges way (edge_at edges j).finish b k h.2 l e)

pub gains-snoc : (edges : List Edge) (way : List ℕ) (k : ℕ) → gains edges (way ++ k ∷ []) ≡ gains edges way + (edge_at edges k).gain
gains-snoc edges [] k = omega arith
gains-snoc edges (j ∷ way) k = omega (arith, gains-snoc edges way k)

pub losses-snoc : (edges : List Edge) (way : List ℕ) (k : ℕ) → losses edges (way ++ k ∷ []) ≡ losses edges way + (edge_at edges k).loss
losses-snoc edges [] k = omega arith
losses-snoc edges (j ∷ way) k = omega (arith, losses-snoc edges way k)

-- one edge on, from the current event
pub comes_on : (edges : List Edge) (h by t : ℕ → ℕ) (now y cur : ℕ) (way : List ℕ) → LevelsGrown edges h by t now
    → 0 < by cur → Comes edges h t y way cur → Comes edges h t y (way ++ (by cur - 1) ∷ [])
    (edge_at edges (by cur - 1)).finish
comes_on edges h by t now y cur way g b c =
    let k = by cur - 1 in
    let row = g.row cur in
    let in_range : k < length edges = omega arith in
    let more = gains-snoc edges way k in
    let less = losses-snoc edges way k in
    let one = g.holds cur b in
    let all = c.holds in
    record {
      leads = IsWay-snoc edges way y cur k c.leads in_range (g.from cur b);
      holds = omega (arith, more, less, one, all);
      strict = λ s.
          elim (lt_or_le (t (edge_at edges k).finish) (t cur)) [
            | inl before ↦ let sharp = c.strict (omega (arith, s, before)) in omega (arith, more, less, one, sharp)
            | inr after ↦ let sharp = g.strict cur b after in omega (arith, more, less, sharp, all)
          ];
    }

pub comes_one : (edges : List Edge) (h by t : ℕ → ℕ) (now cur : ℕ) → LevelsGrown edges h by t now → 0 < by cur
    → Comes edges h t cur ((by cur - 1) ∷ []) (edge_at edges (by cur - 1)).finish
comes_one edges h by t now cur g b =
    let k = by cur - 1 in
    let row = g.row cur in
    let in_range : k < length edges = omega arith in
    let one = g.holds cur b in
    record {
      leads = (in_range, g.from cur b, refl);
      holds = omega (arith, one);
      strict = λ s. let sharp = g.strict cur b s in omega (arith, sharp);
    }

-- ---- the way back

pub closes : (edges : List Edge) (h t : ℕ → ℕ) (y : ℕ) (way : List ℕ) → Comes edges h t y way y → GainsForEver edges way
closes edges h t y way c = let sharp = c.strict (omega arith) in (y, c.leads, omega arith)

pub one_less : (place : List ℕ) (x m : ℕ) → x < length place → at place x ≡ 0 → 0 < m → unmarked (set place x m) + 1 ≡ unmarked place
one_less place x m l e some =
    let s = sum_by-set (λ (p : ℕ). cond (p == 0) 1 0) place x m 0 l in
    let old : cond {A = ℕ} (at place x == 0) 1 0 ≡ 1 = ap (λ b. cond {A = ℕ} b 1 0) (eq-true (at place x) 0 e) in
    let new : cond {A = ℕ} (m == 0) 1 0 ≡ 0 = ap (λ b. cond {A = ℕ} b 1 0) (eq-false m 0 (λ z. omega arith)) in
    omega arith

drop_past : (way : List ℕ) (i k : ℕ) → i ≤ length way → drop i (way ++ k ∷ []) ≡ drop i way ++ k ∷ []
drop_past way i k l = drop-append-le i way (k ∷ []) l

drop_all : (way : List ℕ) (k : ℕ) → drop (length way) (way ++ k ∷ []) ≡ k ∷ []
drop_all way k = drop-append_seam way (k ∷ [])

pub climbs_on : (edges : List Edge) (level by place way : List ℕ) (cur event : ℕ)
    → Climbed edges level by place way cur event → cur < length place → at place cur ≡ 0 → 0 < at by cur
    → Climbed edges level by (set place cur (length way + 1)) (way ++ (at by cur - 1) ∷ [])
    (edge_at edges (at by cur - 1)).finish event
climbs_on edges level by place way cur event c l e b =
    let k = at by cur - 1 in
    let next = (edge_at edges k).finish in
    let here : at (set place cur (length way + 1)) cur ≡ length way + 1 = get_or-set_same place cur (length way + 1) 0 l in
    let longer : length (way ++ k ∷ []) ≡ length way + 1 = length-append way (k ∷ []) in
    record {
      t = c.t;
      now = c.now;
      grown = c.grown;
      few = let less = one_less place cur (length way + 1) l e (omega arith) in let f = c.few in omega (arith, less, longer, f);
      marked = λ y m. elim (same_or_not y cur) [
        | inl same ↦ let w : at (set place cur (length way + 1)) y
            ≡ at (set place cur (length way + 1)) cur = ap (at (set place cur (length way + 1))) same in omega arith
        | inr ne ↦ let w : at (set place cur (length way + 1)) y
            ≡ at place y = get_or-set_other place cur y (length way + 1) 0 ne in
            let o = c.marked y (omega arith) in omega arith
      ];
      comes = λ y m. elim (same_or_not y cur) [
        | inl same ↦
            let w : at (set place cur (length way + 1)) y - 1
            ≡ length way = let w : at (set place cur (length way + 1)) y
            ≡ at (set place cur (length way + 1)) cur = ap (at (set place cur (length way + 1))) same in
            omega arith in
            let cut : drop (at (set place cur (length way + 1)) y - 1) (way ++ k ∷ [])
            ≡ k ∷ [] = ap (λ (i : ℕ). drop i (way ++ k ∷ [])) w ∙ drop_all way k in
            subst (λ (z : List ℕ). Comes edges (at level) c.t y z next) (sym cut)
            (subst (λ (x : ℕ). Comes edges (at level) c.t x (k ∷ []) next) (sym same)
            (comes_one edges (at level) (at by) c.t c.now cur c.grown b))
        | inr ne ↦
            let w : at (set place cur (length way + 1)) y ≡ at place y = get_or-set_other place cur y (length way + 1) 0 ne in
            let was : 0 < at place y = omega arith in
            let in_way = c.marked y was in
            let cut : drop (at (set place cur (length way + 1)) y - 1) (way ++ k ∷ [])
            ≡ drop (at place y - 1) way ++ k ∷ [] = ap (λ (i : ℕ). drop (i - 1) (way ++ k ∷ [])) w
            ∙ drop_past way (at place y - 1) k (omega arith) in
            subst (λ (z : List ℕ). Comes edges (at level) c.t y z next) (sym cut)
            (comes_on edges (at level) (at by) c.t c.now y cur (drop (at place y - 1) way) c.grown b
            (c.comes y was))
      ];
      high = λ most within h.
          let row = c.grown.row cur in
          let gain = (within k (omega (arith, row, b))).2 in
          let less = one_less place cur (length way + 1) l e (omega arith) in
          let times : unmarked place * most ≡ (unmarked (set place cur (length way + 1)) + 1) * most =
          ap (λ (x : ℕ). x * most) (sym less) in
          let before = c.high most within h in
          let step = c.grown.holds cur b in
          omega (arith, times, before, step, gain);
    }

pub starts : (edges : List Edge) (level by place : List ℕ) (event : ℕ) → LevelsAreGrown edges level by
    → ((y : ℕ) → at place y ≡ 0) → unmarked place ≤ length level → Climbed edges level by place [] event event
starts edges level by place event g none few =
    record {
      t = g.0;
      now = g.1;
      grown = g.2;
      few = omega (arith, few);
      marked = λ y m. let z = none y in absurd (omega arith);
      comes = λ y m. let z = none y in absurd (omega arith);
      high = λ most within h. let more = mul-le-mul_left most few in omega (arith, more, h);
    }

pub sum-le : (xs : List ℕ) (m : ℕ) → ((x : ℕ) → at xs x ≤ m) → sum xs ≤ length xs * m
sum-le xs m h = sum_by-le (λ (x : ℕ). x) m xs (λ k d l. let e = get_or_default xs k d 0 l in let b = h k in omega arith)

pub climbs_on_as : (edges : List Edge) (level by place way way2 : List ℕ) (cur event m : ℕ)
    → Climbed edges level by place way cur event → cur < length place → at place cur ≡ 0 → 0 < at by cur
    → m ≡ length way + 1 → way2 ≡ way ++ (at by cur - 1) ∷ []
    → Climbed edges level by (set place cur m) way2 (edge_at edges (at by cur - 1)).finish event
climbs_on_as edges level by place way way2 cur event m c l e b s w =
    subst (λ (x : ℕ). Climbed edges level by (set place cur x) way2
    (edge_at edges (at by cur - 1)).finish event) (sym s)
    (subst (λ (z : List ℕ). Climbed edges level by (set place cur (length way + 1)) z
    (edge_at edges (at by cur - 1)).finish event) (sym w)
    (climbs_on edges level by place way cur event c l e b))

replicate_zero : (n y : ℕ) → at (replicate n 0) y ≡ 0
replicate_zero zero y = refl
replicate_zero (suc n) zero = refl
replicate_zero (suc n) (suc y) = replicate_zero n y

pub starts_as : (edges : List Edge) (level by place way : List ℕ) (event : ℕ) → LevelsAreGrown edges level by
    → place ≡ replicate (length level) 0 → way ≡ [] → Climbed edges level by place way event event
starts_as edges level by place way event g p w =
    subst (λ (z : List ℕ). Climbed edges level by place z event event) (sym w)
    (starts edges level by place event g (λ y. ap (λ (z : List ℕ). at z y) p
    ∙ replicate_zero (length level) y) (let few = count_by-le-length (λ (x : ℕ). x == 0) place in
    let size = ap length p ∙ length-replicate (length level) 0 in omega (arith, few, size)))

pub grown_empty : (edges : List Edge) (n : ℕ) → LevelsAreGrown edges (replicate n 0) (replicate n 0)
grown_empty edges n = (
  λ x. 0,
  0,
  record {
    root = λ x e. replicate_zero n x;
    row = λ x. let z = replicate_zero n x in omega (arith, z);
    from = λ x b. let z = replicate_zero n x in absurd (omega (arith, z, b));
    holds = λ x b. let z = replicate_zero n x in absurd (omega (arith, z, b));
    strict = λ x b. let z = replicate_zero n x in absurd (omega (arith, z, b));
    times = λ x. omega arith;
  },
)

pub grown_zeros : (edges : List Edge) (n : ℕ) (level by : List ℕ) → level ≡ replicate n 0 → by ≡ replicate n 0 → LevelsAreGrown edges level by
grown_zeros edges n level by l b = subst (λ (x : List ℕ). LevelsAreGrown edges x by) (sym l)
    (subst (λ (x : List ℕ). LevelsAreGrown edges (replicate n 0) x) (sym b) (grown_empty edges n))

pub low_zeros : (n limit : ℕ) (level : List ℕ) → level ≡ replicate n 0 → (x : ℕ) → at level x ≤ limit
low_zeros n limit level l x = let z = ap (λ (y : List ℕ). at y x) l ∙ replicate_zero n x in omega (arith, z)

pub length_zeros : (n : ℕ) (xs : List ℕ) → xs ≡ replicate n 0 → length xs ≡ n
length_zeros n xs e = ap length e ∙ length-replicate n 0

-- ---- a pass

pub when_true : (A B : Type 0) (b : Bool) → b ≡ true → MatchBool b A B → A
when_true A B b e m = subst (λ (x : Bool). MatchBool x A B) e m

pub when_false : (A B : Type 0) (b : Bool) → b ≡ false → MatchBool b A B → B
when_false A B b e m = subst (λ (x : Bool). MatchBool x A B) e m

abbrev pub SoFar : List Edge → List ℕ → List ℕ → Option ℕ → ℕ → Type 0
SoFar edges initial level last k = MatchOption last
    ((level ≡ initial) × ((j : ℕ) → j < k → SettlesEdge edges (at level) j))
    (λ e. (e < length initial) × (sum initial < sum level))

so_far_le : (edges : List Edge) (initial level : List ℕ) (last : Option ℕ) (k : ℕ)
    → SoFar edges initial level last k → sum initial ≤ sum level
so_far_le edges initial level None k h = let e = ap sum h.0 in omega (arith, e)
so_far_le edges initial level (Some e) k h = let l = h.1 in omega (arith, l)

pub so_far_lifts : (edges : List Edge) (initial old new : List ℕ) (last : Option ℕ) (k e : ℕ)
    → SoFar edges initial old last k → sum old < sum new → e < length initial
    → SoFar edges initial new (Some e) (k + 1)
so_far_lifts edges initial old new last k e h more l = let first = so_far_le edges initial old last k h in (l, omega (arith, first, more))

below_next : (edges : List Edge) (level : List ℕ) (k j : ℕ) → ((j : ℕ) → j < k → SettlesEdge edges (at level) j)
    → SettlesEdge edges (at level) k → j < k + 1 → SettlesEdge edges (at level) j
below_next edges level k j h s l = below_more _ _ h s j l

so_far_same : (edges : List Edge) (initial level : List ℕ) (last : Option ℕ) (k : ℕ)
    → SoFar edges initial level last k → SettlesEdge edges (at level) k → SoFar edges initial level last (k + 1)
so_far_same edges initial level None k h s = (h.0, λ j l. below_next edges level k j h.1 s l)
so_far_same edges initial level (Some e) k h s = h

pub so_far_stays : (edges : List Edge) (initial old new : List ℕ) (last : Option ℕ) (k : ℕ)
    → SoFar edges initial old last k → new ≡ old → SettlesEdge edges (at old) k → SoFar edges initial new last (k + 1)
so_far_stays edges initial old new last k h e s =
    subst (λ (x : List ℕ). SoFar edges initial x last (k + 1)) (sym e) (so_far_same edges initial old last k h s)

pub low_but : (old new : List ℕ) (limit start x : ℕ) → ((x : ℕ) → at old x ≤ limit)
    → ((x : ℕ) → x ≢ start → at new x ≡ at old x) → at new start ≤ limit → at new x ≤ limit
low_but old new limit start x h others here =
    elim (same_or_not x start) [
      | inl same ↦ let w : at new x ≡ at new start = ap (at new) same in omega (arith, w, here)
      | inr ne ↦ let w = others x ne in let l = h x in omega (arith, w, l)
    ]

-- ---- the passes end

pub all_low : (new : List ℕ) (event limit x : ℕ) → ((x : ℕ) → x ≢ event → at new x ≤ limit) → at new event ≤ limit → at new x ≤ limit
all_low new event limit x others here =
    elim (same_or_not x event) [
      | inl same ↦ let w : at new x ≡ at new event = ap (at new) same in omega (arith, w, here)
      | inr ne ↦ others x ne
    ]

pub less_left : (old new : List ℕ) (event limit n : ℕ) → length new ≡ n → sum old < sum new
    → ((x : ℕ) → x ≢ event → at new x ≤ limit) → at new event ≤ limit → n * limit - sum new < n * limit - sum old
less_left old new event limit n size more others here =
    let most = sum-le new limit (λ x. all_low new event limit x others here) in
    let same = ap (λ (k : ℕ). k * limit) size in
    omega (arith, most, same, more)

pub not_found : {X : Type 0} (a b : ℕ) (o : Option X) → (a < b → IsSome o) → is_some o ≡ false → b ≤ a
not_found {X} a b o h e =
    elim (lt_or_le a b) [
      | inl l ↦ let some : is_some o ≡ true = h l in absurd (grind (arith, some, e))
      | inr l ↦ l
    ]
