-- Each cycle of a lifted table has a row of its own, and tables are small.
use Rattle.std.proofs.Common.{◌≡◌, ℕ, zero, suc, ◌-◌, ◌*◌, ◌<◌, ◌≤◌, ◌⊎◌, Bool, true, false, cond, List, [], ◌∷◌, length, map, get_or, refl, ap, arith, sym, ◌∙◌, inl, inr, subst}
use Rattle.std.specs.Prelude.{All, Contains, slice_index}
use Rattle.std.specs.List.{filter}
use Rattle.std.proofs.lemmas.List.{get_or-map, length-map}
use Rattle.std.proofs.lemmas.List.Elements.{All-head, All-tail, Contains-get_or, All-map}
use Rattle.std.proofs.lemmas.List.Sums.{sum_by-le}
use Rattle.std.proofs.Math.Nat.{mul-le-mul}
use Rattle.pesp_problem.specs.declared.arc.Arc.{Arc}
use Rattle.pesp_problem.specs.declared.row.SignedRow.{SignedRow}
use Rattle.pesp_problem.specs.Walks.{Names, RowExists, AreRows, IsWalk}
use Rattle.pesp_problem.specs.Forests.{KeepsTo, IsFundamental, AreFundamental, own_row, IsSimple}
use Rattle.pesp_problem.specs.Nodes.{cycle_at}
use Rattle.pesp_network.specs.declared.row.NetRow.{NetRow}
use Rattle.pesp_network.specs.Networks.{net_row_at, no_net_row, arc_of_net, arcs_of_network, signed_rows, AreTooMany}
use Rattle.pesp_reduce.specs.declared.fate.Fate.{Fate}
use Rattle.pesp_reduce.specs.declared.fate.Fate.TheVariants.{Kept}
use Rattle.pesp_reduce.specs.Fates.{fate_at, is_kept}
use Rattle.pesp_reduce.specs.LiftedWalks.{original_row, passes_kept, HasNoRowTwice}
use Rattle.pesp_reduce.specs.Reductions.{ReducedValue}
use Rattle.pesp_branching.specs.Lifted.{IsReduced, AreLifted, Passes, HasOwnRow, IsFrugal}
use Rattle.pesp_problem.proofs.Counting.{differ, rises_to, rising_short, distinct_short}

-- which default is read doesn't matter inside a list
pub any_default : {A : Type 0} (xs : List A) (i : ℕ) (d e : A) → i < length xs → get_or xs i d ≡ get_or xs i e
any_default [] i d e l = absurd (omega arith)
any_default (x ∷ xs) zero d e l = refl
any_default (x ∷ xs) (suc i) d e l = any_default xs i d e (omega arith)

-- ---- rows that walks pass

passes_filter : (p : SignedRow → Bool) (walk : List SignedRow) (row : ℕ) → Passes (filter p walk) row → Passes walk row
passes_filter p [] row h = h
passes_filter p (s ∷ walk) row h = either_kept s walk (filter p walk) row (p s) (passes_filter p walk row) h
  where
    either_kept : (s : SignedRow) (walk kept : List SignedRow) (row : ℕ) (b : Bool)
        → (Passes kept row → Passes walk row) → Passes (cond b (s ∷ kept) kept) row → Passes (s ∷ walk) row
    either_kept s walk kept row true rest k = elim k [ inl e ↦ inl e | inr more ↦ inr (rest more) ]
    either_kept s walk kept row false rest k = inr (rest k)

-- a row that passes the test is passed by what is kept
filter_passes_row : (fates : List Fate) (walk : List SignedRow) (row : ℕ) → fate_at fates (row - 1) ≡ Kept
    → Passes walk row → Passes (filter (passes_kept fates) walk) row
filter_passes_row fates [] row k h = h
filter_passes_row fates (s ∷ walk) row k h =
    elim h [
      | inl e ↦
          let kept : passes_kept fates s ≡ true = rw e (ap is_kept k) in
          subst (λ (b : Bool). Passes (cond b (s ∷ filter (passes_kept fates) walk)
          (filter (passes_kept fates) walk)) row) (sym kept) (inl e)
      | inr rest ↦ either (passes_kept fates s) (filter_passes_row fates walk row k rest)
    ]
  where
    either : (b : Bool) → Passes (filter (passes_kept fates) walk) row
        → Passes (cond b (s ∷ filter (passes_kept fates) walk) (filter (passes_kept fates) walk)) row
    either true p = inr p
    either false p = p

passes_original : (rows : List NetRow) (walk : List SignedRow) (row : ℕ) → Passes walk row
    → Passes (map (original_row rows) walk) ((net_row_at rows (row - 1)).origin)
passes_original rows [] row h = h
passes_original rows (s ∷ walk) row h = elim h [
  | inl e ↦ inl (ap (λ (k : ℕ). (net_row_at rows (k - 1)).origin) e)
  | inr rest ↦
      inr (passes_original rows walk row rest)
]

passed_original : (rows : List NetRow) (walk : List SignedRow) (origin : ℕ)
    → Passes (map (original_row rows) walk) origin
    → (row : ℕ) × Passes walk row × ((net_row_at rows (row - 1)).origin ≡ origin)
passed_original rows [] origin h = absurd h
passed_original rows (s ∷ walk) origin h =
    elim h [
      | inl e ↦ (s.row, inl refl, e)
      | inr rest ↦ (let found = passed_original rows walk origin rest in (found.0, inr (found.1), found.2))
    ]

passed_exists : (arcs : List Arc) (walk : List SignedRow) (row : ℕ) → AreRows arcs walk → Passes walk row → Names (length arcs) row
passed_exists arcs [] row h p = absurd p
passed_exists arcs (s ∷ walk) row h p = elim p [
  | inl e ↦ subst (Names (length arcs)) e (All-head (RowExists arcs) s walk h)
  | inr rest ↦
      passed_exists arcs walk row (All-tail (RowExists arcs) s walk h) rest
]

passed_kept : (rows : List ℕ) (way : List SignedRow) (row : ℕ) → KeepsTo rows way → Passes way row → Contains rows row
passed_kept rows [] row h p = absurd p
passed_kept rows (s ∷ way) row h p = elim p [
  | inl e ↦
      subst (Contains rows) e (All-head (λ (x : SignedRow). Contains rows x.row) s way h)
  | inr rest ↦
      passed_kept rows way row (All-tail (λ (x : SignedRow). Contains rows x.row) s way h) rest
]

pub walk_rows : (arcs : List Arc) (walk : List SignedRow) → IsWalk arcs walk → AreRows arcs walk
walk_rows arcs [] h = absurd h
walk_rows arcs (s ∷ walk) h = h.0

-- ---- fundamental walks

own_at : (walks : List (List SignedRow)) (c : ℕ) → c < length walks → slice_index (map own_row walks) c ≡ own_row (cycle_at walks c)
own_at walks c l = get_or-map own_row walks c [] 0 l

passes_own : (arcs : List Arc) (forest : List ℕ) (walk : List SignedRow)
    → IsFundamental arcs forest (own_row walk) walk → Passes walk (own_row walk)
passes_own arcs forest walk f = subst (λ (w : List SignedRow). Passes w (own_row walk)) (sym f.begins) (inl refl)

-- a fundamental walk passes its own row, and forest rows
own_or_forest : (arcs : List Arc) (forest : List ℕ) (walk : List SignedRow) (row : ℕ)
    → IsFundamental arcs forest (own_row walk) walk → Passes walk row → (own_row walk ≡ row) ⊎ Contains forest row
own_or_forest arcs forest walk row f p =
    let begun : Passes (record { row = own_row walk; plus = true } ∷ f.back) row =
    subst (λ (w : List SignedRow). Passes w row) f.begins p in
    elim begun [ inl e ↦ inl e | inr rest ↦ inr (passed_kept forest f.back row f.keeps rest) ]

own_contained : (walks : List (List SignedRow)) (c : ℕ) → c < length walks → Contains (map own_row walks) (own_row (cycle_at walks c))
own_contained walks c l = subst (Contains (map own_row walks)) (own_at walks c l)
    (Contains-get_or (map own_row walks) c 0 (omega (arith, l, length-map walks own_row)))

-- a fundamental walk that passes another's own row is that one
passes_own_alone : (arcs : List Arc) (forest : List ℕ) (walks : List (List SignedRow)) (c d : ℕ)
    → AreFundamental arcs forest walks → c < length walks → d < length walks
    → Passes (cycle_at walks d) (own_row (cycle_at walks c)) → d ≡ c
passes_own_alone arcs forest walks c d f l m p =
    elim (own_or_forest arcs forest (cycle_at walks d) (own_row (cycle_at walks c)) (f.each d [] m) p) [
      | inl e ↦ differ (map own_row walks) d c f.rising (omega (arith, m, length-map walks own_row))
          (omega (arith, l, length-map walks own_row)) (own_at walks d m ∙ e ∙ sym (own_at walks c l))
      | inr inside ↦ absurd (f.others (own_row (cycle_at walks c)) (own_contained walks c l) inside)
    ]

-- ---- origins

origin_at : (r : ReducedValue) (j : ℕ) → j < length r.network.rows
    → slice_index (map (λ (row : NetRow). row.origin) r.network.rows) j ≡ (net_row_at r.network.rows j).origin
origin_at r j l = get_or-map (λ (row : NetRow). row.origin) r.network.rows j no_net_row 0 l

pub origins_rise : (r : ReducedValue) (j k : ℕ) → IsReduced r → j < k → k < length r.network.rows
    → (net_row_at r.network.rows j).origin < (net_row_at r.network.rows k).origin
origins_rise r j k h l m =
    let long = length-map r.network.rows (λ (row : NetRow). row.origin) in
    let rise = rises_to (map (λ (row : NetRow). row.origin) r.network.rows) j k h.kept.rising l (omega (arith, m, long)) in
    omega (arith, rise, origin_at r j (omega arith), origin_at r k m)

same_origin : (r : ReducedValue) (j k : ℕ) → IsReduced r → j < length r.network.rows → k < length r.network.rows
    → (net_row_at r.network.rows j).origin ≡ (net_row_at r.network.rows k).origin → j ≡ k
same_origin r j k h l m e =
    let long = length-map r.network.rows (λ (row : NetRow). row.origin) in
    differ (map (λ (row : NetRow). row.origin) r.network.rows) j k h.kept.rising (omega (arith, l, long))
    (omega (arith, m, long)) (origin_at r j l ∙ e ∙ sym (origin_at r k m))

pub count_arcs : (r : ReducedValue) → length (arcs_of_network r.network.rows) ≡ length r.network.rows
count_arcs r = length-map r.network.rows arc_of_net

pub fewer_rows : (r : ReducedValue) → IsReduced r → length r.network.rows ≤ length r.original.rows
fewer_rows r h =
    let long = length-map r.network.rows (λ (row : NetRow). row.origin) in
    let short = rising_short (map (λ (row : NetRow). row.origin) r.network.rows) (length r.original.rows) h.kept.rising
    (λ k l. let inside : k < length r.network.rows = omega (arith, l, long) in
    subst (Names (length r.original.rows)) (sym (origin_at r k inside)) ((h.rows k inside).names)) in
    omega (arith, short, long)

-- ---- lifted tables

own_of : (r : ReducedValue) (walks table : List (List SignedRow)) → IsReduced r
    → AreFundamental (arcs_of_network r.network.rows) r.network.forest walks → AreLifted r walks table → (c : ℕ)
    → c < length table → HasOwnRow table c
own_of r walks table h f a c l =
    let arcs = arcs_of_network r.network.rows in
    let forest = r.network.forest in
    let long = a.long in
    let inside : c < length walks = omega (arith, l, long) in
    let own = own_row (cycle_at walks c) in
    let lift = a.each c inside in
    let fundamental = f.each c [] inside in
    let here = passes_own arcs forest (cycle_at walks c) fundamental in
    let named = passed_exists arcs (cycle_at walks c) own (walk_rows arcs (cycle_at walks c) fundamental.closes) here in
    let within : own - 1 < length r.network.rows = omega (arith, named, count_arcs r) in
    let origin = (net_row_at r.network.rows (own - 1)).origin in
    record {
      row = origin;
      passes = passes_filter (passes_kept r.fates) (cycle_at table c) origin
          (subst (λ (w : List SignedRow). Passes w origin) (sym lift.kept)
          (passes_original r.network.rows (cycle_at walks c) own here));
      alone = λ d m p.
          let other : d < length walks = omega (arith, m, long) in
          let lifted = a.each d other in
          let kept = filter_passes_row r.fates (cycle_at table d) origin ((h.rows (own - 1) within).kept) p in
          let found = passed_original r.network.rows (cycle_at walks d) origin
          (subst (λ (w : List SignedRow). Passes w origin) lifted.kept kept) in
          let exists = passed_exists arcs (cycle_at walks d) found.0
          (walk_rows arcs (cycle_at walks d) ((f.each d [] other).closes)) found.1 in
          let same = same_origin r (found.0 - 1) (own - 1) h (omega (arith, exists, count_arcs r)) within found.2 in
          let row : found.0 ≡ own = omega (arith, same, exists, named) in
          passes_own_alone arcs forest walks c d f inside other (subst (λ (k : ℕ). Passes (cycle_at walks d) k) row found.1);
    }

pub frugal : (r : ReducedValue) (walks table : List (List SignedRow)) → IsReduced r
    → AreFundamental (arcs_of_network r.network.rows) r.network.forest walks
    → All (IsSimple (arcs_of_network r.network.rows)) walks → AreLifted r walks table → IsFrugal table
frugal r walks table h f s a = record {
  simple = λ c d l. let inside : c < length walks = (let long = a.long in omega (arith, l, long)) in
      at_default c d l ((a.each c inside).simple (s c [] inside));
  own = own_of r walks table h f a;
}
  where
    at_default : (c : ℕ) (d : List SignedRow) → c < length table → HasNoRowTwice (get_or table c []) → HasNoRowTwice (get_or table c d)
    at_default c d l k = subst HasNoRowTwice (any_default table c [] d l) k

-- ---- sizes

pub short_table : (arcs : List Arc) (forest : List ℕ) (table : List (List SignedRow))
    → AreFundamental arcs forest table → length table ≤ length arcs
short_table arcs forest table f =
    let long = length-map table own_row in
    let short = rising_short (map own_row table) (length arcs) f.rising
    (λ c l.
    let inside : c < length table = omega (arith, l, long) in
    let fundamental = f.each c [] inside in
    let named = passed_exists arcs (cycle_at table c) (own_row (cycle_at table c))
    (walk_rows arcs (cycle_at table c) fundamental.closes)
    (passes_own arcs forest (cycle_at table c) fundamental) in
    subst (Names (length arcs)) (sym (own_at table c inside)) named) in
    omega (arith, short, long)

short_walk : (arcs : List Arc) (walk : List SignedRow) → IsWalk arcs walk → HasNoRowTwice walk → length walk ≤ length arcs
short_walk arcs walk w d =
    let rows : All (Names (length arcs)) (map (λ (s : SignedRow). s.row) walk) =
    All-map (Names (length arcs)) (λ (s : SignedRow). s.row) walk (walk_rows arcs walk w) in
    omega (arith, distinct_short (map (λ (s : SignedRow). s.row) walk) (length arcs) d rows, length-map walk (λ (s : SignedRow). s.row))

pub few_signed_rows : (arcs : List Arc) (table : List (List SignedRow)) → All (IsWalk arcs) table
    → All HasNoRowTwice table → signed_rows table ≤ length table * length arcs
few_signed_rows arcs table w d = sum_by-le length (length arcs) table (λ c e l. short_walk arcs (get_or table c e) (w c e l) (d c e l))

pub square : (a b m n : ℕ) → a ≤ m → b ≤ n → a * b ≤ m * n
square a b m n h k = mul-le-mul h k

pub too_many : (r : ReducedValue) → IsReduced r → AreTooMany (arcs_of_network r.network.rows) r.network.forest
    → 10000000 < length r.original.rows * length r.original.rows
too_many r h t =
    let arcs = arcs_of_network r.network.rows in
    let closed : All (IsWalk arcs) t.table = λ c d l. (t.fundamental.each c d l).closes in
    let once : All HasNoRowTwice t.table = λ c d l. (t.simple c d l).1 in
    let few = few_signed_rows arcs t.table closed once in
    let short = short_table arcs r.network.forest t.table t.fundamental in
    let fewer = fewer_rows r h in
    let count = count_arcs r in
    let most = square (length t.table) (length arcs) (length r.original.rows) (length r.original.rows)
    (omega (arith, short, fewer, count)) (omega (arith, fewer, count)) in
    omega (arith, t.many, few, most)
