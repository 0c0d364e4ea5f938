-- Walks of what is left as walks of the whole network.
use Rattle.std.proofs.Common.{◌≡◌, ◌≢◌, ℕ, zero, suc, ◌+◌, ◌-◌, ◌<◌, ◌≤◌, ◌⊎◌, inl, inr, refl, sym, ◌∙◌, ap, arith, subst, List, [], ◌∷◌, ◌++◌, length, get_or, map, take, true, false, Bool, not, All, add-one}
use Rattle.std.specs.Prelude.{if◌then◌else◌, slice_index, filter, ◌==◌}
use Rattle.std.specs.List.{AllPairs}
use Rattle.std.proofs.lemmas.Bool.{cases_Bool, cases_eq, eq-eqb, ne_eqb}
use Rattle.std.proofs.lemmas.Bool.Decides.{Decides-eqb}
use Rattle.std.proofs.lemmas.List.{append_assoc, get_or-map, length-map, take_all}
use Rattle.std.proofs.lemmas.List.Kept.{AllPairs-cons}
use Rattle.std.proofs.lemmas.List.Elements.{All-cons, All-nil, All-head, All-tail, All-append, All-weaker, All-get_or, filter-append}
use Rattle.std.proofs.lemmas.Map.Made.{AllPairs-from_IsDistinct, IsDistinct-from_AllPairs}
use Rattle.std.proofs.Math.Seq.{take-suc}
use Rattle.pesp_problem.specs.declared.arc.Arc.{Arc}
use Rattle.pesp_problem.specs.declared.row.SignedRow.{SignedRow}
use Rattle.pesp_problem.specs.Arcs.{arc_at}
use Rattle.pesp_problem.specs.Walks.{Names, RowExists, AreRows, Leads, IsWalk, start, finish}
use Rattle.pesp_problem.specs.Forests.{IsSimple, AreJoined}
use Rattle.pesp_network.specs.declared.row.NetRow.{NetRow}
use Rattle.pesp_network.specs.Networks.{net_row_at, no_net_row, arcs_of_network}
use Rattle.pesp_reduce.specs.declared.contraction.Contraction.{Contraction}
use Rattle.pesp_reduce.specs.Rows.{flag}
use Rattle.pesp_reduce.specs.Contractions.{AreTree}
use Rattle.pesp_reduce.specs.LiftedWalks.{original_row, HasNoRowTwice, is_other, no_signed_row, passed_at, passed_in_turn, row_after, IsContractionOf, AreLeftOf, IsLiftOf}
use Rattle.pesp_reduce.proofs.Lists.{arc_at_net, arcs_length}
use Rattle.pesp_problem.proofs.Ways.{leads_append}
use Rattle.pesp_reduce.proofs.Ways.{leads_same}
use Rattle.pesp_reduce.proofs.Trees.{same_arc, loop_arc, loop_stays, filter_on, filter_off}
use Rattle.pesp_reduce.proofs.Fated.{map_push}
use Rattle.pesp_reduce.proofs.LowerSums.{rows_of_walk}
use Rattle.pesp_reduce.proofs.WaysBack.{joined_in_tree, ends_below}

-- ---- lists whose elements differ

all_pairs_head : {X : Type 0} (R : X → X → Type 0) (x : X) (xs : List X) → AllPairs R (x ∷ xs) → All (R x) xs
all_pairs_head R x xs h = λ k d l. h 0 (suc k) d (omega arith) (omega arith)

all_pairs_tail : {X : Type 0} (R : X → X → Type 0) (x : X) (xs : List X) → AllPairs R (x ∷ xs) → AllPairs R xs
all_pairs_tail R x xs h = λ i j d a b. h (suc i) (suc j) d (omega arith) (omega arith)

all_pairs_append : {X : Type 0} (R : X → X → Type 0) (xs ys : List X) → AllPairs R xs → AllPairs R ys
    → All (λ x. All (R x) ys) xs → AllPairs R (xs ++ ys)
all_pairs_append R [] ys h k m = k
all_pairs_append R (x ∷ xs) ys h k m =
    AllPairs-cons R x (xs ++ ys) (All-append (R x) xs ys (all_pairs_head R x xs h)
    (All-head (λ z. All (R z) ys) x xs m)) (all_pairs_append R xs ys (all_pairs_tail R x xs h) k
    (All-tail (λ z. All (R z) ys) x xs m))

-- the two are of different rows
abbrev pub Differ : SignedRow → SignedRow → Type 0
Differ s t = s.row ≢ t.row

mapped_pairs : {X : Type 0} (f : X → ℕ) (xs : List X) (d : X) → AllPairs (λ (x : ℕ) (y : ℕ). x ≢ y) (map f xs)
    → AllPairs (λ (x : X) (y : X). f x ≢ f y) xs
mapped_pairs f xs d h = λ i j e a b q.
    let size = length-map xs f in
    let l : i < length xs = omega arith in
    h i j 0 a (omega arith) (get_or-map f xs i e 0 l ∙ q ∙ sym (get_or-map f xs j e 0 b))

pairs_mapped : {X : Type 0} (f : X → ℕ) (xs : List X) (d : X) → AllPairs (λ (x : X) (y : X). f x ≢ f y) xs
    → AllPairs (λ (x : ℕ) (y : ℕ). x ≢ y) (map f xs)
pairs_mapped f xs d h = λ i j e a b q.
    let size = length-map xs f in
    let m : j < length xs = omega arith in
    let l : i < length xs = omega arith in
    h i j d a m (sym (get_or-map f xs i d e l) ∙ q ∙ get_or-map f xs j d e m)

pub differ_of : (walk : List SignedRow) → HasNoRowTwice walk → AllPairs Differ walk
differ_of walk h = mapped_pairs (λ (s : SignedRow). s.row) walk no_signed_row
    (AllPairs-from_IsDistinct Decides-eqb (map (λ (s : SignedRow). s.row) walk) h)

pub none_twice : (walk : List SignedRow) → AllPairs Differ walk → HasNoRowTwice walk
none_twice walk h = IsDistinct-from_AllPairs Decides-eqb (map (λ (s : SignedRow). s.row) walk)
    (pairs_mapped (λ (s : SignedRow). s.row) walk no_signed_row h)

-- no two starts are one event
starts_differ : (arcs : List Arc) (walk : List SignedRow) → IsSimple arcs walk → AllPairs (λ s t. start arcs s ≢ start arcs t) walk
starts_differ arcs walk h = mapped_pairs (start arcs) walk no_signed_row (AllPairs-from_IsDistinct Decides-eqb (map (start arcs) walk) h.0)

-- ---- closed walks by place

in_turn_before : (walk : List SignedRow) (i : ℕ) → i < length walk → passed_in_turn walk i ≡ passed_at walk i
in_turn_before walk i l = ap (λ (b : Bool). if b then passed_at walk 0 else passed_at walk i)
    (ne_eqb i (length walk) (λ e. let q = e in omega arith))

in_turn_end : (walk : List SignedRow) (i : ℕ) → i ≡ length walk → passed_in_turn walk i ≡ passed_at walk 0
in_turn_end walk i e = ap (λ (b : Bool). if b then passed_at walk 0 else passed_at walk i) (eq-eqb i (length walk) e)

leads_next : (arcs : List Arc) (walk : List SignedRow) (a b i : ℕ) → Leads arcs a walk b → suc i < length walk
    → finish arcs (passed_at walk i) ≡ start arcs (passed_at walk (suc i))
leads_next arcs [] a b i h l = absurd (omega arith)
leads_next arcs (s ∷ []) a b i h l = absurd (omega arith)
leads_next arcs (s ∷ t ∷ walk) a b zero h l = sym h.1.0
leads_next arcs (s ∷ t ∷ walk) a b (suc i) h l = leads_next arcs (t ∷ walk) (finish arcs s) b i h.1 (omega arith)

leads_at : (arcs : List Arc) (walk : List SignedRow) (a b i : ℕ) → Leads arcs a walk b → i + 1 < length walk
    → finish arcs (passed_at walk i) ≡ start arcs (passed_at walk (i + 1))
leads_at arcs walk a b i h l = leads_next arcs walk a b i h (omega arith) ∙ sym (ap (λ k. start arcs (passed_at walk k)) (add-one i))

leads_last : (arcs : List Arc) (walk : List SignedRow) (a b i : ℕ) → Leads arcs a walk b → i + 1 ≡ length walk
    → finish arcs (passed_at walk i) ≡ b
leads_last arcs [] a b i h l = absurd (omega arith)
leads_last arcs (s ∷ []) a b zero h l = h.1
leads_last arcs (s ∷ []) a b (suc i) h l = absurd (omega arith)
leads_last arcs (s ∷ t ∷ walk) a b zero h l = absurd (omega arith)
leads_last arcs (s ∷ t ∷ walk) a b (suc i) h l = leads_last arcs (t ∷ walk) (finish arcs s) b i h.1 (omega arith)

-- each signed row of a closed walk ends where the next begins
pub follows : (arcs : List Arc) (walk : List SignedRow) (i : ℕ) → IsWalk arcs walk → i < length walk
    → finish arcs (passed_at walk i) ≡ start arcs (row_after walk i)
follows arcs [] i w l = absurd w
follows arcs (s ∷ way) i w l =
    let walk : List SignedRow = s ∷ way in
    elim (cases_eq (i + 1) (length walk)) [
      | inl e ↦ leads_last arcs walk (start arcs s) (start arcs s) i w.1 e ∙ sym (ap (start arcs) (in_turn_end walk (i + 1) e))
      | inr ne ↦
          let inside : i + 1 < length walk = omega arith in
          leads_at arcs walk (start arcs s) (start arcs s) i w.1 inside ∙ sym (ap (start arcs) (in_turn_before walk (i + 1) inside))
    ]

-- the ends of the passed rows are different events where no event is passed twice
finishes_differ : (arcs : List Arc) (walk : List SignedRow) (i j : ℕ) → IsWalk arcs walk → IsSimple arcs walk
    → i < j → j < length walk → finish arcs (passed_at walk i) ≡ finish arcs (passed_at walk j) → ⊥
finishes_differ arcs walk i j w simple a b e =
    let s = starts_differ arcs walk simple in
    let next : start arcs (passed_at walk (i + 1))
    ≡ start arcs (row_after walk i) = sym (ap (start arcs) (in_turn_before walk (i + 1) (omega arith))) in
    let one = next ∙ sym (follows arcs walk i w (omega arith)) ∙ e ∙ follows arcs walk j w b in
    elim (cases_eq (j + 1) (length walk)) [
      | inl q ↦ s 0 (i + 1) no_signed_row (omega arith) (omega arith) (sym (one ∙ ap (start arcs) (in_turn_end walk (j + 1) q)))
      | inr ne ↦
          let inside : j + 1 < length walk = omega arith in
          s (i + 1) (j + 1) no_signed_row (omega arith) inside (one ∙ ap (start arcs) (in_turn_before walk (j + 1) inside))
    ]

-- ---- ends of rows that are left

row_of_left : (left : List NetRow) (s : SignedRow) → 1 ≤ s.row → s.row ≤ length left → s.row - 1 < length left
row_of_left left s a b = omega arith

either : (f : ℕ → ℕ) (b : Bool) (x y v w : ℕ) → x ≡ f v → y ≡ f w → (if b then x else y) ≡ f (if b then v else w)
either f true x y v w h k = h
either f false x y v w h k = k

pub left_ends : (whole : List NetRow) (c : Contraction) (left : List NetRow) (s : SignedRow)
    → AreLeftOf whole c left → RowExists (arcs_of_network left) s
    → (start (arcs_of_network left) s ≡ slice_index c.stands.items
    (start (arcs_of_network whole) (original_row left s)))
    × (finish (arcs_of_network left) s ≡ slice_index c.stands.items
    (finish (arcs_of_network whole) (original_row left s)))
left_ends whole c left s l x =
    let k = s.row - 1 in
    let inside : k < length left = omega (arith, x, arcs_length left) in
    let o = (net_row_at left k).origin - 1 in
    let own = arc_at_net left k in let there = sym (arc_at_net whole o) in
    let S = slice_index c.stands.items in
    let tail : (arc_at (arcs_of_network left) k).tail
    ≡ S (arc_at (arcs_of_network whole) o).tail = ap (λ (a : Arc). a.tail) own ∙ l.tails k inside
    ∙ ap (λ (a : Arc). S a.tail) there in
    let head : (arc_at (arcs_of_network left) k).head
    ≡ S (arc_at (arcs_of_network whole) o).head = ap (λ (a : Arc). a.head) own ∙ l.heads k inside
    ∙ ap (λ (a : Arc). S a.head) there in
    let t = (arc_at (arcs_of_network left) k).tail in let h = (arc_at (arcs_of_network left) k).head in
    let u = (arc_at (arcs_of_network whole) o).tail in let v = (arc_at (arcs_of_network whole) o).head in
    (either S s.plus t h u v tail head, either S s.plus h t v u head tail)

pub passed_exists : (arcs : List Arc) (walk : List SignedRow) (i : ℕ) → IsWalk arcs walk → i < length walk
    → RowExists arcs (passed_at walk i)
passed_exists arcs walk i w l = All-get_or (RowExists arcs) walk i no_signed_row l (rows_of_walk arcs walk w)

pub after_exists : (arcs : List Arc) (walk : List SignedRow) (i : ℕ) → IsWalk arcs walk → i < length walk
    → RowExists arcs (row_after walk i)
after_exists arcs walk i w l =
    elim (cases_eq (i + 1) (length walk)) [
      | inl e ↦ subst (RowExists arcs) (sym (in_turn_end walk (i + 1) e)) (passed_exists arcs walk 0 w (omega arith))
      | inr ne ↦ let inside : i + 1 < length walk = omega arith in
          subst (RowExists arcs) (sym (in_turn_before walk (i + 1) inside))
          (passed_exists arcs walk (i + 1) w inside)
    ]

pub original_exists : (whole : List NetRow) (c : Contraction) (left : List NetRow) (s : SignedRow)
    → AreLeftOf whole c left → RowExists (arcs_of_network left) s
    → RowExists (arcs_of_network whole) (original_row left s)
original_exists whole c left s l x =
    let n = arcs_length left in
    let o = l.names (s.row - 1) (row_of_left left s x.0 (omega arith)) in
    (o.0, omega (arith, o, arcs_length whole))

pub original_ends : (whole : List NetRow) (c : Contraction) (left : List NetRow) (s : SignedRow)
    → IsContractionOf whole c → AreLeftOf whole c left → RowExists (arcs_of_network left) s
    → (start (arcs_of_network whole) (original_row left s) < c.tree.events)
    × (finish (arcs_of_network whole) (original_row left s) < c.tree.events)
original_ends whole c left s k l x =
    ends_below whole c.tree.events (original_row left s)
    (λ j m. (
      All-get_or (λ row. row.tail < c.tree.events) whole j no_net_row m k.tails,
      All-get_or (λ row. row.head < c.tree.events) whole j no_net_row m k.heads,
    ))
    (original_exists whole c left s l x)

-- the end of a row and the start of the next are joined by contracted rows
pub gap_joined : (whole : List NetRow) (c : Contraction) (left : List NetRow) (walk : List SignedRow) (i : ℕ)
    → IsContractionOf whole c → AreLeftOf whole c left → IsWalk (arcs_of_network left) walk → i < length walk
    → AreJoined (arcs_of_network c.tree.rows) (finish (arcs_of_network whole)
    (original_row left (passed_at walk i))) (start (arcs_of_network whole)
    (original_row left (row_after walk i)))
gap_joined whole c left walk i k l w b =
    let B = arcs_of_network left in let W = arcs_of_network whole in
    let s = passed_at walk i in let t = row_after walk i in
    let x = passed_exists B walk i w b in let y = after_exists B walk i w b in
    let one = sym (left_ends whole c left s l x).1 ∙ follows B walk i w b ∙ (left_ends whole c left t l y).0 in
    joined_in_tree (arcs_of_network c.tree.rows) c.tree.events c.stands.items c.firsts.items
    (finish W (original_row left s)) (start W (original_row left t)) k.standing
    (original_ends whole c left s k l x).1 (original_ends whole c left t k l y).0 one

-- ---- ways through the tree

-- a way along contracted rows, none of them twice
pub record IsContractedWay (whole : List NetRow) (flags : List Bool) (a b : ℕ) (way : List SignedRow) : Type 0 where
  pub exist : AreRows (arcs_of_network whole) way
  pub flagged : All (λ s. flag flags (s.row - 1) ≡ true) way
  pub leads : Leads (arcs_of_network whole) a way b
  pub apart : AllPairs Differ way

-- a way that comes to its end once, and to no event twice, has no loop
no_loops : (arcs : List Arc) (way : List SignedRow) (a b : ℕ) → Leads arcs a way b
    → AllPairs (λ s t. start arcs s ≢ start arcs t) way → All (λ s. start arcs s ≢ b) way
    → All (λ s. (arc_at arcs (s.row - 1)).tail ≢ (arc_at arcs (s.row - 1)).head) way
no_loops arcs [] a b h d n = All-nil (λ (s : SignedRow). (arc_at arcs (s.row - 1)).tail ≢ (arc_at arcs (s.row - 1)).head)
no_loops arcs (s ∷ []) a b h d n =
    let P : SignedRow → Type 0 = λ q. (arc_at arcs (q.row - 1)).tail ≢ (arc_at arcs (q.row - 1)).head in
    let N : SignedRow → Type 0 = λ q. start arcs q ≢ b in
    All-cons P s [] (λ e. All-head N s [] n (loop_stays arcs s e ∙ h.1)) (All-nil P)
no_loops arcs (s ∷ t ∷ way) a b h d n =
    let P : SignedRow → Type 0 = λ q. (arc_at arcs (q.row - 1)).tail ≢ (arc_at arcs (q.row - 1)).head in
    let N : SignedRow → Type 0 = λ q. start arcs q ≢ b in
    let D : SignedRow → SignedRow → Type 0 = λ q r. start arcs q ≢ start arcs r in
    let apart = All-head (D s) t way (all_pairs_head D s (t ∷ way) d) in
    All-cons P s (t ∷ way) (λ e. apart (loop_stays arcs s e ∙ sym h.1.0))
    (no_loops arcs (t ∷ way) (finish arcs s) b h.1 (all_pairs_tail D s (t ∷ way) d) (All-tail N s (t ∷ way) n))

unlooped_flagged : (whole tree : List NetRow) (flags : List Bool) (k : ℕ) → AreTree whole tree flags
    → (arc_at (arcs_of_network tree) k).tail ≢ (arc_at (arcs_of_network tree) k).head → flag flags k ≡ true
unlooped_flagged whole tree flags k t n =
    elim (cases_Bool (flag flags k)) [
      | inl e ↦ e
      | inr e ↦ let arc = loop_arc whole tree flags k t e in absurd (n (ap (λ (x : Arc). x.tail) arc ∙ sym (ap (λ (x : Arc). x.head) arc)))
    ]

pub contracted_way_of : (whole tree : List NetRow) (flags : List Bool) (a b : ℕ) (way : List SignedRow)
    → AreTree whole tree flags → AreRows (arcs_of_network tree) way → Leads (arcs_of_network tree) a way b
    → IsSimple (arcs_of_network tree) way → All (λ s. start (arcs_of_network tree) s ≢ b) way
    → IsContractedWay whole flags a b way
contracted_way_of whole tree flags a b way t r h simple once =
    let T = arcs_of_network tree in let W = arcs_of_network whole in
    let F : SignedRow → Type 0 = λ s. flag flags (s.row - 1) ≡ true in
    let flagged : All F way = All-weaker (λ s. (arc_at T (s.row - 1)).tail ≢ (arc_at T (s.row - 1)).head) F
    (λ s m. unlooped_flagged whole tree flags (s.row - 1) t m) way
    (no_loops T way a b h (starts_differ T way simple) once) in
    let same = All-weaker F (λ s. arc_at W (s.row - 1) ≡ arc_at T (s.row - 1))
    (λ s e. sym (same_arc whole tree flags (s.row - 1) t e)) way flagged in
    let sizes : length T ≡ length W = arcs_length tree ∙ t.tree_count ∙ sym (arcs_length whole) in
    record {
      exist = subst (λ (n : ℕ). All (λ (s : SignedRow). Names n s.row) way) sizes r;
      flagged = flagged;
      leads = leads_same T W way a b same h;
      apart = differ_of way simple.1;
    }

both_stand : (S : ℕ → ℕ) (b : Bool) (x y : ℕ) → S x ≡ S y
    → (S x ≡ S (if b then x else y)) × (S (if b then y else x) ≡ S (if b then x else y))
both_stand S true x y e = (refl, sym e)
both_stand S false x y e = (e, e)

-- all events along contracted rows become one
way_stands : (whole : List NetRow) (c : Contraction) (way : List SignedRow) (a b : ℕ) → IsContractionOf whole c
    → All (λ s. flag c.contracted.items (s.row - 1) ≡ true) way → Leads (arcs_of_network whole) a way b
    → All (λ s. slice_index c.stands.items (net_row_at whole (s.row - 1)).tail ≡ slice_index c.stands.items a) way
way_stands whole c [] a b k f h = All-nil (λ (s : SignedRow).
    slice_index c.stands.items (net_row_at whole (s.row - 1)).tail ≡ slice_index c.stands.items a)
way_stands whole c (s ∷ way) a b k f h =
    let W = arcs_of_network whole in
    let S = slice_index c.stands.items in
    let F : SignedRow → Type 0 = λ q. flag c.contracted.items (q.row - 1) ≡ true in
    let i = s.row - 1 in
    let fixed = k.tree.fixed i (All-head F s way f) in
    let arc = arc_at_net whole i in
    let one : S (arc_at W i).tail ≡ S (arc_at W i).head = ap (λ (x : Arc). S x.tail) arc
    ∙ k.together i fixed.0 fixed.1 ∙ sym (ap (λ (x : Arc). S x.head) arc) in
    let both = both_stand S s.plus (arc_at W i).tail (arc_at W i).head one in
    let begins : S (start W s) ≡ S a = ap S h.0 in
    let here : S (net_row_at whole i).tail ≡ S a = sym (ap (λ (x : Arc). S x.tail) arc) ∙ both.0 ∙ begins in
    let on : S (finish W s) ≡ S a = both.1 ∙ begins in
    let rest = way_stands whole c way (finish W s) b k (All-tail F s way f) h.1 in
    let P : SignedRow → Type 0 = λ q. S (net_row_at whole (q.row - 1)).tail ≡ S a in
    All-cons P s way here (All-weaker (λ q. S (net_row_at whole (q.row - 1)).tail ≡ S (finish W s)) P (λ q e. e ∙ on) way rest)

-- ---- a part of a lifted walk

-- a row from which one of the first j comes, or a contracted one at the event where one of them ends
abbrev pub Comes : List NetRow → Contraction → List NetRow → List SignedRow → ℕ → SignedRow → Type 0
Comes whole c left walk j s =
    ((i : ℕ) × (i < j) × (s.row ≡ (original_row left (passed_at walk i)).row) × (flag c.contracted.items (s.row - 1) ≡ false))
    ⊎ ((i : ℕ) × (i < j) × (flag c.contracted.items (s.row - 1) ≡ true)
    × (slice_index c.stands.items (net_row_at whole (s.row - 1)).tail
    ≡ finish (arcs_of_network left) (passed_at walk i)))

pub record IsLiftedUpTo (whole : List NetRow) (c : Contraction) (left : List NetRow) (walk : List SignedRow)
    (j : ℕ) (made : List SignedRow) : Type 0 where
  pub exist : AreRows (arcs_of_network whole) made
  pub leads : Leads (arcs_of_network whole) (start (arcs_of_network whole) (original_row left (passed_at walk 0)))
      made (start (arcs_of_network whole) (original_row left (passed_in_turn walk j)))
  pub others : filter (is_other c.contracted.items) made ≡ map (original_row left) (take j walk)
  pub each : All (Comes whole c left walk j) made
  pub simple : IsSimple (arcs_of_network left) walk → AllPairs Differ made

turn_first : (b : Bool) (x : SignedRow) → (if b then x else x) ≡ x
turn_first true x = refl
turn_first false x = refl

pub lifted_none : (whole : List NetRow) (c : Contraction) (left : List NetRow) (walk : List SignedRow) → IsLiftedUpTo whole c left walk 0 []
lifted_none whole c left walk = record {
  exist = All-nil (RowExists (arcs_of_network whole));
  leads = ap (λ s. start (arcs_of_network whole) (original_row left s)) (sym (turn_first (0 == length walk) (passed_at walk 0)));
  others = refl;
  each = All-nil (Comes whole c left walk 0);
  simple = λ h i j d a b. absurd (omega arith);
}

-- ---- one row more

taken_more : {X : Type 0} (f : SignedRow → X) (walk : List SignedRow) (j : ℕ) → j < length walk
    → map f (take (j + 1) walk) ≡ map f (take j walk) ++ f (passed_at walk j) ∷ []
taken_more f walk j l = ap (λ n. map f (take n walk)) (add-one j) ∙ ap (map f) (take-suc walk j no_signed_row l)
    ∙ map_push f (take j walk) (passed_at walk j)

true-false : (b : Bool) → b ≡ true → b ≡ false → ⊥
true-false b e f = cc

flag_apart : (flags : List Bool) (s t : SignedRow) → flag flags (s.row - 1) ≡ false → flag flags (t.row - 1) ≡ true → Differ s t
flag_apart flags s t f e q = true-false (flag flags (t.row - 1)) e (ap (λ k. flag flags (k - 1)) (sym q) ∙ f)

apart_flag : (flags : List Bool) (s t : SignedRow) → flag flags (s.row - 1) ≡ true → flag flags (t.row - 1) ≡ false → Differ s t
apart_flag flags s t e f q = flag_apart flags t s f e (sym q)

later : (whole : List NetRow) (c : Contraction) (left : List NetRow) (walk : List SignedRow) (j : ℕ)
    (s : SignedRow) → Comes whole c left walk j s → Comes whole c left walk (j + 1) s
later whole c left walk j s (inl x) = inl (x.0, (let l = x.1 in omega arith), x.2, x.3)
later whole c left walk j s (inr x) = inr (x.0, (let l = x.1 in omega arith), x.2, x.3)

others_none : (flags : List Bool) (way : List SignedRow) → All (λ s. flag flags (s.row - 1) ≡ true) way → filter (is_other flags) way ≡ []
others_none flags [] h = refl
others_none flags (s ∷ way) h =
    let F : SignedRow → Type 0 = λ q. flag flags (q.row - 1) ≡ true in
    filter_off (is_other flags) s way (ap not (All-head F s way h)) ∙ others_none flags way (All-tail F s way h)

one_number : (a b : ℕ) → 1 ≤ a → 1 ≤ b → a - 1 ≡ b - 1 → a ≡ b
one_number a b h k e = omega arith

-- rows that are left and come from one row are one
one_origin : (whole : List NetRow) (c : Contraction) (left : List NetRow) (s t : SignedRow)
    → AreLeftOf whole c left → RowExists (arcs_of_network left) s → RowExists (arcs_of_network left) t
    → (original_row left s).row ≡ (original_row left t).row → s.row ≡ t.row
one_origin whole c left s t l x y e =
    let n = arcs_length left in
    let one = l.apart (s.row - 1) (t.row - 1) (row_of_left left s x.0 (omega arith)) (row_of_left left t y.0 (omega arith)) e in
    one_number s.row t.row x.0 y.0 one

-- what came before differs from the next row that is passed
new_row : (whole : List NetRow) (c : Contraction) (left : List NetRow) (walk : List SignedRow) (j : ℕ)
    (s : SignedRow) → AreLeftOf whole c left → AreRows (arcs_of_network left) walk
    → IsSimple (arcs_of_network left) walk → j < length walk
    → flag c.contracted.items ((original_row left (passed_at walk j)).row - 1) ≡ false
    → Comes whole c left walk j s → Differ s (original_row left (passed_at walk j))
new_row whole c left walk j s l r simple b f (inl x) = λ q.
    let i = x.0 in let before = x.1 in
    let E = RowExists (arcs_of_network left) in
    let one = one_origin whole c left (passed_at walk i) (passed_at walk j) l
    (All-get_or E walk i no_signed_row (omega arith) r) (All-get_or E walk j no_signed_row b r) (sym x.2 ∙ q) in
    differ_of walk simple.1 i j no_signed_row before b one
new_row whole c left walk j s l r simple b f (inr x) = apart_flag c.contracted.items s (original_row left (passed_at walk j)) x.2 f

-- and from the contracted rows after it
new_way : (whole : List NetRow) (c : Contraction) (left : List NetRow) (walk : List SignedRow) (j : ℕ)
    (s t : SignedRow) → IsWalk (arcs_of_network left) walk → IsSimple (arcs_of_network left) walk → j < length walk
    → flag c.contracted.items (t.row - 1) ≡ true
    → slice_index c.stands.items (net_row_at whole (t.row - 1)).tail
    ≡ finish (arcs_of_network left) (passed_at walk j) → Comes whole c left walk j s → Differ s t
new_way whole c left walk j s t w simple b f e (inl x) = flag_apart c.contracted.items s t x.3 f
new_way whole c left walk j s t w simple b f e (inr x) = λ q.
    let S = slice_index c.stands.items in
    let before = x.1 in
    let same : finish (arcs_of_network left) (passed_at walk x.0)
    ≡ finish (arcs_of_network left) (passed_at walk j) = sym x.3
    ∙ ap (λ k. S (net_row_at whole (k - 1)).tail) q ∙ e in
    finishes_differ (arcs_of_network left) walk x.0 j w simple before b same

pub lifted_more : (whole : List NetRow) (c : Contraction) (left : List NetRow) (walk : List SignedRow) (j : ℕ)
    (made way : List SignedRow) → IsContractionOf whole c → AreLeftOf whole c left
    → IsWalk (arcs_of_network left) walk → j < length walk
    → IsContractedWay whole c.contracted.items
    (finish (arcs_of_network whole) (original_row left (passed_at walk j)))
    (start (arcs_of_network whole) (original_row left (row_after walk j))) way
    → IsLiftedUpTo whole c left walk j made → IsLiftedUpTo whole c left walk (j + 1)
    ((made ++ original_row left (passed_at walk j) ∷ []) ++ way)
lifted_more whole c left walk j made way k l w b y v =
    let W = arcs_of_network whole in let B = arcs_of_network left in
    let flags = c.contracted.items in
    let S = slice_index c.stands.items in
    let r = rows_of_walk B walk w in
    let s = passed_at walk j in
    let o = original_row left s in
    let x = All-get_or (RowExists B) walk j no_signed_row b r in
    let exists = original_exists whole c left s l x in
    let n = arcs_length left in
    let other : flag flags (o.row - 1) ≡ false = l.other (s.row - 1) (row_of_left left s x.0 (omega arith)) in
    let new : List SignedRow = o ∷ way in
    let ends = left_ends whole c left s l x in
    let stand = All-weaker (λ q. S (net_row_at whole (q.row - 1)).tail ≡ S (finish W o))
    (λ q. S (net_row_at whole (q.row - 1)).tail ≡ finish B s) (λ q e. e ∙ sym ends.1) way
    (way_stands whole c way (finish W o) (start W (original_row left (row_after walk j))) k y.flagged
    y.leads) in
    let from = start W (original_row left (passed_at walk 0)) in
    let to = start W (original_row left (row_after walk j)) in
    let here : start W (original_row left (passed_in_turn walk j))
    ≡ start W o = ap (λ q. start W (original_row left q)) (in_turn_before walk j b) in
    let before : Leads W from made (start W o) = subst (λ z. Leads W from made z) here v.leads in
    let after : Leads W (start W o) new to = (refl, y.leads) in
    let C = Comes whole c left walk j in let D = Comes whole c left walk (j + 1) in
    let first : D o = inl (j, omega arith, refl, other) in
    let on_way : All D way = λ i d m. inr (j, omega arith, y.flagged i d m, stand i d m) in
    let joined : (made ++ o ∷ []) ++ way ≡ made ++ new = append_assoc made (o ∷ []) way in
    let all : IsLiftedUpTo whole c left walk (j + 1) (made ++ new) = record {
      exist = All-append (RowExists W) made new v.exist (All-cons (RowExists W) o way exists y.exist);
      leads = leads_append W made new from (start W o) to before after;
      others =
          filter-append (is_other flags) made new
          ∙ ap (λ xs. xs ++ filter (is_other flags) new) v.others
          ∙ ap (λ xs. map (original_row left) (take j walk) ++ xs)
          (filter_on (is_other flags) o way (ap not other)
          ∙ ap (λ xs. o ∷ xs) (others_none flags way y.flagged))
          ∙ sym (taken_more (original_row left) walk j b);
      each = All-append D made new (All-weaker C D (λ q e. later whole c left walk j q e) made v.each) (All-cons D o way first on_way);
      simple = λ h.
          let rest : All (λ q. All (Differ q) new) made = λ i d m. let e = v.each i d m in
          All-cons (Differ (get_or made i d)) o way (new_row whole c left walk j (get_or made i d) l r h b other e)
          (λ p f q. new_way whole c left walk j (get_or made i d) (get_or way p f) w h b (y.flagged p f q) (stand p f q) e) in
          all_pairs_append Differ made new (v.simple h)
          (AllPairs-cons Differ o way (λ p f q. flag_apart flags o (get_or way p f) other (y.flagged p f q))
          y.apart) rest;
    } in
    subst (λ xs. IsLiftedUpTo whole c left walk (j + 1) xs) (sym joined) all

-- ---- the whole of it

closed_from : (whole left : List NetRow) (flags : List Bool) (walk made : List SignedRow) (a : ℕ) → 0 < length walk
    → filter (is_other flags) made ≡ map (original_row left) walk → AreRows (arcs_of_network whole) made
    → Leads (arcs_of_network whole) a made a → IsWalk (arcs_of_network whole) made
closed_from whole left flags walk [] a l f r h = absurd (let e = ap length f in let n = length-map walk (original_row left) in omega arith)
closed_from whole left flags walk (s ∷ made) a l f r h = (r, subst (λ x. Leads (arcs_of_network whole) x (s ∷ made) x) (sym h.0) h)

walk_some : (arcs : List Arc) (walk : List SignedRow) → IsWalk arcs walk → 0 < length walk
walk_some arcs [] w = absurd w
walk_some arcs (s ∷ way) w = omega arith

pub lifted_all : (whole : List NetRow) (c : Contraction) (left : List NetRow) (walk : List SignedRow) (j : ℕ)
    (made : List SignedRow) → IsWalk (arcs_of_network left) walk → j ≡ length walk
    → IsLiftedUpTo whole c left walk j made → IsLiftOf whole c.contracted.items left walk made
lifted_all whole c left walk j made w e v =
    let W = arcs_of_network whole in
    let a = start W (original_row left (passed_at walk 0)) in
    let closed : Leads W a made a = subst (λ z. Leads W a made z)
    (ap (λ q. start W (original_row left q)) (in_turn_end walk j e)) v.leads in
    let others = v.others ∙ ap (λ n. map (original_row left) (take n walk)) e
    ∙ ap (map (original_row left)) (take_all (length walk) walk (omega arith)) in
    record {
      closes = closed_from whole left c.contracted.items walk made a (walk_some (arcs_of_network left) walk w) others v.exist closed;
      others = others;
      simple = λ h. none_twice made (v.simple h);
    }
