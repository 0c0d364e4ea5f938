-- The value of a leaf as it is added up.
use Rattle.std.proofs.Common.{◌≡◌, ℕ, zero, suc, ◌+◌, ◌-◌, ◌*◌, ◌<◌, ◌≤◌, List, ◌∷◌, length, get_or, drop, drop-cons, add-one, ap, ◌∙◌, refl, arith, Bool, Option, Some, None}
use Rattle.std.specs.Prelude.{ℤ, pos, ◌+ℤ◌, ◌-ℤ◌, ◌*ℤ◌, unsigned_abs, option_map}
use Rattle.std.proofs.lemmas.Int.{ints}
use Rattle.std.proofs.lemmas.Bool.{cases_lt}
use Rattle.std.proofs.Common.{inl, inr}
use Rattle.std.proofs.lemmas.List.{drop_all}
use Rattle.pesp_problem.specs.declared.row.SignedRow.{SignedRow}
use Rattle.pesp_problem.specs.declared.pair.Pair.{Pair}
use Rattle.pesp_problem.specs.Sums.{scaled}
use Rattle.pesp_problem.specs.Arcs.{Net, arc_at, over_arcs}
use Rattle.pesp_problem.specs.Nodes.{Node, offsets_left, offset_part, slack_part, flow, leaf_value}
use Rattle.pesp_problem.proofs.Integers.{sum_below-sub}
use Rattle.pesp_problem.proofs.LeafValues.{IsWhole, offset_first, offset_more, offset_none, offset_all}
use Rattle.pesp_nodes.specs.Problems.{ArePairs}
use Rattle.pesp_nodes.specs.Values.{row_term_at}

-- the k-th pair's cycle is at least k + 1
pub place_below : (pairs : List Pair) (n k : ℕ) (d : Pair) → ArePairs n pairs → k < length pairs → k + 1 ≤ (get_or pairs k d).cycle
place_below pairs n zero d h l = (h.each 0 d l).names.0
place_below pairs n (suc k) d h l =
    let before = place_below pairs n k d h (omega arith) in
    let rises = h.rise k (suc k) d (omega arith) l in
    omega arith

pub few_pairs : (pairs : List Pair) (n k : ℕ) (d : Pair) → ArePairs n pairs → k < length pairs → k + 1 ≤ n
few_pairs pairs n k d h l =
    let below = place_below pairs n k d h l in
    let names = (h.each k d l).names.1 in
    omega arith

-- the first k pairs are added: with what is left they give the whole
pub record IsOffsetSum (n : Net) (table : List (List SignedRow)) (node : Node) (pairs : List Pair) (k : ℕ) (sum : ℤ) : Type 0 where
  pub is : IsWhole n.period sum (offset_part n table node (drop k pairs)) (offset_part n table node pairs)
  pub size : unsigned_abs sum ≤ k * (1000000000000 * 10300000000000)

pub offset_sum_none : (n : Net) (table : List (List SignedRow)) (node : Node) (pairs : List Pair) → IsOffsetSum n table node pairs 0 (pos 0)
offset_sum_none n table node pairs = record { is = offset_first n.period (offset_part n table node pairs); size = omega arith }

-- the k-th pair and those after it
pub left : (pairs : List Pair) (k : ℕ) (d : Pair) → k < length pairs → drop k pairs ≡ get_or pairs k d ∷ drop (k + 1) pairs
left pairs k d l = rw (add-one, drop-cons pairs k d) refl

pub offset_sum_more : (n : Net) (table : List (List SignedRow)) (node : Node) (pairs : List Pair) (k : ℕ)
    (d : Pair) (ends : ℤ × ℤ) (sum here sum' : ℤ) → k < length pairs
    → Some ends ≡ offsets_left n table node ((get_or pairs k d).cycle - 1)
    → here ≡ pos n.period *ℤ scaled (get_or pairs k d).mult ends.0 ends.1
    → unsigned_abs here ≤ 1000000000000 * 10300000000000 → sum' ≡ sum +ℤ here
    → IsOffsetSum n table node pairs k sum → IsOffsetSum n table node pairs (k + 1) sum'
offset_sum_more n table node pairs k d ends sum here sum' l e h small s before = record {
  is = rw s (offset_more n table node (drop k pairs) (drop (k + 1) pairs) (get_or pairs k d)
      (left pairs k d l) sum here ends (offset_part n table node pairs) e h before.is);
  size = (let size = before.size in omega (arith, ints));
}

pub offset_sum_stops : (n : Net) (table : List (List SignedRow)) (node : Node) (pairs : List Pair) (k : ℕ)
    (d : Pair) (sum : ℤ) → k < length pairs → None ≡ offsets_left n table node ((get_or pairs k d).cycle - 1)
    → IsOffsetSum n table node pairs k sum → ◌≡◌ {A = Option ℤ} None (option_map (λ z. pos n.period *ℤ z) (offset_part n table node pairs))
offset_sum_stops n table node pairs k d sum l e before =
    offset_none n table node (drop k pairs) (drop (k + 1) pairs) (get_or pairs k d) (left pairs k d l) sum
    (offset_part n table node pairs) e before.is

pub offset_sum_all : (n : Net) (table : List (List SignedRow)) (node : Node) (pairs : List Pair) (k : ℕ) (sum : ℤ)
    → length pairs ≤ k → IsOffsetSum n table node pairs k sum
    → Some sum ≡ option_map (λ z. pos n.period *ℤ z) (offset_part n table node pairs)
offset_sum_all n table node pairs k sum done before =
    offset_all n table node (drop k pairs) sum (offset_part n table node pairs) (drop_all k pairs done) before.is

-- ---- the whole

apart : (t a b offsets : ℤ) (o : Option ℤ) → Some offsets ≡ option_map (λ z. t *ℤ z) o
    → Some (offsets +ℤ (b -ℤ a)) ≡ option_map (λ z. t *ℤ z -ℤ a +ℤ b) o
apart t a b offsets None e = cc
apart t a b offsets (Some z) e = let f : offsets ≡ t *ℤ z = cc in
    let g : offsets +ℤ (b -ℤ a) ≡ t *ℤ z -ℤ a +ℤ b = omega (arith, ints) in ap Some g

-- offsets and rows together are the value
pub value_is : (n : Net) (table : List (List SignedRow)) (node : Node) (pairs : List Pair) (weighted : Bool)
    (offsets rows total : ℤ) → Some offsets ≡ option_map (λ z. pos n.period *ℤ z) (offset_part n table node pairs)
    → rows ≡ over_arcs n.arcs (λ i. row_term_at n.arcs node.slacks weighted i (flow table pairs i))
    → total ≡ offsets +ℤ rows → Some total ≡ leaf_value n table node pairs weighted
value_is n table node pairs weighted offsets rows total o r e =
    let lower = λ (i : ℕ). flow table pairs i *ℤ (arc_at n.arcs i).lower in
    let split = sum_below-sub (length n.arcs) (slack_part n table node pairs weighted) lower in
    let same : total ≡ offsets +ℤ (over_arcs n.arcs
    (slack_part n table node pairs weighted) -ℤ over_arcs n.arcs lower) = e
    ∙ ap (λ z. offsets +ℤ z) (r ∙ split) in
    ap Some same ∙ apart (pos n.period) (over_arcs n.arcs lower)
    (over_arcs n.arcs (slack_part n table node pairs weighted)) offsets (offset_part n table node pairs) o

pub few_all : (pairs : List Pair) (n : ℕ) → ArePairs n pairs → length pairs ≤ n
few_all pairs n h = elim (cases_lt 0 (length pairs)) [
  | inl some ↦ (let d : Pair = record { cycle = 0; mult = pos 0 } in
      let last = few_pairs pairs n (length pairs - 1) d h (omega arith) in omega arith)
  | inr none ↦ omega arith
]
