-- Flows as they are added up, pair by pair.
use Rattle.std.proofs.Common.{◌≡◌, ℕ, ◌+◌, ◌-◌, ◌*◌, ◌^◌, ◌<◌, ◌≤◌, arith, ap, List, length, get_or, drop}
use Rattle.std.specs.Prelude.{ℤ, pos, ◌+ℤ◌, ◌*ℤ◌, unsigned_abs}
use Rattle.std.proofs.lemmas.Int.{ints}
use Rattle.std.proofs.lemmas.List.{drop_all}
use Rattle.pesp_problem.specs.declared.nets.NetCount.{NetCount}
use Rattle.pesp_problem.specs.declared.row.SignedRow.{SignedRow}
use Rattle.pesp_problem.specs.declared.pair.Pair.{Pair}
use Rattle.pesp_problem.specs.Walks.{Names, net_count}
use Rattle.pesp_problem.specs.Nodes.{flow, cycle_at}
use Rattle.pesp_problem.specs.Nets.{count_of, nets_at, AreNets}
use Rattle.pesp_problem.specs.Terms.{number_at}
use Rattle.pesp_problem.proofs.Flowing.{count_is}
use Rattle.pesp_nodes.proofs.LeafValues.{left}

-- the flows of the first k pairs
pub record AreMade (n : ℕ) (table : List (List NetCount)) (pairs : List Pair) (k : ℕ) (flows : List ℤ) : Type 0 where
  pub sum : (walks : List (List SignedRow)) → AreNets n walks table → (i : ℕ) → i < n
      → number_at flows i +ℤ flow walks (drop k pairs) i ≡ flow walks pairs i
  pub size : (i : ℕ) → i < n → unsigned_abs (number_at flows i) ≤ k * 10 ^ 19

pub made_none : (n : ℕ) (table : List (List NetCount)) (pairs : List Pair) (flows : List ℤ)
    → ((i : ℕ) → i < n → number_at flows i ≡ pos 0) → AreMade n table pairs 0 flows
made_none n table pairs flows zeros = record {
  sum = λ walks nets i l. omega (arith, ints, zeros i l);
  size = λ i l. omega (arith, ap unsigned_abs (zeros i l));
}

pub made_more : (n : ℕ) (table : List (List NetCount)) (pairs : List Pair) (k : ℕ) (d : Pair)
    (flows flows' : List ℤ) → k < length pairs → Names (length table) (get_or pairs k d).cycle
    → ((i : ℕ) → i < n → number_at flows' i ≡ number_at flows i
    +ℤ (get_or pairs k d).mult *ℤ count_of (nets_at table ((get_or pairs k d).cycle - 1)) i)
    → ((i : ℕ) → i < n → unsigned_abs (number_at flows' i) ≤ unsigned_abs (number_at flows i) + 10 ^ 19)
    → AreMade n table pairs k flows → AreMade n table pairs (k + 1) flows'
made_more n table pairs k d flows flows' l names more small before = record {
  sum = λ walks nets i m.
      let p = get_or pairs k d in
      let c = p.cycle - 1 in
      let net = count_is n (cycle_at walks c) (nets_at table c) i (nets.each c (omega (arith, names.0, names.1))) m in
      let whole : flow walks (drop k pairs) i ≡ p.mult *ℤ net_count (cycle_at walks c) i
      +ℤ flow walks (drop (k + 1) pairs) i = ap (λ (ps : List Pair). flow walks ps i) (left pairs k d l) in
      omega (arith, ints, more i m, before.sum walks nets i m, whole, ap (λ z. p.mult *ℤ z) net);
  size = λ i m. omega (arith, small i m, before.size i m);
}

-- all pairs are added
pub made_all : (n : ℕ) (table : List (List NetCount)) (pairs : List Pair) (k : ℕ) (flows : List ℤ)
    → length pairs ≤ k → AreMade n table pairs k flows → (walks : List (List SignedRow)) → AreNets n walks table
    → (i : ℕ) → i < n → number_at flows i ≡ flow walks pairs i
made_all n table pairs k flows done before walks nets i l =
    let none : flow walks (drop k pairs) i ≡ pos 0 = ap (λ (ps : List Pair). flow walks ps i) (drop_all k pairs done) in
    omega (arith, ints, before.sum walks nets i l, none)
