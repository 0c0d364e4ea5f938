-- Flows as they are added up, pair by pair.
use Rattle.std.proofs.Common.{◌≡◌, ℕ, ◌+◌, ◌-◌, ◌*◌, ◌^◌, ◌<◌, ◌≤◌, arith, refl, ap, sym, ◌∙◌, List, [], ◌∷◌, length, fold, subst, Bool, true, false}
use Rattle.std.specs.Prelude.{ℤ, pos, ◌+ℤ◌, ◌*ℤ◌, unsigned_abs, if◌then◌else◌, ◌==◌, count_by, cond, All, ◌↔◌}
use Rattle.std.proofs.lemmas.Int.{ints}
use Rattle.std.proofs.lemmas.List.Elements.{All-cons, All-head, All-tail}
use Rattle.std.proofs.lemmas.List.Sums.{sum_by-cons}
use Rattle.pesp_problem.specs.declared.nets.NetCount.{NetCount}
use Rattle.pesp_problem.specs.declared.row.SignedRow.{SignedRow}
use Rattle.pesp_problem.specs.declared.pair.Pair.{Pair}
use Rattle.pesp_problem.specs.Walks.{Names, net_count}
use Rattle.pesp_problem.specs.Nodes.{flow, cycle_at}
use Rattle.pesp_problem.specs.Nets.{count_of, nets_at, AreNets}
use Rattle.pesp_problem.specs.Terms.{number_at}
use Rattle.pesp_problem.proofs.Flowing.{count_is}
use Rattle.pesp_leaves.specs.Flows.{entries_at, ArePairsOf}

-- no entry, nothing added
none_counted : (counts : List NetCount) (i : ℕ) (z : ℤ) → count_by (λ e. e.place == i) counts ≡ 0
    → fold (λ z e. z +ℤ (if e.place == i then e.count else pos 0)) z counts ≡ z
none_counted [] i z h = refl
none_counted (e ∷ counts) i z h =
    let more = sum_by-cons (λ (e : NetCount). cond (e.place == i) 1 0) e counts in
    let here = not_here (e.place == i) (omega arith) in
    let pick : Bool → ℤ = λ b. if b then e.count else pos 0 in
    ap (λ b. fold (λ z (e : NetCount). z +ℤ (if e.place == i then e.count else pos 0)) (z +ℤ pick b) counts) here
    ∙ none_counted counts i (z +ℤ pos 0) (omega arith) ∙ add_zero z
  where
    not_here : (b : Bool) → ◌≡◌ {A = ℕ} (cond b 1 0) 0 → b ≡ false
    not_here true h = absurd (omega arith)
    not_here false h = refl

    add_zero : (z : ℤ) → z +ℤ pos 0 ≡ z
    add_zero z = omega (arith, ints)

pub none_of : (counts : List NetCount) (i : ℕ) → count_by (λ e. e.place == i) counts ≡ 0 → count_of counts i ≡ pos 0
none_of counts i h = none_counted counts i (pos 0) h

-- the first of the pairs that are left, and the others
pub pairs_apart : (cycles : ℕ) (left rest : List Pair) (p : Pair) → left ≡ p ∷ rest → ArePairsOf cycles left
    → (Names cycles p.cycle × (unsigned_abs p.mult ≤ 1000000000000)) × ArePairsOf cycles rest
pairs_apart cycles left rest p is are =
    let P : List Pair → Type 0 = ArePairsOf cycles in
    let Q : Pair → Type 0 = λ pair. Names cycles pair.cycle × (unsigned_abs pair.mult ≤ 1000000000000) in
    let both = subst P is are in
    (All-head Q p rest both.0, (All-tail Q p rest both.0, omega (arith, both.1)))

-- whether all the others are tells whether all are
pub exist_more : {X : Type 0} (P : X → Type 0) (left rest : List X) (x : X) (Q : Type 0) → left ≡ x ∷ rest → P x
    → All P left ↔ Q → All P rest ↔ Q
exist_more {X} P left rest x Q is here same =
    let R : List X → Type 0 = All P in
    (λ others. same.0 (subst R (sym is) (All-cons P x rest here others)), λ q. All-tail P x rest (subst R is (same.1 q)))

-- the flows of the pairs before those that are left
pub record AreMade (n : ℕ) (table : List (List NetCount)) (pairs left : List Pair) (flows : List ℤ) : Type 0 where
  pub exist : ArePairsOf (length table) left
  pub sum : (walks : List (List SignedRow)) → AreNets n walks table → (i : ℕ) → i < n
      → number_at flows i +ℤ flow walks left i ≡ flow walks pairs i
  pub size : (i : ℕ) → i < n → unsigned_abs (number_at flows i) + length left * 10 ^ 19 ≤ 100000 * 10 ^ 19
  pub fewer : (i : ℕ) → entries_at table left i ≤ entries_at table pairs i
  pub untouched : (i : ℕ) → i < n → entries_at table pairs i ≤ entries_at table left i → number_at flows i ≡ pos 0

pub made_none : (n : ℕ) (table : List (List NetCount)) (pairs : List Pair) (flows : List ℤ)
    → ArePairsOf (length table) pairs → ((i : ℕ) → i < n → number_at flows i ≡ pos 0)
    → AreMade n table pairs pairs flows
made_none n table pairs flows are zeros = record {
  exist = are;
  sum = λ walks nets i l. omega (arith, ints, zeros i l);
  size = λ i l. omega (arith, are.1, ap unsigned_abs (zeros i l));
  fewer = λ i. omega arith;
  untouched = λ i l none. zeros i l;
}

module _ (n : ℕ) (table : List (List NetCount)) (pairs left rest : List Pair) (p : Pair) (flows : List ℤ)
    (is : left ≡ p ∷ rest) (before : AreMade n table pairs left flows) where
  exists : (Names (length table) p.cycle × (unsigned_abs p.mult ≤ 1000000000000)) × ArePairsOf (length table) rest
  exists = pairs_apart (length table) left rest p is before.exist

  more_entries : (i : ℕ) → entries_at table left i ≡ count_by (λ e. e.place == i) (nets_at table (p.cycle - 1)) + entries_at table rest i
  more_entries i = ap (λ (ps : List Pair). entries_at table ps i) is
      ∙ sum_by-cons (λ (pair : Pair). count_by (λ (e : NetCount). e.place == i) (nets_at table (pair.cycle - 1))) p
      rest

  pub made_more : (flows' : List ℤ) → ((i : ℕ) → i < n
      → number_at flows' i ≡ number_at flows i +ℤ p.mult *ℤ count_of (nets_at table (p.cycle - 1)) i)
      → ((i : ℕ) → i < n → unsigned_abs (number_at flows' i) ≤ unsigned_abs (number_at flows i) + 10 ^ 19)
      → AreMade n table pairs rest flows'
  made_more flows' more small = record {
    exist = exists.1;
    sum = λ walks nets i l.
        let c = p.cycle - 1 in
        let net = count_is n (cycle_at walks c) (nets_at table c) i (nets.each c (omega (arith, exists.0))) l in
        let whole : flow walks left i ≡ p.mult *ℤ net_count (cycle_at walks c) i +ℤ flow walks rest i =
        ap (λ (ps : List Pair). flow walks ps i) is in
        omega (arith, ints, more i l, before.sum walks nets i l, whole, ap (λ z. p.mult *ℤ z) net);
    size = λ i l. omega (arith, small i l, before.size i l, ap length is);
    fewer = λ i. omega (arith, before.fewer i, more_entries i);
    untouched = λ i l none.
        let zero = none_of (nets_at table (p.cycle - 1)) i (omega (arith, more_entries i, before.fewer i)) in
        omega (arith, ints, more i l, before.untouched i l (omega (arith, more_entries i)), ap (λ z. p.mult *ℤ z) zero);
  }
