-- The net counts of the cycles, from the passages of the rows.
use Rattle.std.proofs.Common.{◌≡◌, ◌≢◌, ℕ, zero, suc, ◌+◌, ◌<◌, ◌≤◌, List, [], ◌∷◌, ◌++◌, length, get_or, set, take, All, Bool, true, false, ap, sym, ◌∙◌, refl, arith, inl, inr, add-one}
use Rattle.std.specs.Prelude.{ℤ, pos, ◌+ℤ◌, unsigned_abs, replicate, if◌then◌else◌, ◌==◌}
use Rattle.std.proofs.lemmas.Int.{ints}
use Rattle.std.proofs.lemmas.Bool.{cases_eq}
use Rattle.std.proofs.lemmas.List.{get_or-set_same, get_or-set_other, length-set, get_or_default}
use Rattle.std.proofs.lemmas.List.Elements.{All-push}
use Rattle.std.proofs.lemmas.List.Sums.{fold_more, fold_push}
use Rattle.pesp_problem.specs.declared.row.SignedRow.{SignedRow}
use Rattle.pesp_problem.specs.Sums.{sum_below}
use Rattle.pesp_problem.specs.Walks.{net_count}
use Rattle.pesp_problem.specs.Nodes.{cycle_at}
use Rattle.pesp_problem.proofs.Integers.{sum_below-same, sum_below-single}
use Rattle.pesp_problem.specs.declared.nets.NetCount.{NetCount}
use Rattle.pesp_nodes.specs.declared.passages.Passage.{Passage}
use Rattle.pesp_problem.specs.Nets.{sum_of, nets_at, AreNetCounts, AreNets}
use Rattle.pesp_nodes.specs.Nets.{of_cycle, IsRowAdded}
use Rattle.pesp_nodes.specs.Passages.{sum_over, passages_at, ArePassages}
use Rattle.pesp_problem.proofs.Counts.{eq-true, eq-false, amounts_short, amount_is}
use Rattle.pesp_nodes.proofs.Tables.{empty_at, length-replicate}

-- ---- one row

pub row_none : (place : ℕ) (nets : List (List NetCount)) → IsRowAdded place [] nets nets
row_none place nets = record { long = refl; sums = λ c l term. omega (arith, ints); places = λ n l h. h }

of_this : (term : ℕ → ℤ → ℤ) (place c cycle : ℕ) (count : ℤ) → cycle ≡ c + 1 → of_cycle term place c cycle count ≡ term place count
of_this term place c cycle count e = let pick : Bool → ℤ = λ b. if b then term place count else pos 0 in ap pick (eq-true cycle (c + 1) e)

of_another : (term : ℕ → ℤ → ℤ) (place c cycle : ℕ) (count : ℤ) → cycle ≢ c + 1 → of_cycle term place c cycle count ≡ pos 0
of_another term place c cycle count ne = let pick : Bool → ℤ = λ b. if b then term place count else pos 0 in
    ap pick (eq-false cycle (c + 1) ne)

-- one passage more
pub row_more : (place : ℕ) (passages : List Passage) (initial nets : List (List NetCount)) (k at : ℕ) (d : Passage)
    (row counts : List NetCount) (net : NetCount) → k < length passages → (get_or passages k d).cycle ≡ at + 1
    → at < length nets
    → net.place ≡ place → net.count ≡ (get_or passages k d).count → row ≡ get_or nets at row
    → counts ≡ row ++ net ∷ [] → IsRowAdded place (take k passages) initial nets
    → IsRowAdded place (take (k + 1) passages) initial (set nets at counts)
row_more place passages initial nets k at d row counts net l is inside here count read more_counts h = record {
  long = length-set nets at counts ∙ h.long;
  sums = λ c m term.
      let e = get_or passages k d in
      let pushed = written in
      let before = h.sums c m term in
      let more : sum_over (of_cycle term place c) (take (k + 1) passages)
      ≡ sum_over (of_cycle term place c) (take k passages) +ℤ of_cycle term place c e.cycle e.count =
      fold_more (λ z (e : Passage). z +ℤ of_cycle term place c e.cycle e.count) (pos 0) passages k d l in
      elim (cases_eq c at) [
        | inl same ↦
            let now : nets_at (set nets at counts) c
            ≡ nets_at nets at ++ net ∷ [] = ap (nets_at (set nets at counts)) same
            ∙ get_or-set_same nets at counts [] inside ∙ pushed in
            let sum : sum_of term (nets_at (set nets at counts) c)
            ≡ sum_of term (nets_at nets at) +ℤ term net.place net.count = ap (sum_of term) now
            ∙ fold_push (λ z (e : NetCount). z +ℤ term e.place e.count) (pos 0) (nets_at nets at) net in
            let was = ap (λ j. sum_of term (nets_at nets j)) same in
            let entry : term net.place net.count ≡ term place e.count = ap (λ p. term p net.count) here ∙ ap (term place) count in
            let this = of_this term place c e.cycle e.count (is ∙ ap (λ j. j + 1) (sym same)) in
            omega (arith, ints)
        | inr other ↦
            let now = ap (sum_of term) (get_or-set_other nets at c counts [] other) in
            let none = of_another term place c e.cycle e.count (λ q. other (omega arith)) in
            omega (arith, ints)
      ];
  places = λ n m before j e o.
      let all = h.places n m before in
      let pushed = written in
      let o' : j < length nets = omega (arith, length-set nets at counts) in
      elim (cases_eq j at) [
        | inl same ↦ rw (same, get_or-set_same nets at counts e inside, pushed)
            (All-push (λ (e : NetCount). e.place < n) (nets_at nets at) net (all at [] inside) (omega arith))
        | inr other ↦ rw (get_or-set_other nets at j counts e other) (all j e o')
      ];
}
  where
    written : counts ≡ nets_at nets at ++ net ∷ []
    written = let add : List NetCount → List NetCount = λ xs. xs ++ net ∷ [] in
        more_counts ∙ ap add (read ∙ get_or_default nets at row [] inside)

-- ---- the rows

-- the net counts of the cycles over the first k rows
pub record AreNetsTo (cycles : ℕ) (by_row : List (List Passage)) (nets : List (List NetCount)) (k : ℕ) : Type 0 where
  pub long : length nets ≡ cycles
  pub sums : (c : ℕ) → c < cycles → (term : ℕ → ℤ → ℤ)
      → sum_of term (nets_at nets c) ≡ sum_below k (λ i. sum_over (of_cycle term i c) (passages_at by_row i))
  pub places : (n : ℕ) → k ≤ n → All (All (λ (e : NetCount). e.place < n)) nets

nothing_placed : (cycles n : ℕ) → All (All (λ (e : NetCount). e.place < n)) (replicate cycles [])
nothing_placed zero n k d l = absurd (omega arith)
nothing_placed (suc cycles) n zero d l = λ i e m. absurd (omega arith)
nothing_placed (suc cycles) n (suc k) d l = nothing_placed cycles n k d (omega arith)

pub rows_none : (cycles : ℕ) (by_row : List (List Passage)) → AreNetsTo cycles by_row (replicate cycles []) 0
rows_none cycles by_row = record {
  long = length-replicate cycles [];
  sums = λ c l term. ap (sum_of term) (empty_at cycles c);
  places = λ n l. nothing_placed cycles n;
}

pub rows_more : (cycles : ℕ) (by_row : List (List Passage)) (nets nets' : List (List NetCount)) (k : ℕ)
    → IsRowAdded k (passages_at by_row k) nets nets' → AreNetsTo cycles by_row nets k
    → AreNetsTo cycles by_row nets' (k + 1)
rows_more cycles by_row nets nets' k added h = record {
  long = added.long ∙ h.long;
  sums = λ c l term.
      let f : ℕ → ℤ = λ i. sum_over (of_cycle term i c) (passages_at by_row i) in
      let long = h.long in
      let here = added.sums c (omega arith) term in
      let before = h.sums c l term in
      let last : sum_below (k + 1) f ≡ sum_below k f +ℤ f k = ap (λ j. sum_below j f) (add-one k) in
      omega (arith, ints);
  places = λ n l. added.places n (omega arith) (h.places n (omega arith));
}

-- the sum over a row's passages of one cycle is that of its net count
one_cycle : (n m : ℕ) (walks : List (List SignedRow)) (by_row : List (List Passage)) (c i : ℕ) (term : ℕ → ℤ → ℤ)
    → c < m → i < n → ((i : ℕ) → term i (pos 0) ≡ pos 0) → ArePassages n m walks by_row
    → sum_over (of_cycle term i c) (passages_at by_row i) ≡ term i (net_count (cycle_at walks c) i)
one_cycle n m walks by_row c i term l l' none are =
    let f : ℕ → ℤ = λ b. of_cycle term i c (b + 1) (net_count (cycle_at walks b) i) in
    let all = are.each i l' (of_cycle term i c) (λ b. zero_either (b == c + 1)) in
    let single : sum_below m f ≡ f c = sum_below-single m c f l
    (λ b o ne. of_another term i c (b + 1) (net_count (cycle_at walks b) i) (λ e. ne (omega arith))) in
    all ∙ single ∙ of_this term i c (c + 1) (net_count (cycle_at walks c) i) refl
  where
    zero_either : (b : Bool) → (if b then term i (pos 0) else pos 0) ≡ pos 0
    zero_either true = none i
    zero_either false = refl

pub nets_are : (n m : ℕ) (walks : List (List SignedRow)) (by_row : List (List Passage))
    (nets : List (List NetCount)) → length walks ≡ m → All (λ walk. length walk ≤ 10000000) walks
    → ArePassages n m walks by_row → AreNetsTo m by_row nets n → AreNets n walks nets
nets_are n m walks by_row nets long short are h = record { long = h.long ∙ sym long; each = λ c l. counts c (omega (arith, h.long)) }
  where
    sums : (c : ℕ) → c < m → (term : ℕ → ℤ → ℤ) → ((i : ℕ) → term i (pos 0) ≡ pos 0)
        → sum_of term (nets_at nets c) ≡ sum_below n (λ i. term i (net_count (cycle_at walks c) i))
    sums c l term none = h.sums c l term ∙ sum_below-same n
        (λ i. sum_over (of_cycle term i c) (passages_at by_row i)) (λ i. term i (net_count (cycle_at walks c) i))
        (λ i l'. one_cycle n m walks by_row c i term l l' none are)

    counts : (c : ℕ) → c < m → AreNetCounts n (cycle_at walks c) (nets_at nets c)
    counts c l = record {
      sums = sums c l;
      small = (
        h.places n (omega arith) c [] (omega (arith, h.long)),
        (let s = sums c l (λ i z. pos (unsigned_abs z)) (λ i. refl) in
            let a = amount_is (nets_at nets c) in
            let most = amounts_short n (cycle_at walks c) in
            let few = short c [] (omega arith) in
            omega (arith, ints)),
      );
    }
