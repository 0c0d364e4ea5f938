-- All open leaves are lent: the nodes that wait with a value below the best cost.
use Rattle.std.proofs.Common.{◌≡◌, ℕ, zero, suc, ◌+◌, ◌<◌, ◌≤◌, List, [], ◌∷◌, ◌++◌, length, get_or, drop, map, refl, sym, ap, ◌∙◌, arith, subst, append_assoc, append-nil, Bool, ◌⊎◌, inl, inr}
use Rattle.std.specs.Prelude.{◌↔◌, All, Contains, Option, Some, None, IsTrue, IsSome, IfSome, IfOk, IsErrAnd, Result, Ok, Err}
use Rattle.std.specs.Global.{Vec}
use Rattle.std.specs.List.Sorted.{IsPermutation}
use Rattle.std.proofs.lemmas.Bool.{cases_lt}
use Rattle.std.proofs.lemmas.List.{drop_all, drop_more, get_or_default, get_or_append_left, length-append, length-map}
use Rattle.std.proofs.lemmas.List.Elements.{All-nil, All-cons, All-head, All-tail, All-contains, Contains-append_cases, Contains-append_left}
use Rattle.std.proofs.lemmas.List.Sorted.{IsPermutation-refl, IsPermutation-sym, IsPermutation-trans, Contains-permutation, length_permutation}
use Rattle.pesp_problem.specs.declared.cut.Cut.{Cut}
use Rattle.pesp_problem.specs.declared.cut.Side.{Side}
use Rattle.pesp_truth.specs.Trees.{Bound}
use Rattle.pesp_truth.specs.Leaves.{leaf_paths}
use Rattle.pesp_nodes.specs.Problems.{ProblemValue}
use Rattle.pesp_tree.specs.WorkTrees.{WorkTreeValue, IsWhole, path_to, leaf_at}
use Rattle.pesp_tree.specs.declared.entry.Entry.{Entry}
use Rattle.pesp_tree.specs.Entries.{entry, entry_at, item_at, ItemsDiffer, IsFirst}
use Rattle.pesp_tree.specs.Queues.{QueueValue, all_of, front, QueueKeepsLimits}
use Rattle.pesp_tree.specs.declared.job.Job.{Job}
use Rattle.pesp_tree.specs.declared.refusal.LendRefusal.{LendRefusal}
use Rattle.pesp_tree.specs.declared.refusal.LendRefusal.TheVariants.{Memory, NumbersSpent}
use Rattle.pesp_tree.specs.States.{State, Lent}
use Rattle.pesp_tree.specs.Events.{IsCheaper}
use Rattle.pesp_tree.specs.Adopting.{AreOpenOf, AreNumbered, LendsEach, LendsAll, lends_of}
use Rattle.pesp_tree.proofs.Adopting.{Has, has_leaf, lends_each_run}
use Rattle.pesp_tree.proofs.Runs.{run_is_orderly}
use Rattle.pesp_board.specs.declared.best.Best.{Best}
use Rattle.pesp_board.specs.declared.slot.Slot.{Slot}
use Rattle.pesp_board.specs.declared.slot.Slot.TheVariants.{Lent as LentSlot}
use Rattle.pesp_board.specs.Insides.{ticket_of, times_of, best_cost_of, state_of, slot_at, IsLentNode, IsQueue, IsBoard}
use Rattle.pesp_board.specs.LendingAll.{WaitsCheaper, AreWaitingOf, AreOpenNodes, LendsNodes, ParksOpen}
use Rattle.pesp_board.proofs.Queues.{held_cases, held_more, held_first, apart}
use Rattle.pesp_board.proofs.Slots.{node_of_slot}
use Rattle.pesp_board.proofs.Growing.{site_within}
use Rattle.pesp_board.proofs.Parking.{Parks, parks_same, none_is_lent}
use Rattle.pesp_board.proofs.Lending.{some_leaf, waiting_opens, open_is}

-- ---- a node that waits

-- an item waits with one value
same_value : (q : QueueValue) (n v w : ℕ) → ItemsDiffer (all_of q) → Contains q.waiting (entry n v) → Contains q.waiting (entry n w) → v ≡ w
same_value q n v w differ h k =
    let i = h.0 in
    let j = k.0 in
    let first : entry_at q.waiting i ≡ entry n v = get_or_default q.waiting i (entry 0 0) (entry n v) h.1 ∙ h.2 in
    let second : entry_at q.waiting j ≡ entry n w = get_or_default q.waiting j (entry 0 0) (entry n w) k.1 ∙ k.2 in
    let at_i : item_at (all_of q) i ≡ n = ap (λ (e : Entry). e.item) (get_or_append_left q.waiting q.parked (entry 0 0) i h.1 ∙ first) in
    let at_j : item_at (all_of q) j ≡ n = ap (λ (e : Entry). e.item) (get_or_append_left q.waiting q.parked (entry 0 0) j k.1 ∙ second) in
    let long = length-append q.waiting q.parked in
    let here = h.1 in
    let there = k.1 in
    elim (cases_lt i j) [
      | inl less ↦ absurd (differ i j less (omega (arith, there, long)) (at_i ∙ sym at_j))
      | inr not_less ↦ elim (cases_lt j i) [
        | inl less ↦ absurd (differ j i less (omega (arith, here, long)) (at_j ∙ sym at_i))
        | inr not_more ↦ (let same : i ≡ j = omega (arith, not_less, not_more) in
            sym (ap (λ (e : Entry). e.value) first) ∙ ap (λ (m : ℕ). (entry_at q.waiting m).value) same
            ∙ ap (λ (e : Entry). e.value) second)
      ]
    ]

pub waits_as : (q : QueueValue) (best : Option Best) (node value : ℕ) (b : Bool) → QueueKeepsLimits q
    → Contains q.waiting (entry node value) → IsTrue b ↔ IsCheaper value (best_cost_of best)
    → IsTrue b ↔ WaitsCheaper q best node
waits_as q best node value b limits h c = (
  λ t. (value, h, c.0 t),
  λ w. c.1 (subst (λ (v : ℕ). IsCheaper v (best_cost_of best)) (same_value q node w.0 value limits.differ w.1 h) w.2),
)

-- ---- those that wait, one after the other

pub record Picked (q : QueueValue) (best : Option Best) (nodes : List ℕ) (k : ℕ) (opens : List ℕ) : Type 0 where
  pub all : (rest : List ℕ) → AreWaitingOf q best (drop k nodes) rest → AreWaitingOf q best nodes (opens ++ rest)

pub picked_none : (q : QueueValue) (best : Option Best) (nodes : List ℕ) → Picked q best nodes 0 []
picked_none q best nodes = record { all = λ rest h. h }

there_is : (nodes : List ℕ) (k : ℕ) → k < length nodes → drop k nodes ≡ get_or nodes k 0 ∷ drop (k + 1) nodes
there_is nodes k within = drop_more nodes k 0 within

module _ (q : QueueValue) (best : Option Best) (nodes : List ℕ) (k : ℕ) (within : k < length nodes)
    (opens : List ℕ) (before : Picked q best nodes k opens) where
  pub picked_more : (new : List ℕ) → WaitsCheaper q best (get_or nodes k 0) → new ≡ opens ++ get_or nodes k 0 ∷ []
      → Picked q best nodes (k + 1) new
  picked_more new waits e = record {
    all = λ rest h.
        let node = get_or nodes k 0 in
        let one : AreWaitingOf q best (node ∷ drop (k + 1) nodes) (node ∷ rest) = inl (rest, waits, refl, h) in
        let all = before.all (node ∷ rest) (subst (λ (l : List ℕ). AreWaitingOf q best l (node ∷ rest))
        (sym (there_is nodes k within)) one) in
        subst (AreWaitingOf q best nodes) (sym (append_assoc opens (node ∷ []) rest) ∙ ap (λ (l : List ℕ). l ++ rest) (sym e)) all;
  }

  pub picked_less : (WaitsCheaper q best (get_or nodes k 0) → ⊥) → Picked q best nodes (k + 1) opens
  picked_less not = record {
    all = λ rest h.
        let none : AreWaitingOf q best (get_or nodes k 0 ∷ drop (k + 1) nodes) rest = inr (not, h) in
        before.all rest (subst (λ (l : List ℕ). AreWaitingOf q best l rest) (sym (there_is nodes k within)) none);
  }

pub picked_all : (q : QueueValue) (best : Option Best) (nodes : List ℕ) (k : ℕ) (opens : List ℕ) → length nodes ≤ k
    → Picked q best nodes k opens → AreWaitingOf q best nodes opens
picked_all q best nodes k opens done before = subst (AreWaitingOf q best nodes) (append-nil opens)
    (before.all [] (subst (λ (l : List ℕ). AreWaitingOf q best l []) (sym (drop_all k nodes done)) refl))

pub opens_within : (t : WorkTreeValue) (q : QueueValue) (best : Option Best) (nodes opens : List ℕ)
    → All (λ (n : ℕ). IsSome (leaf_at t n)) nodes → AreWaitingOf q best nodes opens
    → All (λ (n : ℕ). n < length t.leaves) opens
opens_within t q best [] opens some h = subst (All (λ (n : ℕ). n < length t.leaves)) (sym h) (All-nil (λ (n : ℕ). n < length t.leaves))
opens_within t q best (m ∷ nodes) opens some (inl found) =
    let P : ℕ → Type 0 = λ n. IsSome (leaf_at t n) in
    let first = site_within t m (All-head P m nodes some) in
    subst (All (λ (n : ℕ). n < length t.leaves)) (sym (found.2))
    (All-cons (λ (n : ℕ). n < length t.leaves) m found.0 first
    (opens_within t q best nodes found.0 (All-tail P m nodes some) found.3))
opens_within t q best (m ∷ nodes) opens some (inr not) =
    opens_within t q best nodes opens (All-tail (λ (n : ℕ). IsSome (leaf_at t n)) m nodes some) not.1

pub found_within : {E : Type 0} (t : WorkTreeValue) (q : QueueValue) (best : Option Best) (nodes read : List ℕ)
    (r : Result (Vec ℕ) E) → read ≡ nodes → All (λ (n : ℕ). IsSome (leaf_at t n)) nodes
    → IfOk r (λ opens. AreWaitingOf q best read opens.items)
    → IfOk r (λ opens. All (λ (n : ℕ). n < length t.leaves) opens.items)
found_within t q best nodes read (Ok opens) e some h =
    opens_within t q best nodes opens.items some (subst (λ (l : List ℕ). AreWaitingOf q best l opens.items) e h)
found_within t q best nodes read (Err refused) e some h = tt

-- ---- their jobs

pub record Numbering (t : WorkTreeValue) (nodes : List ℕ) (first number k : ℕ) (jobs : List Job) : Type 0 where
  pub count : number ≡ first + k
  pub all : (rest : List Job) → AreNumbered number rest (map (path_to t) (drop k nodes))
      → AreNumbered first (jobs ++ rest) (map (path_to t) nodes)

pub numbering_none : (t : WorkTreeValue) (nodes : List ℕ) (first : ℕ) → Numbering t nodes first first 0 []
numbering_none t nodes first = record { count = omega arith; all = λ rest h. h }

pub numbering_more : (t : WorkTreeValue) (nodes : List ℕ) (first number k : ℕ) (jobs new : List Job) (job : Job)
    → k < length nodes → Numbering t nodes first number k jobs → job.number ≡ number
    → job.path.items ≡ path_to t (get_or nodes k 0) → new ≡ jobs ++ job ∷ []
    → Numbering t nodes first (number + 1) (k + 1) new
numbering_more t nodes first number k jobs new job within before numbered path e =
    let node = get_or nodes k 0 in
    let count = before.count in
    record {
      count = omega (arith, count);
      all = λ rest h.
          let paths = map (path_to t) (drop (k + 1) nodes) in
          let one : AreNumbered number (job ∷ rest) (path_to t node ∷ paths) =
          (paths, numbered, ap (λ (p : List (Cut × Side)). p ∷ paths) (sym path), h) in
          let all = before.all (job ∷ rest) (subst
          (λ (l : List ℕ). AreNumbered number (job ∷ rest) (map (path_to t) l))
          (sym (there_is nodes k within)) one) in
          subst (λ (js : List Job). AreNumbered first js (map (path_to t) nodes))
          (sym (append_assoc jobs (job ∷ []) rest) ∙ ap (λ (js : List Job). js ++ rest) (sym e)) all;
    }

pub numbering_all : (t : WorkTreeValue) (nodes : List ℕ) (first number k : ℕ) (jobs : List Job) → length nodes ≤ k
    → Numbering t nodes first number k jobs → AreNumbered first jobs (map (path_to t) nodes)
numbering_all t nodes first number k jobs done before =
    subst (λ (js : List Job). AreNumbered first js (map (path_to t) nodes)) (append-nil jobs)
    (before.all [] (ap (map (path_to t)) (drop_all k nodes done)))

-- ---- their slots

map_append : {A B : Type 0} (f : A → B) (xs ys : List A) → map f (xs ++ ys) ≡ map f xs ++ map f ys
map_append f [] ys = refl
map_append f (x ∷ xs) ys = ap (λ l. f x ∷ l) (map_append f xs ys)

-- ---- what is parked

pub record Parking (q r : QueueValue) (best : Option Best) : Type 0 where
  pub same : IsPermutation (all_of r) (all_of q)
  pub kept : (e : Entry) → Contains q.parked e → Contains r.parked e
  pub only : (e : Entry) → Contains r.parked e → Contains q.parked e ⊎ (Contains q.waiting e × IsCheaper e.value (best_cost_of best))

pub parking_none : (q : QueueValue) (best : Option Best) → Parking q q best
parking_none q best = record { same = IsPermutation-refl (all_of q); kept = λ e h. h; only = λ e h. inl h }

-- one that waits now waited before
waited : (q r : QueueValue) (best : Option Best) (e : Entry) → Parking q r best → ItemsDiffer (all_of r)
    → Contains r.waiting e → Contains q.waiting e
waited q r best e k differ h = elim (Contains-append_cases q.waiting q.parked e
    (Contains-permutation _ _ e k.same (Contains-append_left r.waiting r.parked e h))) [
      | inl waits ↦ waits
      | inr lies ↦ absurd (apart r e.item differ (e.value, h) (e.value, k.kept e lies))
    ]

pub parking_more : (q r s : QueueValue) (best : Option Best) (e : Entry) → Parking q r best → QueueKeepsLimits r
    → IsCheaper e.value (best_cost_of best) → Parks r s e → Parking q s best
parking_more q r s best e k limits cheap parks =
    let here = waited q r best e k limits.differ
    (Contains-permutation _ _ e (IsPermutation-sym _ _ parks.waiting) (held_first e s.waiting)) in
    record {
      same = IsPermutation-trans _ _ _ (parks_same r s e parks) k.same;
      kept = λ x h. Contains-permutation _ _ x parks.parked (held_more e r.parked x (k.kept x h));
      only = λ x h. elim (held_cases e r.parked x (Contains-permutation _ _ x (IsPermutation-sym _ _ parks.parked) h)) [
        | inl this ↦ inr (subst (λ (y : Entry). Contains q.waiting y × IsCheaper y.value (best_cost_of best)) this (here, cheap))
        | inr old ↦ k.only x old
      ];
    }

pub parks_front : (r s : QueueValue) (e : Entry) (o f : Option Entry) → o ≡ front r → f ≡ front r → f ≡ Some e
    → IfSome o (λ x. IsPermutation r.waiting (x ∷ s.waiting))
    → IfSome o (λ x. IsPermutation (x ∷ r.parked) s.parked) → Parks r s e
parks_front r s e o f same first is waiting parked =
    let it : o ≡ Some e = same ∙ sym first ∙ is in
    record {
      waiting = subst (λ (x : Option Entry). IfSome x (λ y. IsPermutation r.waiting (y ∷ s.waiting))) it waiting;
      parked = subst (λ (x : Option Entry). IfSome x (λ y. IsPermutation (y ∷ r.parked) s.parked)) it parked;
    }

pub fewer_wait : (r s : QueueValue) (e : Entry) → Parks r s e → length s.waiting < length r.waiting
fewer_wait r s e parks = let moved = length_permutation _ _ parks.waiting in omega (arith, moved)

all_parked : (q r : QueueValue) (best : Option Best) → Parking q r best
    → ((x : Entry) → Contains r.waiting x → IsCheaper x.value (best_cost_of best) → ⊥) → ParksOpen q r best
all_parked q r best k none = record {
  same = k.same;
  kept = k.kept;
  opens = λ x h cheap. elim (Contains-append_cases r.waiting r.parked x
      (Contains-permutation _ _ x (IsPermutation-sym _ _ k.same) (Contains-append_left q.waiting q.parked x h))) [
        | inl waits ↦ absurd (none x waits cheap)
        | inr lies ↦ lies
      ];
  only = k.only;
}

no_entry : (x : Entry) → Contains [] x → ⊥
no_entry x h = absurd (omega (arith, h.1))

pub parked_till_none : (q r : QueueValue) (best : Option Best) → Parking q r best → r.waiting ≡ [] → ParksOpen q r best
parked_till_none q r best k none = all_parked q r best k (λ x h cheap. no_entry x (subst (λ (l : List Entry). Contains l x) none h))

cheaper_below : (a b : ℕ) (cost : Option ℕ) → a ≤ b → IsCheaper b cost → IsCheaper a cost
cheaper_below a b None h k = tt
cheaper_below a b (Some c) h k = omega (arith, h, k)

pub parked_till_dear : (q r : QueueValue) (best : Option Best) (e : Entry) → Parking q r best → IsFirst r.waiting e
    → (IsCheaper e.value (best_cost_of best) → ⊥) → ParksOpen q r best
parked_till_dear q r best e k first dear =
    all_parked q r best k (λ x h cheap. dear (cheaper_below e.value x.value (best_cost_of best)
    (All-contains (λ (y : Entry). e.value ≤ y.value) r.waiting x first.1 h) cheap))

-- ---- nodes among others

abbrev Holds : ℕ → List ℕ → Type 0
Holds n [] = ⊥
Holds n (m ∷ nodes) = (n ≡ m) ⊎ Holds n nodes

first_or_rest : (q : QueueValue) (best : Option Best) (n m : ℕ) (rest : List ℕ) → WaitsCheaper q best m
    → (Holds n rest → WaitsCheaper q best n) → (n ≡ m) ⊎ Holds n rest → WaitsCheaper q best n
first_or_rest q best n m rest first others (inl same) = subst (WaitsCheaper q best) (sym same) first
first_or_rest q best n m rest first others (inr h) = others h

holds_waits : (q : QueueValue) (best : Option Best) (nodes opens : List ℕ) (n : ℕ)
    → AreWaitingOf q best nodes opens → Holds n opens → WaitsCheaper q best n
holds_waits q best [] opens n h k = absurd (subst (Holds n) h k)
holds_waits q best (m ∷ nodes) opens n (inl found) k =
    first_or_rest q best n m found.0 (found.1) (λ h. holds_waits q best nodes found.0 n (found.3) h)
    (subst (Holds n) (found.2) k)
holds_waits q best (m ∷ nodes) opens n (inr not) k = holds_waits q best nodes opens n not.1 k

waits_holds : (q : QueueValue) (best : Option Best) (nodes opens : List ℕ) (n : ℕ)
    → AreWaitingOf q best nodes opens → Holds n nodes → WaitsCheaper q best n → Holds n opens
waits_holds q best [] opens n h k w = absurd k
waits_holds q best (m ∷ nodes) opens n (inl found) (inl same) w = subst (Holds n) (sym (found.2)) (inl same)
waits_holds q best (m ∷ nodes) opens n (inl found) (inr k) w =
    subst (Holds n) (sym (found.2)) (inr (waits_holds q best nodes found.0 n (found.3) k w))
waits_holds q best (m ∷ nodes) opens n (inr not) (inl same) w = absurd (not.0 (subst (WaitsCheaper q best) same w))
waits_holds q best (m ∷ nodes) opens n (inr not) (inr k) w = waits_holds q best nodes opens n not.1 k w

-- a node with a leaf is the one among these whose path is its own
held_by_path : (t : WorkTreeValue) (nodes : List ℕ) (n : ℕ) → IsWhole t
    → All (λ (m : ℕ). IsSome (leaf_at t m)) nodes → IsSome (leaf_at t n)
    → Has (path_to t n) (map (path_to t) nodes) → Holds n nodes
held_by_path t [] n w some own h = absurd h
held_by_path t (m ∷ nodes) n w some own (inl same) = inl (w.one n m own (All-head (λ (k : ℕ). IsSome (leaf_at t k)) m nodes some) same)
held_by_path t (m ∷ nodes) n w some own (inr rest) =
    inr (held_by_path t nodes n w (All-tail (λ (k : ℕ). IsSome (leaf_at t k)) m nodes some) own rest)

lent_cases : (slots : List Slot) (nodes : List ℕ) (i n : ℕ) → slot_at (slots ++ map LentSlot nodes) i ≡ LentSlot n
    → (slot_at slots i ≡ LentSlot n) ⊎ Holds n nodes
lent_cases [] [] i n e = absurd (none_is_lent i n e)
lent_cases [] (m ∷ nodes) zero n e = inr (inl (sym (node_of_slot m n e)))
lent_cases [] (m ∷ nodes) (suc i) n e = elim (lent_cases [] nodes i n e) [ inl x ↦ absurd (none_is_lent i n x) | inr h ↦ inr (inr h) ]
lent_cases (s ∷ slots) nodes zero n e = inl e
lent_cases (s ∷ slots) nodes (suc i) n e = lent_cases slots nodes i n e

lent_before : (slots more : List Slot) (i n : ℕ) → slot_at slots i ≡ LentSlot n → slot_at (slots ++ more) i ≡ LentSlot n
lent_before [] more i n e = absurd (none_is_lent i n e)
lent_before (s ∷ slots) more zero n e = e
lent_before (s ∷ slots) more (suc i) n e = lent_before slots more i n e

lent_new : (slots : List Slot) (nodes : List ℕ) (n : ℕ) → Holds n nodes → IsLentNode (slots ++ map LentSlot nodes) n
lent_new [] [] n h = absurd h
lent_new [] (m ∷ nodes) n (inl same) = (0, ap LentSlot (sym same))
lent_new [] (m ∷ nodes) n (inr h) = let rest = lent_new [] nodes n h in (suc rest.0, rest.1)
lent_new (s ∷ slots) nodes n h = let rest = lent_new slots nodes n h in (suc rest.0, rest.1)

all_lent_queue : (p : ProblemValue) (t : WorkTreeValue) (slots : List Slot) (q r : QueueValue) (best : Option Best)
    (opens : List ℕ) → IsWhole t → IsQueue p t slots q → AreOpenNodes t q best opens → ParksOpen q r best
    → IsQueue p t (slots ++ map LentSlot opens) r
all_lent_queue p t slots q r best opens w is o k = record {
  each = λ e h. is.each e (Contains-permutation _ _ e k.same h);
  has = λ n pairs l. let old = is.has n pairs l in (old.0, Contains-permutation _ _ _ (IsPermutation-sym _ _ k.same) old.1);
  lent = λ n l. elim (lent_cases slots opens l.0 n l.1) [
    | inl before ↦ (let old = is.lent n (l.0, before) in (old.0, k.kept (entry n old.0) old.1))
    | inr new ↦ (let waits = holds_waits q best o.nodes opens n o.those new in (waits.0, k.opens (entry n waits.0) waits.1 waits.2))
  ];
  parked = λ n h. elim (k.only (entry n h.0) h.1) [
    | inl old ↦ (let before = is.parked n (h.0, old) in (before.0, lent_before slots (map LentSlot opens) before.0 n before.1))
    | inr waits ↦
        let worth = is.each (entry n h.0) (Contains-append_left q.waiting q.parked (entry n h.0) waits.0) in
        let path = has_leaf t.tree (path_to t n) (Bound worth.pairs) (w.stands n (Bound worth.pairs) worth.leaf) in
        let among = held_by_path t o.nodes n w o.leaves (some_leaf (leaf_at t n) (Bound worth.pairs) worth.leaf)
        (subst (Has (path_to t n)) (sym o.paths) path) in
        lent_new slots opens n (waits_holds q best o.nodes opens n o.those among (h.0, waits.0, waits.1))
  ];
}

-- ---- the state

module _ (p : ProblemValue) (t : WorkTreeValue) (slots : List Slot) (q : QueueValue) (best : Option Best)
    (count : ℕ) (b : IsBoard p t slots q best count) (differ : ItemsDiffer (all_of q)) where
  abbrev pub state : State
  state = state_of t slots (times_of best)

  opens_are : (nodes opens : List ℕ) → All (λ (n : ℕ). IsSome (leaf_at t n)) nodes
      → AreWaitingOf q best nodes opens → AreOpenOf p state (map (path_to t) nodes) (map (path_to t) opens)
  opens_are [] opens some h = ap (map (path_to t)) h
  opens_are (n ∷ nodes) opens some (inl found) =
      let P : ℕ → Type 0 = λ m. IsSome (leaf_at t m) in
      let waits = found.1 in
      inl (
        map (path_to t) found.0,
        waiting_opens p t slots q best count
            (entry n waits.0) b differ waits.1 waits.2,
        ap (map (path_to t)) (found.2),
        opens_are nodes found.0 (All-tail P n nodes some) (found.3),
      )
  opens_are (n ∷ nodes) opens some (inr not) =
      let P : ℕ → Type 0 = λ m. IsSome (leaf_at t m) in
      inr (
        λ o. not.0 (open_is p t slots q best count n b (All-head P n nodes some) o),
        opens_are nodes opens (All-tail P n nodes some) not.1,
      )

  module _ (opens : List ℕ) (o : AreOpenNodes t q best opens) where
    all_open : AreOpenOf p state (leaf_paths t.tree) (map (path_to t) opens)
    all_open = subst (λ (paths : List (List (Cut × Side))). AreOpenOf p state paths (map (path_to t) opens))
        o.paths (opens_are o.nodes opens o.leaves o.those)

    tickets_are : (new : List Slot) → new ≡ slots ++ map LentSlot opens
        → map (ticket_of t) new ≡ map (ticket_of t) slots ++ map Lent (map (path_to t) opens)
    tickets_are new e = ap (map (ticket_of t)) e ∙ map_append (ticket_of t) slots (map LentSlot opens)
        ∙ ap (λ tickets. map (ticket_of t) slots ++ tickets) (lent_tickets opens)
      where
        lent_tickets : (nodes : List ℕ) → map (ticket_of t) (map LentSlot nodes) ≡ map Lent (map (path_to t) nodes)
        lent_tickets [] = refl
        lent_tickets (n ∷ nodes) = ap (λ l. Lent (path_to t n) ∷ l) (lent_tickets nodes)

    each_lent : (jobs : Vec Job) (new : List Slot) → LendsNodes t slots opens (Ok jobs) new
        → LendsEach p state jobs.items (state_of t new (times_of best))
    each_lent jobs new l =
        let paths = map (path_to t) opens in
        let long = length-map slots (ticket_of t) in
        let many = length-map opens (path_to t) in
        let left = l.2 in
        record {
          paths = paths;
          opens = all_open;
          numbered = subst (λ (n : ℕ). AreNumbered n jobs.items paths) (sym long) l.1;
          left = omega (arith, long, many, left);
          state = ap (λ numbers. record { tree = t.tree; numbers = numbers; best = times_of best }) (tickets_are new l.0);
        }

    pub lends_all : (result : Result (Vec Job) LendRefusal) (new : List Slot) → LendsNodes t slots opens result new
        → LendsAll p state result (state_of t new (times_of best))
    lends_all (Ok jobs) new l = each_lent jobs new l
    lends_all (Err NumbersSpent) new l =
        let long = length-map slots (ticket_of t) in
        let many = length-map opens (path_to t) in
        let spent = l.1 in
        (ap (λ (s : List Slot). state_of t s (times_of best)) l.0, (map (path_to t) opens, all_open, omega (arith, long, many, spent)))
    lends_all (Err Memory) new l = ap (λ (s : List Slot). state_of t s (times_of best)) l

    pub all_lent_board : (jobs : Vec Job) (new : List Slot) (r : QueueValue)
        → LendsNodes t slots opens (Ok jobs) new → ParksOpen q r best → IsBoard p t new r best count
    all_lent_board jobs new r l k = record {
      network = b.network;
      table = b.table;
      whole = b.whole;
      orderly = run_is_orderly p (lends_of jobs.items) state
          (state_of t new (times_of best)) b.network b.table b.orderly
          (lends_each_run p state (state_of t new (times_of best)) jobs.items (each_lent jobs new l));
      queue = rw (l.0) (all_lent_queue p t slots q r best opens b.whole b.queue o k);
      cost = b.cost;
      pairs = b.pairs;
    }

-- the nodes as they are read
pub opens_read : (t : WorkTreeValue) (q : QueueValue) (best : Option Best) (opens read : List ℕ) → read ≡ opens
    → AreOpenNodes t q best opens → AreOpenNodes t q best read
opens_read t q best opens read e o = subst (AreOpenNodes t q best) (sym e) o

-- a refusal that is told on
pub lends_told : (p : ProblemValue) (old new : State) (result : Result (Vec Job) LendRefusal)
    (refusal : LendRefusal) → IsErrAnd result (λ told. told ≡ refusal) → LendsAll p old (Err refusal) new
    → LendsAll p old result new
lends_told p old new (Ok jobs) refusal e l = absurd e
lends_told p old new (Err told) refusal e l = subst (λ (x : LendRefusal). LendsAll p old (Err x) new) (sym e) l
