-- A lent leaf at whose node nothing is left to cut: the least slacks come from times, which cost no more than the leaf is worth.
use Rattle.std.proofs.Common.{◌≡◌, ℕ, ◌+◌, ◌-◌, ◌<◌, ◌≤◌, refl, Bool, true, false, ◌⊎◌, inl, inr, List, [], ◌∷◌, ◌++◌, length, length-append, ap, arith, sym, ◌∙◌, subst}
use Rattle.std.specs.Prelude.{ℤ, pos, ◌≤ℤ◌, All, slice_index, Option, Some, None, option_map, nat_le, IsSomeAnd}
use Rattle.std.proofs.lemmas.Int.{ints}
use Rattle.std.proofs.lemmas.Bool.{leb-false}
use Rattle.std.proofs.lemmas.List.{get_or_append_left}
use Rattle.std.proofs.Math.Seq.{get_or-append_seam}
use Rattle.pesp_problem.specs.declared.row.SignedRow.{SignedRow}
use Rattle.pesp_problem.specs.declared.pair.Pair.{Pair}
use Rattle.pesp_problem.specs.Timetables.{cost}
use Rattle.pesp_problem.specs.Arcs.{Net, arc_at, arcs_of, net_of as instance_net, slacks_at}
use Rattle.pesp_problem.specs.NetTimetables.{IsNetTimetable, net_cost}
use Rattle.pesp_problem.specs.Walks.{HasWholeOffset}
use Rattle.pesp_problem.specs.Forests.{AreFundamental}
use Rattle.pesp_problem.specs.Nodes.{Node, slack_range, cycle_at, leaf_value}
use Rattle.pesp_problem.proofs.NetTimetables.{limits_in_order, net_timetables, net_cost-is}
use Rattle.pesp_network.specs.declared.row.NetRow.{NetRow}
use Rattle.pesp_network.specs.Networks.{NetworkValue, HasOpenRow, KeepsNetLimits, net_of_network, net_row_at, no_net_row}
use Rattle.pesp_nodes.specs.Problems.{ProblemValue, problem_net, IsSmallTable}
use Rattle.pesp_tree.specs.declared.job.Job.{Job}
use Rattle.pesp_problem.specs.declared.cut.Cut.{Cut}
use Rattle.pesp_problem.specs.declared.cut.Side.{Side}
use Rattle.pesp_tree.specs.BoardLeaves.{told}
use Rattle.pesp_tree.specs.States.{State, HasLeaf, IsJobLeaf, node_at, value_at, best_cost}
use Rattle.pesp_tree.specs.Reached.{IsOrderly}
use Rattle.pesp_tree.proofs.Costs.{costs_are_small, told_alike}
use Rattle.pesp_tree.specs.Events.{LendsLeaf, Offers, Recalls}
use Rattle.pesp_reduce.specs.Reductions.{ReducedValue, origin_place}
use Rattle.pesp_branching.specs.Settled.{low_slack}
use Rattle.pesp_branching.proofs.Settled.{settled_offsets, settled_value}
use Rattle.pesp_branching.specs.Turns.{IsWorked}
use Rattle.pesp_branching.proofs.Ends.{same_net}
use Rattle.pesp_branching.proofs.Sizes.{leaf_pairs}
use Rattle.pesp_branching.proofs.Turns.{settles}
use Rattle.pesp_branching.specs.Lifted.{AreSlacksOf, AreWithin, weighted}
use Rattle.pesp_branching.proofs.Replies.{lent_leaf}
use Rattle.pesp_turns.specs.Settling.{Settles, HaveLeastSlacks}
use Rattle.pesp_turns.specs.Turning.{IsSettledByTimes, OffersInVain}
use Rattle.pesp_tree.proofs.OneSize.{same_path, same_pairs}
use Rattle.pesp_turns.proofs.Leasts.{AreBelowTo, none_below, more_below}
use Rattle.pesp_branching.proofs.Slacks.{origin_inside, offsets_come_back, timetable_again, costs_no_more}
use Rattle.pesp_branching.proofs.Tables.{any_default}

some_period : (p : ProblemValue) (r : ReducedValue) (node : Node) → Settles p r node → 0 < (problem_net p).period
some_period p r node s = let e = s.searched.of.period in let some = s.searched.limits.some_period in omega (arith, e, some)

-- no least slack goes beyond the span
pub low_within : (p : ProblemValue) (r : ReducedValue) (node : Node) → Settles p r node
    → AreWithin (instance_net r.original) (low_slack node)
low_within p r node s = subst (λ (n : Net). AreWithin n (low_slack node)) (same_net r.original p s.searched.of)
    (λ i l. let some = s.slacks i l in let most = s.spans i l in omega (arith, some, most))

-- the walks of what is left have whole offsets
pub whole_offsets : (p : ProblemValue) (r : ReducedValue) (node : Node) (left : List ℕ) (s : Settles p r node)
    → AreSlacksOf r (low_slack node) left → All (HasWholeOffset (net_of_network r.network) (slice_index left))
    s.searched.walks
whole_offsets p r node left s a c d l =
    let inside : c < length p.table = (let long = s.searched.lifted.long in omega (arith, l, long)) in
    let there = settled_offsets (problem_net p) p.table node c (some_period p r node s) s.settled s.slacks s.left inside in
    let here = subst (λ (n : Net). HasWholeOffset n (low_slack node) (cycle_at p.table c)) (same_net r.original p s.searched.of) there in
    subst (HasWholeOffset (net_of_network r.network) (slice_index left)) (any_default s.searched.walks c [] d l)
    (offsets_come_back r (cycle_at s.searched.walks c) (cycle_at p.table c)
    (low_slack node) left s.searched.reduced ((s.searched.fundamental.each c [] l).closes)
    (s.searched.lifted.each c l) (low_within p r node s) a here)

lifted_timetable : (p : ProblemValue) (r : ReducedValue) (node : Node) (lifted : List ℕ) → Settles p r node
    → HaveLeastSlacks r node lifted → IsNetTimetable (problem_net p) p.network.events lifted
lifted_timetable p r node lifted s t =
    let e = s.searched.of.period in
    let some = s.searched.limits.some_period in
    let net = (net_timetables r.original lifted (omega (arith, some)) (limits_in_order r.original s.searched.limits)).0 t.timetable in
    subst (λ (n : Net). IsNetTimetable n p.network.events lifted) (sym (same_net r.original p s.searched.of))
    (subst (λ (k : ℕ). IsNetTimetable (instance_net r.original) k lifted) (sym s.searched.of.events) net)

at_value : (value : Option ℤ) (v w : ℤ) → value ≡ Some v → w ≤ℤ v → IsSomeAnd value (λ x. w ≤ℤ x)
at_value value v w e h = rw e h

worth_it : (p : ProblemValue) (r : ReducedValue) (node : Node) (lifted : List ℕ) (pairs : List Pair)
    → Settles p r node → HaveLeastSlacks r node lifted
    → All (λ (pair : Pair). (1 ≤ pair.cycle) × (pair.cycle ≤ length p.table)) pairs
    → IsSomeAnd (leaf_value (problem_net p) p.table node pairs true) (λ v. pos (net_cost (problem_net p) lifted) ≤ℤ v)
worth_it p r node lifted pairs s t exist =
    let value = settled_value (problem_net p) p.table node pairs true (some_period p r node s) s.settled s.slacks s.left exist in
    let more = costs_no_more r (low_slack node) t.left t.times s.searched.reduced t.slacks t.same in
    let net = same_net r.original p s.searched.of in
    let cost_is : net_cost (problem_net p) lifted ≡ net_cost (net_of_network r.network) t.times =
    ap (λ (n : Net). net_cost n lifted) net ∙ net_cost-is r.original lifted ∙ t.costs in
    let sum : weighted (problem_net p) (low_slack node)
    ≡ weighted (instance_net r.original) (low_slack node) = ap (λ (n : Net). weighted n (low_slack node)) net in
    let below : pos (net_cost (problem_net p) lifted) ≤ℤ weighted (problem_net p) (low_slack node) = rw (cost_is, sum) more in
    at_value (leaf_value (problem_net p) p.table node pairs true) (weighted (problem_net p) (low_slack node))
    (pos (net_cost (problem_net p) lifted)) value below

-- and so, once such times were offered, the leaf isn't open any more
pub settled_turn : (p : ProblemValue) (r : ReducedValue) (node : Node) (lifted : List ℕ) (used : ℕ)
    (before mid after new : State) (job : Job) (kept back : Bool) → KeepsNetLimits p.network → IsSmallTable p.table
    → Settles p r node → node ≡ node_at p job.path.items → HaveLeastSlacks r node lifted → IsWorked p used before
    → LendsLeaf p before job mid → Offers p mid lifted kept after → Recalls after job.number back new
    → IsWorked p used new
settled_turn p r node lifted used before mid after new job kept back limits small s at t w l o c =
    let pairs = l.opens.pairs in
    let keep = leaf_pairs p before job.path.items pairs w.orderly l.opens.leaf in
    let worth = worth_it p r node lifted pairs s t (λ i d m. (keep.each i d m).names) in
    let there : IsSomeAnd (value_at p job.path.items pairs) (λ v. pos (net_cost (problem_net p) lifted) ≤ℤ v) =
    subst (λ (x : Node). IsSomeAnd (leaf_value (problem_net p) p.table x pairs true)
    (λ v. pos (net_cost (problem_net p) lifted) ≤ℤ v)) at worth in
    settles p used before mid after new job lifted kept back limits small w l (lifted_timetable p r node lifted s t) there o c

-- a number is lent with one leaf, which has one value
same_worth : (p : ProblemValue) (state : State) (number value other : ℕ) (pairs others : List Pair)
    → IsJobLeaf p state number value pairs → IsJobLeaf p state number other others → value ≡ other
same_worth p state number value other pairs others a b =
    let at = same_path state number a.path b.path pairs others a.leaf b.leaf in
    let of = same_pairs state number a.path b.path pairs others a.leaf b.leaf in
    let same : Some value ≡ Some other = sym a.worth
    ∙ ap (λ (q : List (Cut × Side)). option_map told (value_at p q pairs)) at
    ∙ ap (λ (x : List Pair). option_map told (value_at p b.path x)) of ∙ b.worth in
    cc

-- a leaf that is worth less than the best times cost isn't reached
pub not_reached : (p : ProblemValue) (state : State) (number cost value : ℕ) (pairs : List Pair)
    → best_cost p state ≡ Some cost → IsJobLeaf p state number value pairs → (cost ≤ value → ⊥)
    → IsSettledByTimes p state number → ⊥
not_reached p state number cost value pairs best leaf more r =
    let same : cost ≡ r.cost = some_same (sym best ∙ r.best) in
    let worth = same_worth p state number value r.value pairs r.pairs leaf r.leaf in
    let reached = r.reached in
    more (omega (arith, same, worth, reached))
  where
    some_same : {a b : ℕ} → Some a ≡ Some b → a ≡ b
    some_same e = cc

pub not_at_most : (a b : ℕ) → nat_le a b ≡ false → a ≤ b → ⊥
not_at_most a b more l = (let less = leb-false a b more in absurd (omega (arith, less, l)))

-- the best cost once times were offered
best_after : (p : ProblemValue) (mid new : State) (times : List ℕ) (kept : Bool)
    → IsNetTimetable (problem_net p) p.network.events times → Offers p mid times kept new
    → (cost : ℕ) × (best_cost p new ≡ Some cost) × (cost ≤ net_cost (problem_net p) times)
best_after p mid new times true timetable o = (net_cost (problem_net p) times, ap (best_cost p) o.1, omega arith)
best_after p mid new times false timetable o =
    by_cost (best_cost p mid) refl
  where
    not_less : (a b : ℕ) → (b < a → ⊥) → a ≤ b
    not_less a b not = grind arith

    by_cost : (best : Option ℕ) → best_cost p mid ≡ best → (cost : ℕ) × (best_cost p new ≡ Some cost) × (cost ≤ net_cost (problem_net p) times)
    by_cost None e = absurd (o.0 (timetable, rw e tt))
    by_cost (Some b) e = (b, ap (best_cost p) o.1 ∙ e, not_less b (net_cost (problem_net p) times) (λ less. o.0 (timetable, rw e less)))

offered_tree_numbers : (p : ProblemValue) (mid new : State) (times : List ℕ) (kept : Bool) (number : ℕ)
    (path : List (Cut × Side)) (pairs : List Pair) → Offers p mid times kept new → HasLeaf mid number path pairs
    → HasLeaf new number path pairs
offered_tree_numbers p mid new times true number path pairs o l = subst (λ (s : State). HasLeaf s number path pairs) (sym o.1) l
offered_tree_numbers p mid new times false number path pairs o l = subst (λ (s : State). HasLeaf s number path pairs) (sym o.1) l

-- and the times of a node that settles always close its leaf
pub never_in_vain : (p : ProblemValue) (r : ReducedValue) (before mid new : State) (job : Job)
    → KeepsNetLimits p.network → IsOrderly p before → Settles p r (node_at p job.path.items)
    → LendsLeaf p before job mid → OffersInVain p r (node_at p job.path.items) mid job.number new → ⊥
never_in_vain p r before mid new job limits orderly s l vain =
    let path = job.path.items in
    let pairs = l.opens.pairs in
    let x = vain.offers in
    let t = x.least s in
    let keep = leaf_pairs p before path pairs orderly l.opens.leaf in
    let worth = worth_it p r (node_at p path) x.times pairs s t (λ i d m. (keep.each i d m).names) in
    let after = best_after p mid new x.times x.kept (lifted_timetable p r (node_at p path) x.times s t) x.offers in
    let small = costs_are_small p.network x.times limits in
    let leaf = offered_tree_numbers p mid new x.times x.kept job.number path pairs x.offers (lent_leaf p before mid job l) in
    by_value after small leaf (value_at p path pairs) refl worth
  where
    by_value : (after : (cost : ℕ) × (best_cost p new ≡ Some cost)
        × (cost ≤ net_cost (problem_net p) vain.offers.times))
        → net_cost (problem_net p) vain.offers.times ≤ 999900000000000000
        → HasLeaf new job.number job.path.items l.opens.pairs → (value : Option ℤ)
        → value_at p job.path.items l.opens.pairs ≡ value
        → IsSomeAnd value (λ v. pos (net_cost (problem_net p) vain.offers.times) ≤ℤ v) → ⊥
    by_value after small leaf None e worth = absurd worth
    by_value after small leaf (Some v) e worth =
        let most = after.2 in
        let under : pos (net_cost (problem_net p) vain.offers.times) ≤ℤ v = worth in
        let some : pos 0 ≤ℤ v = omega (arith, ints, under) in
        let here : pos after.0 ≤ℤ v = omega (arith, ints, under, most) in
        let told_so : after.0 ≤ told v = (told_alike v after.0 some (omega (arith, most, small))).0 here in
        vain.unreached (record {
          cost = after.0;
          best = after.1;
          value = told v;
          pairs = l.opens.pairs;
          leaf = record { path = job.path.items; leaf = leaf; worth = ap (option_map told) e };
          reached = told_so;
        })

-- the slacks of the first n rows that are left
pub record AreSlacksTo (r : ReducedValue) (slacks : ℕ → ℕ) (left : List ℕ) (n : ℕ) : Type 0 where
  pub long : length left ≡ n
  pub each : (j : ℕ) → j < n → slice_index left j ≡ slacks (origin_place r.network j)

pub slacks_more : (r : ReducedValue) (slacks : ℕ → ℕ) (left : List ℕ) (n x : ℕ) → AreSlacksTo r slacks left n
    → x ≡ slacks (origin_place r.network n) → AreSlacksTo r slacks (left ++ x ∷ []) (n + 1)
slacks_more r slacks left n x h e = record {
  long = length-append left (x ∷ []) ∙ ap (λ (k : ℕ). k + 1) h.long;
  each = λ j m. elim (cases j m) [
    | inl before ↦ get_or_append_left left (x ∷ []) 0 j (let long = h.long in omega (arith, before, long)) ∙ h.each j before
    | inr here ↦ ap (λ (k : ℕ). slice_index (left ++ x ∷ []) k) (here ∙ sym h.long)
        ∙ get_or-append_seam left x [] 0 ∙ e ∙ ap (λ (k : ℕ). slacks (origin_place r.network k)) (sym here)
  ];
}
  where
    cases : (j : ℕ) → j < n + 1 → (j < n) ⊎ (j ≡ n)
    cases j m = grind arith

-- least slacks are below the period
low_below : (p : ProblemValue) (r : ReducedValue) (node : Node) (j : ℕ) → Settles p r node
    → KeepsNetLimits r.network → j < length r.network.rows
    → low_slack node (origin_place r.network j) < r.network.period
low_below p r node j s limits inside =
    let place = origin_inside r j s.searched.reduced inside in
    let within = low_within p r node s (origin_place r.network j) place in
    let span = (s.searched.reduced.rows j inside).span in
    let short = (limits.each j no_net_row inside).span in
    below (low_slack node (origin_place r.network j)) (net_row_at r.network.rows j).span
    (arc_at (arcs_of r.original) (origin_place r.network j)).span r.network.period within span short
  where
    below : (c d e t : ℕ) → c ≤ e → d ≡ e → d < t → c < t
    below c d e t k l m = omega arith

-- the slacks of the first n rows, each below the period, and each the least where the node settles
pub record AreLeastTo (r : ReducedValue) (node : Node) (left : List ℕ) (n : ℕ) : Type 0 where
  pub below : AreBelowTo r.network.period left n
  pub slacks : (p : ProblemValue) → Settles p r node → AreSlacksTo r (low_slack node) left n

pub none_least : (r : ReducedValue) (node : Node) → AreLeastTo r node [] 0
none_least r node = record {
  below = none_below r.network.period;
  slacks = λ p s. record { long = refl; each = λ j l. absurd (omega (arith, l)) };
}

more_least : (r : ReducedValue) (node : Node) (left : List ℕ) (n x : ℕ) (row : NetRow) → AreLeastTo r node left n
    → KeepsNetLimits r.network → n < length r.network.rows → net_row_at r.network.rows n ≡ row
    → x < r.network.period → (1 ≤ row.origin → (slack_range node.slacks (row.origin - 1)).0 < r.network.period
    → x ≡ (slack_range node.slacks (row.origin - 1)).0) → AreLeastTo r node (left ++ x ∷ []) (n + 1)
more_least r node left n x row h limits inside is low same = record {
  below = more_below r.network.period left n x h.below low;
  slacks = λ p s.
      let there = subst (λ (y : NetRow). 1 ≤ y.origin
      → (slack_range node.slacks (y.origin - 1)).0 < r.network.period
      → x ≡ (slack_range node.slacks (y.origin - 1)).0) (sym is) same in
      slacks_more r (low_slack node) left n x (h.slacks p s) (there (named p s) (low_below p r node n s limits inside));
}
  where
    named : (p : ProblemValue) → Settles p r node → 1 ≤ (net_row_at r.network.rows n).origin
    named p s = (s.searched.reduced.rows n inside).names.0

-- and with what is read of the network and the node
pub more_least_there : (r : ReducedValue) (node : Node) (left : List ℕ) (n x : ℕ) (network : NetworkValue)
    (rows : List NetRow) (slacks : List (ℕ × ℕ)) → AreLeastTo r node left n → network ≡ r.network
    → rows ≡ network.rows → slacks ≡ node.slacks → KeepsNetLimits network → n < length rows → x < r.network.period
    → (1 ≤ (net_row_at rows n).origin → (slack_range slacks ((net_row_at rows n).origin - 1)).0 < r.network.period
    → x ≡ (slack_range slacks ((net_row_at rows n).origin - 1)).0) → AreLeastTo r node (left ++ x ∷ []) (n + 1)
more_least_there r node left n x network rows slacks h e f g limits inside low same =
    let there : rows ≡ r.network.rows = f ∙ ap (λ (y : NetworkValue). y.rows) e in
    let is : List NetRow → List (ℕ × ℕ) → Type 0 = λ ys zs. 1 ≤ (net_row_at ys n).origin
    → (slack_range zs ((net_row_at ys n).origin - 1)).0 < r.network.period
    → x ≡ (slack_range zs ((net_row_at ys n).origin - 1)).0 in
    more_least r node left n x (net_row_at r.network.rows n) h (subst KeepsNetLimits e limits)
    (subst (λ (ys : List NetRow). n < length ys) there inside) refl low
    (subst (λ (zs : List (ℕ × ℕ)). is r.network.rows zs) g
    (subst (λ (ys : List NetRow). is ys slacks) there same))

pub all_least : (p : ProblemValue) (r : ReducedValue) (node : Node) (left : List ℕ) (n : ℕ)
    → n ≡ length r.network.rows → AreLeastTo r node left n → Settles p r node → AreSlacksOf r (low_slack node) left
all_least p r node left n e h s = let x = h.slacks p s in record { long = x.long ∙ e; each = λ j l. x.each j (omega (arith, l, e)) }

-- no row of what is left is open
pub none_is_open : (p : ProblemValue) (r : ReducedValue) (node : Node) (left view : List ℕ) (network : NetworkValue)
    → ((n : Net) (forest : List ℕ) (table : List (List SignedRow)) (slacks : ℕ → ℕ)
    → AreFundamental n.arcs forest table → All (HasWholeOffset n slacks) table → HasOpenRow n forest slacks → ⊥)
    → Settles p r node → AreSlacksOf r (low_slack node) left → view ≡ left → network ≡ r.network
    → HasOpenRow (net_of_network network) network.forest (slice_index view) → ⊥
none_is_open p r node left view network law s a e f o =
    let there = subst (λ (n : NetworkValue). HasOpenRow (net_of_network n) n.forest (slice_index view)) f o in
    let here = subst (λ (xs : List ℕ). HasOpenRow (net_of_network r.network) r.network.forest (slice_index xs)) e there in
    law (net_of_network r.network) r.network.forest s.searched.walks (slice_index left) s.searched.fundamental
    (whole_offsets p r node left s a) here

-- the times that are found are a timetable of what is left, with these slacks
pub record AreFound (r : ReducedValue) (left times : List ℕ) : Type 0 where
  pub timetable : IsNetTimetable (net_of_network r.network) r.network.events times
  pub same : (j : ℕ) → j < length r.network.rows → slacks_at (net_of_network r.network) times j ≡ slice_index left j

pub found : (p : ProblemValue) (r : ReducedValue) (node : Node) (left view times : List ℕ) (network : NetworkValue)
    → Settles p r node → AreSlacksOf r (low_slack node) left → view ≡ left → network ≡ r.network
    → length times ≡ network.events → All (λ (t : ℕ). t < network.period) times
    → ((j : ℕ) → j < length network.rows → slacks_at (net_of_network network) times j ≡ slice_index view j)
    → AreFound r left times
found p r node left view times network s a e f count below same =
    let count' = subst (λ (n : NetworkValue). length times ≡ n.events) f count in
    let below' = subst (λ (n : NetworkValue). All (λ (t : ℕ). t < n.period) times) f below in
    let same' = subst (λ (xs : List ℕ). (j : ℕ) → j < length r.network.rows
    → slacks_at (net_of_network r.network) times j ≡ slice_index xs j) e
    (subst (λ (n : NetworkValue). (j : ℕ) → j < length n.rows
    → slacks_at (net_of_network n) times j ≡ slice_index view j) f same) in
    record {
      timetable = timetable_again r (low_slack node) left times s.searched.reduced
          (low_within p r node s) a count' below' same';
      same = same';
    }
