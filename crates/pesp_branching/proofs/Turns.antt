-- What a turn leaves: a leaf is lent, something is done with it, and no number is lent any more.
use Rattle.std.proofs.Common.{◌≡◌, ℕ, ◌+◌, ◌*◌, ◌<◌, ◌≤◌, Bool, true, false, List, [], ◌∷◌, ◌++◌, length, map, set, refl, ap, arith, subst, sym, ◌∙◌, zero-le}
use Rattle.std.specs.Prelude.{ℤ, pos, ◌≤ℤ◌, ◌<ℤ◌, int_lt, Option, Some, None, IsSomeAnd, Ok, if◌then◌else◌}
use Rattle.std.specs.Global.{Vec}
use Rattle.std.proofs.lemmas.Int.{ints}
use Rattle.pesp_problem.specs.declared.row.SignedRow.{SignedRow}
use Rattle.pesp_problem.specs.declared.pair.Pair.{Pair}
use Rattle.pesp_problem.specs.declared.cut.Cut.{Cut}
use Rattle.pesp_problem.specs.declared.cut.Side.{Side}
use Rattle.pesp_problem.specs.Arcs.{Net}
use Rattle.pesp_problem.specs.NetTimetables.{IsNetTimetable, net_cost}
use Rattle.pesp_problem.specs.Nodes.{Node, leaf_value, low_part, high_part}
use Rattle.pesp_network.specs.Networks.{KeepsNetLimits}
use Rattle.pesp_truth.specs.Trees.{Tree, Leaf, Ends, Branch, Bound, Shut, Nothing, Gap, preorder, line_of}
use Rattle.pesp_truth.specs.declared.tree.TreeLine.{TreeLine}
use Rattle.pesp_truth.proofs.Lines.{one_tree}
use Rattle.pesp_truth.specs.Leaves.{IsLeafAt, put}
use Rattle.pesp_nodes.specs.Problems.{ProblemValue, problem_net, IsSmallTable}
use Rattle.pesp_tree.specs.declared.job.Job.{Job}
use Rattle.pesp_tree.specs.declared.work.Work.{Work}
use Rattle.pesp_tree.specs.declared.work.Work.TheVariants as works
use Rattle.pesp_tree.specs.States.{State, Ticket, Lent, Given, Recalled, opening, IsLentNumber, IsBelow, IsAtMost, ticket, root_of, node_at, value_at, best_cost}
use Rattle.pesp_tree.specs.Reached.{IsOrderly}
use Rattle.pesp_tree.specs.Events.{LendsLeaf, Takes, Makes, IsGraft, IsCheaper, Offers, Recalls, Lend, Give, Recall, Offer}
use Rattle.pesp_tree.proofs.Runs.{opening_is_orderly, step_is_orderly}
use Rattle.pesp_branching.specs.Rooms.{IsCounted, BranchesLeaveBoth, branches}
use Rattle.pesp_branching.specs.LeafSums.{leaf_sum}
use Rattle.pesp_branching.proofs.Branches.{put_branches, put_leaves_both}
use Rattle.pesp_branching.proofs.LeafSums.{put_sum, sum_less, sum_no_more}
use Rattle.pesp_branching.specs.Turns.{is_below, counts_open, open_leaves, IsWorked, AreStep}
use Rattle.pesp_branching.proofs.Numbers.{lent_last, same_path, none_lent, one_more}

-- ---- the beginning

pub opening_is_worked : (p : ProblemValue) → IsWorked p 0 opening
opening_is_worked p = record {
  orderly = opening_is_orderly p;
  unlent = λ number lent. never number lent.0 lent.1;
  both = tt;
  count = refl;
  numbers = omega arith;
}
  where
    never : (number : ℕ) (path : List (Cut × Side)) → ticket opening number ≡ Lent path → ⊥
    never number path e = cc

pub numbers_are_few : (p : ProblemValue) (used : ℕ) (state : State) → IsWorked p used state → length state.numbers ≤ 2 * used + 2
numbers_are_few p used state w = omega (arith, w.numbers)

-- ---- a leaf that is open counts

below_is : (value : Option ℤ) (best : Option ℕ) → IsBelow value best → is_below value best ≡ true
below_is value None h = refl
below_is None (Some c) h = absurd h
below_is (Some v) (Some c) h = let less : v <ℤ pos c = h in grind (arith, ints)

open_counts : (n : Net) (table : List (List SignedRow)) (best : Option ℕ) (pairs : List Pair) (node : Node)
    → IsBelow (leaf_value n table node pairs true) best → counts_open n table best (Bound pairs) node ≡ 1
open_counts n table best pairs node h = ap (λ b. if b then 1 else 0) (below_is (leaf_value n table node pairs true) best h)

one_at_most : (b : Bool) → (if b then 1 else 0) ≤ 1
one_at_most true = omega arith
one_at_most false = omega arith

counts_one : (n : Net) (table : List (List SignedRow)) (best : Option ℕ) (leaf : Leaf) (node : Node)
    → counts_open n table best leaf node ≤ 1
counts_one n table best (Bound pairs) node = one_at_most (is_below (leaf_value n table node pairs true) best)
counts_one n table best (Shut reason) node = omega arith

-- ---- a work is taken

-- what stands once a leaf that was lent is replaced
pub record Replaced (p : ProblemValue) (old : State) (path : List (Cut × Side)) (part : Tree) (new : State) : Type 0 where
  pub tree : new.tree ≡ put old.tree path part
  pub best : new.best ≡ old.best
  pub count : length new.numbers ≡ length old.numbers + 1
  pub unlent : (number : ℕ) → IsLentNumber new number → ⊥
  pub orderly : IsOrderly p new
  pub pairs : List Pair
  pub leaf : IsLeafAt old.tree path (Bound pairs)
  pub cheaper : IsBelow (value_at p path pairs) (best_cost p old)

given_is_not_lent : (r : List (Cut × Side)) → Given ≡ Lent r → ⊥
given_is_not_lent r e = cc

recalled_is_not_lent : (r : List (Cut × Side)) → Recalled ≡ Lent r → ⊥
recalled_is_not_lent r e = cc

-- the work's path and part, with what stands then
pub record Taken (p : ProblemValue) (old : State) (work : Work) (new : State) : Type 0 where
  pub path : List (Cut × Side)
  pub pairs : List Pair
  pub part : Tree
  pub makes : Makes p (node_at p path) pairs work part
  pub replaced : Replaced p old path part new

taken : (p : ProblemValue) (used : ℕ) (old mid new : State) (job : Job) (work : Work) → KeepsNetLimits p.network
    → IsSmallTable p.table → IsWorked p used old → LendsLeaf p old job mid → Takes p mid job.number work new
    → Taken p old work new
taken p used old mid new job work limits small w l t =
    let path = job.path.items in
    let numbers : mid.numbers ≡ old.numbers ++ Lent path ∷ [] = ap (λ (s : State). s.numbers) l.state in
    let here : ticket mid job.number ≡ Lent path = rw (numbers, l.number) (lent_last old.numbers path) in
    let same : t.path ≡ path = same_path t.path path (sym t.leaf.0 ∙ here) in
    let tree : mid.tree ≡ old.tree = ap (λ (s : State). s.tree) l.state in
    let best : mid.best ≡ old.best = ap (λ (s : State). s.best) l.state in
    let ended : new.numbers ≡ set (old.numbers ++ Lent path ∷ []) (length old.numbers) Given =
    ap (λ (s : State). s.numbers) t.state ∙ rw (numbers, l.number) refl in
    let lending : IsOrderly p mid = step_is_orderly p old (Lend (Ok (Some job))) mid limits small w.orderly l in
    record {
      path = path;
      pairs = t.pairs;
      part = t.part;
      makes = subst (λ (q : List (Cut × Side)). Makes p (node_at p q) t.pairs work t.part) same t.makes;
      replaced = record {
        tree = ap (λ (s : State). s.tree) t.state ∙ rw (tree, same) refl;
        best = ap (λ (s : State). s.best) t.state ∙ best;
        count = ap length ended ∙ one_more old.numbers path Given;
        unlent = λ number lent. none_lent old.numbers path lent.0 Given number
            (λ m r e. w.unlent m (r, e)) given_is_not_lent
            (ap (λ (xs : List Ticket). ticket (record { tree = new.tree; numbers = xs; best = new.best }) number)
            (sym ended) ∙ lent.1);
        orderly = step_is_orderly p mid (Give job.number work (Ok tt)) new limits small lending t;
        pairs = l.opens.pairs;
        leaf = l.opens.leaf;
        cheaper = l.opens.cheaper;
      };
    }

-- the leaves that count, once a leaf that counts is replaced
open_after : (p : ProblemValue) (old : State) (path : List (Cut × Side)) (part : Tree) (new : State)
    → Replaced p old path part new → open_leaves p new + 1
    ≡ open_leaves p old + leaf_sum (counts_open (problem_net p) p.table (best_cost p old)) part (node_at p path)
open_after p old path part new r =
    let counts = counts_open (problem_net p) p.table (best_cost p old) in
    let sum = put_sum counts old.tree path (Bound r.pairs) part (root_of p) r.leaf in
    let one : counts (Bound r.pairs) (node_at p path)
    ≡ 1 = open_counts (problem_net p) p.table (best_cost p old) r.pairs (node_at p path) r.cheaper in
    let same : open_leaves p new ≡ leaf_sum counts (put old.tree path part) (root_of p) = rw (r.tree, r.best) refl in
    omega (arith, sum, one, same)

worked : (p : ProblemValue) (used used' : ℕ) (old new : State) (path : List (Cut × Side)) (part : Tree)
    → IsWorked p used old → Replaced p old path part new
    → BranchesLeaveBoth (problem_net p) p.table part (node_at p path) → branches old.tree + branches part ≡ used'
    → length old.numbers + open_leaves p old + leaf_sum (counts_open (problem_net p) p.table (best_cost p old)) part
    (node_at p path) ≤ 2 * used' + 2 → IsWorked p used' new
worked p used used' old new path part w r both count sum = record {
  orderly = r.orderly;
  unlent = r.unlent;
  both = subst (λ (t : Tree). BranchesLeaveBoth (problem_net p) p.table t (root_of p)) (sym r.tree)
      (put_leaves_both (problem_net p) p.table old.tree path (Bound r.pairs) part (root_of p) r.leaf w.both both);
  count = ap branches r.tree ∙ put_branches old.tree path (Bound r.pairs) part r.leaf ∙ count;
  numbers = (let after = open_after p old path part new r in let more = r.count in omega (arith, after, more, sum));
}

-- a tree has one more leaf than branches
open_few : (n : Net) (table : List (List SignedRow)) (best : Option ℕ) (tree : Tree) (node : Node)
    → leaf_sum (counts_open n table best) tree node ≤ branches tree + 1
open_few n table best (Ends leaf) node = counts_one n table best leaf node
open_few n table best (Branch cut low high) node = let first = open_few n table best low (low_part node cut) in
    let second = open_few n table best high (high_part node cut) in omega (arith, first, second)

pub looks : (p : ProblemValue) (used : ℕ) (old mid new : State) (job : Job) (pairs : List Pair)
    → KeepsNetLimits p.network → IsSmallTable p.table → IsWorked p used old → length old.numbers ≤ used
    → LendsLeaf p old job mid → Takes p mid job.number (works.Leaf pairs) new → IsWorked p used new
looks p used old mid new job pairs limits small w few l t =
    let k = taken p used old mid new job (works.Leaf pairs) limits small w l t in
    let counts = counts_open (problem_net p) p.table (best_cost p old) in
    let made = k.makes.2 in
    let none : branches k.part ≡ 0 = ap branches made in
    let one : leaf_sum counts k.part (node_at p k.path)
    ≤ 1 = subst (λ (x : Tree). leaf_sum counts x (node_at p k.path) ≤ 1) (sym made)
    (counts_one (problem_net p) p.table (best_cost p old) (Bound _) (node_at p k.path)) in
    let both = subst (λ (x : Tree). BranchesLeaveBoth (problem_net p) p.table x (node_at p k.path)) (sym made) tt in
    let most : open_leaves p old ≤ branches old.tree + 1 = open_few (problem_net p) p.table (best_cost p old) old.tree (root_of p) in
    let b = w.count in
    worked p used used old new k.path k.part w k.replaced both (omega (arith, b, none)) (omega (arith, one, most, b, few))

-- a leaf that doesn't count stands in the place of one that does
closes : (p : ProblemValue) (used : ℕ) (old new : State) (path : List (Cut × Side)) (leaf : Leaf) (part : Tree)
    → IsWorked p used old → Replaced p old path part new → part ≡ Ends leaf
    → counts_open (problem_net p) p.table (best_cost p old) leaf (node_at p path) ≡ 0 → IsWorked p used new
closes p used old new path leaf part w r made zeroed =
    let counts = counts_open (problem_net p) p.table (best_cost p old) in
    let none : branches part ≡ 0 = ap branches made in
    let sum : leaf_sum counts part (node_at p path) ≡ 0 = ap (λ (x : Tree). leaf_sum counts x (node_at p path)) made ∙ zeroed in
    let both = subst (λ (x : Tree). BranchesLeaveBoth (problem_net p) p.table x (node_at p path)) (sym made) tt in
    let was = w.numbers in
    worked p used used old new path part w r both (let b = w.count in omega (arith, b, none)) (omega (arith, sum, was))

pub closes_by_nothing : (p : ProblemValue) (used : ℕ) (old mid new : State) (job : Job) (pairs : List Pair)
    → KeepsNetLimits p.network → IsSmallTable p.table → IsWorked p used old → LendsLeaf p old job mid
    → Takes p mid job.number (works.Nothing pairs) new → IsWorked p used new
closes_by_nothing p used old mid new job pairs limits small w l t =
    let k = taken p used old mid new job (works.Nothing pairs) limits small w l t in
    closes p used old new k.path (Nothing pairs) k.part w k.replaced k.makes.1 refl

pub closes_by_gap : (p : ProblemValue) (used : ℕ) (old mid new : State) (job : Job) (cycle : ℕ)
    → KeepsNetLimits p.network → IsSmallTable p.table → IsWorked p used old → LendsLeaf p old job mid
    → Takes p mid job.number (works.Gap cycle) new → IsWorked p used new
closes_by_gap p used old mid new job cycle limits small w l t =
    let k = taken p used old mid new job (works.Gap cycle) limits small w l t in
    closes p used old new k.path (Gap cycle) k.part w k.replaced k.makes.1 refl

-- lines of a cut with a leaf on either side are those of one branch
pub one_branch : (tree : Tree) (lines : List TreeLine) (cut : Cut) (low high : Leaf)
    → preorder tree ≡ map line_of lines → AreStep lines cut low high → tree ≡ Branch cut (Ends low) (Ends high)
one_branch tree lines cut low high e step = one_tree tree (Branch cut (Ends low) (Ends high)) (e ∙ step)

pub steps : (p : ProblemValue) (used : ℕ) (old mid new : State) (job : Job) (lines : Vec TreeLine) (cut : Cut)
    (low high : Leaf) → KeepsNetLimits p.network → IsSmallTable p.table → IsWorked p used old
    → IsCounted (problem_net p) p.table cut → AreStep lines.items cut low high → LendsLeaf p old job mid
    → Takes p mid job.number (works.Tree lines) new → IsWorked p (used + 1) new
steps p used old mid new job lines cut low high limits small w counted step l t =
    let k = taken p used old mid new job (works.Tree lines) limits small w l t in
    let node = node_at p k.path in
    let counts = counts_open (problem_net p) p.table (best_cost p old) in
    let made : k.part ≡ Branch cut (Ends low) (Ends high) = one_branch k.part lines.items cut low high k.makes.0 step in
    let one : branches k.part ≡ 1 = ap branches made in
    let worth = leaf_value (problem_net p) p.table node k.pairs true in
    let graft : IsGraft p worth node (Branch cut (Ends low) (Ends high)) = subst (λ (x : Tree). IsGraft p worth node x) made k.makes.1 in
    let both : BranchesLeaveBoth (problem_net p) p.table k.part node =
    subst (λ (x : Tree). BranchesLeaveBoth (problem_net p) p.table x node) (sym made) (counted, graft.1, tt, tt) in
    let two : leaf_sum counts k.part node ≤ branches k.part + 1 = open_few (problem_net p) p.table (best_cost p old) k.part node in
    let b = w.count in
    let was = w.numbers in
    worked p used (used + 1) old new k.path k.part w k.replaced both (omega (arith, b, one)) (omega (arith, two, one, was))

-- ---- times are offered

-- no value is below a cost that isn't above it
reached : (value : Option ℤ) (c : ℕ) (best : Option ℕ) → IsSomeAnd value (λ v. pos c ≤ℤ v) → IsAtMost best (Some c)
    → is_below value best ≡ false
reached None c best h k = absurd h
reached (Some v) c None h k = absurd k
reached (Some v) c (Some b) h k = let above : pos c ≤ℤ v = h in let most : b ≤ c = k in grind (arith, ints)

-- a lower best cost lets no other leaf count
fewer_below : (value : Option ℤ) (old new : Option ℕ) → IsAtMost new old
    → (if is_below value new then 1 else 0) ≤ (if is_below value old then 1 else 0)
fewer_below value None new h = one_at_most (is_below value new)
fewer_below value (Some a) None h = absurd h
fewer_below None (Some a) (Some b) h = omega arith
fewer_below (Some v) (Some a) (Some b) h = by_tests (int_lt v (pos b)) (int_lt v (pos a)) (λ t. let most : b ≤ a = h in grind (arith, ints))
  where
    by_tests : (x y : Bool) → (x ≡ true → y ≡ true) → (if x then 1 else 0) ≤ (if y then 1 else 0)
    by_tests true true h = omega arith
    by_tests true false h = let e = h refl in cc
    by_tests false y h = zero-le

fewer_open : (n : Net) (table : List (List SignedRow)) (old new : Option ℕ) → IsAtMost new old
    → (leaf : Leaf) (node : Node) → counts_open n table new leaf node ≤ counts_open n table old leaf node
fewer_open n table old new h (Bound pairs) node = fewer_below (leaf_value n table node pairs true) old new h
fewer_open n table old new h (Shut reason) node = omega arith

at_most_same : (a : Option ℕ) → IsAtMost a a
at_most_same None = tt
at_most_same (Some a) = omega arith

cheaper_at_most : (c : ℕ) (best : Option ℕ) → IsCheaper c best → IsAtMost (Some c) best
cheaper_at_most c None h = tt
cheaper_at_most c (Some best) h = omega (arith, h)

not_cheaper : (c : ℕ) (best : Option ℕ) → (IsCheaper c best → ⊥) → IsAtMost best (Some c)
not_cheaper c None h = absurd (h tt)
not_cheaper c (Some best) h = let not : c < best → ⊥ = h in grind arith

-- the best cost once a timetable was offered
record BestNow (p : ProblemValue) (mid : State) (times : List ℕ) (after : State) : Type 0 where
  tree : after.tree ≡ mid.tree
  numbers : after.numbers ≡ mid.numbers
  falls : IsAtMost (best_cost p after) (best_cost p mid)
  within : IsAtMost (best_cost p after) (Some (net_cost (problem_net p) times))

best_now : (p : ProblemValue) (mid : State) (times : List ℕ) (kept : Bool) (after : State)
    → IsNetTimetable (problem_net p) p.network.events times → Offers p mid times kept after → BestNow p mid times after
best_now p mid times true after timetable o =
    let cost = net_cost (problem_net p) times in
    let best : best_cost p after ≡ Some cost = ap (best_cost p) o.1 in
    record {
      tree = ap (λ (s : State). s.tree) o.1;
      numbers = ap (λ (s : State). s.numbers) o.1;
      falls = rw best (cheaper_at_most cost (best_cost p mid) o.0.1);
      within = rw best (at_most_same (Some cost));
    }
best_now p mid times false after timetable o =
    let cost = net_cost (problem_net p) times in
    let same : best_cost p after ≡ best_cost p mid = ap (best_cost p) o.1 in
    record {
      tree = ap (λ (s : State). s.tree) o.1;
      numbers = ap (λ (s : State). s.numbers) o.1;
      falls = rw same (at_most_same (best_cost p mid));
      within = rw same (not_cheaper cost (best_cost p mid) (λ c. o.0 (timetable, c)));
    }

pub settles : (p : ProblemValue) (used : ℕ) (old mid after new : State) (job : Job) (times : List ℕ)
    (kept back : Bool) → KeepsNetLimits p.network → IsSmallTable p.table → IsWorked p used old
    → (lent : LendsLeaf p old job mid) → IsNetTimetable (problem_net p) p.network.events times
    → IsSomeAnd (value_at p job.path.items lent.opens.pairs) (λ v. pos (net_cost (problem_net p) times) ≤ℤ v)
    → Offers p mid times kept after → Recalls after job.number back new → IsWorked p used new
settles p used old mid after new job times kept back limits small w l timetable worth offered recalled =
    go back recalled
  where
    path : List (Cut × Side)
    path = job.path.items

    now : BestNow p mid times after
    now = best_now p mid times kept after timetable offered

    numbers : after.numbers ≡ old.numbers ++ Lent path ∷ []
    numbers = now.numbers ∙ ap (λ (s : State). s.numbers) l.state

    here : ticket after job.number ≡ Lent path
    here = rw (numbers, l.number) (lent_last old.numbers path)

    tree : after.tree ≡ old.tree
    tree = now.tree ∙ ap (λ (s : State). s.tree) l.state

    best_was : best_cost p mid ≡ best_cost p old
    best_was = ap (best_cost p) l.state

    lending : IsOrderly p mid
    lending = step_is_orderly p old (Lend (Ok (Some job))) mid limits small w.orderly l

    offering : IsOrderly p after
    offering = step_is_orderly p mid (Offer times kept) after limits small lending offered

    go : (back : Bool) → Recalls after job.number back new → IsWorked p used new
    go false r = absurd (r.0 (path, here))
    go true r =
        let counts_old = counts_open (problem_net p) p.table (best_cost p old) in
        let counts_new = counts_open (problem_net p) p.table (best_cost p new) in
        let best : best_cost p new ≡ best_cost p after = ap (best_cost p) r.1 in
        let tree_is : new.tree ≡ old.tree = ap (λ (s : State). s.tree) r.1 ∙ tree in
        let ended : new.numbers ≡ set (old.numbers ++ Lent path ∷ []) (length old.numbers) Recalled =
        ap (λ (s : State). s.numbers) r.1 ∙ rw (numbers, l.number) refl in
        let falls : IsAtMost (best_cost p new) (best_cost p old) = rw (best, ← best_was) now.falls in
        let one : counts_old (Bound l.opens.pairs) (node_at p path)
        ≡ 1 = open_counts (problem_net p) p.table (best_cost p old) l.opens.pairs (node_at p path) l.opens.cheaper in
        let none : counts_new (Bound l.opens.pairs) (node_at p path)
        ≡ 0 = ap (λ (b : Bool). if b then 1 else 0)
        (reached (value_at p path l.opens.pairs) (net_cost (problem_net p) times) (best_cost p new) worth
        (rw best now.within)) in
        let less = sum_less counts_new counts_old old.tree path (Bound l.opens.pairs) (root_of p) l.opens.leaf
        (fewer_open (problem_net p) p.table (best_cost p old) (best_cost p new) falls) (omega (arith, one, none)) in
        let same : open_leaves p new ≡ leaf_sum counts_new old.tree (root_of p) =
        ap (λ (x : Tree). leaf_sum counts_new x (root_of p)) tree_is in
        let count : length new.numbers ≡ length old.numbers + 1 = ap length ended ∙ one_more old.numbers path Recalled in
        let was = w.numbers in
        record {
          orderly = step_is_orderly p after (Recall job.number true) new limits small offering r;
          unlent = λ number lent. none_lent old.numbers path lent.0 Recalled number
              (λ m q e. w.unlent m (q, e)) recalled_is_not_lent
              (ap (λ (xs : List Ticket). ticket (record { tree = new.tree; numbers = xs; best = new.best }) number)
              (sym ended) ∙ lent.1);
          both = subst (λ (t : Tree). BranchesLeaveBoth (problem_net p) p.table t (root_of p)) (sym tree_is) w.both;
          count = ap branches tree_is ∙ w.count;
          numbers = omega (arith, was, less, same, count);
        }

-- times are offered while nothing is lent
pub offers : (p : ProblemValue) (used : ℕ) (old new : State) (times : List ℕ) (kept : Bool)
    → KeepsNetLimits p.network → IsSmallTable p.table → IsWorked p used old → Offers p old times kept new
    → IsWorked p used new
offers p used old new times false limits small w o = subst (IsWorked p used) (sym o.1) w
offers p used old new times true limits small w o =
    let now = best_now p old times true new o.0.0 o in
    let counts_old = counts_open (problem_net p) p.table (best_cost p old) in
    let counts_new = counts_open (problem_net p) p.table (best_cost p new) in
    let fewer = sum_no_more counts_new counts_old old.tree (root_of p)
    (fewer_open (problem_net p) p.table (best_cost p old) (best_cost p new) now.falls) in
    let same : open_leaves p new ≡ leaf_sum counts_new old.tree (root_of p) =
    ap (λ (x : Tree). leaf_sum counts_new x (root_of p)) now.tree in
    let count : length new.numbers ≡ length old.numbers = ap length now.numbers in
    let was = w.numbers in
    record {
      orderly = step_is_orderly p old (Offer times true) new limits small w.orderly o;
      unlent = λ number lent. w.unlent number (
        lent.0,
        ap (λ (xs : List Ticket). ticket (record { tree = new.tree; numbers = xs; best = new.best }) number)
            (sym now.numbers) ∙ lent.1,
      );
      both = subst (λ (t : Tree). BranchesLeaveBoth (problem_net p) p.table t (root_of p)) (sym now.tree) w.both;
      count = ap branches now.tree ∙ w.count;
      numbers = omega (arith, was, fewer, same, count);
    }
