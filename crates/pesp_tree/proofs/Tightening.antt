-- A board that takes a certificate up begins with the certificate's bound and cost, and what it certifies later is no worse.
use Rattle.std.proofs.Common.{◌≡◌, ℕ, ◌<◌, ◌≤◌, List, refl, sym, ap, ◌∙◌, subst, arith, true, false, Some, None}
use Rattle.std.specs.Prelude.{ℤ, pos, ◌≤ℤ◌, All, Bool, Option, IfSome, option_map, nat_le, if◌then◌else◌}
use Rattle.std.proofs.lemmas.Int.{ints}
use Rattle.pesp_problem.specs.declared.row.SignedRow.{SignedRow}
use Rattle.pesp_problem.specs.Limits.{KeepsLimits}
use Rattle.pesp_problem.specs.Timetables.{Pesp, IsTimetable, IsTimetableOfCost}
use Rattle.pesp_problem.specs.Arcs.{Net}
use Rattle.pesp_problem.specs.Arcs as instances
use Rattle.pesp_problem.specs.NetTimetables.{IsNetTimetable, net_cost}
use Rattle.pesp_problem.specs.Walks.{IsWalk}
use Rattle.pesp_problem.specs.Nodes.{Node, leaf_value, low_part, high_part}
use Rattle.pesp_problem.proofs.NetTimetables.{net_timetables, net_cost-is, limits_in_order}
use Rattle.pesp_truth.specs.declared.answer.Answer.{Answer}
use Rattle.pesp_truth.specs.declared.answer.Answer.TheVariants.{Optimal, Infeasible, Bounded}
use Rattle.pesp_truth.specs.Trees.{Plain, Tree, Ends, Branch, Bound, Shut, IsSound}
use Rattle.pesp_truth.specs.Truth.{IsTrueAnswer}
use Rattle.pesp_truth.specs.Certificates.{Content, IsValid, ShowsAnswer, least_of, cost_of, shown_times, shown_labels}
use Rattle.pesp_truth.proofs.Certificates.{valid_is_true}
use Rattle.pesp_nodes.specs.Problems.{ProblemValue, problem_net}
use Rattle.pesp_tree.specs.BoardLeaves.{lesser_value, least_value, told}
use Rattle.pesp_tree.specs.States.{State, root_of, least, best_cost, IsAtMost}
use Rattle.pesp_tree.specs.Reached.{IsKept}
use Rattle.pesp_tree.specs.Events.{Event, Run}
use Rattle.pesp_tree.specs.Certificates.{IsProblemOf, IsCertificateOf, answer_of}
use Rattle.pesp_tree.specs.Adopting.{shown_best, Adopts}
use Rattle.pesp_tree.proofs.Trees.{IsUnder, and_is, under_lesser}
use Rattle.pesp_tree.proofs.Costs.{told_alike}
use Rattle.pesp_tree.proofs.Certified.{same_net}
use Rattle.pesp_tree.proofs.Runs.{least_never_falls, best_never_rises}
use Rattle.pesp_tree.proofs.EventSteps.{run_goes_on}
use Rattle.pesp_tree.proofs.Adopting.{adopted_sound, adopted_is_kept, later_is_valid}

-- at most 999999999999999999, where it is there
abbrev IsShort : Option ℕ → Type 0
IsShort o = IfSome o (λ n. n ≤ 999999999999999999)

-- ---- the bound

-- a tree that is sound for a least cost has no lesser value
sound_is_under : (n : Net) (table : List (List SignedRow)) (l : ℕ) (tree : Tree) (node : Node)
    → IsSound (Plain (Some l)) n table tree node → IsUnder (Some (pos l)) (least_value n table tree node)
sound_is_under n table l (Ends (Bound pairs)) node s = let value =
    and_is (leaf_value n table node pairs true) (λ v. pos l ≤ℤ v) (s.1) in rw (value.1) (value.2)
sound_is_under n table l (Ends (Shut reason)) node s = tt
sound_is_under n table l (Branch cut low high) node s =
    under_lesser (Some (pos l)) _ _ (sound_is_under n table l low (low_part node cut) s.1)
    (sound_is_under n table l high (high_part node cut) s.2)

-- one that is sound without a least cost has none
sound_has_none : (n : Net) (table : List (List SignedRow)) (tree : Tree) (node : Node)
    → IsSound (Plain None) n table tree node → least_value n table tree node ≡ None
sound_has_none n table (Ends (Bound pairs)) node s = absurd (s.1)
sound_has_none n table (Ends (Shut reason)) node s = refl
sound_has_none n table (Branch cut low high) node s =
    (λ i. lesser_value (sound_has_none n table low (low_part node cut) s.1 i)
    (sound_has_none n table high (high_part node cut) s.2 i))

told_reaches : (l : ℕ) (value : Option ℤ) → l ≤ 999999999999999999 → IsUnder (Some (pos l)) value
    → IsAtMost (Some l) (option_map told value)
told_reaches l None short u = tt
told_reaches l (Some v) short u = let above : pos l ≤ℤ v = u in (told_alike v l (omega (arith, ints, above)) short).0 above

bound_of : (n : Net) (table : List (List SignedRow)) (bound : Option ℕ) (tree : Tree) (node : Node) → IsShort bound
    → IsSound (Plain bound) n table tree node → IsAtMost bound (option_map told (least_value n table tree node))
bound_of n table None tree node short s = rw (sound_has_none n table tree node s) tt
bound_of n table (Some l) tree node short s = told_reaches l (least_value n table tree node) short (sound_is_under n table l tree node s)

pub adopted_bound : (i : Pesp) (p : ProblemValue) (content : Content) (state : State) → IsProblemOf i p
    → content.cycles ≡ p.table → IsValid None i content → IsShort (least_of content.answer) → Adopts content state
    → IsAtMost (least_of content.answer) (least p state)
adopted_bound i p content state o cycles v short a =
    bound_of (problem_net p) p.table (least_of content.answer) state.tree (root_of p) short
    (adopted_sound i p content state o cycles v a)

-- ---- the cost

net_costs : (i : Pesp) (p : ProblemValue) (times : List ℕ) (c : ℕ) → IsProblemOf i p → IsTimetableOfCost i times c
    → net_cost (problem_net p) times ≡ c
net_costs i p times c o t = ap (λ (n : Net). net_cost n times) (same_net i p o) ∙ net_cost-is i times ∙ t.1

shown_cost : (i : Pesp) (p : ProblemValue) (answer : Answer) (labels : List ℤ) (times : List ℕ) → IsProblemOf i p
    → ShowsAnswer i answer labels times → option_map (net_cost (problem_net p)) (shown_best answer times)
    ≡ cost_of answer
shown_cost i p (Optimal c) labels times o s = ap Some (net_costs i p times c o s.1)
shown_cost i p Infeasible labels times o s = refl
shown_cost i p (Bounded l None) labels times o s = refl
shown_cost i p (Bounded l (Some c)) labels times o s = ap Some (net_costs i p times c o s.1.1)

pub adopted_cost : (i : Pesp) (p : ProblemValue) (content : Content) (state : State) → IsProblemOf i p
    → IsValid None i content → Adopts content state → best_cost p state ≡ cost_of content.answer
adopted_cost i p content state o v a = ap (option_map (net_cost (problem_net p))) a.best
    ∙ shown_cost i p content.answer (shown_labels content) (shown_times content) o v.answer

-- ---- what is certified later

at_most_trans : (a b c : Option ℕ) → IsAtMost a b → IsAtMost b c → IsAtMost a c
at_most_trans a b None h k = tt
at_most_trans a None (Some c) h k = absurd k
at_most_trans None (Some b) (Some c) h k = absurd h
at_most_trans (Some a) (Some b) (Some c) h k = omega (arith, h, k)

-- a timetable costs at least the bound of a true answer
costs_enough : (i : Pesp) (answer : Answer) (shown times : List ℕ) (c : ℕ) → IsTrueAnswer i answer shown
    → IsTimetableOfCost i times c → IsAtMost (least_of answer) (Some c)
costs_enough i (Optimal c0) shown times c t k = (let under = t.1 times k.0 in let is = k.1 in omega (arith, under, is))
costs_enough i Infeasible shown times c t k = absurd (t times k.0)
costs_enough i (Bounded l None) shown times c t k = (let under = t times k.0 in let is = k.1 in omega (arith, under, is))
costs_enough i (Bounded l (Some c1)) shown times c t k = (let under = t.2 times k.0 in let is = k.1 in omega (arith, under, is))

closed_bound : (i : Pesp) (base : Answer) (shown times : List ℕ) (labels : List ℤ) (l c : ℕ) (b : Bool)
    → IsTrueAnswer i base shown → IsAtMost (least_of base) (Some l)
    → ShowsAnswer i (if b then Optimal c else Bounded l (Some c)) labels times
    → IsAtMost (least_of base) (least_of (if b then Optimal c else Bounded l (Some c)))
closed_bound i base shown times labels l c true t h s = costs_enough i base shown times c t s.1
closed_bound i base shown times labels l c false t h s = h

later_bound : (i : Pesp) (base : Answer) (shown times : List ℕ) (labels : List ℤ) (l c : Option ℕ)
    → IsTrueAnswer i base shown → IsAtMost (least_of base) l → ShowsAnswer i (answer_of l c) labels times
    → IsAtMost (least_of base) (least_of (answer_of l c))
later_bound i base shown times labels None c t h s = tt
later_bound i base shown times labels (Some l) None t h s = h
later_bound i base shown times labels (Some l) (Some c) t h s = closed_bound i base shown times labels l c (nat_le c l) t h s

closed_cost : (l c : ℕ) (b : Bool) → cost_of (if b then Optimal c else Bounded l (Some c)) ≡ Some c
closed_cost l c true = refl
closed_cost l c false = refl

-- an answer tells the best cost
later_cost : (i : Pesp) (shown : List ℕ) (best : Option (List ℕ)) (l c : Option ℕ)
    → IsTrueAnswer i (answer_of l c) shown → IfSome best (IsTimetable i) → (cost : List ℕ → ℕ)
    → option_map cost best ≡ c → cost_of (answer_of l c) ≡ c
later_cost i shown None None c t k cost e = e
later_cost i shown (Some best) None c t k cost e = absurd (t best k)
later_cost i shown best (Some l) None t k cost e = refl
later_cost i shown best (Some l) (Some c) t k cost e = closed_cost l c (nat_le c l)

from_net : (i : Pesp) (p : ProblemValue) (best : Option (List ℕ)) → KeepsLimits i → IsProblemOf i p
    → IfSome best (IsNetTimetable (problem_net p) p.network.events) → IfSome best (IsTimetable i)
from_net i p None k o t = tt
from_net i p (Some times) k o t =
    let on_net = subst (λ (n : Net). IsNetTimetable n p.network.events times) (same_net i p o) t in
    (net_timetables i times (let some = k.some_period in omega arith) (limits_in_order i k)).1
    (subst (λ (count : ℕ). IsNetTimetable (instances.net_of i) count times) o.events on_net)

module _ (i : Pesp) (p : ProblemValue) (events : List Event) (base : Content) (old new : State) (content : Content)
    (limits : KeepsLimits i) (o : IsProblemOf i p) (walks : All (IsWalk (problem_net p).arcs) p.table)
    (cycles : base.cycles ≡ p.table) (v : IsValid None i base) (a : Adopts base old) (r : Run p old events new)
    (c : IsCertificateOf p i.events new content) where
  some_period : 0 < p.network.period
  some_period = (let e : p.network.period ≡ i.period = o.period in let some = limits.some_period in omega arith)

  kept : IsKept p old
  kept = adopted_is_kept i p base old limits o cycles v a

  valid : IsValid None i content
  valid = later_is_valid i p events old new content limits o walks kept r c

  positive : 0 < i.period
  positive = (let some = limits.some_period in omega arith)

  pub later_is_not_below : IsShort (least_of base.answer) → IsAtMost (least_of base.answer) (least_of content.answer)
  later_is_not_below short =
      let reaches = at_most_trans (least_of base.answer) (least p old) (least p new)
      (adopted_bound i p base old o cycles v short a) (least_never_falls p events old new some_period kept r) in
      let shows = subst (λ (answer : Answer). ShowsAnswer i answer (shown_labels content) (shown_times content)) c.answer valid.answer in
      subst (λ (answer : Answer). IsAtMost (least_of base.answer) (least_of answer)) (sym c.answer)
      (later_bound i base.answer (shown_times base) (shown_times content) (shown_labels content) (least p new)
      (best_cost p new) (valid_is_true None i base positive v) reaches shows)

  pub later_is_not_above : IsAtMost (cost_of content.answer) (cost_of base.answer)
  later_is_not_above =
      let fits = (run_goes_on p events old new some_period kept r).kept.best in
      let is_true = subst (λ (answer : Answer). IsTrueAnswer i answer (shown_times content)) c.answer
      (valid_is_true None i content positive valid) in
      let told_so = later_cost i (shown_times content) new.best (least p new) (best_cost p new) is_true
      (from_net i p new.best limits o fits) (net_cost (problem_net p)) refl in
      let cost : cost_of content.answer ≡ best_cost p new = ap cost_of c.answer ∙ told_so in
      subst (λ (x : Option ℕ). IsAtMost x (cost_of base.answer)) (sym cost)
      (subst (IsAtMost (best_cost p new)) (adopted_cost i p base old o v a)
      (best_never_rises p events old new some_period kept r))
