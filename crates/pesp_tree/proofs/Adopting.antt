-- The state in which a board takes a certificate up, and all open leaves lent at once.
use Rattle.std.proofs.Common.{◌≡◌, ◌≢◌, ℕ, ◌+◌, ◌<◌, ◌≤◌, List, [], ◌∷◌, ◌++◌, length, refl, sym, ap, ◌∙◌, subst, arith, true, inl, inr, append_assoc, append-nil, length-append, Some, None, zero, suc}
use Rattle.std.specs.Prelude.{◌⊎◌, ℤ, pos, ◌≤ℤ◌, All, Option, IfSome, map}
use Rattle.std.proofs.lemmas.Int.{ints}
use Rattle.pesp_problem.specs.declared.row.SignedRow.{SignedRow}
use Rattle.pesp_problem.specs.declared.cut.Cut.{Cut}
use Rattle.pesp_problem.specs.declared.cut.Side.{Side}
use Rattle.pesp_problem.specs.declared.cut.Side.TheVariants.{Low, High}
use Rattle.pesp_problem.specs.Limits.{KeepsLimits}
use Rattle.pesp_problem.specs.Timetables.{Pesp, IsTimetable}
use Rattle.pesp_problem.specs.Arcs.{Net}
use Rattle.pesp_problem.specs.Arcs as instances
use Rattle.pesp_problem.specs.NetTimetables.{IsNetTimetable}
use Rattle.pesp_problem.specs.Walks.{IsWalk}
use Rattle.pesp_problem.specs.Nodes.{Node, leaf_value, low_part, high_part, root}
use Rattle.pesp_problem.proofs.NetTimetables.{net_timetables, limits_in_order}
use Rattle.pesp_truth.specs.declared.answer.Answer.{Answer}
use Rattle.pesp_truth.specs.declared.answer.Answer.TheVariants.{Optimal, Infeasible, Bounded}
use Rattle.pesp_truth.specs.Trees.{Plain, Tree, Leaf, Ends, Branch, Bound, Shut, IsSound}
use Rattle.pesp_truth.specs.Certificates.{Content, IsValid, ShowsAnswer, least_of, shown_times}
use Rattle.pesp_truth.specs.Leaves.{IsLeafAt, leaf_paths}
use Rattle.pesp_truth.proofs.Lines.{one_tree}
use Rattle.pesp_nodes.specs.Problems.{ProblemValue, problem_net}
use Rattle.pesp_tree.specs.declared.job.Job.{Job}
use Rattle.pesp_tree.specs.States.{State, Ticket, Lent, IsLent, IsOpen}
use Rattle.pesp_tree.specs.Limits.{KeepsTreeLimits}
use Rattle.pesp_tree.specs.Reached.{IsKept, IsOrderly, AreLentApart}
use Rattle.pesp_tree.specs.Events.{Event, Run, LendsLeaf}
use Rattle.pesp_tree.specs.Certificates.{IsProblemOf, IsCertificateOf}
use Rattle.pesp_tree.specs.Adopting.{shown_best, Adopts, AreOpenOf, AreNumbered, LendsEach, lends_of}
use Rattle.pesp_tree.proofs.Trees.{and_is}
use Rattle.pesp_tree.proofs.EventSteps.{run_goes_on}
use Rattle.pesp_tree.proofs.Certified.{same_net, kept_is_valid}
use Rattle.pesp_tree.proofs.Lending.{ticket_in, none_is_lent, lent_more}

-- ---- a certificate that is taken up

-- what is sound for a least cost, or for none, is sound for 0
sound_for_nothing : (n : Net) (table : List (List SignedRow)) (least : Option ℕ) (tree : Tree) (node : Node)
    → IsSound (Plain least) n table tree node → IsSound (Plain (Some 0)) n table tree node
sound_for_nothing n table None (Ends (Bound pairs)) node s = absurd (s.1)
sound_for_nothing n table (Some l) (Ends (Bound pairs)) node s =
    let value = and_is (leaf_value n table node pairs true) (λ v. pos l ≤ℤ v) (s.1) in
    let over : pos l ≤ℤ value.0 = value.2 in
    let under : pos 0 ≤ℤ value.0 = omega (arith, ints, over) in
    (s.0, rw (value.1) under)
sound_for_nothing n table least (Ends (Shut reason)) node s = s
sound_for_nothing n table least (Branch cut low high) node s = (
  s.0,
  sound_for_nothing n table least low (low_part node cut) s.1,
  sound_for_nothing n table least high (high_part node cut) s.2,
)

to_net : (i : Pesp) (times : List ℕ) → KeepsLimits i → IsTimetable i times → IsNetTimetable (instances.net_of i) (length i.events) times
to_net i times k t = (net_timetables i times (let some = k.some_period in omega arith) (limits_in_order i k)).0 t

shown_is_timetable : (i : Pesp) (answer : Answer) (labels : List ℤ) (times : List ℕ) → KeepsLimits i
    → ShowsAnswer i answer labels times → IfSome (shown_best answer times)
    (IsNetTimetable (instances.net_of i) (length i.events))
shown_is_timetable i (Optimal c) labels times k s = to_net i times k s.1.0
shown_is_timetable i Infeasible labels times k s = tt
shown_is_timetable i (Bounded least None) labels times k s = tt
shown_is_timetable i (Bounded least (Some c)) labels times k s = to_net i times k s.1.1.0

-- the tree is sound for the certificate's bound
pub adopted_sound : (i : Pesp) (p : ProblemValue) (content : Content) (state : State) → IsProblemOf i p
    → content.cycles ≡ p.table → IsValid None i content → Adopts content state
    → IsSound (Plain (least_of content.answer)) (problem_net p) p.table state.tree (root (problem_net p) p.table)
adopted_sound i p content state o cycles v a =
    let n : Net = instances.net_of i in
    let bound = least_of content.answer in
    let same : state.tree ≡ v.tree.0 = one_tree state.tree v.tree.0 (a.tree ∙ sym v.tree.1) in
    let on_table : IsSound (Plain bound) n p.table v.tree.0 (root n p.table) =
    subst (λ (table : List (List SignedRow)). IsSound (Plain bound) n table v.tree.0 (root n table)) cycles v.tree.2 in
    let on_tree : IsSound (Plain bound) n p.table state.tree (root n p.table) =
    subst (λ (tree : Tree). IsSound (Plain bound) n p.table tree (root n p.table)) (sym same) on_table in
    subst (λ (m : Net). IsSound (Plain bound) m p.table state.tree (root m p.table)) (sym (same_net i p o)) on_tree

pub adopted_is_kept : (i : Pesp) (p : ProblemValue) (content : Content) (state : State) → KeepsLimits i
    → IsProblemOf i p → content.cycles ≡ p.table → IsValid None i content → Adopts content state → IsKept p state
adopted_is_kept i p content state l o cycles v a =
    let n : Net = instances.net_of i in
    let net : n ≡ problem_net p = sym (same_net i p o) in
    let shown = shown_is_timetable i content.answer _ (shown_times content) l v.answer in
    let times : IfSome state.best (IsNetTimetable n (length i.events)) =
    subst (λ (best : Option (List ℕ)). IfSome best (IsNetTimetable n (length i.events))) (sym a.best) shown in
    let events : IfSome state.best (IsNetTimetable n p.network.events) =
    subst (λ (count : ℕ). IfSome state.best (IsNetTimetable n count)) (sym o.events) times in
    record {
      tree = sound_for_nothing (problem_net p) p.table (least_of content.answer) state.tree (root (problem_net p) p.table)
          (adopted_sound i p content state o cycles v a);
      best = subst (λ (m : Net). IfSome state.best (IsNetTimetable m p.network.events)) net events;
    }

none_apart : (state : State) → state.numbers ≡ [] → AreLentApart state
none_apart state none = record {
  leaf = λ number path e. absurd (none_is_lent number path (rw none at e));
  apart = λ a b path e f. absurd (none_is_lent a path (rw none at e));
}

pub adopted_is_orderly : (i : Pesp) (p : ProblemValue) (content : Content) (state : State) → KeepsLimits i
    → IsProblemOf i p → content.cycles ≡ p.table → IsValid None i content → KeepsTreeLimits p state.tree
    → Adopts content state → IsOrderly p state
adopted_is_orderly i p content state l o cycles v limits a =
    record {
      kept = adopted_is_kept i p content state l o cycles v a;
      limits = limits;
      lent = none_apart state a.numbers;
    }

pub later_is_valid : (i : Pesp) (p : ProblemValue) (events : List Event) (old new : State) (content : Content)
    → KeepsLimits i → IsProblemOf i p → All (IsWalk (problem_net p).arcs) p.table → IsKept p old → Run p old events new
    → IsCertificateOf p i.events new content → IsValid None i content
later_is_valid i p events old new content l o w k r c =
    let some_period : 0 < p.network.period = (let e : p.network.period ≡ i.period = o.period in let some = l.some_period in omega arith) in
    kept_is_valid i p new content l o w (run_goes_on p events old new some_period k r).kept c

-- ---- all open leaves lent at once

abbrev Path : Type 0
Path = List (Cut × Side)

-- each of the paths leads to an open leaf
abbrev AllOpen : ProblemValue → State → List Path → Type 0
AllOpen p state [] = Unit {0}
AllOpen p state (path ∷ paths) = IsOpen p state path × AllOpen p state paths

-- the paths differ from this one
abbrev AllOther : Path → List Path → Type 0
AllOther path [] = Unit {0}
AllOther path (other ∷ paths) = (other ≢ path) × AllOther path paths

-- no two paths are the same
abbrev AllDiffer : List Path → Type 0
AllDiffer [] = Unit {0}
AllDiffer (path ∷ paths) = AllOther path paths × AllDiffer paths

-- the paths to leaves differ

other_append : (path : Path) (xs ys : List Path) → AllOther path xs → AllOther path ys → AllOther path (xs ++ ys)
other_append path [] ys h k = k
other_append path (x ∷ xs) ys h k = (h.0, other_append path xs ys h.1 k)

-- none of the paths is the same as one of the others
abbrev AllApart : List Path → List Path → Type 0
AllApart [] ys = Unit {0}
AllApart (x ∷ xs) ys = AllOther x ys × AllApart xs ys

differ_append : (xs ys : List Path) → AllDiffer xs → AllDiffer ys → AllApart xs ys → AllDiffer (xs ++ ys)
differ_append [] ys h k a = k
differ_append (x ∷ xs) ys h k a = (other_append x xs ys h.0 a.0, differ_append xs ys h.1 k a.1)

other_behind : (step : Cut × Side) (path : Path) (paths : List Path) → AllOther path paths
    → AllOther (step ∷ path) (map (λ (q : Path). step ∷ q) paths)
other_behind step path [] h = tt
other_behind step path (q ∷ paths) h = ((λ e. h.0 (let same : step ∷ q ≡ step ∷ path = e in cc)), other_behind step path paths h.1)

differ_behind : (step : Cut × Side) (paths : List Path) → AllDiffer paths → AllDiffer (map (λ (q : Path). step ∷ q) paths)
differ_behind step [] h = tt
differ_behind step (path ∷ paths) h = (other_behind step path paths h.0, differ_behind step paths h.1)

not_low : (cut : Cut) (q path : Path) → (cut, High) ∷ q ≢ (cut, Low) ∷ path
not_low cut q path e =
    let step : ◌≡◌ {A = Cut × Side} (cut, High) (cut, Low) = cc in
    let side : High ≡ Low = ap (λ (s : Cut × Side). s.1) step in
    absurd cc

high_is_other : (cut : Cut) (path : Path) (paths : List Path) → AllOther ((cut, Low) ∷ path) (map (λ (q : Path). (cut, High) ∷ q) paths)
high_is_other cut path [] = tt
high_is_other cut path (q ∷ paths) = (not_low cut q path, high_is_other cut path paths)

sides_apart : (cut : Cut) (lows highs : List Path)
    → AllApart (map (λ (q : Path). (cut, Low) ∷ q) lows) (map (λ (q : Path). (cut, High) ∷ q) highs)
sides_apart cut [] highs = tt
sides_apart cut (path ∷ lows) highs = (high_is_other cut path highs, sides_apart cut lows highs)

leaves_differ : (tree : Tree) → AllDiffer (leaf_paths tree)
leaves_differ (Ends leaf) = (tt, tt)
leaves_differ (Branch cut low high) =
    differ_append (map (λ (q : Path). (cut, Low) ∷ q) (leaf_paths low))
    (map (λ (q : Path). (cut, High) ∷ q) (leaf_paths high))
    (differ_behind (cut, Low) (leaf_paths low) (leaves_differ low))
    (differ_behind (cut, High) (leaf_paths high) (leaves_differ high))
    (sides_apart cut (leaf_paths low) (leaf_paths high))

-- those that lead to open leaves do so, and differ

other_open : (p : ProblemValue) (state : State) (path : Path) (paths opens : List Path) → AllOther path paths
    → AreOpenOf p state paths opens → AllOther path opens
other_open p state path [] opens h o = rw o tt
other_open p state path (q ∷ paths) opens h (inl found) = rw (found.2) (h.0, other_open p state path paths found.0 h.1 found.3)
other_open p state path (q ∷ paths) opens h (inr not) = other_open p state path paths opens h.1 not.1

opens_differ : (p : ProblemValue) (state : State) (paths opens : List Path) → AllDiffer paths
    → AreOpenOf p state paths opens → AllDiffer opens
opens_differ p state [] opens h o = rw o tt
opens_differ p state (q ∷ paths) opens h (inl found) =
    rw (found.2) (other_open p state q paths found.0 h.0 found.3, opens_differ p state paths found.0 h.1 found.3)
opens_differ p state (q ∷ paths) opens h (inr not) = opens_differ p state paths opens h.1 not.1

opens_open : (p : ProblemValue) (state : State) (paths opens : List Path) → AreOpenOf p state paths opens → AllOpen p state opens
opens_open p state [] opens o = rw o tt
opens_open p state (q ∷ paths) opens (inl found) = rw (found.2) (found.1, opens_open p state paths found.0 found.3)
opens_open p state (q ∷ paths) opens (inr not) = opens_open p state paths opens not.1

-- the state once one more leaf is lent
abbrev lent_also : State → Path → State
lent_also state path = record state { numbers = state.numbers ++ Lent path ∷ [] }

still_unlent : (state : State) (path q : Path) → q ≢ path → (IsLent state q → ⊥) → IsLent (lent_also state path) q → ⊥
still_unlent state path q other unlent (number, e) = elim (lent_more state.numbers number q path e) [
  | inl before ↦ unlent (number, before)
  | inr new ↦ other new.1
]

still_open : (p : ProblemValue) (state : State) (path q : Path) → q ≢ path → IsOpen p state q → IsOpen p (lent_also state path) q
still_open p state path q other o = record {
  pairs = o.pairs;
  leaf = o.leaf;
  unlent = still_unlent state path q other o.unlent;
  cheaper = o.cheaper;
}

still_all_open : (p : ProblemValue) (state : State) (path : Path) (paths : List Path) → AllOther path paths
    → AllOpen p state paths → AllOpen p (lent_also state path) paths
still_all_open p state path [] h o = tt
still_all_open p state path (q ∷ paths) h o = (still_open p state path q h.0 o.0, still_all_open p state path paths h.1 o.1)

lends_run : (p : ProblemValue) (old new : State) (jobs : List Job) (paths : List Path) → AllOpen p old paths
    → AllDiffer paths → AreNumbered (length old.numbers) jobs paths → length old.numbers + length paths ≤ 1000000
    → new ≡ record old { numbers = old.numbers ++ map Lent paths }
    → Run p old (lends_of jobs) new
lends_run p old new [] paths o d numbered left is =
    let none : map Lent paths ≡ [] = ap (map Lent) numbered in
    is ∙ ap (λ (numbers : List Ticket). record old { numbers = numbers })
    (ap (λ (more : List Ticket). old.numbers ++ more) none ∙ append-nil old.numbers)
lends_run p old new (job ∷ jobs) paths o d numbered left is =
    let path : Path = job.path.items in
    let rest : List Path = numbered.0 in
    let same : paths ≡ path ∷ rest = numbered.2 in
    let between : State = lent_also old path in
    let opens : IsOpen p old path × AllOpen p old rest = rw same at o in
    let differ : AllOther path rest × AllDiffer rest = rw same at d in
    let fewer : length old.numbers + length (path ∷ rest) ≤ 1000000 = rw same at left in
    let count : length (old.numbers ++ Lent path ∷ []) ≡ length old.numbers + 1 = length-append old.numbers (Lent path ∷ []) in
    let step : LendsLeaf p old job between = record { opens = opens.0; number = numbered.1; left = omega (arith, fewer); state = refl } in
    let numbers : old.numbers ++ map Lent (path ∷ rest)
    ≡ (old.numbers ++ Lent path ∷ []) ++ map Lent rest =
    sym (append_assoc old.numbers (Lent path ∷ []) (map Lent rest)) in
    let last : new ≡ record between { numbers = between.numbers ++ map Lent rest } = is
    ∙ ap (λ (qs : List Path). record old { numbers = old.numbers ++ map Lent qs }) same
    ∙ ap (λ (ns : List Ticket). record old { numbers = ns }) numbers in (
      between,
      step,
      lends_run p between new jobs rest (still_all_open p old path rest differ.0 opens.1) differ.1
          (rw (← count) at numbered.3) (omega (arith, fewer, count)) last,
    )

pub lends_each_run : (p : ProblemValue) (old new : State) (jobs : List Job) → LendsEach p old jobs new → Run p old (lends_of jobs) new
lends_each_run p old new jobs s = lends_run p old new jobs s.paths
    (opens_open p old (leaf_paths old.tree) s.paths s.opens)
    (opens_differ p old (leaf_paths old.tree) s.paths (leaves_differ old.tree) s.opens) s.numbered s.left s.state

-- ---- then no leaf is open

-- the path is one of these
abbrev pub Has : Path → List Path → Type 0
Has path [] = ⊥
Has path (q ∷ paths) = (path ≡ q) ⊎ Has path paths

has_first : (path : Path) (xs ys : List Path) → Has path xs → Has path (xs ++ ys)
has_first path [] ys h = absurd h
has_first path (x ∷ xs) ys (inl same) = inl same
has_first path (x ∷ xs) ys (inr h) = inr (has_first path xs ys h)

has_second : (path : Path) (xs ys : List Path) → Has path ys → Has path (xs ++ ys)
has_second path [] ys h = h
has_second path (x ∷ xs) ys h = inr (has_second path xs ys h)

has_behind : (step : Cut × Side) (path : Path) (paths : List Path) → Has path paths → Has (step ∷ path) (map (λ (q : Path). step ∷ q) paths)
has_behind step path [] h = absurd h
has_behind step path (q ∷ paths) (inl same) = inl (ap (λ (x : Path). step ∷ x) same)
has_behind step path (q ∷ paths) (inr h) = inr (has_behind step path paths h)

pub has_leaf : (tree : Tree) (path : Path) (leaf : Leaf) → IsLeafAt tree path leaf → Has path (leaf_paths tree)
has_leaf (Ends there) [] leaf h = inl refl
has_leaf (Ends there) (step ∷ path) leaf h = absurd h
has_leaf (Branch cut low high) [] leaf h = absurd h
has_leaf (Branch cut low high) ((c, Low) ∷ path) leaf h =
    let lows = map (λ (q : Path). (cut, Low) ∷ q) (leaf_paths low) in
    let highs = map (λ (q : Path). (cut, High) ∷ q) (leaf_paths high) in
    rw (h.0) (has_first ((cut, Low) ∷ path) lows highs (has_behind (cut, Low) path (leaf_paths low) (has_leaf low path leaf h.1)))
has_leaf (Branch cut low high) ((c, High) ∷ path) leaf h =
    let lows = map (λ (q : Path). (cut, Low) ∷ q) (leaf_paths low) in
    let highs = map (λ (q : Path). (cut, High) ∷ q) (leaf_paths high) in
    rw (h.0) (has_second ((cut, High) ∷ path) lows highs (has_behind (cut, High) path (leaf_paths high) (has_leaf high path leaf h.1)))

has_open : (p : ProblemValue) (state : State) (path : Path) (paths opens : List Path) → IsOpen p state path
    → Has path paths → AreOpenOf p state paths opens → Has path opens
has_open p state path [] opens is h o = absurd h
has_open p state path (q ∷ paths) opens is (inl same) (inl found) = rw (found.2) (inl same)
has_open p state path (q ∷ paths) opens is (inr h) (inl found) = rw (found.2) (inr (has_open p state path paths found.0 is h found.3))
has_open p state path (q ∷ paths) opens is (inl same) (inr not) = let P : Path → Type 0 = λ x. IsOpen p state x in
    absurd (not.0 (subst P same is))
has_open p state path (q ∷ paths) opens is (inr h) (inr not) = has_open p state path paths opens is h not.1

-- what was lent is lent still, and what is lent also is
lent_still : (tickets more : List Ticket) (number : ℕ) (path : Path) → ticket_in tickets number ≡ Lent path
    → ticket_in (tickets ++ more) number ≡ Lent path
lent_still [] more number path e = absurd (none_is_lent number path e)
lent_still (t ∷ tickets) more zero path e = e
lent_still (t ∷ tickets) more (suc number) path e = lent_still tickets more number path e

lent_first : (paths : List Path) (path : Path) → Has path paths → (number : ℕ) × (ticket_in (map Lent paths) number ≡ Lent path)
lent_first [] path h = absurd h
lent_first (q ∷ paths) path (inl same) = (zero, ap Lent (sym same))
lent_first (q ∷ paths) path (inr h) = let rest = lent_first paths path h in (suc rest.0, rest.1)

lent_there : (tickets : List Ticket) (paths : List Path) (path : Path) → Has path paths
    → (number : ℕ) × (ticket_in (tickets ++ map Lent paths) number ≡ Lent path)
lent_there [] paths path h = lent_first paths path h
lent_there (t ∷ tickets) paths path h = let rest = lent_there tickets paths path h in (suc rest.0, rest.1)

pub none_open_then : (p : ProblemValue) (old new : State) (jobs : List Job) (path : Path) → LendsEach p old jobs new → IsOpen p new path → ⊥
none_open_then p old new jobs path s o =
    let P : State → Type 0 = λ state. IsOpen p state path in
    let is : IsOpen p (record old { numbers = old.numbers ++ map Lent s.paths }) path = subst P s.state o in
    let before : IsOpen p old path = record {
      pairs = is.pairs;
      leaf = is.leaf;
      unlent = λ lent. is.unlent (lent.0, lent_still old.numbers (map Lent s.paths) lent.0 path lent.1);
      cheaper = is.cheaper;
    } in
    let has = has_open p old path (leaf_paths old.tree) s.paths before (has_leaf old.tree path (Bound is.pairs) is.leaf) s.opens in
    is.unlent (lent_there old.numbers s.paths path has)
