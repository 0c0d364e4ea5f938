-- Turns on a board that was worked on by turns alone: how far its tree has come, and how many numbers are spent.
use Rattle.std.proofs.Common.{◌≡◌, ◌≢◌, ℕ, ◌+◌, ◌*◌, ◌<◌, ◌≤◌, inl, inr, Bool, true, false, List, length, refl, ap, arith, sym, ◌∙◌, subst}
use Rattle.std.specs.Prelude.{Some, Ok}
use Rattle.std.proofs.Math.Nat.{mul-le-mul_right}
use Rattle.pesp_problem.specs.declared.cut.Cut.{Cut}
use Rattle.pesp_problem.specs.declared.cut.Side.{Side}
use Rattle.pesp_network.specs.Networks.{KeepsNetLimits}
use Rattle.pesp_truth.specs.Trees.{Bound}
use Rattle.pesp_nodes.specs.Problems.{ProblemValue, problem_net, IsSmallTable}
use Rattle.pesp_tree.specs.declared.work.Work.TheVariants as works
use Rattle.pesp_tree.specs.States.{State, IsOpen, root_of, node_at}
use Rattle.pesp_tree.specs.Events.{Lend}
use Rattle.pesp_tree.proofs.Runs.{step_is_orderly, least_never_falls}
use Rattle.pesp_reduce.specs.Reductions.{ReducedValue}
use Rattle.pesp_branching.specs.Offering.{MayOffer}
use Rattle.pesp_branching.specs.Rooms.{branches}
use Rattle.pesp_branching.specs.Turns.{IsWorked, splits_of}
use Rattle.pesp_branching.proofs.Settled.{slacks_at_root, slacks_along, paths_keep_spans}
use Rattle.pesp_branching.proofs.Sizes.{large_has_many}
use Rattle.pesp_branching.proofs.Spent.{given_one, offers_none, recalled_one}
use Rattle.pesp_branching.proofs.Turns.{steps, closes_by_gap, offers, numbers_are_few}
use Rattle.pesp_turns.specs.declared.ending.Ending.{Ending}
use Rattle.pesp_turns.specs.declared.ending.Ending.TheVariants.{StepsUsed, NoneOpen, NumbersSpent, TreeTooLarge, TurnsUsed}
use Rattle.pesp_turns.specs.declared.turn.Turn.{Turn}
use Rattle.pesp_turns.specs.declared.turn.Turn.TheVariants.{Split, Closed, GivenUp, Over}
use Rattle.pesp_turns.specs.Settling.{IsSearched, Settles}
use Rattle.pesp_turns.specs.Turning.{IsSplit, IsClosed, IsSettling, IsSettledTurn, IsTooLarge, IsTurn, splits_in}
use Rattle.pesp_turns.specs.Growing.{Grows}
use Rattle.pesp_turns.specs.Counting.{IsWorkedFrom, AreTurns}
use Rattle.pesp_turns.proofs.Closings.{settled_turn, never_in_vain}
use Rattle.pesp_turns.proofs.Growth.{none_grows, then_grows, turn_grows}

some_period : (p : ProblemValue) → KeepsNetLimits p.network → 0 < p.network.period
some_period p limits = let some = limits.some_period in omega (arith, some)

-- ---- what a turn leaves

-- so many leaves are split then, and one number more is spent
pub record IsCounted (p : ProblemValue) (used : ℕ) (old new : State) : Type 0 where
  pub worked : IsWorked p used new
  pub spent : length new.numbers ≡ length old.numbers + 1

offered : (p : ProblemValue) (used : ℕ) (old mid new : State) → KeepsNetLimits p.network → IsSmallTable p.table
    → IsCounted p used old mid → MayOffer p mid new → IsCounted p used old new
offered p used old mid new limits small c (inl same) = subst (IsCounted p used old) (sym same) c
offered p used old mid new limits small c (inr (times, kept, o)) = record {
  worked = offers p used mid new times kept limits small c.worked o;
  spent = offers_none p mid new times kept o ∙ c.spent;
}

split_counts : (p : ProblemValue) (used : ℕ) (old new : State) → KeepsNetLimits p.network → IsSmallTable p.table
    → IsWorked p used old → IsSplit p old new → IsCounted p (used + 1) old new
split_counts p used old new limits small w s =
    let g = s.gives in
    offered p (used + 1) old s.split new limits small (record {
      worked = steps p used old s.lent s.split s.job g.lines g.cut g.low g.high limits small w g.counted g.step s.lends g.given;
      spent = given_one p old s.lent s.split s.job (works.Tree g.lines) s.lends g.given;
    }) s.offers

gap_counts : (p : ProblemValue) (used : ℕ) (old new : State) → KeepsNetLimits p.network → IsSmallTable p.table
    → IsWorked p used old → IsClosed p old new → IsCounted p used old new
gap_counts p used old new limits small w c = record {
  worked = closes_by_gap p used old c.lent new c.job c.cycle limits small w c.lends c.takes;
  spent = given_one p old c.lent new c.job (works.Gap c.cycle) c.lends c.takes;
}

-- the node of a leaf that is lent settles
node_settles : (p : ProblemValue) (r : ReducedValue) (used : ℕ) (old new : State) (found : Bool)
    (s : IsSettledTurn p r old found new) → IsSearched p r → IsWorked p used old
    → Settles p r (node_at p s.job.path.items)
node_settles p r used old new found s searched w =
    let path = s.job.path.items in
    let pairs = s.lends.opens.pairs in
    record {
      searched = searched;
      slacks = slacks_along (problem_net p) p.table old.tree path (Bound pairs) (root_of p)
          (slacks_at_root (problem_net p) p.table) w.both s.lends.opens.leaf;
      spans = paths_keep_spans (problem_net p) p.table path;
      settled = s.settled;
      left = s.left;
    }

settled_counts : (p : ProblemValue) (r : ReducedValue) (used : ℕ) (old new : State) → KeepsNetLimits p.network
    → IsSmallTable p.table → IsSearched p r → IsWorked p used old → IsSettledTurn p r old true new
    → IsCounted p used old new
settled_counts p r used old new limits small searched w s =
    let there = node_settles p r used old new true s searched w in
    let x = s.settles in
    record {
      worked = settled_turn p r (node_at p s.job.path.items) x.offers.times used old s.lent x.offered new s.job
          x.offers.kept x.back limits small there refl (x.offers.least there) w s.lends x.offers.offers x.recalls;
      spent = recalled_one p old s.lent x.offered new s.job x.offers.times x.offers.kept x.back s.lends x.offers.offers x.recalls;
    }

none_given_up : (p : ProblemValue) (r : ReducedValue) (used : ℕ) (old new : State) → KeepsNetLimits p.network
    → IsSearched p r → IsWorked p used old → IsSettledTurn p r old false new → ⊥
none_given_up p r used old new limits searched w s =
    by_times s.settles
  where
    there : Settles p r (node_at p s.job.path.items)
    there = node_settles p r used old new false s searched w

    by_times : IsSettling p r (node_at p s.job.path.items) s.lent s.job.number false new → ⊥
    by_times (inl none) = none.1 there
    by_times (inr vain) = never_in_vain p r old s.lent new s.job limits w.orderly there s.lends vain

has_many : (p : ProblemValue) (used : ℕ) (old new : State) → KeepsNetLimits p.network → IsSmallTable p.table
    → IsWorked p used old → used ≤ 100000 → IsTooLarge p old new → 20000000 < (used + 2) * length p.table
has_many p used old new limits small w few t =
    let orderly = step_is_orderly p old (Lend (Ok (Some t.job))) new limits small w.orderly t.lends in
    let count : branches new.tree ≡ used = ap (λ (s : State). branches s.tree) t.lends.state ∙ w.count in
    let one = t.few in
    let many = large_has_many p new t.job.number used t.work limits small orderly count (omega (arith, few, one)) t.large in
    let more : used + splits_of t.work + 1 ≤ used + 2 = omega (arith, one) in
    let product : (used + splits_of t.work + 1) * length p.table ≤ (used + 2) * length p.table = mul-le-mul_right (length p.table) more in
    omega (arith, many, product)

none_spent : (p : ProblemValue) (used : ℕ) (old : State) → IsWorked p used old → used ≤ 100000 → 1000000 ≤ length old.numbers → ⊥
none_spent p used old w few spent = let most = numbers_are_few p used old w in absurd (omega (arith, most, few, spent))

-- what a turn does on such a board
abbrev pub IsCountedTurn : ProblemValue → ℕ → State → Turn → State → Type 0
IsCountedTurn p used old Split new = IsCounted p (used + 1) old new
IsCountedTurn p used old Closed new = IsCounted p used old new
IsCountedTurn p used old GivenUp new = ⊥
IsCountedTurn p used old (Over StepsUsed) new = ⊥
IsCountedTurn p used old (Over NoneOpen) new = (new ≡ old) × ((path : List (Cut × Side)) → IsOpen p old path → ⊥)
IsCountedTurn p used old (Over NumbersSpent) new = ⊥
IsCountedTurn p used old (Over TreeTooLarge) new = 20000000 < (used + 2) * length p.table
IsCountedTurn p used old (Over TurnsUsed) new = ⊥

turn_counts : (p : ProblemValue) (r : ReducedValue) (used : ℕ) (turn : Turn) (old new : State)
    → KeepsNetLimits p.network → IsSmallTable p.table → IsSearched p r → IsWorked p used old → used ≤ 100000
    → IsTurn p r old turn new → IsCountedTurn p used old turn new
turn_counts p r used Split old new limits small searched w few t = split_counts p used old new limits small w t
turn_counts p r used Closed old new limits small searched w few (inl c) = gap_counts p used old new limits small w c
turn_counts p r used Closed old new limits small searched w few (inr s) = settled_counts p r used old new limits small searched w s
turn_counts p r used GivenUp old new limits small searched w few t = none_given_up p r used old new limits searched w t
turn_counts p r used (Over StepsUsed) old new limits small searched w few t = t
turn_counts p r used (Over NoneOpen) old new limits small searched w few t = t
turn_counts p r used (Over NumbersSpent) old new limits small searched w few t = none_spent p used old w few t.2
turn_counts p r used (Over TreeTooLarge) old new limits small searched w few t = has_many p used old new limits small w few t
turn_counts p r used (Over TurnsUsed) old new limits small searched w few t = t

-- ---- between turns

-- so many turns, of which so many split a leaf, led to this state
pub record AreCounted (p : ProblemValue) (used turn : ℕ) (now : State) : Type 0 where
  pub worked : IsWorked p used now
  pub spent : turn ≤ length now.numbers

-- the way from the old state to this one
pub record IsSoFar (p q : ProblemValue) (r : ReducedValue) (steps used turn : ℕ) (old now : State) : Type 0 where
  pub limits : KeepsNetLimits p.network
  pub small : IsSmallTable p.table
  pub problem : q ≡ p
  pub few : used ≤ steps
  pub grows : Grows p used old now
  pub counted : IsSearched p r → IsWorked p 0 old → AreCounted p used turn now

pub at_first : (p x : ProblemValue) (r : ReducedValue) (steps : ℕ) (old : State) → x ≡ p → KeepsNetLimits x.network
    → IsSmallTable x.table → IsSoFar p p r steps 0 0 old old
at_first p x r steps old e limits small = record {
  limits = subst (λ (y : ProblemValue). KeepsNetLimits y.network) e limits;
  small = subst (λ (y : ProblemValue). IsSmallTable y.table) e small;
  problem = refl;
  few = omega arith;
  grows = none_grows p old old refl;
  counted = λ searched w. record { worked = w; spent = omega arith };
}

pub grown_over : (p q : ProblemValue) (r : ReducedValue) (steps used turn : ℕ) (old now new : State)
    (ending : Ending) → IsSoFar p q r steps used turn old now → IsTurn q r now (Over ending) new
    → Grows p used old new
grown_over p q r steps used turn old now new ending h done =
    subst (λ (n : ℕ). Grows p n old new) (same used)
    (then_grows p used 0 old now new h.grows (turn_grows p r (Over ending) now new
    (subst (λ (x : ProblemValue). IsTurn x r now (Over ending) new) h.problem done)))
  where
    same : (n : ℕ) → n + 0 ≡ n
    same n = omega arith

-- one turn more
next : (p : ProblemValue) (used turn : ℕ) (t : Turn) (now new : State) → (IsCounted p (used + splits_in t) now new)
    → AreCounted p used turn now → AreCounted p (used + splits_in t) (turn + 1) new
next p used turn t now new c h = record { worked = c.worked; spent = (let more = c.spent in let was = h.spent in omega (arith, more, was)) }

below : (a b c : ℕ) → a ≤ b → a ≢ b → c ≤ 1 → a + c ≤ b
below a b c l n m = grind arith

grown : (p q : ProblemValue) (r : ReducedValue) (steps used turn : ℕ) (old now new : State) (t : Turn)
    → IsSoFar p q r steps used turn old now → IsTurn q r now t new → Grows p (used + splits_in t) old new
grown p q r steps used turn old now new t h done =
    then_grows p used (splits_in t) old now new h.grows
    (turn_grows p r t now new (subst (λ (x : ProblemValue). IsTurn x r now t new) h.problem done))

counts : (p q : ProblemValue) (r : ReducedValue) (steps used turn : ℕ) (old now new : State) (t : Turn)
    → steps ≤ 100000 → IsSoFar p q r steps used turn old now → IsTurn q r now t new → IsSearched p r
    → (c : AreCounted p used turn now) → IsCountedTurn p used now t new
counts p q r steps used turn old now new t most h done searched c =
    let few = h.few in
    turn_counts p r used t now new h.limits h.small searched c.worked (omega (arith, few, most))
    (subst (λ (x : ProblemValue). IsTurn x r now t new) h.problem done)

pub after_split : (p q x : ProblemValue) (r : ReducedValue) (steps used turn : ℕ) (old now new : State)
    → steps ≤ 100000 → used ≢ steps → x ≡ q → IsSoFar p q r steps used turn old now → IsTurn q r now Split new
    → IsSoFar p x r steps (used + 1) (turn + 1) old new
after_split p q x r steps used turn old now new most not e h done = record {
  limits = h.limits;
  small = h.small;
  problem = e ∙ h.problem;
  few = below used steps 1 h.few not (omega arith);
  grows = grown p q r steps used turn old now new Split h done;
  counted = λ searched w. (let c = h.counted searched w in
      next p used turn Split now new (counts p q r steps used turn old now new Split most h done searched c) c);
}

pub after_close : (p q x : ProblemValue) (r : ReducedValue) (steps used turn : ℕ) (old now new : State)
    → steps ≤ 100000 → x ≡ q → IsSoFar p q r steps used turn old now → IsTurn q r now Closed new
    → IsSoFar p x r steps used (turn + 1) old new
after_close p q x r steps used turn old now new most e h done = record {
  limits = h.limits;
  small = h.small;
  problem = e ∙ h.problem;
  few = h.few;
  grows = subst (λ (n : ℕ). Grows p n old new) (zero_more used) (grown p q r steps used turn old now new Closed h done);
  counted = λ searched w. (let c = h.counted searched w in
      one_more c (counts p q r steps used turn old now new Closed most h done searched c));
}
  where
    zero_more : (n : ℕ) → n + 0 ≡ n
    zero_more n = omega arith

    one_more : AreCounted p used turn now → IsCounted p used now new → AreCounted p used (turn + 1) new
    one_more c d = record { worked = d.worked; spent = (let more = d.spent in let was = c.spent in omega (arith, more, was)) }

pub after_none : (p q x : ProblemValue) (r : ReducedValue) (steps used turn : ℕ) (old now new : State)
    → steps ≤ 100000 → x ≡ q → IsSoFar p q r steps used turn old now → IsTurn q r now GivenUp new
    → IsSoFar p x r steps used (turn + 1) old new
after_none p q x r steps used turn old now new most e h done = record {
  limits = h.limits;
  small = h.small;
  problem = e ∙ h.problem;
  few = h.few;
  grows = subst (λ (n : ℕ). Grows p n old new) (zero_more used) (grown p q r steps used turn old now new GivenUp h done);
  counted = λ searched w. (let c = h.counted searched w in
      absurd (counts p q r steps used turn old now new GivenUp most h done searched c));
}
  where
    zero_more : (n : ℕ) → n + 0 ≡ n
    zero_more n = omega arith

-- ---- the end

worked_from : (p q : ProblemValue) (r : ReducedValue) (steps used turn : ℕ) (old now : State)
    → IsSoFar p q r steps used turn old now → IsSearched p r → IsWorked p 0 old → IsWorkedFrom p used old now
worked_from p q r steps used turn old now h searched w = record {
  worked = (h.counted searched w).worked;
  least = least_never_falls p h.grows.events old now (some_period p h.limits) w.orderly.kept h.grows.run;
}

pub all_used : (p q : ProblemValue) (r : ReducedValue) (steps used turn : ℕ) (old now : State) → used ≡ steps
    → IsSoFar p q r steps used turn old now → IsSearched p r → IsWorked p 0 old
    → AreTurns p steps old used StepsUsed now
all_used p q r steps used turn old now e h searched w = (worked_from p q r steps used turn old now h searched w, e)

pub none_left : (p q : ProblemValue) (r : ReducedValue) (steps used turn : ℕ) (old now : State)
    → 2 * steps + 3 ≤ turn → IsSoFar p q r steps used turn old now → IsSearched p r → IsWorked p 0 old → ⊥
none_left p q r steps used turn old now done h searched w =
    let c = h.counted searched w in
    let few = numbers_are_few p used now c.worked in
    let spent = c.spent in
    let most = h.few in
    absurd (omega (arith, few, spent, most, done))

pub is_over : (p q : ProblemValue) (r : ReducedValue) (steps used turn : ℕ) (old now new : State) (ending : Ending)
    → steps ≤ 100000 → used ≢ steps → IsSoFar p q r steps used turn old now → IsTurn q r now (Over ending) new
    → IsSearched p r → IsWorked p 0 old → AreTurns p steps old used ending new
is_over p q r steps used turn old now new ending most not h done searched w =
    by_ending ending (counts p q r steps used turn old now new (Over ending) most h done searched (h.counted searched w))
  where
    from : IsWorkedFrom p used old now
    from = worked_from p q r steps used turn old now h searched w

    by_ending : (ending : Ending) → IsCountedTurn p used now (Over ending) new → AreTurns p steps old used ending new
    by_ending StepsUsed t = absurd t
    by_ending NoneOpen t = subst (λ (s : State). IsWorkedFrom p used old s
        × ((path : List (Cut × Side)) → IsOpen p s path → ⊥)) (sym t.0) (from, t.1)
    by_ending NumbersSpent t = t
    by_ending TreeTooLarge t =
        let fewer : used + 2 ≤ steps + 1 = fewer used steps h.few not in
        let product : (used + 2) * length p.table ≤ (steps + 1) * length p.table = mul-le-mul_right (length p.table) fewer in
        omega (arith, t, product)
      where
        fewer : (a b : ℕ) → a ≤ b → a ≢ b → a + 2 ≤ b + 1
        fewer a b l n = grind arith
    by_ending TurnsUsed t = t
