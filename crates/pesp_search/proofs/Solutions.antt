-- What is certified after the turns.
use Rattle.std.proofs.Common.{◌≡◌, ℕ, ◌+◌, ◌*◌, ◌<◌, ◌≤◌, ◌⊎◌, inl, inr, Bool, true, false, List, length, refl, ap, arith, sym, ◌∙◌, subst}
use Rattle.std.specs.Prelude.{nat_le, Option, Some, None, IsSomeAnd, if◌then◌else◌, Result, Ok, Err, IsErrAnd, IfErr}
use Rattle.std.proofs.Math.Nat.{mul-le-mul_left, mul-le-mul_right}
use Rattle.pesp_problem.specs.declared.row.SignedRow.{SignedRow}
use Rattle.pesp_problem.specs.declared.cut.Cut.{Cut}
use Rattle.pesp_problem.specs.declared.cut.Side.{Side}
use Rattle.pesp_problem.specs.Limits.{KeepsLimits}
use Rattle.pesp_problem.specs.Timetables.{Pesp, IsTimetable, cost}
use Rattle.pesp_problem.specs.Arcs.{Net, net_of as instance_net}
use Rattle.pesp_problem.specs.NetTimetables.{IsNetTimetable, net_cost}
use Rattle.pesp_problem.proofs.NetTimetables.{limits_in_order, net_timetables, net_cost-is}
use Rattle.pesp_network.specs.Networks.{KeepsNetLimits}
use Rattle.pesp_truth.specs.declared.answer.Answer.{Answer}
use Rattle.pesp_truth.specs.declared.answer.Answer.TheVariants.{Optimal, Infeasible, Bounded}
use Rattle.pesp_truth.specs.Truth.{IsTrueAnswer}
use Rattle.pesp_truth.specs.Certificates.{Content, IsValid, cost_of, shown_times}
use Rattle.pesp_truth.proofs.Certificates.{valid_is_true}
use Rattle.pesp_nodes.specs.Problems.{ProblemValue, problem_net}
use Rattle.pesp_tree.specs.States.{State, IsAtMost, IsOpen, least, best_cost}
use Rattle.pesp_tree.specs.Certificates.{IsProblemOf, IsCertificateOf, answer_of}
use Rattle.pesp_branching.specs.Turns.{IsOpenAnswer}
use Rattle.pesp_branching.proofs.Ends.{same_net, has_branches, fewer_than_room, not_open}
use Rattle.pesp_branching.specs.Lifted.{IsFrugal}
use Rattle.pesp_search.specs.declared.refusal.SolveRefusal.{SolveRefusal}
use Rattle.pesp_search.specs.declared.refusal.SolveRefusal.TheVariants.{Memory, TableTooLarge, PairsTooMany}
use Rattle.pesp_search.specs.Refusals.{MeetsLimit}
use Rattle.pesp_search.specs.Solving.{IsSolved, CostsNoMore, IsSearchRefusal}
use Rattle.pesp_search.specs.Singles.{IsAboveSingles}
use Rattle.pesp_search.specs.Rooting.{IsRootSupported, IsRootBound}
use Rattle.pesp_search.specs.Searching.{IsAsCheapAs, AreAllTurns, AreTurnsRefused}

-- ---- the bound

bounded_least : (low best : Option ℕ) (l : ℕ) (cost : Option ℕ) → answer_of low best ≡ Bounded l cost → low ≡ Some l
bounded_least None best l cost e = cc
bounded_least (Some a) None l cost e = cc
bounded_least (Some a) (Some c) l cost e = by_test (nat_le c a) e
  where
    by_test : (b : Bool) → (if b then Optimal c else Bounded a (Some c)) ≡ Bounded l cost → Some a ≡ Some l
    by_test true e = cc
    by_test false e = cc

-- an open answer has a bound
open_is : (answer : Answer) → IsOpenAnswer answer → (l : ℕ) × (cost : Option ℕ) × (answer ≡ Bounded l cost)
open_is (Optimal c) opens = absurd opens
open_is Infeasible opens = absurd opens
open_is (Bounded l cost) opens = (l, cost, refl)

pub is_solved : (instance : Pesp) (p : ProblemValue) (steps used : ℕ) (first now : State) (content : Content)
    → KeepsNetLimits p.network → IsProblemOf instance p → IsFrugal p.table → IsRootBound p first
    → AreAllTurns p steps first used now → IsCertificateOf p instance.events now content → IsValid None instance content
    → IsSolved instance steps used content
is_solved instance p steps used first now content limits of frugal bound turns c valid = record {
  valid = valid;
  few = turns.few;
  finished = λ opens. finish turns.finished opens;
  supported = λ opens.
      let says = open_is content.answer opens in
      let there : IsRootSupported (instance_net instance) p.table =
      subst (λ (n : Net). IsRootSupported n p.table) (same_net instance p of)
      (bound says.0 (reached says.0 says.1 says.2)).0 in
      subst (λ (table : List (List SignedRow)). IsRootSupported (instance_net instance) table) (sym c.cycles) there;
  least = λ l cost e.
      let there : IsAboveSingles (instance_net instance) p.table l =
      subst (λ (n : Net). IsAboveSingles n p.table l) (same_net instance p of) (bound l (reached l cost e)).1 in
      subst (λ (table : List (List SignedRow)). IsAboveSingles (instance_net instance) table l) (sym c.cycles) there;
  branches = has_branches instance p used now content of turns.worked c;
  frugal = subst IsFrugal (sym c.cycles) frugal;
  room = fewer_than_room instance p used now content of turns.worked c;
}
  where
    reached : (l : ℕ) (cost : Option ℕ) → content.answer ≡ Bounded l cost → IsAtMost (least p first) (Some l)
    reached l cost e = let here : least p now ≡ Some l =
        bounded_least (least p now) (best_cost p now) l cost (sym c.answer ∙ e) in
        subst (IsAtMost (least p first)) here turns.least

    finish : (used ≡ steps) ⊎ ((path : List (Cut × Side)) → IsOpen p now path → ⊥) → IsOpenAnswer content.answer → used ≡ steps
    finish (inl all) opens = all
    finish (inr closed) opens = absurd (not_open p used now instance.events content limits turns.worked closed c opens)

-- ---- the cost

-- an answer that isn't infeasible tells the best cost
told_cost : (low best : Option ℕ) (most : ℕ) → IsAtMost best (Some most) → (answer_of low best ≡ Infeasible → ⊥)
    → IsSomeAnd (cost_of (answer_of low best)) (λ c. c ≤ most)
told_cost None best most h not = absurd (not refl)
told_cost (Some l) None most h not = absurd h
told_cost (Some l) (Some c) most h not = by_test (nat_le c l)
  where
    by_test : (b : Bool) → IsSomeAnd (cost_of (if b then Optimal c else Bounded l (Some c))) (λ k. k ≤ most)
    by_test true = h
    by_test false = h

feasible : (instance : Pesp) (answer : Answer) (shown times : List ℕ) → IsTrueAnswer instance answer shown
    → IsTimetable instance times → answer ≡ Infeasible → ⊥
feasible instance answer shown times t is e = (subst (λ (a : Answer). IsTrueAnswer instance a shown) e t) times is

pub costs_no_more : (instance : Pesp) (p : ProblemValue) (times : List ℕ) (now : State) (content : Content)
    → KeepsLimits instance → IsProblemOf instance p → IsCertificateOf p instance.events now content
    → IsValid None instance content → IsAsCheapAs p times now → CostsNoMore instance times content
costs_no_more instance p times now content limits of c valid cheap is =
    let some = limits.some_period in
    let positive : 0 < instance.period = omega (arith, some) in
    let net = (net_timetables instance times positive (limits_in_order instance limits)).0 is in
    let there : IsNetTimetable (problem_net p) p.network.events times =
    subst (λ (n : Net). IsNetTimetable n p.network.events times) (sym (same_net instance p of))
    (subst (λ (k : ℕ). IsNetTimetable (instance_net instance) k times) (sym of.events) net) in
    let same : net_cost (problem_net p) times ≡ cost instance.period instance.rows times =
    ap (λ (n : Net). net_cost n times) (same_net instance p of) ∙ net_cost-is instance times in
    let most : IsAtMost (best_cost p now) (Some (cost instance.period instance.rows times)) =
    subst (λ (n : ℕ). IsAtMost (best_cost p now) (Some n)) same (cheap there) in
    let here = told_cost (least p now) (best_cost p now) (cost instance.period instance.rows times) most
    (λ e. feasible instance content.answer (shown_times content) times
    (valid_is_true None instance content positive valid) is (c.answer ∙ e)) in
    subst (λ (a : Answer). IsSomeAnd (cost_of a) (λ k. k ≤ cost instance.period instance.rows times)) (sym c.answer) here

-- ---- refusals

pub refused_for_rows : (instance : Pesp) (p : ProblemValue) (steps : ℕ) (r : SolveRefusal)
    → length p.table ≤ length instance.rows → AreTurnsRefused p steps r → IsSearchRefusal instance steps r
refused_for_rows instance p steps Memory few h = tt
refused_for_rows instance p steps TableTooLarge few h = absurd h
refused_for_rows instance p steps PairsTooMany few h = let many = h.many in
    let more = mul-le-mul_left (steps + 1) few in omega (arith, many, more)

one_more : (n : ℕ) → 1 ≤ n + 1
one_more n = omega arith

pub refused_at_once : (instance : Pesp) (steps : ℕ) (r : SolveRefusal) → IsSearchRefusal instance 0 r → IsSearchRefusal instance steps r
refused_at_once instance steps Memory h = tt
refused_at_once instance steps TableTooLarge h = h
refused_at_once instance steps PairsTooMany h = let more : 1 * length instance.rows
    ≤ (steps + 1) * length instance.rows = mul-le-mul_right (length instance.rows) (one_more steps) in
    omega (arith, h, more)

-- the limit that the turns on a problem of the instance met
pub meets_limit : (instance : Pesp) (p : ProblemValue) (steps : ℕ) (r : SolveRefusal) → IsProblemOf instance p
    → IsFrugal p.table → AreTurnsRefused p steps r → MeetsLimit instance steps r
meets_limit instance p steps Memory of frugal h = tt
meets_limit instance p steps TableTooLarge of frugal h = absurd h
meets_limit instance p steps PairsTooMany of frugal h = record { problem = p; of = of; frugal = frugal; fills = h }

-- and by more steps too
pub meets_at_once : (instance : Pesp) (steps : ℕ) (r : SolveRefusal) → MeetsLimit instance 0 r → MeetsLimit instance steps r
meets_at_once instance steps Memory h = tt
meets_at_once instance steps TableTooLarge h = h
meets_at_once instance steps PairsTooMany h =
    let p = h.problem in
    let fills = h.fills in
    let many = fills.many in
    let few = fills.few in
    let more : 1 * length p.table ≤ (steps + 1) * length p.table = mul-le-mul_right (length p.table) (one_more steps) in
    record {
      problem = p;
      of = h.of;
      frugal = h.frugal;
      fills = record {
        many = omega (arith, many, more);
        first = fills.first;
        worked = fills.worked;
        used = fills.used;
        few = omega (arith, few);
        last = fills.last;
        grows = fills.grows;
        full = fills.full;
      };
    }

-- what was told as a refusal is so
pub told_as : {A E : Type 0} (r : Result A E) (e : E) (P : E → Type 0) → IsErrAnd r (λ f. f ≡ e) → P e → IfErr r P
told_as (Ok a) e P is holds = tt
told_as (Err f) e P is holds = rw is holds
