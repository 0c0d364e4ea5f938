-- What a board certifies is valid.
use Rattle.std.proofs.Common.{◌≡◌, ℕ, ◌<◌, ◌≤◌, List, length, refl, sym, ap, ◌∙◌, arith, subst, Bool, true, false}
use Rattle.std.specs.Prelude.{ℤ, pos, ◌≤ℤ◌, All, Option, Some, None, IfSome, option_map, nat_le, if◌then◌else◌}
use Rattle.std.proofs.lemmas.Int.{ints}
use Rattle.std.proofs.lemmas.Bool.Decides.{nat_tests}
use Rattle.pesp_problem.specs.declared.row.SignedRow.{SignedRow}
use Rattle.pesp_problem.specs.declared.arc.Arc.{Arc}
use Rattle.pesp_problem.specs.Limits.{KeepsLimits}
use Rattle.pesp_problem.specs.Timetables.{Pesp, IsTimetable, cost}
use Rattle.pesp_problem.specs.Arcs.{Net, arcs_of}
use Rattle.pesp_problem.specs.Arcs as instances
use Rattle.pesp_problem.specs.NetTimetables.{IsNetTimetable, net_cost}
use Rattle.pesp_problem.specs.Walks.{IsWalk}
use Rattle.pesp_problem.specs.Nodes.{root}
use Rattle.pesp_problem.proofs.NetTimetables.{net_timetables, net_cost-is, limits_in_order}
use Rattle.pesp_truth.specs.declared.answer.Answer.{Answer}
use Rattle.pesp_truth.specs.declared.answer.Answer.TheVariants.{Optimal, Bounded}
use Rattle.pesp_truth.specs.Trees.{Plain, Tree, IsSound}
use Rattle.pesp_truth.specs.Certificates.{Content, IsValid, ShowsAnswer, least_of, shown_labels, shown_times}
use Rattle.pesp_truth.proofs.Trees.{root_is_right}
use Rattle.pesp_nodes.specs.Problems.{ProblemValue, problem_net}
use Rattle.pesp_tree.specs.BoardLeaves.{least_value, told}
use Rattle.pesp_tree.specs.States.{State}
use Rattle.pesp_tree.specs.Reached.{IsKept}
use Rattle.pesp_tree.specs.Certificates.{IsProblemOf, answer_of, ShowsBest, IsCertificateOf}
use Rattle.pesp_tree.proofs.Costs.{told-le}
use Rattle.pesp_tree.proofs.Trees.{sound_for, sound_without, not_negative}

-- ---- sound for what is told

-- sound for every cost that the told value reaches
sound_to : (n : Net) (table : List (List SignedRow)) (tree : Tree) (v : ℤ) (c : ℕ)
    → IsSound (Plain (Some 0)) n table tree (root n table) → least_value n table tree (root n table) ≡ Some v → c ≤ told v
    → IsSound (Plain (Some c)) n table tree (root n table)
sound_to n table tree v c s is h =
    let zero_under : pos 0 ≤ℤ v = (let under = not_negative n table tree (root n table) s in rw is at under) in
    let under : pos c ≤ℤ v = omega (arith, ints, told-le v zero_under, h) in
    sound_for n table c tree (root n table) s (rw is under)

-- what an answer with these times shows, and the tree for it
record Shows (i : Pesp) (table : List (List SignedRow)) (tree : Tree) (labels : List ℤ) (times : List ℕ) (answer : Answer) : Type 0 where
  shows : ShowsAnswer i answer labels times
  sound : IsSound (Plain (least_of answer)) (instances.net_of i) table tree (root (instances.net_of i) table)

-- a board of an instance, whose tree is sound for 0, whose least value is this one, and which shows these times
record IsBoardOf (i : Pesp) (table : List (List SignedRow)) (tree : Tree) (best : Option (List ℕ))
    (value : Option ℤ) (labels : List ℤ) (times : List ℕ) : Type 0 where
  some_period : 0 < i.period
  walks : All (IsWalk (arcs_of i)) table
  sound : IsSound (Plain (Some 0)) (instances.net_of i) table tree (root (instances.net_of i) table)
  least : least_value (instances.net_of i) table tree (root (instances.net_of i) table) ≡ value
  timetable : IfSome best (IsTimetable i)
  shows : ShowsBest i.events best labels times

-- with both a least value and a best cost
with_best : (i : Pesp) (table : List (List SignedRow)) (tree : Tree) (best : List ℕ) (v : ℤ) (labels : List ℤ)
    (times : List ℕ) → IsBoardOf i table tree (Some best) (Some v) labels times → (b : Bool)
    → nat_le (cost i.period i.rows best) (told v) ≡ b
    → Shows i table tree labels times (if b then Optimal (cost i.period i.rows best) else Bounded (told v)
    (Some (cost i.period i.rows best)))
with_best i table tree best v labels times k true h = record {
  shows = (k.shows.0, (rw (k.shows.1) k.timetable, rw (k.shows.1) refl));
  sound = sound_to (instances.net_of i) table tree v (cost i.period i.rows best) k.sound k.least (grind (arith, nat_tests));
}
with_best i table tree best v labels times k false h = record {
  shows = (grind (arith, nat_tests), (k.shows.0, (rw (k.shows.1) k.timetable, rw (k.shows.1) refl)));
  sound = sound_to (instances.net_of i) table tree v (told v) k.sound k.least (omega arith);
}

shows_answer : (i : Pesp) (table : List (List SignedRow)) (tree : Tree) (best : Option (List ℕ)) (value : Option ℤ)
    (labels : List ℤ) (times : List ℕ) → IsBoardOf i table tree best value labels times
    → Shows i table tree labels times (answer_of (option_map told value) (option_map (cost i.period i.rows) best))
shows_answer i table tree None None labels times k =
    record { shows = k.shows; sound = sound_without (instances.net_of i) table tree _ k.sound k.least }
shows_answer i table tree (Some best) None labels times k =
    absurd (root_is_right (Plain None) i table best tree k.some_period k.walks tt
    (sound_without (instances.net_of i) table tree _ k.sound k.least) k.timetable)
shows_answer i table tree None (Some v) labels times k =
    record {
      shows = k.shows;
      sound = sound_to (instances.net_of i) table tree v (told v) k.sound k.least
          (omega arith);
    }
shows_answer i table tree (Some best) (Some v) labels times k =
    with_best i table tree best v labels times k (nat_le (cost i.period i.rows best) (told v)) refl

-- ---- the problem's net is the instance's

pub same_net : (i : Pesp) (p : ProblemValue) → IsProblemOf i p → problem_net p ≡ instances.net_of i
same_net i p o =
    let net : ℕ → List Arc → Net = λ period arcs. record { period = period; arcs = arcs } in
    ap (λ (period : ℕ). net period (problem_net p).arcs) o.period ∙ ap (net i.period) o.rows

is_timetable : (i : Pesp) (events : ℕ) (best : Option (List ℕ)) → KeepsLimits i → events ≡ length i.events
    → IfSome best (IsNetTimetable (instances.net_of i) events) → IfSome best (IsTimetable i)
is_timetable i events None k e t = tt
is_timetable i events (Some best) k e t = (net_timetables i best (let some = k.some_period in omega arith)
    (limits_in_order i k)).1 (subst (λ count. IsNetTimetable (instances.net_of i) count best) e t)

same_costs : (i : Pesp) (best : Option (List ℕ)) → option_map (net_cost (instances.net_of i)) best ≡ option_map (cost i.period i.rows) best
same_costs i None = refl
same_costs i (Some best) = ap Some (net_cost-is i best)

-- the answer of a net's least value and best cost
abbrev answer_over : Net → List (List SignedRow) → Tree → Option (List ℕ) → Answer
answer_over n table tree best = answer_of (option_map told (least_value n table tree (root n table))) (option_map (net_cost n) best)

pub kept_is_valid : (i : Pesp) (p : ProblemValue) (state : State) (content : Content) → KeepsLimits i
    → IsProblemOf i p → All (IsWalk (problem_net p).arcs) p.table → IsKept p state
    → IsCertificateOf p i.events state content → IsValid None i content
kept_is_valid i p state content l o w k c =
    let n = instances.net_of i in
    let tree = state.tree in
    let e : problem_net p ≡ n = same_net i p o in
    let walks : All (IsWalk (arcs_of i)) p.table = subst (λ (m : Net). All (IsWalk m.arcs) p.table) e w in
    let board : IsBoardOf i p.table tree state.best (least_value n p.table tree (root n p.table))
    (shown_labels content) (shown_times content) = record {
      some_period = (let some = l.some_period in omega arith);
      walks = walks;
      sound = subst (λ (m : Net). IsSound (Plain (Some 0)) m p.table tree (root m p.table)) e k.tree;
      least = refl;
      timetable = is_timetable i p.network.events state.best l o.events
          (subst (λ (m : Net). IfSome state.best (IsNetTimetable m p.network.events)) e k.best);
      shows = c.times;
    } in
    let shown = shows_answer i p.table tree state.best _ (shown_labels content) (shown_times content) board in
    let answered : answer_of (option_map told (least_value n p.table tree (root n p.table)))
    (option_map (cost i.period i.rows) state.best) ≡ content.answer =
    ap (answer_of (option_map told (least_value n p.table tree (root n p.table)))) (sym (same_costs i state.best))
    ∙ ap (λ (m : Net). answer_over m p.table tree state.best) (sym e) ∙ sym c.answer in
    let told_so = subst (λ answer. Shows i p.table tree (shown_labels content) (shown_times content) answer) answered shown in
    record {
      shown = tt;
      period = c.period ∙ o.period;
      answer = told_so.shows;
      cycles = subst (λ cycles. All (IsWalk (arcs_of i)) cycles) (sym c.cycles) walks;
      tree = (
        tree,
        sym c.tree,
        subst (λ cycles. IsSound (Plain (least_of content.answer)) n cycles tree (root n cycles))
            (sym c.cycles) told_so.sound,
      );
    }
