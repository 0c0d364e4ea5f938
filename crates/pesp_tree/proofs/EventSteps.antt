-- Each event keeps the board's tree sound, and lets its least value not fall and its best cost not rise.
use Rattle.std.proofs.Common.{ℕ, ◌<◌, ◌≤◌, List, sym, arith, subst, zero-le}
use Rattle.std.specs.Prelude.{ℤ, pos, negsuc, ◌≤ℤ◌, Option, Some, None, option_map}
use Rattle.std.proofs.lemmas.Int.{ints}
use Rattle.pesp_problem.specs.NetTimetables.{net_cost}
use Rattle.pesp_truth.specs.Trees.{Bound}
use Rattle.pesp_truth.proofs.Opening.{no_pairs}
use Rattle.pesp_nodes.specs.Problems.{ProblemValue, problem_net}
use Rattle.pesp_tree.specs.declared.work.Work.{Work}
use Rattle.pesp_tree.specs.BoardLeaves.{told}
use Rattle.pesp_tree.specs.States.{State, Ticket, opening, root_of, node_at, least, best_cost, IsAtMost}
use Rattle.pesp_tree.specs.Reached.{IsKept}
use Rattle.pesp_tree.specs.Events.{Event, Run, Takes, IsCheaper, Improves}
use Rattle.pesp_tree.proofs.EventChanges.{Change, Lends_leaf, Takes_work, Recalls_number, Keeps_times, Same, run_keeps}
use Rattle.pesp_tree.proofs.Trees.{sound_leaf, put_sound, put_least, IsUnder}
use Rattle.pesp_tree.proofs.Works.{makes_follows}

pub opening_is_kept : (p : ProblemValue) → IsKept p opening
opening_is_kept p = record { tree = no_pairs (problem_net p) p.table (root_of p); best = tt }

-- what an event can't take back
pub record Tightens (p : ProblemValue) (old new : State) : Type 0 where
  pub least : IsAtMost (least p old) (least p new)
  pub best : IsAtMost (best_cost p new) (best_cost p old)

at_most_same : (a : Option ℕ) → IsAtMost a a
at_most_same None = tt
at_most_same (Some a) = omega arith

at_most_trans : (a b c : Option ℕ) → IsAtMost a b → IsAtMost b c → IsAtMost a c
at_most_trans a b None h k = tt
at_most_trans a None (Some c) h k = absurd k
at_most_trans None (Some b) (Some c) h k = absurd h
at_most_trans (Some a) (Some b) (Some c) h k = omega (arith, h, k)

told_rises : (a b : ℤ) → a ≤ℤ b → told a ≤ told b
told_rises (pos a) (pos b) h = omega (arith, ints)
told_rises (pos a) (negsuc b) h = absurd (omega (arith, ints))
told_rises (negsuc a) b h = zero-le

told_under : (a b : Option ℤ) → IsUnder a b → IsAtMost (option_map told a) (option_map told b)
told_under a None h = tt
told_under None (Some b) h = absurd h
told_under (Some a) (Some b) h = told_rises a b h

-- a state that is kept, and that takes nothing back since another
pub record GoesOn (p : ProblemValue) (first new : State) : Type 0 where
  pub kept : IsKept p new
  pub tightens : Tightens p first new

-- from a state on, where tree and best times are kept and tighten
goes_on : (p : ProblemValue) (first old new : State) → GoesOn p first old → GoesOn p old new → GoesOn p first new
goes_on p first old new g h = record {
  kept = h.kept;
  tightens = record {
    least = at_most_trans _ _ _ g.tightens.least h.tightens.least;
    best = at_most_trans _ _ _ h.tightens.best g.tightens.best;
  };
}

from_here : (p : ProblemValue) (state : State) → IsKept p state → GoesOn p state state
from_here p state k = record {
  kept = k;
  tightens =
      record { least = at_most_same (least p state); best = at_most_same (best_cost p state) };
}

-- other numbers change neither
other_numbers : (p : ProblemValue) (old : State) (numbers : List Ticket) → IsKept p old → GoesOn p old (record old { numbers = numbers })
other_numbers p old numbers k = record {
  kept = record { tree = k.tree; best = k.best };
  tightens = record { least = at_most_same (least p old); best = at_most_same (best_cost p old) };
}

takes_goes_on : (p : ProblemValue) (old : State) (number : ℕ) (work : Work) (new : State) → 0 < (problem_net p).period
    → IsKept p old → Takes p old number work new → GoesOn p old new
takes_goes_on p old number work new h k s =
    let leaf = sound_leaf (problem_net p) p.table (Some 0) old.tree s.path (Bound s.pairs) (root_of p) s.leaf.1 k.tree in
    let made = makes_follows p (node_at p s.path) s.pairs work s.part h s.makes leaf in
    subst (λ state. GoesOn p old state) (sym s.state) (record {
      kept = record {
        tree = put_sound (problem_net p) p.table (Some 0) old.tree s.path (Bound s.pairs) s.part
            (root_of p) s.leaf.1 k.tree made.sound;
        best = k.best;
      };
      tightens = record {
        least = told_under _ _
            (put_least (problem_net p) p.table old.tree s.path (Bound s.pairs) s.part (root_of p) s.leaf.1 made.under);
        best = at_most_same (best_cost p old);
      };
    })

cheaper_at_most : (c : ℕ) (best : Option ℕ) → IsCheaper c best → IsAtMost (Some c) best
cheaper_at_most c None h = tt
cheaper_at_most c (Some best) h = omega (arith, h)

improves_goes_on : (p : ProblemValue) (old : State) (times : List ℕ) → IsKept p old → Improves p old times
    → GoesOn p old (record old { best = Some times })
improves_goes_on p old times k better = record {
  kept = record { tree = k.tree; best = better.0 };
  tightens = record { least = at_most_same (least p old); best = cheaper_at_most (net_cost (problem_net p) times) (best_cost p old) better.1 };
}

pub change_goes_on : (p : ProblemValue) (old new : State) → 0 < (problem_net p).period → IsKept p old → Change p old new → GoesOn p old new
change_goes_on p old new h k (Lends_leaf job s) = subst (λ state. GoesOn p old state) (sym s.state) (other_numbers p old _ k)
change_goes_on p old new h k (Takes_work number work s) = takes_goes_on p old number work new h k s
change_goes_on p old new h k (Recalls_number number lent e) = subst (λ state. GoesOn p old state) (sym e) (other_numbers p old _ k)
change_goes_on p old new h k (Keeps_times times better e) =
    subst (λ state. GoesOn p old state) (sym e) (improves_goes_on p old times k better)
change_goes_on p old new h k (Same e) = subst (λ state. GoesOn p old state) (sym e) (from_here p old k)

pub run_goes_on : (p : ProblemValue) (events : List Event) (old new : State) → 0 < (problem_net p).period → IsKept p old
    → Run p old events new → GoesOn p old new
run_goes_on p events old new h k r = run_keeps p (λ state. GoesOn p old state)
    (λ a b g c. goes_on p old a b g (change_goes_on p a b h g.kept c)) events old new (from_here p old k) r
