use Rattle.std.proofs.Common.{◌≡◌, ℕ, List, length, sym, ◌∙◌, subst}
use Rattle.pesp_problem.specs.Timetables.{Pesp}
use Rattle.pesp_problem.specs.Walks.{Names}
use Rattle.pesp_problem.specs.Forests.{IsBridge}
use Rattle.pesp_network.specs.declared.row.NetRow.{NetRow}
use Rattle.pesp_network.specs.Networks.{NetworkValue, arcs_of_network}
use Rattle.pesp_reduce.specs.declared.fate.Fate.{Fate}
use Rattle.pesp_reduce.specs.declared.contraction.Contraction.{Contraction}
use Rattle.pesp_reduce.specs.Reductions.{IsReduction}
use Rattle.pesp_reduce.proofs.reduction.Reduced.with_forest.Goals as goal

-- a network that differs in its forest alone
same_rows : (p : Pesp) (fates : List Fate) (whole n m : NetworkValue) (k : Contraction)
    → IsReduction p fates whole k n → m.period ≡ n.period → m.events ≡ n.events → m.rows ≡ n.rows
    → IsReduction p fates whole k m
same_rows p fates whole n m k r period events rows =
    let P : List NetRow → Type 0 = λ xs. (row : ℕ) → Names (length xs) row → IsBridge (arcs_of_network xs) row → ⊥ in
    record {
      whole_period = r.whole_period;
      whole_events = r.whole_events;
      whole_count = r.whole_count;
      fates_count = r.fates_count;
      contraction = r.contraction;
      free = r.free;
      others = r.others;
      contracted = r.contracted;
      flagged = r.flagged;
      bridges = r.bridges;
      loose = r.loose;
      kept = r.kept;
      origins = r.origins;
      period = period ∙ r.period;
      events = events ∙ r.events;
      rows = rows ∙ r.rows;
      no_bridge = subst P (sym rows) r.no_bridge;
    }

pub invariant_of-result : goal.invariant_of-result
invariant_of-result c =
    let s = c.self.inside in let e = c.in_ok-network.ensures in
    same_rows s.original s.fates.items s.whole s.network c.in_ok-network.network s.contraction c.self.invariant e.period e.events e.rows
