-- How a search begins.
use Rattle.std.proofs.Common.{◌≡◌, ◌≤◌, List, length, refl, ap, arith, sym, ◌∙◌, subst}
use Rattle.std.specs.Prelude.{Result, Ok, Err, IfOk}
use Rattle.pesp_problem.specs.Timetables.{Pesp}
use Rattle.pesp_problem.specs.Limits.{KeepsLimits}
use Rattle.pesp_problem.specs.Forests.{AreFundamental}
use Rattle.pesp_problem.specs.declared.row.SignedRow.{SignedRow}
use Rattle.pesp_reduce.specs.Reductions.{ReducedValue}
use Rattle.pesp_network.specs.Networks.{arcs_of_network}
use Rattle.pesp_nodes.specs.Problems.{ProblemValue}
use Rattle.pesp_tree.specs.States.{BoardValue, opening}
use Rattle.pesp_tree.specs.Certificates.{IsProblemOf}
use Rattle.pesp_branching.specs.Lifted.{IsReduced, AreLifted, IsFrugal}
use Rattle.pesp_branching.proofs.Tables.{short_table, fewer_rows, count_arcs}
use Rattle.pesp_turns.specs.declared.search.Search.{Search}
use Rattle.pesp_turns.specs.Knowing.{IsKnown}
use Rattle.pesp_turns.specs.Settling.{IsSearched}
use Rattle.pesp_search.specs.Beginning.{IsNewBoard, IsBegun}

few_cycles : (r : ReducedValue) (walks table : List (List SignedRow)) → IsReduced r
    → AreFundamental (arcs_of_network r.network.rows) r.network.forest walks → AreLifted r walks table
    → length table ≤ length r.original.rows
few_cycles r walks table h f a =
    let short = short_table (arcs_of_network r.network.rows) r.network.forest walks f in
    let fewer = fewer_rows r h in
    let count = count_arcs r in
    let long = a.long in
    omega (arith, short, fewer, count, long)

pub few_there : {E : Type 0} (instance : Pesp) (r : ReducedValue) (walks : List (List SignedRow))
    (result : Result ProblemValue E) → r.original ≡ instance → IsReduced r
    → AreFundamental (arcs_of_network r.network.rows) r.network.forest walks
    → IfOk result (λ p. AreLifted r walks p.table) → IfOk result (λ p. length p.table ≤ length instance.rows)
few_there instance r walks (Ok p) e reduced fundamental lifted =
    subst (λ (i : Pesp). length p.table ≤ length i.rows) e (few_cycles r walks p.table reduced fundamental lifted)
few_there instance r walks (Err x) e reduced fundamental lifted = tt

pub searched_there : {E : Type 0} (instance : Pesp) (r : ReducedValue) (walks : List (List SignedRow))
    (result : Result ProblemValue E) → KeepsLimits instance → r.original ≡ instance → IsReduced r
    → AreFundamental (arcs_of_network r.network.rows) r.network.forest walks → IfOk result (IsProblemOf instance)
    → IfOk result (λ p. AreLifted r walks p.table) → IfOk result (λ p. IsSearched p r)
searched_there instance r walks (Ok p) limits e reduced fundamental of lifted = record {
  of = subst (λ (i : Pesp). IsProblemOf i p) (sym e) of;
  reduced = reduced;
  limits = subst KeepsLimits (sym e) limits;
  walks = walks;
  fundamental = fundamental;
  lifted = lifted;
}
searched_there instance r walks (Err x) limits e reduced fundamental of lifted = tt

pub new_board : (instance : Pesp) (r : ReducedValue) (p : ProblemValue) (board : BoardValue)
    → board ≡ record { problem = p; state = opening } → IsProblemOf instance p → IsSearched p r → IsFrugal p.table
    → length p.table ≤ length instance.rows → IsNewBoard instance r board
new_board instance r p board e of searched frugal few =
    let there : IsNewBoard instance r (record { problem = p; state = opening }) =
    record { opening = refl; of = of; searched = searched; frugal = frugal; few = few } in
    subst (IsNewBoard instance r) (sym e) there

pub begun_is : (instance : Pesp) (r : ReducedValue) (q : ProblemValue) (search : Search) → q ≡ search.board.problem
    → r.original ≡ instance → IsNewBoard instance r search.board → search.known.reduced ≡ r
    → IsKnown q search.known → IsBegun instance search
begun_is instance r q search e original board same known = record {
  original = ap (λ (x : ReducedValue). x.original) same ∙ original;
  board = subst (λ (x : ReducedValue). IsNewBoard instance x search.board) (sym same) board;
  known = subst (λ (p : ProblemValue). IsKnown p search.known) e known;
}
