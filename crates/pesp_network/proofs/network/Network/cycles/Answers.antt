use Rattle.std.proofs.Common.{sym, subst, List, All, IfOk}
use Rattle.std.specs.Prelude.{IfErr}
use Rattle.std.proofs.lemmas.Result.{IfOk-weaker, MatchResult-weaker}
use Rattle.pesp_problem.specs.declared.row.SignedRow.{SignedRow}
use Rattle.pesp_problem.specs.Forests.{AreFundamental, IsSimple}
use Rattle.pesp_network.specs.Networks.{NetworkValue, arcs_of_network, IsTableRefusal}
use Rattle.pesp_network.proofs.Tables.{table_fundamental, table_simple}
use Rattle.pesp_network.proofs.Holding.{table_is, refusal_is, own_forest}
use Rattle.pesp_network.proofs.network.Network.cycles.Goals as goal

pub returns-clause-fundamental : goal.returns-clause-fundamental
returns-clause-fundamental c =
    let n = c.self.inside in let v = c.self.invariant in let arcs = arcs_of_network n.rows.items in
    let P : NetworkValue → Type 0 = λ x. IfOk c.walks.result (λ table. AreFundamental (arcs_of_network x.rows) x.forest table.items) in
    let Q : List (List SignedRow) → Type 0 = λ t. AreFundamental arcs n.kept.items t in
    subst P c.self.view_is (IfOk-weaker c.walks.result _ _
    (λ table e. subst Q (sym (table_is n.rows.items c.as_slice.result.now n.forest table.items
    c.as_slice.ensures.value e)) (table_fundamental n.events arcs n.forest n.kept.items v.forest v.kept))
    c.walks.ensures.table)

pub returns-clause-simple : goal.returns-clause-simple
returns-clause-simple c =
    let n = c.self.inside in let v = c.self.invariant in let arcs = arcs_of_network n.rows.items in
    let P : NetworkValue → Type 0 = λ x. IfOk c.walks.result (λ table. All (IsSimple (arcs_of_network x.rows)) table.items) in
    let Q : List (List SignedRow) → Type 0 = λ t. All (IsSimple arcs) t in
    subst P c.self.view_is (IfOk-weaker c.walks.result _ _
    (λ table e. subst Q (sym (table_is n.rows.items c.as_slice.result.now n.forest table.items
    c.as_slice.ensures.value e)) (table_simple n.events arcs n.forest v.forest)) c.walks.ensures.table)

pub returns-clause-refused : goal.returns-clause-refused
returns-clause-refused c =
    let n = c.self.inside in let v = c.self.invariant in
    let P : NetworkValue → Type 0 = λ x. IfErr c.walks.result (IsTableRefusal (arcs_of_network x.rows) x.forest) in
    subst P c.self.view_is (MatchResult-weaker c.walks.result c.walks.ensures.refused (λ x h. h)
    (λ e h. refusal_is n.events n.rows.items c.as_slice.result.now n.forest n.kept.items v.forest v.kept
    c.as_slice.ensures.value e h))

pub walks-requires : goal.walks-requires
walks-requires c =
    let n = c.self.inside in
    rw c.as_slice.ensures.value
    (own_forest n.events (arcs_of_network n.rows.items) n.forest c.self.invariant.forest)
