use Rattle.std.proofs.Common.{◌<◌, arith, ap, subst}
use Rattle.std.proofs.lemmas.List.{get_or_read}
use Rattle.pesp_problem.specs.Forests.{IsFirstOf}
use Rattle.pesp_network.specs.Networks.{NetworkValue, arcs_of_network}
use Rattle.pesp_network.proofs.Holding.{first_held}
use Rattle.pesp_network.proofs.network.Network.first_of.Goals as goal

pub returns : goal.returns
returns c =
    let n = c.self.inside in let v = c.self.invariant in let g = n.forest in
    let e = c.self.view_is in
    let P : NetworkValue → Type 0 = λ x. IsFirstOf (arcs_of_network x.rows) c.args.event c.index.result.now in
    let q = ap (λ (x : NetworkValue). x.events) e in let r = c.requires in let s = g.sized in
    let l = g.root.ok.0 in let m = v.forest.events in
    subst P e (first_held n.events c.args.event c.index.result.now (arcs_of_network n.rows.items) g v.forest
    (omega arith) (get_or_read g.root.items c.args.event _ (omega arith) c.index.ensures 0))

pub overflow_cast-result : goal.overflow_cast-result
overflow_cast-result c =
    let n = c.self.inside in let v = c.self.invariant in let g = n.forest in
    let q = ap (λ (x : NetworkValue). x.events) c.self.view_is in let r = c.requires in let s = g.sized in
    let l = g.root.ok.0 in let m = v.forest.events in
    let below : c.args.event < n.events = omega arith in
    let e = get_or_read g.root.items c.args.event _ (omega arith) c.index.ensures 0 in
    let first = v.forest.grown.root_first c.args.event (v.forest.all_seen c.args.event below) in
    let few = v.limits.events_most in
    omega (arith, e, first, few, below)
