use Rattle.std.proofs.Common.{vec_len, ◌≡◌, ◌++◌, ◌∷◌, [], arith, ap, ◌∙◌, sym, true, List}
use Rattle.pesp_problem.specs.declared.row.SignedRow.{SignedRow}
use Rattle.pesp_network.specs.Networks.{arcs_of_network}
use Rattle.pesp_network.specs.Growing.{at}
use Rattle.pesp_network.proofs.Places.{tail_at, head_at, named}
use Rattle.pesp_network.proofs.Climbing.{ends_of, one_tree}
use Rattle.pesp_network.proofs.Paths.{walk_is}
use Rattle.pesp_network.proofs.walks.walk_back.Goals as goal

pub go_on-requires-clause-from : goal.go_on-requires-clause-from
go_on-requires-clause-from c =
    let rows = c.args.rows.now in let k = c.args.k in let f = c.requires.forest in
    let e = ends_of (vec_len c.args.forest.now.up) (arcs_of_network rows) k f.ends (named rows k c.requires.row) in let e1 = e.1 in
    let q = head_at rows k c.requires.row in omega arith

pub go_on-requires-clause-to : goal.go_on-requires-clause-to
go_on-requires-clause-to c =
    let rows = c.args.rows.now in let k = c.args.k in let f = c.requires.forest in
    let e = ends_of (vec_len c.args.forest.now.up) (arcs_of_network rows) k f.ends (named rows k c.requires.row) in let e0 = e.0 in
    let q = tail_at rows k c.requires.row in omega arith

pub go_on-requires-clause-one_tree : goal.go_on-requires-clause-one_tree
go_on-requires-clause-one_tree c =
    let rows = c.args.rows.now in let k = c.args.k in let f = c.requires.forest in let root = c.args.forest.now.root.items in
    ap (at root) (head_at rows k c.requires.row)
    ∙ one_tree (vec_len c.args.forest.now.up) (arcs_of_network rows) c.args.forest.now k f (named rows k c.requires.row)
    ∙ ap (at root) (sym (tail_at rows k c.requires.row))

pub returns : goal.returns
returns c =
    let rows = c.args.rows.now in let k = c.args.k in
    let s : SignedRow = record { row = k; plus = true } in
    let first : c.push.new.self.items ≡ s ∷ [] = c.in_ok-push.ensures.items
    ∙ ap (λ (w : List SignedRow). w ++ s ∷ []) c.new-walk.ensures.items in
    walk_is (arcs_of_network rows) c.args.forest.now k _ _ c.push.new.self.items _ (head_at rows k c.requires.row)
    (tail_at rows k c.requires.row) first c.in_ok-go_on.ensures
