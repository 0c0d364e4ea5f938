-- The root of a tree is the first event of its component.
use Rattle.std.proofs.Common.{ℕ, ◌+◌, ◌<◌, arith, List}
use Rattle.std.proofs.lemmas.List.Elements.{All-weaker}
use Rattle.pesp_problem.specs.declared.row.SignedRow.{SignedRow}
use Rattle.pesp_problem.specs.declared.arc.Arc.{Arc}
use Rattle.pesp_problem.specs.Walks.{RowExists}
use Rattle.pesp_problem.specs.Forests.{IsFirstOf}
use Rattle.pesp_problem.specs.Roots.{IsTreeRow}
use Rattle.pesp_network.specs.declared.parts.Forest.{Forest}
use Rattle.pesp_network.specs.Growing.{at}
use Rattle.pesp_network.specs.Rooted.{IsForest}
use Rattle.pesp_problem.proofs.Spanning.{tree_row_exists, to_root, along}
use Rattle.pesp_network.proofs.Spanning.{as_roots, are_roots}

pub first_event : (n : ℕ) (arcs : List Arc) (g : Forest) (x : ℕ) → IsForest n arcs g → x < n → IsFirstOf arcs x (at g.root.items x)
first_event n arcs g x f b =
    let r = as_roots g in let a = are_roots n arcs g f in
    let w = to_root n arcs r a (at g.place.items x + 1) x (omega arith) b in
    record {
      joined = (
        w.way,
        All-weaker (λ (s : SignedRow). IsTreeRow n r s.row) (RowExists arcs)
            (λ s. tree_row_exists n arcs r s.row a) w.way w.over,
        w.leads,
      );
      least = λ other h. let j = along n arcs r x other h.0 a b h.1 h.2 in
          let first = f.grown.root_first other (f.all_seen other j.0) in let e = j.1 in omega arith;
    }
