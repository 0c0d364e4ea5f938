-- To be sound without a least sum is to be sound for any least sum and to have no bound leaf.
use Rattle.std.proofs.Common.{ℕ, List}
use Rattle.std.specs.Prelude.{Some, None, ◌↔◌}
use Rattle.pesp_problem.specs.declared.row.SignedRow.{SignedRow}
use Rattle.pesp_problem.specs.declared.pair.Pair.{Pair}
use Rattle.pesp_problem.specs.Arcs.{Net}
use Rattle.pesp_problem.specs.Nodes.{Node, low_part, high_part}
use Rattle.pesp_truth.specs.Trees.{Tree, Reason, ByPairs, ByGap, ByPropagation, Claim, Plain, Behind, with_least, Ends, Branch, Bound, Shut, IsShut, IsSound, HasNoBound}

no_bound : (claim : Claim) (n : Net) (table : List (List SignedRow)) (pairs : List Pair) (node : Node)
    → IsSound (with_least claim None) n table (Ends (Bound pairs)) node → ⊥
no_bound (Plain other) n table pairs node s = absurd s.1
no_bound (Behind marks facts goal) n table pairs node s = absurd s.1

same_shut : (claim : Claim) (n : Net) (table : List (List SignedRow)) (least : ℕ) (reason : Reason) (node : Node)
    → IsShut (with_least claim None) n table reason node ↔ IsShut (with_least claim (Some least)) n table reason node
same_shut (Plain other) n table least (ByPairs pairs) node = (λ s. s, λ s. s)
same_shut (Behind marks facts goal) n table least (ByPairs pairs) node = (λ s. s, λ s. s)
same_shut claim n table least (ByGap cycle) node = (λ s. s, λ s. s)
same_shut claim n table least ByPropagation node = (λ s. s, λ s. s)

with_some : (claim : Claim) (n : Net) (table : List (List SignedRow)) (least : ℕ) (tree : Tree) (node : Node)
    → IsSound (with_least claim None) n table tree node
    → IsSound (with_least claim (Some least)) n table tree node × HasNoBound tree
with_some claim n table least (Ends (Bound pairs)) node s = absurd (no_bound claim n table pairs node s)
with_some claim n table least (Ends (Shut reason)) node s = ((same_shut claim n table least reason node).0 s, tt)
with_some claim n table least (Branch cut low high) node s =
    let first = with_some claim n table least low (low_part node cut) s.1 in
    let second = with_some claim n table least high (high_part node cut) s.2 in
    ((s.0, first.0, second.0), (first.1, second.1))

with_none : (claim : Claim) (n : Net) (table : List (List SignedRow)) (least : ℕ) (tree : Tree) (node : Node)
    → IsSound (with_least claim (Some least)) n table tree node → HasNoBound tree
    → IsSound (with_least claim None) n table tree node
with_none claim n table least (Ends (Bound pairs)) node s b = absurd b
with_none claim n table least (Ends (Shut reason)) node s b = (same_shut claim n table least reason node).1 s
with_none claim n table least (Branch cut low high) node s b = (
  s.0,
  with_none claim n table least low (low_part node cut) s.1 b.0,
  with_none claim n table least high (high_part node cut) s.2 b.1,
)

pub no_least_is_no_bound : (claim : Claim) (n : Net) (table : List (List SignedRow)) (least : ℕ) (tree : Tree) (node : Node)
    → IsSound (with_least claim None) n table tree node
    ↔ IsSound (with_least claim (Some least)) n table tree node × HasNoBound tree
no_least_is_no_bound claim n table least tree node =
    (with_some claim n table least tree node, λ s. with_none claim n table least tree node s.0 s.1)
