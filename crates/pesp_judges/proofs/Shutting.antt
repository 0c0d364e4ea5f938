-- Leaves that propagation closes.
use Rattle.std.proofs.Common.{◌≡◌, ◌≢◌, ℕ, ◌<◌, Bool, true, false, List, [], ◌∷◌, length, drop, refl, sym, subst, arith}
use Rattle.std.specs.Prelude.{All, IsTrue, ◌↔◌, reverse}
use Rattle.pesp_problem.specs.declared.row.SignedRow.{SignedRow}
use Rattle.pesp_problem.specs.declared.arc.Arc.{Arc}
use Rattle.pesp_problem.specs.Timetables.{Pesp}
use Rattle.pesp_problem.specs.Limits.{KeepsLimits}
use Rattle.pesp_problem.specs.Arcs.{Net, arc_of, arcs_of, net_of}
use Rattle.pesp_problem.specs.Families.{NoFamilyIsSupported}
use Rattle.pesp_problem.specs.Nodes.{Node}
use Rattle.std.proofs.lemmas.List.Elements.{All-map}
use Rattle.pesp_truth.specs.Trees.{Claim, EndLine, Shut, ByPropagation, IsShut}
use Rattle.pesp_judges.specs.declared.refusal.Refusal.TheVariants.{NotPropagated}
use Rattle.pesp_truth.proofs.Events.{any_count}
use Rattle.pesp_truth.specs.Supports.{Rows}
use Rattle.pesp_problem.specs.declared.path.Branch.{Branch}
use Rattle.pesp_problem.specs.Pending.{pending, waiting}
use Rattle.pesp_judges.specs.Propagations.{net_rows}
use Rattle.pesp_judges.specs.Lines.{after, IsSoundLine, IsLineFault}

-- both ends of each row are events
pub all_ends : (p : Pesp) → KeepsLimits p → All (λ (arc : Arc). (arc.tail < length p.events) × (arc.head < length p.events)) (arcs_of p)
all_ends p k = All-map (λ (arc : Arc). (arc.tail < length p.events) × (arc.head < length p.events))
    (arc_of p.period) p.rows (λ i d l. (let r = k.each i d l in (r.tail, r.head)))

-- an exact answer for the rows of an instance is one for a node with these slack ranges
pub shut_is : (claim : Claim) (p : Pesp) (walks : List (List SignedRow)) (node : Node) (rows : Rows) (ranges : List (ℕ × ℕ))
    (answer : Bool) → KeepsLimits p → rows ≡ net_rows p → ranges ≡ node.slacks
    → IsTrue answer ↔ NoFamilyIsSupported rows.net ranges rows.events
    → IsTrue answer ↔ IsShut claim (net_of p) walks ByPropagation node
shut_is claim p walks node rows ranges answer k is same h =
    let P : Rows → Type 0 = λ r. IsTrue answer ↔ NoFamilyIsSupported r.net ranges r.events in
    let Q : List (ℕ × ℕ) → Type 0 = λ rs. IsTrue answer ↔ NoFamilyIsSupported (net_of p) rs (length p.events) in
    let exact = subst Q same (subst P is h) in
    let law = any_count claim (net_of p) walks node (length p.events) (omega (arith, k.some_period)) (all_ends p k) in
    (λ t. law.1 (exact.0 t), λ s. exact.1 (law.0 s))

-- where some node waits, the present one does
pub first_waits : (open_ : Bool) (node : Node) (path : List Branch) (nodes : List Node)
    → waiting open_ node path ≡ nodes → nodes ≢ [] → nodes ≡ node ∷ pending node (reverse path)
first_waits true node path nodes e some = sym e
first_waits false node path nodes e some = absurd (some (sym e))

module _ (claim : Claim) (n : Net) (walks : List (List SignedRow)) (nodes nodes' rest : List Node) (node : Node)
    (is : nodes ≡ node ∷ rest) where
  pub shut_none : IsShut claim n walks ByPropagation node → nodes' ≡ drop 1 nodes
      → IsSoundLine claim n walks (EndLine (Shut ByPropagation)) nodes
      × (nodes' ≡ after (EndLine (Shut ByPropagation)) nodes)
  shut_none s d = rw is (s, rw is at d)

  pub shut_some : (at : ℕ) → (IsShut claim n walks ByPropagation node → ⊥)
      → IsLineFault claim n walks (EndLine (Shut ByPropagation)) nodes at (NotPropagated at)
  shut_some at not = rw is (refl, not)
