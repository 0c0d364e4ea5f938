-- Nodes along a path, step by step.
use Rattle.std.proofs.Common.{◌≡◌, ℕ, ◌+◌, ◌-◌, ◌<◌, ◌≤◌, List, ◌∷◌, length, get_or, drop, drop-cons, refl, ap, arith, sym, ◌∙◌, add-one}
use Rattle.std.proofs.lemmas.List.{drop_all, length-set}
use Rattle.pesp_problem.specs.declared.cut.Cut.{Cut}
use Rattle.pesp_problem.specs.declared.cut.Cut.TheVariants.{Slack, Offset}
use Rattle.pesp_problem.specs.declared.cut.Side.{Side}
use Rattle.pesp_problem.specs.declared.cut.Side.TheVariants.{Low, High}
use Rattle.pesp_problem.specs.Nodes.{Node, part}
use Rattle.pesp_truth.specs.Paths.{along}
use Rattle.pesp_nodes.specs.Problems.{ProblemValue, IsNodeOf, IsCutOf}

-- so many ranges as another node
pub record HasSizesOf (root node : Node) : Type 0 where
  pub slacks : length node.slacks ≡ length root.slacks
  pub offsets : length node.offsets ≡ length root.offsets

-- the node to which the first k steps lead: the others lead from it to where the path leads
pub record IsAlong (root : Node) (path : List (Cut × Side)) (k : ℕ) (node : Node) : Type 0 where
  pub sizes : HasSizesOf root node
  pub rest : along node (drop k path) ≡ along root path

part_sizes : (root node : Node) (cut : Cut) (side : Side) → HasSizesOf root node → HasSizesOf root (part node cut side)
part_sizes root node (Slack row k) Low h = record { slacks = length-set node.slacks (row - 1) _ ∙ h.slacks; offsets = h.offsets }
part_sizes root node (Slack row k) High h = record { slacks = length-set node.slacks (row - 1) _ ∙ h.slacks; offsets = h.offsets }
part_sizes root node (Offset cycle k) Low h = record { slacks = h.slacks; offsets = length-set node.offsets (cycle - 1) _ ∙ h.offsets }
part_sizes root node (Offset cycle k) High h = record { slacks = h.slacks; offsets = length-set node.offsets (cycle - 1) _ ∙ h.offsets }

pub at_root : (root node : Node) (path : List (Cut × Side)) → node ≡ root → IsAlong root path 0 node
at_root root node path e = record {
  sizes = record { slacks = ap (λ (n : Node). length n.slacks) e; offsets = ap (λ (n : Node). length n.offsets) e };
  rest = ap (λ (n : Node). along n path) e;
}

left : (path : List (Cut × Side)) (k : ℕ) (step : Cut × Side) → k < length path → drop k path ≡ get_or path k step ∷ drop (k + 1) path
left path k step l = rw (add-one, drop-cons path k step l) refl

pub one_step : (root node new : Node) (path : List (Cut × Side)) (k : ℕ) (step : Cut × Side) → k < length path
    → get_or path k step ≡ step → new ≡ part node step.0 step.1 → IsAlong root path k node
    → IsAlong root path (k + 1) new
one_step root node new path k step l is e h =
    let next : drop k path ≡ step ∷ drop (k + 1) path = left path k step l ∙ ap (λ (s : Cut × Side). s ∷ drop (k + 1) path) is in
    let sizes = part_sizes root node step.0 step.1 h.sizes in
    record {
      sizes = record {
        slacks = ap (λ (n : Node). length n.slacks) e ∙ sizes.slacks;
        offsets = ap (λ (n : Node). length n.offsets) e ∙ sizes.offsets;
      };
      rest = ap (λ (n : Node). along n (drop (k + 1) path)) e ∙ sym (ap (along node) next) ∙ h.rest;
    }

pub cut_there : (root node : Node) (cut : Cut) → HasSizesOf root node → IsCutOf root cut → IsCutOf node cut
cut_there root node (Slack row k) h c = let here = h.slacks in let most = c.0.1 in ((c.0.0, omega (arith, here, most)), c.1)
cut_there root node (Offset cycle k) h c = let here = h.offsets in let most = c.0.1 in ((c.0.0, omega (arith, here, most)), c.1)

pub at_end : (root node : Node) (path : List (Cut × Side)) (k : ℕ) → length path ≤ k → IsAlong root path k node → node ≡ along root path
at_end root node path k done h = sym (ap (along node) (drop_all k path done)) ∙ h.rest

pub node_there : (p : ProblemValue) (root node : Node) → HasSizesOf root node → IsNodeOf p root → IsNodeOf p node
node_there p root node h is = record { slacks = h.slacks ∙ is.slacks; offsets = h.offsets ∙ is.offsets }
