-- What is lent from a base is decided by the instance and the base.
use Rattle.std.proofs.Common.{◌≡◌, inl, inr, ℕ, ◌+◌, List, [], ◌∷◌, ◌++◌, length, map, sym, ap, ◌∙◌, subst, true, option_map}
use Rattle.pesp_problem.specs.declared.cut.Cut.{Cut}
use Rattle.pesp_problem.specs.declared.cut.Side.{Side}
use Rattle.pesp_problem.specs.declared.row.SignedRow.{SignedRow}
use Rattle.pesp_problem.specs.declared.pair.Pair.{Pair}
use Rattle.pesp_problem.specs.Timetables.{Pesp}
use Rattle.pesp_problem.specs.Arcs.{Net}
use Rattle.pesp_problem.specs.NetTimetables.{net_cost}
use Rattle.pesp_problem.specs.Nodes.{leaf_value, root}
use Rattle.pesp_truth.specs.Paths.{along}
use Rattle.pesp_truth.specs.Leaves.{leaf_paths}
use Rattle.pesp_truth.proofs.Lines.{one_tree}
use Rattle.pesp_truth.specs.Certificates.{Content}
use Rattle.pesp_nodes.specs.Problems.{ProblemValue, problem_net}
use Rattle.pesp_tree.specs.declared.job.Job.{Job}
use Rattle.pesp_tree.specs.States.{State, Lent, IsOpen, IsBelow}
use Rattle.pesp_tree.specs.Adopting.{AreOpenOf, AreNumbered}
use Rattle.pesp_tree.proofs.Certified.{same_net}
use Rattle.pesp_worker.specs.Lent.{IsLentFrom}
use Rattle.pesp_worker.specs.Jobs.{job_and_path}

abbrev pub Below : Net → List (List SignedRow) → State → List (Cut × Side) → List Pair → Type 0
Below n table s path pairs = IsBelow (leaf_value n table (along (root n table) path) pairs true) (option_map (net_cost n) s.best)

open_same : (p q : ProblemValue) (s : State) → problem_net p ≡ problem_net q → p.table ≡ q.table → (path : List (Cut × Side))
    → IsOpen p s path → IsOpen q s path
open_same p q s n t path o = record {
  pairs = o.pairs;
  leaf = o.leaf;
  unlent = o.unlent;
  cheaper = subst (λ (x : Net). Below x q.table s path o.pairs) n
      (subst (λ (x : List (List SignedRow)). Below (problem_net p) x s path o.pairs) t o.cheaper);
}

same_opens : (p q : ProblemValue) (s : State) → problem_net p ≡ problem_net q → p.table ≡ q.table
    → (paths xs ys : List (List (Cut × Side))) → AreOpenOf p s paths xs → AreOpenOf q s paths ys → xs ≡ ys
same_opens p q s n t [] xs ys a b = a ∙ sym b
same_opens p q s n t (path ∷ paths) xs ys (inl a) (inl b) = a.2
    ∙ ap (λ rest. path ∷ rest) (same_opens p q s n t paths a.0 b.0 a.3 b.3) ∙ sym b.2
same_opens p q s n t (path ∷ paths) xs ys (inl a) (inr b) = absurd (b.0 (open_same p q s n t path a.1))
same_opens p q s n t (path ∷ paths) xs ys (inr a) (inl b) = absurd (a.0 (open_same q p s (sym n) (sym t) path b.1))
same_opens p q s n t (path ∷ paths) xs ys (inr a) (inr b) = same_opens p q s n t paths xs ys a.1 b.1

abbrev pub numbered : ℕ → List (List (Cut × Side)) → List (ℕ × List (Cut × Side))
numbered n [] = []
numbered n (path ∷ paths) = (n, path) ∷ numbered (n + 1) paths

are_numbered : (n : ℕ) (jobs : List Job) (paths : List (List (Cut × Side))) → AreNumbered n jobs paths
    → map job_and_path jobs ≡ numbered n paths
are_numbered n [] paths h = sym (ap (numbered n) h)
are_numbered n (job ∷ jobs) paths h =
    ap (λ (k : ℕ). (k, job.path.items) ∷ map job_and_path jobs) h.1
    ∙ ap (λ rest. (n, job.path.items) ∷ rest) (are_numbered (n + 1) jobs h.0 h.3) ∙ sym (ap (numbered n) h.2)

state_same : (x y : State) → x.tree ≡ y.tree → x.numbers ≡ y.numbers → x.best ≡ y.best → x ≡ y
state_same x y e f g = ap (λ tree. record x { tree = tree }) e
    ∙ ap (λ numbers. record x { tree = y.tree; numbers = numbers }) f ∙ ap (λ best. record y { best = best }) g

pub one_lending : (i : Pesp) (base : Content) (p q : ProblemValue) (jobs others : List Job) (s t : State)
    → IsLentFrom i base p jobs s → IsLentFrom i base q others t
    → (map job_and_path jobs ≡ map job_and_path others) × (s ≡ t)
one_lending i base p q jobs others s t a b =
    let same : a.opening ≡ b.opening = state_same a.opening b.opening
    (one_tree a.opening.tree b.opening.tree (a.adopts.tree ∙ sym b.adopts.tree))
    (a.adopts.numbers ∙ sym b.adopts.numbers) (a.adopts.best ∙ sym b.adopts.best) in
    let nets : problem_net p ≡ problem_net q = same_net i p a.of ∙ sym (same_net i q b.of) in
    let paths : a.lends.paths ≡ b.lends.paths =
    same_opens p q a.opening nets (a.cycles ∙ sym b.cycles) (leaf_paths a.opening.tree) a.lends.paths b.lends.paths a.lends.opens
    (subst (λ (o : State). AreOpenOf q o (leaf_paths o.tree) b.lends.paths) (sym same) b.lends.opens) in (
      are_numbered (length a.opening.numbers) jobs a.lends.paths a.lends.numbered ∙ ap (numbered (length a.opening.numbers)) paths
          ∙ ap (λ (o : State). numbered (length o.numbers) b.lends.paths) same
          ∙ sym (are_numbered (length b.opening.numbers) others b.lends.paths b.lends.numbered),
      a.lends.state ∙ ap (λ (ps : List (List (Cut × Side))). record a.opening { numbers = a.opening.numbers ++ map Lent ps }) paths
          ∙ ap (λ (o : State). record o { numbers = o.numbers ++ map Lent b.lends.paths }) same ∙ sym b.lends.state,
    )
