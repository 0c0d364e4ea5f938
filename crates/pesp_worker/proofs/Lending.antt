-- All open leaves of a tree can be lent, and each is lent under its job's number.
use Rattle.std.proofs.Common.{◌≡◌, ℕ, ◌+◌, ◌<◌, ◌≤◌, List, [], ◌∷◌, ◌++◌, length, length-append, append_assoc, inl, inr, refl, ap, sym, ◌∙◌, subst, arith}
use Rattle.std.specs.Prelude.{map, All, Err}
use Rattle.std.proofs.lemmas.List.{length-map}
use Rattle.std.proofs.lemmas.List.Elements.{All-cons, All-head, All-nil}
use Rattle.pesp_problem.specs.declared.cut.Cut.{Cut}
use Rattle.pesp_problem.specs.declared.cut.Side.{Side}
use Rattle.pesp_problem.specs.declared.cut.Side.TheVariants.{Low, High}
use Rattle.pesp_truth.specs.Trees.{Tree, Ends, Branch, preorder}
use Rattle.pesp_nodes.specs.Problems.{ProblemValue}
use Rattle.pesp_tree.specs.declared.job.Job.{Job}
use Rattle.pesp_tree.specs.declared.refusal.LendRefusal.{LendRefusal}
use Rattle.pesp_tree.specs.declared.refusal.LendRefusal.TheVariants as lending
use Rattle.pesp_tree.specs.States.{State, Ticket, Lent, IsLentNumber}
use Rattle.pesp_truth.specs.Leaves.{leaf_paths}
use Rattle.pesp_tree.specs.Adopting.{AreOpenOf, AreNumbered, LendsEach, LendsAll}
use Rattle.pesp_tree.proofs.Lending.{ticket_in}
use Rattle.pesp_tree.proofs.TreeLimits.{All-second}

-- no more paths lead to open leaves than there are paths
opens_few : (p : ProblemValue) (state : State) (paths opens : List (List (Cut × Side)))
    → AreOpenOf p state paths opens → length opens ≤ length paths
opens_few p state [] opens h = rw h (omega arith)
opens_few p state (path ∷ paths) opens (inl h) =
    let rest = opens_few p state paths h.0 h.3 in
    let e = ap length h.2 in
    omega (arith, rest, e)
opens_few p state (path ∷ paths) opens (inr h) = let rest = opens_few p state paths opens h.1 in omega (arith, rest)

-- a leaf for each path, and a line for each leaf
leaves_few : (tree : Tree) → length (leaf_paths tree) ≤ length (preorder tree)
leaves_few (Ends leaf) = omega arith
leaves_few (Branch cut low high) =
    let a = leaves_few low in
    let b = leaves_few high in
    let c = length-append (map (λ (path : List (Cut × Side)). (cut, Low) ∷ path) (leaf_paths low))
    (map (λ (path : List (Cut × Side)). (cut, High) ∷ path) (leaf_paths high)) in
    let d = length-map (leaf_paths low) (λ (path : List (Cut × Side)). (cut, Low) ∷ path) in
    let e = length-map (leaf_paths high) (λ (path : List (Cut × Side)). (cut, High) ∷ path) in
    let f = length-append (preorder low) (preorder high) in
    omega (arith, a, b, c, d, e, f)

-- the numbers last for the leaves of a tree that keeps its limit
pub numbers_last : (p : ProblemValue) (state : State) (opens : List (List (Cut × Side)))
    → length (preorder state.tree) ≤ 1000000 → state.numbers ≡ [] → AreOpenOf p state (leaf_paths state.tree) opens
    → 1000000 < length state.numbers + length opens → ⊥
numbers_last p state opens small none are many =
    let few = opens_few p state (leaf_paths state.tree) opens are in
    let leaves = leaves_few state.tree in
    let e = ap length none in
    absurd (omega (arith, small, few, leaves, e, many))

pub spent_never : (p : ProblemValue) (old new : State) (refusal : LendRefusal) → refusal ≡ lending.NumbersSpent
    → length (preorder old.tree) ≤ 1000000 → old.numbers ≡ [] → LendsAll p old (Err refusal) new → ⊥
spent_never p old new lending.NumbersSpent e small none h = numbers_last p old h.1.0 small none h.1.1 h.1.2
spent_never p old new lending.Memory e small none h = cc

-- ---- the numbers of the jobs

-- the first ticket behind others
ticket_behind : (before more : List Ticket) (ticket : Ticket) → ticket_in (before ++ ticket ∷ more) (length before) ≡ ticket
ticket_behind [] more ticket = refl
ticket_behind (t ∷ before) more ticket = ticket_behind before more ticket

-- each job is one of these tickets
abbrev HasTicket : List Ticket → Job → Type 0
HasTicket tickets job = (path : List (Cut × Side)) × (ticket_in tickets job.number ≡ Lent path)

numbered_lent : (before : List Ticket) (jobs : List Job) (paths : List (List (Cut × Side)))
    → AreNumbered (length before) jobs paths → All (HasTicket (before ++ map Lent paths)) jobs
numbered_lent before [] paths h = All-nil (HasTicket (before ++ map Lent paths))
numbered_lent before (job ∷ jobs) paths h =
    let path = job.path.items in
    let here : ticket_in (before ++ map Lent paths) job.number
    ≡ Lent path = ap (λ (qs : List (List (Cut × Side))). ticket_in (before ++ map Lent qs) job.number) h.2
    ∙ ap (λ (n : ℕ). ticket_in (before ++ Lent path ∷ map Lent h.0) n) h.1
    ∙ ticket_behind before (map Lent h.0) (Lent path) in
    let count : length (before ++ Lent path ∷ []) ≡ length before + 1 = length-append before (Lent path ∷ []) in
    let rest = numbered_lent (before ++ Lent path ∷ []) jobs h.0 (subst (λ (n : ℕ). AreNumbered n jobs h.0) (sym count) h.3) in
    let same : (before ++ Lent path ∷ []) ++ map Lent h.0
    ≡ before ++ map Lent paths = append_assoc before (Lent path ∷ []) (map Lent h.0)
    ∙ ap (λ (qs : List (List (Cut × Side))). before ++ map Lent qs) (sym h.2) in
    All-cons (HasTicket (before ++ map Lent paths)) job jobs (path, here) (subst (λ (ts : List Ticket). All (HasTicket ts) jobs) same rest)

-- each job's number is lent
pub jobs_are_lent : (p : ProblemValue) (old new : State) (jobs : List Job) → LendsEach p old jobs new
    → All (λ (job : Job). IsLentNumber new job.number) jobs
jobs_are_lent p old new jobs h = subst (λ (s : State). All (λ (job : Job). IsLentNumber s job.number) jobs)
    (sym h.state) (numbered_lent old.numbers jobs h.paths h.numbered)

pub one_lent : (p : ProblemValue) (old new : State) (before rest : List Job) (job : Job)
    → LendsEach p old (before ++ job ∷ rest) new → IsLentNumber new job.number
one_lent p old new before rest job h = All-head (λ (j : Job). IsLentNumber new j.number) job rest
    (All-second (λ (j : Job). IsLentNumber new j.number) before (job ∷ rest)
    (jobs_are_lent p old new (before ++ job ∷ rest) h))
