-- What is chosen between a plain answer and a proposal.
use Rattle.std.proofs.Common.{◌≡◌, ℕ, ◌<◌, ◌≤◌, List, refl, ap, ◌∙◌, arith, sym, subst}
use Rattle.std.specs.Prelude.{Option, Some, None, IsSomeAnd}
use Rattle.pesp_problem.specs.Timetables.{Pesp, cost}
use Rattle.pesp_problem.specs.Arcs.{Net, net_of}
use Rattle.pesp_problem.specs.Nodes.{root}
use Rattle.pesp_truth.specs.declared.answer.Answer.{Answer}
use Rattle.pesp_truth.specs.Certificates.{Content, lines_of, least_of, cost_of, IsValid, Front as FrontOf}
use Rattle.pesp_tree.specs.States.{IsAtMost}
use Rattle.pesp_cert.specs.Fronted.{Fronted}
use Rattle.pesp_branching.specs.Rooms.{branch_lines, room}
use Rattle.pesp_branching.specs.Turns.{HasBranches}
use Rattle.pesp_branching.proofs.Rooms.{fewer_branches}
use Rattle.pesp_branching.proofs.Branches.{as_lines}
use Rattle.pesp_search.specs.Solving.{IsSolved, CostsNoMore}
use Rattle.pesp_sharp_work.specs.Told.{IsRetold}
use Rattle.pesp_sharp_work.specs.Ranks.{IsNoWorse}
use Rattle.pesp_sharp_search.specs.Solving.{IsPlainAnswer, MayStand, StandsWhole, IsSharpSolved, IsSharpResumed}

at_most_itself : (a : Option ℕ) → IsAtMost a a
at_most_itself None = tt
at_most_itself (Some a) = omega arith

-- no answer is worse than itself
pub no_worse_itself : (answer : Answer) → IsNoWorse answer answer
no_worse_itself answer = (at_most_itself (least_of answer), at_most_itself (cost_of answer))

-- without a front it is valid as a plain one is
pub plain_valid : (p : Pesp) (c : Fronted) → IsPlainAnswer p c → IsValid c.front p c.content
plain_valid p c plain = subst (λ (front : Option FrontOf). IsValid front p c.content) (sym plain.0) plain.1.valid

-- a plain answer may stand in its own place
pub plain_stands : (p : Pesp) (c : Fronted) (steps : ℕ) → IsPlainAnswer p c → MayStand p c.content.answer steps c
plain_stands p c steps plain =
    let count = plain.1.branches.lines in
    record {
      valid = plain_valid p c plain;
      few = omega (arith, count);
      no_worse = no_worse_itself c.content.answer;
    }

-- a search within 0 steps has used none
pub within_none : (p : Pesp) (used : ℕ) (content : Content) → IsSolved p 0 used content → IsSolved p 0 0 content
within_none p used content solved =
    let few = solved.few in
    let none : used ≡ 0 = omega (arith, few) in
    subst (λ (n : ℕ). IsSolved p 0 n content) none solved

-- the answer of a first look is plain
pub is_plain : (p : Pesp) (used : ℕ) (content : Content) (c : Fronted) → c ≡ record { front = None; content = content }
    → IsSolved p 0 used content → IsPlainAnswer p c
is_plain p used content c is solved =
    subst (IsPlainAnswer p) (sym is) (refl, within_none p used content solved)

-- it costs no more than the plain answer does
pub plain_costs : (p : Pesp) (times : List ℕ) (content : Content) (c : Fronted) → c ≡ record { front = None; content = content }
    → CostsNoMore p times content → CostsNoMore p times c.content
plain_costs p times content c is cheap = subst (λ (f : Fronted). CostsNoMore p times f.content) (sym is) cheap

-- where more branches are allowed
pub stands_longer : (p : Pesp) (answer : Answer) (most more : ℕ) (c : Fronted) → most ≤ more
    → MayStand p answer most c → MayStand p answer more c
stands_longer p answer most more c longer stands =
    let few = stands.few in
    record { valid = stands.valid; few = omega (arith, few, longer); no_worse = stands.no_worse }

-- a base stands in its own place
pub base_stands : (p : Pesp) (base : Fronted) (steps : ℕ) → IsValid base.front p base.content → IsSharpResumed p base steps base
base_stands p base steps valid = record {
  valid = valid;
  few = omega arith;
  no_worse = no_worse_itself base.content.answer;
}

-- a plain answer has no branch
pub plain_whole : (p : Pesp) (c : Fronted) (steps : ℕ) → IsPlainAnswer p c → StandsWhole p c.content.answer steps c
plain_whole p c steps plain =
    (plain_stands p c steps plain, subst (HasBranches (net_of p) c.content) (sym plain.1.branches.lines) plain.1.branches)

-- what is told again has the same branches
same_branches : (n : Net) (content : Content) (answer : Answer) (used : ℕ) → HasBranches n content used
    → HasBranches n (record content { answer = answer }) used
same_branches n content answer used h = record { lines = h.lines; tree = h.tree; preorder_is = h.preorder_is; both = h.both }

-- and has fewer than the root has room
in_room : (n : Net) (content : Content) (used : ℕ) → HasBranches n content used → used < room n content.cycles (root n content.cycles)
in_room n content used h =
    let count = as_lines h.tree in
    let lines = ap branch_lines h.preorder_is in
    let few = fewer_branches n content.cycles h.tree (root n content.cycles) h.both in
    omega (arith, count, lines, h.lines, few)

at_most_then : (a b c : Option ℕ) → IsAtMost a b → IsAtMost b c → IsAtMost a c
at_most_then a b None h k = tt
at_most_then None None (Some c) h k = absurd k
at_most_then (Some a) None (Some c) h k = absurd k
at_most_then None (Some b) (Some c) h k = absurd h
at_most_then (Some a) (Some b) (Some c) h k = omega (arith, h, k)

pub sharp_solved : (p : Pesp) (plain : Fronted) (steps used : ℕ) (found c : Fronted) → IsPlainAnswer p plain
    → StandsWhole p plain.content.answer steps found → IsRetold p found c → used ≡ branch_lines (lines_of c.content)
    → IsSharpSolved p steps used c
sharp_solved p plain steps used found c solved stands again is =
    let few = stands.0.few in
    let count : used ≡ branch_lines (lines_of found.content) = is ∙ ap (λ (f : Fronted). branch_lines (lines_of f.content)) again.same in
    let H : Fronted → Type 0 = λ f. HasBranches (net_of p) f.content used in
    let branches : H c = subst H (sym again.same) (same_branches (net_of p) found.content c.content.answer used
    (subst (HasBranches (net_of p) found.content) (sym count) stands.1)) in
    let cheap : IsAtMost (cost_of c.content.answer) (cost_of plain.content.answer) =
    subst (λ (cost : Option ℕ). IsAtMost cost (cost_of plain.content.answer)) (sym again.cost) stands.0.no_worse.1 in
    record {
      valid = again.valid;
      few = omega (arith, few, count);
      branches = branches;
      room = in_room (net_of p) c.content used branches;
      told = again.told;
      plain = (
        plain.content,
        solved.1,
        (
          at_most_then (least_of plain.content.answer) (least_of found.content.answer) (least_of c.content.answer)
              stands.0.no_worse.0 again.least,
          cheap,
        ),
      );
    }

-- what is told again costs the same
pub retold_costs : (p : Pesp) (times : List ℕ) (old new : Fronted) → IsRetold p old new → CostsNoMore p times old.content
    → CostsNoMore p times new.content
retold_costs p times old new again cheap is =
    subst (λ (cost' : Option ℕ). IsSomeAnd cost' (λ c. c ≤ cost p.period p.rows times)) (sym again.cost) (cheap is)

below : (new old : Option ℕ) (most : ℕ) → IsAtMost new old → IsSomeAnd old (λ c. c ≤ most) → IsSomeAnd new (λ c. c ≤ most)
below new None most h some = absurd some
below None (Some b) most h some = absurd h
below (Some a) (Some b) most h some = omega (arith, h, some)

-- what costs no more than a plain answer costs no more than times that are no cheaper than that
pub costs_no_more : (p : Pesp) (times : List ℕ) (plain content : Content) → IsNoWorse plain.answer content.answer
    → CostsNoMore p times plain → CostsNoMore p times content
costs_no_more p times plain content h cheap is =
    below (cost_of content.answer) (cost_of plain.answer) (cost p.period p.rows times) h.1 (cheap is)
