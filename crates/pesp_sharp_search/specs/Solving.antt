-- What a search that sharpens answers.
use Rattle.std.specs.Prelude.{◌≡◌, ℕ, ◌+◌, ◌<◌, ◌≤◌, None}
use Rattle.pesp_problem.specs.Timetables.{Pesp}
use Rattle.pesp_problem.specs.Arcs.{net_of}
use Rattle.pesp_problem.specs.Nodes.{root}
use Rattle.pesp_truth.specs.declared.answer.Answer.{Answer}
use Rattle.pesp_truth.specs.Certificates.{Content, lines_of, IsValid}
use Rattle.pesp_cert.specs.Fronted.{Fronted}
use Rattle.pesp_branching.specs.Rooms.{branch_lines, room}
use Rattle.pesp_branching.specs.Turns.{HasBranches}
use Rattle.pesp_search.specs.Solving.{IsSolved}
use Rattle.pesp_sharp_work.specs.Told.{TellsLeast}
use Rattle.pesp_sharp_work.specs.Ranks.{IsNoWorse}

-- a certificate without a front that a search without marked walks has within 0 steps
abbrev pub IsPlainAnswer : Pesp → Fronted → Type 0
IsPlainAnswer p c = (c.front ≡ None) × IsSolved p 0 0 c.content

-- a certificate that may stand in an answer's place: it is valid with its marked walks, its tree has at most so many
-- branches, and it is no worse
pub record MayStand (p : Pesp) (answer : Answer) (steps : ℕ) (c : Fronted) : Type 0 where
  pub valid : IsValid c.front p c.content
  pub few : branch_lines (lines_of c.content) ≤ steps
  pub no_worse : IsNoWorse answer c.content.answer

-- it may stand there, and each branch of its tree leaves both parts a value
abbrev pub StandsWhole : Pesp → Answer → ℕ → Fronted → Type 0
StandsWhole p answer steps c = MayStand p answer steps c × HasBranches (net_of p) c.content (branch_lines (lines_of c.content))

-- a certificate that is valid for the instance with its marked walks; its tree has so many branches, at most so many and
-- fewer than the root has room, and each leaves both parts a value; its bound is the least that its tree shows, and its cost;
-- and it is no worse than some answer that a search without marked walks has within 0 steps
pub record IsSharpSolved (p : Pesp) (steps used : ℕ) (c : Fronted) : Type 0 where
  pub valid : IsValid c.front p c.content
  pub few : used ≤ steps
  pub branches : HasBranches (net_of p) c.content used
  pub room : used < room (net_of p) c.content.cycles (root (net_of p) c.content.cycles)
  pub told : TellsLeast p c
  pub plain : (content : Content) × IsSolved p 0 0 content × IsNoWorse content.answer c.content.answer

-- a certificate to which a search leads from the base: it is valid with its marked walks, its tree has at most so many
-- branches more than the base's, and it is no worse
abbrev pub IsSharpResumed : Pesp → Fronted → ℕ → Fronted → Type 0
IsSharpResumed p base steps c = MayStand p base.content.answer (branch_lines (lines_of base.content) + steps) c
