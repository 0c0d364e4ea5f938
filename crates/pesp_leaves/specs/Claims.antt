-- What the checker is told of a tree's claim, and the claim that it stands for.
use Rattle.std.specs.Prelude.{◌≡◌, ℕ, ◌+◌, ◌<◌, List, length, ℤ, pos, Bool, true, if◌then◌else◌, All, Option, option_map}
use Rattle.pesp_problem.specs.declared.row.SignedRow.{SignedRow}
use Rattle.pesp_problem.specs.declared.pair.Pair.{Pair}
use Rattle.pesp_problem.specs.Timetables.{Pesp}
use Rattle.pesp_problem.specs.Arcs.{Net, arc_at, arcs_of}
use Rattle.pesp_problem.specs.Nodes.{Node, leaf_value}
use Rattle.pesp_problem.specs.Walks.{Names, RowExists}
use Rattle.pesp_problem.specs.Terms.{number_at}
use Rattle.pesp_truth.specs.Named.{AreNamed, scale_of}
use Rattle.pesp_truth.specs.Trees.{Goal, Claim, Plain, Behind, value_by}
use Rattle.pesp_leaves.specs.declared.checker.Shown.{Shown}
use Rattle.pesp_leaves.specs.declared.checker.Claim.{Claim as ToldClaim}
use Rattle.pesp_leaves.specs.declared.checker.Claim.TheVariants.{Plain as TellsPlain, Behind as TellsBehind}
use Rattle.pesp_leaves.specs.Taken.{HaveRows, AreSmallWeights}

-- the arcs are the instance's, the rows of the marked walks and of the lemmas exist, and each row has a small weight; the weights
-- are the instance's own where that is said
pub record FitsShown (p : Pesp) (s : Shown) : Type 0 where
  pub arcs : s.arcs.now ≡ arcs_of p
  pub walks : All (λ walk. All (λ x. RowExists s.arcs.now x.signed) walk) s.marks.now.walks
  pub facts : HaveRows (length p.rows) s.facts.now
  pub weights : length s.weights.now ≡ length p.rows
  pub small : AreSmallWeights s.weights.now
  pub own : s.is_cost ≡ true → (i : ℕ) → i < length s.weights.now → number_at s.weights.now i ≡ pos (arc_at (arcs_of p) i).weight

-- what is told behind a front fits the instance
abbrev pub FitsClaim : Pesp → ToldClaim → Type 0
FitsClaim p claim = (s : Shown) → claim ≡ TellsBehind s → FitsShown p s

-- these numbers, one a row, and this least sum are a goal's
pub record AreOf (weights : List ℤ) (least : Option ℤ) (goal : Goal) : Type 0 where
  pub weights_are : (i : ℕ) → i < length weights → number_at weights i ≡ goal.weights i
  pub least_is : least ≡ goal.least

-- what is told stands for a claim
abbrev pub TellsOf : ToldClaim → Claim → Type 0
TellsOf (TellsPlain least) claim = claim ≡ Plain least
TellsOf (TellsBehind s) claim = (goal : Goal) × (claim ≡ Behind s.marks.now s.facts.now goal) × AreOf s.weights.now s.least goal

-- the pairs name what is told: cycles, and behind a front marked walks and lemmas too, these under multipliers above 0
abbrev pub NamesTold : ToldClaim → ℕ → List Pair → Type 0
NamesTold (TellsPlain least) cycles pairs = All (λ pair. Names cycles pair.cycle) pairs
NamesTold (TellsBehind s) cycles pairs = AreNamed cycles (length s.marks.now.walks + length s.facts.now) pairs

-- the scale of a leaf that names more than cycles, or of one that doesn't
abbrev pub scale_told : ToldClaim → Bool → ℕ
scale_told (TellsPlain least) more = 1
scale_told (TellsBehind s) more = scale_of s.marks.now more

-- what the sum is to be at least
abbrev pub least_told : ToldClaim → Option ℤ
least_told (TellsPlain least) = option_map pos least
least_told (TellsBehind s) = s.least

-- the value of pairs by their scale, with weights or without
abbrev pub scaled_by : Claim → Net → List (List SignedRow) → Node → List Pair → Bool → Option ℤ
scaled_by (Plain least) n table node pairs weighted = leaf_value n table node pairs weighted
scaled_by (Behind marks facts goal) n table node pairs weighted =
    value_by marks facts n table node pairs (λ i. if weighted then goal.weights i else pos 0)

-- there are rates for leaves behind a front, one a row
abbrev pub HasRoom : ToldClaim → ℕ → ℕ → Type 0
HasRoom (TellsPlain least) rows rates = Unit {0}
HasRoom (TellsBehind s) rows rates = rates ≡ rows
