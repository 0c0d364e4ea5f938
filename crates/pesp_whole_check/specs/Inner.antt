-- What may be wrong with a certificate: with its head; where its cycles are walks, with the marked walks of its front, then with its tree.
use Rattle.std.specs.Prelude.{◌≡◌, ◌⊎◌, ℕ, ◌+◌, List, [], ◌∷◌, length, ℤ, All, Option, IfSome}
use Rattle.pesp_problem.specs.Timetables.{Pesp}
use Rattle.pesp_problem.specs.Arcs.{arcs_of, net_of}
use Rattle.pesp_problem.specs.Nodes.{root}
use Rattle.pesp_problem.specs.Marked.{IsMarkedWalk}
use Rattle.pesp_truth.specs.declared.answer.Answer.{Answer}
use Rattle.pesp_truth.specs.Trees.{AreSound}
use Rattle.pesp_truth.specs.Certificates.{Content, Front, claim_of, least_of, lines_of}
use Rattle.pesp_judges.specs.declared.refusal.Refusal.{Refusal}
use Rattle.pesp_judges.specs.declared.refusal.Refusal.TheVariants.{OtherPeriod}
use Rattle.pesp_judges.specs.Faults.{IsAnswerFault, IsMarksFault, own_line}
use Rattle.pesp_judges.specs.Lines.{IsLinesFault}

-- what is wrong with the period, or with the answer and the times
abbrev pub IsHeadFault : Pesp → ℕ → Answer → List ℤ → List ℕ → Refusal → Type 0
IsHeadFault p period answer labels times refusal =
    ((refusal ≡ OtherPeriod) × (period ≡ p.period → ⊥)) ⊎ ((period ≡ p.period) × IsAnswerFault p answer labels times refusal)

-- the marked walks of a front are closed, where there is one
abbrev pub AreClosed : Option Front → Pesp → Type 0
AreClosed front p = IfSome front (λ f. All (IsMarkedWalk (arcs_of p)) f.marks.walks)

-- the lines of the tree are sound at the root
abbrev pub IsSoundTree : Option Front → Pesp → Content → Type 0
IsSoundTree front p content = AreSound (claim_of front (net_of p) (least_of content.answer)) (net_of p) content.cycles (lines_of content)
    (root (net_of p) content.cycles ∷ [])

-- the first fault of the tree
abbrev pub IsInnerTreeFault : Option Front → Pesp → Content → Refusal → Type 0
IsInnerTreeFault front p content refusal = IsLinesFault (claim_of front (net_of p) (least_of content.answer)) (net_of p) content.cycles
    (lines_of content) (root (net_of p) content.cycles ∷ []) (own_line front (4 + length content.times + length content.cycles)) refusal

-- the first fault where answer and cycles are right: of a marked walk, else of the tree
abbrev pub IsInnerFault : Option Front → Pesp → Content → Refusal → Type 0
IsInnerFault front p content refusal = IsMarksFault front p (length content.cycles) refusal
    ⊎ (AreClosed front p × IsInnerTreeFault front p content refusal)
