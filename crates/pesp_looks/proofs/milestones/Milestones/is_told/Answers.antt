use Rattle.std.proofs.Common.{arith, ap, ◌∙◌, max}
use Rattle.std.proofs.Math.Nat.{max_comm}
use Rattle.pesp_looks.proofs.milestones.Milestones.is_told.Goals as goal
use Rattle.pesp_looks.proofs.milestones.Milestones.is_told.Goals.{then-steps-self-2, else-steps-self-2}

pub returns-clause-due : goal.returns-clause-due
returns-clause-due c below = elim c.if-steps-self-2.branch [
  | then-steps-self-2 w ↦ ap (λ told. told.due) w.self-is ∙ w.max-self.ensures ∙ ap (λ doubled. max doubled 1)
      w.saturating_mul.ensures ∙ max_comm _ 1
  | else-steps-self-2 w ↦ absurd (omega arith)
]
