use Rattle.std.proofs.Common.{List, ℕ, sym, subst}
use Rattle.std.specs.Prelude.{All, Contains}
use Rattle.std.specs.List.Sorted.{IsStrictlyIncreasing}
use Rattle.pesp_conflict.specs.Findings.{IsConflict}
use Rattle.pesp_conflict.proofs.Decisions.{part_is_conflict, whole_conflict}
use Rattle.pesp_conflict.proofs.decision.conflict_of.Goals as goal

pub returns-in-Some : goal.returns-in-Some
returns-in-Some c p told answer =
    let part = rw (c.in-Some.is) at (c.in_ok-rows.ensures p told answer) in
    part_is_conflict p c.args.listed.now c.in-Some.rows.items told.fit part
    (subst IsStrictlyIncreasing c.deref.ensures.value (c.are_rising.ensures.0 c.if-are_rising.true))

pub returns-in_ok-from_slice-in_default : goal.returns-in_ok-from_slice-in_default
returns-in_ok-from_slice-in_default c p told answer =
    subst (λ (rows : List ℕ). IsConflict p rows × All (Contains c.args.listed.now) rows)
    (sym c.in_ok-from_slice-in_default.ensures.items)
    (whole_conflict p c.args.listed.now c.args.certificate.now told answer)
