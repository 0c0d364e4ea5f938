use Rattle.std.proofs.Common.{◌≡◌, inl, inr, refl, rules}
use Rattle.pesp_check.proofs.ReadingLemmas.{told_as}
use Rattle.pesp_tasks.specs.Replies.{lines_from}
use Rattle.pesp_tasks.proofs.SharpSolutions.{graft}
use Rattle.pesp_tasks.proofs.sharp_graft.GraftSharpOnWorks.write.Goals as goal

pub returns-in_err-print_fronted-clause-cause : goal.returns-in_err-print_fronted-clause-cause
returns-in_err-print_fronted-clause-cause g c =
    let found = c.in_ok-found.ensures in
    let out = c.in_err-print_fronted.ensures in
    let replies = c.in_ok-found.found.replies.items in
    told_as _ _ _ c.from_residual-in_err-print_fronted.ensures.1
    (inl (
      out.fault,
      (refl, refl),
      graft replies (lines_from 1 replies) refl found c.vouch.ensures.is_true c.vouch.ensures.has_text out.text tt,
    ))

pub returns-in_err-print_to-clause-cause : goal.returns-in_err-print_to-clause-cause
returns-in_err-print_to-clause-cause g c =
    let found = c.in_ok-found.ensures in
    let out = c.in_ok-print_fronted.ensures in
    let replies = c.in_ok-found.found.replies.items in
    let are : c.as_bytes.result.now ≡ lines_from 1 replies = search rules in
    told_as _ _ _ c.from_residual-in_err-print_to.ensures.1
    (inr (
      c.in_err-print_to.ensures.fault,
      graft replies c.as_bytes.result.now are found c.vouch.ensures.is_true c.vouch.ensures.has_text out.text
          c.in_err-print_to.ensures.text,
    ))

pub returns-clause-ok : goal.returns-clause-ok
returns-clause-ok g c =
    let found = c.in_ok-found.ensures in
    let replies = c.in_ok-found.found.replies.items in
    let are : c.as_bytes.result.now ≡ lines_from 1 replies = search rules in
    graft replies c.as_bytes.result.now are found c.vouch.ensures.is_true c.vouch.ensures.has_text
    c.in_ok-print_fronted.ensures.text c.in_ok-print_to.ensures.text
