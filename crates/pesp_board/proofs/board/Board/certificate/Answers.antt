use Rattle.std.proofs.Common.{◌≡◌, List, map, subst, sym, ap, ◌∙◌}
use Rattle.std.specs.Prelude.{Ok}
use Rattle.pesp_truth.specs.declared.tree.TreeLine.{TreeLine}
use Rattle.pesp_truth.specs.Certificates.{Content}
use Rattle.pesp_truth.specs.Trees.{line_of}
use Rattle.pesp_cert.proofs.Runs.{limits_give}
use Rattle.pesp_tree.specs.States.{State}
use Rattle.pesp_tree.specs.Certificates.{version_of, IsCertificateOf}
use Rattle.pesp_tree.proofs.Certified.{kept_is_valid}
use Rattle.pesp_board.specs.Insides.{times_of, state_of}
use Rattle.pesp_board.proofs.Certified.{says, keeps_limits, not_refused, what_is_made}
use Rattle.pesp_board.proofs.board.Board.certificate.Goals.{After-new-certificate}
use Rattle.pesp_board.proofs.board.Board.certificate.Goals as goal

abbrev state : After-new-certificate → State
state c = state_of c.self.inside.tree c.self.inside.slots.items (times_of c.self.inside.best)

abbrev made : After-new-certificate → Content
made c = record {
  version = c.version_of-version.result;
  period = c.period-period.result;
  answer = c.answer_of-answer.result;
  times = c.in_ok-times.times.items;
  cycles = c.in_ok-cycles.cycles.items;
  tree = c.in_ok-tree.tree.items;
}

made_is : (c : After-new-certificate) → IsCertificateOf c.self.inside.problem c.args.instance.now.events (state c) (made c)
made_is c =
    says c.self.inside.problem (state c) c.args.instance.now.events c.args.self.now c.least.result c.best.result
    c.events.result.now c.table.result.now c.network.result.now (made c)
    c.self.view_is (c.version_of-version.ensures
    ∙ ap (λ (lines : List TreeLine). version_of (map line_of lines)) c.deref.ensures.value)
    c.network.ensures.network c.period-period.ensures.period c.least.ensures.value c.best.ensures.cost
    c.answer_of-answer.ensures c.events.ensures.events c.in_ok-times.ensures c.table.ensures.table
    c.in_ok-cycles.ensures c.in_ok-tree.ensures.lines

pub unwrap-requires : goal.unwrap-requires
unwrap-requires c =
    let m = (goal.at.unwrap-requires c).After-new-certificate in
    not_refused c.new-certificate.result _ c.new-certificate.ensures.refused
    (limits_give (made m) (keeps_limits c.args.instance.now c.self.inside.problem (state m)
    (made m) c.events.ensures.limits c.self.invariant.network c.self.invariant.table c.table.ensures.closed
    c.self.invariant.orderly (made_is m)))

-- what is given is what was made
given_is : (c : After-new-certificate) (given : Content) → c.new-certificate.result ≡ Ok given
    → IsCertificateOf c.self.inside.problem c.args.instance.now.events (state c) given
given_is c given e = subst (IsCertificateOf c.self.inside.problem c.args.instance.now.events (state c))
    (sym (what_is_made c.new-certificate.result given (made c) e c.new-certificate.ensures.parts)) (made_is c)

pub returns-clause-content : goal.returns-clause-content
returns-clause-content c =
    let m = (goal.at.returns-clause-content c).After-new-certificate in
    rw (← c.self.view_is) (given_is m c.unwrap.result c.unwrap.ensures)

pub returns-clause-valid : goal.returns-clause-valid
returns-clause-valid c =
    let m = (goal.at.returns-clause-valid c).After-new-certificate in
    kept_is_valid c.args.instance.now c.self.inside.problem (state m) c.unwrap.result c.events.ensures.limits
    (rw (← c.self.view_is) at c.requires) c.table.ensures.closed c.self.invariant.orderly.kept
    (given_is m c.unwrap.result c.unwrap.ensures)
