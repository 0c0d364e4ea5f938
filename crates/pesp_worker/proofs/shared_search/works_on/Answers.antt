use Rattle.std.proofs.Common.{ℕ, ap, subst, ◌∙◌}
use Rattle.std.specs.Prelude.{Option}
use Rattle.pesp_truth.specs.Certificates.{cost_of}
use Rattle.pesp_worker.specs.HandingIn.{AreTimesFor}
use Rattle.pesp_worker.proofs.Works.{all_found}
use Rattle.pesp_worker.proofs.shared_search.works_on.Goals as goal

pub returns : goal.returns
returns c =
    let instance = c.args.instance.now in
    let times = c.in_ok-times.times.items in
    let are = subst (λ (known : Option ℕ). AreTimesFor instance known times)
    (c.cost_in.ensures ∙ ap cost_of c.answer.ensures.value)
    (c.in_ok-times.ensures.times instance c.in_ok-certificate.ensures.valid) in
    record {
      found = all_found instance (cost_of c.args.base.now.answer) times c.args.jobs.now c.works_of.result
          are c.in_ok-times.ensures.short c.works_of.ensures;
    }
