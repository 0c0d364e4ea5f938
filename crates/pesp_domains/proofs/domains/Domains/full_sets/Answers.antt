use Rattle.std.proofs.Common.{◌≡◌, arith, sym, length}
use Rattle.pesp_network.specs.Networks.{net_of_network}
use Rattle.pesp_domains.specs.Domains.{family_of}
use Rattle.pesp_domains.specs.Full.{IsFull}
use Rattle.pesp_domains.proofs.Holding.{whole}
use Rattle.pesp_domains.proofs.Filling.{full_is, full_view}
use Rattle.pesp_domains.proofs.domains.Domains.full_sets.Goals as goal

pub returns-clause-full : goal.returns-clause-full
returns-clause-full c =
    let n = c.args.network.now in
    let l : length c.fill_sets.new.words ≡ c.in_ok-words.words.len = omega arith in
    full_view n.period n.events c.period-period.result c.events-events.result c.fill_sets.new.words _
    (λ s. IsFull (net_of_network n) n.events (family_of s)) (sym c.period-period.ensures.period)
    (sym c.events-events.ensures.events)
    (sym (whole c.in_ok-words.words.len c.in_ok-words.words.items c.fill_sets.new.words l))
    (full_is (net_of_network n) n.events c.fill_sets.new.words c.fill_sets.ensures)
