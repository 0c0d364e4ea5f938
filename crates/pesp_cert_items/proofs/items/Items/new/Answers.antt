use Rattle.std.proofs.Common.{None, ap}
use Rattle.pesp_cert_lines.specs.Counts.{is_in_front}
use Rattle.pesp_cert_items.specs.Readings.{Reading}
use Rattle.pesp_cert_items.proofs.items.Items.new.Goals as goal

pub returns-clause-begins : goal.returns-clause-begins
returns-clause-begins g c = c.new.ensures.begins (g.S.Source.remaining c.args.source)

pub invariant_of-result-clause-plain : goal.invariant_of-result-clause-plain
invariant_of-result-clause-plain g c =
    let begins = c.new.ensures.begins None in
    record {
      versions = ap (λ (r : Reading). r.progress.versions) begins;
      place = ap (λ (r : Reading). is_in_front r.progress.place r.progress.shows) begins;
    }
