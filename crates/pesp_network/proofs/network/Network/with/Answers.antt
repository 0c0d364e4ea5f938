use Rattle.pesp_network.proofs.network.Network.with.Goals as goal

pub find-requires : goal.find-requires
find-requires c = rw c.as_slice.ensures.value c.requires.forest

pub invariant_of-result : goal.invariant_of-result
invariant_of-result c =
    let r = c.requires in let s = r.sizes in let e = c.in_ok-arcs.ensures in
    record {
      limits = record {
        some_period = s.some_period;
        period_most = s.period_most;
        events_most = s.events_most;
        rows_most = r.few;
        each = r.each;
      };
      rows = rw c.as_slice.ensures.value at e.arcs;
      forest = r.forest;
      reaches = rw c.as_slice.ensures.value at e.reaches;
      sized = e.sized;
      kept = e.kept;
    }
