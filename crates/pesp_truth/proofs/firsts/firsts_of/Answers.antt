use Rattle.std.proofs.Common.{◌≡◌, sym, subst, arith, ap, length, ℕ, List}
use Rattle.std.specs.Prelude.{slice_index}
use Rattle.pesp_problem.specs.Forests.{IsFirstOf}
use Rattle.pesp_truth.proofs.Labelling.{whole}
use Rattle.pesp_truth.proofs.firsts.firsts_of.Goals as goal

pub returns-clause-firsts : goal.returns-clause-firsts
returns-clause-firsts c = λ event l.
    let v = c.in_ok-labels.labels in
    let len : length c.join_rows.new.labels ≡ v.len = omega arith in
    let P : List ℕ → Type 0 = λ zs. IsFirstOf c.args.arcs.now event (slice_index zs event) in
    subst P (sym (whole v.len v.items c.join_rows.new.labels len))
    (c.join_rows.ensures event (omega (
      arith,
      ap length c.deref_mut.ensures.value,
      c.in_ok-labels.ensures.long,
    )))
