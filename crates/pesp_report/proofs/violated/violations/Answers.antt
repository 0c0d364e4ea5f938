use Rattle.std.proofs.Common.{◌≡◌, ◌∙◌, sym, refl, ap, arith, length}
use Rattle.pesp_report.specs.Violations.{violations_of}
use Rattle.pesp_report.proofs.ViolatedRows.{none-iff}
use Rattle.pesp_report.proofs.violated.violations.Goals as goal

pub returns-in-Ok-print_to-clause-none : goal.returns-in-Ok-print_to-clause-none
returns-in-Ok-print_to-clause-none g c =
    let held = c.in-Ok.found.ok.0 in
    let same : c.len.result ≡ length (violations_of c.args.instance.now c.args.times.now) =
    omega (arith, held, c.len.ensures, ap length c.in-Ok.ensures) in
    let none = none-iff c.args.instance.now c.args.times.now in
    (λ e. (c.if-not-are_times.ensures.0 refl, none.0 (sym same ∙ e)), λ t. same ∙ none.1 t.1)
