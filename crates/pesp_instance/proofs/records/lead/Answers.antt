use Rattle.std.proofs.Common.{◌∙◌, sym}
use Rattle.csv.specs.Records.{fields_of}
use Rattle.pesp_instance.proofs.Leads.{lead-none, lead-some}
use Rattle.pesp_instance.proofs.records.lead.Goals as goal

pub returns-in-None : goal.returns-in-None
returns-in-None c = sym (lead-none (fields_of c.args.line.now) (sym c.in-None.ensures.value))

pub returns-in-Some : goal.returns-in-Some
returns-in-Some c =
    let e = lead-some (fields_of c.args.line.now) c.in-Some.field.now (sym c.in-Some.ensures.value) in
    let s = c.skip_blanks.ensures in
    let v = c.first.ensures.value in
    let k = c.copied.ensures in
    k ∙ v ∙ rw s (sym e)
