use Rattle.std.proofs.Common.{◌≡◌, ◌∙◌, ap, get_or, []}
use Rattle.csv.specs.Records.{fields_of}
use Rattle.pesp_instance.specs.Number.{all_blank}
use Rattle.pesp_instance.proofs.Fields.{field-there}
use Rattle.pesp_instance.proofs.activity.is_blank_at.Goals as goal

pub returns-in-Some : goal.returns-in-Some
returns-in-Some c =
    let e = field-there (fields_of c.args.line.now) c.args.index c.requires in
    let v = c.in-Some.ensures.value in
    let w : c.in-Some.field.now ≡ get_or (fields_of c.args.line.now) c.args.index [] = cc (e, v) in
    c.is_all_blank.ensures ∙ ap all_blank w

pub returns-in-None : goal.returns-in-None
returns-in-None c =
    let e = field-there (fields_of c.args.line.now) c.args.index c.requires in
    let v = c.in-None.ensures.value in
    cc (e, v)
