use Rattle.std.proofs.Common.{◌≡◌, ◌∙◌, refl, subst, ap, ◌++◌, [], ◌∷◌, ℕ, List, pos, int_lt, if◌then◌else◌}
use Rattle.std.specs.Prelude.{Some, OnOk}
use Rattle.std.specs.Fmt.{decimal, signed_decimal}
use Rattle.csv.specs.Writing.{default_writer, row_text}
use Rattle.pesp_report.specs.Naming.{name_of}
use Rattle.pesp_report.specs.Violations.{violation_fields, short_field, long_field}
use Rattle.pesp_report.specs.Written.{HasWritten}
use Rattle.pesp_report.proofs.violation_records.write_violation.Goals as goal

pub returns-in-Some : goal.returns-in-Some
returns-in-Some c =
    let v = c.args.violation.now in
    let e1 : c.counted-row.result.now ≡ decimal v.row = c.counted-row.ensures in
    let e2 : c.signed-label.result.now ≡ signed_decimal v.label = c.signed-label.ensures in
    let e3 : c.signed-tail.result.now ≡ signed_decimal v.tail = c.signed-tail.ensures in
    let e4 : c.signed-head.result.now ≡ signed_decimal v.head = c.signed-head.ensures in
    let e5 : c.signed-duration.result.now ≡ signed_decimal v.duration = c.signed-duration.ensures in
    let e6 : c.signed-lower.result.now ≡ signed_decimal v.lower = c.signed-lower.ensures in
    let e7 : c.signed-upper.result.now ≡ signed_decimal v.upper = c.signed-upper.ensures in
    let e8 : c.signed-excess.result.now ≡ signed_decimal v.excess = c.signed-excess.ensures in
    let e9 : c.short_field-short.result.now ≡ short_field v = c.short_field-short.ensures
    ∙ ap (λ (d : List ℕ). if int_lt v.excess (pos v.short) then [] else d) c.counted.ensures in
    let e10 : c.long_field-long.result.now ≡ long_field v = c.long_field-long.ensures
    ∙ ap (λ (d : List ℕ). if int_lt (pos v.short) v.excess then [] else d) e8 in
    let e11 : c.named.result.now ≡ name_of c.in-Some.names.now v.tail = c.named.ensures in
    let e12 : c.named-in-Some.result.now ≡ name_of c.in-Some.names.now v.head = c.named-in-Some.ensures in
    let same : (c.counted-row.result.now ∷ c.signed-label.result.now ∷ c.signed-tail.result.now ∷ c.signed-head.result.now
    ∷ c.signed-duration.result.now ∷ c.signed-lower.result.now ∷ c.signed-upper.result.now ∷ c.signed-excess.result.now
    ∷ c.short_field-short.result.now ∷ c.long_field-long.result.now ∷ c.named.result.now ∷ c.named-in-Some.result.now ∷ [])
    ≡ violation_fields (Some (name_of c.in-Some.names.now)) v = rw (e1, e2, e3, e4, e5, e6, e7, e8, e9, e10, e11, e12) refl in
    rw c.in-Some.is (λ before h. subst (λ (l : List (List ℕ)). OnOk c.write_fields-in-Some.result
    (HasWritten c.write_fields-in-Some.new.writer (before ++ row_text default_writer l))) same
    (c.write_fields-in-Some.ensures before h))
