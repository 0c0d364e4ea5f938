use Rattle.std.proofs.lemmas.Result.{on_ok_weaker}
use Rattle.pesp_timetable.proofs.Arrays.{adds-more}
use Rattle.pesp_timetable.proofs.objects.write_time.Goals as goal

pub returns : goal.returns
returns c =
    let name = rw c.name_of.ensures at c.in_ok-write_text.ensures in
    let time = rw c.from.ensures at c.in_ok-write_number.ensures in
    let changes = rw c.changes_of.ensures at c.write_text-3.ensures in
    let first = adds-more _ _ _ _ _ (adds-more _ _ _ _ _ c.in_ok-write_signed.ensures name) time in
    let told = adds-more _ _ _ _ _ first c.in_ok-write_text-2.ensures in
    on_ok_weaker c.write_text-3.result (λ w. adds-more _ _ _ _ _ told w) changes
