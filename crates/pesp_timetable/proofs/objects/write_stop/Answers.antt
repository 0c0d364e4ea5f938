use Rattle.std.proofs.lemmas.Result.{on_ok_weaker}
use Rattle.pesp_timetable.proofs.Arrays.{adds-more}
use Rattle.pesp_timetable.proofs.objects.write_stop.Goals as goal

pub returns : goal.returns
returns c =
    let way = rw c.from.ensures at c.in_ok-write_number.ensures in
    let line = rw c.line_of.ensures at c.in_ok-write_text.ensures in
    let direction = rw c.direction_of.ensures at c.in_ok-write_text-2.ensures in
    let stop = rw c.from-2.ensures at c.in_ok-write_number-2.ensures in
    let station = rw c.station_of.ensures at c.in_ok-write_text-3.ensures in
    let kind = rw c.kind_of.ensures at c.write_text-4.ensures in
    let first = adds-more _ _ _ _ _ (adds-more _ _ _ _ _ way line) direction in
    let told = adds-more _ _ _ _ _ (adds-more _ _ _ _ _ first stop) station in
    on_ok_weaker c.write_text-4.result (λ w. adds-more _ _ _ _ _ told w) kind
