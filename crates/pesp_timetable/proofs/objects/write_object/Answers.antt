use Rattle.std.proofs.Common.{◌∷◌, []}
use Rattle.std.proofs.lemmas.Result.{on_ok_weaker}
use Rattle.json.specs.Token.{begin_object, end_object}
use Rattle.pesp_timetable.specs.Objects.{Adds}
use Rattle.pesp_timetable.proofs.Arrays.{adds-more}
use Rattle.pesp_timetable.proofs.objects.write_object.Goals as goal

pub returns : goal.returns
returns c =
    let begun : Adds c.args.writer.now c.begin_object.new.self (begin_object ∷ []) = record {
      before = c.begin_object.ensures.room.0;
      tokens = c.in_ok-begin_object.ensures.ok;
    } in
    let told = adds-more _ _ _ _ _ (adds-more _ _ _ _ _ begun c.in_ok-write_stop.ensures) c.in_ok-write_time.ensures in
    on_ok_weaker c.end_object.result (λ tokens. adds-more _ _ _ _ (end_object ∷ []) told (record { before = c.end_object.ensures.room.0; tokens = tokens }))
    c.end_object.ensures.ok
