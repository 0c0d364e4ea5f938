use Rattle.std.proofs.Common.{◌≡◌, ◌∙◌, refl, ap, ◌∷◌, ◌++◌, [], ℕ, List, map}
use Rattle.json.specs.Token.{begin_array, end_array}
use Rattle.json.specs.Json.{array}
use Rattle.json.specs.Tree.{json_tokens}
use Rattle.json.specs.Print.{print}
use Rattle.pesp_timetable.specs.Objects.{Adds, entry_object, json_items}
use Rattle.pesp_timetable.proofs.Arrays.{adds-more, array-is}
use Rattle.pesp_timetable.proofs.objects.json_of.Goals as goal

pub returns : goal.returns
returns c =
    let js = map (entry_object c.args.tolds.now) c.args.entries.now in
    let begun : Adds c.new-writer.result c.begin_array.new.self (begin_array ∷ []) = record {
      before = c.begin_array.ensures.room.0;
      tokens = c.in_ok-begin_array.ensures.ok;
    } in
    let ended : Adds c.write_entries.new.writer c.end_array.new.self (end_array ∷ []) = record {
      before = c.end_array.ensures.room.0;
      tokens = c.in_ok-end_array.ensures.ok;
    } in
    let all = adds-more _ _ _ _ _ begun (adds-more _ _ _ _ _ c.in_ok-write_entries.ensures ended) in
    let tokens : c.end_array.new.self.tokens ≡ json_tokens (array (json_items js)) = array-is _ _ js c.new-writer.ensures.tokens all in
    let before : c.end_array.new.self.before ≡ [] = all.before ∙ c.new-writer.ensures.before ∙ c.new.ensures.items in
    let text : (c.end_array.new.self.before ++ print c.end_array.new.self.tokens) ≡ print (json_tokens (array (json_items js))) =
    rw (before, tokens) refl in
    c.in_ok-push.ensures.items ∙ ap (λ (l : List ℕ). l ++ 10 ∷ []) (c.into_inner-text.ensures.items ∙ text)
