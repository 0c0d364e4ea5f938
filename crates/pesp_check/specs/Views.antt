-- A judge as what it keeps.
use Rattle.pesp_check.specs.declared.judge.Judge.{Judge}
use Rattle.std.specs.Prelude.{option_map}
use Rattle.pesp_judges.specs.Showing.{kept_of_lemma as kept_lemma}
use Rattle.pesp_check.specs.Judging.{Kept}

-- what a judge keeps of the items that came
abbrev pub kept : Judge → Kept
kept j = record { line = j.line; draft = j.draft; facts = j.facts.items; lemma = option_map kept_lemma j.lemma; front = j.front; period = j.period; answer = j.answer; times = j.times.items; table = j.table.items; walk = j.walk }
