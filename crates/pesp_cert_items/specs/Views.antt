-- A reader of items as a place in its text.
use Rattle.std.specs.Prelude.{ℕ, ◌+◌, List, Option}
use Rattle.pesp_cert_items.specs.declared.item_reader.ItemReader.{ItemReader}
use Rattle.pesp_cert_items.specs.Readings.{Reading}

-- where a reader of items stands in its text, by the bytes that its device tells
abbrev pub reading : Option (List ℕ) → ItemReader → Reading
reading told r = record { told = told; left = r.lines.left; held = r.lines.chunk; n = r.n; progress = r.progress; stage = r.stage }

-- the same behind one more line
abbrev pub reading_line : Option (List ℕ) → ItemReader → Reading
reading_line told r = record { told = told; left = r.lines.left; held = r.lines.chunk; n = r.n + 1; progress = r.progress; stage = r.stage }
