-- The line of a refusal.
use Rattle.std.specs.Prelude.{ℕ, List, ◌++◌, codes}
use Rattle.pesp_instance.specs.RefusalLines.{at_record}
use Rattle.pesp_report.specs.declared.names_refusal.NamesRefusal.{NamesRefusal}
use Rattle.pesp_report.specs.declared.names_refusal.NamesRefusal.TheVariants.{TextTooLong, FieldCount, NotANumber, NotText, Memory}

-- number, name and record of a refusal of a text of names
abbrev pub names_line : NamesRefusal → List ℕ
names_line TextTooLong = codes "1 TextTooLong"
names_line (FieldCount at) = codes "2 FieldCount" ++ at_record at
names_line (NotANumber at) = codes "3 NotANumber" ++ at_record at
names_line (NotText at) = codes "4 NotText" ++ at_record at
names_line Memory = codes "5 Memory"
