-- The line of a refusal.
use Rattle.std.specs.Prelude.{ℕ, List, ◌++◌, codes, decimal}
use Rattle.pesp_instance.specs.declared.refusal.ReadRefusal.{ReadRefusal}
use Rattle.pesp_instance.specs.declared.refusal.ReadRefusal.TheVariants.{Period, TextTooLong, FieldCount, NotANumber, OutOfRange, BoundsCrossed, TooManyRows, TooManyEvents, Memory}

-- the record's number
abbrev pub at_record : ℕ → List ℕ
at_record at = codes " record " ++ decimal at

-- the record's number and the field's
abbrev pub at_field : ℕ → ℕ → List ℕ
at_field at field = codes " record " ++ decimal at ++ codes " field " ++ decimal field

-- number, name and place of a refusal of an instance's text
abbrev pub instance_line : ReadRefusal → List ℕ
instance_line Period = codes "1 Period"
instance_line TextTooLong = codes "2 TextTooLong"
instance_line (FieldCount at) = codes "3 FieldCount" ++ at_record at
instance_line (NotANumber at field) = codes "4 NotANumber" ++ at_field at field
instance_line (OutOfRange at field) = codes "5 OutOfRange" ++ at_field at field
instance_line (BoundsCrossed at) = codes "6 BoundsCrossed" ++ at_record at
instance_line (TooManyRows at) = codes "7 TooManyRows" ++ at_record at
instance_line (TooManyEvents at) = codes "8 TooManyEvents" ++ at_record at
instance_line Memory = codes "9 Memory"
