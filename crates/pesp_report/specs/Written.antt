-- What a writer of records has written into memory, between two records.
use Rattle.std.specs.Prelude.{◌≡◌, false, ℕ, List, Some}
use Rattle.std.specs.Global.{Vec}
use Rattle.csv.specs.Writing.{default_writer, fields_written, has_written, text_written, writer_setup}
use Rattle.csv.specs.declared.writer.Writer.{Writer}

-- a writer with csv's defaults has written these bytes, and a new record may begin
pub record HasWritten (writer : Writer (Vec ℕ)) (bytes : List ℕ) : Type 0 where
  pub text : text_written (λ v. Some v.items) writer ≡ Some bytes
  pub setup : writer_setup writer ≡ default_writer
  pub fields : fields_written writer ≡ 0
  pub clean : has_written writer ≡ false
