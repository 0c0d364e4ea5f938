use Rattle.csv.specs.Reading.{source_of, strip_bom}
use Rattle.pesp_instance.specs.Records.{delimiter_of, line_config}
use Rattle.pesp_instance.proofs.Steps.{Standing, bytes_left, rest_of}
use Rattle.pesp_instance.proofs.whole_text.read_table.Given as goal

abbrev pub invariant-lines : goal.invariant-lines
invariant-lines l = Standing l.fn.text (line_config (delimiter_of (strip_bom l.fn.text))) l.reader
    l.table.rows.items l.table.events.keys l.at l.may_be_header

abbrev pub decreases-lines : goal.decreases-lines
decreases-lines l = bytes_left (source_of rest_of l.reader)
