-- What a line or an item that is lent says, as an item with its lists.
use Rattle.std.specs.Prelude.{◌≡◌, ℕ, Bool, true, false, List, [], drop, Option, Some, None, Result, Ok, Err}
use Rattle.std.specs.Option.{option_copied}
use Rattle.pesp_problem.specs.declared.row.SignedRow.{SignedRow}
use Rattle.pesp_problem.specs.declared.pair.Pair.{Pair}
use Rattle.pesp_problem.specs.declared.marked.MarkedRow.{MarkedRow}
use Rattle.pesp_stream.specs.Words.{words_of, pieces_left}
use Rattle.pesp_cert_lines.specs.declared.item.Item.{Item}
use Rattle.pesp_cert_lines.specs.declared.item.Item.TheVariants as items
use Rattle.pesp_cert_lines.specs.Rows.{rows_of, rows_left, rows_are_good}
use Rattle.pesp_cert_lines.specs.Pairs.{pairs_from, pairs_left, pairs_are_good}
use Rattle.pesp_cert_lines.specs.Marked.{marked_of, marked_left, marked_are_good}
use Rattle.pesp_cert_items.specs.declared.fault.ItemFault.{ItemFault}
use Rattle.pesp_cert_items.specs.declared.rows.SignedRows.{SignedRows}
use Rattle.pesp_cert_items.specs.declared.pairs.LinePairs.{LinePairs}
use Rattle.pesp_cert_items.specs.declared.marked.MarkedRows.{MarkedRows}
use Rattle.pesp_cert_items.specs.declared.item.Item.{Item as LentItem}
use Rattle.pesp_cert_items.specs.declared.item.Item.TheVariants as lent
use Rattle.pesp_cert_items.specs.declared.text_line.TextLine.{TextLine}
use Rattle.pesp_cert_items.specs.declared.text_line.TextLine.TheVariants.{Front, Scale, Walk, Lemma, Least, Own}

-- the rows that are left in the line
abbrev pub rows_in : SignedRows → List SignedRow
rows_in r = rows_left (rows_of (pieces_left 32 (option_copied r.words)))

-- the pairs that are left in the line
abbrev pub pairs_left_in : LinePairs → List Pair
pairs_left_in p = pairs_left (pairs_from p.least (pieces_left 32 (option_copied p.words)))

-- the marked rows that are left in the line
abbrev pub marked_in : MarkedRows → List MarkedRow
marked_in r = marked_left (marked_of (pieces_left 32 (option_copied r.words)))

-- the item with its list
abbrev pub listed : LentItem → Item
listed (lent.Version n) = items.Version n
listed (lent.Period n) = items.Period n
listed (lent.Answer a) = items.Answer a
listed (lent.Time label time) = items.Time label time
listed (lent.Cycle rows) = items.Cycle (rows_in rows)
listed (lent.Slack row k) = items.Slack row k
listed (lent.Offset cycle k) = items.Offset cycle k
listed (lent.Bound pairs) = items.Bound (pairs_left_in pairs)
listed (lent.Nothing pairs) = items.Nothing (pairs_left_in pairs)
listed (lent.Gap cycle) = items.Gap cycle
listed lent.Propagated = items.Propagated

-- the item without the elements of its list
abbrev pub bare : Item → Item
bare (items.Walk walk) = items.Walk []
bare (items.Lemma pairs) = items.Lemma []
bare (items.Cycle rows) = items.Cycle []
bare (items.Bound pairs) = items.Bound []
bare (items.Nothing pairs) = items.Nothing []
bare item = item

-- the item whose list the words behind a line's first spell
abbrev pub read_back : LentItem → List ℕ → Item
read_back (lent.Cycle rows) line = items.Cycle (rows_left (rows_of (drop 1 (words_of line))))
read_back (lent.Bound pairs) line = items.Bound (pairs_left (pairs_from 0 (drop 1 (words_of line))))
read_back (lent.Nothing pairs) line = items.Nothing (pairs_left (pairs_from 0 (drop 1 (words_of line))))
read_back said line = listed said

-- these words spell its list
abbrev pub IsSpelt : LentItem → List ℕ → Type 0
IsSpelt (lent.Cycle rows) line = rows_are_good (rows_of (drop 1 (words_of line))) ≡ true
IsSpelt (lent.Bound pairs) line = pairs_are_good (pairs_from 0 (drop 1 (words_of line))) ≡ true
IsSpelt (lent.Nothing pairs) line = pairs_are_good (pairs_from 0 (drop 1 (words_of line))) ≡ true
IsSpelt said line = Unit {0}

-- what a call of a reader of items answers
abbrev pub said_by : Result (Option LentItem) ItemFault → Result (Option Item) ItemFault
said_by (Ok None) = Ok None
said_by (Ok (Some item)) = Ok (Some (listed item))
said_by (Err fault) = Err fault

-- ---- a line of a front, or an item

-- the line's item with its list
abbrev pub item_said : TextLine → Item
item_said Front = items.Front
item_said (Scale n) = items.Scale n
item_said (Walk walk) = items.Walk (marked_in walk)
item_said (Lemma pairs) = items.Lemma (pairs_left_in pairs)
item_said (Least n) = items.Least n
item_said (Own item) = listed item

-- it is no line of a front
abbrev pub is_own : TextLine → Bool
is_own (Own item) = true
is_own _ = false

-- the item whose list the words behind the line's first spell
abbrev pub line_back : TextLine → List ℕ → Item
line_back Front line = items.Front
line_back (Scale n) line = items.Scale n
line_back (Walk walk) line = items.Walk (marked_left (marked_of (drop 1 (words_of line))))
line_back (Lemma pairs) line = items.Lemma (pairs_left (pairs_from 0 (drop 1 (words_of line))))
line_back (Least n) line = items.Least n
line_back (Own item) line = read_back item line

-- these words spell its list
abbrev pub IsLineSpelt : TextLine → List ℕ → Type 0
IsLineSpelt (Walk walk) line = marked_are_good (marked_of (drop 1 (words_of line))) ≡ true
IsLineSpelt (Lemma pairs) line = pairs_are_good (pairs_from 0 (drop 1 (words_of line))) ≡ true
IsLineSpelt (Own item) line = IsSpelt item line
IsLineSpelt said line = Unit {0}

-- what a call of a reader of lines answers
abbrev pub told_by : Result (Option TextLine) ItemFault → Result (Option Item) ItemFault
told_by (Ok None) = Ok None
told_by (Ok (Some line)) = Ok (Some (item_said line))
told_by (Err fault) = Err fault
