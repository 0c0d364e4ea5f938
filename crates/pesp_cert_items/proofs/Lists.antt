-- The item that a line's text and the line without its list say.
use Rattle.std.proofs.Common.{◌≡◌, ℕ, Bool, true, false, List, [], ◌∷◌, drop, Ok, Some, None, refl, sym, ap, ◌∙◌}
use Rattle.std.specs.Prelude.{codes}
use Rattle.pesp_problem.specs.declared.row.SignedRow.{SignedRow}
use Rattle.pesp_problem.specs.declared.pair.Pair.{Pair}
use Rattle.pesp_stream.specs.Words.{words_of}
use Rattle.pesp_cert_lines.specs.declared.item.Item.{Item}
use Rattle.pesp_cert_lines.specs.declared.item.Item.TheVariants.{Front, Scale, Walk, Lemma, Least, Version, Period, Answer as Says, Time, Cycle, Slack, Offset, Bound, Nothing, Gap, Propagated, End}
use Rattle.pesp_cert_lines.specs.declared.progress.Progress.{Progress}
use Rattle.pesp_cert_lines.specs.Rows.{rows_of, rows_are_named, row_words}
use Rattle.pesp_cert_lines.specs.Pairs.{pairs_from, all_within, pair_words}
use Rattle.pesp_cert_lines.specs.Marked.{marked_of, marked_words}
use Rattle.pesp_cert_lines.specs.Items.{item_words}
use Rattle.pesp_cert_lines.specs.Counts.{progress_after}
use Rattle.pesp_cert_lines.specs.Lines.{SpellsItem, line_at}
use Rattle.pesp_cert_lines.proofs.MarkedLaws.{marked_words_read}
use Rattle.pesp_cert_lines.proofs.LineLaws.{words_of-item}
use Rattle.pesp_cert_lines.proofs.WordLaws.{rows_read, pairs_read}
use Rattle.pesp_cert.specs.Texts.{is_end}
use Rattle.pesp_cert_items.specs.declared.item.Item.{Item as LentItem}
use Rattle.pesp_cert_items.specs.declared.item.Item.TheVariants as lent
use Rattle.pesp_cert_items.specs.declared.rows.SignedRows.{SignedRows}
use Rattle.pesp_cert_items.specs.declared.pairs.LinePairs.{LinePairs}
use Rattle.pesp_cert_items.specs.declared.marked.MarkedRows.{MarkedRows}
use Rattle.pesp_cert_items.specs.declared.text_line.TextLine.{TextLine}
use Rattle.pesp_cert_items.specs.declared.text_line.TextLine.TheVariants as texts
use Rattle.pesp_cert_items.specs.Plain.{in_front}
use Rattle.pesp_cert_items.specs.Lent.{rows_in, pairs_left_in, marked_in, listed, bare, read_back, IsSpelt, item_said, line_back, is_own, IsLineSpelt}
use Rattle.pesp_cert_items.specs.Readings.{IsItem}
use Rattle.pesp_cert_items.proofs.PlainLaws.{plain_item, plain_after}

-- the words behind the first
behind : (p : Progress) (item : Item) (line w : List ℕ) (ws : List (List ℕ)) → SpellsItem p line item
    → item_words item ≡ w ∷ ws → drop 1 (words_of line) ≡ ws
behind p item line w ws s words = ap (λ l. drop 1 (words_of l)) s.0
    ∙ ap (drop 1) (words_of-item item s.1.proper s.1.within) ∙ ap (drop 1) words

-- what is lent says the item
pub record IsLent (said : LentItem) (line : List ℕ) (item : Item) : Type 0 where
  pub says : read_back said line ≡ item
  pub spelt : IsSpelt said line

cycle_lent : (said : LentItem) (line : List ℕ) (xs : List SignedRow) → listed said ≡ Cycle []
    → rows_of (drop 1 (words_of line)) ≡ Some xs → rows_are_named xs ≡ true → IsLent said line (Cycle xs)
cycle_lent (lent.Cycle r) line xs h read good = record { says = rw read refl; spelt = rw read good }
cycle_lent said line xs h read good = absurd cc

bound_lent : (said : LentItem) (line : List ℕ) (xs : List Pair) → listed said ≡ Bound []
    → pairs_from 0 (drop 1 (words_of line)) ≡ Some xs → all_within xs ≡ true → IsLent said line (Bound xs)
bound_lent (lent.Bound ps) line xs h read good = record { says = rw read refl; spelt = rw read good }
bound_lent said line xs h read good = absurd cc

nothing_lent : (said : LentItem) (line : List ℕ) (xs : List Pair) → listed said ≡ Nothing []
    → pairs_from 0 (drop 1 (words_of line)) ≡ Some xs → all_within xs ≡ true → IsLent said line (Nothing xs)
nothing_lent (lent.Nothing ps) line xs h read good = record { says = rw read refl; spelt = rw read good }
nothing_lent said line xs h read good = absurd cc

-- it has a list
abbrev has_list : Item → Bool
has_list (Walk walk) = true
has_list (Lemma ps) = true
has_list (Cycle rows) = true
has_list (Bound ps) = true
has_list (Nothing ps) = true
has_list item = false

plain_lent : (said : LentItem) (line : List ℕ) (item : Item) → has_list item ≡ false → listed said ≡ item → IsLent said line item
plain_lent (lent.Period n) line item plain h = record { says = h; spelt = tt }
plain_lent (lent.Version n) line item plain h = record { says = h; spelt = tt }
plain_lent (lent.Answer a) line item plain h = record { says = h; spelt = tt }
plain_lent (lent.Time l t) line item plain h = record { says = h; spelt = tt }
plain_lent (lent.Cycle r) line item plain h = let bad : true ≡ has_list item = ap has_list h in absurd cc
plain_lent (lent.Slack row k) line item plain h = record { says = h; spelt = tt }
plain_lent (lent.Offset cycle k) line item plain h = record { says = h; spelt = tt }
plain_lent (lent.Bound ps) line item plain h = let bad : true ≡ has_list item = ap has_list h in absurd cc
plain_lent (lent.Nothing ps) line item plain h = let bad : true ≡ has_list item = ap has_list h in absurd cc
plain_lent (lent.Gap cycle) line item plain h = record { says = h; spelt = tt }
plain_lent lent.Propagated line item plain h = record { says = h; spelt = tt }

lent_back : (p : Progress) (said : LentItem) (line : List ℕ) (item : Item) → SpellsItem p line item
    → is_end item ≡ false → in_front item ≡ false → listed said ≡ bare item → IsLent said line item
lent_back p said line Front s e plain h = absurd cc
lent_back p said line (Scale n) s e plain h = absurd cc
lent_back p said line (Walk walk) s e plain h = absurd cc
lent_back p said line (Lemma ps) s e plain h = absurd cc
lent_back p said line (Least n) s e plain h = absurd cc
lent_back p said line (Period n) s e plain h = plain_lent said line (Period n) refl h
lent_back p said line (Version n) s e plain h = plain_lent said line (Version n) refl h
lent_back p said line (Says a) s e plain h = plain_lent said line (Says a) refl h
lent_back p said line (Time l t) s e plain h = plain_lent said line (Time l t) refl h
lent_back p said line (Cycle rows) s e plain h = cycle_lent said line rows h
    (ap rows_of (behind p (Cycle rows) line (codes "cycle") (row_words rows) s refl) ∙ rows_read rows s.1.within)
    s.1.within
lent_back p said line (Slack row k) s e plain h = plain_lent said line (Slack row k) refl h
lent_back p said line (Offset cycle k) s e plain h = plain_lent said line (Offset cycle k) refl h
lent_back p said line (Bound ps) s e plain h = bound_lent said line ps h
    (ap (pairs_from 0) (behind p (Bound ps) line (codes "b") (pair_words ps) s refl)
    ∙ pairs_read 0 ps s.1.proper s.1.within) s.1.within
lent_back p said line (Nothing ps) s e plain h = nothing_lent said line ps h
    (ap (pairs_from 0) (behind p (Nothing ps) line (codes "n") (pair_words ps) s refl)
    ∙ pairs_read 0 ps s.1.proper s.1.within) s.1.within
lent_back p said line (Gap cycle) s e plain h = plain_lent said line (Gap cycle) refl h
lent_back p said line Propagated s e plain h = plain_lent said line Propagated refl h
lent_back p said line End s e plain h = absurd cc

-- ---- a line of a front, or an item

bare_list : (item : Item) → has_list (bare item) ≡ has_list item
bare_list Front = refl
bare_list (Scale n) = refl
bare_list (Walk walk) = refl
bare_list (Lemma ps) = refl
bare_list (Least n) = refl
bare_list (Version n) = refl
bare_list (Period n) = refl
bare_list (Says a) = refl
bare_list (Time l t) = refl
bare_list (Cycle rows) = refl
bare_list (Slack row k) = refl
bare_list (Offset cycle k) = refl
bare_list (Bound ps) = refl
bare_list (Nothing ps) = refl
bare_list (Gap cycle) = refl
bare_list Propagated = refl
bare_list End = refl

bare_front : (item : Item) → in_front (bare item) ≡ in_front item
bare_front Front = refl
bare_front (Scale n) = refl
bare_front (Walk walk) = refl
bare_front (Lemma ps) = refl
bare_front (Least n) = refl
bare_front (Version n) = refl
bare_front (Period n) = refl
bare_front (Says a) = refl
bare_front (Time l t) = refl
bare_front (Cycle rows) = refl
bare_front (Slack row k) = refl
bare_front (Offset cycle k) = refl
bare_front (Bound ps) = refl
bare_front (Nothing ps) = refl
bare_front (Gap cycle) = refl
bare_front Propagated = refl
bare_front End = refl

bare_is : (item : Item) → has_list item ≡ false → bare item ≡ item
bare_is Front h = refl
bare_is (Scale n) h = refl
bare_is (Walk walk) h = absurd cc
bare_is (Lemma ps) h = absurd cc
bare_is (Least n) h = refl
bare_is (Version n) h = refl
bare_is (Period n) h = refl
bare_is (Says a) h = refl
bare_is (Time l t) h = refl
bare_is (Cycle rows) h = absurd cc
bare_is (Slack row k) h = refl
bare_is (Offset cycle k) h = refl
bare_is (Bound ps) h = absurd cc
bare_is (Nothing ps) h = absurd cc
bare_is (Gap cycle) h = refl
bare_is Propagated h = refl
bare_is End h = refl

own_item : (item : LentItem) → in_front (listed item) ≡ false
own_item (lent.Period n) = refl
own_item (lent.Version n) = refl
own_item (lent.Answer a) = refl
own_item (lent.Time l t) = refl
own_item (lent.Cycle r) = refl
own_item (lent.Slack row k) = refl
own_item (lent.Offset cycle k) = refl
own_item (lent.Bound ps) = refl
own_item (lent.Nothing ps) = refl
own_item (lent.Gap cycle) = refl
own_item lent.Propagated = refl

-- a line that isn't a front's is an item's
own_of : (said : TextLine) (item : Item) → in_front item ≡ false → item_said said ≡ bare item → is_own said ≡ true
own_of texts.Front item h e = let bad : true ≡ in_front item = ap in_front e ∙ bare_front item in absurd cc
own_of (texts.Scale n) item h e = let bad : true ≡ in_front item = ap in_front e ∙ bare_front item in absurd cc
own_of (texts.Walk walk) item h e = let bad : true ≡ in_front item = ap in_front e ∙ bare_front item in absurd cc
own_of (texts.Lemma ps) item h e = let bad : true ≡ in_front item = ap in_front e ∙ bare_front item in absurd cc
own_of (texts.Least n) item h e = let bad : true ≡ in_front item = ap in_front e ∙ bare_front item in absurd cc
own_of (texts.Own own) item h e = refl

-- what is kept of a line says its item
record IsKeptLine (said : TextLine) (line : List ℕ) (item : Item) : Type 0 where
  pub says : line_back said line ≡ item
  pub spelt : IsLineSpelt said line

walk_kept : (p : Progress) (walk : MarkedRows) (line : List ℕ) (item : Item) → SpellsItem p line item
    → Walk (marked_in walk) ≡ bare item → IsKeptLine (texts.Walk walk) line item
walk_kept p walk line (Walk rows) s h =
    let read : marked_of (drop 1 (words_of line)) ≡ Some rows =
    ap marked_of (behind p (Walk rows) line (codes "walk") (marked_words rows) s refl) ∙ marked_words_read rows s.1.within in
    record { says = rw read refl; spelt = rw read s.1.within }
walk_kept p walk line item s h = absurd cc

lemma_kept : (p : Progress) (pairs : LinePairs) (line : List ℕ) (item : Item) → SpellsItem p line item
    → Lemma (pairs_left_in pairs) ≡ bare item → IsKeptLine (texts.Lemma pairs) line item
lemma_kept p pairs line (Lemma ps) s h =
    let read : pairs_from 0 (drop 1 (words_of line)) ≡ Some ps =
    ap (pairs_from 0) (behind p (Lemma ps) line (codes "lemma") (pair_words ps) s refl) ∙ pairs_read 0 ps s.1.proper s.1.within in
    record { says = rw read refl; spelt = rw read s.1.within }
lemma_kept p pairs line item s h = absurd cc

line_kept : (p : Progress) (said : TextLine) (line : List ℕ) (item : Item) → SpellsItem p line item
    → is_end item ≡ false → item_said said ≡ bare item → IsKeptLine said line item
line_kept p texts.Front line item s e h =
    let plain : has_list item ≡ false = sym (bare_list item) ∙ ap has_list (sym h) in
    record { says = h ∙ bare_is item plain; spelt = tt }
line_kept p (texts.Scale n) line item s e h =
    let plain : has_list item ≡ false = sym (bare_list item) ∙ ap has_list (sym h) in
    record { says = h ∙ bare_is item plain; spelt = tt }
line_kept p (texts.Walk walk) line item s e h = walk_kept p walk line item s h
line_kept p (texts.Lemma pairs) line item s e h = lemma_kept p pairs line item s h
line_kept p (texts.Least n) line item s e h =
    let plain : has_list item ≡ false = sym (bare_list item) ∙ ap has_list (sym h) in
    record { says = h ∙ bare_is item plain; spelt = tt }
line_kept p (texts.Own own) line item s e h =
    let plain : in_front item ≡ false = sym (bare_front item) ∙ ap in_front (sym h) ∙ own_item own in
    let kept = lent_back p own line item s e plain h in
    record { says = kept.says; spelt = kept.spelt }

pub is_item : (p q : Progress) (said : TextLine) (line : List ℕ) (item : Item) → line_at p line ≡ Ok item → SpellsItem p line item
    → q ≡ progress_after p item → is_end item ≡ false → item_said said ≡ bare item → IsItem p q line said item
is_item p q said line item says s goes e h =
    let kept = line_kept p said line item s e h in
    record {
      says = says;
      more = e;
      goes = goes;
      can = s.1;
      kept = kept.says;
      spelt = kept.spelt;
      plain = λ plain. (plain_after p q item plain s.1 goes, own_of said item (plain_item p item plain s.1) h);
    }

-- ---- the end of a list

pub no_rows : (r : SignedRows) → r.words ≡ None → rows_in r ≡ []
unfolding rows_of
no_rows r e = rw e refl

pub no_pairs : (p : LinePairs) → p.words ≡ None → pairs_left_in p ≡ []
unfolding pairs_from
no_pairs p e = rw e refl

pub no_marked : (r : MarkedRows) → r.words ≡ None → marked_in r ≡ []
unfolding marked_of
no_marked r e = rw e refl
