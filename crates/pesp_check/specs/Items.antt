-- Items by their place in a text, and their limits.
use Rattle.std.specs.Prelude.{◌≡◌, ◌≤◌, List, [], ◌∷◌, length, Bool, true, false, unsigned_abs}
use Rattle.pesp_problem.specs.declared.limits.TheConstants.{MOST_OFFSET, MOST_SIGNED_ROWS, MOST_SLACK}
use Rattle.pesp_cert_lines.specs.declared.item.Item.{Item}
use Rattle.pesp_cert_lines.specs.declared.item.Item.TheVariants.{Front, Scale, Walk, Lemma, Least, Version, Period, Answer as Says, Time, Cycle, Slack, Offset, Bound, Nothing, Gap, Propagated}
use Rattle.pesp_cert_items.specs.declared.text_line.TextLine.{TextLine}
use Rattle.pesp_cert_items.specs.declared.text_line.TextLine.TheVariants as texts
use Rattle.pesp_leaves.specs.Flows.{ArePairLimits}
use Rattle.pesp_truth.specs.Limits.{weights_keep_limits}

-- it comes behind the times
abbrev pub is_later : Item → Bool
is_later Front = false
is_later (Scale n) = false
is_later (Walk walk) = false
is_later (Lemma ps) = false
is_later (Least n) = false
is_later (Version n) = false
is_later (Period n) = false
is_later (Says a) = false
is_later (Time label time) = false
is_later _ = true

-- the line is one of the front itself
abbrev pub is_mark : TextLine → Bool
is_mark texts.Front = true
is_mark (texts.Scale n) = true
is_mark (texts.Walk walk) = true
is_mark (texts.Least n) = true
is_mark (texts.Lemma ps) = false
is_mark (texts.Own item) = false

-- it is a line of the tree
abbrev pub is_line : Item → Bool
is_line (Slack row k) = true
is_line (Offset cycle k) = true
is_line (Bound ps) = true
is_line (Nothing ps) = true
is_line (Gap cycle) = true
is_line Propagated = true
is_line _ = false

-- it is not the answer
abbrev pub says_no_answer : Item → Bool
says_no_answer (Says a) = false
says_no_answer _ = true

-- it stands behind a lemma that is whole: the next one begins, or the certificate's own lines do
abbrev pub ends_lemma : Item → Bool
ends_lemma (Lemma ps) = true
ends_lemma (Version n) = true
ends_lemma _ = false

-- what stands behind a lemma begins the next one, or the certificate's own lines
abbrev pub begins_part : List Item → Bool
begins_part [] = false
begins_part (item ∷ items) = ends_lemma item

-- the first of the items comes behind the times
abbrev pub begins_later : List Item → Bool
begins_later [] = false
begins_later (item ∷ items) = is_later item

-- the first of the items is a line of the tree
abbrev pub begins_tree : List Item → Bool
begins_tree [] = false
begins_tree (item ∷ items) = is_line item

-- what the limits of a text say of one item
abbrev pub KeepsItemLimits : Item → Type 0
KeepsItemLimits (Lemma ps) = weights_keep_limits ps ≡ true
KeepsItemLimits (Cycle rows) = length rows ≤ MOST_SIGNED_ROWS
KeepsItemLimits (Slack row k) = k ≤ MOST_SLACK
KeepsItemLimits (Offset cycle k) = unsigned_abs k ≤ MOST_OFFSET
KeepsItemLimits (Bound ps) = ArePairLimits ps
KeepsItemLimits (Nothing ps) = ArePairLimits ps
KeepsItemLimits _ = Unit {0}
