-- What one line of a certificate says, how it is spelt, and how it is read.
use Rattle.std.specs.Prelude.{◌≡◌, ℕ, ◌<◌, ◌%◌, Bool, true, false, ◌&&◌, ◌==◌, nat_le, if◌then◌else◌, nat_abs, Option, Some, None, IfSome, Result, Ok, Err, List, [], ◌∷◌, ◌++◌, length, codes, decimal}
use Rattle.std.specs.Option.{option_map}
use Rattle.std.specs.Str.{bytes_eq}
use Rattle.std.specs.Fmt.{signed_decimal}
use Rattle.pesp_problem.specs.declared.limits.TheConstants.{MOST_LABEL, MOST_OFFSET, MOST_PERIOD, MOST_SCALE, MOST_SLACK, MOST_TIME}
use Rattle.pesp_truth.specs.declared.answer.Answer.{Answer}
use Rattle.pesp_truth.specs.declared.answer.Answer.TheVariants as answers
use Rattle.pesp_stream.specs.Number.{NATURALS, natural_of, whole_of}
use Rattle.pesp_stream.specs.Words.{line_of_words}
use Rattle.pesp_cert_lines.specs.declared.kind.Kind.{Kind}
use Rattle.pesp_cert_lines.specs.declared.kind.Kind.TheVariants as kinds
use Rattle.pesp_cert_lines.specs.declared.item.Item.{Item}
use Rattle.pesp_cert_lines.specs.declared.item.Item.TheVariants.{Front, Scale, Walk, Lemma, Least, Version, Period, Answer as Says, Time, Cycle, Slack, Offset, Bound, Nothing, Gap, Propagated, End}
use Rattle.pesp_cert_lines.specs.declared.fault.LineFault.{LineFault}
use Rattle.pesp_cert_lines.specs.declared.fault.LineFault.TheVariants as faults
use Rattle.pesp_cert_lines.specs.Rows.{is_name, rows_are_named, row_words, rows_of, both}
use Rattle.pesp_cert_lines.specs.Marked.{are_named, marked_words, marked_of}
use Rattle.pesp_cert_lines.specs.Pairs.{pair_words, pairs_from, all_within, rise_from}

-- ---- the spelling

-- a cost, or `none` where there is none
abbrev pub cost_word : Option ℕ → List ℕ
cost_word None = codes "none"
cost_word (Some c) = decimal c

-- the words behind `answer`
abbrev pub answer_words : Answer → List (List ℕ)
answer_words (answers.Optimal c) = codes "optimal" ∷ decimal c ∷ []
answer_words answers.Infeasible = codes "infeasible" ∷ []
answer_words (answers.Bounded least cost) = codes "open" ∷ decimal least ∷ cost_word cost ∷ []

-- the words of an item's line
abbrev pub item_words : Item → List (List ℕ)
item_words Front = codes "pesp-certificate" ∷ codes "3" ∷ []
item_words (Scale n) = codes "scale" ∷ decimal n ∷ []
item_words (Walk walk) = codes "walk" ∷ marked_words walk
item_words (Lemma ps) = codes "lemma" ∷ pair_words ps
item_words (Least n) = codes "least" ∷ signed_decimal n ∷ []
item_words (Version n) = codes "pesp-certificate" ∷ decimal n ∷ []
item_words (Period n) = codes "period" ∷ decimal n ∷ []
item_words (Says a) = codes "answer" ∷ answer_words a
item_words (Time label time) = codes "time" ∷ signed_decimal label ∷ decimal time ∷ []
item_words (Cycle rows) = codes "cycle" ∷ row_words rows
item_words (Slack row k) = codes "s" ∷ decimal row ∷ decimal k ∷ []
item_words (Offset cycle k) = codes "o" ∷ decimal cycle ∷ signed_decimal k ∷ []
item_words (Bound ps) = codes "b" ∷ pair_words ps
item_words (Nothing ps) = codes "n" ∷ pair_words ps
item_words (Gap cycle) = codes "g" ∷ decimal cycle ∷ []
item_words Propagated = codes "p" ∷ []
item_words End = codes "end" ∷ []

-- the line, with its LF
abbrev pub item_line : Item → List ℕ
item_line item = line_of_words (item_words item) ++ 10 ∷ []

-- ---- what a line can say

-- the bound and the cost of an answer have at most 18 digits
abbrev pub HasProperCosts : Answer → Type 0
HasProperCosts (answers.Optimal c) = c < NATURALS
HasProperCosts answers.Infeasible = Unit {0}
HasProperCosts (answers.Bounded least cost) = (least < NATURALS) × IfSome cost (λ c. c < NATURALS)

-- what has a spelling, but for the limits of its numbers
abbrev pub IsProper : Item → Type 0
IsProper (Says a) = HasProperCosts a
IsProper (Walk walk) = 0 < length walk
IsProper (Lemma ps) = rise_from 0 ps ≡ true
IsProper (Least n) = nat_abs n < NATURALS
IsProper (Cycle rows) = 0 < length rows
IsProper (Bound ps) = rise_from 0 ps ≡ true
IsProper (Nothing ps) = rise_from 0 ps ≡ true
IsProper _ = Unit {0}

-- the limits of its numbers
abbrev pub is_item_within : Item → Bool
is_item_within Front = true
is_item_within (Scale n) = nat_le 1 n && nat_le n MOST_SCALE
is_item_within (Walk walk) = are_named walk
is_item_within (Lemma ps) = all_within ps
is_item_within (Least n) = true
is_item_within (Version n) = nat_le 1 n && nat_le n 2
is_item_within (Period n) = nat_le 1 n && nat_le n MOST_PERIOD
is_item_within (Says a) = true
is_item_within (Time label time) = nat_le (nat_abs label) MOST_LABEL && nat_le time MOST_TIME
is_item_within (Cycle rows) = rows_are_named rows
is_item_within (Slack row k) = is_name row && nat_le k MOST_SLACK
is_item_within (Offset cycle k) = is_name cycle && nat_le (nat_abs k) MOST_OFFSET
is_item_within (Bound ps) = all_within ps
is_item_within (Nothing ps) = all_within ps
is_item_within (Gap cycle) = is_name cycle
is_item_within Propagated = true
is_item_within End = true

-- ---- reading, in three passes: the form, the numbers, the limits

-- the kind of line that begins with this word
unfoldable pub kind_of : List ℕ → Option Kind
kind_of w = if bytes_eq w (codes "s") then Some kinds.Slack else
    if bytes_eq w (codes "o") then Some kinds.Offset else
    if bytes_eq w (codes "b") then Some kinds.Bound else
    if bytes_eq w (codes "n") then Some kinds.Nothing else
    if bytes_eq w (codes "g") then Some kinds.Gap else
    if bytes_eq w (codes "p") then Some kinds.Propagated else
    if bytes_eq w (codes "time") then Some kinds.Time else
    if bytes_eq w (codes "cycle") then Some kinds.Cycle else
    if bytes_eq w (codes "period") then Some kinds.Period else
    if bytes_eq w (codes "answer") then Some kinds.Answer else
    if bytes_eq w (codes "pesp-certificate") then Some kinds.Version else
    if bytes_eq w (codes "end") then Some kinds.End else
    if bytes_eq w (codes "walk") then Some kinds.Walk else
    if bytes_eq w (codes "scale") then Some kinds.Scale else
    if bytes_eq w (codes "lemma") then Some kinds.Lemma else
    if bytes_eq w (codes "least") then Some kinds.Least else None

-- whether so many words may stand behind `answer`, by the first of them
unfoldable pub is_answer_form : List (List ℕ) → Bool
is_answer_form [] = false
is_answer_form (w ∷ ws) = if bytes_eq w (codes "optimal") then length ws == 1 else
    if bytes_eq w (codes "infeasible") then length ws == 0 else
    if bytes_eq w (codes "open") then length ws == 2 else false

-- whether the words behind the first have the form of its kind
abbrev pub is_form : Kind → List (List ℕ) → Bool
is_form kinds.Front ws = false
is_form kinds.Scale ws = length ws == 1
is_form kinds.Walk ws = nat_le 1 (length ws)
is_form kinds.Lemma ws = length ws % 2 == 0
is_form kinds.Least ws = length ws == 1
is_form kinds.Version ws = length ws == 1
is_form kinds.Period ws = length ws == 1
is_form kinds.Answer ws = is_answer_form ws
is_form kinds.Time ws = length ws == 2
is_form kinds.Cycle ws = nat_le 1 (length ws)
is_form kinds.Slack ws = length ws == 2
is_form kinds.Offset ws = length ws == 2
is_form kinds.Bound ws = length ws % 2 == 0
is_form kinds.Nothing ws = length ws % 2 == 0
is_form kinds.Gap ws = length ws == 1
is_form kinds.Propagated ws = length ws == 0
is_form kinds.End ws = length ws == 0

-- the cost that a word spells, or that there is none where it is `none`
unfoldable pub spelt_cost : List ℕ → Option (Option ℕ)
spelt_cost w = if bytes_eq w (codes "none") then Some None else option_map Some (natural_of w)

-- the answer by the words behind `optimal`: a cost
abbrev pub optimal_of : List (List ℕ) → Option Answer
optimal_of [] = None
optimal_of (c ∷ cs) = option_map answers.Optimal (natural_of c)

-- the answer by the words behind `open`: a bound, and a cost or `none`
abbrev pub open_of : List (List ℕ) → Option Answer
open_of [] = None
open_of (l ∷ []) = None
open_of (l ∷ c ∷ cs) = both answers.Bounded (natural_of l) (spelt_cost c)

-- the answer that the words behind `answer` spell, where they have its form
unfoldable pub answer_from_words : List (List ℕ) → Option Answer
answer_from_words [] = None
answer_from_words (w ∷ ws) = if bytes_eq w (codes "optimal") then optimal_of ws else
    if bytes_eq w (codes "infeasible") then Some answers.Infeasible else open_of ws

-- what one word or two say
abbrev pub one : {A : Type 0} → (List ℕ → Option A) → List (List ℕ) → Option A
one f [] = None
one f (w ∷ ws) = f w

-- the function of what the first two words say
abbrev pub two : {A B C : Type 0} → (A → B → C) → (List ℕ → Option A) → (List ℕ → Option B) → List (List ℕ) → Option C
two h f g [] = None
two h f g (v ∷ []) = None
two h f g (v ∷ w ∷ ws) = both h (f v) (g w)

-- what the words behind the first say, where they have the form of their kind
unfoldable pub item_of : Kind → List (List ℕ) → Option Item
item_of kinds.Front ws = None
item_of kinds.Scale ws = option_map Scale (one natural_of ws)
item_of kinds.Walk ws = option_map Walk (marked_of ws)
item_of kinds.Lemma ws = option_map Lemma (pairs_from 0 ws)
item_of kinds.Least ws = option_map Least (one whole_of ws)
item_of kinds.Version ws = option_map Version (one natural_of ws)
item_of kinds.Period ws = option_map Period (one natural_of ws)
item_of kinds.Answer ws = option_map Says (answer_from_words ws)
item_of kinds.Time ws = two Time whole_of natural_of ws
item_of kinds.Cycle ws = option_map Cycle (rows_of ws)
item_of kinds.Slack ws = two Slack natural_of natural_of ws
item_of kinds.Offset ws = two Offset natural_of whole_of ws
item_of kinds.Bound ws = option_map Bound (pairs_from 0 ws)
item_of kinds.Nothing ws = option_map Nothing (pairs_from 0 ws)
item_of kinds.Gap ws = option_map Gap (one natural_of ws)
item_of kinds.Propagated ws = Some Propagated
item_of kinds.End ws = Some End

-- what the words behind the first say within the limits of numbers
abbrev pub checked : Option Item → Result Item LineFault
checked None = Err faults.Number
checked (Some item) = if is_item_within item then Ok item else Err faults.Limit
