-- What the items of a certificate's text that came say of the certificate, while others are still to come.
use Rattle.std.specs.Prelude.{◌≡◌, ◌⊎◌, ℕ, ◌+◌, ◌<◌, ◌≤◌, Bool, true, false, List, [], ◌∷◌, ◌++◌, length, map, take, drop, get_or, if◌then◌else◌, option_map, ℤ, Option, Some, None, All, IfSome}
use Rattle.std.specs.List.{flat_map, list_all, sum_by}
use Rattle.pesp_problem.specs.Timetables.{Pesp}
use Rattle.pesp_problem.specs.Arcs.{arcs_of, net_of}
use Rattle.pesp_problem.specs.Walks.{IsWalk}
use Rattle.pesp_problem.specs.Nodes.{Node, root, cycle_at}
use Rattle.pesp_problem.specs.Marked.{IsMarkedWalk}
use Rattle.pesp_problem.specs.declared.marked.MarkedRow.{MarkedRow}
use Rattle.pesp_truth.specs.Marks.{Marks}
use Rattle.pesp_truth.specs.Lemmas.{Lemma}
use Rattle.pesp_truth.specs.Trees.{are_trees, line_of}
use Rattle.pesp_truth.specs.Shown.{LemmaProof, lemmas_of, lemma_lines, AreShownLemmas}
use Rattle.pesp_truth.specs.Certificates.{Front as FrontOf, claim_of, Content, least_of, shown_labels, shown_times, ShowsAnswer}
use Rattle.pesp_judges.specs.Lines.{AreJudged}
use Rattle.pesp_judges.specs.Faults.{IsFirstFault, own_line}
use Rattle.pesp_judges.specs.Showing.{KeptLemma, HeadShown, CyclesShown, ShownTo}
use Rattle.pesp_truth.specs.declared.answer.Answer.{Answer}
use Rattle.pesp_cert_lines.specs.declared.item.Item.{Item}
use Rattle.pesp_cert_lines.specs.declared.item.Item.TheVariants.{Front, Scale, Walk, Least, Version, Period, Answer as Says, Cycle, End}
use Rattle.pesp_cert.specs.Texts.{time_item, tree_item, lemma_items, front_items}
use Rattle.pesp_problem.specs.declared.nets.NetCount.{NetCount}
use Rattle.pesp_judges.specs.declared.refusal.Refusal.{Refusal}
use Rattle.pesp_judges.specs.Pending.{Standing}
use Rattle.pesp_problem.specs.Nets.{AreNets}
use Rattle.pesp_whole_check.specs.Costs.{facts_said}
use Rattle.pesp_check.specs.Items.{says_no_answer}
use Rattle.pesp_check.specs.declared.stage.Stage.{Stage}
use Rattle.pesp_check.specs.declared.stage.Stage.TheVariants as stages

-- what the lines of a front said of its own scale and walks: whether one began, its scale, and its marked walks
pub record MarksSaid : Type 0 where
  pub begun : Bool
  pub scale : ℕ
  pub walks : List (List MarkedRow)

-- no line of a front came
abbrev pub no_marks : MarksSaid
no_marks = record { begun = false; scale = 0; walks = [] }

-- what was said of the scale and the walks so far, and what the next item says of them
abbrev pub marks_noted : MarksSaid → Item → MarksSaid
marks_noted f Front = record f { begun = true }
marks_noted f (Scale n) = record f { scale = n }
marks_noted f (Walk walk) = record f { walks = f.walks ++ walk ∷ [] }
marks_noted f _ = f

-- the scale and the marked walks, where a front began
abbrev pub marks_said : MarksSaid → Option Marks
marks_said f = if f.begun then Some (record { scale = f.scale; walks = f.walks }) else None

-- what is kept of the items that came: the number of the last line, what the lines of a front said, the lemmas that were shown,
-- the period, the answer, the times and the cycles' net counts; for the tree the front, and the nodes that wait
pub record Kept : Type 0 where
  pub line : ℕ
  pub draft : MarksSaid
  pub facts : List Lemma
  pub lemma : Option KeptLemma
  pub front : Option Marks
  pub period : ℕ
  pub answer : Answer
  pub times : List (ℤ × ℕ)
  pub table : List (List NetCount)
  pub walk : Option Standing

-- nothing behind the times was judged, and nothing was refused
abbrev pub is_front : Stage → Bool
is_front stages.Front = true
is_front stages.Cycles = false
is_front stages.Tree = false
is_front (stages.Refused r) = false

-- nothing of the tree was judged, and nothing was refused
abbrev pub is_before_tree : Stage → Bool
is_before_tree stages.Front = true
is_before_tree stages.Cycles = true
is_before_tree stages.Tree = false
is_before_tree (stages.Refused r) = false

-- ---- the items of a certificate that are left

-- the lines of the tree behind the first k
abbrev pub tree_from : Content → ℕ → List Item
tree_from c k = map tree_item (drop k c.tree) ++ End ∷ []

-- the cycles behind the first k, and the tree
abbrev pub cycles_from : Content → ℕ → List Item
cycles_from c k = map Cycle (drop k c.cycles) ++ tree_from c 0

-- the times behind the first k, and so on
abbrev pub times_from : Content → ℕ → List Item
times_from c k = map time_item (drop k c.times) ++ cycles_from c 0

-- all but those of a front
abbrev pub behind : Content → List Item
behind c = Version c.version ∷ Period c.period ∷ Says c.answer ∷ times_from c 0

-- these items end with the answer and all that stands behind it
abbrev pub AnswerIsLeft : Content → List Item → Type 0
AnswerIsLeft c rest = (before : List Item) × (list_all says_no_answer before ≡ true) × (rest ≡ before ++ Says c.answer ∷ times_from c 0)

-- the lemmas behind the first j, and so on
abbrev pub lemmas_from : FrontOf → Content → ℕ → List Item
lemmas_from f c j = flat_map lemma_items (drop j f.lemmas) ++ behind c

-- the marked walks behind the first k, and so on
abbrev pub walks_from : FrontOf → Content → ℕ → List Item
walks_from f c k = map Walk (drop k f.marks.walks) ++ lemmas_from f c 0

-- all of them
abbrev pub items_left : Option FrontOf → Content → List Item
items_left front c = front_items front ++ behind c

-- the items of a lemma behind the first k lines of its tree, and those behind the lemma
abbrev pub lemma_tree_from : LemmaProof → List Item → ℕ → List Item
lemma_tree_from s more k = map tree_item (drop k s.tree) ++ more

-- behind the first k of its cycles
abbrev pub lemma_cycles_from : LemmaProof → List Item → ℕ → List Item
lemma_cycles_from s more k = map Cycle (drop k s.cycles) ++ lemma_tree_from s more 0

-- behind the first k of its marked walks
abbrev pub lemma_walks_from : LemmaProof → List Item → ℕ → List Item
lemma_walks_from s more k = map Walk (drop k s.marks.walks) ++ lemma_cycles_from s more 0

-- ---- what the items of a lemma say

-- the scale and k of the marked walks of a lemma came
pub record LemmaWalksTo (p : Pesp) (s : LemmaProof) (at : ℕ) (kept : KeptLemma) (line : ℕ) (rest more : List Item) (k : ℕ) : Type 0 where
  pub head : HeadShown p s at kept k
  pub least : kept.least ≡ s.fact.least
  pub scale : kept.scale ≡ s.marks.scale
  pub within : k ≤ length s.marks.walks
  pub line_is : line ≡ at + 2 + k
  pub left : rest ≡ lemma_walks_from s more k

-- k of its cycles came
pub record LemmaCyclesTo (p : Pesp) (s : LemmaProof) (at : ℕ) (kept : KeptLemma) (line : ℕ) (rest more : List Item) (k : ℕ) : Type 0 where
  pub cycles : CyclesShown p s at kept k
  pub line_is : line ≡ at + 2 + length s.marks.walks + k
  pub left : rest ≡ lemma_cycles_from s more k

-- k lines of its tree came
pub record LemmaTreeTo (p : Pesp) (earlier : List Lemma) (s : LemmaProof) (at : ℕ) (kept : KeptLemma) (line : ℕ) (rest more : List Item) (k : ℕ) : Type 0 where
  pub shown : ShownTo p earlier s at kept k
  pub within : k ≤ length s.tree
  pub line_is : line ≡ at + 2 + length s.marks.walks + length s.cycles + k
  pub left : rest ≡ lemma_tree_from s more k

-- its rows came, in the line `at`, or its least sum too, or more of it
abbrev pub LemmaTo : Pesp → List Lemma → LemmaProof → ℕ → KeptLemma → ℕ → List Item → List Item → Type 0
LemmaTo p earlier s at kept line rest more =
    ((line ≡ at) × HeadShown p s at kept 0 × (rest ≡ Least s.fact.least ∷ Scale s.marks.scale ∷ lemma_walks_from s more 0))
    ⊎ ((line ≡ at + 1) × (kept.least ≡ s.fact.least) × HeadShown p s at kept 0 × (rest ≡ Scale s.marks.scale ∷ lemma_walks_from s more 0))
    ⊎ ((k : ℕ) × LemmaWalksTo p s at kept line rest more k)
    ⊎ ((k : ℕ) × LemmaCyclesTo p s at kept line rest more k)
    ⊎ ((k : ℕ) × LemmaTreeTo p earlier s at kept line rest more k)

-- ---- what they say

-- the scale of a front and k of its marked walks came
pub record WalksTo (f : FrontOf) (c : Content) (rest : List Item) (kept : Kept) (k : ℕ) : Type 0 where
  pub within : k ≤ length f.marks.walks
  pub said : marks_said kept.draft ≡ Some (record { scale = f.marks.scale; walks = take k f.marks.walks })
  pub line : kept.line ≡ 2 + k
  pub left : rest ≡ walks_from f c k

-- the walks came, and j lemmas, which are shown
pub record LemmasShown (p : Pesp) (f : FrontOf) (kept : Kept) (j : ℕ) : Type 0 where
  pub within : j ≤ length f.lemmas
  pub said : marks_said kept.draft ≡ Some f.marks
  pub shown : AreShownLemmas (net_of p) [] (take j f.lemmas)
  pub facts : kept.facts ≡ lemmas_of (take j f.lemmas)

-- the line before the lemma behind j others
abbrev pub line_before : FrontOf → ℕ → ℕ
line_before f j = (2 + length f.marks.walks) + sum_by lemma_lines (take j f.lemmas)

-- and the next lemma is coming
pub record LemmaCame (p : Pesp) (f : FrontOf) (c : Content) (rest : List Item) (kept : Kept) (j : ℕ) : Type 0 where
  pub lemma : LemmaProof
  pub kept_lemma : KeptLemma
  pub before : LemmasShown p f kept j
  pub next : j < length f.lemmas
  pub read : lemma ≡ get_or f.lemmas j lemma
  pub some : kept.lemma ≡ Some kept_lemma
  pub came : LemmaTo p (lemmas_of (take j f.lemmas)) lemma (line_before f j + 1) kept_lemma kept.line rest (lemmas_from f c (j + 1))

-- or no other is coming yet
pub record LemmasTo (p : Pesp) (f : FrontOf) (c : Content) (rest : List Item) (kept : Kept) (j : ℕ) : Type 0 where
  pub shown : LemmasShown p f kept j
  pub none : kept.lemma ≡ None
  pub line : kept.line ≡ line_before f j
  pub left : rest ≡ lemmas_from f c j

-- nothing came, or the first line of a front, or its scale and some marked walks, or some lemmas
abbrev pub MarksTo : Pesp → Option FrontOf → Content → List Item → Kept → Type 0
MarksTo p front c rest kept =
    ((kept.line ≡ 0) × (kept.draft ≡ no_marks) × (kept.facts ≡ []) × (kept.lemma ≡ None) × (rest ≡ items_left front c))
    ⊎ ((f : FrontOf) × (front ≡ Some f) × (kept.line ≡ 1) × (kept.draft ≡ record no_marks { begun = true }) × (kept.facts ≡ [])
    × (kept.lemma ≡ None) × (rest ≡ Scale f.marks.scale ∷ walks_from f c 0))
    ⊎ ((f : FrontOf) × (k : ℕ) × (front ≡ Some f) × (kept.facts ≡ []) × (kept.lemma ≡ None) × WalksTo f c rest kept k)
    ⊎ ((f : FrontOf) × (j : ℕ) × (front ≡ Some f) × LemmaCame p f c rest kept j)
    ⊎ ((f : FrontOf) × (j : ℕ) × (front ≡ Some f) × LemmasTo p f c rest kept j)

-- all of the front came, and its lemmas are shown
abbrev pub FrontCame : Pesp → Option FrontOf → Kept → Type 0
FrontCame p None kept = (marks_said kept.draft ≡ None) × (kept.facts ≡ []) × (kept.lemma ≡ None)
FrontCame p (Some f) kept = (kept.lemma ≡ None) × LemmasShown p f kept (length f.lemmas)

-- k times came
pub record TimesTo (front : Option FrontOf) (c : Content) (rest : List Item) (kept : Kept) (k : ℕ) : Type 0 where
  pub period : kept.period ≡ c.period
  pub answer : kept.answer ≡ c.answer
  pub within : k ≤ length c.times
  pub times : kept.times ≡ take k c.times
  pub line : kept.line ≡ own_line front (3 + k)
  pub left : rest ≡ times_from c k

-- the version came, or the period, or the answer and some times
abbrev pub HeadTo : Option FrontOf → Content → List Item → Kept → Type 0
HeadTo front c rest kept =
    ((kept.line ≡ own_line front 1) × (kept.times ≡ []) × (rest ≡ Period c.period ∷ Says c.answer ∷ times_from c 0))
    ⊎ ((kept.line ≡ own_line front 2) × (kept.times ≡ []) × (kept.period ≡ c.period) × (rest ≡ Says c.answer ∷ times_from c 0))
    ⊎ ((k : ℕ) × TimesTo front c rest kept k)

-- the front is coming, or it came
abbrev pub FrontTo : Pesp → Option FrontOf → Content → List Item → Kept → Type 0
FrontTo p front c rest kept =
    ((kept.times ≡ []) × MarksTo p front c rest kept) ⊎ (FrontCame p front kept × HeadTo front c rest kept)

-- the period is the instance's, and the answer shows what it has to
pub record FrontIsShown (p : Pesp) (c : Content) (kept : Kept) : Type 0 where
  pub period : c.period ≡ p.period
  pub answer : kept.answer ≡ c.answer
  pub shows : ShowsAnswer p c.answer (shown_labels c) (shown_times c)

-- k cycles came, and they are walks
pub record CyclesTo (p : Pesp) (front : Option FrontOf) (c : Content) (rest : List Item) (kept : Kept) (k : ℕ) : Type 0 where
  pub shown : FrontIsShown p c kept
  pub front_came : FrontCame p front kept
  pub within : k ≤ length c.cycles
  pub nets : AreNets (length p.rows) (take k c.cycles) kept.table
  pub walks : (i : ℕ) → i < k → IsWalk (arcs_of p) (cycle_at c.cycles i)
  pub line : kept.line ≡ own_line front (3 + length c.times + k)
  pub left : rest ≡ cycles_from c k

-- k lines of the tree came, and each is sound at its node: what those that are left say decides of all
abbrev pub AreJudgedBehind : Pesp → Option FrontOf → Content → List Node → ℕ → Type 0
AreJudgedBehind p front c nodes k = AreJudged (claim_of front (net_of p) (least_of c.answer)) (net_of p) c.cycles c.tree
    (root (net_of p) c.cycles) (own_line front (4 + length c.times + length c.cycles)) nodes k

-- the marked walks are closed, k lines of the tree came, and each is sound at its node
pub record TreeTo (p : Pesp) (front : Option FrontOf) (c : Content) (rest : List Item) (kept : Kept) (k : ℕ) (standing : Standing) : Type 0 where
  pub gone : kept.lemma ≡ None
  pub shown : FrontIsShown p c kept
  pub front_is : kept.front ≡ option_map (λ f. f.marks) front
  pub facts : kept.facts ≡ facts_said front
  pub lemmas : IfSome front (λ f. AreShownLemmas (net_of p) [] f.lemmas)
  pub walks : All (IsWalk (arcs_of p)) c.cycles
  pub nets : AreNets (length p.rows) c.cycles kept.table
  pub closed : IfSome front (λ f. All (IsMarkedWalk (arcs_of p)) f.marks.walks)
  pub walk : kept.walk ≡ Some standing
  pub whole : are_trees (length standing.nodes) (map line_of (drop k c.tree)) ≡ true
  pub judged : AreJudgedBehind p front c standing.nodes k
  pub line : kept.line ≡ own_line front (3 + length c.times + length c.cycles + k)
  pub left : rest ≡ tree_from c k

-- an item was wrong; where it is one of a lemma, the answer may still come
pub record RefusedTo (p : Pesp) (front : Option FrontOf) (c : Content) (rest : List Item) (kept : Kept) (refusal : Refusal) : Type 0 where
  pub none : kept.lemma ≡ None
  pub answer : ((kept.answer ≡ c.answer) × (list_all says_no_answer rest ≡ true)) ⊎ AnswerIsLeft c rest
  pub first : IsFirstFault front p c refusal

-- by the stage: which items came, what they showed so far, and which are left; or the first fault
abbrev pub JudgedAt : Stage → Pesp → Option FrontOf → Content → List Item → Kept → Type 0
JudgedAt stages.Front p front c rest kept = (kept.table ≡ []) × FrontTo p front c rest kept
JudgedAt stages.Cycles p front c rest kept = (k : ℕ) × CyclesTo p front c rest kept k
JudgedAt stages.Tree p front c rest kept = (k : ℕ) × (standing : Standing) × TreeTo p front c rest kept k standing
JudgedAt (stages.Refused refusal) p front c rest kept = RefusedTo p front c rest kept refusal
