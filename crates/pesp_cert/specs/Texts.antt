-- The one text of a certificate, with its front where it has one.
use Rattle.std.specs.Prelude.{◌≡◌, ℕ, true, false, List, [], ◌∷◌, ◌++◌, map, ℤ, Bool, Option, Some, None}
use Rattle.std.specs.List.{flat_map}
use Rattle.pesp_truth.specs.declared.tree.TreeLine.{TreeLine}
use Rattle.pesp_truth.specs.declared.tree.TreeLine.TheVariants as lines
use Rattle.pesp_truth.specs.Certificates.{Content, Front as FrontOf}
use Rattle.pesp_cert_lines.specs.declared.item.Item.{Item}
use Rattle.pesp_cert_lines.specs.declared.item.Item.TheVariants.{Front, Scale, Walk, Lemma, Least, Version, Period, Answer as Says, Time, Cycle, Slack, Offset, Bound, Nothing, Gap, Propagated, End}
use Rattle.pesp_cert_lines.specs.declared.progress.Progress.{Progress}
use Rattle.pesp_cert_lines.specs.declared.versions.Versions.{Versions}
use Rattle.pesp_cert_lines.specs.declared.versions.Versions.TheVariants.{Plain, All}
use Rattle.pesp_truth.specs.Marks.{Marks}
use Rattle.pesp_truth.specs.Shown.{LemmaProof}
use Rattle.pesp_cert_lines.specs.Items.{item_line}
use Rattle.pesp_cert_lines.specs.Counts.{progress_after, beginning, CanStand}

-- a line for each item
abbrev pub text_of : List Item → List ℕ
text_of items = flat_map item_line items

-- whether an item is the last line of a text
abbrev pub is_end : Item → Bool
is_end End = true
is_end _ = false

-- the items may stand one behind the other, and the last one ends the text
abbrev pub IsRun : Progress → List Item → Type 0
IsRun p [] = ⊥
IsRun p (item ∷ []) = CanStand p item × (is_end item ≡ true)
IsRun p (item ∷ next ∷ more) = CanStand p item × (is_end item ≡ false) × IsRun (progress_after p item) (next ∷ more)

-- the item of an event's label and time
abbrev pub time_item : ℤ × ℕ → Item
time_item t = Time t.0 t.1

-- the item of a line of the tree
abbrev pub tree_item : TreeLine → Item
tree_item (lines.Slack row k) = Slack row k
tree_item (lines.Offset cycle k) = Offset cycle k
tree_item (lines.Bound ps) = Bound ps
tree_item (lines.Nothing ps) = Nothing ps
tree_item (lines.Gap cycle) = Gap cycle
tree_item lines.Propagated = Propagated

-- version, period, answer, times, cycles, tree and end
abbrev pub own_items : Content → List Item
own_items c = Version c.version ∷ Period c.period ∷ Says c.answer ∷ map time_item c.times ++ map Cycle c.cycles
    ++ map tree_item c.tree ++ End ∷ []

-- a scale and marked walks
abbrev pub marks_items : Marks → List Item
marks_items marks = Scale marks.scale ∷ map Walk marks.walks

-- the rows of a lemma, its least sum, and what shows it: marked walks, cycles and a tree of its own
abbrev pub lemma_items : LemmaProof → List Item
lemma_items s = Lemma s.fact.weights ∷ Least s.fact.least ∷ marks_items s.marks ++ map Cycle s.cycles ++ map tree_item s.tree

-- version 3, the scale, the marked walks and the lemmas; nothing where there is no front
abbrev pub front_items : Option FrontOf → List Item
front_items None = []
front_items (Some f) = Front ∷ marks_items f.marks ++ flat_map lemma_items f.lemmas

-- the front, and behind it the certificate's own lines
abbrev pub items_of : Option FrontOf → Content → List Item
items_of front c = front_items front ++ own_items c

-- the one text of a certificate
abbrev pub spelling : Option FrontOf → Content → List ℕ
spelling front c = text_of (items_of front c)

-- what has a text
pub record HasText (front : Option FrontOf) (c : Content) : Type 0 where
  pub run : IsRun (beginning All) (items_of front c)

-- whether texts with this front are read where these versions are taken
abbrev pub takes : Versions → Option FrontOf → Bool
takes Plain None = true
takes Plain (Some f) = false
takes All front = true

-- no text begins another, and each has one meaning
abbrev pub NoneBeginsAnother : Type 0
NoneBeginsAnother = (f g : Option FrontOf) (a b : Content) (more : List ℕ) → HasText f a → HasText g b
    → spelling f a ++ more ≡ spelling g b → (f ≡ g) × (a ≡ b) × (more ≡ [])
