-- Lists of entries that stand one after the other, one for each cut.
use Rattle.std.specs.Prelude.{◌≡◌, ℕ, suc, ◌+◌, ◌<◌, ◌≤◌, List, [], ◌∷◌, ◌++◌, length, vec_len, slice_index, sum, Bool, true, false, if◌then◌else◌, ◌==◌}
use Rattle.pesp_problem.specs.declared.arc.Arc.{Arc}
use Rattle.pesp_problem.specs.Arcs.{arc_at}
use Rattle.pesp_propagate.specs.declared.crossing.Entry.{Entry}
use Rattle.pesp_propagate.specs.declared.cuts.Cuts.{Cuts}
use Rattle.pesp_propagate.specs.Entries.{cut_entry_at, cut_entries}
use Rattle.pesp_problem.specs.Roots.{Roots, below}

-- n lists, from a place up to another, each with room up to where the next begins
pub record HaveLists (n : ℕ) (starts ends : List ℕ) (entries : List Entry) (lists : ℕ → List Entry) : Type 0 where
  pub rising : (a b : ℕ) → a ≤ b → b ≤ n → slice_index starts a ≤ slice_index starts b
  pub ends_at : (c : ℕ) → c < n → slice_index ends c ≡ slice_index starts c + length (lists c)
  pub within : (c : ℕ) → c < n → slice_index ends c ≤ slice_index starts (c + 1)
  pub items : (c k : ℕ) → c < n → k < length (lists c) → cut_entry_at entries (slice_index starts c + k) ≡ cut_entry_at (lists c) k

-- these are the lists of n cuts
abbrev pub Hold : ℕ → Cuts → (ℕ → List Entry) → Type 0
Hold n cuts lists = HaveLists n cuts.starts.items cuts.ends.items cuts.entries.items lists

-- one entry more at the end of one list
abbrev pub pushed : (ℕ → List Entry) → ℕ → Entry → ℕ → List Entry
pushed lists cut e c = if c == cut then lists c ++ e ∷ [] else lists c

-- there is room for lists with so many entries each
pub record HasRoomFor (counts : List ℕ) (cuts : Cuts) : Type 0 where
  pub ends : vec_len cuts.ends ≡ length counts
  pub starts : length counts < vec_len cuts.starts
  pub entries : sum counts ≤ vec_len cuts.entries

-- the list of a cut has room for one entry more
pub record ListHasRoom (cuts : Cuts) (cut : ℕ) : Type 0 where
  pub end : cut < vec_len cuts.ends
  pub next : cut + 1 < vec_len cuts.starts
  pub before : slice_index cuts.ends.items cut < slice_index cuts.starts.items (cut + 1)
  pub within : slice_index cuts.ends.items cut < vec_len cuts.entries

-- an entry went to the end of one list, and all else stays
abbrev pub Puts : Cuts → Cuts → ℕ → Entry → Type 0
Puts old new cut e = (n : ℕ) (lists : ℕ → List Entry) → cut < n → Hold n old lists → Hold n new (pushed lists cut e)

-- each cut has those of the first rows that cross it
abbrev pub AreListed : ℕ → List Arc → Roots → ℕ → Cuts → Type 0
AreListed n arcs r i cuts = Hold n cuts (λ c. cut_entries (below r c) arcs i)

-- the first where the two are equal, else the second
abbrev pub if_same : {A : Type 0} → Bool → Bool → A → A → A
if_same true true a b = a
if_same true false a b = b
if_same false true a b = b
if_same false false a b = a

-- the row at place i was climbed from its head to x and from its tail to y: the cuts that part these two are still to be given the row
pub record IsClimbed (n : ℕ) (arcs : List Arc) (r : Roots) (i x y : ℕ) (cuts : Cuts) : Type 0 where
  pub lists : Hold n cuts (λ c. if_same (below r c x) (below r c y) (cut_entries (below r c) arcs (suc i)) (cut_entries (below r c) arcs i))
  pub left : (c : ℕ) → c < n → (below r c x ≡ below r c y → ⊥)
      → (below r c x ≡ below r c (arc_at arcs i).head) × (below r c y ≡ below r c (arc_at arcs i).tail)

-- one of the two went up, and what it passed was given the row
pub record IsStep (n : ℕ) (arcs : List Arc) (r : Roots) (i x y : ℕ) (old new : Cuts) (next : ℕ × ℕ) : Type 0 where
  pub inside : (next.0 < n) × (next.1 < n)
  pub nearer : r.depth next.0 + r.depth next.1 < r.depth x + r.depth y
  pub climbed : IsClimbed n arcs r i x y old → IsClimbed n arcs r i next.0 next.1 new

-- the first so many lists are empty
pub record AreLaidOut (i at : ℕ) (starts ends : List ℕ) : Type 0 where
  pub rising : (a b : ℕ) → a ≤ b → b < i → slice_index starts a ≤ slice_index starts b
  pub most : (a : ℕ) → a < i → slice_index starts a ≤ at
  pub ends_at : (c : ℕ) → c < i → slice_index ends c ≡ slice_index starts c
