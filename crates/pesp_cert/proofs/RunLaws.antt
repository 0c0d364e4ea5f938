-- A run of items is that of one certificate's content, with its front where it has one.
use Rattle.std.proofs.Common.{◌≡◌, ℕ, Bool, true, false, cond, ◌&&◌, List, [], ◌∷◌, ◌++◌, Option, Some, None, refl, sym, ap, ◌∙◌, append_assoc}
use Rattle.std.specs.Prelude.{map, ℤ, ◌==◌}
use Rattle.std.specs.List.{flat_map}
use Rattle.pesp_problem.specs.declared.pair.Pair.{Pair}
use Rattle.pesp_problem.specs.declared.row.SignedRow.{SignedRow}
use Rattle.pesp_truth.specs.declared.answer.Answer.{Answer}
use Rattle.pesp_truth.specs.declared.tree.TreeLine.{TreeLine}
use Rattle.pesp_truth.specs.declared.tree.TreeLine.TheVariants as lines
use Rattle.pesp_cert_lines.specs.declared.progress.Place.{Place}
use Rattle.pesp_cert_lines.specs.declared.progress.Place.TheVariants as places
use Rattle.pesp_cert_lines.specs.declared.progress.Progress.{Progress}
use Rattle.pesp_cert_lines.specs.declared.versions.Versions.{Versions}
use Rattle.pesp_cert_lines.specs.declared.versions.Versions.TheVariants.{Plain, All}
use Rattle.pesp_problem.specs.declared.marked.MarkedRow.{MarkedRow}
use Rattle.pesp_truth.specs.Shown.{LemmaProof}
use Rattle.pesp_truth.specs.Certificates.{Front as FrontOf, Content}
use Rattle.pesp_cert_lines.specs.declared.item.Item.{Item}
use Rattle.pesp_cert_lines.specs.declared.item.Item.TheVariants.{Front, Scale, Walk, Lemma, Least, Version, Period, Answer as Says, Time, Cycle, Slack, Offset, Bound, Nothing, Gap, Propagated, End}
use Rattle.pesp_cert_lines.specs.Counts.{beginning, progress_after, may_follow, may_end, has_kind, takes_fronts, kind_in, CanStand}
use Rattle.pesp_cert_lines.proofs.Tests.{and_left, and_right}
use Rattle.pesp_cert.specs.Texts.{IsRun, time_item, tree_item, lemma_items, own_items, items_of, takes}
use Rattle.pesp_cert.proofs.Runs.{items_shape}
use Rattle.pesp_cert.proofs.FrontRuns.{lemmas_shape}

-- whether an item is a line of the tree, or the end
abbrev in_tree : Item → Bool
in_tree (Slack row k) = true
in_tree (Offset cycle k) = true
in_tree (Bound ps) = true
in_tree (Nothing ps) = true
in_tree (Gap cycle) = true
in_tree Propagated = true
in_tree End = true
in_tree _ = false

tree_allowed : (b : Bool) (w : Versions) (version : ℕ) (item : Item)
    → cond b (may_end false (kind_in item)) (may_follow places.Tree false (kind_in item)
    && has_kind w version false (kind_in item)) ≡ true → in_tree item ≡ true
tree_allowed b w version (Slack row k) h = refl
tree_allowed b w version (Offset cycle k) h = refl
tree_allowed b w version (Bound ps) h = refl
tree_allowed b w version (Nothing ps) h = refl
tree_allowed b w version (Gap cycle) h = refl
tree_allowed b w version Propagated h = refl
tree_allowed b w version End h = refl
tree_allowed true w version item h = absurd cc
tree_allowed false w version item h = absurd cc

abbrev TreeItems : List Item → Type 0
TreeItems items = (ls : List TreeLine) × (items ≡ map tree_item ls ++ End ∷ [])

tree_more : (line : TreeLine) (items : List Item) → TreeItems items → TreeItems (tree_item line ∷ items)
tree_more line items t = (line ∷ t.0, ap (λ (is : List Item). tree_item line ∷ is) t.1)

first : (p : Progress) (item : Item) (more : List Item) → IsRun p (item ∷ more) → CanStand p item
first p item [] run = run.0
first p item (next ∷ more) run = run.0

other : (p : Progress) (item : Item) → p.place ≡ places.Tree → p.shows ≡ false → CanStand p item → in_tree item ≡ false → ⊥
other p item at shown can not =
    let allowed : cond (p.needs == 0) (may_end false (kind_in item))
    (may_follow places.Tree false (kind_in item) && has_kind p.versions p.version false (kind_in item))
    ≡ true = rw (at, shown) at can.allowed in
    let is = tree_allowed (p.needs == 0) p.versions p.version item allowed in
    cc

tree_run : (p : Progress) (items : List Item) → p.place ≡ places.Tree → p.shows ≡ false → IsRun p items → TreeItems items
tree_run p [] at shown run = absurd run
tree_run p (Slack row k ∷ []) at shown run = absurd cc
tree_run p (Offset cycle k ∷ []) at shown run = absurd cc
tree_run p (Bound ps ∷ []) at shown run = absurd cc
tree_run p (Nothing ps ∷ []) at shown run = absurd cc
tree_run p (Gap cycle ∷ []) at shown run = absurd cc
tree_run p (Propagated ∷ []) at shown run = absurd cc
tree_run p (Slack row k ∷ next ∷ more) at shown run =
    tree_more (lines.Slack row k) (next ∷ more) (tree_run (progress_after p (Slack row k)) (next ∷ more) refl shown run.2)
tree_run p (Offset cycle k ∷ next ∷ more) at shown run =
    tree_more (lines.Offset cycle k) (next ∷ more) (tree_run (progress_after p (Offset cycle k)) (next ∷ more) refl shown run.2)
tree_run p (Bound ps ∷ next ∷ more) at shown run = tree_more (lines.Bound ps) (next ∷ more)
    (tree_run (progress_after p (Bound ps)) (next ∷ more) refl shown run.2)
tree_run p (Nothing ps ∷ next ∷ more) at shown run =
    tree_more (lines.Nothing ps) (next ∷ more) (tree_run (progress_after p (Nothing ps)) (next ∷ more) refl shown run.2)
tree_run p (Gap cycle ∷ next ∷ more) at shown run = tree_more (lines.Gap cycle) (next ∷ more)
    (tree_run (progress_after p (Gap cycle)) (next ∷ more) refl shown run.2)
tree_run p (Propagated ∷ next ∷ more) at shown run =
    tree_more lines.Propagated (next ∷ more) (tree_run (progress_after p Propagated) (next ∷ more) refl shown run.2)
tree_run p (End ∷ []) at shown run = ([], refl)
tree_run p (End ∷ next ∷ more) at shown run = absurd cc
tree_run p (item ∷ more) at shown run = absurd (other p item at shown (first p item more run) refl)

-- ---- before the tree

follows : (p : Progress) (place : Place) (item : Item) → p.place ≡ place → p.needs ≡ 1 → p.shows ≡ false → CanStand p item
    → may_follow place false (kind_in item) ≡ true
follows p place item at needs shown can = and_left (may_follow place false (kind_in item)) (has_kind p.versions p.version false (kind_in item))
    (rw (needs, at, shown) at can.allowed)

abbrev CycleItems : List Item → Type 0
CycleItems items = (cs : List (List SignedRow)) × (ls : List TreeLine) × (items ≡ map Cycle cs ++ (map tree_item ls ++ End ∷ []))

cycle_more : (rs : List SignedRow) (items : List Item) → CycleItems items → CycleItems (Cycle rs ∷ items)
cycle_more rs items t = (rs ∷ t.0, t.1, ap (λ (is : List Item). Cycle rs ∷ is) t.2)

cycles_none : (items : List Item) → TreeItems items → CycleItems items
cycles_none items t = ([], t.0, t.1)

cycle_run : (p : Progress) (items : List Item) → p.place ≡ places.Cycles → p.needs ≡ 1 → p.shows ≡ false → IsRun p items → CycleItems items
cycle_run p [] at needs shown run = absurd run
cycle_run p (Cycle rs ∷ []) at needs shown run = absurd cc
cycle_run p (Cycle rs ∷ next ∷ more) at needs shown run =
    cycle_more rs (next ∷ more) (cycle_run (progress_after p (Cycle rs)) (next ∷ more) refl needs shown run.2)
cycle_run p (Slack row k ∷ []) at needs shown run = absurd cc
cycle_run p (Offset cycle k ∷ []) at needs shown run = absurd cc
cycle_run p (Bound ps ∷ []) at needs shown run = absurd cc
cycle_run p (Nothing ps ∷ []) at needs shown run = absurd cc
cycle_run p (Gap cycle ∷ []) at needs shown run = absurd cc
cycle_run p (Propagated ∷ []) at needs shown run = absurd cc
cycle_run p (Slack row k ∷ next ∷ more) at needs shown run =
    cycles_none (Slack row k ∷ next ∷ more) (tree_more (lines.Slack row k) (next ∷ more)
    (tree_run (progress_after p (Slack row k)) (next ∷ more) refl shown run.2))
cycle_run p (Offset cycle k ∷ next ∷ more) at needs shown run =
    cycles_none (Offset cycle k ∷ next ∷ more) (tree_more (lines.Offset cycle k) (next ∷ more)
    (tree_run (progress_after p (Offset cycle k)) (next ∷ more) refl shown run.2))
cycle_run p (Bound ps ∷ next ∷ more) at needs shown run =
    cycles_none (Bound ps ∷ next ∷ more) (tree_more (lines.Bound ps) (next ∷ more)
    (tree_run (progress_after p (Bound ps)) (next ∷ more) refl shown run.2))
cycle_run p (Nothing ps ∷ next ∷ more) at needs shown run =
    cycles_none (Nothing ps ∷ next ∷ more) (tree_more (lines.Nothing ps) (next ∷ more)
    (tree_run (progress_after p (Nothing ps)) (next ∷ more) refl shown run.2))
cycle_run p (Gap cycle ∷ next ∷ more) at needs shown run =
    cycles_none (Gap cycle ∷ next ∷ more) (tree_more (lines.Gap cycle) (next ∷ more)
    (tree_run (progress_after p (Gap cycle)) (next ∷ more) refl shown run.2))
cycle_run p (Propagated ∷ next ∷ more) at needs shown run =
    cycles_none (Propagated ∷ next ∷ more) (tree_more lines.Propagated (next ∷ more)
    (tree_run (progress_after p Propagated) (next ∷ more) refl shown run.2))
cycle_run p (item ∷ more) at needs shown run =
    let h = follows p places.Cycles item at needs shown (first p item more run) in absurd cc

abbrev pub TimeItems : List Item → Type 0
TimeItems items = (ts : List (ℤ × ℕ)) × (cs : List (List SignedRow)) × (ls : List TreeLine)
    × (items ≡ map time_item ts ++ (map Cycle cs ++ (map tree_item ls ++ End ∷ [])))

time_more : (l : ℤ) (t : ℕ) (items : List Item) → TimeItems items → TimeItems (Time l t ∷ items)
time_more l t items h = ((l, t) ∷ h.0, h.1, h.2, ap (λ (is : List Item). Time l t ∷ is) h.3)

times_none : (items : List Item) → CycleItems items → TimeItems items
times_none items h = ([], h.0, h.1, h.2)

pub time_run : (p : Progress) (items : List Item) → p.place ≡ places.Times → p.needs ≡ 1 → p.shows ≡ false → IsRun p items → TimeItems items
time_run p [] at needs shown run = absurd run
time_run p (Time l t ∷ []) at needs shown run = absurd cc
time_run p (Time l t ∷ next ∷ more) at needs shown run = time_more l t (next ∷ more) (time_run (progress_after p (Time l t)) (next ∷ more) at needs shown run.2)
time_run p (Cycle rs ∷ []) at needs shown run = absurd cc
time_run p (Cycle rs ∷ next ∷ more) at needs shown run =
    times_none (Cycle rs ∷ next ∷ more) (cycle_more rs (next ∷ more)
    (cycle_run (progress_after p (Cycle rs)) (next ∷ more) refl needs shown run.2))
time_run p (Slack row k ∷ []) at needs shown run = absurd cc
time_run p (Offset cycle k ∷ []) at needs shown run = absurd cc
time_run p (Bound ps ∷ []) at needs shown run = absurd cc
time_run p (Nothing ps ∷ []) at needs shown run = absurd cc
time_run p (Gap cycle ∷ []) at needs shown run = absurd cc
time_run p (Propagated ∷ []) at needs shown run = absurd cc
time_run p (Slack row k ∷ next ∷ more) at needs shown run =
    times_none (Slack row k ∷ next ∷ more) (cycles_none (Slack row k ∷ next ∷ more)
    (tree_more (lines.Slack row k) (next ∷ more) (tree_run (progress_after p (Slack row k)) (next ∷ more) refl shown run.2)))
time_run p (Offset cycle k ∷ next ∷ more) at needs shown run =
    times_none (Offset cycle k ∷ next ∷ more) (cycles_none (Offset cycle k ∷ next ∷ more)
    (tree_more (lines.Offset cycle k) (next ∷ more) (tree_run (progress_after p (Offset cycle k)) (next ∷ more) refl shown run.2)))
time_run p (Bound ps ∷ next ∷ more) at needs shown run =
    times_none (Bound ps ∷ next ∷ more) (cycles_none (Bound ps ∷ next ∷ more)
    (tree_more (lines.Bound ps) (next ∷ more) (tree_run (progress_after p (Bound ps)) (next ∷ more) refl shown run.2)))
time_run p (Nothing ps ∷ next ∷ more) at needs shown run =
    times_none (Nothing ps ∷ next ∷ more) (cycles_none (Nothing ps ∷ next ∷ more)
    (tree_more (lines.Nothing ps) (next ∷ more) (tree_run (progress_after p (Nothing ps)) (next ∷ more) refl shown run.2)))
time_run p (Gap cycle ∷ next ∷ more) at needs shown run =
    times_none (Gap cycle ∷ next ∷ more) (cycles_none (Gap cycle ∷ next ∷ more)
    (tree_more (lines.Gap cycle) (next ∷ more) (tree_run (progress_after p (Gap cycle)) (next ∷ more) refl shown run.2)))
time_run p (Propagated ∷ next ∷ more) at needs shown run =
    times_none (Propagated ∷ next ∷ more) (cycles_none (Propagated ∷ next ∷ more)
    (tree_more lines.Propagated (next ∷ more) (tree_run (progress_after p Propagated) (next ∷ more) refl shown run.2)))
time_run p (item ∷ more) at needs shown run =
    let h = follows p places.Times item at needs shown (first p item more run) in absurd cc

made : (v n : ℕ) (a : Answer) (rest : List Item) → TimeItems rest → (c : Content) × (Version v ∷ Period n ∷ Says a ∷ rest ≡ own_items c)
made v n a rest h =
    let shape : rest ≡ ((map time_item h.0 ++ map Cycle h.1) ++ map tree_item h.2) ++ End ∷ [] = h.3
    ∙ sym (append_assoc (map time_item h.0 ++ map Cycle h.1) (map tree_item h.2) (End ∷ [])
    ∙ append_assoc (map time_item h.0) (map Cycle h.1) (map tree_item h.2 ++ End ∷ [])) in (
      record { version = v; period = n; answer = a; times = h.0; cycles = h.1; tree = h.2 },
      ap (λ (is : List Item). Version v ∷ Period n ∷ Says a ∷ is) shape,
    )

answer_run : (p : Progress) (v n : ℕ) (items : List Item) → p.place ≡ places.Period → p.needs ≡ 1 → p.shows ≡ false → IsRun p items
    → (c : Content) × (Version v ∷ Period n ∷ items ≡ own_items c)
answer_run p v n [] at needs shown run = absurd run
answer_run p v n (Says a ∷ []) at needs shown run = absurd cc
answer_run p v n (Says a ∷ next ∷ more) at needs shown run = made v n a (next ∷ more) (time_run (progress_after p (Says a)) (next ∷ more) refl needs shown run.2)
answer_run p v n (item ∷ more) at needs shown run =
    let h = follows p places.Period item at needs shown (first p item more run) in absurd cc

period_run : (p : Progress) (v : ℕ) (items : List Item) → p.place ≡ places.Header → p.needs ≡ 1 → p.shows ≡ false → IsRun p items
    → (c : Content) × (Version v ∷ items ≡ own_items c)
period_run p v [] at needs shown run = absurd run
period_run p v (Period n ∷ []) at needs shown run = absurd cc
period_run p v (Period n ∷ next ∷ more) at needs shown run = answer_run (progress_after p (Period n)) v n (next ∷ more) refl needs shown run.2
period_run p v (item ∷ more) at needs shown run =
    let h = follows p places.Header item at needs shown (first p item more run) in absurd cc

-- ---- lemmas, and the content behind them

record LemmasRest (items : List Item) : Type 0 where
  lemmas : List LemmaProof
  content : Content
  is : items ≡ flat_map lemma_items lemmas ++ own_items content

-- behind the lines of a lemma: some lines of its tree; cycles before these; walks before these; the scale, the least sum
record TreeRest (items : List Item) : Type 0 where
  lines_in : List TreeLine
  behind : List Item
  rest : LemmasRest behind
  is : items ≡ map tree_item lines_in ++ behind

record CycleRest (items : List Item) : Type 0 where
  cycles : List (List SignedRow)
  behind : List Item
  rest : TreeRest behind
  is : items ≡ map Cycle cycles ++ behind

record WalkRest (items : List Item) : Type 0 where
  walks : List (List MarkedRow)
  behind : List Item
  rest : CycleRest behind
  is : items ≡ map Walk walks ++ behind

record ScaleRest (items : List Item) : Type 0 where
  scale : ℕ
  behind : List Item
  rest : WalkRest behind
  is : items ≡ Scale scale ∷ behind

record LeastRest (items : List Item) : Type 0 where
  least : ℤ
  behind : List Item
  rest : ScaleRest behind
  is : items ≡ Least least ∷ behind

abbrev Rest : Place → List Item → Type 0
Rest places.Lemma items = LeastRest items
Rest places.Least items = ScaleRest items
Rest places.Walks items = WalkRest items
Rest places.Cycles items = CycleRest items
Rest places.Tree items = TreeRest items
Rest _ items = Unit {0}

no_lemma : (items : List Item) → (c : Content) × (items ≡ own_items c) → LemmasRest items
no_lemma items t = record { lemmas = []; content = t.0; is = t.1 }

one_lemma : (ps : List Pair) (items : List Item) → LeastRest items → LemmasRest (Lemma ps ∷ items)
one_lemma ps items r =
    let scale = r.rest in
    let walk = scale.rest in
    let cycle = walk.rest in
    let tree = cycle.rest in
    let lemmas = tree.rest in
    let s : LemmaProof = record {
      fact = record { weights = ps; least = r.least };
      marks = record { scale = scale.scale; walks = walk.walks };
      cycles = cycle.cycles;
      tree = tree.lines_in;
    } in
    let w : List Item = map Walk walk.walks in
    let c : List Item = map Cycle cycle.cycles in
    let t : List Item = map tree_item tree.lines_in in
    let own : List Item = flat_map lemma_items lemmas.lemmas ++ own_items lemmas.content in
    let shape : walk.behind ≡ c ++ (t ++ own) = cycle.is ∙ ap (λ (is : List Item). c ++ is)
    (tree.is ∙ ap (λ (is : List Item). t ++ is) lemmas.is) in
    let whole : scale.behind ≡ ((w ++ c) ++ t) ++ own = walk.is ∙ ap (λ (is : List Item). w ++ is) shape ∙ sym (items_shape w c t own) in
    let items_are : items ≡ Least r.least ∷ Scale scale.scale ∷ ((w ++ c) ++ t) ++ own =
    r.is ∙ ap (λ (is : List Item). Least r.least ∷ is) (scale.is ∙ ap (λ (is : List Item). Scale scale.scale ∷ is) whole) in
    record {
      lemmas = s ∷ lemmas.lemmas;
      content = lemmas.content;
      is = ap (λ (is : List Item). Lemma ps ∷ is) items_are ∙ sym (lemmas_shape s lemmas.lemmas (own_items lemmas.content));
    }

line_more : (line : TreeLine) (items : List Item) → TreeRest items → TreeRest (tree_item line ∷ items)
line_more line items r = record {
  lines_in = line ∷ r.lines_in;
  behind = r.behind;
  rest = r.rest;
  is = ap (λ (is : List Item). tree_item line ∷ is) r.is;
}

no_line : (items : List Item) → LemmasRest items → TreeRest items
no_line items r = record { lines_in = []; behind = items; rest = r; is = refl }

no_cycle : (items : List Item) → TreeRest items → CycleRest items
no_cycle items r = record { cycles = []; behind = items; rest = r; is = refl }

one_cycle : (rs : List SignedRow) (items : List Item) → CycleRest items → CycleRest (Cycle rs ∷ items)
one_cycle rs items r = record {
  cycles = rs ∷ r.cycles;
  behind = r.behind;
  rest = r.rest;
  is = ap (λ (is : List Item). Cycle rs ∷ is) r.is;
}

no_walk : (items : List Item) → CycleRest items → WalkRest items
no_walk items r = record { walks = []; behind = items; rest = r; is = refl }

one_walk : (walk : List MarkedRow) (items : List Item) → WalkRest items → WalkRest (Walk walk ∷ items)
one_walk walk items r = record {
  walks = walk ∷ r.walks;
  behind = r.behind;
  rest = r.rest;
  is = ap (λ (is : List Item). Walk walk ∷ is) r.is;
}

-- which items may stand behind a line of a lemma's tree
abbrev in_shown : Item → Bool
in_shown (Lemma ps) = true
in_shown (Version n) = true
in_shown End = false
in_shown item = in_tree item

shown_allowed : (b known : Bool) (item : Item) → cond b (may_end true (kind_in item)) (may_follow places.Tree true (kind_in item) && known) ≡ true
    → in_shown item ≡ true
shown_allowed b known (Lemma ps) h = refl
shown_allowed b known (Version v) h = refl
shown_allowed b known (Slack row k) h = refl
shown_allowed b known (Offset cycle k) h = refl
shown_allowed b known (Bound ps) h = refl
shown_allowed b known (Nothing ps) h = refl
shown_allowed b known (Gap cycle) h = refl
shown_allowed b known Propagated h = refl
shown_allowed true known item h = absurd cc
shown_allowed false known item h = absurd cc

outside : (p : Progress) (item : Item) → p.place ≡ places.Tree → p.shows ≡ true → CanStand p item → in_shown item ≡ false → ⊥
outside p item at shown can not =
    let is = shown_allowed (p.needs == 0) (has_kind p.versions p.version true (kind_in item)) item (rw (at, shown) at can.allowed) in
    cc

leads : (p : Progress) (place : Place) (item : Item) → p.place ≡ place → p.needs ≡ 1 → p.shows ≡ true → CanStand p item
    → may_follow place true (kind_in item) ≡ true
leads p place item at needs shown can = and_left (may_follow place true (kind_in item)) (has_kind p.versions p.version true (kind_in item))
    (rw (needs, at, shown) at can.allowed)

-- before its tree a lemma needs one
abbrev Needs : Place → ℕ → Type 0
Needs places.Tree n = Unit {0}
Needs _ n = n ≡ 1

shown_run : (p : Progress) (items : List Item) (place : Place) → p.place ≡ place → Needs place p.needs → p.shows ≡ true → IsRun p items → Rest place items
shown_run p items places.Front at needs shown run = tt
shown_run p items places.Marked at needs shown run = tt
shown_run p items places.Header at needs shown run = tt
shown_run p items places.Period at needs shown run = tt
shown_run p items places.Times at needs shown run = tt
shown_run p [] places.Lemma at needs shown run = absurd run
shown_run p (Least n ∷ []) places.Lemma at needs shown run = absurd cc
shown_run p (Least n ∷ next ∷ more) places.Lemma at needs shown run = record {
  least = n;
  behind = next ∷ more;
  rest = shown_run (progress_after p (Least n)) (next ∷ more) places.Least refl needs shown run.2;
  is = refl;
}
shown_run p (item ∷ more) places.Lemma at needs shown run =
    let h = leads p places.Lemma item at needs shown (first p item more run) in absurd cc
shown_run p [] places.Least at needs shown run = absurd run
shown_run p (Scale d ∷ []) places.Least at needs shown run = absurd cc
shown_run p (Scale d ∷ next ∷ more) places.Least at needs shown run = record {
  scale = d;
  behind = next ∷ more;
  rest = shown_run (progress_after p (Scale d)) (next ∷ more) places.Walks refl needs shown run.2;
  is = refl;
}
shown_run p (item ∷ more) places.Least at needs shown run =
    let h = leads p places.Least item at needs shown (first p item more run) in absurd cc
shown_run p [] places.Walks at needs shown run = absurd run
shown_run p (Walk walk ∷ []) places.Walks at needs shown run = absurd cc
shown_run p (Walk walk ∷ next ∷ more) places.Walks at needs shown run = one_walk walk (next ∷ more) (shown_run (progress_after p (Walk walk)) (next ∷ more) places.Walks refl needs shown run.2)
shown_run p (Cycle rs ∷ []) places.Walks at needs shown run = absurd cc
shown_run p (Cycle rs ∷ next ∷ more) places.Walks at needs shown run = no_walk (Cycle rs ∷ next ∷ more) (one_cycle rs (next ∷ more) (shown_run (progress_after p (Cycle rs)) (next ∷ more) places.Cycles refl needs shown run.2))
shown_run p (Slack row k ∷ []) places.Walks at needs shown run = absurd cc
shown_run p (Slack row k ∷ next ∷ more) places.Walks at needs shown run =
    no_walk (Slack row k ∷ next ∷ more) (no_cycle (Slack row k ∷ next ∷ more) (line_more (lines.Slack row k) (next ∷ more) (shown_run (progress_after p (Slack row k)) (next ∷ more) places.Tree refl tt shown run.2)))
shown_run p (Offset cycle k ∷ []) places.Walks at needs shown run = absurd cc
shown_run p (Offset cycle k ∷ next ∷ more) places.Walks at needs shown run =
    no_walk (Offset cycle k ∷ next ∷ more) (no_cycle (Offset cycle k ∷ next ∷ more) (line_more (lines.Offset cycle k) (next ∷ more) (shown_run (progress_after p (Offset cycle k)) (next ∷ more) places.Tree refl tt shown run.2)))
shown_run p (Bound ps ∷ []) places.Walks at needs shown run = absurd cc
shown_run p (Bound ps ∷ next ∷ more) places.Walks at needs shown run =
    no_walk (Bound ps ∷ next ∷ more) (no_cycle (Bound ps ∷ next ∷ more) (line_more (lines.Bound ps) (next ∷ more) (shown_run (progress_after p (Bound ps)) (next ∷ more) places.Tree refl tt shown run.2)))
shown_run p (Nothing ps ∷ []) places.Walks at needs shown run = absurd cc
shown_run p (Nothing ps ∷ next ∷ more) places.Walks at needs shown run =
    no_walk (Nothing ps ∷ next ∷ more) (no_cycle (Nothing ps ∷ next ∷ more) (line_more (lines.Nothing ps) (next ∷ more) (shown_run (progress_after p (Nothing ps)) (next ∷ more) places.Tree refl tt shown run.2)))
shown_run p (Gap cycle ∷ []) places.Walks at needs shown run = absurd cc
shown_run p (Gap cycle ∷ next ∷ more) places.Walks at needs shown run =
    no_walk (Gap cycle ∷ next ∷ more) (no_cycle (Gap cycle ∷ next ∷ more) (line_more (lines.Gap cycle) (next ∷ more) (shown_run (progress_after p (Gap cycle)) (next ∷ more) places.Tree refl tt shown run.2)))
shown_run p (Propagated ∷ []) places.Walks at needs shown run = absurd cc
shown_run p (Propagated ∷ next ∷ more) places.Walks at needs shown run =
    no_walk (Propagated ∷ next ∷ more) (no_cycle (Propagated ∷ next ∷ more) (line_more lines.Propagated (next ∷ more) (shown_run (progress_after p Propagated) (next ∷ more) places.Tree refl tt shown run.2)))
shown_run p (item ∷ more) places.Walks at needs shown run =
    let h = leads p places.Walks item at needs shown (first p item more run) in absurd cc
shown_run p [] places.Cycles at needs shown run = absurd run
shown_run p (Cycle rs ∷ []) places.Cycles at needs shown run = absurd cc
shown_run p (Cycle rs ∷ next ∷ more) places.Cycles at needs shown run = one_cycle rs (next ∷ more) (shown_run (progress_after p (Cycle rs)) (next ∷ more) places.Cycles refl needs shown run.2)
shown_run p (Slack row k ∷ []) places.Cycles at needs shown run = absurd cc
shown_run p (Slack row k ∷ next ∷ more) places.Cycles at needs shown run =
    no_cycle (Slack row k ∷ next ∷ more) (line_more (lines.Slack row k) (next ∷ more) (shown_run (progress_after p (Slack row k)) (next ∷ more) places.Tree refl tt shown run.2))
shown_run p (Offset cycle k ∷ []) places.Cycles at needs shown run = absurd cc
shown_run p (Offset cycle k ∷ next ∷ more) places.Cycles at needs shown run =
    no_cycle (Offset cycle k ∷ next ∷ more) (line_more (lines.Offset cycle k) (next ∷ more) (shown_run (progress_after p (Offset cycle k)) (next ∷ more) places.Tree refl tt shown run.2))
shown_run p (Bound ps ∷ []) places.Cycles at needs shown run = absurd cc
shown_run p (Bound ps ∷ next ∷ more) places.Cycles at needs shown run =
    no_cycle (Bound ps ∷ next ∷ more) (line_more (lines.Bound ps) (next ∷ more) (shown_run (progress_after p (Bound ps)) (next ∷ more) places.Tree refl tt shown run.2))
shown_run p (Nothing ps ∷ []) places.Cycles at needs shown run = absurd cc
shown_run p (Nothing ps ∷ next ∷ more) places.Cycles at needs shown run =
    no_cycle (Nothing ps ∷ next ∷ more) (line_more (lines.Nothing ps) (next ∷ more) (shown_run (progress_after p (Nothing ps)) (next ∷ more) places.Tree refl tt shown run.2))
shown_run p (Gap cycle ∷ []) places.Cycles at needs shown run = absurd cc
shown_run p (Gap cycle ∷ next ∷ more) places.Cycles at needs shown run =
    no_cycle (Gap cycle ∷ next ∷ more) (line_more (lines.Gap cycle) (next ∷ more) (shown_run (progress_after p (Gap cycle)) (next ∷ more) places.Tree refl tt shown run.2))
shown_run p (Propagated ∷ []) places.Cycles at needs shown run = absurd cc
shown_run p (Propagated ∷ next ∷ more) places.Cycles at needs shown run =
    no_cycle (Propagated ∷ next ∷ more) (line_more lines.Propagated (next ∷ more) (shown_run (progress_after p Propagated) (next ∷ more) places.Tree refl tt shown run.2))
shown_run p (item ∷ more) places.Cycles at needs shown run =
    let h = leads p places.Cycles item at needs shown (first p item more run) in absurd cc
shown_run p [] places.Tree at needs shown run = absurd run
shown_run p (Lemma ps ∷ []) places.Tree at needs shown run = absurd cc
shown_run p (Lemma ps ∷ next ∷ more) places.Tree at needs shown run =
    no_line (Lemma ps ∷ next ∷ more) (one_lemma ps (next ∷ more) (shown_run (progress_after p (Lemma ps)) (next ∷ more) places.Lemma refl refl refl run.2))
shown_run p (Version v ∷ []) places.Tree at needs shown run = absurd cc
shown_run p (Version v ∷ next ∷ more) places.Tree at needs shown run =
    no_line (Version v ∷ next ∷ more) (no_lemma (Version v ∷ next ∷ more) (period_run (progress_after p (Version v)) v (next ∷ more) refl refl refl run.2))
shown_run p (Slack row k ∷ []) places.Tree at needs shown run = absurd cc
shown_run p (Slack row k ∷ next ∷ more) places.Tree at needs shown run =
    line_more (lines.Slack row k) (next ∷ more) (shown_run (progress_after p (Slack row k)) (next ∷ more) places.Tree refl tt shown run.2)
shown_run p (Offset cycle k ∷ []) places.Tree at needs shown run = absurd cc
shown_run p (Offset cycle k ∷ next ∷ more) places.Tree at needs shown run =
    line_more (lines.Offset cycle k) (next ∷ more) (shown_run (progress_after p (Offset cycle k)) (next ∷ more) places.Tree refl tt shown run.2)
shown_run p (Bound ps ∷ []) places.Tree at needs shown run = absurd cc
shown_run p (Bound ps ∷ next ∷ more) places.Tree at needs shown run =
    line_more (lines.Bound ps) (next ∷ more) (shown_run (progress_after p (Bound ps)) (next ∷ more) places.Tree refl tt shown run.2)
shown_run p (Nothing ps ∷ []) places.Tree at needs shown run = absurd cc
shown_run p (Nothing ps ∷ next ∷ more) places.Tree at needs shown run =
    line_more (lines.Nothing ps) (next ∷ more) (shown_run (progress_after p (Nothing ps)) (next ∷ more) places.Tree refl tt shown run.2)
shown_run p (Gap cycle ∷ []) places.Tree at needs shown run = absurd cc
shown_run p (Gap cycle ∷ next ∷ more) places.Tree at needs shown run =
    line_more (lines.Gap cycle) (next ∷ more) (shown_run (progress_after p (Gap cycle)) (next ∷ more) places.Tree refl tt shown run.2)
shown_run p (Propagated ∷ []) places.Tree at needs shown run = absurd cc
shown_run p (Propagated ∷ next ∷ more) places.Tree at needs shown run =
    line_more lines.Propagated (next ∷ more) (shown_run (progress_after p Propagated) (next ∷ more) places.Tree refl tt shown run.2)
shown_run p (item ∷ more) places.Tree at needs shown run = absurd (outside p item at shown (first p item more run) refl)

-- ---- the front

-- behind the scale of a front: marked walks, then lemmas
record FrontRest (items : List Item) : Type 0 where
  walks : List (List MarkedRow)
  behind : List Item
  rest : LemmasRest behind
  is : items ≡ map Walk walks ++ behind

walk_more : (walk : List MarkedRow) (items : List Item) → FrontRest items → FrontRest (Walk walk ∷ items)
walk_more walk items r = record {
  walks = walk ∷ r.walks;
  behind = r.behind;
  rest = r.rest;
  is = ap (λ (is : List Item). Walk walk ∷ is) r.is;
}

walks_none : (items : List Item) → LemmasRest items → FrontRest items
walks_none items r = record { walks = []; behind = items; rest = r; is = refl }

walk_run : (p : Progress) (items : List Item) → p.place ≡ places.Walks → p.needs ≡ 1 → p.shows ≡ false → IsRun p items → FrontRest items
walk_run p [] at needs shown run = absurd run
walk_run p (Walk walk ∷ []) at needs shown run = absurd cc
walk_run p (Walk walk ∷ next ∷ more) at needs shown run =
    walk_more walk (next ∷ more) (walk_run (progress_after p (Walk walk)) (next ∷ more) refl needs shown run.2)
walk_run p (Lemma ps ∷ []) at needs shown run = absurd cc
walk_run p (Lemma ps ∷ next ∷ more) at needs shown run =
    walks_none (Lemma ps ∷ next ∷ more) (one_lemma ps (next ∷ more) (shown_run (progress_after p (Lemma ps)) (next ∷ more) places.Lemma refl refl refl run.2))
walk_run p (Version v ∷ []) at needs shown run = absurd cc
walk_run p (Version v ∷ next ∷ more) at needs shown run =
    walks_none (Version v ∷ next ∷ more) (no_lemma (Version v ∷ next ∷ more) (period_run (progress_after p (Version v)) v (next ∷ more) refl refl refl run.2))
walk_run p (item ∷ more) at needs shown run =
    let h = follows p places.Walks item at needs shown (first p item more run) in absurd cc

abbrev FrontItems : List Item → Type 0
FrontItems items = (f : FrontOf) × (c : Content) × (Front ∷ items ≡ items_of (Some f) c)

marked : (n : ℕ) (items : List Item) → FrontRest items → FrontItems (Scale n ∷ items)
marked n items r =
    let lemmas = r.rest in
    let w : List Item = map Walk r.walks in
    let ls : List Item = flat_map lemma_items lemmas.lemmas in
    let shape : items ≡ (w ++ ls) ++ own_items lemmas.content = r.is ∙ ap (λ (is : List Item). w ++ is) lemmas.is
    ∙ sym (append_assoc w ls (own_items lemmas.content)) in (
      record { marks = record { scale = n; walks = r.walks }; lemmas = lemmas.lemmas },
      lemmas.content,
      ap (λ (is : List Item). Front ∷ Scale n ∷ is) shape,
    )

scale_run : (p : Progress) (items : List Item) → p.place ≡ places.Marked → p.needs ≡ 1 → p.shows ≡ false → IsRun p items → FrontItems items
scale_run p [] at needs shown run = absurd run
scale_run p (Scale n ∷ []) at needs shown run = absurd cc
scale_run p (Scale n ∷ next ∷ more) at needs shown run = marked n (next ∷ more) (walk_run (progress_after p (Scale n)) (next ∷ more) refl needs shown run.2)
scale_run p (item ∷ more) at needs shown run =
    let h = follows p places.Marked item at needs shown (first p item more run) in absurd cc

-- what a run from the beginning is that of
abbrev pub IsContents : Versions → List Item → Type 0
IsContents versions items = (front : Option FrontOf) × (c : Content) × (items ≡ items_of front c) × (takes versions front ≡ true)

without : (versions : Versions) (items : List Item) → (c : Content) × (items ≡ own_items c) → IsContents versions items
without versions items t = (None, t.0, t.1, plain versions)
  where
    plain : (versions : Versions) → takes versions None ≡ true
    plain Plain = refl
    plain All = refl

behind_front : (versions : Versions) (items : List Item) → takes_fronts versions ≡ true → FrontItems items → IsContents versions (Front ∷ items)
behind_front Plain items h t = absurd cc
behind_front All items h t = (Some t.0, t.1, t.2, refl)

known : (p : Progress) (place : Place) (item : Item) → p.place ≡ place → p.needs ≡ 1 → p.shows ≡ false → CanStand p item
    → has_kind p.versions p.version false (kind_in item) ≡ true
known p place item at needs shown can = and_right (may_follow place false (kind_in item)) (has_kind p.versions p.version false (kind_in item))
    (rw (needs, at, shown) at can.allowed)

-- each run is that of a content, behind a front where one is taken
pub run_content : (versions : Versions) (items : List Item) → IsRun (beginning versions) items → IsContents versions items
run_content versions [] run = absurd run
run_content versions (Version v ∷ []) run = absurd cc
run_content versions (Version v ∷ next ∷ more) run =
    without versions (Version v ∷ next ∷ more) (period_run (progress_after (beginning versions) (Version v)) v (next ∷ more) refl refl refl run.2)
run_content versions (Front ∷ []) run = absurd cc
run_content versions (Front ∷ next ∷ more) run =
    behind_front versions (next ∷ more) (known (beginning versions) places.Front Front refl refl refl run.0)
    (scale_run (progress_after (beginning versions) Front) (next ∷ more) refl refl refl run.2)
run_content versions (item ∷ more) run =
    let h = follows (beginning versions) places.Front item refl refl refl (first (beginning versions) item more run) in absurd cc
