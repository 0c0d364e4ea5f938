-- The lines of a certificate add up to it, and those of its front to the front.
use Rattle.std.proofs.Common.{◌≡◌, ℕ, Bool, true, false, List, [], ◌∷◌, ◌++◌, Option, Some, None, refl, sym, ap, ◌∙◌, append_assoc}
use Rattle.std.specs.Prelude.{map, ℤ}
use Rattle.std.specs.List.{flat_map}
use Rattle.std.proofs.lemmas.List.{append-nil}
use Rattle.std.proofs.lemmas.List.Concat.{flat_map-cons}
use Rattle.pesp_problem.specs.declared.row.SignedRow.{SignedRow}
use Rattle.pesp_truth.specs.declared.tree.TreeLine.{TreeLine}
use Rattle.pesp_truth.specs.declared.tree.TreeLine.TheVariants as lines
use Rattle.pesp_truth.specs.Certificates.{Content, Front}
use Rattle.pesp_cert_lines.specs.declared.item.Item.{Item}
use Rattle.pesp_cert_lines.specs.declared.item.Item.TheVariants.{Walk, Cycle, End}
use Rattle.pesp_problem.specs.declared.marked.MarkedRow.{MarkedRow}
use Rattle.pesp_truth.specs.Shown.{LemmaProof}
use Rattle.pesp_cert.specs.Texts.{time_item, tree_item, own_items, lemma_items, items_of}
use Rattle.pesp_cert.specs.Drafts.{blank, with_line, with_step, added_behind, all_added, FrontValue, no_front, lemmas_with, noted, all_noted, front_said}

pub all_noted-append : (f : FrontValue) (xs ys : List Item) → all_noted f (xs ++ ys) ≡ all_noted (all_noted f xs) ys
all_noted-append f [] ys = refl
all_noted-append f (x ∷ xs) ys = all_noted-append (noted f x) xs ys

pub all_added-append : (f : FrontValue) (c : Content) (xs ys : List Item)
    → all_added f c (xs ++ ys) ≡ all_added (all_noted f xs) (all_added f c xs) ys
all_added-append f c [] ys = refl
all_added-append f c (x ∷ xs) ys = all_added-append (noted f x) (added_behind (noted f x).shown c x) xs ys

-- what was said of a front and behind it: both
record AreSaid (f : FrontValue) (c : Content) (items : List Item) (f' : FrontValue) (c' : Content) : Type 0 where
  notes : all_noted f items ≡ f'
  adds : all_added f c items ≡ c'

-- what some items say and what others say behind them
said_then : (f g h : FrontValue) (c d e : Content) (xs ys : List Item) → AreSaid f c xs g d → AreSaid g d ys h e → AreSaid f c (xs ++ ys) h e
said_then f g h c d e xs ys a b = record {
  notes = all_noted-append f xs ys ∙ ap (λ (k : FrontValue). all_noted k ys) a.notes ∙ b.notes;
  adds = all_added-append f c xs ys ∙ ap (λ (k : FrontValue). all_added k (all_added f c xs) ys) a.notes
      ∙ ap (λ (k : Content). all_added g k ys) a.adds ∙ b.adds;
}

-- a front while it is read
abbrev at : Bool → ℕ → List (List MarkedRow) → List LemmaProof → Option LemmaProof → FrontValue
at begun scale walks lemmas shown = record { begun = begun; scale = scale; walks = walks; lemmas = lemmas; shown = shown }

-- ---- behind the front

module _ (begun : Bool) (scale : ℕ) (walks : List (List MarkedRow)) (lemmas : List LemmaProof) where
  abbrev own : FrontValue
  own = at begun scale walks lemmas None

  times_said : (c : Content) (ts : List (ℤ × ℕ)) → AreSaid own c (map time_item ts) own (record c { times = c.times ++ ts })
  times_said c [] = record { notes = refl; adds = ap (λ (us : List (ℤ × ℕ)). record c { times = us }) (sym (append-nil c.times)) }
  times_said c (t ∷ ts) =
      let later = times_said (record c { times = c.times ++ t ∷ [] }) ts in
      record {
        notes = later.notes;
        adds = later.adds ∙ ap (λ (us : List (ℤ × ℕ)). record c { times = us }) (append_assoc c.times (t ∷ []) ts);
      }

  cycles_said : (c : Content) (cs : List (List SignedRow)) → AreSaid own c (map Cycle cs) own (record c { cycles = c.cycles ++ cs })
  cycles_said c [] = record { notes = refl; adds = ap (λ (ws : List (List SignedRow)). record c { cycles = ws }) (sym (append-nil c.cycles)) }
  cycles_said c (w ∷ cs) =
      let later = cycles_said (record c { cycles = c.cycles ++ w ∷ [] }) cs in
      record {
        notes = later.notes;
        adds = later.adds ∙ ap (λ (ws : List (List SignedRow)). record c { cycles = ws }) (append_assoc c.cycles (w ∷ []) cs);
      }

  line_said : (c : Content) (line : TreeLine) → AreSaid own c (tree_item line ∷ []) own (with_line c line)
  line_said c (lines.Slack row k) = record { notes = refl; adds = refl }
  line_said c (lines.Offset cycle k) = record { notes = refl; adds = refl }
  line_said c (lines.Bound ps) = record { notes = refl; adds = refl }
  line_said c (lines.Nothing ps) = record { notes = refl; adds = refl }
  line_said c (lines.Gap cycle) = record { notes = refl; adds = refl }
  line_said c lines.Propagated = record { notes = refl; adds = refl }

  tree_said : (c : Content) (ls : List TreeLine) → AreSaid own c (map tree_item ls) own (record c { tree = c.tree ++ ls })
  tree_said c [] = record { notes = refl; adds = ap (λ (ks : List TreeLine). record c { tree = ks }) (sym (append-nil c.tree)) }
  tree_said c (line ∷ ls) =
      let both = said_then own own own c (with_line c line) (record c { tree = (c.tree ++ line ∷ []) ++ ls })
      (tree_item line ∷ []) (map tree_item ls) (line_said c line) (tree_said (with_line c line) ls) in
      record {
        notes = both.notes;
        adds = both.adds ∙ ap (λ (ks : List TreeLine). record c { tree = ks }) (append_assoc c.tree (line ∷ []) ls);
      }

  -- behind the lines of the version, the period and the answer
  rest_said : (c : Content) → AreSaid own (record { version = c.version; period = c.period; answer = c.answer; times = []; cycles = []; tree = [] })
      (((map time_item c.times ++ map Cycle c.cycles) ++ map tree_item c.tree) ++ End ∷ []) own c
  rest_said c =
      let first : Content = record { version = c.version; period = c.period; answer = c.answer; times = []; cycles = []; tree = [] } in
      let timed : Content = record first { times = c.times } in
      let cycled : Content = record timed { cycles = c.cycles } in
      let a = said_then own own own first timed cycled (map time_item c.times) (map Cycle c.cycles)
      (times_said first c.times) (cycles_said timed c.cycles) in
      let b = said_then own own own first cycled c (map time_item c.times ++ map Cycle c.cycles) (map tree_item c.tree)
      a (tree_said cycled c.tree) in
      said_then own own own first c c ((map time_item c.times ++ map Cycle c.cycles) ++ map tree_item c.tree) (End ∷ [])
      b (record { notes = refl; adds = refl })

-- the items of a content add up to it, and end the lemma that was being shown
own_said : (begun : Bool) (scale : ℕ) (walks : List (List MarkedRow)) (lemmas : List LemmaProof) (shown : Option LemmaProof) (c : Content)
    → AreSaid (at begun scale walks lemmas shown) blank (own_items c) (at begun scale walks (lemmas_with lemmas shown) None) c
own_said begun scale walks lemmas shown c =
    let rest = rest_said begun scale walks (lemmas_with lemmas shown) c in record { notes = rest.notes; adds = rest.adds }

-- ---- a lemma

module _ (begun : Bool) (scale : ℕ) (walks : List (List MarkedRow)) (lemmas : List LemmaProof) (c : Content) where
  abbrev showing : LemmaProof → FrontValue
  showing s = at begun scale walks lemmas (Some s)

  walks_shown : (s : LemmaProof) (ws : List (List MarkedRow))
      → AreSaid (showing s) c (map Walk ws) (showing (record s { marks = record { scale = s.marks.scale; walks = s.marks.walks ++ ws } })) c
  walks_shown s [] = record {
    notes = ap (λ (vs : List (List MarkedRow)). showing (record s { marks = record { scale = s.marks.scale; walks = vs } }))
        (sym (append-nil s.marks.walks));
    adds = refl;
  }
  walks_shown s (w ∷ ws) =
      let later = walks_shown (record s { marks = record { scale = s.marks.scale; walks = s.marks.walks ++ w ∷ [] } }) ws in
      record {
        notes = later.notes ∙ ap (λ (vs : List (List MarkedRow)). showing (record s { marks = record { scale = s.marks.scale; walks = vs } }))
            (append_assoc s.marks.walks (w ∷ []) ws);
        adds = later.adds;
      }

  cycles_shown : (s : LemmaProof) (cs : List (List SignedRow))
      → AreSaid (showing s) c (map Cycle cs) (showing (record s { cycles = s.cycles ++ cs })) c
  cycles_shown s [] = record {
    notes = ap (λ (vs : List (List SignedRow)). showing (record s { cycles = vs })) (sym (append-nil s.cycles));
    adds = refl;
  }
  cycles_shown s (w ∷ cs) =
      let later = cycles_shown (record s { cycles = s.cycles ++ w ∷ [] }) cs in
      record {
        notes = later.notes ∙ ap (λ (vs : List (List SignedRow)). showing (record s { cycles = vs })) (append_assoc s.cycles (w ∷ []) cs);
        adds = later.adds;
      }

  step_shown : (s : LemmaProof) (line : TreeLine) → AreSaid (showing s) c (tree_item line ∷ []) (showing (with_step s line)) c
  step_shown s (lines.Slack row k) = record { notes = refl; adds = refl }
  step_shown s (lines.Offset cycle k) = record { notes = refl; adds = refl }
  step_shown s (lines.Bound ps) = record { notes = refl; adds = refl }
  step_shown s (lines.Nothing ps) = record { notes = refl; adds = refl }
  step_shown s (lines.Gap cycle) = record { notes = refl; adds = refl }
  step_shown s lines.Propagated = record { notes = refl; adds = refl }

  tree_shown : (s : LemmaProof) (ls : List TreeLine)
      → AreSaid (showing s) c (map tree_item ls) (showing (record s { tree = s.tree ++ ls })) c
  tree_shown s [] = record {
    notes = ap (λ (ks : List TreeLine). showing (record s { tree = ks })) (sym (append-nil s.tree));
    adds = refl;
  }
  tree_shown s (line ∷ ls) =
      let both = said_then (showing s) (showing (with_step s line)) (showing (record s { tree = (s.tree ++ line ∷ []) ++ ls }))
      c c c (tree_item line ∷ []) (map tree_item ls) (step_shown s line) (tree_shown (with_step s line) ls) in
      record {
        notes = both.notes ∙ ap (λ (ks : List TreeLine). showing (record s { tree = ks })) (append_assoc s.tree (line ∷ []) ls);
        adds = both.adds;
      }

  -- behind the lines of its rows, its least sum and its scale
  rest_shown : (s : LemmaProof)
      → AreSaid (showing (record { fact = s.fact; marks = record { scale = s.marks.scale; walks = [] }; cycles = []; tree = [] })) c
      ((map Walk s.marks.walks ++ map Cycle s.cycles) ++ map tree_item s.tree) (showing s) c
  rest_shown s =
      let first : LemmaProof = record { fact = s.fact; marks = record { scale = s.marks.scale; walks = [] }; cycles = []; tree = [] } in
      let marked : LemmaProof = record first { marks = s.marks } in
      let cycled : LemmaProof = record marked { cycles = s.cycles } in
      let a = said_then (showing first) (showing marked) (showing cycled) c c c (map Walk s.marks.walks) (map Cycle s.cycles)
      (walks_shown first s.marks.walks) (cycles_shown marked s.cycles) in
      said_then (showing first) (showing cycled) (showing s) c c c (map Walk s.marks.walks ++ map Cycle s.cycles) (map tree_item s.tree)
      a (tree_shown cycled s.tree)

one_shown : (begun : Bool) (scale : ℕ) (walks : List (List MarkedRow)) (lemmas : List LemmaProof) (shown : Option LemmaProof) (c : Content)
    (s : LemmaProof) → AreSaid (at begun scale walks lemmas shown) c (lemma_items s)
    (at begun scale walks (lemmas_with lemmas shown) (Some s)) c
one_shown begun scale walks lemmas shown c s =
    let rest = rest_shown begun scale walks (lemmas_with lemmas shown) c s in record { notes = rest.notes; adds = rest.adds }

-- lemmas, and the content behind them
all_shown : (begun : Bool) (scale : ℕ) (walks : List (List MarkedRow)) (lemmas : List LemmaProof) (shown : Option LemmaProof)
    (ss : List LemmaProof) (c : Content) → AreSaid (at begun scale walks lemmas shown) blank (flat_map lemma_items ss ++ own_items c)
    (at begun scale walks (lemmas_with lemmas shown ++ ss) None) c
all_shown begun scale walks lemmas shown [] c =
    let own = own_said begun scale walks lemmas shown c in
    record {
      notes = own.notes ∙ ap (λ (ls : List LemmaProof). at begun scale walks ls None) (sym (append-nil (lemmas_with lemmas shown)));
      adds = own.adds;
    }
all_shown begun scale walks lemmas shown (s ∷ ss) c =
    let so_far = lemmas_with lemmas shown in
    let later = all_shown begun scale walks so_far (Some s) ss c in
    let both = said_then (at begun scale walks lemmas shown) (at begun scale walks so_far (Some s))
    (at begun scale walks ((so_far ++ s ∷ []) ++ ss) None) blank blank c (lemma_items s) (flat_map lemma_items ss ++ own_items c)
    (one_shown begun scale walks lemmas shown blank s) later in
    let shape : flat_map lemma_items (s ∷ ss) ++ own_items c ≡ lemma_items s ++ (flat_map lemma_items ss ++ own_items c) =
    ap (λ (is : List Item). is ++ own_items c) (flat_map-cons lemma_items s ss)
    ∙ append_assoc (lemma_items s) (flat_map lemma_items ss) (own_items c) in
    record {
      notes = ap (all_noted (at begun scale walks lemmas shown)) shape ∙ both.notes
          ∙ ap (λ (ls : List LemmaProof). at begun scale walks ls None) (append_assoc so_far (s ∷ []) ss);
      adds = ap (all_added (at begun scale walks lemmas shown) blank) shape ∙ both.adds;
    }

-- ---- the whole

walks_said : (scale : ℕ) (walks ws : List (List MarkedRow))
    → AreSaid (at true scale walks [] None) blank (map Walk ws) (at true scale (walks ++ ws) [] None) blank
walks_said scale walks [] = record {
  notes = ap (λ (vs : List (List MarkedRow)). at true scale vs [] None) (sym (append-nil walks));
  adds = refl;
}
walks_said scale walks (w ∷ ws) =
    let later = walks_said scale (walks ++ w ∷ []) ws in
    record {
      notes = later.notes ∙ ap (λ (vs : List (List MarkedRow)). at true scale vs [] None) (append_assoc walks (w ∷ []) ws);
      adds = later.adds;
    }

front_said_of : (f : Front) (c : Content) → AreSaid no_front blank (items_of (Some f) c)
    (at true f.marks.scale f.marks.walks f.lemmas None) c
front_said_of f c =
    let both = said_then (at true f.marks.scale [] [] None) (at true f.marks.scale f.marks.walks [] None)
    (at true f.marks.scale f.marks.walks f.lemmas None) blank blank c (map Walk f.marks.walks) (flat_map lemma_items f.lemmas ++ own_items c)
    (walks_said f.marks.scale [] f.marks.walks) (all_shown true f.marks.scale f.marks.walks [] None f.lemmas c) in
    let shape : (map Walk f.marks.walks ++ flat_map lemma_items f.lemmas) ++ own_items c
    ≡ map Walk f.marks.walks ++ (flat_map lemma_items f.lemmas ++ own_items c) =
    append_assoc (map Walk f.marks.walks) (flat_map lemma_items f.lemmas) (own_items c) in
    record {
      notes = ap (all_noted (at true f.marks.scale [] [] None)) shape ∙ both.notes;
      adds = ap (all_added (at true f.marks.scale [] [] None) blank) shape ∙ both.adds;
    }

pub all_added-items_of : (front : Option Front) (c : Content) → all_added no_front blank (items_of front c) ≡ c
all_added-items_of None c = (own_said false 0 [] [] None c).adds
all_added-items_of (Some f) c = (front_said_of f c).adds

-- the items of a front and a content say the front
pub front_said-items_of : (front : Option Front) (c : Content) → front_said (all_noted no_front (items_of front c)) ≡ front
front_said-items_of None c = ap front_said (own_said false 0 [] [] None c).notes
front_said-items_of (Some f) c = ap front_said (front_said_of f c).notes
