-- The front, the period, the answer and the times as they come, and when all of them came.
use Rattle.std.proofs.Common.{◌≡◌, ◌⊎◌, inl, inr, ℕ, ◌+◌, arith, cond, Bool, true, false, List, [], ◌∷◌, ◌++◌, length, map, take, refl, sym, ap, subst, ◌∙◌, append_assoc, Option, Some, None}
use Rattle.std.specs.Prelude.{ℤ, IfSome}
use Rattle.std.specs.List.{list_all, sum_by, flat_map}
use Rattle.std.proofs.lemmas.List.{take_more, take_all}
use Rattle.pesp_problem.specs.Timetables.{Pesp}
use Rattle.pesp_truth.specs.declared.answer.Answer.{Answer}
use Rattle.pesp_problem.specs.declared.marked.MarkedRow.{MarkedRow}
use Rattle.pesp_truth.specs.Marks.{Marks}
use Rattle.pesp_truth.specs.Certificates.{Content, ShowsAnswer, Front as FrontOf}
use Rattle.pesp_truth.specs.Shown.{LemmaProof, lemma_lines, AreShownLemmas}
use Rattle.pesp_problem.specs.Arcs.{net_of}
use Rattle.pesp_cert_lines.specs.declared.item.Item.{Item}
use Rattle.pesp_cert_lines.specs.declared.item.Item.TheVariants.{Front, Scale, Walk, Lemma, Least, Version, Period, Answer as Says, Time, Cycle, Slack, Offset, Bound, Nothing, Gap, Propagated, End}
use Rattle.pesp_cert.specs.Texts.{time_item, lemma_items}
use Rattle.pesp_cert_items.specs.declared.item.Item.{Item as LentItem}
use Rattle.pesp_cert_items.specs.declared.item.Item.TheVariants as lent
use Rattle.pesp_cert_items.specs.declared.text_line.TextLine.{TextLine}
use Rattle.pesp_cert_items.specs.declared.text_line.TextLine.TheVariants as texts
use Rattle.pesp_cert_items.specs.Lent.{listed, item_said, marked_in}
use Rattle.pesp_judges.specs.declared.refusal.Refusal.{Refusal}
use Rattle.pesp_problem.specs.Nets.{AreNets}
use Rattle.pesp_judges.proofs.Tables.{nets_none}
use Rattle.pesp_check.specs.Items.{is_later, is_mark, ends_lemma, says_no_answer, begins_later}
use Rattle.pesp_check.specs.declared.stage.Stage.{Stage}
use Rattle.pesp_check.specs.declared.stage.Stage.TheVariants as stages
use Rattle.pesp_judges.specs.Faults.{own_line}
use Rattle.pesp_check.specs.Judging.{Kept, MarksSaid, marks_said, marks_noted, cycles_from, times_from, behind, lemmas_from, walks_from, items_left, LemmasShown, LemmasTo, MarksTo, FrontCame, HeadTo, FrontTo, JudgedAt}
use Rattle.pesp_whole_check.specs.Inner.{IsHeadFault}
use Rattle.pesp_check.proofs.Lists.{IsNext, next_of, cycles_later, tree_later}
use Rattle.pesp_check.proofs.Lemmas.{next_lemma, lemmas_begin}
use Rattle.pesp_check.proofs.Passed.{passed, answer_came, all_cycles}
use Rattle.pesp_whole_check.proofs.Refusing.{own_adds, head_refused}

-- an item that stands behind a front says nothing of it
pub own_noted : (f : MarksSaid) (item : LentItem) → f ≡ marks_noted f (listed item)
own_noted f (lent.Version n) = refl
own_noted f (lent.Period n) = refl
own_noted f (lent.Answer a) = refl
own_noted f (lent.Time l t) = refl
own_noted f (lent.Cycle r) = refl
own_noted f (lent.Slack row k) = refl
own_noted f (lent.Offset cycle k) = refl
own_noted f (lent.Bound ps) = refl
own_noted f (lent.Nothing ps) = refl
own_noted f (lent.Gap cycle) = refl
own_noted f lent.Propagated = refl

-- an item that doesn't come behind the times is left only while the times are not judged, or behind a refusal
at_stage : (stage : Stage) (p : Pesp) (front : Option FrontOf) (c : Content) (item : Item) (rest : List Item) (kept kept' : Kept)
    → is_later item ≡ false → kept'.table ≡ kept.table
    → ((r : Refusal) → JudgedAt (stages.Refused r) p front c (item ∷ rest) kept → JudgedAt (stages.Refused r) p front c rest kept')
    → (FrontTo p front c (item ∷ rest) kept → FrontTo p front c rest kept')
    → JudgedAt stage p front c (item ∷ rest) kept → JudgedAt stage p front c rest kept'
at_stage stages.Front p front c item rest kept kept' e same refused step h = (same ∙ h.0, step h.1)
at_stage stages.Cycles p front c item rest kept kept' e same refused step h = let l = cycles_later c h.0 item rest h.1.left in absurd cc
at_stage stages.Tree p front c item rest kept kept' e same refused step h = let l = tree_later c h.0 item rest h.2.left in absurd cc
at_stage (stages.Refused r) p front c item rest kept kept' e same refused step h = refused r h

-- ---- lines before the period, and those behind the version

-- it stands before the period
abbrev is_first : Item → Bool
is_first Front = true
is_first (Scale n) = true
is_first (Walk walk) = true
is_first (Lemma ps) = true
is_first (Version n) = true
is_first _ = false

first_not_later : (item : Item) → is_first item ≡ true → is_later item ≡ false
first_not_later Front h = refl
first_not_later (Scale n) h = refl
first_not_later (Walk walk) h = refl
first_not_later (Lemma ps) h = refl
first_not_later (Least n) h = refl
first_not_later (Version n) h = refl
first_not_later (Period n) h = absurd cc
first_not_later (Says a) h = absurd cc
first_not_later (Time l t) h = absurd cc
first_not_later (Cycle rows) h = absurd cc
first_not_later (Slack row k) h = absurd cc
first_not_later (Offset cycle k) h = absurd cc
first_not_later (Bound ps) h = absurd cc
first_not_later (Nothing ps) h = absurd cc
first_not_later (Gap cycle) h = absurd cc
first_not_later Propagated h = absurd cc
first_not_later End h = absurd cc

end_is_first : (item : Item) → ends_lemma item ≡ true → is_first item ≡ true
end_is_first (Lemma ps) h = refl
end_is_first (Version n) h = refl
end_is_first Front h = refl
end_is_first (Scale n) h = refl
end_is_first (Walk walk) h = refl
end_is_first (Least n) h = absurd cc
end_is_first (Period n) h = absurd cc
end_is_first (Says a) h = absurd cc
end_is_first (Time l t) h = absurd cc
end_is_first (Cycle rows) h = absurd cc
end_is_first (Slack row k) h = absurd cc
end_is_first (Offset cycle k) h = absurd cc
end_is_first (Bound ps) h = absurd cc
end_is_first (Nothing ps) h = absurd cc
end_is_first (Gap cycle) h = absurd cc
end_is_first Propagated h = absurd cc
end_is_first End h = absurd cc

-- so it is a time, where some may come
next_time : (c : Content) (k : ℕ) (item : Item) (rest : List Item) → is_later item ≡ false
    → item ∷ rest ≡ times_from c k → (t : ℤ × ℕ) × IsNext time_item c.times k (cycles_from c 0) item rest t
next_time c k item rest e h = elim (next_of time_item c.times k (cycles_from c 0) item rest h) [
  | inl n ↦ n
  | inr n ↦ let l = cycles_later c 0 item rest n.1 in absurd cc
]

head_not : (front : Option FrontOf) (c : Content) (item : Item) (rest : List Item) (kept : Kept) → is_first item ≡ true
    → HeadTo front c (item ∷ rest) kept → ⊥
head_not front c item rest kept first (inl h) =
    let is : item ≡ Period c.period = (let e = h.2 in cc) in let bad : true ≡ false = sym first ∙ ap is_first is in cc
head_not front c item rest kept first (inr (inl h)) =
    let is : item ≡ Says c.answer = (let e = h.3 in cc) in let bad : true ≡ false = sym first ∙ ap is_first is in cc
head_not front c item rest kept first (inr (inr h)) =
    let t = next_time c h.0 item rest (first_not_later item first) h.1.left in
    let bad : true ≡ false = sym first ∙ ap is_first t.1.item_is in cc

-- the first item of a text is one before the period
begins_first : (front : Option FrontOf) (c : Content) (item : Item) (rest : List Item) → item ∷ rest ≡ items_left front c → is_first item ≡ true
begins_first None c item rest e =
    let f : item ∷ rest ≡ behind c = e in let is : item ≡ Version c.version = cc in ap is_first is
begins_first (Some f) c item rest e = let is : item ≡ Front = cc in ap is_first is

-- and so is each marked walk, and what stands behind them
walks_first : (f : FrontOf) (c : Content) (k : ℕ) (item : Item) (rest : List Item) → item ∷ rest ≡ walks_from f c k → is_first item ≡ true
walks_first f c k item rest e = elim (next_of Walk f.marks.walks k (lemmas_from f c 0) item rest e) [
  | inl n ↦ ap is_first n.1.item_is
  | inr n ↦ end_is_first item (lemmas_begin f c 0 item rest n.1)
]

-- while no lemma is coming, it stands before the period, where the version has not come
marks_first : (p : Pesp) (front : Option FrontOf) (c : Content) (item : Item) (rest : List Item) (kept : Kept) → kept.lemma ≡ None
    → MarksTo p front c (item ∷ rest) kept → is_first item ≡ true
marks_first p front c item rest kept none (inl h) = begins_first front c item rest h.4
marks_first p front c item rest kept none (inr (inl h)) =
    let is : item ≡ Scale h.0.marks.scale = (let e = h.6 in cc) in ap is_first is
marks_first p front c item rest kept none (inr (inr (inl h))) = walks_first h.0 c h.1 item rest h.5.left
marks_first p front c item rest kept none (inr (inr (inr (inl h)))) =
    let some = h.3.some in let bad : Some h.3.kept_lemma ≡ None = sym some ∙ none in absurd cc
marks_first p front c item rest kept none (inr (inr (inr (inr h)))) = end_is_first item (lemmas_begin h.0 c h.1 item rest h.3.left)

pub marks_of : (p : Pesp) (front : Option FrontOf) (c : Content) (item : Item) (rest : List Item) (kept : Kept) → is_first item ≡ true
    → FrontTo p front c (item ∷ rest) kept → (kept.times ≡ []) × MarksTo p front c (item ∷ rest) kept
marks_of p front c item rest kept first (inl h) = h
marks_of p front c item rest kept first (inr h) = absurd (head_not front c item rest kept first h.1)

head_of : (p : Pesp) (front : Option FrontOf) (c : Content) (item : Item) (rest : List Item) (kept : Kept) → is_first item ≡ false
    → kept.lemma ≡ None → FrontTo p front c (item ∷ rest) kept → FrontCame p front kept × HeadTo front c (item ∷ rest) kept
head_of p front c item rest kept other none (inl h) = let first = marks_first p front c item rest kept none h.1 in absurd cc
head_of p front c item rest kept other none (inr h) = h

-- the same of a front while what was said of it stays
pub came_still : (p : Pesp) (front : Option FrontOf) (old new : Kept) → new.draft ≡ old.draft → new.facts ≡ old.facts → new.lemma ≡ old.lemma
    → FrontCame p front old → FrontCame p front new
came_still p None old new d f l h = (ap marks_said d ∙ h.0, f ∙ h.1, l ∙ h.2)
came_still p (Some g) old new d f l h = (
  l ∙ h.0,
  record {
    within = h.1.within;
    said = ap marks_said d ∙ h.1.said;
    shown = h.1.shown;
    facts = f ∙ h.1.facts;
  },
)

-- ---- the lines of a front

begin_marks : (p : Pesp) (front : Option FrontOf) (c : Content) (rest : List Item) (kept : Kept) → kept.lemma ≡ None
    → MarksTo p front c (Front ∷ rest) kept
    → MarksTo p front c rest (record kept { line = kept.line + 1; draft = record kept.draft { begun = true } })
begin_marks p None c rest kept none (inl h) = let e : Front ∷ rest ≡ behind c = h.4 in absurd cc
begin_marks p (Some f) c rest kept none (inl h) =
    let e : Front ∷ rest ≡ Front ∷ Scale f.marks.scale ∷ (map Walk f.marks.walks ++ flat_map lemma_items f.lemmas) ++ behind c = h.4 in
    inr (inl (
      f,
      refl,
      omega (arith, h.0),
      ap (λ (d : MarksSaid). record d { begun = true }) h.1,
      h.2,
      h.3,
      tail e ∙ ap (λ is. Scale f.marks.scale ∷ is) (append_assoc (map Walk f.marks.walks) (flat_map lemma_items f.lemmas) (behind c)),
    ))
  where
    tail : {x : Item} {xs ys : List Item} → x ∷ xs ≡ x ∷ ys → xs ≡ ys
    tail e = cc
begin_marks p front c rest kept none (inr (inl h)) = let e = h.6 in absurd cc
begin_marks p front c rest kept none (inr (inr (inl h))) = elim (next_of Walk h.0.marks.walks h.1 (lemmas_from h.0 c 0) Front rest h.5.left) [
  | inl n ↦ let e : Front ≡ Walk n.0 = n.1.item_is in absurd cc
  | inr n ↦ let bad : false ≡ true = lemmas_begin h.0 c 0 Front rest n.1 in absurd cc
]
begin_marks p front c rest kept none (inr (inr (inr (inl h)))) = let bad : Some h.3.kept_lemma ≡ None = sym h.3.some ∙ none in absurd cc
begin_marks p front c rest kept none (inr (inr (inr (inr h)))) = let bad : false ≡ true = lemmas_begin h.0 c h.1 Front rest h.3.left in absurd cc

-- a front of this scale and these walks
abbrev marks_with : ℕ → List (List MarkedRow) → Option Marks
marks_with scale walks = Some (record { scale = scale; walks = walks })

scale_marks : (p : Pesp) (front : Option FrontOf) (c : Content) (n : ℕ) (rest : List Item) (kept : Kept) → kept.lemma ≡ None
    → MarksTo p front c (Scale n ∷ rest) kept
    → MarksTo p front c rest (record kept { line = kept.line + 1; draft = record kept.draft { scale = n } })
scale_marks p None c n rest kept none (inl h) = let e : Scale n ∷ rest ≡ behind c = h.4 in absurd cc
scale_marks p (Some f) c n rest kept none (inl h) = let e = h.4 in absurd cc
scale_marks p front c n rest kept none (inr (inl h)) =
    let e : Scale n ∷ rest ≡ Scale h.0.marks.scale ∷ walks_from h.0 c 0 = h.6 in
    let same : n ≡ h.0.marks.scale = cc in
    inr (inr (inl (
      h.0,
      0,
      h.1,
      h.4,
      h.5,
      record {
        within = omega arith;
        said = ap (λ (d : MarksSaid). marks_said (record d { scale = n })) h.3
            ∙ ap (λ (m : ℕ). marks_with m (take 0 h.0.marks.walks)) same;
        line = omega (arith, h.2);
        left = cc;
      },
    )))
scale_marks p front c n rest kept none (inr (inr (inl h))) =
    elim (next_of Walk h.0.marks.walks h.1 (lemmas_from h.0 c 0) (Scale n) rest h.5.left) [
      | inl m ↦ let e : Scale n ≡ Walk m.0 = m.1.item_is in absurd cc
      | inr m ↦ let bad : false ≡ true = lemmas_begin h.0 c 0 (Scale n) rest m.1 in absurd cc
    ]
scale_marks p front c n rest kept none (inr (inr (inr (inl h)))) = let bad : Some h.3.kept_lemma ≡ None = sym h.3.some ∙ none in absurd cc
scale_marks p front c n rest kept none (inr (inr (inr (inr h)))) =
    let bad : false ≡ true = lemmas_begin h.0 c h.1 (Scale n) rest h.3.left in absurd cc

abbrev scale_in : Option Marks → ℕ
scale_in None = 0
scale_in (Some marks) = marks.scale

abbrev walks_in : Option Marks → List (List MarkedRow)
walks_in None = []
walks_in (Some marks) = marks.walks

-- one more walk behind those that were said
said_more : (draft : MarksSaid) (scale : ℕ) (walks : List (List MarkedRow)) (walk : List MarkedRow)
    → marks_said draft ≡ marks_with scale walks
    → marks_said (record draft { walks = draft.walks ++ walk ∷ [] }) ≡ marks_with scale (walks ++ walk ∷ [])
said_more draft scale walks walk e = go draft.begun e
  where
    go : (b : Bool) → cond b (marks_with draft.scale draft.walks) None ≡ marks_with scale walks
        → cond b (marks_with draft.scale (draft.walks ++ walk ∷ [])) None ≡ marks_with scale (walks ++ walk ∷ [])
    go true e =
        ap (λ (m : ℕ). marks_with m (draft.walks ++ walk ∷ [])) (ap scale_in e)
        ∙ ap (λ (ws : List (List MarkedRow)). marks_with scale (ws ++ walk ∷ [])) (ap walks_in e)
    go false e = absurd cc

walk_marks : (p : Pesp) (front : Option FrontOf) (c : Content) (walk : List MarkedRow) (rest : List Item) (kept : Kept) → kept.lemma ≡ None
    → MarksTo p front c (Walk walk ∷ rest) kept
    → MarksTo p front c rest (record kept { line = kept.line + 1; draft = record kept.draft { walks = kept.draft.walks ++ walk ∷ [] } })
walk_marks p None c walk rest kept none (inl h) = let e : Walk walk ∷ rest ≡ behind c = h.4 in absurd cc
walk_marks p (Some f) c walk rest kept none (inl h) = let e = h.4 in absurd cc
walk_marks p front c walk rest kept none (inr (inl h)) = let e = h.6 in absurd cc
walk_marks p front c walk rest kept none (inr (inr (inl h))) =
    elim (next_of Walk h.0.marks.walks h.1 (lemmas_from h.0 c 0) (Walk walk) rest h.5.left) [
      | inl n ↦
          let marks = h.0.marks in
          let k = h.1 in
          let e : Walk walk ≡ Walk n.0 = n.1.item_is in
          let same : walk ≡ n.0 = cc in
          inr (inr (inl (
            h.0,
            k + 1,
            h.2,
            h.3,
            h.4,
            record {
              within = omega (arith, n.1.within);
              said = said_more kept.draft marks.scale (take k marks.walks) walk h.5.said
                  ∙ ap (λ (ws : List (List MarkedRow)). marks_with marks.scale ws)
                  (ap (λ (w : List MarkedRow). take k marks.walks ++ w ∷ []) (same ∙ n.1.read)
                  ∙ sym (take_more marks.walks k n.0 n.1.within));
              line = omega (arith, h.5.line);
              left = n.1.left;
            },
          )))
      | inr n ↦ let bad : false ≡ true = lemmas_begin h.0 c 0 (Walk walk) rest n.1 in absurd cc
    ]
walk_marks p front c walk rest kept none (inr (inr (inr (inl h)))) = let bad : Some h.3.kept_lemma ≡ None = sym h.3.some ∙ none in absurd cc
walk_marks p front c walk rest kept none (inr (inr (inr (inr h)))) =
    let bad : false ≡ true = lemmas_begin h.0 c h.1 (Walk walk) rest h.3.left in absurd cc

-- ---- behind the lemmas

-- nothing came, or so many lemmas, and the next one or the version is coming
pub record NothingCame (front : Option FrontOf) (c : Content) (rest : List Item) (kept : Kept) : Type 0 where
  pub front_is : front ≡ None
  pub line : kept.line ≡ 0
  pub draft : marks_said kept.draft ≡ None
  pub facts : kept.facts ≡ []
  pub left : rest ≡ behind c

pub lemmas_to : (p : Pesp) (front : Option FrontOf) (c : Content) (item : Item) (rest : List Item) (kept : Kept) → kept.lemma ≡ None
    → ends_lemma item ≡ true → MarksTo p front c (item ∷ rest) kept
    → NothingCame front c (item ∷ rest) kept ⊎ ((f : FrontOf) × (j : ℕ) × (front ≡ Some f) × LemmasTo p f c (item ∷ rest) kept j)
lemmas_to p None c item rest kept none e (inl h) =
    inl (record { front_is = refl; line = h.0; draft = ap marks_said h.1; facts = h.2; left = h.4 })
lemmas_to p (Some f) c item rest kept none e (inl h) =
    let is : item ≡ Front = (let l = h.4 in cc) in let bad : true ≡ false = sym e ∙ ap ends_lemma is in absurd cc
lemmas_to p front c item rest kept none e (inr (inl h)) =
    let is : item ≡ Scale h.0.marks.scale = (let l = h.6 in cc) in let bad : true ≡ false = sym e ∙ ap ends_lemma is in absurd cc
lemmas_to p front c item rest kept none e (inr (inr (inl h))) =
    elim (next_of Walk h.0.marks.walks h.1 (lemmas_from h.0 c 0) item rest h.5.left) [
      | inl n ↦ let bad : true ≡ false = sym e ∙ ap ends_lemma n.1.item_is in absurd cc
      | inr n ↦ inr (
        h.0,
        0,
        h.2,
        record {
          shown = record {
            within = omega arith;
            said = h.5.said ∙ ap (λ (ws : List (List MarkedRow)). marks_with h.0.marks.scale ws) (take_all h.1 h.0.marks.walks n.0);
            shown = tt;
            facts = h.3;
          };
          none = h.4;
          line = omega (arith, h.5.line, h.5.within, n.0);
          left = n.1;
        },
      )
    ]
lemmas_to p front c item rest kept none e (inr (inr (inr (inl h)))) = let bad : Some h.3.kept_lemma ≡ None = sym h.3.some ∙ none in absurd cc
lemmas_to p front c item rest kept none e (inr (inr (inr (inr h)))) = inr h

-- what is left and what was said where the version comes
record IsVersionAt (p : Pesp) (front : Option FrontOf) (c : Content) (rest : List Item) (kept : Kept) : Type 0 where
  pub came : FrontCame p front kept
  pub line : kept.line + 1 ≡ own_line front 1
  pub left : rest ≡ Period c.period ∷ Says c.answer ∷ times_from c 0

version_at : (p : Pesp) (front : Option FrontOf) (c : Content) (n : ℕ) (rest : List Item) (kept : Kept) → kept.lemma ≡ None
    → MarksTo p front c (Version n ∷ rest) kept → IsVersionAt p front c rest kept
version_at p front c n rest kept none h = elim (lemmas_to p front c (Version n) rest kept none refl h) [
  | inl m ↦
      let P : Option FrontOf → Type 0 = λ g. IsVersionAt p g c rest kept in
      let e = m.left in
      subst P (sym m.front_is) (record { came = (m.draft, m.facts, none); line = omega (arith, m.line); left = cc })
  | inr m ↦ elim (next_lemma m.0.lemmas (behind c) m.1 (Version n) rest m.3.left) [
    | inl l ↦ let bad : Version n ≡ Lemma l.0.fact.weights = l.1.item_is in absurd cc
    | inr l ↦
        let P : Option FrontOf → Type 0 = λ g. IsVersionAt p g c rest kept in
        let f = m.0 in
        let all : m.1 ≡ length f.lemmas = omega (arith, m.3.shown.within, l.0) in
        let e = l.1 in
        let lines = ap (sum_by lemma_lines) (take_all m.1 f.lemmas l.0) in
        let S : ℕ → Type 0 = λ j. LemmasShown p f kept j in
        subst P (sym m.2) (record { came = (none, subst S all m.3.shown); line = omega (arith, m.3.line, lines); left = cc })
  ]
]

-- ---- the certificate's own lines

version_front : (p : Pesp) (front : Option FrontOf) (c : Content) (n : ℕ) (rest : List Item) (kept : Kept) → kept.lemma ≡ None
    → FrontTo p front c (Version n ∷ rest) kept → FrontTo p front c rest (record kept { line = kept.line + 1 })
version_front p front c n rest kept none h =
    let marks = marks_of p front c (Version n) rest kept refl h in
    let at = version_at p front c n rest kept none marks.1 in
    inr (came_still p front kept (record kept { line = kept.line + 1 }) refl refl refl at.came, inl (at.line, marks.0, at.left))

period_head : (front : Option FrontOf) (c : Content) (n : ℕ) (rest : List Item) (kept : Kept) → HeadTo front c (Period n ∷ rest) kept
    → HeadTo front c rest (record kept { line = kept.line + 1; period = n })
period_head front c n rest kept (inl h) =
    let e = h.2 in inr (inl (ap (λ m. m + 1) h.0 ∙ own_adds front 1 1, h.1, cc, cc))
period_head front c n rest kept (inr (inl h)) = let e = h.3 in absurd cc
period_head front c n rest kept (inr (inr h)) = let t = next_time c h.0 (Period n) rest refl h.1.left in
    let e : Period n ≡ Time t.0.0 t.0.1 = t.1.item_is in absurd cc

answer_head : (front : Option FrontOf) (c : Content) (a : Answer) (rest : List Item) (kept : Kept) → HeadTo front c (Says a ∷ rest) kept
    → HeadTo front c rest (record kept { line = kept.line + 1; answer = a })
answer_head front c a rest kept (inl h) = let e = h.2 in absurd cc
answer_head front c a rest kept (inr (inl h)) =
    let e = h.3 in
    inr (inr (
      0,
      record {
        period = h.2;
        answer = cc;
        within = omega arith;
        times = h.1;
        line = ap (λ m. m + 1) h.0 ∙ own_adds front 2 1;
        left = cc;
      },
    ))
answer_head front c a rest kept (inr (inr h)) = let t = next_time c h.0 (Says a) rest refl h.1.left in
    let e : Says a ≡ Time t.0.0 t.0.1 = t.1.item_is in absurd cc

time_head : (front : Option FrontOf) (c : Content) (label : ℤ) (time : ℕ) (rest : List Item) (kept : Kept)
    → HeadTo front c (Time label time ∷ rest) kept → HeadTo front c rest
    (record kept { line = kept.line + 1; times = kept.times ++ (label, time) ∷ [] })
time_head front c label time rest kept (inl h) = let e = h.2 in absurd cc
time_head front c label time rest kept (inr (inl h)) = let e = h.3 in absurd cc
time_head front c label time rest kept (inr (inr h)) =
    let k = h.0 in
    let t = next_time c k (Time label time) rest refl h.1.left in
    let e : Time label time ≡ Time t.0.0 t.0.1 = t.1.item_is in
    let label_is : label ≡ t.0.0 = cc in
    let time_is : time ≡ t.0.1 = cc in
    let same : (label, time) ≡ t.0 = pair label time t.0 label_is time_is in
    inr (inr (
      k + 1,
      record {
        period = h.1.period;
        answer = h.1.answer;
        within = omega (arith, t.1.within);
        times = ap (λ ts. ts ++ (label, time) ∷ []) h.1.times
            ∙ ap (λ (s : ℤ × ℕ). take k c.times ++ s ∷ []) (same ∙ t.1.read)
            ∙ sym (take_more c.times k t.0 t.1.within);
        line = ap (λ m. m + 1) h.1.line ∙ own_adds front (3 + k) 1 ∙ ap (own_line front) (omega arith);
        left = t.1.left;
      },
    ))
  where
    pair : (label : ℤ) (time : ℕ) (t : ℤ × ℕ) → label ≡ t.0 → time ≡ t.1 → (label, time) ≡ t
    pair label time t a b = rw (a, b) refl

-- ---- the same at every stage

module _ (stage : Stage) (p : Pesp) (front : Option FrontOf) (c : Content) (rest : List Item) (kept : Kept) (none : kept.lemma ≡ None) where
  begin_taken : JudgedAt stage p front c (Front ∷ rest) kept
      → JudgedAt stage p front c rest (record kept { line = kept.line + 1; draft = record kept.draft { begun = true } })
  begin_taken = at_stage stage p front c Front rest kept _ refl refl (λ r. passed p front c r Front rest kept _ refl refl refl)
      (λ f. let marks = marks_of p front c Front rest kept refl f in inl (marks.0, begin_marks p front c rest kept none marks.1))

  scale_taken : (n : ℕ) → JudgedAt stage p front c (Scale n ∷ rest) kept
      → JudgedAt stage p front c rest (record kept { line = kept.line + 1; draft = record kept.draft { scale = n } })
  scale_taken n = at_stage stage p front c (Scale n) rest kept _ refl refl (λ r. passed p front c r (Scale n) rest kept _ refl refl refl)
      (λ f. let marks = marks_of p front c (Scale n) rest kept refl f in inl (marks.0, scale_marks p front c n rest kept none marks.1))

  walk_taken : (walk : List MarkedRow) → JudgedAt stage p front c (Walk walk ∷ rest) kept
      → JudgedAt stage p front c rest
      (record kept { line = kept.line + 1; draft = record kept.draft { walks = kept.draft.walks ++ walk ∷ [] } })
  walk_taken walk = at_stage stage p front c (Walk walk) rest kept _ refl refl (λ r. passed p front c r (Walk walk) rest kept _ refl refl refl)
      (λ f. let marks = marks_of p front c (Walk walk) rest kept refl f in inl (marks.0, walk_marks p front c walk rest kept none marks.1))

  -- no least sum stands there
  least_taken : (n : ℤ) → JudgedAt stage p front c (Least n ∷ rest) kept → JudgedAt stage p front c rest (record kept { line = kept.line + 1 })
  least_taken n = at_stage stage p front c (Least n) rest kept _ refl refl (λ r. passed p front c r (Least n) rest kept _ refl refl refl)
      (λ f. let head = head_of p front c (Least n) rest kept refl none f in absurd (no_least n head.1))
    where
      no_least : (n : ℤ) → HeadTo front c (Least n ∷ rest) kept → ⊥
      no_least n (inl h) = let e = h.2 in cc
      no_least n (inr (inl h)) = let e = h.3 in cc
      no_least n (inr (inr h)) = let t = next_time c h.0 (Least n) rest refl h.1.left in let e : Least n ≡ Time t.0.0 t.0.1 = t.1.item_is in cc

  -- a line of the front itself
  pub mark_taken : (line : TextLine) → is_mark line ≡ true → JudgedAt stage p front c (item_said line ∷ rest) kept
      → JudgedAt stage p front c rest (record kept { line = kept.line + 1; draft = marks_noted kept.draft (item_said line) })
  mark_taken texts.Front e = begin_taken
  mark_taken (texts.Scale n) e = scale_taken n
  mark_taken (texts.Walk walk) e = walk_taken (marked_in walk)
  mark_taken (texts.Least n) e = least_taken n
  mark_taken (texts.Lemma ps) e = absurd cc
  mark_taken (texts.Own item) e = absurd cc

  pub version_taken : (n : ℕ) → JudgedAt stage p front c (Version n ∷ rest) kept → JudgedAt stage p front c rest (record kept { line = kept.line + 1 })
  version_taken n = at_stage stage p front c (Version n) rest kept _ refl refl (λ r. passed p front c r (Version n) rest kept _ refl refl refl)
      (version_front p front c n rest kept none)

  pub period_taken : (n : ℕ) → JudgedAt stage p front c (Period n ∷ rest) kept
      → JudgedAt stage p front c rest (record kept { line = kept.line + 1; period = n })
  period_taken n = at_stage stage p front c (Period n) rest kept _ refl refl (λ r. passed p front c r (Period n) rest kept _ refl refl refl)
      (λ f. let head = head_of p front c (Period n) rest kept refl none f in
      inr (came_still p front kept (record kept { line = kept.line + 1; period = n }) refl refl refl head.0, period_head front c n rest kept head.1))

  pub answer_taken : (a : Answer) → JudgedAt stage p front c (Says a ∷ rest) kept
      → JudgedAt stage p front c rest (record kept { line = kept.line + 1; answer = a })
  answer_taken a = at_stage stage p front c (Says a) rest kept _ refl refl
      (λ r h. record { none = h.none; answer = answer_came c a rest kept.answer h.answer; first = h.first })
      (λ f. let head = head_of p front c (Says a) rest kept refl none f in
      inr (came_still p front kept (record kept { line = kept.line + 1; answer = a }) refl refl refl head.0, answer_head front c a rest kept head.1))

  pub time_taken : (label : ℤ) (time : ℕ) → JudgedAt stage p front c (Time label time ∷ rest) kept
      → JudgedAt stage p front c rest (record kept { line = kept.line + 1; times = kept.times ++ (label, time) ∷ [] })
  time_taken label time = at_stage stage p front c (Time label time) rest kept _ refl refl
      (λ r. passed p front c r (Time label time) rest kept _ refl refl refl)
      (λ f. let head = head_of p front c (Time label time) rest kept refl none f in
      inr (
        came_still p front kept (record kept { line = kept.line + 1; times = kept.times ++ (label, time) ∷ [] }) refl refl refl head.0,
        time_head front c label time rest kept head.1,
      ))

-- ---- all times came

pub record IsDone (p : Pesp) (front : Option FrontOf) (c : Content) (rest : List Item) (kept : Kept) : Type 0 where
  pub came : FrontCame p front kept
  pub period : kept.period ≡ c.period
  pub answer : kept.answer ≡ c.answer
  pub times : kept.times ≡ c.times
  pub line : kept.line ≡ own_line front (3 + length c.times)
  pub left : rest ≡ cycles_from c 0

later_not_first : (item : Item) → is_later item ≡ true → is_first item ≡ false
later_not_first Front h = absurd cc
later_not_first (Scale n) h = absurd cc
later_not_first (Walk walk) h = absurd cc
later_not_first (Lemma ps) h = absurd cc
later_not_first (Least n) h = absurd cc
later_not_first (Version n) h = absurd cc
later_not_first (Period n) h = refl
later_not_first (Says a) h = refl
later_not_first (Time l t) h = refl
later_not_first (Cycle rows) h = refl
later_not_first (Slack row k) h = refl
later_not_first (Offset cycle k) h = refl
later_not_first (Bound ps) h = refl
later_not_first (Nothing ps) h = refl
later_not_first (Gap cycle) h = refl
later_not_first Propagated h = refl
later_not_first End h = refl

head_done : (p : Pesp) (front : Option FrontOf) (c : Content) (item : Item) (rest : List Item) (kept : Kept) → is_later item ≡ true
    → FrontCame p front kept → HeadTo front c (item ∷ rest) kept → IsDone p front c (item ∷ rest) kept
head_done p front c item rest kept b came (inl h) =
    let is : item ≡ Period c.period = (let e = h.2 in cc) in let l : is_later item ≡ false = ap is_later is in absurd cc
head_done p front c item rest kept b came (inr (inl h)) =
    let is : item ≡ Says c.answer = (let e = h.3 in cc) in let l : is_later item ≡ false = ap is_later is in absurd cc
head_done p front c item rest kept b came (inr (inr h)) =
    let t = h.1 in
    elim (next_of time_item c.times h.0 (cycles_from c 0) item rest t.left) [
      | inl n ↦ let l : is_later item ≡ false = ap is_later n.1.item_is in absurd cc
      | inr n ↦
          let all : h.0 ≡ length c.times = omega (arith, t.within, n.0) in
          record {
            came = came;
            period = t.period;
            answer = t.answer;
            times = t.times ∙ take_all h.0 c.times n.0;
            line = t.line ∙ ap (λ k. own_line front (3 + k)) all;
            left = n.1;
          }
    ]

pub front_done : (p : Pesp) (front : Option FrontOf) (c : Content) (rest : List Item) (kept : Kept) → begins_later rest ≡ true
    → kept.lemma ≡ None → FrontTo p front c rest kept → IsDone p front c rest kept
front_done p front c [] kept b none h = absurd cc
front_done p front c (item ∷ rest) kept b none h =
    let head = head_of p front c item rest kept (later_not_first item b) none h in
    head_done p front c item rest kept b head.0 head.1

-- what was shown of the lemmas
pub shown_of : (p : Pesp) (front : Option FrontOf) (kept : Kept) → FrontCame p front kept → IfSome front (λ f. AreShownLemmas (net_of p) [] f.lemmas)
shown_of p None kept h = tt
shown_of p (Some f) kept h =
    let P : List LemmaProof → Type 0 = λ ss. AreShownLemmas (net_of p) [] ss in
    subst P (take_all (length f.lemmas) f.lemmas (omega arith)) h.1.shown

module _ (p : Pesp) (front : Option FrontOf) (c : Content) (rest : List Item) (kept : Kept) (b : begins_later rest ≡ true)
    (none : kept.lemma ≡ None) (before : JudgedAt stages.Front p front c rest kept) where
  done : IsDone p front c rest kept
  done = front_done p front c rest kept b none before.1

  pub front_ends : (kept.period ≡ p.period) × ShowsAnswer p kept.answer (map (λ t. t.0) kept.times)
      (map (λ t. t.1) kept.times) → JudgedAt stages.Cycles p front c rest kept
  front_ends h = (
    0,
    record {
      shown = record {
        period = sym done.period ∙ h.0;
        answer = done.answer;
        shows = rw (done.answer, done.times) at h.1;
      };
      front_came = done.came;
      within = omega arith;
      nets = subst (AreNets (length p.rows) []) (sym before.0) (nets_none (length p.rows));
      walks = λ i l. absurd (omega arith);
      line = done.line ∙ ap (own_line front) (omega arith);
      left = done.left;
    },
  )

  pub front_refused : (refusal : Refusal) → IsHeadFault p kept.period kept.answer (map (λ t. t.0) kept.times)
      (map (λ t. t.1) kept.times) refusal → JudgedAt (stages.Refused refusal) p front c rest kept
  front_refused refusal f = record {
    none = none;
    answer = inl (done.answer, ap (list_all says_no_answer) done.left ∙ all_cycles c 0);
    first = head_refused p c refusal front (shown_of p front kept done.came) (rw (done.period, done.answer, done.times) at f);
  }
