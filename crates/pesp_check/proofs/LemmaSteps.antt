-- Lemmas that begin, that go on, and that end, as their items come.
use Rattle.std.proofs.Common.{◌≡◌, inl, inr, ℕ, ◌+◌, ◌<◌, arith, true, false, List, [], ◌∷◌, ◌++◌, length, get_or, take, drop, refl, sym, ap, subst, ◌∙◌, Option, Some, None}
use Rattle.std.specs.Prelude.{ℤ, MatchOption}
use Rattle.std.specs.List.{flat_map, sum_by}
use Rattle.std.proofs.lemmas.List.{take_more}
use Rattle.std.proofs.lemmas.List.Sums.{sum_by_more}
use Rattle.pesp_problem.specs.declared.pair.Pair.{Pair}
use Rattle.pesp_problem.specs.Timetables.{Pesp}
use Rattle.pesp_problem.specs.Arcs.{arcs_of, net_of}
use Rattle.pesp_truth.specs.Marks.{Marks}
use Rattle.pesp_truth.specs.Certificates.{Content, Front as FrontOf}
use Rattle.pesp_cert_lines.specs.declared.item.Item.{Item}
use Rattle.pesp_cert_lines.specs.declared.item.Item.TheVariants.{Scale, Lemma, Least}
use Rattle.pesp_cert.specs.Texts.{HasText, lemma_items}
use Rattle.pesp_judges.specs.declared.refusal.Refusal.{Refusal}
use Rattle.pesp_judges.specs.declared.refusal.Refusal.TheVariants.{NoSuch}
use Rattle.pesp_truth.specs.Lemmas.{Lemma as Fact, NamesRows}
use Rattle.pesp_truth.specs.Shown.{LemmaProof, lemmas_of, lemma_lines, IsShownLemma, AreShownLemmas}
use Rattle.pesp_judges.specs.Faults.{IsLemmaFault}
use Rattle.pesp_judges.specs.Showing.{KeptLemma, KeepsLemmaLimits, rows_kept}
use Rattle.pesp_judges.proofs.Telling.{lemma_whole}
use Rattle.pesp_check.specs.Items.{ends_lemma, says_no_answer, begins_part}
use Rattle.pesp_check.specs.declared.stage.Stage.{Stage}
use Rattle.pesp_check.specs.declared.stage.Stage.TheVariants as stages
use Rattle.pesp_check.specs.Judging.{Kept, behind, lemmas_from, lemma_walks_from, line_before, marks_said, AnswerIsLeft, LemmasShown, LemmaTo, FrontTo, JudgedAt}
use Rattle.pesp_check.proofs.Lists.{cycles_later, tree_later}
use Rattle.pesp_check.proofs.LemmaItems.{ended, shown_no_answer}
use Rattle.pesp_whole_check.proofs.LemmaCheck.{shown_more, fault_among}
use Rattle.pesp_check.proofs.Lemmas.{next_lemma, lemmas_begin}
use Rattle.pesp_check.proofs.Passed.{passed, left_lemmas, left_behind_item, left_of_begun}
use Rattle.pesp_whole_check.proofs.Refusing.{lemmas_refused}
use Rattle.pesp_check.proofs.Fronts.{lemmas_to, marks_of}
use Rattle.pesp_whole_check.proofs.Limits.{lemma_within}

-- what stands behind a lemma begins the next one, or the certificate's own lines
never_empty : (ss : List LemmaProof) (c : Content) → [] ≡ flat_map lemma_items ss ++ behind c → ⊥
never_empty [] c e = cc
never_empty (s ∷ ss) c e = cc

pub part_begins : (f : FrontOf) (c : Content) (j : ℕ) → begins_part (lemmas_from f c j) ≡ true
part_begins f c j = go (lemmas_from f c j) refl
  where
    go : (xs : List Item) → xs ≡ lemmas_from f c j → begins_part xs ≡ true
    go [] e = absurd (never_empty (drop j f.lemmas) c e)
    go (x ∷ xs) e = lemmas_begin f c j x xs e

-- ---- a lemma that is coming

-- what came of the lemma that the judge keeps
pub record IsComing (p : Pesp) (f : FrontOf) (c : Content) (items : List Item) (line : ℕ) (kept : KeptLemma) (facts : List Fact)
    (said : Option Marks) (j : ℕ) : Type 0 where
  pub lemma : LemmaProof
  pub within : KeepsLemmaLimits lemma
  pub next : j < length f.lemmas
  pub read : lemma ≡ get_or f.lemmas j lemma
  pub marks : said ≡ Some f.marks
  pub shown : AreShownLemmas (net_of p) [] (take j f.lemmas)
  pub facts_are : facts ≡ lemmas_of (take j f.lemmas)
  pub came : LemmaTo p facts lemma (line_before f j + 1) kept line items (lemmas_from f c (j + 1))

-- while one is kept, it is the one that is coming
pub coming : (stage : Stage) (p : Pesp) (front : Option FrontOf) (c : Content) (items : List Item) (kept : Kept) (lemma : KeptLemma)
    → HasText front c → kept.lemma ≡ Some lemma → JudgedAt stage p front c items kept
    → (stage ≡ stages.Front) × (kept.table ≡ []) × (kept.times ≡ [])
    × ((f : FrontOf) × (j : ℕ) × (front ≡ Some f) × IsComing p f c items kept.line lemma kept.facts (marks_said kept.draft) j)
coming stages.Front p front c items kept lemma has some (none, inl (times, inl h)) = let bad : Some lemma ≡ None = sym some ∙ h.3 in absurd cc
coming stages.Front p front c items kept lemma has some (none, inl (times, inr (inl h))) = let bad : Some lemma ≡ None = sym some ∙ h.5 in absurd cc
coming stages.Front p front c items kept lemma has some (none, inl (times, inr (inr (inl h)))) =
    let bad : Some lemma ≡ None = sym some ∙ h.4 in absurd cc
coming stages.Front p front c items kept lemma has some (none, inl (times, inr (inr (inr (inl h))))) =
    let f = h.0 in
    let j = h.1 in
    let l = h.3 in
    let e : Some l.kept_lemma ≡ Some lemma = sym l.some ∙ some in
    let same : l.kept_lemma ≡ lemma = cc in
    let G : Option FrontOf → Type 0 = λ g. HasText g c in
    let F : List Fact → Type 0 = λ fs. LemmaTo p fs l.lemma (line_before f j + 1) l.kept_lemma kept.line items (lemmas_from f c (j + 1)) in
    let K : KeptLemma → Type 0 = λ k. LemmaTo p kept.facts l.lemma (line_before f j + 1) k kept.line items (lemmas_from f c (j + 1)) in (
      refl,
      none,
      times,
      (
        f,
        j,
        h.2,
        record {
          lemma = l.lemma;
          within = lemma_within f c (subst G h.2 has) j l.lemma l.next l.read;
          next = l.next;
          read = l.read;
          marks = l.before.said;
          shown = l.before.shown;
          facts_are = l.before.facts;
          came = subst K same (subst F (sym l.before.facts) l.came);
        },
      ),
    )
coming stages.Front p front c items kept lemma has some (none, inl (times, inr (inr (inr (inr h))))) =
    let bad : Some lemma ≡ None = sym some ∙ h.3.none in absurd cc
coming stages.Front p None c items kept lemma has some (none, inr (came, head)) = let bad : Some lemma ≡ None = sym some ∙ came.2 in absurd cc
coming stages.Front p (Some f) c items kept lemma has some (none, inr (came, head)) = let bad : Some lemma ≡ None = sym some ∙ came.0 in absurd cc
coming stages.Cycles p None c items kept lemma has some h = let bad : Some lemma ≡ None = sym some ∙ h.1.front_came.2 in absurd cc
coming stages.Cycles p (Some f) c items kept lemma has some h = let bad : Some lemma ≡ None = sym some ∙ h.1.front_came.0 in absurd cc
coming stages.Tree p front c items kept lemma has some h = let bad : Some lemma ≡ None = sym some ∙ h.2.gone in absurd cc
coming (stages.Refused r) p front c items kept lemma has some h = let bad : Some lemma ≡ None = sym some ∙ h.none in absurd cc

module _ (p : Pesp) (f : FrontOf) (c : Content) (j : ℕ) (kept : Kept) (lemma : KeptLemma) (items : List Item)
    (h : IsComing p f c items kept.line lemma kept.facts (marks_said kept.draft) j) where
  before : (new : Kept) → new.draft ≡ kept.draft → new.facts ≡ kept.facts → LemmasShown p f new j
  before new d facts = record {
    within = omega (arith, h.next);
    said = ap marks_said d ∙ h.marks;
    shown = h.shown;
    facts = facts ∙ h.facts_are;
  }

  -- more of it came
  pub goes_on : (rest : List Item) (lemma' : KeptLemma) (kept' : Kept) → kept' ≡ record kept { line = kept.line + 1; lemma = Some lemma' }
      → LemmaTo p kept.facts h.lemma (line_before f j + 1) lemma' (kept.line + 1) rest (lemmas_from f c (j + 1))
      → kept.table ≡ [] → kept.times ≡ [] → JudgedAt stages.Front p (Some f) c rest kept'
  goes_on rest lemma' kept' e came none times =
      let P : Kept → Type 0 = λ k. JudgedAt stages.Front p (Some f) c rest k in
      let new : Kept = record kept { line = kept.line + 1; lemma = Some lemma' } in
      let F : List Fact → Type 0 = λ fs. LemmaTo p fs h.lemma (line_before f j + 1) lemma' (kept.line + 1) rest (lemmas_from f c (j + 1)) in
      subst P (sym e) (
        none,
        inl (
          times,
          inr (inr (inr (inl (
            f,
            j,
            refl,
            record {
              lemma = h.lemma;
              kept_lemma = lemma';
              before = before new refl refl;
              next = h.next;
              read = h.read;
              some = refl;
              came = subst F h.facts_are came;
            },
          )))),
        ),
      )

  -- something is wrong with it
  pub lemma_refused : (item : Item) (rest : List Item) (refusal : Refusal) (kept' : Kept) → items ≡ item ∷ rest → says_no_answer item ≡ true
      → kept'.lemma ≡ None → IsLemmaFault (net_of p) kept.facts h.lemma (line_before f j + 1) refusal
      → JudgedAt (stages.Refused refusal) p (Some f) c rest kept'
  lemma_refused item rest refusal kept' is e gone fault =
      let L : List Item → Type 0 = λ xs. LemmaTo p kept.facts h.lemma (line_before f j + 1) lemma kept.line xs (lemmas_from f c (j + 1)) in
      let F : List Fact → Type 0 = λ fs. IsLemmaFault (net_of p) fs h.lemma (line_before f j + 1) refusal in
      let N : ℕ → Type 0 = λ n. IsLemmaFault (net_of p) (lemmas_of (take j f.lemmas)) h.lemma n refusal in
      record {
        none = gone;
        answer = inr (left_behind_item c p kept.facts h.lemma (line_before f j + 1) lemma kept.line item rest (lemmas_from f c (j + 1)) e
            (left_lemmas f c (j + 1)) (subst L is h.came));
        first = lemmas_refused p c refusal f (fault_among (net_of p) [] f.lemmas j (3 + length f.marks.walks) h.lemma refusal h.next h.read h.shown
            (subst N (omega arith) (subst F h.facts_are fault)));
      }

  -- it is whole
  pub lemma_ends : (item : Item) (rest : List Item) (kept' : Kept) → items ≡ item ∷ rest → ends_lemma item ≡ true
      → kept' ≡ record kept { facts = kept.facts ++ record { weights = lemma.weights; least = lemma.least } ∷ []; lemma = None }
      → kept.table ≡ [] → kept.times ≡ [] → JudgedAt stages.Front p (Some f) c items kept'
  lemma_ends item rest kept' is e new none times =
      let more = lemmas_from f c (j + 1) in
      let at = line_before f j + 1 in
      let L : List Item → Type 0 = λ xs. LemmaTo p kept.facts h.lemma at lemma kept.line xs more in
      let end = ended p kept.facts h.lemma at lemma kept.line rest more (part_begins f c (j + 1)) item e (subst L is h.came) in
      let whole = lemma_whole p kept.facts h.lemma at lemma end.0 h.within end.1.all end.1.shown in
      let made : Fact = record { weights = lemma.weights; least = lemma.least } in
      let fact_is : made ≡ h.lemma.fact = same_fact lemma.weights lemma.least h.lemma.fact whole.1 whole.2 in
      let K : Kept → Type 0 = λ k. JudgedAt stages.Front p (Some f) c items k in
      let E : List Fact → Type 0 = λ fs. IsShownLemma (net_of p) fs h.lemma in
      let S : List LemmaProof → Type 0 = λ ss. AreShownLemmas (net_of p) [] ss in
      let taken : take (j + 1) f.lemmas ≡ take j f.lemmas ++ h.lemma ∷ [] =
      take_more f.lemmas j h.lemma h.next ∙ ap (λ (s : LemmaProof). take j f.lemmas ++ s ∷ []) (sym h.read) in
      let sums = sum_by_more lemma_lines f.lemmas j h.lemma h.next in
      let one = ap lemma_lines h.read in
      let length_is : end.0 ≡ length h.lemma.tree = omega (arith, end.1.all, end.1.within) in
      subst K (sym new) (
        none,
        inl (
          times,
          inr (inr (inr (inr (
            f,
            j + 1,
            refl,
            record {
              shown = record {
                within = omega (arith, h.next);
                said = h.marks;
                shown = subst S (sym taken) (shown_more (net_of p) [] (take j f.lemmas) h.lemma h.shown (subst E h.facts_are whole.0));
                facts = ap (λ (fs : List Fact). fs ++ made ∷ []) h.facts_are ∙ ap (λ (g : Fact). lemmas_of (take j f.lemmas) ++ g ∷ []) fact_is
                    ∙ mapped_more (take j f.lemmas) h.lemma ∙ ap lemmas_of (sym taken);
              };
              none = refl;
              line = omega (arith, end.1.line_is, length_is, sums, one);
              left = is ∙ end.1.left;
            },
          )))),
        ),
      )
    where
      same_fact : (weights : List Pair) (least : ℤ) (g : Fact) → weights ≡ g.weights → least ≡ g.least → record { weights = weights; least = least } ≡ g
      same_fact weights least g a b = rw (a, b) refl

      mapped_more : (xs : List LemmaProof) (s : LemmaProof) → lemmas_of xs ++ s.fact ∷ [] ≡ lemmas_of (xs ++ s ∷ [])
      mapped_more [] s = refl
      mapped_more (x ∷ xs) s = ap (λ (fs : List Fact). x.fact ∷ fs) (mapped_more xs s)

-- ---- the same at every stage

module _ (stage : Stage) (p : Pesp) (front : Option FrontOf) (c : Content) (item : Item) (rest : List Item) (kept : Kept) (lemma : KeptLemma)
    (has : HasText front c) (some : kept.lemma ≡ Some lemma) (h : JudgedAt stage p front c (item ∷ rest) kept) where
  state : (stage ≡ stages.Front) × (kept.table ≡ []) × (kept.times ≡ [])
      × ((f : FrontOf) × (j : ℕ) × (front ≡ Some f) × IsComing p f c (item ∷ rest) kept.line lemma kept.facts (marks_said kept.draft) j)
  state = coming stage p front c (item ∷ rest) kept lemma has some h

  back : (items : List Item) (kept' : Kept) → JudgedAt stages.Front p (Some state.3.0) c items kept' → JudgedAt stage p front c items kept'
  back items kept' there =
      let G : Option FrontOf → Type 0 = λ g. JudgedAt stages.Front p g c items kept' in
      let S : Stage → Type 0 = λ s. JudgedAt s p front c items kept' in
      subst S (sym state.0) (subst G (sym state.3.2) there)

  pub ended_behind : (kept' : Kept) → ends_lemma item ≡ true
      → kept' ≡ record kept { facts = kept.facts ++ record { weights = lemma.weights; least = lemma.least } ∷ []; lemma = None }
      → JudgedAt stage p front c (item ∷ rest) kept'
  ended_behind kept' e new = back (item ∷ rest) kept'
      (lemma_ends p state.3.0 c state.3.1 kept lemma (item ∷ rest) state.3.3 item rest kept' refl e new state.1 state.2)

  -- what a judge told of the next item
  abbrev Told : KeptLemma → ℕ → Option Refusal → Type 0
  Told lemma' at found = (s : LemmaProof) (first before : ℕ) (items more : List Item) → KeepsLemmaLimits s → begins_part more ≡ true
      → ends_lemma item ≡ false → at ≡ before + 1 → LemmaTo p kept.facts s first lemma before (item ∷ items) more
      → MatchOption found (LemmaTo p kept.facts s first lemma' at items more) (λ r. IsLemmaFault (net_of p) kept.facts s first r)

  pub shown_behind : (lemma' : KeptLemma) (at : ℕ) (found : Option Refusal) (taken' refused' : Kept) → ends_lemma item ≡ false
      → at ≡ kept.line + 1 → Told lemma' at found → taken' ≡ record kept { line = kept.line + 1; lemma = Some lemma' }
      → refused'.lemma ≡ None
      → MatchOption found (JudgedAt stage p front c rest taken') (λ r. JudgedAt (stages.Refused r) p front c rest refused')
  shown_behind lemma' at found taken' refused' e on told new gone =
      let f = state.3.0 in
      let j = state.3.1 in
      let l = state.3.3 in
      match found (told l.lemma (line_before f j + 1) kept.line rest (lemmas_from f c (j + 1)) l.within (part_begins f c (j + 1)) e on l.came)
    where
      match : (o : Option Refusal)
          → MatchOption o (LemmaTo p kept.facts state.3.3.lemma (line_before state.3.0 state.3.1 + 1) lemma' at rest (lemmas_from state.3.0 c (state.3.1 + 1)))
          (λ r. IsLemmaFault (net_of p) kept.facts state.3.3.lemma (line_before state.3.0 state.3.1 + 1) r)
          → MatchOption o (JudgedAt stage p front c rest taken') (λ r. JudgedAt (stages.Refused r) p front c rest refused')
      match None m =
          let N : ℕ → Type 0 = λ n. LemmaTo p kept.facts state.3.3.lemma (line_before state.3.0 state.3.1 + 1) lemma' n rest
          (lemmas_from state.3.0 c (state.3.1 + 1)) in
          back rest taken' (goes_on p state.3.0 c state.3.1 kept lemma (item ∷ rest) state.3.3 rest lemma' taken' new (subst N on m) state.1 state.2)
      match (Some r) m =
          let G : Option FrontOf → Type 0 = λ g. JudgedAt (stages.Refused r) p g c rest refused' in
          let no = shown_no_answer p kept.facts state.3.3.lemma (line_before state.3.0 state.3.1 + 1) lemma kept.line rest
          (lemmas_from state.3.0 c (state.3.1 + 1)) (part_begins state.3.0 c (state.3.1 + 1)) item state.3.3.came in
          subst G (sym state.3.2) (lemma_refused p state.3.0 c state.3.1 kept lemma (item ∷ rest) state.3.3 item rest r refused' refl no gone m)

-- ---- a lemma that begins

-- its rows come next, and those of the lemmas before it are shown
record IsFirstOf (p : Pesp) (f : FrontOf) (c : Content) (weights : List Pair) (rest : List Item) (kept : Kept) (j : ℕ) (s : LemmaProof) : Type 0 where
  pub shown : LemmasShown p f kept j
  pub next : j < length f.lemmas
  pub read : s ≡ get_or f.lemmas j s
  pub weights_are : weights ≡ s.fact.weights
  pub line : kept.line ≡ line_before f j
  pub left : rest ≡ Least s.fact.least ∷ Scale s.marks.scale ∷ lemma_walks_from s (lemmas_from f c (j + 1)) 0

begins_at : (p : Pesp) (front : Option FrontOf) (c : Content) (weights : List Pair) (rest : List Item) (kept : Kept) → kept.lemma ≡ None
    → FrontTo p front c (Lemma weights ∷ rest) kept
    → (kept.times ≡ []) × ((f : FrontOf) × (j : ℕ) × (s : LemmaProof) × (front ≡ Some f) × IsFirstOf p f c weights rest kept j s)
begins_at p front c weights rest kept none h =
    let marks = marks_of p front c (Lemma weights) rest kept refl h in (
      marks.0,
      elim (lemmas_to p front c (Lemma weights) rest kept none refl marks.1) [
        | inl m ↦ let e = m.left in absurd cc
        | inr m ↦ elim (next_lemma m.0.lemmas (behind c) m.1 (Lemma weights) rest m.3.left) [
          | inl n ↦
              let is : Lemma weights ≡ Lemma n.0.fact.weights = n.1.item_is in
              let same : weights ≡ n.0.fact.weights = cc in (
                m.0,
                m.1,
                n.0,
                m.2,
                record {
                  shown = m.3.shown;
                  next = n.1.within;
                  read = n.1.read;
                  weights_are = same;
                  line = m.3.line;
                  left = n.1.left;
                },
              )
          | inr n ↦ let e = n.1 in absurd cc
        ]
      ],
    )

module _ (stage : Stage) (p : Pesp) (front : Option FrontOf) (c : Content) (weights : List Pair) (rest : List Item) (kept : Kept)
    (none : kept.lemma ≡ None) (at : stage ≡ stages.Front) (h : JudgedAt stage p front c (Lemma weights ∷ rest) kept) where
  at_front : JudgedAt stages.Front p front c (Lemma weights ∷ rest) kept
  at_front = let P : Stage → Type 0 = λ s. JudgedAt s p front c (Lemma weights ∷ rest) kept in subst P at h

  pub lemma_begins : (lemma : KeptLemma) (kept' : Kept) → kept' ≡ record kept { line = kept.line + 1; lemma = Some lemma }
      → NamesRows (arcs_of p) weights → lemma ≡ rows_kept (kept.line + 1) weights → JudgedAt stage p front c rest kept'
  lemma_begins lemma kept' new rows is =
      let b = begins_at p front c weights rest kept none at_front.1 in
      let f = b.1.0 in
      let j = b.1.1 in
      let s = b.1.2 in
      let first = b.1.4 in
      let K : Kept → Type 0 = λ k. JudgedAt stages.Front p (Some f) c rest k in
      let G : Option FrontOf → Type 0 = λ g. JudgedAt stages.Front p g c rest kept' in
      let S : Stage → Type 0 = λ st. JudgedAt st p front c rest kept' in
      let R : List Pair → Type 0 = λ ws. NamesRows (arcs_of p) ws in
      let l : kept.line + 1 ≡ line_before f j + 1 = omega (arith, first.line) in
      subst S (sym at) (subst G (sym b.1.3) (subst K (sym new) (
        at_front.0,
        inl (
          b.0,
          inr (inr (inr (inl (
            f,
            j,
            refl,
            record {
              lemma = s;
              kept_lemma = lemma;
              before = record { within = first.shown.within; said = first.shown.said; shown = first.shown.shown; facts = first.shown.facts };
              next = first.next;
              read = first.read;
              some = refl;
              came = inl (
                l,
                record {
                  line = ap (λ (k : KeptLemma). k.line) is ∙ l;
                  weights = ap (λ (k : KeptLemma). k.weights) is ∙ first.weights_are;
                  rows = subst R first.weights_are rows;
                  walks = ap (λ (k : KeptLemma). k.walks) is;
                  none = ap (λ (k : KeptLemma). k.table) is;
                  before = ap (λ (k : KeptLemma). k.walk) is;
                },
                first.left,
              );
            },
          )))),
        ),
      )))

  pub lemma_never : (refusal : Refusal) (kept' : Kept) → kept'.lemma ≡ None → refusal ≡ NoSuch (kept.line + 1)
      → (NamesRows (arcs_of p) weights → ⊥) → JudgedAt (stages.Refused refusal) p front c rest kept'
  lemma_never refusal kept' gone is never =
      let b = begins_at p front c weights rest kept none at_front.1 in
      let f = b.1.0 in
      let j = b.1.1 in
      let s = b.1.2 in
      let first = b.1.4 in
      let G : Option FrontOf → Type 0 = λ g. JudgedAt (stages.Refused refusal) p g c rest kept' in
      let R : List Pair → Type 0 = λ ws. NamesRows (arcs_of p) ws in
      let A : List Item → Type 0 = λ xs. AnswerIsLeft c xs in
      let l : kept.line + 1 ≡ 3 + length f.marks.walks + sum_by lemma_lines (take j f.lemmas) = omega (arith, first.line) in
      subst G (sym b.1.3) (record {
        none = gone;
        answer = inr (subst A (sym first.left) (left_of_begun c s (lemmas_from f c (j + 1)) (left_lemmas f c (j + 1))));
        first = lemmas_refused p c refusal f (fault_among (net_of p) [] f.lemmas j (3 + length f.marks.walks) s refusal first.next first.read
            first.shown.shown (inl (is ∙ ap NoSuch l, λ rows. never (subst R (sym first.weights_are) rows))));
      })

-- where something was wrong before, it is passed
pub lemma_passed : (stage : Stage) (p : Pesp) (front : Option FrontOf) (c : Content) (weights : List Pair) (rest : List Item) (kept kept' : Kept)
    → (stage ≡ stages.Front → ⊥) → kept'.answer ≡ kept.answer → kept'.lemma ≡ kept.lemma
    → JudgedAt stage p front c (Lemma weights ∷ rest) kept → JudgedAt stage p front c rest kept'
lemma_passed stages.Front p front c weights rest kept kept' never a l h = absurd (never refl)
lemma_passed stages.Cycles p front c weights rest kept kept' never a l h =
    let later = cycles_later c h.0 (Lemma weights) rest h.1.left in absurd cc
lemma_passed stages.Tree p front c weights rest kept kept' never a l h = let later = tree_later c h.0 (Lemma weights) rest h.2.left in absurd cc
lemma_passed (stages.Refused r) p front c weights rest kept kept' never a l h = passed p front c r (Lemma weights) rest kept kept' refl a l h
