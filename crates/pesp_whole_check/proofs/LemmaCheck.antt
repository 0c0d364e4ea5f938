-- Lemmas of a certificate as a whole.
use Rattle.std.proofs.Common.{◌≡◌, ◌∙◌, inl, inr, ℕ, zero, suc, ◌+◌, ◌<◌, ◌≤◌, arith, refl, sym, ap, subst, List, [], ◌∷◌, ◌++◌, length, get_or, take, Option, Some, None, true, append_assoc, append-nil}
use Rattle.std.specs.Prelude.{ℤ, IfSome, MatchOption}
use Rattle.std.specs.List.{sum_by}
use Rattle.std.proofs.lemmas.List.{get_or_default, take_more}
use Rattle.std.proofs.lemmas.List.Sums.{sum_by-cons, sum_by_more}
use Rattle.pesp_problem.specs.declared.row.SignedRow.{SignedRow}
use Rattle.pesp_problem.specs.Nodes.{cycle_at}
use Rattle.pesp_truth.specs.declared.tree.TreeLine.{TreeLine}
use Rattle.pesp_truth.specs.declared.tree.TreeLine.TheVariants.{Propagated}
use Rattle.pesp_truth.specs.Trees.{Line, line_of}
use Rattle.pesp_truth.proofs.FrontLimits.{limits_of}
use Rattle.pesp_cert.specs.Limits.{total_rows, is_shown_lemma}
use Rattle.pesp_problem.specs.declared.pair.Pair.{Pair}
use Rattle.pesp_problem.specs.Timetables.{Pesp}
use Rattle.pesp_problem.specs.Arcs.{Net, arcs_of, net_of}
use Rattle.pesp_judges.specs.declared.refusal.Refusal.{Refusal}
use Rattle.pesp_judges.specs.Faults.{IsCycleFault, IsLemmaFault, IsLemmasFault}
use Rattle.pesp_judges.proofs.Tables.{nets_none}
use Rattle.pesp_truth.specs.Lemmas.{Lemma as Fact, NamesRows}
use Rattle.pesp_truth.specs.Shown.{LemmaProof, lemmas_of, lemma_lines, IsShownLemma, AreShownLemmas}
use Rattle.pesp_truth.specs.Certificates.{Front as FrontOf}
use Rattle.pesp_judges.specs.Showing.{KeptLemma, KeepsLemmaLimits, CyclesShown, ShownTo, LemmaIsTold, rows_kept, first_line}
use Rattle.pesp_judges.proofs.Telling.{lemma_whole}
use Rattle.pesp_whole_check.specs.Costs.{facts_said}
use Rattle.pesp_whole_check.proofs.Limits.{shown_within}

pub same_fact : (weights : List Pair) (least : ℤ) (g : Fact) → weights ≡ g.weights → least ≡ g.least → record { weights = weights; least = least } ≡ g
same_fact weights least g a b = rw (a, b) refl

-- without a front nothing is said of lemmas or marked walks
pub none_said : (front : Option FrontOf) → ((f : FrontOf) → front ≡ Some f → ⊥) → ◌≡◌ {A = List Fact} [] (facts_said front)
none_said None none = refl
none_said (Some f) none = absurd (none f refl)

pub none_shown : (p : Pesp) (front : Option FrontOf) → ((f : FrontOf) → front ≡ Some f → ⊥)
    → IfSome front (λ f. AreShownLemmas (net_of p) [] f.lemmas)
none_shown p None none = tt
none_shown p (Some f) none = absurd (none f refl)

-- all its lines came
pub whole_lemma : (p : Pesp) (earlier : List Fact) (s : LemmaProof) (at : ℕ) (kept : KeptLemma) (fact : Fact) → KeepsLemmaLimits s
    → ShownTo p earlier s at kept (length s.tree) → fact ≡ record { weights = kept.weights; least = kept.least }
    → (fact ≡ s.fact) × IsShownLemma (net_of p) earlier s
whole_lemma p earlier s at kept fact limits h is =
    let whole = lemma_whole p earlier s at kept (length s.tree) limits (omega arith) h in
    (is ∙ same_fact kept.weights kept.least s.fact whole.1 whole.2, whole.0)

-- a line more came
pub told_shown : (p : Pesp) (earlier : List Fact) (s : LemmaProof) (at : ℕ) (kept : KeptLemma) (k : ℕ) (found : Option Refusal)
    → LemmaIsTold p earlier s at kept k found → MatchOption found (ShownTo p earlier s at kept k) (λ r. IsLemmaFault (net_of p) earlier s at r)
told_shown p earlier s at kept k None h = inr h
told_shown p earlier s at kept k (Some r) h = h

-- no cycle has more rows than all cycles have
pub one_short : (cycles : List (List SignedRow)) (j : ℕ) (d : List SignedRow) → j < length cycles
    → length (get_or cycles j d) ≤ total_rows cycles
one_short [] j d l = absurd (omega arith)
one_short (rows ∷ cycles) zero d l = let all = sum_by-cons (λ (rs : List SignedRow). length rs) rows cycles in omega (arith, all)
one_short (rows ∷ cycles) (suc j) d l =
    let all = sum_by-cons (λ (rs : List SignedRow). length rs) rows cycles in
    let one = one_short cycles j d (omega arith) in omega (arith, all, one)

-- ---- one more of its lines

module _ (p : Pesp) (kept kept' : KeptLemma) (k there : ℕ) (found : Option Refusal) where
  -- what a judge tells of a cycle
  abbrev pub CycleTold : List SignedRow → Type 0
  CycleTold rows = (s : LemmaProof) (at i : ℕ) → KeepsLemmaLimits s → CyclesShown p s at kept i → i < length s.cycles → rows ≡ cycle_at s.cycles i
      → there ≡ (at + 2 + length s.marks.walks) + (i + 1)
      → MatchOption found (CyclesShown p s at kept' (i + 1)) (λ r. IsCycleFault (arcs_of p) s.cycles (at + 2 + length s.marks.walks) r)

  pub cycle_more : (cycles : List (List SignedRow)) (rows d : List SignedRow) (line : ℕ) → CycleTold rows → k < length cycles
      → rows ≡ get_or cycles k d → there ≡ line + k + 1 → (s : LemmaProof) (at : ℕ) → KeepsLemmaLimits s → s.cycles ≡ cycles
      → line ≡ at + 2 + length s.marks.walks → CyclesShown p s at kept k
      → MatchOption found (CyclesShown p s at kept' (k + 1)) (λ r. IsCycleFault (arcs_of p) s.cycles line r)
  cycle_more cycles rows d line told within is on s at limits same first shown =
      let few = ap length same in
      let read : rows ≡ cycle_at s.cycles k =
      is ∙ get_or_default cycles k d [] within ∙ ap (λ (cs : List (List SignedRow)). cycle_at cs k) (sym same) in
      let N : ℕ → Type 0 = λ n. MatchOption found (CyclesShown p s at kept' (k + 1)) (λ r. IsCycleFault (arcs_of p) s.cycles n r) in
      subst N (sym first) (told s at k limits shown (omega (arith, few)) read (omega (arith, on, first)))

  -- what a judge tells of a line of the tree
  abbrev pub LineTold : List Fact → Line → Type 0
  LineTold earlier said = (s : LemmaProof) (at i : ℕ) → KeepsLemmaLimits s → ShownTo p earlier s at kept i → i < length s.tree
      → said ≡ line_of (get_or s.tree i Propagated) → there ≡ first_line s at + i → LemmaIsTold p earlier s at kept' (i + 1) found

  pub line_more : (earlier : List Fact) (lines : List TreeLine) (line : TreeLine) (said : Line) (first : ℕ) → LineTold earlier said
      → k < length lines → line ≡ get_or lines k line → said ≡ line_of line → there ≡ first + k → (s : LemmaProof) (at : ℕ) → KeepsLemmaLimits s
      → s.tree ≡ lines → first ≡ first_line s at → ShownTo p earlier s at kept k
      → MatchOption found (ShownTo p earlier s at kept' (k + 1)) (λ r. IsLemmaFault (net_of p) earlier s at r)
  line_more earlier lines line said first told within is says on s at limits same begins shown =
      let few = ap length same in
      let read : said ≡ line_of (get_or s.tree k Propagated) =
      says ∙ ap line_of (is ∙ get_or_default lines k line Propagated within ∙ ap (λ (ls : List TreeLine). get_or ls k Propagated) (sym same)) in
      told_shown p earlier s at kept' (k + 1) found (told s at k limits shown (omega (arith, few)) read (omega (arith, on, begins)))

-- all cycles came
pub all_cycles_came : (p : Pesp) (s : LemmaProof) (at : ℕ) (kept : KeptLemma) (k : ℕ) (cycles : List (List SignedRow)) → s.cycles ≡ cycles
    → length cycles ≤ k → CyclesShown p s at kept k → CyclesShown p s at kept (length s.cycles)
all_cycles_came p s at kept k cycles same all shown =
    let few = ap length same in
    let is : k ≡ length s.cycles = omega (arith, few, shown.within) in
    let P : ℕ → Type 0 = λ n. CyclesShown p s at kept n in subst P is shown

-- all lines of its tree came
pub all_lines_came : (p : Pesp) (earlier : List Fact) (s : LemmaProof) (at : ℕ) (kept : KeptLemma) (k : ℕ) (lines : List TreeLine)
    → s.tree ≡ lines → k ≡ length lines → ShownTo p earlier s at kept k → ShownTo p earlier s at kept (length s.tree)
all_lines_came p earlier s at kept k lines same all shown =
    let is : k ≡ length s.tree = all ∙ sym (ap length same) in
    let P : ℕ → Type 0 = λ n. ShownTo p earlier s at kept n in subst P is shown

-- ---- its rows, its least sum, its scale and its marked walks came

pub head_came : (p : Pesp) (s : LemmaProof) (at : ℕ) (weights : List Pair) (kept : KeptLemma) → NamesRows (arcs_of p) weights
    → weights ≡ s.fact.weights
    → kept ≡ record (rows_kept at weights) { least = s.fact.least; scale = s.marks.scale; walks = s.marks.walks }
    → CyclesShown p s at kept 0
head_came p s at weights kept rows same is =
    let P : KeptLemma → Type 0 = λ k. CyclesShown p s at k 0 in
    let N : List Pair → Type 0 = λ ws. NamesRows (arcs_of p) ws in
    subst P (sym is) (record {
      line = refl;
      weights = same;
      least = refl;
      scale = refl;
      walks = refl;
      rows = subst N same rows;
      within = omega arith;
      nets = nets_none (length p.rows);
      closed = λ i l. absurd (omega arith);
      before = refl;
    })

-- ---- those that are shown

pub shown_more : (n : Net) (earlier : List Fact) (xs : List LemmaProof) (s : LemmaProof) → AreShownLemmas n earlier xs
    → IsShownLemma n (earlier ++ lemmas_of xs) s → AreShownLemmas n earlier (xs ++ s ∷ [])
shown_more n earlier [] s h one = let P : List Fact → Type 0 = λ fs. IsShownLemma n fs s in (subst P (append-nil earlier) one, tt)
shown_more n earlier (x ∷ xs) s h one =
    let P : List Fact → Type 0 = λ fs. IsShownLemma n fs s in
    (h.0, shown_more n (earlier ++ x.fact ∷ []) xs s h.1 (subst P (sym (append_assoc earlier (x.fact ∷ []) (lemmas_of xs))) one))

-- the fault of one is that of all, where those before it are shown
pub fault_among : (n : Net) (earlier : List Fact) (xs : List LemmaProof) (j at : ℕ) (s : LemmaProof) (refusal : Refusal) → j < length xs
    → s ≡ get_or xs j s → AreShownLemmas n earlier (take j xs)
    → IsLemmaFault n (earlier ++ lemmas_of (take j xs)) s (at + sum_by lemma_lines (take j xs)) refusal
    → IsLemmasFault n earlier xs at refusal
fault_among n earlier [] j at s refusal l is h f = absurd (omega arith)
fault_among n earlier (x ∷ xs) zero at s refusal l is h f =
    let E : List Fact → Type 0 = λ fs. IsLemmaFault n fs s at refusal in
    let N : ℕ → Type 0 = λ i. IsLemmaFault n (earlier ++ []) s i refusal in
    let S : LemmaProof → Type 0 = λ y. IsLemmaFault n earlier y at refusal in
    inl (subst S is (subst E (append-nil earlier) (subst N (omega arith) f)))
fault_among n earlier (x ∷ xs) (suc j) at s refusal l is h f =
    let E : List Fact → Type 0 = λ fs. IsLemmaFault n fs s (at + sum_by lemma_lines (take (suc j) (x ∷ xs))) refusal in
    let N : ℕ → Type 0 = λ i. IsLemmaFault n ((earlier ++ x.fact ∷ []) ++ lemmas_of (take j xs)) s i refusal in
    let lines : at + sum_by lemma_lines (take (suc j) (x ∷ xs)) ≡ at + lemma_lines x + sum_by lemma_lines (take j xs) =
    (let e = sum_by-cons lemma_lines x (take j xs) in omega (arith, e)) in
    inr (
      h.0,
      fault_among n (earlier ++ x.fact ∷ []) xs j (at + lemma_lines x) s refusal (omega arith) is h.1
          (subst N lines (subst E (sym (append_assoc earlier (x.fact ∷ []) (lemmas_of (take j xs)))) f)),
    )

-- ---- one lemma more

module _ (lemmas : List LemmaProof) (k : ℕ) (s : LemmaProof) (within : k < length lemmas) (is : s ≡ get_or lemmas k s) where
  one_more : take (k + 1) lemmas ≡ take k lemmas ++ s ∷ []
  one_more = take_more lemmas k s within ∙ ap (λ (x : LemmaProof). take k lemmas ++ x ∷ []) (sym is)

  pub facts_more : (facts facts' : List Fact) (fact : Fact) → facts ≡ lemmas_of (take k lemmas) → fact ≡ s.fact
      → facts' ≡ facts ++ fact ∷ [] → facts' ≡ lemmas_of (take (k + 1) lemmas)
  facts_more facts facts' fact are same new =
      new ∙ ap (λ (fs : List Fact). fs ++ fact ∷ []) are ∙ ap (λ (g : Fact). lemmas_of (take k lemmas) ++ g ∷ []) same
      ∙ mapped (take k lemmas) ∙ ap lemmas_of (sym one_more)
    where
      mapped : (xs : List LemmaProof) → lemmas_of xs ++ s.fact ∷ [] ≡ lemmas_of (xs ++ s ∷ [])
      mapped [] = refl
      mapped (x ∷ xs) = ap (λ (fs : List Fact). x.fact ∷ fs) (mapped xs)

  pub shown_next : (p : Pesp) (facts : List Fact) → facts ≡ lemmas_of (take k lemmas) → AreShownLemmas (net_of p) [] (take k lemmas)
      → IsShownLemma (net_of p) facts s → AreShownLemmas (net_of p) [] (take (k + 1) lemmas)
  shown_next p facts are shown one =
      let S : List LemmaProof → Type 0 = λ ss. AreShownLemmas (net_of p) [] ss in
      let F : List Fact → Type 0 = λ fs. IsShownLemma (net_of p) fs s in
      subst S (sym one_more) (shown_more (net_of p) [] (take k lemmas) s shown (subst F are one))

  pub lines_more : (line at : ℕ) → line ≡ at + sum_by lemma_lines (take k lemmas)
      → line + lemma_lines s ≡ at + sum_by lemma_lines (take (k + 1) lemmas)
  lines_more line at e =
      let sums = sum_by_more lemma_lines lemmas k s within in
      let one = ap lemma_lines is in omega (arith, e, sums, one)

-- the lines of a lemma within its limits are few
pub few_lines : (s : LemmaProof) → is_shown_lemma s ≡ true → lemma_lines s ≤ 1200003
few_lines s e =
    let w = shown_within s e in
    let walks = (limits_of s.marks w.within.marks).walks in
    omega (arith, walks, w.within.cycles, w.lines)
