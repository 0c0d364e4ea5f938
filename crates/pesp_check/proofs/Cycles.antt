-- The cycles as they come.
use Rattle.std.specs.Prelude.{Option}
use Rattle.std.proofs.Common.{◌≡◌, inl, inr, ℕ, ◌+◌, arith, false, List, [], ◌∷◌, ◌++◌, length, get_or, refl, sym, ap, subst, ◌∙◌, Some, None}
use Rattle.std.specs.List.{list_all}
use Rattle.std.proofs.lemmas.List.{get_or_default, length-take}
use Rattle.pesp_problem.specs.declared.row.SignedRow.{SignedRow}
use Rattle.pesp_problem.specs.Timetables.{Pesp}
use Rattle.pesp_problem.specs.Arcs.{arcs_of}
use Rattle.pesp_problem.specs.Walks.{IsWalk}
use Rattle.pesp_problem.specs.Nodes.{cycle_at}
use Rattle.pesp_truth.specs.Certificates.{Front as FrontOf, Content}
use Rattle.pesp_cert_lines.specs.declared.item.Item.{Item}
use Rattle.pesp_cert_lines.specs.declared.item.Item.TheVariants.{Cycle}
use Rattle.pesp_problem.specs.declared.nets.NetCount.{NetCount}
use Rattle.pesp_judges.specs.declared.refusal.Refusal.{Refusal}
use Rattle.pesp_problem.specs.Nets.{AreNetCounts}
use Rattle.pesp_judges.specs.Faults.{IsWalkFault, own_line}
use Rattle.pesp_check.specs.Items.{says_no_answer}
use Rattle.pesp_check.specs.declared.stage.Stage.{Stage}
use Rattle.pesp_check.specs.declared.stage.Stage.TheVariants as stages
use Rattle.pesp_check.specs.Judging.{Kept, is_front, tree_from, FrontIsShown, FrontCame, CyclesTo, JudgedAt}
use Rattle.pesp_judges.proofs.Closing.{walk_fault, walks_more}
use Rattle.pesp_judges.proofs.Tables.{nets_more}
use Rattle.pesp_whole_check.proofs.Refusing.{own_adds, cycle_refused}
use Rattle.pesp_check.proofs.Fronts.{came_still, shown_of}
use Rattle.pesp_check.proofs.Passed.{passed, all_cycles}
use Rattle.pesp_check.proofs.Lists.{IsNext, next_of, cycle_in_tree}

-- the same is shown while the answer stays
pub shown_still : (p : Pesp) (c : Content) (old new : Kept) → new.answer ≡ old.answer → FrontIsShown p c old → FrontIsShown p c new
shown_still p c old new e s = record { period = s.period; answer = e ∙ s.answer; shows = s.shows }

-- no lemma is coming
pub none_coming : (p : Pesp) (front : Option FrontOf) (kept : Kept) → FrontCame p front kept → kept.lemma ≡ None
none_coming p None kept h = h.2
none_coming p (Some f) kept h = h.0

module _ (p : Pesp) (front : Option FrontOf) (c : Content) (rows : List SignedRow) (rest : List Item) (kept : Kept) (stage : Stage)
    (is : stage ≡ stages.Cycles) (before : JudgedAt stage p front c (Cycle rows ∷ rest) kept) where
  abbrev so_far : JudgedAt stages.Cycles p front c (Cycle rows ∷ rest) kept
  so_far = subst (λ (s : Stage). JudgedAt s p front c (Cycle rows ∷ rest) kept) is before

  abbrev k : ℕ
  k = so_far.0

  abbrev cycles : CyclesTo p front c (Cycle rows ∷ rest) kept k
  cycles = so_far.1

  next : (x : List SignedRow) × IsNext Cycle c.cycles k (tree_from c 0) (Cycle rows) rest x
  next = elim (next_of Cycle c.cycles k (tree_from c 0) (Cycle rows) rest cycles.left) [
    | inl n ↦ n
    | inr n ↦ absurd (cycle_in_tree c 0 rows rest n.1)
  ]

  same : rows ≡ next.0
  same = let e : Cycle rows ≡ Cycle next.0 = next.1.item_is in let r : rows ≡ next.0 = cc in r

  read : rows ≡ get_or c.cycles k rows
  read = let P : List SignedRow → Type 0 = λ w. w ≡ get_or c.cycles k w in subst P (sym same) next.1.read

  at : rows ≡ cycle_at c.cycles k
  at = read ∙ get_or_default c.cycles k rows [] next.1.within

  pub walk_taken : (counts : List NetCount) (kept' : Kept)
      → kept' ≡ record kept { line = kept.line + 1; table = kept.table ++ counts ∷ [] } → IsWalk (arcs_of p) rows
      → AreNetCounts (length p.rows) rows counts → JudgedAt stage p front c rest kept'
  walk_taken counts kept' e walk nets =
      let P : Kept → Type 0 = JudgedAt stages.Cycles p front c rest in
      let Q : Stage → Type 0 = λ s. JudgedAt s p front c rest kept' in
      let new : Kept = record kept { line = kept.line + 1; table = kept.table ++ counts ∷ [] } in
      subst Q (sym is) (subst P (sym e) (
        k + 1,
        record {
          shown = shown_still p c kept new refl cycles.shown;
          front_came = came_still p front kept new refl refl refl cycles.front_came;
          within = omega (arith, next.1.within);
          nets = nets_more (length p.rows) c.cycles kept.table k rows counts next.1.within read cycles.nets nets;
          walks = walks_more (arcs_of p) c.cycles k rows at cycles.walks walk;
          line = ap (λ n. n + 1) cycles.line ∙ own_adds front (3 + length c.times + k) 1 ∙ ap (own_line front) (omega arith);
          left = next.1.left;
        },
      ))

  pub walk_refused : (refusal : Refusal) (number line : ℕ) (kept' : Kept) → number ≡ length kept.table + 1
      → line ≡ kept.line + 1 → kept'.answer ≡ kept.answer → kept'.lemma ≡ kept.lemma → IsWalkFault (arcs_of p) rows number line refusal
      → JudgedAt (stages.Refused refusal) p front c rest kept'
  walk_refused refusal number line kept' e f a gone fault =
      let n : number ≡ k + 1 = omega (arith, e, cycles.nets.long, length-take k c.cycles, next.1.within) in
      let before = own_line front (3 + length c.times) in
      let l : line ≡ before + (k + 1) =
      f ∙ ap (λ n. n + 1) cycles.line ∙ own_adds front (3 + length c.times + k) 1 ∙ ap (own_line front) (omega arith)
      ∙ sym (own_adds front (3 + length c.times) (k + 1)) in
      record {
        none = gone ∙ none_coming p front kept cycles.front_came;
        answer = inl (a ∙ cycles.shown.answer, ap (list_all says_no_answer) next.1.left ∙ all_cycles c (k + 1));
        first = cycle_refused p c refusal front (shown_of p front kept cycles.front_came) cycles.shown.period cycles.shown.shows
            (walk_fault (arcs_of p) c.cycles before k rows rows next.1.within read refl cycles.walks refusal number line n l fault);
      }

-- a cycle where none may come any more
pub cycle_passed : (stage : Stage) (p : Pesp) (front : Option FrontOf) (c : Content) (rows : List SignedRow) (rest : List Item)
    (kept kept' : Kept) → is_front stage ≡ false → (stage ≡ stages.Cycles → ⊥) → kept'.answer ≡ kept.answer → kept'.lemma ≡ kept.lemma
    → JudgedAt stage p front c (Cycle rows ∷ rest) kept → JudgedAt stage p front c rest kept'
cycle_passed stages.Front p front c rows rest kept kept' f n e l h = absurd cc
cycle_passed stages.Cycles p front c rows rest kept kept' f n e l h = absurd (n refl)
cycle_passed stages.Tree p front c rows rest kept kept' f n e l h = absurd (cycle_in_tree c h.0 rows rest h.2.left)
cycle_passed (stages.Refused r) p front c rows rest kept kept' f n e l h = passed p front c r (Cycle rows) rest kept kept' refl e l h
