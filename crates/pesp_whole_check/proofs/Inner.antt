-- What holds behind a front, where there is one.
use Rattle.std.proofs.Common.{◌≡◌, ◌∙◌, ℕ, refl, sym, ap, subst, List, Option, Some, None}
use Rattle.std.specs.Prelude.{Bool, All, IfSome, IsSomeAnd, IsTrue, is_some, option_map}
use Rattle.std.specs.Option.{ForSome}
use Rattle.pesp_problem.specs.declared.arc.Arc.{Arc}
use Rattle.pesp_problem.specs.Arcs.{Net}
use Rattle.pesp_problem.specs.Walks.{RowExists}
use Rattle.pesp_problem.specs.Marked.{IsMarkedWalk}
use Rattle.pesp_leaves.proofs.Summing.{rows_exist}
use Rattle.pesp_truth.specs.Marks.{Marks}
use Rattle.pesp_truth.specs.Certificates.{Front, claim_of}
use Rattle.pesp_whole_check.specs.Costs.{facts_said}
use Rattle.pesp_whole_check.specs.Rooms.{claim_from}

-- what holds behind a front holds of each front that it is
pub if_for : {T : Type 0} (o : Option T) (P : T → Type 0) → IfSome o P → ForSome o P
if_for None P h = λ x is. absurd cc
if_for (Some y) P h = λ x is. let same : y ≡ x = cc in subst P same h

pub for_if : {T : Type 0} (o : Option T) (P : T → Type 0) → ForSome o P → IfSome o P
for_if None P h = tt
for_if (Some y) P h = h y refl

pub if_behind : {T : Type 0} (o : Option T) (P : Type 0) (behind : Bool) → behind ≡ is_some o → (IsTrue behind → P) → IfSome o (λ _. P)
if_behind None P behind e h = tt
if_behind (Some y) P behind e h = h e

-- the marks of a front
abbrev pub marks_in : Option Front → Option Marks
marks_in front = option_map (λ f. f.marks) front

pub in_marks : (front : Option Front) (P : Marks → Type 0) → IfSome front (λ f. P f.marks) → IfSome (marks_in front) P
in_marks None P h = tt
in_marks (Some f) P h = h

pub in_front : (front : Option Front) (P : Marks → Type 0) → IfSome (marks_in front) P → IfSome front (λ f. P f.marks)
in_front None P h = tt
in_front (Some f) P h = h

pub fault_in : (front : Option Front) (P : Marks → Type 0) → IsSomeAnd (marks_in front) P → IsSomeAnd front (λ f. P f.marks)
fault_in None P h = h
fault_in (Some f) P h = h

-- the rows of closed marked walks exist
pub walks_exist : (marks : Option Marks) (arcs arcs' : List Arc) → arcs ≡ arcs'
    → IfSome marks (λ m. All (IsMarkedWalk arcs') m.walks)
    → IfSome marks (λ m. All (λ walk. All (λ s. RowExists arcs s.signed) walk) m.walks)
walks_exist None arcs arcs' e closed = tt
walks_exist (Some m) arcs arcs' e closed =
    let P : List Arc → Type 0 = λ a. All (λ walk. All (λ s. RowExists a s.signed) walk) m.walks in
    subst P (sym e) (rows_exist arcs' m.walks closed)

-- what a certificate's tree is to show, by the marks and the lemmas of its front
pub claim_is : (front : Option Front) (n : Net) (least : Option ℕ) → claim_from (marks_in front) (facts_said front) n least ≡ claim_of front n least
claim_is None n least = refl
claim_is (Some f) n least = refl

-- ---- marks that are lent

module _ {R : Type 0} (now : R → Marks) (P : Marks → Type 0) where
  pub lent_for : (lent : Option R) (kept : Option Marks) → option_map now lent ≡ kept → ForSome kept P → ForSome lent (λ m. P (now m))
  lent_for lent kept e h = λ x is. h (now x) (sym e ∙ ap (λ (o : Option R). option_map now o) is)

  pub lent_if : (lent : Option R) (kept : Option Marks) → option_map now lent ≡ kept → IfSome lent (λ m. P (now m)) → IfSome kept P
  lent_if None None e h = tt
  lent_if None (Some m) e h = absurd cc
  lent_if (Some y) None e h = tt
  lent_if (Some y) (Some m) e h = let same : now y ≡ m = cc in subst P same h

  pub lent_and : (lent : Option R) (kept : Option Marks) → option_map now lent ≡ kept → IsSomeAnd lent (λ m. P (now m)) → IsSomeAnd kept P
  lent_and None kept e h = absurd h
  lent_and (Some y) None e h = absurd cc
  lent_and (Some y) (Some m) e h = let same : now y ≡ m = cc in subst P same h
