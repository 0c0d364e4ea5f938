-- Walks that are followed row by row, and tables of walks.
use Rattle.std.proofs.Common.{◌≡◌, ℕ, ◌+◌, ◌-◌, ◌<◌, ◌≤◌, arith, ap, sym, ◌∙◌, List, [], ◌∷◌, length, get_or, subst, inl, inr, below_more}
use Rattle.std.specs.Prelude.{All}
use Rattle.std.proofs.lemmas.List.{get_or_default}
use Rattle.pesp_problem.specs.declared.arc.Arc.{Arc}
use Rattle.pesp_problem.specs.declared.row.SignedRow.{SignedRow}
use Rattle.pesp_problem.specs.Walks.{AreRows, IsWalk}
use Rattle.pesp_problem.specs.Nodes.{cycle_at}
use Rattle.pesp_judges.specs.declared.refusal.Refusal.{Refusal}
use Rattle.pesp_judges.specs.declared.refusal.Refusal.TheVariants.{OpenWalk, NoSuch}
use Rattle.pesp_judges.specs.Faults.{IsFirstOpen, IsWalkFault, IsCycleFault}

-- rows that don't exist are no walk
pub no_rows : (arcs : List Arc) (walk : List SignedRow) → (AreRows arcs walk → ⊥) → IsWalk arcs walk → ⊥
no_rows arcs [] never h = h
no_rows arcs (s ∷ walk) never h = never h.0

-- ---- the first cycle that is no walk

module _ (arcs : List Arc) (cycles : List (List SignedRow)) (line k : ℕ) (cycle read : List SignedRow)
    (within : k < length cycles) (is : read ≡ get_or cycles k read) (same : cycle ≡ read)
    (before : (c : ℕ) → c < k → IsWalk arcs (cycle_at cycles c)) where
  pub cycle_is : cycle ≡ cycle_at cycles k
  cycle_is = same ∙ is ∙ get_or_default cycles k read [] within

  here : cycle_at cycles k ≡ cycle_at cycles (k + 1 - 1)
  here = ap (cycle_at cycles) (omega arith)

  pub first_open : (IsWalk arcs cycle → ⊥) → IsFirstOpen arcs cycles (k + 1)
  first_open never = record {
    exists = (omega arith, omega arith);
    before = λ c l. before c (omega arith);
    open_ends = λ w. let P : List SignedRow → Type 0 = IsWalk arcs in never (subst P (sym (cycle_is ∙ here)) w);
  }

  pub walk_fault : (refusal : Refusal) (number at : ℕ) → number ≡ k + 1 → at ≡ line + (k + 1)
      → IsWalkFault arcs cycle number at refusal → IsCycleFault arcs cycles line refusal
  walk_fault refusal number at e e' (never, inl (f, rows)) =
      let P : List SignedRow → Type 0 = AreRows arcs in
      (k + 1, first_open never, inl (f ∙ ap NoSuch e', λ r. rows (subst P (sym (cycle_is ∙ here)) r)))
  walk_fault refusal number at e e' (never, inr (f, rows)) =
      let P : List SignedRow → Type 0 = AreRows arcs in
      (k + 1, first_open never, inr (f ∙ ap OpenWalk e, subst P (cycle_is ∙ here) rows))

pub all_walks : (arcs : List Arc) (cycles : List (List SignedRow)) (k : ℕ) → length cycles ≤ k
    → ((c : ℕ) → c < k → IsWalk arcs (cycle_at cycles c)) → All (IsWalk arcs) cycles
all_walks arcs cycles k done walks = λ c d l. let P : List SignedRow → Type 0 = IsWalk arcs in
    subst P (get_or_default cycles c [] d l) (walks c (omega arith))

-- one walk more
pub walks_more : (arcs : List Arc) (cycles : List (List SignedRow)) (k : ℕ) (cycle : List SignedRow)
    → cycle ≡ cycle_at cycles k → ((c : ℕ) → c < k → IsWalk arcs (cycle_at cycles c)) → IsWalk arcs cycle → (c : ℕ)
    → c < k + 1 → IsWalk arcs (cycle_at cycles c)
walks_more arcs cycles k cycle e before walk =
    let P : List SignedRow → Type 0 = IsWalk arcs in below_more (λ c. IsWalk arcs (cycle_at cycles c)) k before (subst P e walk)
