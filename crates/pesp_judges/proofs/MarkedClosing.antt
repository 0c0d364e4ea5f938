-- The first of the marked walks that isn't closed.
use Rattle.std.proofs.Common.{◌≡◌, ℕ, ◌+◌, ◌-◌, ◌<◌, ◌≤◌, arith, ap, sym, ◌∙◌, List, [], length, get_or, map, refl, subst, inl, inr}
use Rattle.std.specs.Prelude.{All}
use Rattle.std.proofs.lemmas.List.{length-map, get_or-map, get_or_default}
use Rattle.pesp_problem.specs.declared.arc.Arc.{Arc}
use Rattle.pesp_problem.specs.declared.row.SignedRow.{SignedRow}
use Rattle.pesp_problem.specs.Walks.{AreRows, IsWalk}
use Rattle.pesp_problem.specs.Nodes.{cycle_at}
use Rattle.pesp_judges.specs.declared.refusal.Refusal.{Refusal}
use Rattle.pesp_judges.specs.declared.refusal.Refusal.TheVariants.{OpenWalk, NoSuch}
use Rattle.pesp_judges.specs.Faults.{IsWalkFault, IsFirstOpen, IsMarkFault}
use Rattle.pesp_judges.proofs.Closing.{first_open, walks_more}
use Rattle.pesp_problem.specs.declared.marked.MarkedRow.{MarkedRow}
use Rattle.pesp_problem.specs.Marked.{signed_rows, IsMarkedWalk}

module _ (arcs : List Arc) (walks : List (List MarkedRow)) (k : ℕ) (walk : List MarkedRow)
    (within : k < length walks) (is : walk ≡ get_or walks k walk) where
  inside : k < length (map signed_rows walks)
  inside = omega (arith, within, length-map walks signed_rows)

  read : signed_rows walk ≡ get_or (map signed_rows walks) k (signed_rows walk)
  read = ap signed_rows is ∙ sym (get_or-map signed_rows walks k walk (signed_rows walk) within)

  pub walk_is : signed_rows walk ≡ cycle_at (map signed_rows walks) k
  walk_is = read ∙ get_or_default (map signed_rows walks) k (signed_rows walk) [] inside

  here : cycle_at (map signed_rows walks) k ≡ cycle_at (map signed_rows walks) (k + 1 - 1)
  here = ap (cycle_at (map signed_rows walks)) (omega arith)

  first : ((c : ℕ) → c < k → IsWalk arcs (cycle_at (map signed_rows walks) c))
      → (IsWalk arcs (signed_rows walk) → ⊥) → IsFirstOpen arcs (map signed_rows walks) (k + 1)
  first before never = first_open arcs (map signed_rows walks) 0 k (signed_rows walk) (signed_rows walk) inside read refl before never

  -- one walk more
  pub closed_more : ((c : ℕ) → c < k → IsWalk arcs (cycle_at (map signed_rows walks) c))
      → IsWalk arcs (signed_rows walk) → (c : ℕ) → c < k + 1 → IsWalk arcs (cycle_at (map signed_rows walks) c)
  closed_more before w = walks_more arcs (map signed_rows walks) k (signed_rows walk) walk_is before w

  -- it isn't closed
  pub mark_fault : (cycles line number at : ℕ) (refusal : Refusal)
      → ((c : ℕ) → c < k → IsWalk arcs (cycle_at (map signed_rows walks) c)) → number ≡ cycles + (k + 1)
      → at ≡ line + (k + 1) → IsWalkFault arcs (signed_rows walk) number at refusal
      → IsMarkFault arcs cycles line walks refusal
  mark_fault cycles line number at refusal before e e' (never, inl (f, rows)) =
      let P : List SignedRow → Type 0 = AreRows arcs in
      (k + 1, first before never, inl (f ∙ ap NoSuch e', λ r. rows (subst P (sym (walk_is ∙ here)) r)))
  mark_fault cycles line number at refusal before e e' (never, inr (f, rows)) =
      let P : List SignedRow → Type 0 = AreRows arcs in
      (k + 1, first before never, inr (f ∙ ap OpenWalk e, subst P (walk_is ∙ here) rows))

-- none of them is open
pub all_closed : (arcs : List Arc) (walks : List (List MarkedRow)) (k : ℕ) → length walks ≤ k
    → ((c : ℕ) → c < k → IsWalk arcs (cycle_at (map signed_rows walks) c)) → All (IsMarkedWalk arcs) walks
all_closed arcs walks k done closed c d l =
    let P : List SignedRow → Type 0 = IsWalk arcs in
    subst P (get_or-map signed_rows walks c d [] l) (closed c (omega (arith, l, done)))
