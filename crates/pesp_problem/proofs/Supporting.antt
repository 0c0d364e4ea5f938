-- An event that no arc joins always has a set, so a family may have more events than the arcs do.
use Rattle.std.proofs.Common.{◌≡◌, ℕ, ◌<◌, ◌≤◌, List, ◌∙◌, sym, arith, true, inl, inr}
use Rattle.std.specs.Prelude.{All, nat_lt, ◌==◌, if◌then◌else◌}
use Rattle.std.proofs.lemmas.Bool.{cases_lt}
use Rattle.std.proofs.lemmas.Bool.Decides.{nat_tests}
use Rattle.pesp_problem.specs.Arcs.{Net, arc_at, no_arc}
use Rattle.pesp_problem.specs.Families.{Family, IsFamily, IsSupported, HasNoEmpty, NoFamilyIsSupported}

-- the sets of the first events, and 0 alone for each other one
abbrev extended : ℕ → Family → Family
extended events s e d = if nat_lt e events then s e d else d == 0

inside : (events : ℕ) (s : Family) (e d : ℕ) → e < events → extended events s e d ≡ s e d
inside events s e d l = grind (arith, nat_tests)

outside : (events : ℕ) (s : Family) (e d : ℕ) → events ≤ e → extended events s e d ≡ true → d ≡ 0
outside events s e d l h = grind (arith, nat_tests)

has_none : (events : ℕ) (s : Family) (e : ℕ) → events ≤ e → extended events s e 0 ≡ true
has_none events s e l = grind (arith, nat_tests)

is_family : (n : Net) (events more : ℕ) (s : Family) → 0 < n.period → IsFamily n events s → IsFamily n more (extended events s)
is_family n events more s h f = record {
  below = λ e d l k. elim (cases_lt e events) [
    | inl low ↦
        f.below e d low (sym (inside events s e d low) ∙ k)
    | inr out ↦
        omega (arith, h, outside events s e d out k)
  ];
  first = λ e d l is k. elim (cases_lt e events)
      [ inl low ↦ f.first e d low is (sym (inside events s e d low) ∙ k) | inr out ↦ outside events s e d out k ];
}

is_supported : (n : Net) (ranges : List (ℕ × ℕ)) (events : ℕ) (s : Family)
    → All (λ arc. (arc.tail < events) × (arc.head < events)) n.arcs → IsSupported n ranges s
    → IsSupported n ranges (extended events s)
is_supported n ranges events s ends k i l =
    let arc = arc_at n.arcs i in
    let at : (arc.tail < events) × (arc.head < events) = ends i no_arc l in
    let by = k i l in
    record {
      tails = λ t h. (let p = by.tails t (sym (inside events s arc.tail t at.0) ∙ h) in
          (p.0, inside events s arc.head p.0 at.1 ∙ p.1, p.2));
      heads = λ d h. (let p = by.heads d (sym (inside events s arc.head d at.1) ∙ h) in
          (p.0, inside events s arc.tail p.0 at.0 ∙ p.1, p.2));
    }

no_empty : (events more : ℕ) (s : Family) → HasNoEmpty events s → HasNoEmpty more (extended events s)
no_empty events more s h e l = elim (cases_lt e events) [
  | inl low ↦ (let p = h e low in (p.0, inside events s e p.0 low ∙ p.1))
  | inr out ↦
      (0, has_none events s e out)
]

pub none_for_all : (n : Net) (ranges : List (ℕ × ℕ)) (events more : ℕ) → 0 < n.period
    → All (λ arc. (arc.tail < events) × (arc.head < events)) n.arcs → NoFamilyIsSupported n ranges more
    → NoFamilyIsSupported n ranges events
none_for_all n ranges events more h ends none s f k some =
    none (extended events s) (is_family n events more s h f) (is_supported n ranges events s ends k)
    (no_empty events more s some)
