-- Rows that wait, and those that begin to wait.
use Rattle.std.proofs.Common.{◌≡◌, ◌≢◌, ℕ, ◌-◌, ◌<◌, ◌≤◌, ◌⊎◌, inl, inr, refl, sym, ◌∙◌, ap, arith, subst, vec_len, true, false, List}
use Rattle.std.specs.Prelude.{All, []}
use Rattle.std.proofs.lemmas.Bool.{cases_eq, cases_lt}
use Rattle.std.proofs.lemmas.List.Elements.{All-nil}
use Rattle.pesp_domains.specs.declared.waiting.Waiting.{Waiting}
use Rattle.pesp_network.specs.Chains.{IsNext}
use Rattle.pesp_domains.specs.Waiting.{waits_at, WaitingGrows, WaitingAreListed}

pub grows_none : (w : Waiting) → WaitingGrows w w
grows_none w = record { long = refl; still = λ row h. h; listed = λ row h. inl h; kept = λ row h. h; below = λ h. h }

pub grows_more : (u v w : Waiting) → WaitingGrows u v → WaitingGrows v w → WaitingGrows u w
grows_more u v w a b = record {
  long = b.long ∙ a.long;
  still = λ row h. b.still row (a.still row h);
  listed = λ row h. elim (b.listed row h) [ inl m ↦ elim (a.listed row m) [ inl k ↦ inl k | inr k ↦ inr (b.kept row k) ] | inr m ↦ inr m ];
  kept = λ row h. b.kept row (a.kept row h);
  below = λ h. let P : ℕ → Type 0 = λ n. All (λ (row : ℕ). row < n) v.rows.items
      → All (λ (row : ℕ). row < n) w.rows.items in subst P a.long b.below (a.below h);
}

pub woken_more : (n : ℕ) (T H : ℕ → ℕ) (event but row next : ℕ) (old new : Waiting) → IsNext T H event row next
    → WaitingGrows old new → (row ≢ but → waits_at new (row - 1) ≡ true)
    → ((k : ℕ) → row < k → k ≤ n → (T k ≡ event) ⊎ (H k ≡ event) → k ≢ but → waits_at old (k - 1) ≡ true)
    → (k : ℕ) → next < k → k ≤ n → (T k ≡ event) ⊎ (H k ≡ event) → k ≢ but → waits_at new (k - 1) ≡ true
woken_more n T H event but row next old new o g here before k l m e ne =
    elim (cases_lt k row) [
      | inl a ↦ absurd (o.none_between k l a e)
      | inr a ↦
          elim (cases_eq k row) [
            | inl q ↦ ap (λ (j : ℕ). waits_at new (j - 1)) q ∙ here (λ r. ne (q ∙ r))
            | inr q ↦ g.still (k - 1) (before k (apart k row a q) m e ne)
          ]
    ]
  where
    apart : (k row : ℕ) → row ≤ k → k ≢ row → row < k
    apart k row a q = omega arith

pub listed_none : (n : ℕ) (w : Waiting) → vec_len w.flags ≡ n → ((row : ℕ) → waits_at w row ≡ false) → w.rows.items ≡ [] → WaitingAreListed n w
listed_none n w l f e = record {
  long = l;
  listed = λ row h. let z : true ≡ false = sym h ∙ f row in cc;
  below = let P : List ℕ → Type 0 = λ rs. All (λ (row : ℕ). row < n) rs in subst P (sym e) (All-nil (λ (row : ℕ). row < n));
}

pub listed_more : (n : ℕ) (v w : Waiting) → WaitingAreListed n v → WaitingGrows v w → WaitingAreListed n w
listed_more n v w a g = record {
  long = g.long ∙ a.long;
  listed = λ row h. elim (g.listed row h) [ inl m ↦ g.kept row (a.listed row m) | inr m ↦ m ];
  below = let P : ℕ → Type 0 = λ k. All (λ (row : ℕ). row < k) v.rows.items
      → All (λ (row : ℕ). row < k) w.rows.items in subst P a.long g.below a.below;
}
