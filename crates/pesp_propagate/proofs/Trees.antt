-- The rows of a rooted forest, as a list.
use Rattle.std.proofs.Common.{◌≡◌, ◌≢◌, ◌⊎◌, inl, inr, ℕ, ◌+◌, ◌-◌, ◌<◌, ◌≤◌, ap, arith, List, [], ◌∷◌, ◌++◌, length, get_or, subst}
use Rattle.std.specs.List.{AllPairs}
use Rattle.std.specs.Prelude.{Contains}
use Rattle.std.proofs.lemmas.List.Elements.{Contains-append_left, Contains-get_or, Contains-push, Contains-push_cases}
use Rattle.std.proofs.lemmas.List.Quantifiers.{all_pairs_push}
use Rattle.pesp_problem.specs.declared.arc.Arc.{Arc}
use Rattle.pesp_problem.specs.Arcs.{arc_at, tail_of, head_of}
use Rattle.pesp_problem.specs.Roots.{Roots, AreRoots, AreTreeRows}
use Rattle.pesp_propagate.specs.Rooted.{IsJoined, IsSpanned}

-- the row of this number joins one of its ends upwards
abbrev pub JoinsEnd : List Arc → Roots → ℕ → Type 0
JoinsEnd arcs r k = (r.by (tail_of arcs k) ≡ k) ⊎ (r.by (head_of arcs k) ≡ k)

-- the list has those of the first rows that join events upwards
pub record AreTreeRowsTo (count : ℕ) (arcs : List Arc) (r : Roots) (rows : List ℕ) : Type 0 where
  pub apart : AllPairs (λ a b. a ≢ b) rows
  pub listed : (k : ℕ) → 0 < k → k ≤ count → JoinsEnd arcs r k → Contains rows k
  pub joined : (k : ℕ) → Contains rows k → (0 < k) × (k ≤ count) × JoinsEnd arcs r k

pub rooted-from_tests : (n : ℕ) (arcs : List Arc) (r : Roots) → ((x : ℕ) → x < n → IsJoined n arcs r x)
    → ((i : ℕ) → i < length arcs → IsSpanned n (arc_at arcs i) r) → AreRoots n arcs r
rooted-from_tests n arcs r j s = record {
  row = λ x l. (j x l).row;
  ends = λ x l b. (j x l).ends b;
  above = λ x l b. (j x l).above b;
  climbs = λ x l b. (j x l).climbs b;
  same_root = λ x l b. (j x l).same_root b;
  own_root = λ x l b. (j x l).own_root b;
  inside = λ i l. ((s i l).tail, (s i l).head);
  spans = λ i l. (s i l).same;
}

joins_own : (n : ℕ) (arcs : List Arc) (r : Roots) (x : ℕ) → AreRoots n arcs r → x < n → 0 < r.by x → JoinsEnd arcs r (r.by x)
joins_own n arcs r x a l b = elim (a.ends x l b) [ inl e ↦ inl (ap r.by e.0) | inr e ↦ inr (ap r.by e.0) ]

pub tree_rows-from_all : (n : ℕ) (arcs : List Arc) (r : Roots) (rows : List ℕ) (count : ℕ) → AreRoots n arcs r
    → length arcs ≤ count → count ≤ length arcs → AreTreeRowsTo count arcs r rows → AreTreeRows n r rows
tree_rows-from_all n arcs r rows count a all most t = record {
  apart = t.apart;
  listed = λ x l b. t.listed (r.by x) b (let m = a.row x l in omega arith) (joins_own n arcs r x a l b);
  joined = λ k c.
      let w = t.joined k c in let some = w.0 in let few = w.1 in
      let e = a.inside (k - 1) (omega arith) in
      elim w.2 [
        | inl j ↦ (tail_of arcs k, e.0, omega arith, j)
        | inr j ↦ (head_of arcs k, e.1, omega arith, j)
      ];
}

le-or-same : (k n : ℕ) → k ≤ n + 1 → (k ≤ n) ⊎ (k ≡ n + 1)
le-or-same k n h = grind arith

pub tree_rows-more : (count : ℕ) (arcs : List Arc) (r : Roots) (rows : List ℕ) → AreTreeRowsTo count arcs r rows
    → JoinsEnd arcs r (count + 1) → AreTreeRowsTo (count + 1) arcs r (rows ++ (count + 1) ∷ [])
tree_rows-more count arcs r rows t j = record {
  apart = all_pairs_push (λ (a : ℕ) (b : ℕ). a ≢ b) rows (count + 1) t.apart
      (λ k d l e. let w = t.joined (get_or rows k d) (Contains-get_or rows k d l) in let most = w.1 in
      omega (arith, most, e));
  listed = λ k some l e. elim (le-or-same k count l) [
    | inl m ↦ Contains-append_left rows ((count + 1) ∷ []) k (t.listed k some m e)
    | inr q ↦ rw q (Contains-push rows (count + 1))
  ];
  joined = λ k c. elim (Contains-push_cases rows (count + 1) k c) [
    | inl o ↦ let w = t.joined k o in let a = w.0 in let b = w.1 in (a, omega arith, w.2)
    | inr q ↦ let P : ℕ → Type 0 = JoinsEnd arcs r in (omega arith, omega arith, subst P q j)
  ];
}

pub tree_rows-skip : (count : ℕ) (arcs : List Arc) (r : Roots) (rows : List ℕ) → AreTreeRowsTo count arcs r rows
    → (JoinsEnd arcs r (count + 1) → ⊥) → AreTreeRowsTo (count + 1) arcs r rows
tree_rows-skip count arcs r rows t no_end = record {
  apart = t.apart;
  listed = λ k some l e. elim (le-or-same k count l) [
    | inl m ↦ t.listed k some m e
    | inr q ↦ let P : ℕ → Type 0 = JoinsEnd arcs r in absurd (no_end (subst P q e))
  ];
  joined = λ k c. let w = t.joined k c in let a = w.0 in let b = w.1 in (a, omega arith, w.2);
}

-- the row at this place joins one of its ends upwards
abbrev pub JoinsEndAt : List Arc → Roots → ℕ → Type 0
JoinsEndAt arcs r i = (r.by (arc_at arcs i).tail ≡ i + 1) ⊎ (r.by (arc_at arcs i).head ≡ i + 1)

pub joins_here : (arcs : List Arc) (r : Roots) (i : ℕ) → JoinsEndAt arcs r i → JoinsEnd arcs r (i + 1)
joins_here arcs r i j =
    let e : i ≡ i + 1 - 1 = omega arith in
    let P : ℕ → Type 0 = λ k. (r.by (arc_at arcs k).tail ≡ i + 1) ⊎ (r.by (arc_at arcs k).head ≡ i + 1) in subst P e j

pub joins_there : (arcs : List Arc) (r : Roots) (i : ℕ) → JoinsEnd arcs r (i + 1) → JoinsEndAt arcs r i
joins_there arcs r i j =
    let e : i + 1 - 1 ≡ i = omega arith in
    let P : ℕ → Type 0 = λ k. (r.by (arc_at arcs k).tail ≡ i + 1) ⊎ (r.by (arc_at arcs k).head ≡ i + 1) in subst P e j
