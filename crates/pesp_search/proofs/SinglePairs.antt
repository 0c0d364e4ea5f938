-- The single pair that is worth most, cycle by cycle.
use Rattle.std.proofs.Common.{◌≡◌, ℕ, ◌+◌, ◌<◌, ◌≤◌, List, [], ◌∷◌, length, true, ap, arith, sym, ◌∙◌, subst, ◌⊎◌, inl, inr, Option, Some, None}
use Rattle.std.specs.Prelude.{ℤ, ◌≤ℤ◌, unsigned_abs, IfSome, IsSomeAnd, IfOk, Result, Ok, Err}
use Rattle.std.proofs.lemmas.Int.{ints}
use Rattle.std.proofs.lemmas.List.Elements.{All-cons, All-nil}
use Rattle.pesp_problem.specs.declared.pair.Pair.{Pair}
use Rattle.pesp_problem.specs.Walks.{Names}
use Rattle.pesp_problem.specs.Nodes.{Node, leaf_value}
use Rattle.pesp_nodes.specs.Problems.{ProblemValue, problem_net, IsPairOf, ArePairs}
use Rattle.pesp_board.specs.Giving.{HaveValue}
use Rattle.pesp_search.specs.Singles.{plus_pair, minus_pair, IsSingle, IsBestSingle}

pub one_pair : (n : ℕ) (pair : Pair) → Names n pair.cycle → unsigned_abs pair.mult ≡ 1 → ArePairs n (pair ∷ [])
one_pair n pair names one = record {
  rise = λ i j d l m. absurd (omega (arith, l, m));
  each = All-cons (IsPairOf n) pair [] (record {
    names = names;
    some = omega (arith, one);
    most = omega (arith, one);
  }) (All-nil (IsPairOf n));
}

pub one_valued : (p : ProblemValue) (node : Node) (pair : Pair) (items : List Pair) (value : Option ℤ) (v w : ℤ)
    → Names (length p.table) pair.cycle → unsigned_abs pair.mult ≡ 1 → items ≡ pair ∷ []
    → value ≡ leaf_value (problem_net p) p.table node (pair ∷ []) true → value ≡ Some v → w ≡ v
    → HaveValue p node items true w
one_valued p node pair items value v w names one e f g h =
    subst (λ (x : List Pair). HaveValue p node x true w) (sym e)
    (one_pair (length p.table) pair names one, sym f ∙ g ∙ ap Some (sym h))

-- at most so much, where there is a value
abbrev pub IsUpTo : ProblemValue → Node → List Pair → ℤ → Type 0
IsUpTo p node pairs value = IfSome (leaf_value (problem_net p) p.table node pairs true) (λ v. v ≤ℤ value)

-- the best of no pairs and the single pairs of the first n cycles
pub record IsBestOf (p : ProblemValue) (node : Node) (n : ℕ) (pairs : List Pair) (value : ℤ) : Type 0 where
  pub worth : HaveValue p node pairs true value
  pub none : IsUpTo p node [] value
  pub plus : (c : ℕ) → Names n c → IsUpTo p node (plus_pair c) value
  pub minus : (c : ℕ) → Names n c → IsUpTo p node (minus_pair c) value

up_to_more : (o : Option ℤ) (a b : ℤ) → a ≤ℤ b → IfSome o (λ v. v ≤ℤ a) → IfSome o (λ v. v ≤ℤ b)
up_to_more None a b h k = tt
up_to_more (Some v) a b h k = omega (arith, ints, h, k)

up_to_itself : (o : Option ℤ) (a : ℤ) → o ≡ Some a → IfSome o (λ v. v ≤ℤ a)
up_to_itself o a e = rw e (omega (arith, ints))

pub none_best : (p : ProblemValue) (node : Node) (pairs : List Pair) (value : ℤ) → pairs ≡ []
    → HaveValue p node [] true value → IsBestOf p node 0 pairs value
none_best p node pairs value e h = record {
  worth = subst (λ (x : List Pair). HaveValue p node x true value) (sym e) h;
  none = up_to_itself (leaf_value (problem_net p) p.table node [] true) value h.1;
  plus = λ c m. absurd (omega (arith, m));
  minus = λ c m. absurd (omega (arith, m));
}

pub one_more : (p : ProblemValue) (node : Node) (n : ℕ) (pairs new : List Pair) (value more : ℤ)
    → IsBestOf p node n pairs value → HaveValue p node new true more → value ≤ℤ more
    → IsUpTo p node (plus_pair (n + 1)) more → IsUpTo p node (minus_pair (n + 1)) more
    → IsBestOf p node (n + 1) new more
one_more p node n pairs new value more h w less plus minus = record {
  worth = w;
  none = up_to_more (leaf_value (problem_net p) p.table node [] true) value more less h.none;
  plus = λ c m. elim (cases c m) [
    | inl before ↦ up_to_more (leaf_value (problem_net p) p.table node (plus_pair c) true) value more less (h.plus c before)
    | inr here ↦ subst (λ (x : ℕ). IsUpTo p node (plus_pair x) more) (sym here) plus
  ];
  minus = λ c m. elim (cases c m) [
    | inl before ↦ up_to_more (leaf_value (problem_net p) p.table node (minus_pair c) true) value more less (h.minus c before)
    | inr here ↦ subst (λ (x : ℕ). IsUpTo p node (minus_pair x) more) (sym here) minus
  ];
}
  where
    order : (a b : ℕ) → (a ≤ b) ⊎ (b < a)
    order a b = grind arith

    cases : (c : ℕ) → Names (n + 1) c → Names n c ⊎ (c ≡ n + 1)
    cases c m = elim (order c n) [
      | inl before ↦ inl (m.0, before)
      | inr after ↦ inr (let most = m.1 in omega (arith, after, most))
    ]

below_best : (o : Option ℤ) (best : Option ℤ) (value : ℤ) → best ≡ Some value → IfSome o (λ v. v ≤ℤ value)
    → IfSome o (λ v. IsSomeAnd best (λ w. v ≤ℤ w))
below_best None best value e h = tt
below_best (Some v) best value e h = rw e h

pub all_best : (p : ProblemValue) (node : Node) (n : ℕ) (pairs : List Pair) (value : ℤ) → n ≡ length p.table
    → IsBestOf p node n pairs value → IsBestSingle p node pairs
all_best p node n pairs value e h = record {
  pairs = h.worth.0;
  others = λ others single. below_best (leaf_value (problem_net p) p.table node others true)
      (leaf_value (problem_net p) p.table node pairs true) value h.worth.1 (each others single);
}
  where
    each : (others : List Pair) → IsSingle (length p.table) others → IsUpTo p node others value
    each others (inl none) = subst (λ (x : List Pair). IsUpTo p node x value) (sym none) h.none
    each others (inr (cycle, names, inl plus)) =
        subst (λ (x : List Pair). IsUpTo p node x value) (sym plus)
        (h.plus cycle (subst (λ (k : ℕ). Names k cycle) (sym e) names))
    each others (inr (cycle, names, inr minus)) =
        subst (λ (x : List Pair). IsUpTo p node x value) (sym minus)
        (h.minus cycle (subst (λ (k : ℕ). Names k cycle) (sym e) names))

pub if_ok : {A B : Type 0} (r : Result A B) (P Q : A → Type 0) → ((x : A) → P x → Q x) → IfOk r P → IfOk r Q
if_ok (Ok x) P Q f h = f x h
if_ok (Err e) P Q f h = tt

pub le_chain : (a b c : ℤ) → a ≤ℤ b → b ≤ℤ c → a ≤ℤ c
le_chain a b c h k = omega (arith, ints, h, k)

pub up_to_trans : (o : Option ℤ) (a b : ℤ) → IfSome o (λ v. v ≤ℤ a) → a ≤ℤ b → IfSome o (λ v. v ≤ℤ b)
up_to_trans o a b h k = up_to_more o a b k h
