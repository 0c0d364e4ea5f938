-- What a leaf is told as.
use Rattle.std.proofs.Common.{◌≡◌, ℕ, ◌+◌, ◌∙◌, ap, sym, subst, refl, inl, inr, List, length, Bool, true, false, Option, Some, None, arith}
use Rattle.std.specs.Prelude.{ℤ, pos, ◌≤ℤ◌, ◌<ℤ◌, ◌↔◌, option_map, IsSomeAnd}
use Rattle.pesp_problem.specs.declared.row.SignedRow.{SignedRow}
use Rattle.pesp_problem.specs.declared.pair.Pair.{Pair}
use Rattle.pesp_problem.specs.Sums.{ceil_div}
use Rattle.pesp_problem.specs.Arcs.{Net}
use Rattle.pesp_problem.specs.Nodes.{Node, leaf_value}
use Rattle.pesp_problem.proofs.Integers.{ceil_div-le, le-ceil_div}
use Rattle.std.proofs.lemmas.Int.{ints}
use Rattle.pesp_truth.specs.Named.{names_more}
use Rattle.pesp_truth.specs.Trees.{Bound, Nothing, Claim, Plain, Behind, goal_of, Reaches, PairsExist, bound_by, lack_by, IsSoundLeaf}
use Rattle.pesp_leaves.specs.declared.checker.Claim.{Claim as ToldClaim}
use Rattle.pesp_leaves.specs.declared.checker.Claim.TheVariants.{Plain as TellsPlain, Behind as TellsBehind}
use Rattle.pesp_leaves.specs.Claims.{TellsOf, NamesTold, least_told, scale_told, scaled_by}
use Rattle.pesp_judges.specs.declared.refusal.Refusal.TheVariants.{NoSuch, BoundInInfeasible, LeafBelow, NotEmpty}
use Rattle.pesp_judges.specs.Faults.{IsLeafFault}

-- a value and its quotient
mapped : (f : ℤ → ℤ) (P : ℤ → Type 0) (o : Option ℤ) → IsSomeAnd (option_map f o) P ↔ IsSomeAnd o (λ v. P (f v))
mapped f P None = (λ h. h, λ h. h)
mapped f P (Some v) = (λ h. h, λ h. h)

ceil_div-one : (z : ℤ) → ceil_div z 1 ≡ z
ceil_div-one z = omega (arith, ints, ceil_div-le z 1 z (omega arith) (omega (arith, ints)), le-ceil_div z 1 (omega arith))

same_rounded : (o : Option ℤ) → option_map (λ v. ceil_div v 1) o ≡ o
same_rounded None = refl
same_rounded (Some v) = ap Some (ceil_div-one v)

-- ---- what is told of a claim

pub pairs_told : (told : ToldClaim) (claim : Claim) (table : List (List SignedRow)) (pairs : List Pair) → TellsOf told claim
    → NamesTold told (length table) pairs ↔ PairsExist claim table pairs
pairs_told (TellsPlain least) claim table pairs is = rw is (λ h. h, λ h. h)
pairs_told (TellsBehind s) claim table pairs is = rw (is.1) (λ h. h, λ h. h)

least_is : (told : ToldClaim) (claim : Claim) (n : Net) → TellsOf told claim → least_told told ≡ (goal_of n claim).least
least_is (TellsPlain least) claim n is = rw is refl
least_is (TellsBehind s) claim n is = rw (is.1) (is.2.least_is)

-- the value by the scale, rounded up, is what is bounded
pub bound_is : (told : ToldClaim) (claim : Claim) (n : Net) (table : List (List SignedRow)) (node : Node) (pairs : List Pair)
    → TellsOf told claim
    → option_map (λ v. ceil_div v (scale_told told (names_more (length table) pairs))) (scaled_by claim n table node pairs true)
    ≡ bound_by claim n table node pairs
bound_is (TellsPlain least) claim n table node pairs is = rw is (same_rounded (leaf_value n table node pairs true))
bound_is (TellsBehind s) claim n table node pairs is = rw (is.1) refl

enough_there : (told : ToldClaim) (claim : Claim) (n : Net) (table : List (List SignedRow)) (node : Node) (pairs : List Pair) (c : ℤ)
    → TellsOf told claim
    → IsSomeAnd (scaled_by claim n table node pairs true) (λ v. c ≤ℤ ceil_div v (scale_told told (names_more (length table) pairs)))
    ↔ IsSomeAnd (bound_by claim n table node pairs) (λ v. c ≤ℤ v)
enough_there told claim n table node pairs c is =
    let d = scale_told told (names_more (length table) pairs) in
    let m = mapped (λ v. ceil_div v d) (λ v. c ≤ℤ v) (scaled_by claim n table node pairs true) in
    let P : Option ℤ → Type 0 = λ o. IsSomeAnd (scaled_by claim n table node pairs true) (λ v. c ≤ℤ ceil_div v d)
    ↔ IsSomeAnd o (λ v. c ≤ℤ v) in
    subst P (bound_is told claim n table node pairs is) (m.1, m.0)

lack_there : (claim : Claim) (n : Net) (table : List (List SignedRow)) (node : Node) (pairs : List Pair)
    → scaled_by claim n table node pairs false ≡ lack_by claim n table node pairs
lack_there (Plain least) n table node pairs = refl
lack_there (Behind marks facts goal) n table node pairs = refl

module _ (told : ToldClaim) (claim : Claim) (is : TellsOf told claim) (n : Net) (table : List (List SignedRow)) (pairs : List Pair)
    (node : Node) (line cycles : ℕ) (long : cycles ≡ length table) where
  here : NamesTold told cycles pairs → PairsExist claim table pairs
  here h = let P : ℕ → Type 0 = λ k. NamesTold told k pairs in (pairs_told told claim table pairs is).0 (subst P long h)

  not_here : (NamesTold told cycles pairs → ⊥) → PairsExist claim table pairs → ⊥
  not_here h there =
      let P : ℕ → Type 0 = λ k. NamesTold told k pairs → ⊥ in subst P long h ((pairs_told told claim table pairs is).1 there)

  -- ---- a bound

  pub bound_unnamed : (NamesTold told cycles pairs → ⊥) → IsLeafFault claim n table (Bound pairs) node line (NoSuch line)
  bound_unnamed h = inl (refl, not_here h)

  pub bound_infeasible : NamesTold told cycles pairs → least_told told ≡ None
      → IsLeafFault claim n table (Bound pairs) node line (BoundInInfeasible line)
  bound_infeasible h e = inr (inl (refl, here h, sym (least_is told claim n is) ∙ e))

  module _ (c : ℤ) (scale : ℕ) (value : Option ℤ) (wanted : least_told told ≡ Some c)
      (scaled : scale ≡ scale_told told (names_more cycles pairs))
      (valued : value ≡ scaled_by claim n table node pairs true) (named : NamesTold told cycles pairs) where
    enough : IsSomeAnd value (λ v. c ≤ℤ ceil_div v scale) ↔ IsSomeAnd (bound_by claim n table node pairs) (λ v. c ≤ℤ v)
    enough =
        let there : scale ≡ scale_told told (names_more (length table) pairs) = scaled
        ∙ ap (λ (k : ℕ). scale_told told (names_more k pairs)) long in
        let P : ℕ → Type 0 = λ e. IsSomeAnd value (λ v. c ≤ℤ ceil_div v e) ↔ IsSomeAnd (bound_by claim n table node pairs) (λ v. c ≤ℤ v) in
        let Q : Option ℤ → Type 0 = λ o. IsSomeAnd o (λ v. c ≤ℤ ceil_div v (scale_told told (names_more (length table) pairs)))
        ↔ IsSomeAnd (bound_by claim n table node pairs) (λ v. c ≤ℤ v) in
        subst P (sym there) (subst Q (sym valued) (enough_there told claim n table node pairs c is))

    wanted_there : (goal_of n claim).least ≡ Some c
    wanted_there = sym (least_is told claim n is) ∙ wanted

    pub bound_below : (IsSomeAnd value (λ v. c ≤ℤ ceil_div v scale) → ⊥) → IsLeafFault claim n table (Bound pairs) node line (LeafBelow line)
    bound_below h = inr (inr (refl, here named, (c, wanted_there, λ s. h (enough.1 s))))

    pub bound_sound : IsSomeAnd value (λ v. c ≤ℤ ceil_div v scale) → IsSoundLeaf claim n table (Bound pairs) node
    bound_sound h =
        let P : Option ℤ → Type 0 = λ l. Reaches (bound_by claim n table node pairs) l in
        (here named, subst P (sym wanted_there) (enough.0 h))

  -- ---- none there

  pub nothing_unnamed : (NamesTold told cycles pairs → ⊥) → IsLeafFault claim n table (Nothing pairs) node line (NoSuch line)
  nothing_unnamed h = inl (refl, not_here h)

  module _ (value : Option ℤ) (valued : value ≡ scaled_by claim n table node pairs false) (named : NamesTold told cycles pairs) where
    lacks : value ≡ lack_by claim n table node pairs
    lacks = valued ∙ lack_there claim n table node pairs

    pub nothing_open : (IsSomeAnd value (λ v. pos 0 <ℤ v) → ⊥) → IsLeafFault claim n table (Nothing pairs) node line (NotEmpty line)
    nothing_open h = let P : Option ℤ → Type 0 = λ o. IsSomeAnd o (λ v. pos 0 <ℤ v) → ⊥ in inr (refl, here named, subst P lacks h)

    pub nothing_sound : IsSomeAnd value (λ v. pos 0 <ℤ v) → IsSoundLeaf claim n table (Nothing pairs) node
    nothing_sound h = let P : Option ℤ → Type 0 = λ o. IsSomeAnd o (λ v. pos 0 <ℤ v) in (here named, subst P lacks h)
