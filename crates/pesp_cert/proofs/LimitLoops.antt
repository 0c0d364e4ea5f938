-- The loops over the parts of a certificate.
use Rattle.std.proofs.Common.{◌≡◌, ℕ, zero, suc, ◌+◌, ◌-◌, ◌<◌, ◌≤◌, true, false, List, [], ◌∷◌, length, get_or, drop, refl, sym, ap, ◌∙◌, arith, add-one, drop-cons}
use Rattle.std.specs.Prelude.{map, ◌==◌}
use Rattle.std.proofs.lemmas.Bool.Decides.{nat_tests}
use Rattle.std.proofs.lemmas.List.{drop_all}
use Rattle.pesp_problem.specs.declared.pair.Pair.{Pair}
use Rattle.pesp_truth.specs.declared.tree.TreeLine.{TreeLine}
use Rattle.pesp_truth.specs.declared.tree.TreeLine.TheVariants.{Slack, Offset, Bound, Nothing, Gap, Propagated}
use Rattle.pesp_truth.specs.Trees.{Line, are_trees, line_of}
use Rattle.pesp_cert_lines.specs.Pairs.{follows, rise_from}
use Rattle.pesp_cert.specs.Limits.{is_branch}

-- ---- pairs that rise

-- what the pairs from i on give behind the least number is what all give
pub record RisesTo (ps : List Pair) (i least : ℕ) : Type 0 where
  pub same : rise_from least (drop i ps) ≡ rise_from 0 ps

cut : {A : Type 0} (xs : List A) (i : ℕ) (x : A) → i < length xs → x ≡ get_or xs i x → drop i xs ≡ x ∷ drop (i + 1) xs
cut xs i x lt is = rw (add-one) (drop-cons xs i x lt) ∙ ap (λ y. y ∷ drop (i + 1) xs) (sym is)

pub rises_next : (ps : List Pair) (i least : ℕ) (p : Pair) → i < length ps → p ≡ get_or ps i p
    → follows least p ≡ true → RisesTo ps i least → RisesTo ps (i + 1) (p.cycle + 1)
rises_next ps i least p lt is good h = record { same = (rw good refl) ∙ (rw (cut ps i p lt is) at h.same) }

pub no_rise : (ps : List Pair) (i least : ℕ) (p : Pair) → i < length ps → p ≡ get_or ps i p
    → follows least p ≡ false → RisesTo ps i least → false ≡ rise_from 0 ps
no_rise ps i least p lt is bad h = (rw bad refl) ∙ (rw (cut ps i p lt is) at h.same)

pub all_rise : (ps : List Pair) (i least : ℕ) → length ps ≤ i → RisesTo ps i least → true ≡ rise_from 0 ps
all_rise ps i least past h = rw (drop_all i ps past) at h.same

-- ---- one whole tree

-- the lines from i on are as many trees as are needed
pub record IsTreeTo (ls : List TreeLine) (i needs : ℕ) : Type 0 where
  pub same : are_trees needs (map line_of (drop i ls)) ≡ are_trees 1 (map line_of ls)
  pub few : needs ≤ i + 1

branch_step : (n : ℕ) (line : TreeLine) (ls : List Line) → is_branch line ≡ true
    → are_trees (suc n) (line_of line ∷ ls) ≡ are_trees (suc (suc n)) ls
branch_step n (Slack row k) ls h = refl
branch_step n (Offset cycle k) ls h = refl
branch_step n (Bound ps) ls h = absurd cc
branch_step n (Nothing ps) ls h = absurd cc
branch_step n (Gap cycle) ls h = absurd cc
branch_step n Propagated ls h = absurd cc

leaf_step : (n : ℕ) (line : TreeLine) (ls : List Line) → is_branch line ≡ false → are_trees (suc n) (line_of line ∷ ls) ≡ are_trees n ls
leaf_step n (Slack row k) ls h = absurd cc
leaf_step n (Offset cycle k) ls h = absurd cc
leaf_step n (Bound ps) ls h = refl
leaf_step n (Nothing ps) ls h = refl
leaf_step n (Gap cycle) ls h = refl
leaf_step n Propagated ls h = refl

pub tree_branch : (ls : List TreeLine) (i needs : ℕ) (line : TreeLine) → i < length ls → line ≡ get_or ls i line
    → 0 < needs → is_branch line ≡ true → IsTreeTo ls i needs → IsTreeTo ls (i + 1) (needs + 1)
tree_branch ls i zero line lt is some h t = absurd (omega arith)
tree_branch ls i (suc n) line lt is some h t =
    let e : suc n + 1 ≡ suc (suc n) = omega arith in
    record {
      same = rw e (sym (branch_step n line (map line_of (drop (i + 1) ls)) h)
          ∙ (rw (cut ls i line lt is) at t.same));
      few = omega (arith, t.few);
    }

pub tree_leaf : (ls : List TreeLine) (i needs : ℕ) (line : TreeLine) → i < length ls → line ≡ get_or ls i line
    → 0 < needs → is_branch line ≡ false → IsTreeTo ls i needs → IsTreeTo ls (i + 1) (needs - 1)
tree_leaf ls i zero line lt is some h t = absurd (omega arith)
tree_leaf ls i (suc n) line lt is some h t =
    let e : suc n - 1 ≡ n = omega arith in
    record {
      same = rw e (sym (leaf_step n line (map line_of (drop (i + 1) ls)) h)
          ∙ (rw (cut ls i line lt is) at t.same));
      few = omega (arith, t.few);
    }

pub no_tree : (ls : List TreeLine) (i needs : ℕ) (line : TreeLine) → i < length ls → line ≡ get_or ls i line
    → needs ≡ 0 → IsTreeTo ls i needs → false ≡ are_trees 1 (map line_of ls)
no_tree ls i needs line lt is none t = rw (none, cut ls i line lt is) at t.same

pub all_tree : (ls : List TreeLine) (i needs : ℕ) → length ls ≤ i → IsTreeTo ls i needs → (needs == 0) ≡ are_trees 1 (map line_of ls)
all_tree ls i needs past t = ended needs ∙ (rw (drop_all i ls past) at t.same)
  where
    ended : (n : ℕ) → (n == 0) ≡ are_trees n []
    ended zero = refl
    ended (suc n) = grind (arith, nat_tests)
