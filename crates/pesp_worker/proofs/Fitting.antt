-- Trees that may stand in the place of a lent leaf have a text.
use Rattle.std.proofs.Common.{◌≡◌, ℕ, ◌≤◌, List, [], ◌∷◌, length, map, refl, sym, ap, ◌∙◌, subst, arith, inl, inr}
use Rattle.std.specs.Prelude.{ℤ, ◌≤ℤ◌, All, sum_by, Option, Some, None, IfSome, IsSomeAnd, option_map}
use Rattle.std.specs.Global.{Vec}
use Rattle.std.proofs.lemmas.Int.{ints}
use Rattle.std.proofs.lemmas.List.{length-map}
use Rattle.pesp_problem.specs.declared.pair.Pair.{Pair}
use Rattle.pesp_problem.specs.Timetables.{Pesp}
use Rattle.pesp_network.specs.Networks.{KeepsNetLimits}
use Rattle.pesp_truth.specs.declared.answer.Answer.{Answer}
use Rattle.pesp_truth.specs.declared.answer.Answer.TheVariants.{Optimal, Infeasible, Bounded}
use Rattle.pesp_truth.specs.declared.tree.TreeLine.{TreeLine}
use Rattle.pesp_truth.specs.Trees.{Tree, Leaf, Ends, Branch, Bound, Shut, ByPropagation, EndLine, preorder, line_of}
use Rattle.pesp_truth.specs.Leaves.{IsLeafAt}
use Rattle.pesp_truth.specs.Certificates.{Content, cost_of, IsValid, ShowsTimetable, ShowsAnswer}
use Rattle.pesp_truth.proofs.Lines.{whole_tree}
use Rattle.pesp_nodes.specs.Problems.{ProblemValue, IsSmallTable}
use Rattle.pesp_tree.specs.declared.work.Work.TheVariants as works
use Rattle.pesp_tree.specs.BoardLeaves.{told}
use Rattle.pesp_tree.specs.Limits.{pairs_in, IsLineOf}
use Rattle.pesp_tree.specs.States.{State, IsJobLeaf, node_at, value_at}
use Rattle.pesp_tree.specs.Reached.{IsOrderly}
use Rattle.pesp_tree.specs.Events.{Takes, IsGraft, IsCheaper}
use Rattle.pesp_tree.proofs.Sizes.{put_lines_add_up, put_pairs_add_up}
use Rattle.pesp_tree.proofs.TreeLimits.{graft_lines}
use Rattle.pesp_board.proofs.Certified.{lines_fit, same_pairs, all_two}
use Rattle.pesp_branching.proofs.Sizes.{leaf_pairs}
use Rattle.pesp_cert_items.specs.Works.{WorkValue, HasWorkText}
use Rattle.pesp_cert_items.proofs.LimitLaws.{work_limits_iff}
use Rattle.pesp_worker.specs.HandingIn.{AreCheaperTimes, AreTimesFor, AreShort, Fits, without_times}

-- ---- texts

-- so many lines and pairs as a text may have
part_has_text : (p : ProblemValue) (number : ℕ) (lines : List TreeLine) (part : Tree) → KeepsNetLimits p.network
    → IsSmallTable p.table → preorder part ≡ map line_of lines → All (IsLineOf p) (preorder part)
    → length (preorder part) ≤ 1000000 → sum_by pairs_in (preorder part) ≤ 20000000 → number ≤ 999999
    → HasWorkText (without_times number lines)
part_has_text p number lines part limits table same each few pairs most =
    let long : length lines ≡ length (preorder part) = sym (length-map lines line_of) ∙ sym (ap length same) in
    let many = same_pairs lines ∙ sym (ap (sum_by pairs_in) same) in
    (work_limits_iff (without_times number lines)).0 (record {
      job = most;
      parts = record {
        version = (omega arith, omega arith);
        period = (omega arith, omega arith);
        answer = refl;
        times = omega arith;
        each_time = refl;
        cycles = omega arith;
        rows = omega arith;
        each_cycle = refl;
        lines = omega (arith, long, few);
        pairs = omega (arith, many, pairs);
        each_line = lines_fit p lines limits table (subst (All (IsLineOf p)) same each);
        whole = (whole_tree (map line_of lines)).1 (part, same);
        known = all_two lines;
      };
    })

-- times may be shown beside a tree that has a text
pub text_with_times : (w : WorkValue) → HasWorkText (without_times w.job w.tree) → AreShort w.times → HasWorkText w
text_with_times w text short =
    let k = (work_limits_iff (without_times w.job w.tree)).1 text in
    (work_limits_iff w).0 (record {
      job = k.job;
      parts = record {
        version = (omega arith, omega arith);
        period = (omega arith, omega arith);
        answer = refl;
        times = short.0;
        each_time = short.1;
        cycles = omega arith;
        rows = omega arith;
        each_cycle = refl;
        lines = k.parts.lines;
        pairs = k.parts.pairs;
        each_line = k.parts.each_line;
        whole = k.parts.whole;
        known = k.parts.known;
      };
    })

-- ---- what the board takes

some_line : (tree : Tree) → 1 ≤ length (preorder tree)
some_line (Ends leaf) = omega arith
some_line (Branch cut low high) = omega arith

-- a leaf has no more pairs than its tree
pairs_of_leaf : (tree : Tree) (path : _) (leaf : Leaf) → IsLeafAt tree path leaf → pairs_in (EndLine leaf) ≤ sum_by pairs_in (preorder tree)
pairs_of_leaf tree path leaf at = let sums = put_pairs_add_up tree path leaf (Ends (Shut ByPropagation)) at in omega (arith, sums)

pub taken_fits : (p : ProblemValue) (state new : State) (number : ℕ) (lines : Vec TreeLine)
    → KeepsNetLimits p.network → IsSmallTable p.table → Takes p state number (works.Tree lines) new
    → Fits p state number lines.items
taken_fits p state new number lines limits table t =
    let length_is = put_lines_add_up state.tree t.path (Bound t.pairs) t.part t.leaf.1 in
    let pairs_are = put_pairs_add_up state.tree t.path (Bound t.pairs) t.part t.leaf.1 in
    let own = pairs_of_leaf state.tree t.path (Bound t.pairs) t.leaf.1 in
    let some = some_line state.tree in
    let lines_few = t.small.lines in
    let pairs_few = t.small.pairs in
    record {
      stands = record { path = t.path; pairs = t.pairs; leaf = t.leaf; lines = lines; are_lines = refl; valid = (t.part, t.makes) };
      text = part_has_text p number lines.items t.part limits table t.makes.0
          (graft_lines p _ t.part t.path limits table t.makes.1) (omega (arith, length_is, some, lines_few))
          (omega (arith, pairs_are, own, pairs_few));
    }

-- ---- the leaf itself

not_less : (o : Option ℤ) (value : ℕ) → option_map told o ≡ Some value → IsSomeAnd o (λ v. IfSome o (λ w. w ≤ℤ v))
not_less None value e = cc
not_less (Some v) value e = omega (arith, ints)

pub own_fits : (p : ProblemValue) (state : State) (number value : ℕ) (pairs : List Pair) (lines : Vec TreeLine)
    → KeepsNetLimits p.network → IsSmallTable p.table → IsOrderly p state → IsJobLeaf p state number value pairs
    → map line_of lines.items ≡ EndLine (Bound pairs) ∷ [] → Fits p state number lines.items
own_fits p state number value pairs lines limits table orderly j is =
    let graft : IsGraft p (value_at p j.path pairs) (node_at p j.path) (Ends (Bound pairs)) =
    (leaf_pairs p state j.path pairs orderly j.leaf.1, not_less (value_at p j.path pairs) value j.worth) in
    let own = pairs_of_leaf state.tree j.path (Bound pairs) j.leaf.1 in
    let few = orderly.limits.small.pairs in
    record {
      stands = record {
        path = j.path;
        pairs = pairs;
        leaf = j.leaf;
        lines = lines;
        are_lines = refl;
        valid = (Ends (Bound pairs), (sym is, graft));
      };
      text = part_has_text p number lines.items (Ends (Bound pairs)) limits table (sym is)
          (graft_lines p _ (Ends (Bound pairs)) j.path limits table graft) (omega arith) (omega (arith, own, few));
    }

-- ---- times

no_times : (ts : List (ℤ × ℕ)) → map (λ t. t.1) ts ≡ [] → ts ≡ []
no_times [] e = refl
no_times (t ∷ ts) e = cc

cheaper_are : (i : Pesp) (known : Option ℕ) (ts : List (ℤ × ℕ)) (c : ℕ)
    → ShowsTimetable i (map (λ t. t.0) ts) (map (λ t. t.1) ts) c → IsCheaper c known → AreCheaperTimes i known ts
cheaper_are i known ts c h less = record {
  labels = h.0;
  timetable = h.1.0;
  cheaper = subst (λ (n : ℕ). IsCheaper n known) (sym h.1.1) less;
}

shown_are : (i : Pesp) (known : Option ℕ) (answer : Answer) (ts : List (ℤ × ℕ))
    → IfSome (cost_of answer) (λ c. IsCheaper c known)
    → ShowsAnswer i answer (map (λ t. t.0) ts) (map (λ t. t.1) ts) → AreTimesFor i known ts
shown_are i known (Optimal c) ts less h = inr (cheaper_are i known ts c h less)
shown_are i known Infeasible ts less h = inl (no_times ts h)
shown_are i known (Bounded least (Some c)) ts less h = inr (cheaper_are i known ts c h.1 less)
shown_are i known (Bounded least None) ts less h = inl (no_times ts h)

-- what a valid certificate shows that costs less than so much
pub times_for : (i : Pesp) (known : Option ℕ) (c : Content) → IfSome (cost_of c.answer) (λ n. IsCheaper n known)
    → IsValid None i c → AreTimesFor i known c.times
times_for i known c less valid = shown_are i known c.answer c.times less valid.answer
