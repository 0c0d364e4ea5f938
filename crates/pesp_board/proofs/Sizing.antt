-- How large the tree is with what is made in place of a leaf.
use Rattle.std.proofs.Common.{◌≡◌, ℕ, ◌+◌, ◌-◌, ◌<◌, ◌≤◌, List, ◌∷◌, length, get_or, drop, refl, sym, ap, ◌∙◌, arith, subst}
use Rattle.std.specs.Prelude.{Some, Ok, sum_by}
use Rattle.std.proofs.lemmas.List.{drop_all, drop_more, length-map}
use Rattle.std.proofs.lemmas.List.Sums.{sum_by-cons}
use Rattle.pesp_problem.specs.declared.pair.Pair.{Pair}
use Rattle.pesp_problem.specs.declared.cut.Cut.{Cut}
use Rattle.pesp_problem.specs.declared.cut.Side.{Side}
use Rattle.pesp_problem.specs.Nodes.{Node}
use Rattle.pesp_truth.specs.Trees.{Tree, Line, Ends, Branch, Bound, Gap, preorder}
use Rattle.pesp_truth.specs.Leaves.{put}
use Rattle.pesp_nodes.specs.Problems.{ProblemValue}
use Rattle.pesp_tree.specs.WorkTrees.{WorkTreeValue, IsWhole, path_to, leaf_at}
use Rattle.pesp_tree.specs.declared.work.Work.{Work}
use Rattle.pesp_tree.specs.Limits.{IsSmallTree, pairs_in}
use Rattle.pesp_tree.specs.States.{node_at}
use Rattle.pesp_tree.proofs.Sizes.{put_lines_add_up, put_pairs_add_up}
use Rattle.pesp_tree.specs.Leaves.{leaf_of}
use Rattle.pesp_board.specs.declared.part.Part.{Part}
use Rattle.pesp_board.specs.declared.part.Made.{Made}
use Rattle.pesp_board.specs.declared.part.Made.TheVariants.{Leaf as MadeLeaf, Branch as MadeBranch, Tree as MadeTree}
use Rattle.pesp_board.specs.Parts.{part_line, part_lines, parts_of, MakesParts}
use Rattle.pesp_board.specs.Giving.{MakesOf, HasRoom, MakesPart, MakesLarge}

-- a leaf's pairs are among those of the tree
pub pairs_few : (t : WorkTreeValue) (node : ℕ) (pairs : List Pair) → IsWhole t
    → leaf_at t node ≡ Some (Bound pairs) → length pairs ≤ sum_by pairs_in (preorder t.tree)
pairs_few t node pairs w e = omega (
  arith,
  put_pairs_add_up t.tree (path_to t node) (Bound pairs) (Ends (Gap 0))
      (w.stands node (Bound pairs) e),
)

-- the tree with another in place of a leaf, in numbers
record Adds (t : WorkTreeValue) (node : ℕ) (old : List Pair) (new : Tree) : Type 0 where
  lines : length (preorder (put t.tree (path_to t node) new)) + 1 ≡ length t.leaves + length (preorder new)
  pairs : sum_by pairs_in (preorder (put t.tree (path_to t node) new)) + length old
      ≡ sum_by pairs_in (preorder t.tree) + sum_by pairs_in (preorder new)

adds : (t : WorkTreeValue) (node : ℕ) (pairs : List Pair) (new : Tree) → IsWhole t
    → leaf_at t node ≡ Some (Bound pairs) → Adds t node pairs new
adds t node pairs new w e =
    let lines = put_lines_add_up t.tree (path_to t node) (Bound pairs) new (w.stands node (Bound pairs) e) in
    let counted = w.lines in
    record {
      lines = omega (arith, lines, counted);
      pairs = put_pairs_add_up t.tree (path_to t node) (Bound pairs) new (w.stands node (Bound pairs) e);
    }

small_there : (t : WorkTreeValue) (node rest : ℕ) (pairs : List Pair) (new : Tree) → IsWhole t
    → leaf_at t node ≡ Some (Bound pairs) → rest + length pairs ≡ sum_by pairs_in (preorder t.tree)
    → HasRoom (length t.leaves) rest (preorder new) → IsSmallTree (put t.tree (path_to t node) new)
small_there t node rest pairs new w e count room =
    let a = adds t node pairs new w e in
    let a_lines = a.lines in
    let a_pairs = a.pairs in
    let lines = room.lines in
    let most = room.pairs in
    record { lines = omega (arith, a_lines, lines); pairs = omega (arith, a_pairs, count, most) }

room_there : (t : WorkTreeValue) (node rest : ℕ) (pairs : List Pair) (new : Tree) → IsWhole t
    → leaf_at t node ≡ Some (Bound pairs) → rest + length pairs ≡ sum_by pairs_in (preorder t.tree)
    → IsSmallTree (put t.tree (path_to t node) new) → HasRoom (length t.leaves) rest (preorder new)
room_there t node rest pairs new w e count small =
    let a = adds t node pairs new w e in
    let a_lines = a.lines in
    let a_pairs = a.pairs in
    let lines = small.lines in
    let most = small.pairs in
    record { lines = omega (arith, a_lines, lines); pairs = omega (arith, a_pairs, count, most) }

-- what is made, as the code has it: at the end of a path, with lines and pairs that were counted
pub record IsMade (p : ProblemValue) (t : WorkTreeValue) (node k rest : ℕ) (way : List (Cut × Side))
    (pairs : List Pair) (work : Work) (parts : List Part) : Type 0 where
  pub whole : IsWhole t
  pub leaf : leaf_at t node ≡ Some (Bound pairs)
  pub path : way ≡ path_to t node
  pub long : k ≡ length t.leaves
  pub count : rest + length pairs ≡ sum_by pairs_in (preorder t.tree)
  pub makes : MakesParts p (node_at p way) pairs work parts

pub part_made : (p : ProblemValue) (t : WorkTreeValue) (node long rest n : ℕ) (path : List (Cut × Side))
    (pairs : List Pair) (work : Work) (read parts : List Part) → IsMade p t node long rest path pairs work parts
    → read ≡ parts
    → HasRoom long rest (part_lines read) × (n ≡ rest + sum_by pairs_in (part_lines read)) → MakesPart p t node work parts n
part_made p t node long rest n path pairs work read parts m is counted =
    let told = subst (λ (ps : List Part). HasRoom long rest (part_lines ps) × (n ≡ rest + sum_by pairs_in (part_lines ps))) is counted in
    let room = told.0 in
    let e = told.1 in
    let made = subst (λ (q : List (Cut × Side)). MakesParts p (node_at p q) pairs work parts) m.path m.makes in
    let a = adds t node pairs made.tree m.whole m.leaf in
    let a_pairs = a.pairs in
    let count = m.count in
    let room' : HasRoom (length t.leaves) rest (preorder made.tree) =
    subst (λ (k : ℕ). HasRoom k rest (preorder made.tree)) m.long
    (subst (λ (l : List Line). HasRoom long rest l) (sym made.lines) room) in
    let sums : sum_by pairs_in (preorder made.tree) ≡ sum_by pairs_in (part_lines parts) = ap (sum_by pairs_in) made.lines in
    record {
      pairs = pairs;
      leaf = m.leaf;
      made = made;
      small = small_there t node rest pairs made.tree m.whole m.leaf m.count room';
      count = omega (arith, a_pairs, count, e, sums);
    }

pub part_large : (p : ProblemValue) (t : WorkTreeValue) (node long rest : ℕ) (path : List (Cut × Side))
    (pairs : List Pair) (work : Work) (read parts : List Part) → IsMade p t node long rest path pairs work parts
    → read ≡ parts
    → (HasRoom long rest (part_lines read) → ⊥) → MakesLarge p t node work
part_large p t node long rest path pairs work read parts m is past =
    let none = subst (λ (ps : List Part). HasRoom long rest (part_lines ps) → ⊥) is past in
    let made = subst (λ (q : List (Cut × Side)). MakesParts p (node_at p q) pairs work parts) m.path m.makes in
    record {
      pairs = pairs;
      leaf = m.leaf;
      new = made.tree;
      makes = made.makes;
      large = λ small. none (subst (λ (l : List Line). HasRoom long rest l) made.lines
          (subst (λ (k : ℕ). HasRoom k rest (preorder made.tree)) (sym m.long)
          (room_there t node rest pairs made.tree m.whole m.leaf m.count small)));
    }

-- ---- the parts of what is made

pub made_parts : (p : ProblemValue) (node : Node) (old : List Pair) (work : Work) (made : Made)
    → MakesOf p node old work (Ok made) → MakesParts p node old work (parts_of made)
made_parts p node old work (MadeLeaf part) m = record { tree = Ends (leaf_of part.leaf); lines = refl; makes = m.0; valued = (m.1, tt) }
made_parts p node old work (MadeBranch cut low high) m =
    record {
      tree = Branch cut (Ends (leaf_of low.leaf)) (Ends (leaf_of high.leaf));
      lines = refl;
      makes = m.0;
      valued = (m.1, (m.2, tt));
    }
made_parts p node old work (MadeTree parts) m = m

-- ---- the count of pairs

-- the pairs counted so far, and those of the parts that are left
pub record IsCounted (rest : ℕ) (parts : List Part) (count k : ℕ) : Type 0 where
  pub total : count + sum_by pairs_in (part_lines (drop k parts)) ≡ rest + sum_by pairs_in (part_lines parts)
  pub small : count ≤ 20000000

pub counted_none : (rest : ℕ) (parts : List Part) → rest ≤ 20000000 → IsCounted rest parts rest 0
counted_none rest parts h = record { total = refl; small = h }

module _ (rest : ℕ) (parts : List Part) (count k : ℕ) (part : Part) (within : k < length parts)
    (is : part ≡ get_or parts k part) (before : IsCounted rest parts count k) where
  sum_there : sum_by pairs_in (part_lines (drop k parts)) ≡ pairs_in (part_line part) + sum_by pairs_in (part_lines (drop (k + 1) parts))
  sum_there =
      ap (λ (l : List Part). sum_by pairs_in (part_lines l)) (drop_more parts k part within)
      ∙ ap (λ (x : Part). sum_by pairs_in (part_line x ∷ part_lines (drop (k + 1) parts))) (sym is)
      ∙ sum_by-cons pairs_in (part_line part) (part_lines (drop (k + 1) parts))

  pub counted_more : (new : ℕ) → new ≡ count + pairs_in (part_line part) → new ≤ 20000000 → IsCounted rest parts new (k + 1)
  counted_more new e h = let total = before.total in record { total = omega (arith, total, sum_there, e); small = h }

  pub past_the_limit : (long : ℕ) → 20000000 < count + pairs_in (part_line part) → HasRoom long rest (part_lines parts) → ⊥
  past_the_limit long h room =
      let total = before.total in
      let most = room.pairs in
      omega (arith, total, sum_there, h, most)

lines_few : (long n m : ℕ) → long ≤ 1000000 → (1000001 - long < n → ⊥) → m ≡ n → long + m ≤ 1000001
lines_few long n m h few e = grind (arith, h, few, e)

pub counted_all : (long rest : ℕ) (parts : List Part) (count k : ℕ) → length parts ≤ k → long ≤ 1000000
    → (1000001 - long < length parts → ⊥) → IsCounted rest parts count k
    → HasRoom long rest (part_lines parts) × (count ≡ rest + sum_by pairs_in (part_lines parts))
counted_all long rest parts count k done small few c =
    let total = c.total in
    let most = c.small in
    let left : sum_by pairs_in (part_lines (drop k parts))
    ≡ 0 = ap (λ (l : List Part). sum_by pairs_in (part_lines l)) (drop_all k parts done) in
    let counted = length-map parts part_line in
    let whole : count ≡ rest + sum_by pairs_in (part_lines parts) = omega (arith, total, left) in (
      record {
        lines = lines_few long (length parts) (length (part_lines parts)) small few counted;
        pairs = omega (arith, whole, most);
      },
      whole,
    )

pub too_many_lines : (long rest : ℕ) (parts : List Part) → long ≤ 1000000 → 1000001 - long < length parts
    → HasRoom long rest (part_lines parts) → ⊥
too_many_lines long rest parts small many room =
    let lines = room.lines in
    let counted = length-map parts part_line in
    omega (arith, small, many, lines, counted)
