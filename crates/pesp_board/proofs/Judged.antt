-- Lines that are judged one after the other are one whole tree.
use Rattle.std.proofs.Common.{◌≡◌, ◌≢◌, ℕ, ◌+◌, ◌<◌, ◌≤◌, List, [], ◌∷◌, ◌++◌, length, get_or, drop, map, refl, sym, ap, ◌∙◌, subst, append_assoc, append-nil, true}
use Rattle.std.specs.Prelude.{ℤ, Option, Result, Ok, Err, IsErrAnd}
use Rattle.std.specs.Global.{Vec}
use Rattle.std.proofs.lemmas.List.{drop_all, drop_more, length-set}
use Rattle.pesp_problem.specs.declared.pair.Pair.{Pair}
use Rattle.pesp_problem.specs.declared.cut.Cut.{Cut}
use Rattle.pesp_problem.specs.declared.cut.Cut.TheVariants.{Slack, Offset}
use Rattle.pesp_problem.specs.declared.cut.Side.{Side}
use Rattle.pesp_problem.specs.declared.cut.Side.TheVariants.{Low, High}
use Rattle.pesp_problem.specs.Nodes.{Node, leaf_value, part, low_part, high_part}
use Rattle.pesp_truth.specs.Trees.{Tree, Line, Ends, Branch, EndLine, CutLine, preorder, line_of}
use Rattle.pesp_truth.specs.declared.tree.TreeLine.{TreeLine}
use Rattle.pesp_truth.proofs.Paths.{along-push}
use Rattle.pesp_network.specs.Networks.{KeepsNetLimits}
use Rattle.pesp_nodes.specs.Problems.{ProblemValue, problem_net, IsNodeOf, IsSmallTable}
use Rattle.pesp_tree.specs.declared.work.Work.TheVariants as works
use Rattle.pesp_tree.specs.declared.refusal.GiveRefusal.{GiveRefusal}
use Rattle.pesp_tree.specs.declared.refusal.GiveRefusal.TheVariants.{UnknownJob, AlreadyGiven, NotValid, Memory, TooLarge}
use Rattle.pesp_tree.specs.States.{root_of}
use Rattle.pesp_tree.specs.Events.{IsGraft}
use Rattle.pesp_board.specs.declared.part.Part.{Part}
use Rattle.pesp_board.specs.declared.part.Part.TheVariants.{Cut as CutPart, Leaf as LeafPart}
use Rattle.pesp_board.specs.declared.part.Made.{Made}
use Rattle.pesp_board.specs.Parts.{part_line, part_lines, AreValued, MakesParts}
use Rattle.pesp_board.specs.Giving.{MakesOf}
use Rattle.pesp_board.specs.Grafting.{IsGraftLine, after, after_first, StandsFirst, AreGrafts, IsValuedPart, MakesPartOf, IsReached, AreReached, AreJudgedParts}
use Rattle.pesp_board.proofs.Paths.{cut_at}

-- ---- nodes that paths lead to

pub part_fits : (p : ProblemValue) (node : Node) (cut : Cut) (side : Side) → IsNodeOf p node → IsNodeOf p (part node cut side)
part_fits p node (Slack row k) Low h = record { slacks = length-set node.slacks _ _ ∙ h.slacks; offsets = h.offsets }
part_fits p node (Slack row k) High h = record { slacks = length-set node.slacks _ _ ∙ h.slacks; offsets = h.offsets }
part_fits p node (Offset cycle k) Low h = record { slacks = h.slacks; offsets = length-set node.offsets _ _ ∙ h.offsets }
part_fits p node (Offset cycle k) High h = record { slacks = h.slacks; offsets = length-set node.offsets _ _ ∙ h.offsets }

reached_part : (p : ProblemValue) (node : Node) (cut : Cut) (side : Side) → IsReached p node → IsReached p (part node cut side)
reached_part p node cut side r = record {
  path = r.path ++ (cut, side) ∷ [];
  at = ap (λ (n : Node). part n cut side) r.at ∙ sym (along-push (root_of p) r.path cut side);
  fits = part_fits p node cut side r.fits;
}

reached_after : (p : ProblemValue) (line : Line) (node : Node) (nodes : List Node) → AreReached p (node ∷ nodes)
    → AreReached p (after line node nodes)
reached_after p (EndLine leaf) node nodes r = r.1
reached_after p (CutLine cut) node nodes r = (reached_part p node cut Low r.0, (reached_part p node cut High r.0, r.1))

-- ---- whole trees

abbrev all_lines : List Tree → List Line
all_lines [] = []
all_lines (tree ∷ trees) = preorder tree ++ all_lines trees

abbrev AreGraftTrees : ProblemValue → Option ℤ → List Node → List Tree → Type 0
AreGraftTrees p worth [] [] = Unit {0}
AreGraftTrees p worth [] (tree ∷ trees) = ⊥
AreGraftTrees p worth (node ∷ nodes) [] = ⊥
AreGraftTrees p worth (node ∷ nodes) (tree ∷ trees) = IsGraft p worth node tree × AreGraftTrees p worth nodes trees

abbrev Forest : ProblemValue → Option ℤ → List Node → List Line → Type 0
Forest p worth nodes lines = (trees : List Tree) × (all_lines trees ≡ lines) × AreGraftTrees p worth nodes trees

joined : (p : ProblemValue) (worth : Option ℤ) (node : Node) (nodes : List Node) (cut : Cut) (lines : List Line)
    (trees : List Tree) → IsGraftLine p worth node (CutLine cut) → all_lines trees ≡ lines
    → AreGraftTrees p worth (low_part node cut ∷ high_part node cut ∷ nodes) trees
    → Forest p worth (node ∷ nodes) (CutLine cut ∷ lines)
joined p worth node nodes cut lines [] g l h = absurd h
joined p worth node nodes cut lines (low ∷ []) g l h = absurd h.1
joined p worth node nodes cut lines (low ∷ high ∷ trees) g l h = (
  Branch cut low high ∷ trees,
  ap (λ (x : List Line). CutLine cut ∷ x)
      (append_assoc (preorder low) (preorder high) (all_lines trees) ∙ l),
  ((g.0, g.1, h.0, h.1.0), h.1.1),
)

forest : (p : ProblemValue) (worth : Option ℤ) (lines : List Line) (nodes : List Node)
    → AreGrafts p worth lines nodes → Forest p worth nodes lines
forest p worth [] [] h = ([], refl, tt)
forest p worth [] (node ∷ nodes) h = absurd h
forest p worth (line ∷ lines) [] h = absurd h
forest p worth (EndLine leaf ∷ lines) (node ∷ nodes) h =
    let rest = forest p worth lines nodes h.1 in
    (Ends leaf ∷ rest.0, ap (λ (x : List Line). EndLine leaf ∷ x) rest.1, (h.0, rest.2))
forest p worth (CutLine cut ∷ lines) (node ∷ nodes) h =
    let rest = forest p worth lines (low_part node cut ∷ high_part node cut ∷ nodes) h.1 in
    joined p worth node nodes cut lines rest.0 h.0 rest.1 rest.2

one_of : (p : ProblemValue) (worth : Option ℤ) (node : Node) (lines : List Line) (trees : List Tree)
    → all_lines trees ≡ lines → AreGraftTrees p worth (node ∷ []) trees
    → (tree : Tree) × (preorder tree ≡ lines) × IsGraft p worth node tree
one_of p worth node lines [] l h = absurd h
one_of p worth node lines (tree ∷ []) l h = (tree, sym (append-nil (preorder tree)) ∙ l, h.0)
one_of p worth node lines (tree ∷ other ∷ trees) l h = absurd h.1

pub graft_is : (p : ProblemValue) (worth : Option ℤ) (node : Node) (lines : List Line)
    → AreGrafts p worth lines (node ∷ []) → (tree : Tree) × (preorder tree ≡ lines) × IsGraft p worth node tree
graft_is p worth node lines h = let trees = forest p worth lines (node ∷ []) h in one_of p worth node lines trees.0 trees.1 trees.2

tree_grafts : (p : ProblemValue) (worth : Option ℤ) (tree : Tree) (node : Node) (lines : List Line)
    (nodes : List Node) → IsGraft p worth node tree → AreGrafts p worth lines nodes
    → AreGrafts p worth (preorder tree ++ lines) (node ∷ nodes)
tree_grafts p worth (Ends leaf) node lines nodes g h = (g, h)
tree_grafts p worth (Branch cut low high) node lines nodes g h =
    let second = tree_grafts p worth high (high_part node cut) lines nodes g.3 h in
    let first = tree_grafts p worth low (low_part node cut) (preorder high ++ lines) (high_part node cut ∷ nodes) g.2 second in (
      (g.0, g.1),
      subst (λ (x : List Line). AreGrafts p worth x (low_part node cut ∷ high_part node cut ∷ nodes))
          (sym (append_assoc (preorder low) (preorder high) lines)) first,
    )

pub is_graft : (p : ProblemValue) (worth : Option ℤ) (node : Node) (lines : List Line) (tree : Tree)
    → preorder tree ≡ lines → IsGraft p worth node tree → AreGrafts p worth lines (node ∷ [])
is_graft p worth node lines tree l g = subst (λ (x : List Line). AreGrafts p worth x (node ∷ []))
    (append-nil (preorder tree) ∙ l) (tree_grafts p worth tree node [] [] g tt)

-- ---- the lines that are left

pub record AreJudged (p : ProblemValue) (worth : Option ℤ) (start : List Node) (lines left : List Line)
    (nodes : List Node) (parts : List Part) : Type 0 where
  pub grafts : AreGrafts p worth left nodes → AreGrafts p worth lines start
  pub needed : AreGrafts p worth lines start → AreGrafts p worth left nodes
  pub said : part_lines parts ++ left ≡ lines
  pub valued : (rest : List Part) → AreValued p nodes rest → AreValued p start (parts ++ rest)
  pub reached : AreReached p nodes

pub judged_none : (p : ProblemValue) (worth : Option ℤ) (start : List Node) (lines : List Line)
    → AreReached p start → AreJudged p worth start lines lines start []
judged_none p worth start lines r = record {
  grafts = λ a. a;
  needed = λ a. a;
  said = refl;
  valued = λ rest v. v;
  reached = r;
}

pub lines_more : (parts : List Part) (part : Part) → part_lines (parts ++ part ∷ []) ≡ part_lines parts ++ part_line part ∷ []
lines_more [] part = refl
lines_more (x ∷ parts) part = ap (λ (l : List Line). part_line x ∷ l) (lines_more parts part)

pub value_more : (p : ProblemValue) (node : Node) (nodes : List Node) (part : Part) (rest : List Part)
    → IsValuedPart p node part → AreValued p (after (part_line part) node nodes) rest
    → AreValued p (node ∷ nodes) (part ∷ rest)
value_more p node nodes (CutPart cut) rest v h = h
value_more p node nodes (LeafPart part) rest v h = (v, h)

judged_step : (p : ProblemValue) (worth : Option ℤ) (start : List Node) (lines left : List Line) (n : Node)
    (nodes : List Node) (parts : List Part) (line : Line) (part : Part)
    → AreJudged p worth start lines (line ∷ left) (n ∷ nodes) parts → MakesPartOf p worth n line (Ok part)
    → AreJudged p worth start lines left (after line n nodes) (parts ++ part ∷ [])
judged_step p worth start lines left n nodes parts line part j m = record {
  grafts = λ a. j.grafts (m.0, a);
  needed = λ a. (j.needed a).1;
  said = ap (λ (x : List Line). x ++ left) (lines_more parts part)
      ∙ append_assoc (part_lines parts) (part_line part ∷ []) left
      ∙ ap (λ (x : Line). part_lines parts ++ x ∷ left) m.1 ∙ j.said;
  valued = λ rest v.
      let v' = subst (λ (x : Line). AreValued p (after x n nodes) rest) (sym m.1) v in
      subst (λ (x : List Part). AreValued p start x) (sym (append_assoc parts (part ∷ []) rest))
      (j.valued (part ∷ rest) (value_more p n nodes part rest m.2 v'));
  reached = reached_after p line n nodes j.reached;
}

module _ (lines : List TreeLine) (k : ℕ) (line : TreeLine) (within : k < length lines) (is : line ≡ get_or lines k line) where
  next_line : map line_of (drop k lines) ≡ line_of line ∷ map line_of (drop (k + 1) lines)
  next_line = ap (map line_of) (drop_more lines k line within)
      ∙ ap (λ (l : TreeLine). line_of l ∷ map line_of (drop (k + 1) lines)) (sym is)

  module _ (p : ProblemValue) (worth : Option ℤ) (start : List Node) (nodes : List Node) (parts : List Part)
      (before : AreJudged p worth start (map line_of lines) (map line_of (drop k lines)) nodes parts) where
    here : AreJudged p worth start (map line_of lines) (line_of line ∷ map line_of (drop (k + 1) lines)) nodes parts
    here = subst (λ (x : List Line). AreJudged p worth start (map line_of lines) x nodes parts) next_line before

    -- no node waits, and there is a line
    pub past_the_end : nodes ≡ [] → AreGrafts p worth (map line_of lines) start → ⊥
    past_the_end e g = subst (λ (x : List Node). AreGrafts p worth (line_of line ∷ map line_of (drop (k + 1) lines)) x) e (here.needed g)

    module _ (n : Node) (rest : List Node) (e : nodes ≡ n ∷ rest) where
      first : AreJudged p worth start (map line_of lines) (line_of line ∷ map line_of (drop (k + 1) lines)) (n ∷ rest) parts
      first = subst (λ (x : List Node). AreJudged p worth start (map line_of lines)
          (line_of line ∷ map line_of (drop (k + 1) lines)) x parts) e here

      pub fits_there : IsNodeOf p n
      fits_there = first.reached.0.fits

      pub stands_there : (part : Part) → KeepsNetLimits p.network → IsSmallTable p.table
          → MakesPartOf p worth n (line_of line) (Ok part) → StandsFirst nodes part
      stands_there (CutPart cut) limits small m =
          let reached = first.reached.0 in
          rw e (cut_at p reached.path n n cut limits small reached.at (subst (IsGraftLine p worth n) (sym m.1) m.0) reached.fits)
      stands_there (LeafPart part) limits small m = λ none. let no = sym e ∙ none in cc

      pub judged_more : (part : Part) (nodes' : List Node) → MakesPartOf p worth n (line_of line) (Ok part)
          → nodes' ≡ after_first (part_line part) nodes
          → AreJudged p worth start (map line_of lines) (map line_of (drop (k + 1) lines)) nodes'
          (parts ++ part ∷ [])
      judged_more part nodes' m s =
          let next : after (line_of line) n rest
          ≡ nodes' = sym (s ∙ ap (λ (x : List Node). after_first (part_line part) x) e
          ∙ ap (λ (x : Line). after x n rest) m.1) in
          subst (λ (x : List Node). AreJudged p worth start (map line_of lines)
          (map line_of (drop (k + 1) lines)) x (parts ++ part ∷ [])) next
          (judged_step p worth start (map line_of lines) (map line_of (drop (k + 1) lines)) n rest parts (line_of line) part first m)

      pub not_there : (refusal : GiveRefusal) (result : Result (Vec Part) GiveRefusal)
          → MakesPartOf p worth n (line_of line) (Err refusal) → IsErrAnd result (λ told. told ≡ refusal)
          → AreJudgedParts p worth start (map line_of lines) result
      not_there UnknownJob result m e = absurd m
      not_there AlreadyGiven result m e = absurd m
      not_there TooLarge result m e = absurd m
      not_there NotValid (Ok x) m e = absurd e
      not_there NotValid (Err told) m e = rw e (λ g. m (first.needed g).0)
      not_there Memory (Ok x) m e = absurd e
      not_there Memory (Err told) m e = rw e tt

still_open : (p : ProblemValue) (worth : Option ℤ) (nodes : List Node) → nodes ≢ [] → AreGrafts p worth [] nodes → ⊥
still_open p worth [] n a = n refl
still_open p worth (node ∷ nodes) n a = a

module _ (p : ProblemValue) (worth : Option ℤ) (start : List Node) (lines : List TreeLine) (nodes : List Node)
    (parts : List Part) (k : ℕ) (done : length lines ≤ k)
    (before : AreJudged p worth start (map line_of lines) (map line_of (drop k lines)) nodes parts) where
  last : AreJudged p worth start (map line_of lines) [] nodes parts
  last = subst (λ (x : List Line). AreJudged p worth start (map line_of lines) x nodes parts)
      (ap (map line_of) (drop_all k lines done)) before

  -- a node waits, and there is no line
  pub too_short : nodes ≢ [] → AreGrafts p worth (map line_of lines) start → ⊥
  too_short n g = still_open p worth nodes n (last.needed g)

  pub judged_all : nodes ≡ [] → AreGrafts p worth (map line_of lines) start
      × (part_lines parts ≡ map line_of lines) × AreValued p start parts
  judged_all e =
      let whole = subst (λ (x : List Node). AreJudged p worth start (map line_of lines) [] x parts) e last in
      (whole.grafts tt, sym (append-nil (part_lines parts)) ∙ whole.said, subst (AreValued p start) (append-nil parts) (whole.valued [] tt))

-- ---- what a work of lines makes

-- what was judged, where the worth is that of the leaf
pub tree_made : (p : ProblemValue) (worth : Option ℤ) (node : Node) (old : List Pair) (lines : Vec TreeLine)
    (parts : Vec Part) → worth ≡ leaf_value (problem_net p) p.table node old true
    → AreJudgedParts p worth (node ∷ []) (map line_of lines.items) (Ok parts)
    → MakesParts p node old (works.Tree lines) parts.items
tree_made p worth node old lines parts e j =
    let whole = graft_is p worth node (map line_of lines.items) j.0 in
    record {
      tree = whole.0;
      lines = whole.1 ∙ sym j.1;
      makes = (whole.1, subst (λ (w : Option ℤ). IsGraft p w node whole.0) e whole.2);
      valued = j.2;
    }

pub tree_not_made : (p : ProblemValue) (worth : Option ℤ) (node : Node) (old : List Pair) (lines : Vec TreeLine)
    (refusal : GiveRefusal) (result : Result Made GiveRefusal)
    → worth ≡ leaf_value (problem_net p) p.table node old true
    → AreJudgedParts p worth (node ∷ []) (map line_of lines.items) (Err refusal)
    → IsErrAnd result (λ told. told ≡ refusal) → MakesOf p node old (works.Tree lines) result
tree_not_made p worth node old lines UnknownJob result e j t = absurd j
tree_not_made p worth node old lines AlreadyGiven result e j t = absurd j
tree_not_made p worth node old lines TooLarge result e j t = absurd j
tree_not_made p worth node old lines NotValid (Ok made) e j t = absurd t
tree_not_made p worth node old lines NotValid (Err told) e j t =
    rw t (λ tree. j (is_graft p worth node (map line_of lines.items) tree.0 tree.1.0
    (subst (λ (w : Option ℤ). IsGraft p w node tree.0) (sym e) tree.1.1)))
tree_not_made p worth node old lines Memory (Ok made) e j t = absurd t
tree_not_made p worth node old lines Memory (Err told) e j t = rw t tt
