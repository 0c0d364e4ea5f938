-- The lines of a valid certificate's tree keep their limits, and the parts that they make are valued rightly.
use Rattle.std.proofs.Common.{◌≡◌, ◌≢◌, ℕ, zero, suc, ◌+◌, ◌<◌, ◌≤◌, List, [], ◌∷◌, ◌++◌, length, get_or, drop, map, refl, sym, ap, ◌∙◌, arith, subst, append_assoc, append-nil, true}
use Rattle.std.specs.Prelude.{ℤ, unsigned_abs, All, Option, nat_le, None}
use Rattle.std.specs.List.{list_all}
use Rattle.std.proofs.lemmas.Bool.Decides.{nat_tests}
use Rattle.std.proofs.lemmas.List.{drop_all, drop_more, length-map}
use Rattle.std.proofs.lemmas.List.Elements.{All-nil, All-cons, All-head, All-tail}
use Rattle.pesp_problem.specs.declared.pair.Pair.{Pair}
use Rattle.pesp_problem.specs.declared.cut.Cut.TheVariants as cuts
use Rattle.pesp_problem.specs.declared.cut.Side.TheVariants.{Low, High}
use Rattle.pesp_problem.specs.Walks.{Names}
use Rattle.pesp_problem.specs.Nodes.{Node, low_part, high_part}
use Rattle.pesp_truth.specs.Trees.{Plain, Line, EndLine, CutLine, AreSound, line_of}
use Rattle.pesp_truth.specs.declared.tree.TreeLine.{TreeLine}
use Rattle.pesp_truth.specs.declared.tree.TreeLine.TheVariants.{Slack, Offset, Bound, Nothing, Gap, Propagated}
use Rattle.pesp_network.specs.Networks.{arc_of_net}
use Rattle.pesp_nodes.specs.Problems.{ProblemValue, problem_net, IsNodeOf, IsCutOf, IsPairOf, ArePairs, Rise}
use Rattle.pesp_cert_lines.specs.Pairs.{is_pair_within, all_within, follows, rise_from}
use Rattle.pesp_cert_lines.specs.Rows.{is_name}
use Rattle.pesp_cert_lines.proofs.Tests.{and_left, and_right}
use Rattle.pesp_cert.specs.Limits.{are_pairs, line_keeps_limits}
use Rattle.pesp_tree.specs.Limits.{IsLineOf}
use Rattle.pesp_tree.specs.States.{root_of}
use Rattle.pesp_board.specs.declared.part.Part.{Part}
use Rattle.pesp_board.specs.declared.part.Part.TheVariants.{Cut as CutPart, Leaf as LeafPart}
use Rattle.pesp_board.specs.Parts.{part_line, part_lines, AreValued}
use Rattle.pesp_board.specs.Grafting.{after, after_first, StandsFirst, IsValuedPart}
use Rattle.pesp_board.specs.Adopting.{IsSoundForSome, AreSoundLines, AreLinesOf, AreNodesOf}
use Rattle.pesp_board.proofs.Paths.{root_is_node, cut_of_node}
use Rattle.pesp_board.proofs.Judged.{part_fits, lines_more, value_more}

-- ---- pairs

at_least : (least : ℕ) (pairs : List Pair) → rise_from least pairs ≡ true → (i : ℕ) (d : Pair) → i < length pairs
    → least ≤ (get_or pairs i d).cycle
at_least least [] e i d l = absurd (omega (arith, l))
at_least least (pair ∷ pairs) e zero d l = let here =
    and_left (follows least pair) (rise_from (pair.cycle + 1) pairs) e in grind (arith, nat_tests, here)
at_least least (pair ∷ pairs) e (suc i) d l =
    let here = and_left (follows least pair) (rise_from (pair.cycle + 1) pairs) e in
    let first : least ≤ pair.cycle = grind (arith, nat_tests, here) in
    let rest = at_least (pair.cycle + 1) pairs
    (and_right (follows least pair) (rise_from (pair.cycle + 1) pairs) e) i d (omega (arith, l)) in
    omega (arith, first, rest)

they_rise : (least : ℕ) (pairs : List Pair) → rise_from least pairs ≡ true → Rise pairs
they_rise least [] e i j d b l = absurd (omega (arith, l))
they_rise least (pair ∷ pairs) e i zero d b l = absurd (omega (arith, b))
they_rise least (pair ∷ pairs) e zero (suc j) d b l =
    let rest = at_least (pair.cycle + 1) pairs
    (and_right (follows least pair) (rise_from (pair.cycle + 1) pairs) e) j d (omega (arith, l)) in
    omega (arith, rest)
they_rise least (pair ∷ pairs) e (suc i) (suc j) d b l =
    they_rise (pair.cycle + 1) pairs (and_right (follows least pair) (rise_from (pair.cycle + 1) pairs) e) i j d
    (omega (arith, b)) (omega (arith, l))

pair_is : (n least : ℕ) (pair : Pair) → follows least pair ≡ true → is_pair_within pair ≡ true → Names n pair.cycle → IsPairOf n pair
pair_is n least pair f w names = record { names = names; some = grind (arith, nat_tests, f); most = grind (arith, nat_tests, w) }

each_is : (n least : ℕ) (pairs : List Pair) → rise_from least pairs ≡ true → all_within pairs ≡ true
    → All (λ (pair : Pair). Names n pair.cycle) pairs → All (IsPairOf n) pairs
each_is n least [] r w names = All-nil (IsPairOf n)
each_is n least (pair ∷ pairs) r w names =
    let P : Pair → Type 0 = λ pair. Names n pair.cycle in
    All-cons (IsPairOf n) pair pairs
    (pair_is n least pair (and_left (follows least pair) (rise_from (pair.cycle + 1) pairs) r)
    (and_left (is_pair_within pair) (all_within pairs) w) (All-head P pair pairs names))
    (each_is n (pair.cycle + 1) pairs (and_right (follows least pair) (rise_from (pair.cycle + 1) pairs) r)
    (and_right (is_pair_within pair) (all_within pairs) w) (All-tail P pair pairs names))

pairs_are : (n : ℕ) (pairs : List Pair) → are_pairs pairs ≡ true → All (λ (pair : Pair). Names n pair.cycle) pairs → ArePairs n pairs
pairs_are n pairs e names = record {
  rise = they_rise 0 pairs (and_left (rise_from 0 pairs) (all_within pairs) e);
  each = each_is n 0 pairs (and_left (rise_from 0 pairs) (all_within pairs) e)
      (and_right (rise_from 0 pairs) (all_within pairs) e) names;
}

-- ---- lines

slack_is : (p : ProblemValue) (row k : ℕ) → line_keeps_limits (Slack row k) ≡ true → Names (length (problem_net p).arcs) row
    → IsCutOf (root_of p) (cuts.Slack row k)
slack_is p row k e names =
    let small : k ≤ 9999 = (let within = and_right (is_name row) (nat_le k 9999) e in grind (arith, nat_tests, within)) in
    let root = root_is_node p in
    let wide = root.slacks in
    let long = length-map p.network.rows arc_of_net in
    let most = names.1 in
    ((names.0, omega (arith, wide, long, most)), small)

offset_is : (p : ProblemValue) (cycle : ℕ) (k : ℤ) → line_keeps_limits (Offset cycle k) ≡ true → Names (length p.table) cycle
    → IsCutOf (root_of p) (cuts.Offset cycle k)
offset_is p cycle k e names =
    let small : unsigned_abs k ≤ 100000000000000 = (let within = and_right (is_name cycle) _ e in grind (arith, nat_tests, within)) in
    let root = root_is_node p in
    let wide = root.offsets in
    let most = names.1 in
    ((names.0, omega (arith, wide, most)), small)

lines_keep : (p : ProblemValue) (least : Option ℕ) (lines : List TreeLine) (nodes : List Node)
    → list_all line_keeps_limits lines ≡ true → AreSound (Plain least) (problem_net p) p.table (map line_of lines) nodes
    → AreLinesOf p (map line_of lines)
lines_keep p least [] nodes e s = All-nil (IsLineOf p)
lines_keep p least (line ∷ lines) [] e s = absurd s
lines_keep p least (Slack row k ∷ lines) (node ∷ nodes) e s =
    All-cons (IsLineOf p) (CutLine (cuts.Slack row k)) (map line_of lines)
    (slack_is p row k (and_left (line_keeps_limits (Slack row k)) (list_all line_keeps_limits lines) e) s.0)
    (lines_keep p least lines (low_part node (cuts.Slack row k) ∷ high_part node (cuts.Slack row k) ∷ nodes)
    (and_right (line_keeps_limits (Slack row k)) (list_all line_keeps_limits lines) e) s.1)
lines_keep p least (Offset cycle k ∷ lines) (node ∷ nodes) e s =
    All-cons (IsLineOf p) (CutLine (cuts.Offset cycle k)) (map line_of lines)
    (offset_is p cycle k (and_left (line_keeps_limits (Offset cycle k)) (list_all line_keeps_limits lines) e) s.0)
    (lines_keep p least lines (low_part node (cuts.Offset cycle k) ∷ high_part node (cuts.Offset cycle k)
    ∷ nodes) (and_right (line_keeps_limits (Offset cycle k)) (list_all line_keeps_limits lines) e) s.1)
lines_keep p least (Bound pairs ∷ lines) (node ∷ nodes) e s =
    All-cons (IsLineOf p) (line_of (Bound pairs)) (map line_of lines)
    (pairs_are (length p.table) pairs (and_left (line_keeps_limits (Bound pairs)) (list_all line_keeps_limits lines) e) s.0.0)
    (lines_keep p least lines nodes (and_right (line_keeps_limits (Bound pairs)) (list_all line_keeps_limits lines) e) s.1)
lines_keep p least (Nothing pairs ∷ lines) (node ∷ nodes) e s =
    All-cons (IsLineOf p) (line_of (Nothing pairs)) (map line_of lines)
    (pairs_are (length p.table) pairs (and_left (line_keeps_limits (Nothing pairs)) (list_all line_keeps_limits lines) e) s.0.0)
    (lines_keep p least lines nodes (and_right (line_keeps_limits (Nothing pairs)) (list_all line_keeps_limits lines) e) s.1)
lines_keep p least (Gap cycle ∷ lines) (node ∷ nodes) e s =
    All-cons (IsLineOf p) (line_of (Gap cycle)) (map line_of lines) s.0.0
    (lines_keep p least lines nodes (and_right (line_keeps_limits (Gap cycle)) (list_all line_keeps_limits lines) e) s.1)
lines_keep p least (Propagated ∷ lines) (node ∷ nodes) e s =
    All-cons (IsLineOf p) (line_of Propagated) (map line_of lines) tt
    (lines_keep p least lines nodes (and_right (line_keeps_limits Propagated) (list_all line_keeps_limits lines) e) s.1)

-- the lines of a tree that is sound keep their limits where they are a certificate's
pub sound_lines_keep : (p : ProblemValue) (lines : List TreeLine) (nodes : List Node)
    → list_all line_keeps_limits lines ≡ true → AreSoundLines p (map line_of lines) nodes → AreLinesOf p (map line_of lines)
sound_lines_keep p lines nodes e s = lines_keep p s.0 lines nodes e s.1

-- ---- the lines that are left

pub record AreTaken (p : ProblemValue) (start : List Node) (lines left : List Line) (nodes : List Node) (parts : List Part) : Type 0 where
  pub sound : AreSoundLines p left nodes
  pub limits : AreLinesOf p left
  pub fits : AreNodesOf p nodes
  pub said : part_lines parts ++ left ≡ lines
  pub valued : (rest : List Part) → AreValued p nodes rest → AreValued p start (parts ++ rest)

pub taken_none : (p : ProblemValue) (start : List Node) (lines : List Line) → AreNodesOf p start
    → AreSoundLines p lines start → AreLinesOf p lines → AreTaken p start lines lines start []
taken_none p start lines fits sound limits = record { sound = sound; limits = limits; fits = fits; said = refl; valued = λ rest v. v }

fits_after : (p : ProblemValue) (line : Line) (node : Node) (nodes : List Node) → AreNodesOf p (node ∷ nodes)
    → AreNodesOf p (after line node nodes)
fits_after p (EndLine leaf) node nodes f = f.1
fits_after p (CutLine cut) node nodes f = (part_fits p node cut Low f.0, (part_fits p node cut High f.0, f.1))

sound_first : (p : ProblemValue) (line : Line) (lines : List Line) (node : Node) (nodes : List Node)
    → AreSoundLines p (line ∷ lines) (node ∷ nodes)
    → IsSoundForSome p node line × AreSoundLines p lines (after line node nodes)
sound_first p (EndLine leaf) lines node nodes s = ((s.0, s.1.0), (s.0, s.1.1))
sound_first p (CutLine cut) lines node nodes s = (s.1.0, (s.0, s.1.1))

taken_step : (p : ProblemValue) (start : List Node) (lines left : List Line) (n : Node) (nodes : List Node)
    (parts : List Part) (line : Line) (part : Part) → AreTaken p start lines (line ∷ left) (n ∷ nodes) parts
    → part_line part ≡ line → IsValuedPart p n part
    → AreTaken p start lines left (after line n nodes) (parts ++ part ∷ [])
taken_step p start lines left n nodes parts line part t is v = record {
  sound = (sound_first p line left n nodes t.sound).1;
  limits = All-tail (IsLineOf p) line left t.limits;
  fits = fits_after p line n nodes t.fits;
  said = ap (λ (x : List Line). x ++ left) (lines_more parts part)
      ∙ append_assoc (part_lines parts) (part_line part ∷ []) left
      ∙ ap (λ (x : Line). part_lines parts ++ x ∷ left) is ∙ t.said;
  valued = λ rest w.
      let w' = subst (λ (x : Line). AreValued p (after x n nodes) rest) (sym is) w in
      subst (λ (x : List Part). AreValued p start x) (sym (append_assoc parts (part ∷ []) rest))
      (t.valued (part ∷ rest) (value_more p n nodes part rest v w'));
}

none_left : (p : ProblemValue) (line : Line) (left : List Line) (nodes : List Node) → AreSoundLines p (line ∷ left) nodes → nodes ≢ []
none_left p line left [] s e = s.1
none_left p line left (node ∷ nodes) s e = cc

module _ (lines : List TreeLine) (k : ℕ) (line : TreeLine) (within : k < length lines)
    (is : line ≡ get_or lines k line) (p : ProblemValue) (start : List Node) (nodes : List Node)
    (parts : List Part) (before : AreTaken p start (map line_of lines) (map line_of (drop k lines)) nodes parts)
  where
    next_line : map line_of (drop k lines) ≡ line_of line ∷ map line_of (drop (k + 1) lines)
    next_line = ap (map line_of) (drop_more lines k line within)
        ∙ ap (λ (l : TreeLine). line_of l ∷ map line_of (drop (k + 1) lines)) (sym is)

    here : AreTaken p start (map line_of lines) (line_of line ∷ map line_of (drop (k + 1) lines)) nodes parts
    here = subst (λ (x : List Line). AreTaken p start (map line_of lines) x nodes parts) next_line before

    pub some_waits : nodes ≢ []
    some_waits = none_left p (line_of line) (map line_of (drop (k + 1) lines)) nodes here.sound

    pub keeps_there : IsLineOf p (line_of line)
    keeps_there = All-head (IsLineOf p) (line_of line) (map line_of (drop (k + 1) lines)) here.limits

    module _ (n : Node) (rest : List Node) (e : nodes ≡ n ∷ rest) where
      first : AreTaken p start (map line_of lines) (line_of line ∷ map line_of (drop (k + 1) lines)) (n ∷ rest) parts
      first = subst (λ (x : List Node). AreTaken p start (map line_of lines) (line_of line ∷ map line_of (drop (k + 1) lines)) x parts) e here

      pub fits_there : IsNodeOf p n
      fits_there = first.fits.0

      pub sound_there : IsSoundForSome p n (line_of line)
      sound_there = (sound_first p (line_of line) (map line_of (drop (k + 1) lines)) n rest first.sound).0

      pub may_pass : (part : Part) → part_line part ≡ line_of line → StandsFirst nodes part
      may_pass (CutPart cut) says = rw e (cut_of_node p n cut first.fits.0 (subst (IsLineOf p) (sym says) keeps_there))
      may_pass (LeafPart part) says = some_waits

      pub taken_more : (part : Part) (nodes' : List Node) → part_line part ≡ line_of line → IsValuedPart p n part
          → nodes' ≡ after_first (part_line part) nodes
          → AreTaken p start (map line_of lines) (map line_of (drop (k + 1) lines)) nodes' (parts ++ part ∷ [])
      taken_more part nodes' says v s =
          let next : after (line_of line) n rest
          ≡ nodes' = sym (s ∙ ap (λ (x : List Node). after_first (part_line part) x) e
          ∙ ap (λ (x : Line). after x n rest) says) in
          subst (λ (x : List Node). AreTaken p start (map line_of lines) (map line_of (drop (k + 1) lines)) x (parts ++ part ∷ [])) next
          (taken_step p start (map line_of lines) (map line_of (drop (k + 1) lines)) n rest parts (line_of line) part first says v)

nodes_end : (p : ProblemValue) (nodes : List Node) → AreSoundLines p [] nodes → nodes ≡ []
nodes_end p [] s = refl
nodes_end p (node ∷ nodes) s = absurd s.1

pub taken_all : (p : ProblemValue) (start : List Node) (lines : List TreeLine) (nodes : List Node)
    (parts : List Part) (k : ℕ) → length lines ≤ k
    → AreTaken p start (map line_of lines) (map line_of (drop k lines)) nodes parts
    → (part_lines parts ≡ map line_of lines) × AreValued p start parts
taken_all p start lines nodes parts k done before =
    let last : AreTaken p start (map line_of lines) [] nodes parts =
    subst (λ (x : List Line). AreTaken p start (map line_of lines) x nodes parts)
    (ap (map line_of) (drop_all k lines done)) before in
    let ends = nodes_end p nodes last.sound in (
      sym (append-nil (part_lines parts)) ∙ last.said,
      subst (AreValued p start) (append-nil parts)
          (last.valued [] (subst (λ (x : List Node). AreValued p x []) (sym ends) tt)),
    )
