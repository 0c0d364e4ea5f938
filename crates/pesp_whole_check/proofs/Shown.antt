-- What the lines of a sound tree show, line by line.
use Rattle.std.proofs.Common.{◌≡◌, ◌≢◌, inl, inr, ℕ, ◌+◌, ◌<◌, ◌≤◌, arith, ap, sym, subst, ◌∙◌, refl, List, [], ◌∷◌, ◌++◌, length, get_or, drop, map, append_assoc, append-nil, Option, true}
use Rattle.std.specs.Prelude.{ℤ, pos, negsuc, ◌+ℤ◌, ◌<ℤ◌, ◌≤ℤ◌, option_map}
use Rattle.std.proofs.lemmas.Int.{ints, clamps}
use Rattle.std.proofs.lemmas.List.{drop_all}
use Rattle.pesp_problem.specs.declared.row.SignedRow.{SignedRow}
use Rattle.pesp_problem.specs.declared.pair.Pair.{Pair}
use Rattle.pesp_problem.specs.declared.cut.Cut.{Cut}
use Rattle.pesp_problem.specs.declared.cut.Cut.TheVariants.{Slack, Offset}
use Rattle.pesp_problem.specs.Timetables.{Pesp}
use Rattle.pesp_problem.specs.Sums.{ceil_div}
use Rattle.pesp_problem.proofs.Integers.{mul-le, mul-add, le-cases, le-ceil_div, ceil_div-le}
use Rattle.pesp_problem.specs.Arcs.{Net, net_of}
use Rattle.pesp_problem.specs.Walks.{Names}
use Rattle.pesp_problem.specs.Nodes.{Node}
use Rattle.pesp_truth.specs.declared.tree.TreeLine.{TreeLine}
use Rattle.pesp_truth.specs.Trees.{Line, EndLine, CutLine, Leaf, Bound, Shut, CutExists, Claim, line_of, IsSoundLeaf, AreSound}
use Rattle.pesp_leaves.specs.declared.checker.Claim.{Claim as ToldClaim}
use Rattle.pesp_leaves.specs.Claims.{TellsOf, NamesTold, scale_told, scaled_by}
use Rattle.pesp_judges.specs.Lines.{after, CutIsNamed}
use Rattle.pesp_judges.proofs.Judging.{pairs_told, bound_is}
use Rattle.pesp_leaves.proofs.Arcs.{arcs_long}
use Rattle.pesp_judges.proofs.Judged.{next_line}
use Rattle.pesp_truth.specs.Named.{names_more}
use Rattle.pesp_whole_check.specs.Costs.{told, shown_at, line_shows, shown_in, LeafIsNamed, LineIsNamed}

-- ---- a cost as it is told

pub told_below : (z : ℤ) → z <ℤ pos 0 → 0 ≡ told z
told_below (pos n) h = absurd (omega (arith, ints, h))
told_below (negsuc n) h = refl

pub told_above : (z : ℤ) → pos 999999999999999999 <ℤ z → 999999999999999999 ≡ told z
told_above (pos n) h = let above : 999999999999999999 < n = omega (arith, ints, h) in omega (arith, clamps, above)
told_above (negsuc n) h = absurd (omega (arith, ints, h))

pub told_between : (z : ℤ) (n : ℕ) → z ≡ pos n → n ≤ 999999999999999999 → n ≡ told z
told_between z n is most = rw is (omega (arith, clamps, most))

told_low : (z : ℤ) → z ≤ℤ pos 0 → 0 ≡ told z
told_low (pos n) h = let none : n ≤ 0 = omega (arith, ints, h) in omega (arith, clamps, none)
told_low (negsuc n) h = refl

-- of a value by a scale no more than this is told
pub told_large : (z : ℤ) (d : ℕ) → 0 < d → d ≤ 1000000 → pos 1000000000000000000000000 <ℤ z → 999999999999999999 ≡ told (ceil_div z d)
told_large z d some few large = told_above (ceil_div z d) (elim (le-cases (pos 1000000000000000000) (ceil_div z d)) [
  | inl m ↦ omega (arith, ints, m)
  | inr m ↦ absurd (omega (
    arith,
    ints,
    large,
    few,
    le-ceil_div z d some,
    mul-le d (ceil_div z d +ℤ pos 1) (pos 1000000000000000000) m,
    mul-add (pos d) (ceil_div z d) (pos 1),
  ))
])

-- nor less than this
pub told_negative : (z : ℤ) (d : ℕ) → 0 < d → z <ℤ pos 0 → 0 ≡ told (ceil_div z d)
told_negative z d some low = told_low (ceil_div z d) (ceil_div-le z d (pos 0) some (omega (arith, ints, low)))

-- ---- a leaf

-- what a value shows by the scale of its leaf
pub value_shows : (told_claim : ToldClaim) (claim : Claim) (n : Net) (table : List (List SignedRow)) (pairs : List Pair) (node : Node)
    (cycles scale : ℕ) (value : Option ℤ) → TellsOf told_claim claim → cycles ≡ length table
    → scale ≡ scale_told told_claim (names_more cycles pairs) → value ≡ scaled_by claim n table node pairs true
    → option_map told (option_map (λ v. ceil_div v scale) value) ≡ shown_at claim n table (Bound pairs) node
value_shows told_claim claim n table pairs node cycles scale value tells long is v =
    let there : scale ≡ scale_told told_claim (names_more (length table) pairs) =
    is ∙ ap (λ (k : ℕ). scale_told told_claim (names_more k pairs)) long in
    ap (λ (d : ℕ). option_map told (option_map (λ z. ceil_div z d) value)) there
    ∙ ap (λ (o : Option ℤ). option_map told (option_map (λ z. ceil_div z (scale_told told_claim (names_more (length table) pairs))) o)) v
    ∙ ap (option_map told) (bound_is told_claim claim n table node pairs tells)

-- ---- lines

module _ (p : Pesp) (table : List (List SignedRow)) (claim : Claim) where
  line_waits : (line : Line) (lines : List Line) (nodes : List Node)
      → AreSound claim (net_of p) table (line ∷ lines) nodes → nodes ≢ []
  line_waits line lines [] s = absurd s
  line_waits line lines (node ∷ nodes) s = λ f. cc

  sound_after : (line : Line) (lines : List Line) (nodes : List Node)
      → AreSound claim (net_of p) table (line ∷ lines) nodes
      → AreSound claim (net_of p) table lines (after line nodes)
  sound_after line lines [] s = absurd s
  sound_after (EndLine leaf) lines (node ∷ nodes) s = s.1
  sound_after (CutLine cut) lines (node ∷ nodes) s = s.1

  -- what is left of lines, and the nodes that wait for them; what was shown before
  pub record AreShown (lines : List TreeLine) (nodes : List Node) (k : ℕ) (now : List Node) (shown : List (Option ℕ)) : Type 0 where
    pub sound : AreSound claim (net_of p) table (map line_of (drop k lines)) now
    pub all : shown ++ shown_in claim (net_of p) table (map line_of (drop k lines)) now
        ≡ shown_in claim (net_of p) table (map line_of lines) nodes

  pub none_shown : (lines : List TreeLine) (nodes : List Node)
      → AreSound claim (net_of p) table (map line_of lines) nodes → AreShown lines nodes 0 nodes []
  none_shown lines nodes s = record { sound = s; all = refl }

  module _ (lines : List TreeLine) (nodes : List Node) (k : ℕ) (now : List Node) (shown : List (Option ℕ))
      (h : AreShown lines nodes k now shown) where
    pub all_shown : length lines ≤ k → shown ≡ shown_in claim (net_of p) table (map line_of lines) nodes
    all_shown done =
        let none : map line_of (drop k lines) ≡ [] = ap (map line_of) (drop_all k lines done) in
        let P : List Line → Type 0 = λ ls. shown ++ shown_in claim (net_of p) table ls now
        ≡ shown_in claim (net_of p) table (map line_of lines) nodes in
        sym (append-nil shown) ∙ subst P none h.all

    module _ (line : TreeLine) (within : k < length lines) (is : line ≡ get_or lines k line) where
      pub here : AreSound claim (net_of p) table (line_of line ∷ map line_of (drop (k + 1) lines)) now
      here = let P : List Line → Type 0 = λ ls. AreSound claim (net_of p) table ls now in
          subst P (next_line lines k line within is) h.sound

      pub next_waits : now ≢ []
      next_waits = line_waits (line_of line) (map line_of (drop (k + 1) lines)) now here

      pub one_shown : (after' : List Node) (new : List (Option ℕ)) (value : Option ℕ) (node : Node) (rest : List Node)
          → now ≡ node ∷ rest → value ≡ line_shows claim (net_of p) table (line_of line) node
          → after' ≡ after (line_of line) now → new ≡ shown ++ value ∷ [] → AreShown lines nodes (k + 1) after' new
      one_shown after' new value node rest waits v a more = record {
        sound = (let Q : List Node → Type 0 = λ ns.
            AreSound claim (net_of p) table (map line_of (drop (k + 1) lines)) ns in
            subst Q (sym a) (sound_after (line_of line) (map line_of (drop (k + 1) lines)) now here));
        all = (let left = map line_of (drop (k + 1) lines) in
            let S : List Line → List Node → List (Option ℕ) = λ ls ns. shown_in claim (net_of p) table ls ns in
            let first : S (map line_of (drop k lines)) now ≡ value ∷ S left after' =
            ap (λ (ls : List Line). S ls now) (next_line lines k line within is)
            ∙ ap (λ (ns : List Node). S (line_of line ∷ left) ns) waits
            ∙ ap (λ (o : Option ℕ). o ∷ S left (after (line_of line) (node ∷ rest))) (sym v)
            ∙ ap (λ (ns : List Node). value ∷ S left (after (line_of line) ns)) (sym waits)
            ∙ ap (λ (ns : List Node). value ∷ S left ns) (sym a) in
            ap (λ (xs : List (Option ℕ)). xs ++ S left after') more ∙ append_assoc shown (value ∷ []) (S left after')
            ∙ ap (λ (xs : List (Option ℕ)). shown ++ xs) (sym first) ∙ h.all);
      }

-- ---- what a line names

module _ (p : Pesp) (table : List (List SignedRow)) (told_claim : ToldClaim) (claim : Claim) (tells : TellsOf told_claim claim) where
  cut_named : (cut : Cut) (cycles : ℕ) → cycles ≡ length table → CutExists (net_of p) table cut → CutIsNamed (length p.rows) cycles cut
  cut_named (Slack row k) cycles long exists = subst (λ (m : ℕ). Names m row) (arcs_long p) exists
  cut_named (Offset cycle k) cycles long exists = subst (λ (m : ℕ). Names m cycle) (sym long) exists

  leaf_named : (leaf : Leaf) (node : Node) (cycles : ℕ) → cycles ≡ length table
      → IsSoundLeaf claim (net_of p) table leaf node → LeafIsNamed told_claim cycles leaf
  leaf_named (Bound pairs) node cycles long s =
      subst (λ (m : ℕ). NamesTold told_claim m pairs) (sym long) ((pairs_told told_claim claim table pairs tells).1 s.0)
  leaf_named (Shut reason) node cycles long s = tt

  line_named : (line : Line) (lines : List Line) (nodes : List Node) (cycles : ℕ) → cycles ≡ length table
      → AreSound claim (net_of p) table (line ∷ lines) nodes
      → LineIsNamed told_claim (length p.rows) cycles line
  line_named line lines [] cycles long s = absurd s
  line_named (EndLine leaf) lines (node ∷ nodes) cycles long s = leaf_named leaf node cycles long s.0
  line_named (CutLine cut) lines (node ∷ nodes) cycles long s = cut_named cut cycles long s.0

  -- the next line names what is told
  pub next_named : (lines : List TreeLine) (nodes : List Node) (k : ℕ) (now : List Node) (shown : List (Option ℕ))
      → AreShown p table claim lines nodes k now shown → (line : TreeLine) → k < length lines → line ≡ get_or lines k line
      → (cycles : ℕ) → cycles ≡ length table → LineIsNamed told_claim (length p.rows) cycles (line_of line)
  next_named lines nodes k now shown h line within is cycles long =
      line_named (line_of line) (map line_of (drop (k + 1) lines)) now cycles long
      (here p table claim lines nodes k now shown h line within is)
