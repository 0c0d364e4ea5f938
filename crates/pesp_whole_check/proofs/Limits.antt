-- What the limits of a certificate say of its lines.
use Rattle.std.proofs.Common.{◌≡◌, ℕ, ◌+◌, ◌<◌, ◌≤◌, arith, refl, sym, subst, List, [], ◌∷◌, length, get_or, map, Bool, true, false, Some}
use Rattle.std.specs.Prelude.{All, unsigned_abs, ◌&&◌, ◌==◌, not, nat_lt, nat_le, nat_abs}
use Rattle.std.specs.List.{list_all}
use Rattle.std.proofs.lemmas.Bool.Decides.{nat_tests}
use Rattle.std.proofs.lemmas.List.Elements.{All-nil, All-cons}
use Rattle.pesp_problem.specs.declared.pair.Pair.{Pair}
use Rattle.pesp_truth.specs.declared.tree.TreeLine.{TreeLine}
use Rattle.pesp_truth.specs.declared.tree.TreeLine.TheVariants.{Slack, Offset, Bound, Nothing, Gap, Propagated}
use Rattle.pesp_cert_lines.specs.Pairs.{is_pair_within, all_within, follows, rise_from}
use Rattle.pesp_cert_lines.specs.Rows.{is_name}
use Rattle.pesp_cert.specs.Limits.{are_pairs, are_cycles, are_lines, are_lemmas, line_keeps_limits, is_cycle, is_lemma, is_shown_lemma, front_keeps_limits, total_rows, total_pairs}
use Rattle.pesp_cert.specs.Texts.{HasText}
use Rattle.pesp_cert.proofs.FrontRuns.{fronts_iff}
use Rattle.pesp_truth.specs.FrontLimits.{marks_keep_limits as marks_keep_limits}
use Rattle.pesp_truth.specs.Trees.{are_trees, line_of}
use Rattle.pesp_truth.specs.Certificates.{Content, Front}
use Rattle.pesp_truth.specs.Limits.{rises_from, weights_keep_limits}
use Rattle.pesp_truth.specs.Shown.{LemmaProof}
use Rattle.pesp_judges.specs.Showing.{KeepsLemmaLimits}
use Rattle.std.proofs.lemmas.List.Sums.{AllPass-from_list_all}
use Rattle.pesp_cert.proofs.ShortLaws.{pairs_few}
use Rattle.pesp_leaves.specs.Flows.{ArePairLimits}
use Rattle.pesp_judges.specs.Lines.{KeepsLineLimits}

both : (a b : Bool) → (a && b) ≡ true → (a ≡ true) × (b ≡ true)
both true b e = (refl, e)
both false b e = cc

pub le_of : (a b : ℕ) → nat_le a b ≡ true → a ≤ b
le_of a b e = grind (arith, nat_tests)

mults_of : (pairs : List Pair) → list_all is_pair_within pairs ≡ true → All (λ pair. unsigned_abs pair.mult ≤ 1000000000000) pairs
mults_of [] w = All-nil (λ (pair : Pair). unsigned_abs pair.mult ≤ 1000000000000)
mults_of (pair ∷ pairs) w =
    let within = both (is_pair_within pair) (list_all is_pair_within pairs) w in
    let numbers = both (nat_le 1 pair.cycle && nat_le pair.cycle 100000) (nat_le (nat_abs pair.mult) 1000000000000) within.0 in
    All-cons (λ (pair : Pair). unsigned_abs pair.mult ≤ 1000000000000) pair pairs
    (le_of (nat_abs pair.mult) 1000000000000 numbers.1) (mults_of pairs within.1)

pub pair_limits : (pairs : List Pair) → are_pairs pairs ≡ true → ArePairLimits pairs
pair_limits pairs e =
    let split = both (rise_from 0 pairs) (all_within pairs) e in
    (mults_of pairs split.1, few pairs split.0 split.1)
  where
    few : (pairs : List Pair) → rise_from 0 pairs ≡ true → list_all is_pair_within pairs ≡ true → length pairs ≤ 100000
    few [] r w = omega arith
    few (pair ∷ pairs) r w =
        let here = both (follows 0 pair) (rise_from (pair.cycle + 1) pairs) r in
        let within = both (is_pair_within pair) (list_all is_pair_within pairs) w in
        let numbers = both (nat_le 1 pair.cycle && nat_le pair.cycle 100000) (nat_le (nat_abs pair.mult) 1000000000000) within.0 in
        let low = le_of 1 pair.cycle ((both (nat_le 1 pair.cycle) (nat_le pair.cycle 100000) numbers.0).0) in
        let high = le_of pair.cycle 100000 ((both (nat_le 1 pair.cycle) (nat_le pair.cycle 100000) numbers.0).1) in
        omega (arith, pairs_few (pair.cycle + 1) pairs (omega (arith, high)) here.1 within.1)

line_keeps : (line : TreeLine) → line_keeps_limits line ≡ true → KeepsLineLimits line
line_keeps (Slack row k) e = le_of k 9999 ((both (is_name row) (nat_le k 9999) e).1)
line_keeps (Offset cycle k) e = le_of (nat_abs k) 100000000000000 ((both (is_name cycle) (nat_le (nat_abs k) 100000000000000) e).1)
line_keeps (Bound pairs) e = pair_limits pairs e
line_keeps (Nothing pairs) e = pair_limits pairs e
line_keeps (Gap cycle) e = tt
line_keeps Propagated e = tt

pub line_limits : (lines : List TreeLine) → list_all line_keeps_limits lines ≡ true → All KeepsLineLimits lines
line_limits [] e = All-nil KeepsLineLimits
line_limits (line ∷ lines) e =
    let here = both (line_keeps_limits line) (list_all line_keeps_limits lines) e in
    All-cons KeepsLineLimits line lines (line_keeps line here.0) (line_limits lines here.1)

-- ---- the lemmas of a front

rises : (least : ℕ) (pairs : List Pair) → rise_from least pairs ≡ true → all_within pairs ≡ true → rises_from least pairs ≡ true
rises least [] r w = refl
rises least (pair ∷ pairs) r w =
    let here = both (follows least pair) (rise_from (pair.cycle + 1) pairs) r in
    let within = both (is_pair_within pair) (all_within pairs) w in
    let first = (both (nat_le least pair.cycle) (not (nat_abs pair.mult == 0)) here.0).0 in
    let small = (both (nat_le 1 pair.cycle && nat_le pair.cycle 100000) (nat_le (nat_abs pair.mult) 1000000000000) within.0).1 in
    rw (first, small, rises (pair.cycle + 1) pairs here.1 within.1) refl

rises_1 : (pairs : List Pair) → rise_from 0 pairs ≡ true → all_within pairs ≡ true → rises_from 1 pairs ≡ true
rises_1 [] r w = refl
rises_1 (pair ∷ pairs) r w =
    let here = both (follows 0 pair) (rise_from (pair.cycle + 1) pairs) r in
    let within = both (is_pair_within pair) (all_within pairs) w in
    let numbers = both (nat_le 1 pair.cycle && nat_le pair.cycle 100000) (nat_le (nat_abs pair.mult) 1000000000000) within.0 in
    let first = (both (nat_le 1 pair.cycle) (nat_le pair.cycle 100000) numbers.0).0 in
    rw (first, numbers.1, rises (pair.cycle + 1) pairs here.1 within.1) refl

-- the pairs of a text's lemma keep the limits of weights
pub weights_keep : (pairs : List Pair) → are_pairs pairs ≡ true → weights_keep_limits pairs ≡ true
weights_keep pairs e = let split = both (rise_from 0 pairs) (all_within pairs) e in rises_1 pairs split.0 split.1

pub record IsShownWithin (s : LemmaProof) : Type 0 where
  pub weights : weights_keep_limits s.fact.weights ≡ true
  pub within : KeepsLemmaLimits s
  pub rows : total_rows s.cycles ≤ 10000000
  pub lines : length s.tree ≤ 1000000
  pub each_line : All KeepsLineLimits s.tree

pub shown_within : (s : LemmaProof) → is_shown_lemma s ≡ true → IsShownWithin s
unfolding is_shown_lemma
shown_within s e =
    let front = both (is_lemma s.fact && marks_keep_limits s.marks && are_cycles s.cycles) (are_lines s.tree) e in
    let head = both (is_lemma s.fact && marks_keep_limits s.marks) (are_cycles s.cycles) front.0 in
    let fact = both (is_lemma s.fact) (marks_keep_limits s.marks) head.0 in
    let pairs = both (are_pairs s.fact.weights) (nat_lt (nat_abs s.fact.least) 1000000000000000000) fact.0 in
    let few = both (nat_le (length s.cycles) 100000 && nat_le (total_rows s.cycles) 10000000) (list_all is_cycle s.cycles) head.1 in
    let counts = both (nat_le (length s.cycles) 100000) (nat_le (total_rows s.cycles) 10000000) few.0 in
    let lines = nat_le (length s.tree) 1000000 && nat_le (total_pairs s.tree) 20000000 && list_all line_keeps_limits s.tree in
    let tree = both lines (are_trees 1 (map line_of s.tree)) front.1 in
    let each = both (nat_le (length s.tree) 1000000 && nat_le (total_pairs s.tree) 20000000) (list_all line_keeps_limits s.tree) tree.0 in
    let long = both (nat_le (length s.tree) 1000000) (nat_le (total_pairs s.tree) 20000000) each.0 in
    record {
      weights = weights_keep s.fact.weights pairs.0;
      within = record { marks = fact.1; cycles = le_of (length s.cycles) 100000 counts.0; whole = tree.1 };
      rows = le_of (total_rows s.cycles) 10000000 counts.1;
      lines = le_of (length s.tree) 1000000 long.0;
      each_line = line_limits s.tree each.1;
    }

pub lemmas_keep : (f : Front) → front_keeps_limits f ≡ true → are_lemmas f.lemmas ≡ true
unfolding front_keeps_limits
lemmas_keep f e = (both (marks_keep_limits f.marks) (are_lemmas f.lemmas) e).1

pub marks_keep : (f : Front) → front_keeps_limits f ≡ true → marks_keep_limits f.marks ≡ true
unfolding front_keeps_limits
marks_keep f e = (both (marks_keep_limits f.marks) (are_lemmas f.lemmas) e).0

pub each_lemma : (lemmas : List LemmaProof) → are_lemmas lemmas ≡ true → (j : ℕ) (d : LemmaProof) → j < length lemmas
    → is_shown_lemma (get_or lemmas j d) ≡ true
each_lemma lemmas e j d l =
    AllPass-from_list_all is_shown_lemma lemmas (both (nat_le (length lemmas) 100000) (list_all is_shown_lemma lemmas) e).1 j d l

pub lemma_within : (f : Front) (c : Content) → HasText (Some f) c → (j : ℕ) (s : LemmaProof) → j < length f.lemmas
    → s ≡ get_or f.lemmas j s → KeepsLemmaLimits s
lemma_within f c has j s l is =
    let keeps = ((fronts_iff (Some f) c).1 has).0 in
    let one = each_lemma f.lemmas (lemmas_keep f keeps) j s l in
    let P : LemmaProof → Type 0 = λ x. is_shown_lemma x ≡ true in
    (shown_within s (subst P (sym is) one)).within

pub few_lemmas : (lemmas : List LemmaProof) → are_lemmas lemmas ≡ true → length lemmas ≤ 100000
few_lemmas lemmas e = le_of (length lemmas) 100000 (both (nat_le (length lemmas) 100000) (list_all is_shown_lemma lemmas) e).0
