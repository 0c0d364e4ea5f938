-- What the test of the limits says.
use Rattle.std.proofs.Common.{◌≡◌, ℕ, ◌≤◌, true, ◌&&◌, arith}
use Rattle.std.specs.Prelude.{nat_le, length, false, IfSome, List}
use Rattle.std.specs.List.{list_all}
use Rattle.std.proofs.lemmas.Bool.Decides.{nat_tests}
use Rattle.pesp_truth.specs.Trees.{are_trees}
use Rattle.pesp_truth.specs.Certificates.{Content, lines_of}
use Rattle.pesp_truth.specs.Marks.{Marks}
use Rattle.pesp_truth.specs.Shown.{LemmaProof}
use Rattle.pesp_cert_lines.proofs.Tests.{and_left, and_right, and_both}
use Rattle.pesp_cert.specs.Limits.{is_period, has_costs, is_time, are_times, total_rows, is_cycle, are_cycles, total_pairs, line_keeps_limits, are_lines, has_line, has_lines, are_lemmas, front_keeps_limits, keeps_limits, ContentKeepsLimits}
use Rattle.pesp_truth.specs.FrontLimits.{marks_keep_limits as marks_keep_limits}
use Rattle.pesp_cert.specs.Drafts.{FrontValue, front_said}

pub le_of : (m n : ℕ) → nat_le m n ≡ true → m ≤ n
le_of m n h = grind (arith, nat_tests, h)

pub limits_of : (c : Content) → keeps_limits c ≡ true → ContentKeepsLimits c
unfolding keeps_limits
limits_of c whole =
    let front = is_period c.period && has_costs c.answer && are_times c.times && are_cycles c.cycles && are_lines c.tree in
    let h = and_left front (has_lines c.version c.tree) whole in
    let version = and_right front (has_lines c.version c.tree) whole in
    let version_is = and_left (nat_le 1 c.version && nat_le c.version 2) (list_all (has_line c.version) c.tree) version in
    let h1 = and_left (is_period c.period && has_costs c.answer && are_times c.times && are_cycles c.cycles) (are_lines c.tree) h in
    let tree = and_right (is_period c.period && has_costs c.answer && are_times c.times && are_cycles c.cycles) (are_lines c.tree) h in
    let h2 = and_left (is_period c.period && has_costs c.answer && are_times c.times) (are_cycles c.cycles) h1 in
    let cycles = and_right (is_period c.period && has_costs c.answer && are_times c.times) (are_cycles c.cycles) h1 in
    let h3 = and_left (is_period c.period && has_costs c.answer) (are_times c.times) h2 in
    let times = and_right (is_period c.period && has_costs c.answer) (are_times c.times) h2 in
    let period = and_left (is_period c.period) (has_costs c.answer) h3 in
    let answer = and_right (is_period c.period) (has_costs c.answer) h3 in
    let c1 = and_left (nat_le (length c.cycles) 100000 && nat_le (total_rows c.cycles) 10000000) (list_all is_cycle c.cycles) cycles in
    let l1 = and_left (nat_le (length c.tree) 1000000 && nat_le (total_pairs c.tree) 20000000
    && list_all line_keeps_limits c.tree) (are_trees 1 (lines_of c)) tree in
    let l2 = and_left (nat_le (length c.tree) 1000000 && nat_le (total_pairs c.tree) 20000000) (list_all line_keeps_limits c.tree) l1 in
    record {
      version = (
        le_of 1 c.version (and_left (nat_le 1 c.version) (nat_le c.version 2) version_is),
        le_of c.version 2 (and_right (nat_le 1 c.version) (nat_le c.version 2) version_is),
      );
      period = (
        le_of 1 c.period (and_left (nat_le 1 c.period) (nat_le c.period 10000) period),
        le_of c.period 10000 (and_right (nat_le 1 c.period) (nat_le c.period 10000) period),
      );
      answer = answer;
      times = le_of (length c.times) 100000 (and_left (nat_le (length c.times) 100000) (list_all is_time c.times) times);
      each_time = and_right (nat_le (length c.times) 100000) (list_all is_time c.times) times;
      cycles = le_of (length c.cycles) 100000 (and_left (nat_le (length c.cycles) 100000) (nat_le (total_rows c.cycles) 10000000) c1);
      rows = le_of (total_rows c.cycles) 10000000 (and_right (nat_le (length c.cycles) 100000) (nat_le (total_rows c.cycles) 10000000) c1);
      each_cycle = and_right (nat_le (length c.cycles) 100000 && nat_le (total_rows c.cycles) 10000000) (list_all is_cycle c.cycles) cycles;
      lines = le_of (length c.tree) 1000000 (and_left (nat_le (length c.tree) 1000000) (nat_le (total_pairs c.tree) 20000000) l2);
      pairs = le_of (total_pairs c.tree) 20000000 (and_right (nat_le (length c.tree) 1000000) (nat_le (total_pairs c.tree) 20000000) l2);
      each_line = and_right (nat_le (length c.tree) 1000000 && nat_le (total_pairs c.tree) 20000000) (list_all line_keeps_limits c.tree) l1;
      whole = and_right (nat_le (length c.tree) 1000000 && nat_le (total_pairs c.tree) 20000000
          && list_all line_keeps_limits c.tree) (are_trees 1 (lines_of c)) tree;
      known = and_right (nat_le 1 c.version && nat_le c.version 2) (list_all (has_line c.version) c.tree) version;
    }

-- the marks of a front that keeps its limits
pub front_marks : (d : FrontValue) → IfSome (front_said d) (λ f. front_keeps_limits f ≡ true) → d.begun ≡ true
    → marks_keep_limits (record { scale = d.scale; walks = d.walks }) ≡ true
unfolding front_keeps_limits
front_marks d h b = and_left (marks_keep_limits (record { scale = d.scale; walks = d.walks })) (are_lemmas d.lemmas) (rw b at h)

-- a front of marks that keep their limits keeps its own exactly where its lemmas do
module _ (m : Marks) (lemmas : List LemmaProof) where
  pub front_kept : marks_keep_limits m ≡ true → are_lemmas lemmas ≡ true → front_keeps_limits (record { marks = m; lemmas = lemmas }) ≡ true
  unfolding front_keeps_limits
  front_kept a b = and_both (marks_keep_limits m) (are_lemmas lemmas) a b

  pub no_front_kept : are_lemmas lemmas ≡ false → front_keeps_limits (record { marks = m; lemmas = lemmas }) ≡ true → ⊥
  unfolding front_keeps_limits
  no_front_kept none h = let all = and_right (marks_keep_limits m) (are_lemmas lemmas) h in absurd cc
