-- What the test of the limits says.
use Rattle.std.proofs.Common.{◌≡◌, ℕ, ◌≤◌, Bool, true, false, ◌&&◌, refl, arith}
use Rattle.std.specs.Prelude.{nat_le, length}
use Rattle.std.specs.List.{list_all}
use Rattle.std.proofs.lemmas.Bool.Decides.{nat_tests}
use Rattle.pesp_truth.specs.Marks.{Marks}
use Rattle.pesp_truth.specs.FrontLimits.{is_scale, is_walk, are_few, total_rows, marks_keep_limits, MarksKeepLimits}

and_left : (a b : Bool) → (a && b) ≡ true → a ≡ true
and_left true b h = refl
and_left false b h = absurd cc

and_right : (a b : Bool) → (a && b) ≡ true → b ≡ true
and_right true b h = h
and_right false b h = absurd cc

and_both : (a b : Bool) → a ≡ true → b ≡ true → (a && b) ≡ true
and_both a b h k = rw (h, k) refl

pub le_of : (m n : ℕ) → nat_le m n ≡ true → m ≤ n
le_of m n h = grind (arith, nat_tests, h)

pub of_le : (m n : ℕ) → m ≤ n → nat_le m n ≡ true
of_le m n h = grind (arith, nat_tests, h)

pub limits_of : (m : Marks) → marks_keep_limits m ≡ true → MarksKeepLimits m
limits_of m whole =
    let few = are_few (length m.walks) (total_rows m.walks) in
    let front = and_left (is_scale m.scale && few) (list_all is_walk m.walks) whole in
    let scale = and_left (is_scale m.scale) few front in
    let counts = and_right (is_scale m.scale) few front in
    record {
      scale = (
        le_of 1 m.scale (and_left (nat_le 1 m.scale) (nat_le m.scale 1000000) scale),
        le_of m.scale 1000000 (and_right (nat_le 1 m.scale) (nat_le m.scale 1000000) scale),
      );
      walks = le_of (length m.walks) 100000 (and_left (nat_le (length m.walks) 100000) (nat_le (total_rows m.walks) 10000000) counts);
      rows = le_of (total_rows m.walks) 10000000 (and_right (nat_le (length m.walks) 100000) (nat_le (total_rows m.walks) 10000000) counts);
      each = and_right (is_scale m.scale && few) (list_all is_walk m.walks) whole;
    }

pub scale_is : (n : ℕ) → (1 ≤ n) × (n ≤ 1000000) → is_scale n ≡ true
scale_is n h = and_both (nat_le 1 n) (nat_le n 1000000) (of_le 1 n h.0) (of_le n 1000000 h.1)

pub few_is : (walks rows : ℕ) → walks ≤ 100000 → rows ≤ 10000000 → are_few walks rows ≡ true
few_is walks rows h k = and_both (nat_le walks 100000) (nat_le rows 10000000) (of_le walks 100000 h) (of_le rows 10000000 k)

pub keeps : (m : Marks) → MarksKeepLimits m → marks_keep_limits m ≡ true
keeps m h = and_both (is_scale m.scale && are_few (length m.walks) (total_rows m.walks)) (list_all is_walk m.walks)
    (and_both (is_scale m.scale) (are_few (length m.walks) (total_rows m.walks)) (scale_is m.scale h.scale)
    (few_is (length m.walks) (total_rows m.walks) h.walks h.rows)) h.each

pub not_kept : (m : Marks) → marks_keep_limits m ≡ false → MarksKeepLimits m → ⊥
not_kept m e h = let k = keeps m h in cc
