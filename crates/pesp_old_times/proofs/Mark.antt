-- Byte order marks.
use Rattle.std.proofs.Common.{◌≡◌, refl, arith, Bool, true, false, ℕ, ◌<◌, ◌≤◌, List, [], ◌∷◌, length, drop, get_or}
use Rattle.std.specs.Prelude.{if◌then◌else◌}
use Rattle.csv.specs.Reading.{is_bom, strip_bom}

-- a text that begins with one
pub with-mark : (text : List ℕ) → 3 ≤ length text → is_bom (get_or text 0 0) (get_or text 1 0) (get_or text 2 0) ≡ true
    → drop 3 text ≡ strip_bom text
unfolding strip_bom
with-mark [] long h = absurd (omega (arith, long))
with-mark (a ∷ []) long h = absurd (omega (arith, long))
with-mark (a ∷ b ∷ []) long h = absurd (omega (arith, long))
with-mark (a ∷ b ∷ c ∷ rest) long h = rw h refl

-- one that doesn't
pub without-mark : (text : List ℕ) → is_bom (get_or text 0 0) (get_or text 1 0) (get_or text 2 0) ≡ false → text ≡ strip_bom text
unfolding strip_bom
without-mark [] h = refl
without-mark (a ∷ []) h = refl
without-mark (a ∷ b ∷ []) h = refl
without-mark (a ∷ b ∷ c ∷ rest) h = rw h refl

-- and one that is too short
pub short-text : (text : List ℕ) → length text < 3 → text ≡ strip_bom text
unfolding strip_bom
short-text [] h = refl
short-text (a ∷ []) h = refl
short-text (a ∷ b ∷ []) h = refl
short-text (a ∷ b ∷ c ∷ rest) h = absurd (omega (arith, h))

-- without one a text is no longer
pub no-longer : (text : List ℕ) → length (strip_bom text) ≤ length text
unfolding strip_bom
no-longer [] = omega arith
no-longer (a ∷ []) = omega arith
no-longer (a ∷ b ∷ []) = omega arith
no-longer (a ∷ b ∷ c ∷ rest) = by (is_bom a b c)
  where
    by : (m : Bool) → length (if m then rest else a ∷ b ∷ c ∷ rest) ≤ length (a ∷ b ∷ c ∷ rest)
    by true = omega arith
    by false = omega arith
