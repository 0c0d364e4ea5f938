-- The shifts of the step lead to partners.
use Rattle.std.proofs.Common.{◌≡◌, ℕ, ◌+◌, ◌%◌, ◌<◌, ◌≤◌, ◌⊎◌, ◌≢◌, List, refl, ap, sym, ◌∙◌, arith, inl, inr, subst, Bool, true, false}
use Rattle.std.specs.Prelude.{ℤ, pos, negsuc, nat_le, ◌&&◌, if◌then◌else◌}
use Rattle.std.specs.Int.{int_rem_euclid}
use Rattle.std.proofs.Math.Nat.{mod-eq_of_lt}
use Rattle.std.proofs.lemmas.Bool.Decides.{nat_tests}
use Rattle.pesp_problem.specs.declared.arc.Arc.{Arc}
use Rattle.pesp_problem.specs.Timetables.{remainder}
use Rattle.pesp_problem.specs.Families.{ArePartners, remainder_of}
use Rattle.pesp_domains.specs.Bits.{bit, KeepsSupported}
use Rattle.pesp_domains.specs.Partners.{NoBitAbove, KeepsTails, KeepsHeads, greatest, first_ahead, first_back, count_in_range, loop_count}
use Rattle.pesp_domains.specs.Partners as spec
use Rattle.pesp_problem.proofs.Shifts.{LeadBoth, lead_both, loop_remainder, mod_same}

-- a remainder is at least 0
remainder_is : (t : ℕ) (z : ℤ) → pos (remainder t z) ≡ int_rem_euclid z (pos t)
remainder_is t (pos a) = refl
remainder_is t (negsuc a) = refl

both : (t : ℕ) (arc : Arc) (range : ℕ × ℕ) → 0 < t
    → LeadBoth t arc range.0 range.1 (first_ahead t arc range) (first_back t arc range) (count_in_range t range)
both t arc range p = lead_both t (remainder t arc.lower) arc range.0 range.1 p (remainder_is t arc.lower)

below : (t d : ℕ) (set : List ℕ) → NoBitAbove t set → bit set d ≡ 1 → d < t
below t d set h s = elim (split d t) [ inl l ↦ l | inr m ↦ let z = h d m in absurd (omega (arith, z, s)) ]
  where
    split : (n k : ℕ) → (n < k) ⊎ (k ≤ n)
    split n k = grind arith

along : (set : List ℕ) (a b : ℕ) → a ≡ b → bit set a ≡ 1 → bit set b ≡ 1
along set a b e s = sym (ap (λ (m : ℕ). bit set m) e) ∙ s

pub keeps_tails : (t : ℕ) (arc : Arc) (range : ℕ × ℕ) (tails heads new : List ℕ) → 0 < t → arc.tail ≢ arc.head
    → NoBitAbove t tails → NoBitAbove t heads → KeepsSupported t (first_ahead t arc range)
    (count_in_range t range) tails heads new → KeepsTails t arc range tails heads new
keeps_tails t arc range tails heads new p ne h k w =
    let lead = both t arc range p in
    record {
      was = w.was;
      found = λ a s.
          let f = w.found a s in
          let r = lead.out a f.0 (below t a tails h (w.was a s)) f.1 in
          ((a + (first_ahead t arc range + f.0)) % t, f.2, record { low = r.0; high = r.1; loop = λ e. absurd (ne e) });
      all = λ a b s m q.
          let i = lead.into a b (below t a tails h s) (below t b heads k m) q.low q.high in
          w.all a s (i.0, i.1, along heads b ((a + (first_ahead t arc range + i.0)) % t) (sym i.2) m);
    }

pub keeps_heads : (t : ℕ) (arc : Arc) (range : ℕ × ℕ) (tails heads new : List ℕ) → 0 < t → arc.tail ≢ arc.head
    → NoBitAbove t tails → NoBitAbove t heads → KeepsSupported t (first_back t arc range)
    (count_in_range t range) heads tails new → KeepsHeads t arc range tails heads new
keeps_heads t arc range tails heads new p ne h k w =
    let lead = both t arc range p in
    record {
      was = w.was;
      found = λ b s.
          let f = w.found b s in
          let r = lead.out_back b f.0 (below t b heads k (w.was b s)) f.1 in
          ((b + (first_back t arc range + f.0)) % t, f.2, record { low = r.0; high = r.1; loop = λ e. absurd (ne e) });
      all = λ b a s m q.
          let i = lead.into_back a b (below t a tails h m) (below t b heads k s) q.low q.high in
          w.all b s (i.0, i.1, along tails a ((b + (first_back t arc range + i.0)) % t) (sym i.2) m);
    }

-- ---- loops

-- the shift 0 counts exactly where the remainder is in the range
pub record IsLoopCount (low high back n : ℕ) : Type 0 where
  pub some : (j : ℕ) → j < n → (j ≡ 0) × (low ≤ back) × (back ≤ high)
  pub all : low ≤ back → back ≤ high → 0 < n

counted : (t : ℕ) (arc : Arc) (range : ℕ × ℕ) → IsLoopCount range.0 (greatest t range) (spec.loop_remainder t arc) (loop_count t arc range)
counted t arc range = test range.0 (greatest t range) (spec.loop_remainder t arc) _ refl
  where
    test : (low high back : ℕ) (b : Bool) → b ≡ (nat_le low back && nat_le back high) → IsLoopCount low high back (if b then 1 else 0)
    test low high back true e =
        let l : low ≤ back = grind (arith, nat_tests) in
        let m : back ≤ high = grind (arith, nat_tests) in
        record { some = λ j h. (omega arith, l, m); all = λ x y. omega arith }
    test low high back false e = record {
      some = λ j h. absurd (omega arith);
      all = λ x y. absurd (let c : true ≡ false = grind (arith, nat_tests) in cc);
    }

own : (t : ℕ) (arc : Arc) (d : ℕ) → 0 < t → d < t → remainder_of t arc d d ≡ spec.loop_remainder t arc
own t arc d p l = loop_remainder t (remainder t arc.lower) arc d p (remainder_is t arc.lower) l

same_place : (t d j : ℕ) → d < t → j ≡ 0 → (d + (0 + j)) % t ≡ d
same_place t d j l z = mod_same (d + (0 + j)) d t (omega arith) ∙ mod-eq_of_lt l

is_partner : (t : ℕ) (arc : Arc) (range : ℕ × ℕ) (d : ℕ) → 0 < t → d < t → range.0 ≤ spec.loop_remainder t arc
    → spec.loop_remainder t arc ≤ greatest t range → ArePartners t arc range d d
is_partner t arc range d p l a b = let r = own t arc d p l in record { low = omega arith; high = omega arith; loop = λ e. refl }

pub keeps_loop_tails : (t : ℕ) (arc : Arc) (range : ℕ × ℕ) (set new : List ℕ) → 0 < t → arc.tail ≡ arc.head
    → NoBitAbove t set → KeepsSupported t 0 (loop_count t arc range) set set new → KeepsTails t arc range set set new
keeps_loop_tails t arc range set new p e h w =
    let count = counted t arc range in
    record {
      was = w.was;
      found = λ d s.
          let f = w.found d s in
          let l = below t d set h (w.was d s) in
          let c = count.some f.0 f.1 in
          (d, w.was d s, is_partner t arc range d p l c.1 c.2);
      all = λ d b s m q.
          let l = below t d set h s in
          let r = own t arc d p l in
          let same : remainder_of t arc d b ≡ remainder_of t arc d d = ap (λ (x : ℕ). remainder_of t arc d x) (sym (q.loop e)) in
          let low = q.low in let high = q.high in
          let few : spec.loop_remainder t arc < t = omega arith in
          w.all d s (0, count.all (omega arith) (omega arith), along set d ((d + (0 + 0)) % t) (sym (same_place t d 0 l refl)) s);
    }

pub keeps_loop_heads : (t : ℕ) (arc : Arc) (range : ℕ × ℕ) (set new : List ℕ) → 0 < t → arc.tail ≡ arc.head
    → NoBitAbove t set → KeepsSupported t 0 (loop_count t arc range) set set new → KeepsHeads t arc range set set new
keeps_loop_heads t arc range set new p e h w =
    let tails = keeps_loop_tails t arc range set new p e h w in
    record {
      was = w.was;
      found = λ d s.
          let f = w.found d s in
          let l = below t d set h (w.was d s) in
          let c = (counted t arc range).some f.0 f.1 in
          (d, w.was d s, is_partner t arc range d p l c.1 c.2);
      all = λ d b s m q.
          let P : ℕ → Type 0 = λ x. bit new x ≡ 1 in
          subst P (q.loop e) (tails.all b d m s q);
    }
