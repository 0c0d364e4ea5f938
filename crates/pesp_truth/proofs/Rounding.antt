-- Visits of rows, and rounds of them.
use Rattle.std.proofs.Common.{◌≡◌, ◌≢◌, ℕ, ◌+◌, ◌<◌, ◌≤◌, ◌⊎◌, inl, inr, List, length, refl, sym, ◌∙◌, arith, subst, Bool, true, false, sum}
use Rattle.std.specs.Prelude.{◌||◌}
use Rattle.std.proofs.lemmas.Bool.{cases_lt}
use Rattle.pesp_problem.specs.declared.arc.Arc.{Arc}
use Rattle.pesp_problem.specs.Arcs.{Net, arc_at}
use Rattle.pesp_problem.specs.Nodes.{slack_range}
use Rattle.pesp_problem.specs.Families.{Family, IsFamily, IsSupportedBy, IsSupported, HasNoEmpty, NoFamilyIsSupported}
use Rattle.pesp_truth.specs.declared.visit.Narrowed.{Narrowed}
use Rattle.pesp_truth.specs.declared.rounds.Round.{Round}
use Rattle.pesp_truth.specs.declared.rounds.Round.TheVariants as round
use Rattle.pesp_truth.specs.Sets.{family_at}
use Rattle.pesp_truth.specs.Visits.{HasSome, LiesAt, RefutesAt, IsNarrowed}
use Rattle.pesp_problem.specs.ArcLimits.{HaveEnds}
use Rattle.pesp_truth.specs.Rounds.{IsWide, is_marked, IsQuiet, QuietRowsSupport, InRound, Stepped, IsRound}

same_or : (a b : ℕ) → (a ≡ b) ⊎ (a ≢ b)
same_or a b = grind arith

pub some_of : (n : Net) (ranges : List (ℕ × ℕ)) (events event : ℕ) (sets : Family) → IsWide n ranges events sets
    → event < events → HasSome sets event
some_of n ranges events event sets w l = w.some event l

lies_of : (n : Net) (ranges : List (ℕ × ℕ)) (events i : ℕ) (sets s : Family) → HaveEnds events n.arcs
    → i < length n.arcs → IsWide n ranges events sets → IsFamily n events s → IsSupported n ranges s
    → HasNoEmpty events s → LiesAt (arc_at n.arcs i) s sets
lies_of n ranges events i sets s ends l w fam sup some d = let e = ends i l in (
  λ m. w.keeps s fam sup some (arc_at n.arcs i).tail d e.0 m,
  λ m. w.keeps s fam sup some (arc_at n.arcs i).head d e.1 m,
)

pub refuted : (n : Net) (ranges : List (ℕ × ℕ)) (events i : ℕ) (sets : Family) → HaveEnds events n.arcs
    → i < length n.arcs → IsWide n ranges events sets
    → RefutesAt n.period (arc_at n.arcs i) (slack_range ranges i) sets → NoFamilyIsSupported n ranges events
refuted n ranges events i sets ends l w refutes s fam sup some = let e = ends i l in
    refutes s (sup i l) (lies_of n ranges events i sets s ends l w fam sup some) (some (arc_at n.arcs i).tail e.0)
    (some (arc_at n.arcs i).head e.1)

same_support : (t : ℕ) (arc : Arc) (range : ℕ × ℕ) (F G : Family) → ((d : ℕ) → G arc.tail d ≡ F arc.tail d)
    → ((d : ℕ) → G arc.head d ≡ F arc.head d) → IsSupportedBy t arc range F → IsSupportedBy t arc range G
same_support t arc range F G et eh h = record {
  tails = λ a m. let q = h.tails a (sym (et a) ∙ m) in (q.0, eh q.0 ∙ q.1, q.2);
  heads = λ b m. let q = h.heads b (sym (eh b) ∙ m) in (q.0, et q.0 ∙ q.1, q.2);
}

-- where the marks that were added are known, an event without a mark has the set that it had
same_set : (t : ℕ) (arc : Arc) (range : ℕ × ℕ) (xs ys : List ℕ) (now : List Bool) (narrowed : Narrowed) (event : ℕ)
    → IsNarrowed t arc range xs ys narrowed → (is_marked now arc.tail ≡ false → narrowed.tail ≡ false)
    → (is_marked now arc.head ≡ false → narrowed.head ≡ false)
    → is_marked now event ≡ false → (d : ℕ) → family_at t ys event d ≡ family_at t xs event d
same_set t arc range xs ys now narrowed event h at_tail at_head quiet d = elim (same_or event arc.tail) [
  | inl e ↦ subst (λ x. family_at t ys x d ≡ family_at t xs x d) (sym e)
      (h.tells.tail (at_tail (subst (λ x. is_marked now x ≡ false) e quiet)) d)
  | inr n ↦ elim (same_or event arc.head) [
    | inl e ↦ subst (λ x. family_at t ys x d ≡ family_at t xs x d) (sym e)
        (h.tells.head (at_head (subst (λ x. is_marked now x ≡ false) e quiet)) d)
    | inr m ↦ h.revises.else event d n m
  ]
]

wide_after : (n : Net) (ranges : List (ℕ × ℕ)) (events i : ℕ) (xs ys : List ℕ) (narrowed : Narrowed)
    → HaveEnds events n.arcs → i < length n.arcs → IsWide n ranges events (family_at n.period xs)
    → IsNarrowed n.period (arc_at n.arcs i) (slack_range ranges i) xs ys narrowed → IsWide n ranges events (family_at n.period ys)
wide_after n ranges events i xs ys narrowed ends l w h =
    let arc = arc_at n.arcs i in
    record {
      family = record {
        below = λ event d b m. w.family.below event d b (h.revises.within event d m);
        first = λ event d b f m. w.family.first event d b f (h.revises.within event d m);
      };
      some = λ event b. elim (same_or event arc.tail) [
        | inl e ↦ subst (λ x. HasSome (family_at n.period ys) x) (sym e) h.some_tail
        | inr p ↦ elim (same_or event arc.head) [
          | inl e ↦ subst (λ x. HasSome (family_at n.period ys) x) (sym e) h.some_head
          | inr q ↦ let s = w.some event b in (s.0, h.revises.else event s.0 p q ∙ s.1)
        ]
      ];
      keeps = λ s fam sup some event d b m.
          let lies = h.revises.keeps s (sup i l) (lies_of n ranges events i (family_at n.period xs) s ends l w fam sup some) d in
          elim (same_or event arc.tail) [
            | inl e ↦ subst (λ x. family_at n.period ys x d ≡ true) (sym e) (lies.0 (subst (λ x. s x d ≡ true) e m))
            | inr p ↦ elim (same_or event arc.head) [
              | inl e ↦ subst (λ x. family_at n.period ys x d ≡ true) (sym e) (lies.1 (subst (λ x. s x d ≡ true) e m))
              | inr q ↦ h.revises.else event d p q ∙ w.keeps s fam sup some event d b m
            ]
          ];
    }

-- what the marks say after a visit
pub record AreMarked (arc : Arc) (was now : List Bool) (narrowed : Narrowed) : Type 0 where
  pub kept : (event : ℕ) → is_marked now event ≡ false → is_marked was event ≡ false
  pub tail : is_marked now arc.tail ≡ false → narrowed.tail ≡ false
  pub head : is_marked now arc.head ≡ false → narrowed.head ≡ false
  pub none : narrowed.tail ≡ false → narrowed.head ≡ false → now ≡ was

pub visited : (n : Net) (ranges : List (ℕ × ℕ)) (events i : ℕ) (before was now : List Bool) (xs ys : List ℕ)
    (narrowed : Narrowed) (changed : Bool) → HaveEnds events n.arcs → i < length n.arcs
    → IsWide n ranges events (family_at n.period xs)
    → InRound n ranges before was i (family_at n.period xs)
    → IsNarrowed n.period (arc_at n.arcs i) (slack_range ranges i) xs ys narrowed
    → AreMarked (arc_at n.arcs i) was now narrowed
    → (changed ≡ true → (narrowed.tail ≡ true) ⊎ (narrowed.head ≡ true))
    → (changed ≡ false → (narrowed.tail ≡ false) × (narrowed.head ≡ false))
    → Stepped n ranges events before was now i xs ys changed
visited n ranges events i before was now xs ys narrowed changed ends l w r h marks some none =
    let t = n.period in
    let arc = arc_at n.arcs i in
    let unmarked : (k : ℕ) → IsQuiet now (arc_at n.arcs k)
    → IsQuiet was (arc_at n.arcs k) = λ k q. (
      marks.kept (arc_at n.arcs k).tail q.0,
      marks.kept (arc_at n.arcs k).head q.1,
    ) in
    let carried : (k : ℕ) → IsQuiet now (arc_at n.arcs k)
    → IsSupportedBy t (arc_at n.arcs k) (slack_range ranges k) (family_at t xs)
    → IsSupportedBy t (arc_at n.arcs k) (slack_range ranges k) (family_at t ys) =
    λ k q s. same_support t (arc_at n.arcs k) (slack_range ranges k) (family_at t xs) (family_at t ys)
    (same_set t arc (slack_range ranges i) xs ys now narrowed
    (arc_at n.arcs k).tail h marks.tail marks.head q.0)
    (same_set t arc (slack_range ranges i) xs ys now narrowed (arc_at n.arcs k).head h marks.tail marks.head q.1) s in
    record {
      wide = wide_after n ranges events i xs ys narrowed ends l w h;
      round = record {
        done = λ k b q. elim (cases_lt k i) [
          | inl m ↦ carried k q (r.done k m (unmarked k q))
          | inr m ↦ let e : k ≡ i = omega arith in
              subst (λ x. IsSupportedBy t (arc_at n.arcs x) (slack_range ranges x) (family_at t ys))
              (sym e) h.revises.supported
        ];
        left = λ k b m p q. carried k q (r.left k (omega arith) m p (unmarked k q));
      };
      less = λ e. elim (some e) [ inl a ↦ h.tells.less_tail a | inr b ↦ h.tells.less_head b ];
      most = h.tells.most;
      marks = λ e event q. let z = none e in subst (λ (m : List Bool). is_marked m event ≡ false) (sym (marks.none z.0 z.1)) q;
    }

pub passed : (n : Net) (ranges : List (ℕ × ℕ)) (events i : ℕ) (before now : List Bool) (xs : List ℕ)
    → i < length n.arcs → IsWide n ranges events (family_at n.period xs)
    → InRound n ranges before now i (family_at n.period xs)
    → IsQuiet before (arc_at n.arcs i) → IsQuiet now (arc_at n.arcs i) → Stepped n ranges events before now now i xs xs false
passed n ranges events i before now xs l w r p q = record {
  wide = w;
  round = record {
    done = λ k b m. elim (cases_lt k i) [
      | inl g ↦ r.done k g m
      | inr g ↦ let e : k ≡ i = omega arith in
          subst (λ x. IsSupportedBy n.period (arc_at n.arcs x) (slack_range ranges x) (family_at n.period xs))
          (sym e) (r.left i (omega arith) l p q)
    ];
    left = λ k b m u v. r.left k (omega arith) m u v;
  };
  less = λ e. absurd (cc);
  most = omega arith;
  marks = λ _ _ m. m;
}

-- the state of a round in which rows were visited up to a place
pub record Going (n : Net) (ranges : List (ℕ × ℕ)) (events : ℕ) (before now : List Bool) (i : ℕ) (old new : List ℕ)
    (changed : Bool) : Type 0 where
  pub wide : IsWide n ranges events (family_at n.period new)
  pub round : InRound n ranges before now i (family_at n.period new)
  pub less : changed ≡ true → sum new < sum old
  pub most : sum new ≤ sum old
  pub marks : changed ≡ false → (event : ℕ) → event < events → is_marked now event ≡ false

pub going_none : (n : Net) (ranges : List (ℕ × ℕ)) (events : ℕ) (before now : List Bool) (xs : List ℕ)
    → IsWide n ranges events (family_at n.period xs) → QuietRowsSupport n ranges before (family_at n.period xs)
    → ((event : ℕ) → event < events → is_marked now event ≡ false)
    → Going n ranges events before now 0 xs xs false
going_none n ranges events before now xs w q u = record {
  wide = w;
  round = record { done = λ k l. absurd (omega arith); left = λ k _ m p _. q k m p };
  less = λ e. absurd (cc);
  most = omega arith;
  marks = λ _ event l. u event l;
}

pub going_more : (n : Net) (ranges : List (ℕ × ℕ)) (events i : ℕ) (before was now : List Bool) (xs ys zs : List ℕ)
    (b c d : Bool) → Going n ranges events before was i xs ys b → Stepped n ranges events before was now i ys zs c
    → (d ≡ true → (b ≡ true) ⊎ (c ≡ true)) → (d ≡ false → (b ≡ false) × (c ≡ false)) → Going n ranges events before now (i + 1) xs zs d
going_more n ranges events i before was now xs ys zs b c d g s some none = record {
  wide = s.wide;
  round = s.round;
  less = λ e. let m = s.most in let k = g.most in
      elim (some e) [ inl f ↦ let x = g.less f in omega arith | inr f ↦ let x = s.less f in omega arith ];
  most = let m = s.most in let k = g.most in omega arith;
  marks = λ e event l. let z = none e in s.marks z.1 event (g.marks z.0 event l);
}

pub or_true : (b c : Bool) → (b || c) ≡ true → (b ≡ true) ⊎ (c ≡ true)
or_true true c e = inl refl
or_true false c e = inr e

pub or_false : (b c : Bool) → (b || c) ≡ false → (b ≡ false) × (c ≡ false)
or_false true c e = absurd (cc)
or_false false c e = (refl, e)

pub quiet_end : (n : Net) (ranges : List (ℕ × ℕ)) (events i : ℕ) (before now : List Bool) (xs ys : List ℕ)
    (b : Bool) → length n.arcs ≤ i → Going n ranges events before now i xs ys b
    → QuietRowsSupport n ranges now (family_at n.period ys)
quiet_end n ranges events i before now xs ys b m g k l q = g.round.done k (omega arith) q

pub settled_end : (n : Net) (ranges : List (ℕ × ℕ)) (events i : ℕ) (before now : List Bool) (xs ys : List ℕ)
    → HaveEnds events n.arcs → length n.arcs ≤ i → Going n ranges events before now i xs ys false
    → IsSupported n ranges (family_at n.period ys)
settled_end n ranges events i before now xs ys ends m g k l = let e = ends k l in
    g.round.done k (omega arith) (g.marks refl (arc_at n.arcs k).tail e.0, g.marks refl (arc_at n.arcs k).head e.1)

-- what is known between rounds
abbrev pub Known : Net → List (ℕ × ℕ) → ℕ → List ℕ → List Bool → Round → Type 0
Known n ranges events words now round.Emptied = NoFamilyIsSupported n ranges events
Known n ranges events words now round.Narrowed = IsWide n ranges events (family_at n.period words)
    × QuietRowsSupport n ranges now (family_at n.period words)
Known n ranges events words now round.Settled = IsWide n ranges events (family_at n.period words)
    × IsSupported n ranges (family_at n.period words)

-- what is left of a loop over rounds
abbrev pub gauge : Round → ℕ → ℕ
gauge round.Emptied left = 0
gauge round.Narrowed left = left + 1
gauge round.Settled left = 0

pub known_of : (n : Net) (ranges : List (ℕ × ℕ)) (events m : ℕ) (old new : List ℕ) (marks : List Bool) (r : Round)
    → m ≡ events → IsRound n ranges m old new marks r → Known n ranges events new marks r
known_of n ranges events m old new marks round.Emptied e h = subst (λ k. NoFamilyIsSupported n ranges k) e h
known_of n ranges events m old new marks round.Narrowed e h = (subst (λ k. IsWide n ranges k (family_at n.period new)) e h.0, h.1)
known_of n ranges events m old new marks round.Settled e h = (subst (λ k. IsWide n ranges k (family_at n.period new)) e h.0, h.1)
