-- What is read is spelt so, and what is spelt is read: words, pairs, rows, answers.
use Rattle.std.proofs.Common.{◌≡◌, ℕ, ◌+◌, ◌<◌, ◌≤◌, Bool, true, false, cond, not, ◌&&◌, List, [], ◌∷◌, get_or, drop, Option, Some, None, refl, ap, ◌∙◌, arith, inl, inr}
use Rattle.std.specs.Prelude.{ℤ, nat_abs, nat_le, ◌==◌, ◌⊎◌, codes, decimal, slice_index}
use Rattle.std.specs.Str.{bytes_eq}
use Rattle.std.specs.Fmt.{signed_decimal}
use Rattle.std.specs.Option.{option_map}
use Rattle.std.proofs.lemmas.Option.{option_and_then_some, same_Some}
use Rattle.std.proofs.lemmas.Bool.{eqb-true}
use Rattle.std.proofs.lemmas.Bool.Decides.{nat_tests}
use Rattle.std.proofs.lemmas.Slice.Eq.{bytes_eq-Decides}
use Rattle.pesp_problem.specs.declared.row.SignedRow.{SignedRow}
use Rattle.pesp_problem.specs.declared.pair.Pair.{Pair}
use Rattle.pesp_cert_lines.specs.declared.kind.Kind.{Kind}
use Rattle.pesp_cert_lines.specs.declared.kind.Kind.TheVariants as kinds
use Rattle.pesp_stream.specs.Number.{NATURALS, natural_of, whole_of}
use Rattle.pesp_cert_lines.specs.Pairs.{pair_at, pairs_from, pair_words, is_pair_within, all_within, follows, rise_from}
use Rattle.pesp_cert_lines.specs.Rows.{spelt_row, row_made, row_word, row_words, rows_of, rows_are_named, signed, both, is_name}
use Rattle.pesp_cert_lines.specs.Items.{kind_of}
use Rattle.pesp_cert_lines.proofs.Tests.{and_left, and_right, and_both, cases}
use Rattle.pesp_stream.proofs.Digits.{natural_spells, natural_read, whole_spells, whole_read}
use Rattle.pesp_cert_lines.proofs.PairLoop.{pair_parts}

pub option_map_some : {A B : Type 0} (f : A → B) (o : Option A) (y : B) → option_map f o ≡ Some y → (x : A) × (o ≡ Some x) × (f x ≡ y)
option_map_some f None y h = absurd cc
option_map_some f (Some x) y h = (x, refl, same_Some (f x) y h)

pub joined : (a b : List ℕ) (xs ys : List (List ℕ)) → a ≡ b → xs ≡ ys → a ∷ xs ≡ b ∷ ys
joined a b xs ys e f = cc

-- ---- pairs

now_rise : (least : ℕ) (p : ℕ × ℤ) (ps : List Pair) → least ≤ p.0 → 0 < nat_abs p.1 → rise_from (p.0 + 1) ps ≡ true
    → rise_from least (record { cycle = p.0; mult = p.1 } ∷ ps) ≡ true
now_rise least p ps low some rest =
    let one : (nat_le least p.0 && not (nat_abs p.1 == 0)) ≡ true = grind (arith, nat_tests, low, some) in
    and_both (nat_le least p.0 && not (nat_abs p.1 == 0)) (rise_from (p.0 + 1) ps) one rest

pub pairs_spell : (least : ℕ) (ws : List (List ℕ)) (ps : List Pair) → pairs_from least ws ≡ Some ps
    → (ws ≡ pair_words ps) × (rise_from least ps ≡ true)
unfolding pairs_from
pairs_spell least [] ps h = let e : [] ≡ ps = same_Some [] ps h in rw (← e) (refl, refl)
pairs_spell least (c ∷ []) ps h = absurd cc
pairs_spell least (c ∷ m ∷ ws) ps h =
    option_and_then_some (λ (p : ℕ × ℤ). option_map (λ (qs : List Pair). record { cycle = p.0; mult = p.1 } ∷ qs)
    (pairs_from (p.0 + 1) ws)) (pair_at least c m) ps h (λ p good made.
    let parts = pair_parts least c m p.0 p.1 good in
    let rest = option_map_some (λ (qs : List Pair). record { cycle = p.0; mult = p.1 } ∷ qs) (pairs_from (p.0 + 1) ws) ps made in
    let others = pairs_spell (p.0 + 1) ws rest.0 rest.1 in
    let cycle = natural_spells c p.0 parts.cycle in
    let mult = whole_spells m p.1 parts.mult in
    rw (← rest.2) (
      joined c (decimal p.0) (m ∷ ws) (signed_decimal p.1 ∷ pair_words rest.0) cycle.1
          (joined m (signed_decimal p.1) ws (pair_words rest.0) mult.1 others.0),
      now_rise least p rest.0 parts.rises parts.nonzero others.1,
    ))

pub cycle_below : (p : Pair) → is_pair_within p ≡ true → p.cycle < NATURALS
cycle_below p h = grind (arith, nat_tests, h)

pub mult_below : (p : Pair) → is_pair_within p ≡ true → nat_abs p.mult < NATURALS
mult_below p h = grind (arith, nat_tests, h)

pub pairs_read : (least : ℕ) (ps : List Pair) → rise_from least ps ≡ true → all_within ps ≡ true
    → pairs_from least (pair_words ps) ≡ Some ps
unfolding pairs_from pair_at
pairs_read least [] h k = refl
pairs_read least (p ∷ ps) h k =
    let one = and_left (is_pair_within p) (all_within ps) k in
    let c : natural_of (decimal p.cycle) ≡ Some p.cycle = natural_read (decimal p.cycle) p.cycle (cycle_below p one, refl) in
    let m : whole_of (signed_decimal p.mult) ≡ Some p.mult = whole_read (signed_decimal p.mult) p.mult (mult_below p one, refl) in
    let test : follows least p ≡ true = and_left (follows least p) (rise_from (p.cycle + 1) ps) h in
    rw (
      c,
      m,
      test,
      pairs_read (p.cycle + 1) ps (and_right (follows least p) (rise_from (p.cycle + 1) ps) h)
          (and_right (is_pair_within p) (all_within ps) k),
    ) refl

-- ---- rows

signed_some : (plus : Bool) (o : Option ℕ) (p : ℕ × Bool) → signed plus o ≡ Some p → (o ≡ Some p.0) × (plus ≡ p.1)
signed_some plus None p h = absurd cc
signed_some plus (Some n) p h = let e : (n, plus) ≡ p = same_Some (n, plus) p h in
    (ap Some (ap (λ (q : ℕ × Bool). q.0) e), ap (λ (q : ℕ × Bool). q.1) e)

led_by : (w : List ℕ) (c : ℕ) (rest : List ℕ) → 0 < c → get_or w 0 0 ≡ c → drop 1 w ≡ rest → w ≡ c ∷ rest
led_by [] c rest some h e = absurd (omega arith)
led_by (b ∷ bs) c rest some h e = rw (h, e) refl

pub row_spells : (w : List ℕ) (p : ℕ × Bool) → spelt_row w ≡ Some p → (w ≡ row_word (row_made p)) × (p.0 < NATURALS)
unfolding spelt_row
row_spells w p h =
    elim (cases (slice_index w 0 == 43)) [
      | inl is ↦
          let s = signed_some true (natural_of (drop 1 w)) p (rw is at h) in
          let n = natural_spells (drop 1 w) p.0 s.0 in
          (rw (← s.1) (led_by w 43 (decimal p.0) (omega arith) (eqb-true (get_or w 0 0) 43 is) n.1), n.0)
      | inr isnt ↦ elim (cases (slice_index w 0 == 45)) [
        | inl is ↦
            let s = signed_some false (natural_of (drop 1 w)) p (rw (isnt, is) at h) in
            let n = natural_spells (drop 1 w) p.0 s.0 in
            (rw (← s.1) (led_by w 45 (decimal p.0) (omega arith) (eqb-true (get_or w 0 0) 45 is) n.1), n.0)
        | inr neither ↦ let bad : None ≡ Some p = rw (isnt, neither) at h in absurd cc
      ]
    ]

pub row_read : (r : SignedRow) → r.row < NATURALS → spelt_row (row_word r) ≡ Some (r.row, r.plus)
unfolding spelt_row
row_read r lt = go r.plus
  where
    go : (plus : Bool) → spelt_row (row_word (record { row = r.row; plus = plus })) ≡ Some (r.row, plus)
    go true = rw (natural_read (decimal r.row) r.row (lt, refl)) refl
    go false = rw (natural_read (decimal r.row) r.row (lt, refl)) refl

pub both_some : {A B C : Type 0} (f : A → B → C) (o : Option A) (q : Option B) (z : C) → both f o q ≡ Some z
    → (x : A) × (y : B) × (o ≡ Some x) × (q ≡ Some y) × (f x y ≡ z)
both_some f None q z h = absurd cc
both_some f (Some x) None z h = absurd cc
both_some f (Some x) (Some y) z h = (x, y, refl, refl, same_Some (f x y) z h)

pub rows_spell : (ws : List (List ℕ)) (rs : List SignedRow) → rows_of ws ≡ Some rs → ws ≡ row_words rs
unfolding rows_of
rows_spell [] rs h = let e : [] ≡ rs = same_Some [] rs h in rw (← e) refl
rows_spell (w ∷ ws) rs h =
    let b = both_some (λ (p : ℕ × Bool) (qs : List SignedRow). row_made p ∷ qs) (spelt_row w) (rows_of ws) rs h in
    let first = row_spells w b.0 b.2 in
    let others = rows_spell ws b.1 b.3 in
    rw (← b.4) (joined w (row_word (row_made b.0)) ws (row_words b.1) first.0 others)

pub named_below : (n : ℕ) → is_name n ≡ true → n < NATURALS
named_below n h = grind (arith, nat_tests, h)

pub rows_read : (rs : List SignedRow) → rows_are_named rs ≡ true → rows_of (row_words rs) ≡ Some rs
unfolding rows_of
rows_read [] h = refl
rows_read (r ∷ rs) h =
    let first = row_read r (named_below r.row (and_left (is_name r.row) _ h)) in
    rw (first, rows_read rs (and_right (is_name r.row) _ h)) refl

-- ---- the first word

abbrev pub kind_word : Kind → List ℕ
kind_word kinds.Front = []
kind_word kinds.Scale = codes "scale"
kind_word kinds.Walk = codes "walk"
kind_word kinds.Lemma = codes "lemma"
kind_word kinds.Least = codes "least"
kind_word kinds.Version = codes "pesp-certificate"
kind_word kinds.Period = codes "period"
kind_word kinds.Answer = codes "answer"
kind_word kinds.Time = codes "time"
kind_word kinds.Cycle = codes "cycle"
kind_word kinds.Slack = codes "s"
kind_word kinds.Offset = codes "o"
kind_word kinds.Bound = codes "b"
kind_word kinds.Nothing = codes "n"
kind_word kinds.Gap = codes "g"
kind_word kinds.Propagated = codes "p"
kind_word kinds.End = codes "end"

kind_step : (w name : List ℕ) (k j : Kind) (rest : Option Kind) → cond (bytes_eq w name) (Some k) rest ≡ Some j
    → ((w ≡ name) × (k ≡ j)) ⊎ (rest ≡ Some j)
kind_step w name k j rest h = go (bytes_eq w name) (bytes_eq-Decides w name).0 h
  where
    go : (b : Bool) → (b ≡ true → w ≡ name) → cond b (Some k) rest ≡ Some j → ((w ≡ name) × (k ≡ j)) ⊎ (rest ≡ Some j)
    go true yields h = inl (yields refl, same_Some k j h)
    go false yields h = inr h

as_kind : (w : List ℕ) (k j : Kind) → w ≡ kind_word k → k ≡ j → w ≡ kind_word j
as_kind w k j e f = e ∙ ap kind_word f

pub kind_spells : (w : List ℕ) (j : Kind) → kind_of w ≡ Some j → w ≡ kind_word j
unfolding kind_of
kind_spells w j h0 =
    elim (kind_step w (codes "s") kinds.Slack j _ h0) [
      | inl e ↦ as_kind w kinds.Slack j e.0 e.1
      | inr h1 ↦
          elim (kind_step w (codes "o") kinds.Offset j _ h1) [
            | inl e ↦ as_kind w kinds.Offset j e.0 e.1
            | inr h2 ↦
                elim (kind_step w (codes "b") kinds.Bound j _ h2) [
                  | inl e ↦ as_kind w kinds.Bound j e.0 e.1
                  | inr h3 ↦
                      elim (kind_step w (codes "n") kinds.Nothing j _ h3) [
                        | inl e ↦ as_kind w kinds.Nothing j e.0 e.1
                        | inr h4 ↦
                            elim (kind_step w (codes "g") kinds.Gap j _ h4) [
                              | inl e ↦ as_kind w kinds.Gap j e.0 e.1
                              | inr h5 ↦
                                  elim (kind_step w (codes "p") kinds.Propagated j _ h5) [
                                    | inl e ↦ as_kind w kinds.Propagated j e.0 e.1
                                    | inr h6 ↦
                                        elim (kind_step w (codes "time") kinds.Time j _ h6) [
                                          | inl e ↦ as_kind w kinds.Time j e.0 e.1
                                          | inr h7 ↦
                                              elim (kind_step w (codes "cycle") kinds.Cycle j _ h7) [
                                                | inl e ↦ as_kind w kinds.Cycle j e.0 e.1
                                                | inr h8 ↦
                                                    elim (kind_step w (codes "period") kinds.Period j _ h8) [
                                                      | inl e ↦ as_kind w kinds.Period j e.0 e.1
                                                      | inr h9 ↦
                                                          elim (kind_step w (codes "answer") kinds.Answer j _ h9) [
                                                            | inl e ↦ as_kind w kinds.Answer j e.0 e.1
                                                            | inr h10 ↦
                                                                elim (kind_step w (codes "pesp-certificate") kinds.Version j _ h10) [
                                                                  | inl e ↦ as_kind w kinds.Version j e.0 e.1
                                                                  | inr h11 ↦
                                                                      elim (kind_step w (codes "end") kinds.End j _ h11) [
                                                                        | inl e ↦ as_kind w kinds.End j e.0 e.1
                                                                        | inr h12 ↦
                                                                            elim (kind_step w (codes "walk") kinds.Walk j _ h12) [
                                                                              | inl e ↦ as_kind w kinds.Walk j e.0 e.1
                                                                              | inr h13 ↦
                                                                                  elim (kind_step w (codes "scale") kinds.Scale j _ h13) [
                                                                                    | inl e ↦ as_kind w kinds.Scale j e.0 e.1
                                                                                    | inr h14 ↦
                                                                                        elim (kind_step w (codes "lemma") kinds.Lemma j _ h14) [
                                                                                          | inl e ↦ as_kind w kinds.Lemma j e.0 e.1
                                                                                          | inr h15 ↦
                                                                                              elim (kind_step w (codes "least") kinds.Least j _ h15) [
                                                                                                | inl e ↦ as_kind w kinds.Least j e.0 e.1
                                                                                                | inr h16 ↦ absurd cc
                                                                                              ]
                                                                                        ]
                                                                                  ]
                                                                            ]
                                                                      ]
                                                                ]
                                                          ]
                                                    ]
                                              ]
                                        ]
                                  ]
                            ]
                      ]
                ]
          ]
    ]

-- whether a first word says the kind
abbrev pub is_worded : Kind → Bool
is_worded kinds.Front = false
is_worded _ = true

pub kind_read : (k : Kind) → is_worded k ≡ true → kind_of (kind_word k) ≡ Some k
unfolding kind_of
kind_read kinds.Front h = absurd cc
kind_read kinds.Scale h = refl
kind_read kinds.Walk h = refl
kind_read kinds.Lemma h = refl
kind_read kinds.Least h = refl
kind_read kinds.Version h = refl
kind_read kinds.Period h = refl
kind_read kinds.Answer h = refl
kind_read kinds.Time h = refl
kind_read kinds.Cycle h = refl
kind_read kinds.Slack h = refl
kind_read kinds.Offset h = refl
kind_read kinds.Bound h = refl
kind_read kinds.Nothing h = refl
kind_read kinds.Gap h = refl
kind_read kinds.Propagated h = refl
kind_read kinds.End h = refl
