-- What is read is spelt so, and what is spelt is read: answers and items.
use Rattle.std.proofs.Common.{◌≡◌, ℕ, ◌*◌, ◌%◌, ◌<◌, ◌≤◌, Bool, true, false, List, [], ◌∷◌, length, Option, Some, None, refl, sym, ap, ◌∙◌, arith, inl, inr}
use Rattle.std.specs.Prelude.{ℤ, nat_abs, nat_le, ◌==◌, codes, decimal, IfSome}
use Rattle.std.specs.Str.{bytes_eq, all_ascii_digits}
use Rattle.std.specs.Fmt.{signed_decimal}
use Rattle.std.specs.Option.{option_map}
use Rattle.std.proofs.lemmas.Option.{same_Some}
use Rattle.std.proofs.lemmas.Bool.{eqb-true}
use Rattle.std.proofs.lemmas.Bool.Decides.{nat_tests}
use Rattle.std.proofs.lemmas.Slice.Eq.{bytes_eq-Decides}
use Rattle.pesp_problem.specs.declared.row.SignedRow.{SignedRow}
use Rattle.pesp_problem.specs.declared.pair.Pair.{Pair}
use Rattle.pesp_truth.specs.declared.answer.Answer.{Answer}
use Rattle.pesp_truth.specs.declared.answer.Answer.TheVariants as answers
use Rattle.pesp_cert_lines.specs.declared.kind.Kind.{Kind}
use Rattle.pesp_cert_lines.specs.declared.kind.Kind.TheVariants as kinds
use Rattle.pesp_stream.specs.Number.{NATURALS, natural_of, whole_of, SpellsNatural}
use Rattle.pesp_cert_lines.specs.Rows.{is_name, row_words, rows_of}
use Rattle.pesp_cert_lines.specs.Marked.{marked_of, marked_words}
use Rattle.pesp_cert_lines.specs.Pairs.{pairs_from, pair_words}
use Rattle.pesp_problem.specs.declared.marked.MarkedRow.{MarkedRow}
use Rattle.pesp_cert_lines.specs.declared.item.Item.{Item}
use Rattle.pesp_cert_lines.specs.declared.item.Item.TheVariants.{Front, Scale, Walk, Lemma, Least, Version, Period, Answer as Says, Time, Cycle, Slack, Offset, Bound, Nothing, Gap, Propagated, End}
use Rattle.pesp_cert_lines.specs.Items.{is_item_within, item_of, is_form, item_words, one, two, spelt_cost, cost_word, answer_from_words, answer_words, optimal_of, open_of, is_answer_form, IsProper, HasProperCosts}
use Rattle.pesp_cert_lines.specs.Counts.{kind_in}
use Rattle.pesp_stream.proofs.Digits.{natural_spells, natural_read, whole_spells, whole_read, decimal_digits}
use Rattle.pesp_cert_lines.proofs.Tests.{cases}
use Rattle.pesp_cert_lines.proofs.WordLaws.{kind_word, is_worded, joined, option_map_some, both_some, pairs_spell, pairs_read, rows_spell, rows_read}
use Rattle.pesp_cert_lines.proofs.MarkedLaws.{marked_spell, marked_words_read}

is_bytes : (w name : List ℕ) → bytes_eq w name ≡ true → w ≡ name
is_bytes w name h = (bytes_eq-Decides w name).0 h

-- ---- answers

cost_spells : (w : List ℕ) (o : Option ℕ) → spelt_cost w ≡ Some o → (w ≡ cost_word o) × IfSome o (λ c. c < NATURALS)
unfolding spelt_cost
cost_spells w o h =
    elim (cases (bytes_eq w (codes "none"))) [
      | inl is ↦ let e : None ≡ o = same_Some None o (rw is at h) in rw (← e) (is_bytes w (codes "none") is, tt)
      | inr isnt ↦ number w o (natural_of w) (λ n e. natural_spells w n e) (rw isnt at h)
    ]
  where
    number : (w : List ℕ) (o : Option ℕ) (q : Option ℕ) → ((n : ℕ) → q ≡ Some n → SpellsNatural w n)
        → option_map Some q ≡ Some o → (w ≡ cost_word o) × IfSome o (λ c. c < NATURALS)
    number w o None spells h = absurd cc
    number w o (Some n) spells h = let e : Some n ≡ o = same_Some (Some n) o h in rw (← e) ((spells n refl).1, (spells n refl).0)

optimal_spells : (ws : List (List ℕ)) (a : Answer) → (length ws == 1) ≡ true → optimal_of ws ≡ Some a
    → (codes "optimal" ∷ ws ≡ answer_words a) × HasProperCosts a
optimal_spells [] a f h = absurd cc
optimal_spells (c ∷ []) a f h =
    let x = option_map_some answers.Optimal (natural_of c) a h in
    let n = natural_spells c x.0 x.1 in
    rw (← x.2) (ap (λ (w : List ℕ). codes "optimal" ∷ w ∷ []) n.1, n.0)
optimal_spells (c ∷ d ∷ ws) a f h = absurd (omega (arith, eqb-true (length (c ∷ d ∷ ws)) 1 f))

open_spells : (ws : List (List ℕ)) (a : Answer) → (length ws == 2) ≡ true → open_of ws ≡ Some a
    → (codes "open" ∷ ws ≡ answer_words a) × HasProperCosts a
open_spells [] a f h = absurd cc
open_spells (l ∷ []) a f h = absurd cc
open_spells (l ∷ c ∷ []) a f h =
    let x = both_some answers.Bounded (natural_of l) (spelt_cost c) a h in
    let least = natural_spells l x.0 x.2 in
    let cost = cost_spells c x.1 x.3 in
    rw (← x.4) (
      ap (λ (ws : List (List ℕ)). codes "open" ∷ ws)
          (joined l (decimal x.0) (c ∷ []) (cost_word x.1 ∷ []) least.1
          (joined c (cost_word x.1) [] [] cost.0 refl)),
      (least.0, cost.1),
    )
open_spells (l ∷ c ∷ d ∷ ws) a f h = absurd (omega (arith, eqb-true (length (l ∷ c ∷ d ∷ ws)) 2 f))

nil_spells : (ws : List (List ℕ)) → (length ws == 0) ≡ true → ws ≡ []
nil_spells [] h = refl
nil_spells (w ∷ ws) h = absurd (omega (arith, eqb-true (length (w ∷ ws)) 0 h))

led : (w name : List ℕ) (ws : List (List ℕ)) (a : Answer) → w ≡ name
    → (name ∷ ws ≡ answer_words a) × HasProperCosts a → (w ∷ ws ≡ answer_words a) × HasProperCosts a
led w name ws a e h = rw e h

pub answer_spells : (ws : List (List ℕ)) (a : Answer) → is_answer_form ws ≡ true → answer_from_words ws ≡ Some a
    → (ws ≡ answer_words a) × HasProperCosts a
unfolding is_answer_form answer_from_words
answer_spells [] a f h = absurd cc
answer_spells (w ∷ ws) a f h =
    elim (cases (bytes_eq w (codes "optimal"))) [
      | inl is ↦ led w (codes "optimal") ws a (is_bytes w (codes "optimal") is) (optimal_spells ws a (rw is at f) (rw is at h))
      | inr not1 ↦ elim (cases (bytes_eq w (codes "infeasible"))) [
        | inl is ↦
            let nil = nil_spells ws (rw (not1, is) at f) in
            let e : answers.Infeasible ≡ a = same_Some answers.Infeasible a (rw (not1, is) at h) in
            led w (codes "infeasible") ws a (is_bytes w (codes "infeasible") is) (rw (← e, nil) (refl, tt))
        | inr not2 ↦ elim (cases (bytes_eq w (codes "open"))) [
          | inl is ↦ led w (codes "open") ws a (is_bytes w (codes "open") is)
              (open_spells ws a (rw (not1, not2, is) at f) (rw (not1, not2) at h))
          | inr not3 ↦ let bad : false ≡ true = rw (not1, not2, not3) at f in absurd cc
        ]
      ]
    ]

none_word : (n : ℕ) → n < NATURALS → bytes_eq (decimal n) (codes "none") ≡ false
none_word n lt =
    elim (cases (bytes_eq (decimal n) (codes "none"))) [
      | inl is ↦ let bad : false ≡ true = ap all_ascii_digits (sym (is_bytes (decimal n) (codes "none") is))
          ∙ decimal_digits n (omega (arith, lt)) in absurd cc
      | inr isnt ↦ isnt
    ]

cost_read : (o : Option ℕ) → IfSome o (λ c. c < NATURALS) → spelt_cost (cost_word o) ≡ Some o
unfolding spelt_cost
cost_read None h = refl
cost_read (Some c) h = rw (none_word c h, natural_read (decimal c) c (h, refl)) refl

pub answer_read : (a : Answer) → HasProperCosts a → (is_answer_form (answer_words a) ≡ true) × (answer_from_words (answer_words a) ≡ Some a)
unfolding is_answer_form answer_from_words
answer_read (answers.Optimal c) h = (refl, rw (natural_read (decimal c) c (h, refl)) refl)
answer_read answers.Infeasible h = (refl, refl)
answer_read (answers.Bounded least cost) h = (refl, rw (natural_read (decimal least) least (h.0, refl), cost_read cost h.1) refl)

-- ---- items

pub record IsSpelt (k : Kind) (ws : List (List ℕ)) (item : Item) : Type 0 where
  pub words : kind_word k ∷ ws ≡ item_words item
  pub kind : kind_in item ≡ k
  pub proper : IsProper item

one_spells : {A : Type 0} (f : List ℕ → Option A) (g : A → List ℕ)
    → ((w : List ℕ) (a : A) → f w ≡ Some a → w ≡ g a) → (ws : List (List ℕ)) (a : A) → (length ws == 1) ≡ true
    → one f ws ≡ Some a → ws ≡ g a ∷ []
one_spells f g spells [] a e h = absurd cc
one_spells f g spells (w ∷ []) a e h = joined w (g a) [] [] (spells w a h) refl
one_spells f g spells (v ∷ w ∷ ws) a e h = absurd (omega (arith, eqb-true (length (v ∷ w ∷ ws)) 1 e))

two_spells : {A B C : Type 0} (h : A → B → C) (f : List ℕ → Option A) (g : List ℕ → Option B) (x : A → List ℕ) (y : B → List ℕ)
    → ((w : List ℕ) (a : A) → f w ≡ Some a → w ≡ x a) → ((w : List ℕ) (b : B) → g w ≡ Some b → w ≡ y b)
    → (ws : List (List ℕ)) (c : C) → (length ws == 2) ≡ true → two h f g ws ≡ Some c
    → (a : A) × (b : B) × (h a b ≡ c) × (ws ≡ x a ∷ y b ∷ [])
two_spells h f g x y spellf spellg [] c e q = absurd cc
two_spells h f g x y spellf spellg (v ∷ []) c e q = absurd cc
two_spells h f g x y spellf spellg (v ∷ w ∷ []) c e q =
    let b = both_some h (f v) (g w) c q in
    (b.0, b.1, b.4, joined v (x b.0) (w ∷ []) (y b.1 ∷ []) (spellf v b.0 b.2) (joined w (y b.1) [] [] (spellg w b.1 b.3) refl))
two_spells h f g x y spellf spellg (u ∷ v ∷ w ∷ ws) c e q = absurd (omega (arith, eqb-true (length (u ∷ v ∷ w ∷ ws)) 2 e))

nat_word : (w : List ℕ) (n : ℕ) → natural_of w ≡ Some n → w ≡ decimal n
nat_word w n h = (natural_spells w n h).1

int_word : (w : List ℕ) (z : ℤ) → whole_of w ≡ Some z → w ≡ signed_decimal z
int_word w z h = (whole_spells w z h).1

-- one word that spells a whole number
one_whole : (ws : List (List ℕ)) (z : ℤ) → (length ws == 1) ≡ true → one whole_of ws ≡ Some z
    → (ws ≡ signed_decimal z ∷ []) × (nat_abs z < NATURALS)
one_whole [] z e h = absurd cc
one_whole (w ∷ []) z e h = let s = whole_spells w z h in (joined w (signed_decimal z) [] [] s.1 refl, s.0)
one_whole (v ∷ w ∷ ws) z e h = absurd (omega (arith, eqb-true (length (v ∷ w ∷ ws)) 1 e))

at_item : (k : Kind) (ws : List (List ℕ)) (x y : Item) → x ≡ y → IsSpelt k ws x → IsSpelt k ws y
at_item k ws x y e h = rw (← e) h

pub item_spells : (k : Kind) (ws : List (List ℕ)) (item : Item) → is_form k ws ≡ true → item_of k ws ≡ Some item → IsSpelt k ws item
unfolding item_of
item_spells kinds.Front ws item f h = absurd cc
item_spells kinds.Scale ws item f h =
    let m = option_map_some Scale (one natural_of ws) item h in
    at_item kinds.Scale ws (Scale m.0) item m.2
    (record {
      words = ap (λ (vs : List (List ℕ)). codes "scale" ∷ vs)
          (one_spells natural_of decimal nat_word ws m.0 f m.1);
      kind = refl;
      proper = tt;
    })
item_spells kinds.Walk ws item f h =
    let m = option_map_some Walk (marked_of ws) item h in
    let words = marked_spell ws m.0 m.1 in
    at_item kinds.Walk ws (Walk m.0) item m.2
    (record {
      words = ap (λ (vs : List (List ℕ)). codes "walk" ∷ vs) words;
      kind = refl;
      proper = some_rows m.0 (ap length (sym words)) (grind (arith, nat_tests, f));
    })
  where
    some_rows : (rs : List MarkedRow) → length (marked_words rs) ≡ length ws → 1 ≤ length ws → 0 < length rs
    some_rows [] e h = omega (arith, e)
    some_rows (r ∷ rs) e h = omega arith
item_spells kinds.Lemma ws item f h =
    let m = option_map_some Lemma (pairs_from 0 ws) item h in
    let s = pairs_spell 0 ws m.0 m.1 in
    at_item kinds.Lemma ws (Lemma m.0) item m.2
    (record { words = ap (λ (vs : List (List ℕ)). codes "lemma" ∷ vs) s.0; kind = refl; proper = s.1 })
item_spells kinds.Least ws item f h =
    let m = option_map_some Least (one whole_of ws) item h in
    let s = one_whole ws m.0 f m.1 in
    at_item kinds.Least ws (Least m.0) item m.2
    (record { words = ap (λ (vs : List (List ℕ)). codes "least" ∷ vs) s.0; kind = refl; proper = s.1 })
item_spells kinds.Version ws item f h =
    let m = option_map_some Version (one natural_of ws) item h in
    at_item kinds.Version ws (Version m.0) item m.2
    (record {
      words = ap (λ (vs : List (List ℕ)). codes "pesp-certificate" ∷ vs)
          (one_spells natural_of decimal nat_word ws m.0 f m.1);
      kind = refl;
      proper = tt;
    })
item_spells kinds.Period ws item f h =
    let m = option_map_some Period (one natural_of ws) item h in
    at_item kinds.Period ws (Period m.0) item m.2
    (record {
      words = ap (λ (vs : List (List ℕ)). codes "period" ∷ vs)
          (one_spells natural_of decimal nat_word ws m.0 f m.1);
      kind = refl;
      proper = tt;
    })
item_spells kinds.Answer ws item f h =
    let m = option_map_some Says (answer_from_words ws) item h in
    let a = answer_spells ws m.0 f m.1 in
    at_item kinds.Answer ws (Says m.0) item m.2
    (record { words = ap (λ (vs : List (List ℕ)). codes "answer" ∷ vs) a.0; kind = refl; proper = a.1 })
item_spells kinds.Time ws item f h =
    let t = two_spells Time whole_of natural_of signed_decimal decimal int_word nat_word ws item f h in
    at_item kinds.Time ws (Time t.0 t.1) item t.2
    (record { words = ap (λ (vs : List (List ℕ)). codes "time" ∷ vs) t.3; kind = refl; proper = tt })
item_spells kinds.Cycle ws item f h =
    let m = option_map_some Cycle (rows_of ws) item h in
    let words = rows_spell ws m.0 m.1 in
    at_item kinds.Cycle ws (Cycle m.0) item m.2
    (record {
      words = ap (λ (vs : List (List ℕ)). codes "cycle" ∷ vs) words;
      kind = refl;
      proper = some_rows m.0 (ap length (sym words)) (grind (arith, nat_tests, f));
    })
  where
    some_rows : (rs : List SignedRow) → length (row_words rs) ≡ length ws → 1 ≤ length ws → 0 < length rs
    some_rows [] e h = omega (arith, e)
    some_rows (r ∷ rs) e h = omega arith
item_spells kinds.Slack ws item f h =
    let t = two_spells Slack natural_of natural_of decimal decimal nat_word nat_word ws item f h in
    at_item kinds.Slack ws (Slack t.0 t.1) item t.2
    (record { words = ap (λ (vs : List (List ℕ)). codes "s" ∷ vs) t.3; kind = refl; proper = tt })
item_spells kinds.Offset ws item f h =
    let t = two_spells Offset natural_of whole_of decimal signed_decimal nat_word int_word ws item f h in
    at_item kinds.Offset ws (Offset t.0 t.1) item t.2
    (record { words = ap (λ (vs : List (List ℕ)). codes "o" ∷ vs) t.3; kind = refl; proper = tt })
item_spells kinds.Bound ws item f h =
    let m = option_map_some Bound (pairs_from 0 ws) item h in
    let s = pairs_spell 0 ws m.0 m.1 in
    at_item kinds.Bound ws (Bound m.0) item m.2
    (record { words = ap (λ (vs : List (List ℕ)). codes "b" ∷ vs) s.0; kind = refl; proper = s.1 })
item_spells kinds.Nothing ws item f h =
    let m = option_map_some Nothing (pairs_from 0 ws) item h in
    let s = pairs_spell 0 ws m.0 m.1 in
    at_item kinds.Nothing ws (Nothing m.0) item m.2
    (record { words = ap (λ (vs : List (List ℕ)). codes "n" ∷ vs) s.0; kind = refl; proper = s.1 })
item_spells kinds.Gap ws item f h =
    let m = option_map_some Gap (one natural_of ws) item h in
    at_item kinds.Gap ws (Gap m.0) item m.2 (record {
      words =
          ap (λ (vs : List (List ℕ)). codes "g" ∷ vs) (one_spells natural_of decimal nat_word ws m.0 f m.1);
      kind = refl;
      proper = tt;
    })
item_spells kinds.Propagated ws item f h =
    let e : Propagated ≡ item = same_Some Propagated item h in
    at_item kinds.Propagated ws Propagated item e
    (record { words = ap (λ (vs : List (List ℕ)). codes "p" ∷ vs) (nil_spells ws f); kind = refl; proper = tt })
item_spells kinds.End ws item f h =
    let e : End ≡ item = same_Some End item h in
    at_item kinds.End ws End item e (record {
      words =
          ap (λ (vs : List (List ℕ)). codes "end" ∷ vs) (nil_spells ws f);
      kind = refl;
      proper = tt;
    })

-- ---- and back

-- the words behind the first, and what they say
pub record IsRead (item : Item) (ws : List (List ℕ)) : Type 0 where
  pub words : item_words item ≡ kind_word (kind_in item) ∷ ws
  pub form : is_form (kind_in item) ws ≡ true
  pub says : item_of (kind_in item) ws ≡ Some item

nat_read : (n : ℕ) → n < NATURALS → natural_of (decimal n) ≡ Some n
nat_read n lt = natural_read (decimal n) n (lt, refl)

int_read : (z : ℤ) → nat_abs z < NATURALS → whole_of (signed_decimal z) ≡ Some z
int_read z lt = whole_read (signed_decimal z) z (lt, refl)

pair_count : (ps : List Pair) → (length (pair_words ps) % 2 == 0) ≡ true
pair_count ps = grind (arith, nat_tests, even ps)
  where
    even : (ps : List Pair) → length (pair_words ps) ≡ 2 * length ps
    even [] = refl
    even (p ∷ ps) = omega (arith, even ps)

name_fits : (n : ℕ) → is_name n ≡ true → n < NATURALS
name_fits n h = grind (arith, nat_tests, h)

-- whether the item's line is known by its first word
abbrev pub has_word : Item → Bool
has_word item = is_worded (kind_in item)

pub item_read : (item : Item) → has_word item ≡ true → IsProper item → is_item_within item ≡ true → (ws : List (List ℕ)) × IsRead item ws
unfolding item_of
item_read Front word proper within = absurd cc
item_read (Scale n) word proper within = (
  decimal n ∷ [],
  record { words = refl; form = refl; says = rw (nat_read n (grind (arith, nat_tests, within))) refl },
)
item_read (Walk rs) word proper within = (
  marked_words rs,
  record { words = refl; form = some_words rs proper; says = rw (marked_words_read rs within) refl },
)
  where
    some_words : (rs : List MarkedRow) → 0 < length rs → nat_le 1 (length (marked_words rs)) ≡ true
    some_words [] h = absurd (omega arith)
    some_words (r ∷ rs) h = grind (arith, nat_tests)
item_read (Lemma ps) word proper within = (
  pair_words ps,
  record { words = refl; form = pair_count ps; says = rw (pairs_read 0 ps proper within) refl },
)
item_read (Least n) word proper within = (
  signed_decimal n ∷ [],
  record { words = refl; form = refl; says = rw (int_read n proper) refl },
)
item_read (Version n) word proper within = (
  decimal n ∷ [],
  record { words = refl; form = refl; says = rw (nat_read n (grind (arith, nat_tests, within))) refl },
)
item_read (Period n) word proper within = (
  decimal n ∷ [],
  record { words = refl; form = refl; says = rw (nat_read n (grind (arith, nat_tests, within))) refl },
)
item_read (Says a) word proper within = let r = answer_read a proper in (answer_words a, record { words = refl; form = r.0; says = rw r.1 refl })
item_read (Time label time) word proper within = (
  signed_decimal label ∷ decimal time ∷ [],
  record {
    words = refl;
    form = refl;
    says = rw (
      int_read label (grind (arith, nat_tests, within)),
      nat_read time (grind (arith, nat_tests, within)),
    ) refl;
  },
)
item_read (Cycle rs) word proper within = (
  row_words rs,
  record { words = refl; form = some_words rs proper; says = rw (rows_read rs within) refl },
)
  where
    some_words : (rs : List SignedRow) → 0 < length rs → nat_le 1 (length (row_words rs)) ≡ true
    some_words [] h = absurd (omega arith)
    some_words (r ∷ rs) h = grind (arith, nat_tests)
item_read (Slack row k) word proper within = (
  decimal row ∷ decimal k ∷ [],
  record {
    words = refl;
    form = refl;
    says = rw (
      nat_read row (grind (arith, nat_tests, within)),
      nat_read k (grind (arith, nat_tests, within)),
    ) refl;
  },
)
item_read (Offset cycle k) word proper within = (
  decimal cycle ∷ signed_decimal k ∷ [],
  record {
    words = refl;
    form = refl;
    says = rw (
      nat_read cycle (grind (arith, nat_tests, within)),
      int_read k (grind (arith, nat_tests, within)),
    ) refl;
  },
)
item_read (Bound ps) word proper within = (
  pair_words ps,
  record { words = refl; form = pair_count ps; says = rw (pairs_read 0 ps proper within) refl },
)
item_read (Nothing ps) word proper within = (
  pair_words ps,
  record { words = refl; form = pair_count ps; says = rw (pairs_read 0 ps proper within) refl },
)
item_read (Gap cycle) word proper within = (
  decimal cycle ∷ [],
  record { words = refl; form = refl; says = rw (nat_read cycle (grind (arith, nat_tests, within))) refl },
)
item_read Propagated word proper within = ([], record { words = refl; form = refl; says = refl })
item_read End word proper within = ([], record { words = refl; form = refl; says = refl })
