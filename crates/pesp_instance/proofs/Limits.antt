-- What is read keeps the limits.
use Rattle.std.proofs.Common.{lit<, ◌≡◌, ◌∙◌, refl, sym, ap, subst, Bool, true, false, ◌&&◌, ℕ, zero, suc, ◌+◌, ◌<◌, ◌≤◌, ℤ, pos, neg_ℤ, ◌≤ℤ◌, List, [], ◌∷◌, ◌++◌, length, map, take, length-take, get_or, arith, length-append, if◌then◌else◌, Option, Some, None, Result, Ok, Err, nat_lt, nat_le, nat_abs, int_eq, ltb-true, leb-true}
use Rattle.std.specs.Prelude.{int_le, int_lt}
use Rattle.std.specs.Option.{ok_or}
use Rattle.std.specs.List.{All, list_any}
use Rattle.std.proofs.lemmas.Int.{ints}
use Rattle.std.proofs.lemmas.List.{get_or-take}
use Rattle.std.proofs.lemmas.Bool.Decides.{nat_tests}
use Rattle.std.proofs.lemmas.List.Elements.{All-cons, All-head, All-nil, All-push, All-tail}
use Rattle.pesp_instance.specs.Number.{number_of}
use Rattle.pesp_instance.specs.Activities.{add_event, activities_after, activity_from, activity_of, admit, and_then, assembled, events_of, fits, in_order, is_between, numbers_from, out_of_range, row_of, unless_refused}
use Rattle.pesp_instance.specs.Tables.{AllPlaced, IsTable}
use Rattle.pesp_instance.specs.Reading.{IsActivityOf, KeepsActivity, SpellsAt}
use Rattle.pesp_problem.specs.Limits.{IsLabel, KeepsLimits, RowKeepsLimits}
use Rattle.pesp_instance.specs.declared.activity.Activity.{Activity}
use Rattle.pesp_problem.specs.declared.row.Row.{Row}
use Rattle.pesp_instance.specs.declared.refusal.ReadRefusal.{ReadRefusal}
use Rattle.pesp_instance.specs.declared.refusal.ReadRefusal.TheVariants.{FieldCount, NotANumber, BoundsCrossed, TooManyRows, TooManyEvents}
use Rattle.pesp_instance.proofs.Grammar.{spelling-read}
use Rattle.pesp_instance.specs.Number.{Spells}
use Rattle.pesp_instance.proofs.Fields.{range-at, unless-none, unless-same, weight-natural}
use Rattle.pesp_instance.proofs.Tables.{events-last, length-table}

between : (x y n : ℤ) → is_between x y n ≡ true → (x ≤ℤ n) × (n ≤ℤ y)
between x y n e = by (int_le x n) (int_le n y) refl refl e
  where
    by : (a b : Bool) → int_le x n ≡ a → int_le n y ≡ b → int_le x n && int_le n y ≡ true → (x ≤ℤ n) × (n ≤ℤ y)
    by true true v w h = (grind (arith, ints), grind (arith, ints))
    by true false v w h = let g : false ≡ true = rw (v, w) at h in cc
    by false b v w h = let g : false ≡ true = rw v at h in cc

within-label : (n : ℤ) → is_between (neg_ℤ (pos 1000000000000)) (pos 1000000000000) n ≡ true → IsLabel n
within-label n e = let b = between (neg_ℤ (pos 1000000000000)) (pos 1000000000000) n e in omega (arith, ints, b)

not-under : (x y : ℤ) → int_lt x y ≡ false → y ≤ℤ x
not-under x y e = grind (arith, ints)

-- a success of two steps is one of each
pub both-ok : {A B E : Type 0} (x : Result A E) (g : A → Result B E) (b : B) → and_then x g ≡ Ok b → (a : A) × (x ≡ Ok a) × (g a ≡ Ok b)
both-ok (Ok a) g b h = (a, refl, h)
both-ok (Err e) g b h = cc h

ordered : (at : ℕ) (a b : Activity) → in_order at a ≡ Ok b → (b ≡ a) × (a.lower ≤ℤ a.upper)
ordered at a b e = by (int_lt a.upper a.lower) refl e
  where
    by : (r : Bool) → int_lt a.upper a.lower ≡ r
        → (if int_lt a.upper a.lower then Err (BoundsCrossed at) else Ok a) ≡ Ok b → (b ≡ a) × (a.lower ≤ℤ a.upper)
    by true w h = let g : ◌≡◌ {A = Result Activity ReadRefusal} (Err (BoundsCrossed at)) (Ok b) = rw w at h in cc
    by false w h = let g : ◌≡◌ {A = Result Activity ReadRefusal} (Ok a) (Ok b) = rw w at h in (cc, not-under a.upper a.lower w)

-- numbers of fields, one for each
-- what a success comes from
is-some : {A E : Type 0} (o : Option A) (e : E) (x : A) → ok_or o e ≡ Ok x → o ≡ Some x
is-some (Some y) e x h = cc
is-some None e x h = cc h

numbers-length : (at field : ℕ) (fields : List (List ℕ)) (ns : List ℤ) → numbers_from at field fields ≡ Ok ns → length ns ≡ length fields
unfolding numbers_from
numbers-length at field [] ns e = let g : ◌≡◌ {A = List ℤ} [] ns = cc in ap length (sym g)
numbers-length at field (f ∷ fs) ns e =
    let b = both-ok (ok_or (number_of f) (NotANumber at field))
    (λ n. and_then (numbers_from at (field + 1) fs) (λ rest. Ok (n ∷ rest))) ns e in
    let d = both-ok (numbers_from at (field + 1) fs) (λ rest. Ok (b.0 ∷ rest)) ns b.2 in
    let whole : b.0 ∷ d.0 ≡ ns = cc in
    ap length (sym whole) ∙ ap suc (numbers-length at (field + 1) fs d.0 d.1)

assembled-keeps : (at : ℕ) (ns : List ℤ) (a : Activity) → length ns ≡ 6 → assembled at ns ≡ Ok a → KeepsActivity a
assembled-keeps at ns a six e =
    let b = both-ok (unless_refused (out_of_range at 1 ns) (activity_from ns)) (in_order at) a e in
    let none = unless-none (out_of_range at 1 ns) (activity_from ns) b.0 b.1 in
    let same = unless-same (out_of_range at 1 ns) (activity_from ns) b.0 b.1 in
    let o = ordered at b.0 a b.2 in
    let label = within-label (get_or ns 0 (pos 0)) (range-at at 1 ns 0 none (omega arith)) in
    let tail = within-label (get_or ns 1 (pos 0)) (range-at at 1 ns 1 none (omega arith)) in
    let head = within-label (get_or ns 2 (pos 0)) (range-at at 1 ns 2 none (omega arith)) in
    let lower = between (neg_ℤ (pos 1000000)) (pos 1000000) (get_or ns 3 (pos 0)) (range-at at 1 ns 3 none (omega arith)) in
    let upper = between (neg_ℤ (pos 1000000)) (pos 1000000) (get_or ns 4 (pos 0)) (range-at at 1 ns 4 none (omega arith)) in
    let w = weight-natural (get_or ns 5 (pos 0)) (range-at at 1 ns 5 none (omega arith)) in
    let light : nat_abs (get_or ns 5 (pos 0)) ≤ 1000000000 = rw w.1 w.2 in
    rw (o.0, ← same) (record {
      label = label;
      tail = tail;
      head = head;
      lower = lower.0;
      upper = upper.1;
      bounds = rw (← same) at o.1;
      weight = light;
    })

assembled-from : (at : ℕ) (ns : List ℤ) (a : Activity) → assembled at ns ≡ Ok a → activity_from ns ≡ a
assembled-from at ns a e =
    let b = both-ok (unless_refused (out_of_range at 1 ns) (activity_from ns)) (in_order at) a e in
    unless-same (out_of_range at 1 ns) (activity_from ns) b.0 b.1 ∙ sym (ordered at b.0 a b.2).0

assembled-weight : (at : ℕ) (ns : List ℤ) (a : Activity) → length ns ≡ 6 → assembled at ns ≡ Ok a
    → pos (nat_abs (get_or ns 5 (pos 0))) ≡ get_or ns 5 (pos 0)
assembled-weight at ns a six e =
    let b = both-ok (unless_refused (out_of_range at 1 ns) (activity_from ns)) (in_order at) a e in
    let none = unless-none (out_of_range at 1 ns) (activity_from ns) b.0 b.1 in
    let w = weight-natural (get_or ns 5 (pos 0)) (range-at at 1 ns 5 none (omega arith)) in
    rw w.1 refl

pub fits-six : (fields : List (List ℕ)) → fits fields ≡ true → 6 ≤ length fields
fits-six fields e = grind (arith, nat_tests)

pub activity-keeps : (at : ℕ) (fields : List (List ℕ)) (a : Activity) → activity_of at fields ≡ Ok a → KeepsActivity a
activity-keeps at fields a e = by (fits fields) refl e
  where
    by : (b : Bool) → fits fields ≡ b → (if fits fields then and_then (numbers_from at 1 (take 6 fields))
        (assembled at) else Err (FieldCount at)) ≡ Ok a → KeepsActivity a
    by true w h =
        let g : and_then (numbers_from at 1 (take 6 fields)) (assembled at) ≡ Ok a = rw w at h in
        let b = both-ok (numbers_from at 1 (take 6 fields)) (assembled at) a g in
        let six = fits-six fields w in
        assembled-keeps at b.0 a (omega (arith, numbers-length at 1 (take 6 fields) b.0 b.1, length-take 6 fields)) b.2
    by false w h = let g : ◌≡◌ {A = Result Activity ReadRefusal} (Err (FieldCount at)) (Ok a) = rw w at h in cc

-- each field spells its number
numbers-spelled : (at field : ℕ) (fields : List (List ℕ)) (ns : List ℤ) → numbers_from at field fields ≡ Ok ns
    → (i : ℕ) → i < length fields → SpellsAt fields i (get_or ns i (pos 0))
unfolding numbers_from
numbers-spelled at field [] ns e i h = absurd (omega arith)
numbers-spelled at field (f ∷ fs) ns e i h =
    let b = both-ok (ok_or (number_of f) (NotANumber at field))
    (λ n. and_then (numbers_from at (field + 1) fs) (λ rest. Ok (n ∷ rest))) ns e in
    let d = both-ok (numbers_from at (field + 1) fs) (λ rest. Ok (b.0 ∷ rest)) ns b.2 in
    let whole : b.0 ∷ d.0 ≡ ns = cc in
    let first = spelling-read f b.0 (is-some (number_of f) (NotANumber at field) b.0 b.1) in
    let more = numbers-spelled at (field + 1) fs d.0 d.1 in
    rw (← whole) (by b.0 d.0 i first more h)
  where
    by : (n : ℤ) (rest : List ℤ) (i : ℕ) → Spells f n
        → ((j : ℕ) → j < length fs → SpellsAt fs j (get_or rest j (pos 0))) → i < length (f ∷ fs)
        → SpellsAt (f ∷ fs) i (get_or (n ∷ rest) i (pos 0))
    by n rest zero first more h = first
    by n rest (suc j) first more h = more j (omega arith)

-- the record of an activity
pub activity-spelled : (at : ℕ) (fields : List (List ℕ)) (a : Activity) → activity_of at fields ≡ Ok a → IsActivityOf fields a
activity-spelled at fields a e = by (fits fields) refl e
  where
    by : (b : Bool) → fits fields ≡ b → (if fits fields then and_then (numbers_from at 1 (take 6 fields))
        (assembled at) else Err (FieldCount at)) ≡ Ok a → IsActivityOf fields a
    by true w h =
        let g : and_then (numbers_from at 1 (take 6 fields)) (assembled at) ≡ Ok a = rw w at h in
        let b = both-ok (numbers_from at 1 (take 6 fields)) (assembled at) a g in
        let ns : List ℤ = b.0 in
        let six : length (take 6 fields) ≡ 6 = omega (arith, fits-six fields w, length-take 6 fields) in
        let count : length ns ≡ 6 = numbers-length at 1 (take 6 fields) ns b.1 ∙ six in
        let place = λ (i : ℕ) (there : i < 6). rw (get_or-take 6 fields i [] there) at
        (numbers-spelled at 1 (take 6 fields) ns b.1 i (omega arith)) in
        let whole : activity_from ns ≡ a = assembled-from at ns a b.2 in
        rw (← whole) (record {
          six = w;
          label = place 0 (lit< tt);
          tail = place 1 (lit< tt);
          head = place 2 (lit< tt);
          lower = place 3 (lit< tt);
          upper = place 4 (lit< tt);
          weight = rw (assembled-weight at ns a count b.2) (place 5 (lit< tt));
          limits = rw whole (assembled-keeps at ns a count b.2);
        })
    by false w h = let g : ◌≡◌ {A = Result Activity ReadRefusal} (Err (FieldCount at)) (Ok a) = rw w at h in cc

-- the limits of all activities
pub record AllKeep (acts : List Activity) : Type 0 where
  pub rows : length acts ≤ 100000
  pub events : length (events_of acts) ≤ 100000
  pub labels : All IsLabel (events_of acts)
  pub each : All KeepsActivity acts

-- one more label
labels-add : (es : List ℤ) (x : ℤ) → All IsLabel es → IsLabel x → All IsLabel (add_event es x)
labels-add es x k h = by (list_any (int_eq x) es) refl
  where
    by : (b : Bool) → list_any (int_eq x) es ≡ b → All IsLabel (add_event es x)
    by true w = rw w k
    by false w = rw w (All-push IsLabel es x k h)

labels-last : (acts : List Activity) (a : Activity) → All IsLabel (events_of acts) → KeepsActivity a
    → All IsLabel (events_of (acts ++ a ∷ []))
labels-last acts a k h = rw (events-last acts a)
    (labels-add (add_event (events_of acts) a.tail) a.head (labels-add (events_of acts) a.tail k h.tail) h.head)

admit-keeps : (before : List Activity) (at : ℕ) (a : Activity) (next : List Activity) → admit before at a ≡ Ok next
    → AllKeep before → KeepsActivity a → AllKeep next
admit-keeps before at a next e k h = by (nat_lt (length before) 100000) (nat_le (length (events_of (before ++ a ∷ []))) 100000) refl refl e
  where
    by : (x y : Bool) → nat_lt (length before) 100000 ≡ x
        → nat_le (length (events_of (before ++ a ∷ []))) 100000 ≡ y → admit before at a ≡ Ok next → AllKeep next
    by true true v w g =
        let r : before ++ a ∷ [] ≡ next = let q :
        ◌≡◌ {A = Result (List Activity) ReadRefusal} (Ok (before ++ a ∷ [])) (Ok next) = rw (v, w) at g in cc in
        subst AllKeep r (record {
          rows = let l = ltb-true (length before) 100000 v in
              omega (arith, length-append before (a ∷ []));
          events = leb-true (length (events_of (before ++ a ∷ []))) 100000 w;
          labels = labels-last before a k.labels h;
          each = All-push KeepsActivity before a k.each h;
        })
    by true false v w g = let q : ◌≡◌ {A = Result (List Activity) ReadRefusal} (Err (TooManyEvents at)) (Ok next) = rw (v, w) at g in cc
    by false y v w g = let q : ◌≡◌ {A = Result (List Activity) ReadRefusal} (Err (TooManyRows at)) (Ok next) = rw v at g in cc

pub activities-keep : (before : List Activity) (rs : List (ℕ × List (List ℕ))) (acts : List Activity)
    → activities_after before rs ≡ Ok acts → AllKeep before → AllKeep acts
unfolding activities_after
activities-keep before [] acts e k = let r : before ≡ acts = cc in subst AllKeep r k
activities-keep before (r ∷ rs) acts e k =
    let b = both-ok (activity_of r.0 r.1) (λ a. and_then (admit before r.0 a) (λ next. activities_after next rs)) acts e in
    let d = both-ok (admit before r.0 b.0) (λ next. activities_after next rs) acts b.2 in
    activities-keep d.0 rs acts d.2 (admit-keeps before r.0 b.0 d.0 d.1 k (activity-keeps r.0 r.1 b.0 b.1))

none-keep : AllKeep []
none-keep = record { rows = omega arith; events = omega arith; labels = All-nil IsLabel; each = All-nil KeepsActivity }

rows-keep : (events : List ℤ) (acts : List Activity) → AllPlaced events acts → All KeepsActivity acts
    → All (RowKeepsLimits (length events)) (map (row_of events) acts)
unfolding AllPlaced
rows-keep events [] p k = All-nil (RowKeepsLimits (length events))
rows-keep events (a ∷ acts) p k =
    let h = All-head KeepsActivity a acts k in
    All-cons (RowKeepsLimits (length events)) (row_of events a) (map (row_of events) acts)
    (record { label = h.label; tail = p.0; head = p.1; lower = h.lower; upper = h.upper; bounds = h.bounds; weight = h.weight })
    (rows-keep events acts p.2 (All-tail KeepsActivity a acts k))

-- a table that was read makes an instance
pub table-keeps : (period : ℕ) (rows : List Row) (events : List ℤ) (rs : List (ℕ × List (List ℕ)))
    (acts : List Activity) → 1 ≤ period → period ≤ 10000 → activities_after [] rs ≡ Ok acts
    → IsTable rows events acts
    → KeepsLimits (record { period = period; events = events; rows = rows })
table-keeps period rows events rs acts low high e t =
    let k = activities-keep [] rs acts e none-keep in
    record {
      some_period = low;
      period = high;
      rows = omega (arith, length-table rows events acts t, k.rows);
      events = omega (arith, ap length t.in_order, k.events);
      labels = rw t.in_order k.labels;
      each = rw t.as_rows (rows-keep events acts t.placed k.each);
    }
