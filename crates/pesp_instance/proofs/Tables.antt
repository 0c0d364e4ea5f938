-- One more activity in a table.
use Rattle.std.proofs.Common.{◌≡◌, ◌∙◌, refl, sym, ap, ap₂, Bool, true, false, cond, not, ◌||◌, ℕ, suc, ◌+◌, ◌<◌, ◌≤◌, ℤ, List, [], ◌∷◌, ◌++◌, length, map, arith, true≢false, one-add, append-nil, append_assoc, length-append, Ok, Err, int_eq, lt-ltb, le-ltb, le-leb}
use Rattle.std.specs.List.{list_any}
use Rattle.std.specs.Cmp.{int_eq_equiv}
use Rattle.std.proofs.lemmas.List.{map-append}
use Rattle.std.proofs.lemmas.List.Sums.{fold_push}
use Rattle.std.proofs.lemmas.Bool.{lt-leb}
use Rattle.pesp_instance.specs.Activities.{add_ends, add_event, admit, events_of, place_of, row_of}
use Rattle.pesp_instance.specs.Tables.{AllPlaced, IsTable}
use Rattle.pesp_instance.specs.declared.activity.Activity.{Activity}
use Rattle.pesp_problem.specs.declared.row.Row.{Row}
use Rattle.pesp_instance.specs.declared.refusal.ReadRefusal.TheVariants.{TooManyEvents, TooManyRows}

-- the place of an event that is there stays
pub place-grows : (es ys : List ℤ) (x : ℤ) → place_of es x < length es → place_of (es ++ ys) x ≡ place_of es x
place-grows [] ys x h = absurd (omega arith)
place-grows (e ∷ es) ys x h = by (int_eq x e) refl (place-grows es ys x) h
  where
    by : (b : Bool) → int_eq x e ≡ b → (place_of es x < length es → place_of (es ++ ys) x ≡ place_of es x)
        → cond (not (int_eq x e)) (1 + place_of es x) 0 < length (e ∷ es)
        → cond (not (int_eq x e)) (1 + place_of (es ++ ys) x) 0 ≡ cond (not (int_eq x e)) (1 + place_of es x) 0
    by true w more h = rw w refl
    by false w more h = let g : 1 + place_of es x < length (e ∷ es) = rw w at h in rw (w, more (omega arith)) refl

-- an event goes last if it is not there
pub added-by : (es : List ℤ) (x : ℤ) → (ys : List ℤ) × (add_event es x ≡ es ++ ys)
added-by es x = by (list_any (int_eq x) es) refl
  where
    by : (b : Bool) → list_any (int_eq x) es ≡ b → (ys : List ℤ) × (add_event es x ≡ es ++ ys)
    by true w = ([], rw w (sym (append-nil es)))
    by false w = (x ∷ [], rw w refl)

-- where an event stands, if it stands anywhere
pub any-placed : (es : List ℤ) (x : ℤ) → list_any (int_eq x) es ≡ true → place_of es x < length es
any-placed [] x h = absurd (true≢false (sym h))
any-placed (e ∷ es) x h = by (int_eq x e) refl (any-placed es x) h
  where
    by : (b : Bool) → int_eq x e ≡ b → (list_any (int_eq x) es ≡ true → place_of es x < length es)
        → (int_eq x e) || (list_any (int_eq x) es) ≡ true
        → cond (not (int_eq x e)) (1 + place_of es x) 0 < length (e ∷ es)
    by true w more h = rw w (omega arith)
    by false w more h = let g : list_any (int_eq x) es ≡ true = rw w at h in let p = more g in rw w (omega arith)

-- an event that goes last stands at the end
pub last-placed : (es : List ℤ) (x : ℤ) → list_any (int_eq x) es ≡ false
    → (place_of (es ++ x ∷ []) x ≡ place_of es x) × (place_of es x ≡ length es)
last-placed [] x h = (rw (int_eq_equiv.refl x) refl, refl)
last-placed (e ∷ es) x h = by (int_eq x e) refl (last-placed es x) h
  where
    by : (b : Bool) → int_eq x e ≡ b → (list_any (int_eq x) es ≡ false
        → (place_of (es ++ x ∷ []) x ≡ place_of es x) × (place_of es x ≡ length es))
        → (int_eq x e) || (list_any (int_eq x) es) ≡ false
        → (cond (not (int_eq x e)) (1 + place_of (es ++ x ∷ []) x) 0
        ≡ cond (not (int_eq x e)) (1 + place_of es x) 0)
        × (cond (not (int_eq x e)) (1 + place_of es x) 0 ≡ length (e ∷ es))
    by true w more h = let g : true ≡ false = rw w at h in absurd (true≢false g)
    by false w more h = let g : list_any (int_eq x) es ≡ false = rw w at h in let p = more g in rw (w, p.0) (refl, rw one-add (ap suc p.1))

-- an added event has the place that it has before, and is there
pub added-place : (es : List ℤ) (x : ℤ) → (place_of (add_event es x) x ≡ place_of es x) × (place_of es x < length (add_event es x))
added-place es x = by (list_any (int_eq x) es) refl
  where
    by : (b : Bool) → list_any (int_eq x) es ≡ b → (place_of (add_event es x) x ≡ place_of es x) × (place_of es x < length (add_event es x))
    by true w = rw w (refl, any-placed es x w)
    by false w = let p = last-placed es x w in rw w (p.0, omega (arith, length-append es (x ∷ []), p.1))

-- more events leave the rows as they are
pub rows-stay : (es ys : List ℤ) (acts : List Activity) → AllPlaced es acts
    → AllPlaced (es ++ ys) acts × (map (row_of (es ++ ys)) acts ≡ map (row_of es) acts)
unfolding AllPlaced
rows-stay es ys [] h = (tt, refl)
rows-stay es ys (a ∷ acts) h =
    let t = place-grows es ys a.tail h.0 in
    let d = place-grows es ys a.head h.1 in
    let more = rows-stay es ys acts h.2 in
    let l = length-append es ys in
    ((rw t (omega (arith, l, h.0)), rw d (omega (arith, l, h.1)), more.0), rw (t, d, more.1) refl)

placed-last : (es : List ℤ) (acts : List Activity) (a : Activity) → AllPlaced es acts
    → place_of es a.tail < length es → place_of es a.head < length es → AllPlaced es (acts ++ a ∷ [])
unfolding AllPlaced
placed-last es [] a h t d = (t, d, tt)
placed-last es (b ∷ acts) a h t d = (h.0, h.1, placed-last es acts a h.2 t d)

pub events-last : (acts : List Activity) (a : Activity) → events_of (acts ++ a ∷ []) ≡ add_ends (events_of acts) a
events-last acts a = fold_push add_ends [] acts a

pub length-rows : {A B : Type 0} (f : A → B) (xs : List A) → length (map f xs) ≡ length xs
length-rows f [] = refl
length-rows f (x ∷ xs) = ap suc (length-rows f xs)

-- the table with one more activity
pub one-more : (rows : List Row) (es : List ℤ) (acts : List Activity) (a : Activity) → IsTable rows es acts
    → IsTable (rows ++ record {
      label = a.label;
      tail = place_of es a.tail;
      head = place_of (add_event es a.tail) a.head;
      lower = a.lower;
      upper = a.upper;
      weight = a.weight;
    } ∷ [])
    (add_ends es a) (acts ++ a ∷ [])
one-more rows es acts a t =
    let es1 : List ℤ = add_event es a.tail in
    let es2 : List ℤ = add_ends es a in
    let first = added-by es a.tail in
    let second = added-by es1 a.head in
    let ys : List ℤ = first.0 ++ second.0 in
    let grown : add_ends es a ≡ es ++ ys = second.1 ∙ ap (λ (l : List ℤ). l ++ second.0) first.1 ∙ append_assoc es first.0 second.0 in
    let stay = rows-stay es ys acts t.placed in
    let tail1 = added-place es a.tail in
    let head2 = added-place es1 a.head in
    let tail-there : place_of es1 a.tail < length es1 = rw tail1.0 tail1.1 in
    let tail2 : place_of es2 a.tail ≡ place_of es1 a.tail = rw second.1 (place-grows es1 second.0 a.tail tail-there) in
    let longer = ap length second.1 ∙ length-append es1 second.0 in
    let tail-in : place_of es2 a.tail < length es2 = rw tail2 (omega (arith, longer, tail-there)) in
    let head-in : place_of es2 a.head < length es2 = rw head2.0 head2.1 in
    let placed2 : AllPlaced es2 acts = rw grown stay.0 in
    let rows2 : map (row_of es2) acts ≡ rows = ap (λ (l : List ℤ). map (row_of l) acts) grown ∙ stay.1 ∙ sym t.as_rows in
    record {
      in_order = ap (λ (l : List ℤ). add_ends l a) t.in_order ∙ sym (events-last acts a);
      as_rows = sym (map-append (row_of es2) acts (a ∷ [])
          ∙ ap₂ (λ (x y : List Row). x ++ y) rows2 (ap₂
          (λ (m n : ℕ). record {
            label = a.label;
            tail = m;
            head = n;
            lower = a.lower;
            upper = a.upper;
            weight = a.weight;
          } ∷ []) (tail2 ∙ tail1.0) head2.0));
      placed = placed-last es2 acts a placed2 tail-in head-in;
    }

pub no-table : IsTable [] [] []
unfolding AllPlaced
no-table = record { in_order = refl; as_rows = refl; placed = tt }

pub length-table : (rows : List Row) (es : List ℤ) (acts : List Activity) → IsTable rows es acts → length rows ≡ length acts
length-table rows es acts t = ap length t.as_rows ∙ length-rows (row_of es) acts

pub admit-ok : (acts : List Activity) (at : ℕ) (a : Activity) → length acts < 100000
    → length (events_of (acts ++ a ∷ [])) ≤ 100000 → admit acts at a ≡ Ok (acts ++ a ∷ [])
admit-ok acts at a h k = rw (lt-ltb (length acts) 100000 h, le-leb (length (events_of (acts ++ a ∷ []))) 100000 k) refl

pub admit-crowded : (acts : List Activity) (at : ℕ) (a : Activity) → length acts < 100000
    → 100000 < length (events_of (acts ++ a ∷ [])) → admit acts at a ≡ Err (TooManyEvents at)
admit-crowded acts at a h k = rw (lt-ltb (length acts) 100000 h, lt-leb (length (events_of (acts ++ a ∷ []))) 100000 k) refl

pub admit-full : (acts : List Activity) (at : ℕ) (a : Activity) → 100000 ≤ length acts → admit acts at a ≡ Err (TooManyRows at)
admit-full acts at a h = rw (le-ltb (length acts) 100000 h) refl
