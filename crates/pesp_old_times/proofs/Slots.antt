-- What a map of events holds while entries are noted in it.
use Rattle.std.proofs.Common.{◌≡◌, ◌∙◌, refl, sym, ap, Bool, true, false, cond, ◌||◌, ℕ, ℤ, List, [], ◌∷◌, ◌++◌, Option, Some, None, map, ap₂}
use Rattle.std.specs.Prelude.{if◌then◌else◌, is_some}
use Rattle.std.specs.Ordering.{int_eq}
use Rattle.std.proofs.lemmas.Bool.Decides.{Decides-int_eq}
use Rattle.std.specs.Cmp.{int_eq_equiv}
use Rattle.pesp_old_times.specs.OldTimes.{has, last_of, or_else}
use Rattle.pesp_old_times.specs.Tables.{flat, slot}

or_else-assoc : (a b c : Option ℕ) → or_else a (or_else b c) ≡ or_else (or_else a b) c
or_else-assoc None b c = refl
or_else-assoc (Some t) b c = refl

or_else-none : (a : Option ℕ) → or_else a None ≡ a
or_else-none None = refl
or_else-none (Some t) = refl

abbrev own : ℤ × ℕ → ℤ → Option ℕ
own e label = if int_eq e.0 label then Some e.1 else None

-- what is told last once more is told
last-push : (es : List (ℤ × ℕ)) (e : ℤ × ℕ) (q : ℤ) → last_of (es ++ e ∷ []) q ≡ or_else (own e q) (last_of es q)
unfolding last_of
last-push [] e q = sym (or_else-none (own e q))
last-push (x ∷ es) e q =
    ap (λ (o : Option ℕ). or_else o (own x q)) (last-push es e q)
    ∙ sym (or_else-assoc (own e q) (last_of es q) (own x q))

-- a time of one of the events is put in its place
pub slot-known : (events : List ℤ) (es : List (ℤ × ℕ)) (label : ℤ) (time : ℕ) (q : ℤ) → has events label ≡ true
    → cond (int_eq label q) (Some (Some time)) (slot events es q) ≡ slot events (es ++ (label, time) ∷ []) q
slot-known events es label time q there = by (int_eq label q) refl
  where
    by : (b : Bool) → int_eq label q ≡ b
        → cond (int_eq label q) (Some (Some time)) (slot events es q) ≡ slot events (es ++ (label, time) ∷ []) q
    by true v =
        let same : label ≡ q = (Decides-int_eq label q).0 v in
        let known : has events q ≡ true = rw same at there in
        rw (last-push es (label, time) q, v, known) refl
    by false v = rw (last-push es (label, time) q, v) refl

-- a time of no event changes nothing
pub slot-stray : (events : List ℤ) (es : List (ℤ × ℕ)) (label : ℤ) (time : ℕ) (q : ℤ) → has events label ≡ false
    → slot events es q ≡ slot events (es ++ (label, time) ∷ []) q
slot-stray events es label time q away = by (int_eq label q) refl
  where
    by : (b : Bool) → int_eq label q ≡ b → slot events es q ≡ slot events (es ++ (label, time) ∷ []) q
    by true v =
        let same : label ≡ q = (Decides-int_eq label q).0 v in
        let unknown : has events q ≡ false = rw same at away in
        rw unknown refl
    by false v = rw (last-push es (label, time) q, v) refl

-- what a map of no times holds
abbrev pub bare : List ℤ → ℤ → Option (Option ℕ)
bare events q = if has events q then Some None else None

-- whether a label is one of the events', by what a map has of it
pub is-known : (events : List ℤ) (es : List (ℤ × ℕ)) (label : ℤ) → is_some (slot events es label) ≡ has events label
is-known events es label = by (has events label)
  where
    by : (b : Bool) → is_some (if b then Some (last_of es label) else None) ≡ b
    by true = refl
    by false = refl

-- a table has the time of each of its events that is told last
pub told-each : (events rest : List ℤ) (es : List (ℤ × ℕ)) (get : ℤ → Option (Option ℕ)) → ((q : ℤ) → get q ≡ slot events es q)
    → ((q : ℤ) → has rest q ≡ true → has events q ≡ true) → map (λ q. flat (get q)) rest ≡ map (last_of es) rest
told-each events [] es get holds sub = refl
told-each events (e ∷ rest) es get holds sub =
    let own : has (e ∷ rest) e ≡ true = rw (int_eq_equiv.refl e) refl in
    let there : has events e ≡ true = sub e own in
    let head : flat (get e) ≡ last_of es e = rw (holds e, there) refl in
    let tail = told-each events rest es get holds (λ q h. sub q (later e rest q h)) in
    ap₂ (λ (x : Option ℕ) (xs : List (Option ℕ)). x ∷ xs) head tail
  where
    later : (e : ℤ) (rest : List ℤ) (q : ℤ) → has rest q ≡ true → has (e ∷ rest) q ≡ true
    later e rest q h = by (int_eq e q)
      where
        by : (b : Bool) → b || has rest q ≡ true
        by true = refl
        by false = h
