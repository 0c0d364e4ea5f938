-- What was read, in the words of the records.
use Rattle.std.proofs.Common.{◌≡◌, ◌∙◌, refl, ap, subst, Bool, true, false, ℕ, ℤ, ap₂, map, List, [], ◌∷◌, ◌++◌, length, arith, append_assoc, append-nil, length-append, Result, Ok, Err, nat_lt, nat_le, ltb-true, leb-true}
use Rattle.std.specs.List.{AllZip}
use Rattle.pesp_instance.specs.Reading.{AreActivities, IsActivityOf, IsFirstRefusal}
use Rattle.pesp_instance.specs.Activities.{activities_after, activity_of, admit, and_then, events_of, row_of}
use Rattle.pesp_instance.specs.Tables.{IsTable}
use Rattle.pesp_problem.specs.Timetables.{Pesp}
use Rattle.pesp_instance.specs.Instance.{pesp_of}
use Rattle.pesp_problem.specs.declared.row.Row.{Row}
use Rattle.pesp_instance.specs.declared.activity.Activity.{Activity}
use Rattle.pesp_instance.specs.declared.refusal.ReadRefusal.{ReadRefusal}
use Rattle.pesp_instance.specs.declared.refusal.ReadRefusal.TheVariants.{TooManyRows, TooManyEvents}
use Rattle.pesp_instance.proofs.Limits.{activity-spelled, both-ok}

abbrev IsRecordOf : ℕ × List (List ℕ) → Activity → Type 0
IsRecordOf r a = IsActivityOf r.1 a

-- records after others, which have their activities too
zip-last : (front : List (ℕ × List (List ℕ))) (before : List Activity) (r : ℕ × List (List ℕ)) (a : Activity)
    → AllZip IsRecordOf front before → IsRecordOf r a → AllZip IsRecordOf (front ++ r ∷ []) (before ++ a ∷ [])
zip-last [] [] r a z h = (h, tt)
zip-last [] (b ∷ bs) r a z h = absurd z
zip-last (f ∷ fs) [] r a z h = absurd z
zip-last (f ∷ fs) (b ∷ bs) r a z h = (z.0, zip-last fs bs r a z.1 h)

admitted : (front : List (ℕ × List (List ℕ))) (before : List Activity) (r : ℕ × List (List ℕ)) (a : Activity)
    (next : List Activity) → AreActivities front before → IsRecordOf r a → admit before r.0 a ≡ Ok next
    → AreActivities (front ++ r ∷ []) next
admitted front before r a next g h e = by (nat_lt (length before) 100000)
    (nat_le (length (events_of (before ++ a ∷ []))) 100000) refl refl e
  where
    by : (x y : Bool) → nat_lt (length before) 100000 ≡ x
        → nat_le (length (events_of (before ++ a ∷ []))) 100000 ≡ y → admit before r.0 a ≡ Ok next
        → AreActivities (front ++ r ∷ []) next
    by true true v w k =
        let q : ◌≡◌ {A = Result (List Activity) ReadRefusal} (Ok (before ++ a ∷ [])) (Ok next) = rw (v, w) at k in
        let s : before ++ a ∷ [] ≡ next = cc in
        let l = ltb-true (length before) 100000 v in
        subst (AreActivities (front ++ r ∷ [])) s
        (record {
          each = zip-last front before r a g.each h;
          rows = omega (arith, length-append before (a ∷ []));
          events = leb-true (length (events_of (before ++ a ∷ []))) 100000 w;
        })
    by true false v w k = let q : ◌≡◌ {A = Result (List Activity) ReadRefusal} (Err (TooManyEvents r.0)) (Ok next) = rw (v, w) at k in cc
    by false y v w k = let q : ◌≡◌ {A = Result (List Activity) ReadRefusal} (Err (TooManyRows r.0)) (Ok next) = rw v at k in cc

read-after : (front : List (ℕ × List (List ℕ))) (before : List Activity) (rs : List (ℕ × List (List ℕ)))
    (acts : List Activity) → AreActivities front before → activities_after before rs ≡ Ok acts
    → AreActivities (front ++ rs) acts
unfolding activities_after
read-after front before [] acts g e = let s : before ≡ acts = cc in rw append-nil (subst (AreActivities front) s g)
read-after front before (r ∷ rs) acts g e =
    let b = both-ok (activity_of r.0 r.1) (λ a. and_then (admit before r.0 a) (λ next. activities_after next rs)) acts e in
    let d = both-ok (admit before r.0 b.0) (λ next. activities_after next rs) acts b.2 in
    let more = read-after (front ++ r ∷ []) d.0 rs acts (admitted front before r b.0 d.0 g (activity-spelled r.0 r.1 b.0 b.1) d.1) d.2 in
    rw append_assoc at more

fault-after : (front : List (ℕ × List (List ℕ))) (before : List Activity) (rs : List (ℕ × List (List ℕ)))
    (e : ReadRefusal) → AreActivities front before → activities_after before rs ≡ Err e
    → IsFirstRefusal (front ++ rs) e
unfolding activities_after
fault-after front before [] e g h = cc h
fault-after front before (r ∷ rs) e g h = by (activity_of r.0 r.1) refl h (λ next. fault-after (front ++ r ∷ []) next rs e)
  where
    here : and_then (activity_of r.0 r.1) (admit before r.0) ≡ Err e → IsFirstRefusal (front ++ r ∷ rs) e
    here k = record { front = front; activities = before; at = r.0; fields = r.1; back = rs; whole = refl; good = g; fault = k }

    past : (a : Activity) (x : Result (List Activity) ReadRefusal) → activity_of r.0 r.1 ≡ Ok a
        → admit before r.0 a ≡ x → and_then (admit before r.0 a) (λ next. activities_after next rs) ≡ Err e
        → ((next : List Activity) → AreActivities (front ++ r ∷ []) next → activities_after next rs ≡ Err e
        → IsFirstRefusal ((front ++ r ∷ []) ++ rs) e) → IsFirstRefusal (front ++ r ∷ rs) e
    past a (Err f) v w k more = let q : ◌≡◌ {A = Result (List Activity) ReadRefusal} (Err f) (Err e) = rw w at k in here (rw v (w ∙ q))
    past a (Ok next) v w k more = let q : activities_after next rs ≡ Err e = rw w at k in
        rw append_assoc at (more next (admitted front before r a next g (activity-spelled r.0 r.1 a v) w) q)

    by : (x : Result Activity ReadRefusal) → activity_of r.0 r.1 ≡ x
        → and_then (activity_of r.0 r.1) (λ a. and_then (admit before r.0 a) (λ next. activities_after next rs))
        ≡ Err e
        → ((next : List Activity) → AreActivities (front ++ r ∷ []) next → activities_after next rs ≡ Err e
        → IsFirstRefusal ((front ++ r ∷ []) ++ rs) e) → IsFirstRefusal (front ++ r ∷ rs) e
    by (Err f) v k more = let q : ◌≡◌ {A = Result (List Activity) ReadRefusal} (Err f) (Err e) = rw v at k in
        let q2 : f ≡ e = cc in here (rw (v, q2) refl)
    by (Ok a) v k more = let q : and_then (admit before r.0 a) (λ next. activities_after next rs)
        ≡ Err e = rw v at k in past a (admit before r.0 a) v refl q more

none : AreActivities [] []
none = record { each = tt; rows = omega arith; events = omega arith }

pub read-law : (rs : List (ℕ × List (List ℕ))) (acts : List Activity) → activities_after [] rs ≡ Ok acts → AreActivities rs acts
read-law rs acts e = read-after [] [] rs acts none e

pub fault-law : (rs : List (ℕ × List (List ℕ))) (e : ReadRefusal) → activities_after [] rs ≡ Err e → IsFirstRefusal rs e
fault-law rs e h = fault-after [] [] rs e none h

pub pesp-is : (period : ℕ) (rows : List Row) (events : List ℤ) (acts : List Activity) → IsTable rows events acts
    → ◌≡◌ {A = Pesp} (record { period = period; events = events; rows = rows }) (pesp_of period acts)
pesp-is period rows events acts t =
    let e : rows ≡ map (row_of (events_of acts)) acts = t.as_rows ∙ ap (λ (l : List ℤ). map (row_of l) acts) t.in_order in
    ap₂ (λ (a : List Row) (b : List ℤ). record { period = period; events = b; rows = a }) e t.in_order
