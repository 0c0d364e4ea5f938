-- Putting one text behind another.
use Rattle.std.proofs.Common.{◌≡◌, Bool, true, false, ℕ, List, [], ◌∷◌, ◌++◌, ◌+◌, ◌<◌, ◌≤◌, length, take, get_or, refl, sym, ap, ◌∙◌, subst, arith, append_assoc, append-nil, add-one, zero, suc, Result, IsErr, Option}
use Rattle.std.proofs.KnownBytes.{Appends-nil}
use Rattle.std.specs.List.{flat_map}
use Rattle.std.proofs.lemmas.List.Concat.{flat_map-cons}
use Rattle.std.proofs.lemmas.List.{take_all}
use Rattle.pesp_stream.specs.Counts.{Calls, Failed}
use Rattle.pesp_stream.specs.Writing.{AppendsFront, Writes}
use Rattle.pesp_stream.specs.Printing.{Sending, Goes, Stops, Outcome, Sends}
use Rattle.pesp_stream.proofs.Fronts.{moves_then, moves_stops, front_before, writes_all, writes_err}

goes_then : (a b c : Sending) (s t : List ℕ) → b.most ≡ a.most → Goes a b s → Goes b c t → Goes a c (s ++ t)
goes_then a b c s t m p q = record {
  moves = moves_then a.told b.told c.told a.kept s t b.kept c.kept p.moves q.moves;
  failed = q.failed ∙ p.failed;
  interrupted = λ h. subst (λ n. c.calls.interrupted ≤ n) m
      (q.interrupted (subst (λ n. b.calls.interrupted ≤ n) (sym m) (p.interrupted h)));
}

-- no call failed before the one that did
failed_since : (a b c : Calls) (most : ℕ) → b.failed ≡ a.failed → Failed b most c → Failed a most c
failed_since a b c most e p = rw e at p

stops_then : (a b c : Sending) (s t : List ℕ) → b.most ≡ a.most → Goes a b s → Stops b c t → Stops a c (s ++ t)
stops_then a b c s t m p q = record {
  front = moves_stops a.told b.told c.told a.kept s t b.kept p.moves q.front;
  fault = failed_since a.calls b.calls c.calls a.most p.failed (subst (λ n. Failed b.calls n c.calls) m q.fault);
}

stopped_then : (a b : Sending) (s t : List ℕ) → Stops a b s → Stops a b (s ++ t)
stopped_then a b s t p = record {
  front = rw (← append_assoc a.kept s t) (front_before a.told b.told (a.kept ++ s) t p.front);
  fault = p.fault;
}

-- behind a fault nothing changes
stays : (y z : Bool) (b c : Sending) (t : List ℕ) → y ≡ true → Outcome y z b c t → (z ≡ true) × (c ≡ b)
stays true z b c t e q = q
stays false z b c t e q = absurd cc

stopped_stays : (z : Bool) (a b c : Sending) (s t : List ℕ) → z ≡ true → c ≡ b → Stops a b s → Outcome false z a c (s ++ t)
stopped_stays true a b c s t e i p = subst (λ x. Stops a x (s ++ t)) (sym i) (stopped_then a b s t p)
stopped_stays false a b c s t e i p = absurd cc

outcome_then : (x y z : Bool) (a b c : Sending) (s t : List ℕ) → b.most ≡ a.most → Outcome x y a b s
    → Outcome y z b c t → Outcome x z a c (s ++ t)
outcome_then true y z a b c s t m p q = let r = stays y z b c t p.0 q in (r.0, r.1 ∙ p.1)
outcome_then false true z a b c s t m p q = stopped_stays z a b c s t q.0 q.1 p
outcome_then false false true a b c s t m p q = stops_then a b c s t m p q
outcome_then false false false a b c s t m p q = goes_then a b c s t m p q

-- one text, and then another
pub sends_then : {a b c : Sending} {s t : List ℕ} → Sends a b s → Sends b c t → Sends a c (s ++ t)
sends_then {a} {b} {c} {s} {t} p q = record {
  outcome = outcome_then a.stopped b.stopped c.stopped a b c s t p.most p.outcome q.outcome;
  most = q.most ∙ p.most;
  writer = q.writer ∙ p.writer;
}

-- no text
pub sends_nothing : (a : Sending) → Sends a a []
sends_nothing a = record { outcome = nothing a.stopped a; most = refl; writer = refl }
  where
    nothing : (x : Bool) (b : Sending) → Outcome x x b b []
    nothing true b = (refl, refl)
    nothing false b = record {
      moves = record { out = []; whole = append-nil b.kept; appended = Appends-nil b.told };
      failed = refl;
      interrupted = λ h. h;
    }

-- the same text, spelled in another way
pub sends_as : {a b : Sending} {s : List ℕ} (t : List ℕ) → s ≡ t → Sends a b s → Sends a b t
sends_as t e p = rw (← e) p

flat_map_suc : {X : Type 0} (f : X → List ℕ) (xs : List X) (i : ℕ) (d : X) → i < length xs
    → flat_map f (take i xs) ++ f (get_or xs i d) ≡ flat_map f (take (suc i) xs)
flat_map_suc f [] i d lt = absurd (omega arith)
flat_map_suc f (x ∷ xs) zero d lt = sym (flat_map-cons f x [] ∙ append-nil (f x))
flat_map_suc f (x ∷ xs) (suc i) d lt = rw (append_assoc, flat_map_suc f xs i d (omega arith)) refl

flat_map_take : {X : Type 0} (f : X → List ℕ) (xs : List X) (i : ℕ) (d : X) → i < length xs
    → flat_map f (take i xs) ++ f (get_or xs i d) ≡ flat_map f (take (i + 1) xs)
flat_map_take f xs i d lt = flat_map_suc f xs i d lt ∙ ap (λ k. flat_map f (take k xs)) (sym (add-one i))

-- the next item behind the items before it
pub sends_next : {X : Type 0} {a b c : Sending} (f : X → List ℕ) (xs : List X) (i : ℕ) (x : X) → i < length xs
    → x ≡ get_or xs i x → Sends a b (flat_map f (take i xs)) → Sends b c (f x)
    → Sends a c (flat_map f (take (i + 1) xs))
sends_next f xs i x lt is p q = sends_as _ (ap (λ y. flat_map f (take i xs) ++ f y) is ∙ flat_map_take f xs i x lt) (sends_then p q)

-- the next item behind the items before it, where a loop names the item by its place
pub sends_more : {X : Type 0} {a b c : Sending} (f : X → List ℕ) (xs : List X) (i : ℕ) (d : X) → i < length xs
    → Sends a b (flat_map f (take i xs)) → Sends b c (f (get_or xs i d)) → Sends a c (flat_map f (take (i + 1) xs))
sends_more f xs i d lt p q = sends_as _ (flat_map_take f xs i d lt) (sends_then p q)

-- all items, once none is left
pub sends_all : {X : Type 0} {a b : Sending} (f : X → List ℕ) (xs : List X) (i : ℕ) → length xs ≤ i
    → Sends a b (flat_map f (take i xs)) → Sends a b (flat_map f xs)
sends_all f xs i le p = sends_as _ (ap (flat_map f) (take_all i xs le)) p

-- a whole text was put, and then what was kept back was written
pub writes_whole : {A E : Type 0} (a b : Sending) (new : Option (List ℕ)) (text : List ℕ) (r : Result A E)
    → a.stopped ≡ false → a.kept ≡ [] → Sends a b text
    → (b.stopped ≡ true → new ≡ b.told) → (b.stopped ≡ true → IsErr r)
    → (b.stopped ≡ false → Writes b.told new b.kept r) → Writes a.told new text r
writes_whole {A} {E} a b new text r going none p = whole a.stopped b.stopped going p.outcome
  where
    whole : (x y : Bool) → x ≡ false → Outcome x y a b text → (y ≡ true → new ≡ b.told) → (y ≡ true → IsErr r)
        → (y ≡ false → Writes b.told new b.kept r) → Writes a.told new text r
    whole true y e q same err ends = absurd cc
    whole false true e q same err ends = let front : AppendsFront a.told new text =
        rw (same refl) (rw none at q.front) in writes_err a.told new text r (err refl) front
    whole false false e q same err ends = let moves = rw none at q.moves in writes_all a.told b.told new text b.kept r moves (ends refl)
