-- A text that goes out in pieces.
use Rattle.std.proofs.Common.{◌≡◌, ℕ, List, [], ◌++◌, ap, sym, subst, append-nil, IsErr, ◌∙◌, append_assoc, Result, Ok, Err, OnErr}
use Rattle.std.specs.Prelude.{Option}
use Rattle.std.specs.Io.KnownBytes.{Appends}
use Rattle.std.proofs.KnownBytes.{Appends-trans}
use Rattle.pesp_stream.specs.Writing.{AppendsFront, Writes, Moves}

-- a piece went out, and then the next one as far as its front
pub front_after : (a b c : Option (List ℕ)) (piece text : List ℕ) → Appends a b piece → AppendsFront b c text
    → AppendsFront a c (piece ++ text)
front_after a b c piece text p f = record {
  front = piece ++ f.front;
  rest = f.rest;
  whole = ap (λ l. piece ++ l) f.whole ∙ sym (append_assoc piece f.front f.rest);
  appended = Appends-trans a b c piece f.front p f.appended;
}

-- a front of a piece is a front of what begins with the piece
pub front_before : (a b : Option (List ℕ)) (piece more : List ℕ) → AppendsFront a b piece → AppendsFront a b (piece ++ more)
front_before a b piece more f = record {
  front = f.front;
  rest = f.rest ++ more;
  whole = ap (λ l. l ++ more) f.whole ∙ append_assoc f.front f.rest more;
  appended = f.appended;
}

pub on_err : {A E : Type 0} (P : Type 0) (r : Result A E) → P → OnErr r P
on_err P (Ok x) p = tt
on_err P (Err e) p = p

-- what was kept back went out, and then a piece, and nothing is kept back now
pub moves_all : (a b c : Option (List ℕ)) (kept piece keeps : List ℕ) → Appends a b kept → Appends b c piece
    → keeps ≡ [] → Moves a c kept piece keeps
moves_all a b c kept piece keeps p q e = record {
  out = kept ++ piece;
  whole = sym (append-nil (kept ++ piece)) ∙ ap (λ l. (kept ++ piece) ++ l) (sym e);
  appended = Appends-trans a b c kept piece p q;
}

-- one piece after another
pub moves_then : (a b c : Option (List ℕ)) (kept piece more keeps keeps' : List ℕ) → Moves a b kept piece keeps
    → Moves b c keeps more keeps' → Moves a c kept (piece ++ more) keeps'
moves_then a b c kept piece more keeps keeps' p q = record {
  out = p.out ++ q.out;
  whole = sym (append_assoc kept piece more) ∙ ap (λ l. l ++ more) p.whole ∙ append_assoc p.out keeps more
      ∙ ap (λ l. p.out ++ l) q.whole ∙ sym (append_assoc p.out q.out keeps');
  appended = Appends-trans a b c p.out q.out p.appended q.appended;
}

-- a piece was kept back or went out, and of the next one a front went out
pub moves_stops : (a b c : Option (List ℕ)) (kept piece more keeps : List ℕ) → Moves a b kept piece keeps
    → AppendsFront b c (keeps ++ more) → AppendsFront a c (kept ++ (piece ++ more))
moves_stops a b c kept piece more keeps p f = record {
  front = p.out ++ f.front;
  rest = f.rest;
  whole = sym (append_assoc kept piece more) ∙ ap (λ l. l ++ more) p.whole ∙ append_assoc p.out keeps more
      ∙ ap (λ l. p.out ++ l) f.whole ∙ sym (append_assoc p.out f.front f.rest);
  appended = Appends-trans a b c p.out f.front p.appended f.appended;
}

-- what was kept back went out too
pub writes_all : {A E : Type 0} (old now new : Option (List ℕ)) (text kept : List ℕ) (r : Result A E)
    → Moves old now [] text kept → Writes now new kept r → Writes old new text r
writes_all old now new text kept (Ok x) m w = subst (Appends old new) (sym m.whole) (Appends-trans old now new m.out kept m.appended w)
writes_all old now new text kept (Err e) m w = subst (AppendsFront old new) (sym m.whole) (front_after old now new m.out kept m.appended w)

pub writes_err : {A E : Type 0} (old new : Option (List ℕ)) (text : List ℕ) (r : Result A E) → IsErr r
    → AppendsFront old new text → Writes old new text r
writes_err old new text (Ok x) e f = absurd cc
writes_err old new text (Err x) e f = f
