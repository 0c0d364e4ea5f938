-- The items of a text, line by line, while more of it is still to be read.
use Rattle.std.proofs.Common.{◌≡◌, cond, ℕ, ◌+◌, ◌<◌, ◌≤◌, Bool, true, false, List, [], ◌∷◌, ◌++◌, length, refl, sym, ap, subst, ◌∙◌, arith, append_assoc, append-nil, length-append, Option, None, Ok, Err}
use Rattle.std.specs.Prelude.{◌==◌}
use Rattle.std.specs.List.{onto_first}
use Rattle.std.proofs.KnownBytes.{Consumes-trans}
use Rattle.std.proofs.lemmas.Bool.Decides.{nat_tests}
use Rattle.std.proofs.lemmas.List.Elements.{All-head, All-tail}
use Rattle.std.proofs.lemmas.List.Splits.{slice_split_at, slice_split_none, slice_split-cons_no}
use Rattle.pesp_stream.specs.Words.{is_byte, pieces}
use Rattle.pesp_cert_lines.specs.declared.fault.LineFault.{LineFault}
use Rattle.pesp_cert_lines.specs.declared.item.Item.{Item}
use Rattle.pesp_cert_lines.specs.declared.item.Item.TheVariants.{End}
use Rattle.pesp_cert_lines.specs.declared.progress.Progress.{Progress}
use Rattle.pesp_cert_lines.specs.Counts.{progress_after}
use Rattle.pesp_cert_lines.specs.Lines.{line_at, LONGEST}
use Rattle.pesp_cert.specs.declared.refusal.CertRefusal.TheVariants as refusals
use Rattle.pesp_cert.specs.Texts.{is_end}
use Rattle.pesp_cert.specs.Refusals.{refusal_at, is_nothing, onto}
use Rattle.pesp_cert.proofs.TextSteps.{nonempty, nothing_more, at_long, at_last, at_fault, at_end, at_item}
use Rattle.pesp_cert_items.specs.declared.lines.Next.TheVariants as nexts
use Rattle.pesp_cert_items.specs.declared.stage.Stage.{Stage}
use Rattle.pesp_cert_items.specs.declared.stage.Stage.TheVariants as stages
use Rattle.pesp_cert_items.specs.Cuts.{Clean, Reads, Advances, EndsHere}
use Rattle.pesp_cert_items.specs.Readings.{Reading, items_at, items_behind, is_going, ReadsOn, Lines, TextEnds, RefusesReading}

-- ---- pieces

-- bytes without LF go before the first piece
pub pieces_before : (front xs q : List ℕ) (qs : List (List ℕ)) → Clean front → pieces 10 xs ≡ q ∷ qs
    → pieces 10 (front ++ xs) ≡ (front ++ q) ∷ qs
pieces_before [] xs q qs clean h = h
pieces_before (c ∷ cs) xs q qs clean h =
    slice_split-cons_no (is_byte 10) c (cs ++ xs) (All-head (λ b. is_byte 10 b ≡ false) c cs clean)
    ∙ ap (onto_first c) (pieces_before cs xs q qs (All-tail (λ b. is_byte 10 b ≡ false) c cs clean) h)

-- a line and its LF
pub pieces_line : (line rest : List ℕ) → Clean line → pieces 10 (line ++ 10 ∷ rest) ≡ line ∷ pieces 10 rest
pieces_line line rest clean = slice_split_at (is_byte 10) line 10 rest clean refl

pub regroup : (held got more line held' : List ℕ) → held ++ got ≡ line ++ 10 ∷ held' → held ++ (got ++ more) ≡ line ++ 10 ∷ (held' ++ more)
regroup held got more line held' all = sym (append_assoc held got more) ∙ ap (λ l. l ++ more) all ∙ append_assoc line (10 ∷ held') more

-- ---- one line

line_says : (stage : Stage) (n : ℕ) (p : Progress) (text line : List ℕ) (ps : List (List ℕ))
    → pieces 10 text ≡ line ∷ ps → items_at (record {
      told = None;
      left = 0;
      held = [];
      n = n;
      progress = p;
      stage = stage;
    }) text ≡ items_behind stage (n + 1) p line ps
line_says stages.Going n p text line ps cut = rw cut refl
line_says stages.Ended n p text line ps cut = refl
line_says (stages.Failed f) n p text line ps cut = refl

pub line_read : (told told' : Option (List ℕ)) (left left' : ℕ) (held held' line' : List ℕ) (n : ℕ) (p : Progress)
    (stage : Stage) → Advances told told' left left' held held' line' nexts.Line
    → Lines (record { told = told; left = left; held = held; n = n; progress = p; stage = stage })
    (record { told = told'; left = left'; held = held'; n = n + 1; progress = p; stage = stage }) line'
line_read told told' left left' held held' line' n p stage a = record {
  got = a.got;
  reads = a.reads;
  later = omega arith;
  short = a.reaches.2;
  says = λ more. line_says stage n p (held ++ (a.got ++ more)) line' (pieces 10 (held' ++ more))
      (ap (pieces 10) (regroup held a.got more line' held' a.reaches.1)
      ∙ pieces_line line' (held' ++ more) a.reaches.0);
}

pub line_counted : (told told' : Option (List ℕ)) (left left' : ℕ) (held held' line' : List ℕ) (n : ℕ)
    → Advances told told' left left' held held' line' nexts.Line → n + (left + length held) ≤ 1073741824
    → (n + 1) + (left' + length held') ≤ 1073741824
line_counted told told' left left' held held' line' n a le =
    let lengths = ap length a.reaches.1 in
    omega (arith, a.reads.within, lengths, length-append held a.got, length-append line' (10 ∷ held'), le)

-- ---- a line that is too long, or has no LF

long_says : (stage : Stage) (n : ℕ) (p : Progress) (text line : List ℕ) (ps : List (List ℕ)) → is_going stage ≡ true
    → pieces 10 text ≡ line ∷ ps → LONGEST < length line
    → items_at (record { told = None; left = 0; held = []; n = n; progress = p; stage = stage }) text ≡ Err (refusals.Limit (n + 1))
long_says stages.Going n p text line ps o cut long = rw cut (at_long (n + 1) p line ps long)
long_says stages.Ended n p text line ps o cut long = absurd cc
long_says (stages.Failed f) n p text line ps o cut long = absurd cc

pub long_refused : (told told' : Option (List ℕ)) (left left' : ℕ) (held held' line' : List ℕ) (n : ℕ)
    (p : Progress) (stage stage' : Stage) → is_going stage ≡ true
    → Advances told told' left left' held held' line' nexts.Long
    → RefusesReading (record { told = told; left = left; held = held; n = n; progress = p; stage = stage })
    (record { told = told'; left = left'; held = held'; n = n; progress = p; stage = stage' })
    (refusals.Limit (n + 1))
long_refused told told' left left' held held' line' n p stage stage' o a =
    let front = a.reaches.0 in
    let rest = a.reaches.1 in
    record {
      got = a.got;
      reads = a.reads;
      says = λ more over.
          let next = nonempty (rest ++ more) in
          let text = sym (append_assoc held a.got more) ∙ ap (λ l. l ++ more) a.reaches.3 ∙ append_assoc front rest more in
          let cut = ap (pieces 10) text ∙ pieces_before front (rest ++ more) next.0 next.1 a.reaches.2 next.2 in
          long_says stage n p (held ++ (a.got ++ more)) (front ++ next.0) next.1 o cut
          (omega (arith, length-append front next.0, a.reaches.4));
    }

cut_says : (stage : Stage) (n : ℕ) (p : Progress) (text line : List ℕ) → is_going stage ≡ true
    → pieces 10 text ≡ line ∷ [] → length line ≤ LONGEST
    → items_at (record { told = None; left = 0; held = []; n = n; progress = p; stage = stage }) text ≡ Err refusals.Truncated
cut_says stages.Going n p text line o cut short = rw cut (at_last (n + 1) p line short)
cut_says stages.Ended n p text line o cut short = absurd cc
cut_says (stages.Failed f) n p text line o cut short = absurd cc

pub cut_refused : (told told' : Option (List ℕ)) (left left' : ℕ) (held held' line' : List ℕ) (n : ℕ)
    (p : Progress) (stage stage' : Stage) → is_going stage ≡ true
    → Advances told told' left left' held held' line' nexts.End
    → RefusesReading (record { told = told; left = left; held = held; n = n; progress = p; stage = stage })
    (record { told = told'; left = left'; held = held'; n = n; progress = p; stage = stage' })
    refusals.Truncated
cut_refused told told' left left' held held' line' n p stage stage' o a =
    record {
      got = a.got;
      reads = a.reads;
      says = λ more over.
          let text = ap (λ l. held ++ (a.got ++ l)) (over a.reaches.4) ∙ ap (λ l. held ++ l) (append-nil a.got) ∙ a.reaches.1 in
          let cut = ap (pieces 10) text ∙ slice_split_none (is_byte 10) line' a.reaches.0 in
          cut_says stage n p (held ++ (a.got ++ more)) line' o cut a.reaches.3;
    }

-- ---- a line that was read

pub reads_then : (a b c : Option (List ℕ)) (l m n : ℕ) (got more : List ℕ) → Reads a b l m got → Reads b c m n more
    → Reads a c l n (got ++ more)
reads_then a b c l m n got more p q = record {
  consumed = Consumes-trans a b c got more p.consumed q.consumed;
  within = omega (arith, length-append got more, p.within, q.within);
}

pub fault_read : (old : Reading) (told' : Option (List ℕ)) (left' : ℕ) (held' line : List ℕ) (n : ℕ)
    (p p' : Progress) (f : LineFault) (stage : Stage)
    → Lines old (record { told = told'; left = left'; held = held'; n = n; progress = p; stage = stages.Going })
    line → line_at p line ≡ Err f
    → RefusesReading old (record { told = told'; left = left'; held = held'; n = n; progress = p'; stage = stage }) (refusal_at n f)
fault_read old told' left' held' line n p p' f stage l h = record {
  got = l.got;
  reads = l.reads;
  says = λ more over.
      let next = nonempty (held' ++ more) in
      l.says more ∙ rw next.2 (at_fault n p line next.0 next.1 f l.short h);
}

pub item_read : (old : Reading) (told' : Option (List ℕ)) (left' : ℕ) (held' line : List ℕ) (n : ℕ) (p q : Progress) (item : Item)
    → Lines old (record { told = told'; left = left'; held = held'; n = n; progress = p; stage = stages.Going })
    line → line_at p line ≡ Ok item → is_end item ≡ false → q ≡ progress_after p item
    → ReadsOn old (record { told = told'; left = left'; held = held'; n = n; progress = q; stage = stages.Going }) (onto item)
item_read old told' left' held' line n p q item l h e goes = record {
  got = l.got;
  reads = l.reads;
  later = l.later;
  says = λ more.
      let next = nonempty (held' ++ more) in
      l.says more ∙ rw (goes, next.2) (at_item n p line next.0 next.1 item l.short h e);
}

-- ---- the last line

pub ends_there : (old : Reading) (told' told'' : Option (List ℕ)) (left' left'' : ℕ) (held' held'' line : List ℕ) (n : ℕ) (p : Progress)
    → Lines old (record { told = told'; left = left'; held = held'; n = n; progress = p; stage = stages.Going })
    line → line_at p line ≡ Ok End → EndsHere told' told'' left' left'' held' true
    → TextEnds old (record { told = told''; left = left''; held = held''; n = n; progress = p; stage = stages.Ended })
ends_there old told' told'' left' left'' held' held'' line n p l h e = record {
  got = l.got ++ e.got;
  reads = reads_then _ _ _ _ _ _ l.got e.got l.reads e.reads;
  over = e.there.1;
  says = l.says e.got ∙ rw e.there.0 (at_end n p line [] [] End l.short h refl);
}

pub trails : (old : Reading) (told' told'' : Option (List ℕ)) (left' left'' : ℕ) (held' held'' line : List ℕ)
    (n : ℕ) (p : Progress) (stage : Stage)
    → Lines old (record { told = told'; left = left'; held = held'; n = n; progress = p; stage = stages.Going })
    line → line_at p line ≡ Ok End → EndsHere told' told'' left' left'' held' false
    → RefusesReading old (record { told = told''; left = left''; held = held''; n = n; progress = p; stage = stage }) (refusals.Trailing (n + 1))
trails old told' told'' left' left'' held' held'' line n p stage l h e = record {
  got = l.got ++ e.got;
  reads = reads_then _ _ _ _ _ _ l.got e.got l.reads e.reads;
  says = λ more over.
      let rest = held' ++ (e.got ++ more) in
      let next = nonempty rest in
      let some : (length rest == 0) ≡ false = grind (
        arith,
        nat_tests,
        ap length (sym (append_assoc held' e.got more)),
        length-append (held' ++ e.got) more,
        e.there,
      ) in
      let test : is_nothing (next.0 ∷ next.1) ≡ false = ap is_nothing (sym next.2) ∙ nothing_more rest ∙ some in
      ap (λ t. items_at old (old.held ++ t)) (append_assoc l.got e.got more) ∙ l.says (e.got ++ more)
      ∙ rw next.2 (at_end n p line next.0 next.1 End l.short h refl
      ∙ ap (λ (b : Bool). cond b (Ok (End ∷ [])) (Err (refusals.Trailing (n + 1)))) test);
}

-- ---- the stage

pub of_going : (old : Reading) (told' : Option (List ℕ)) (left' : ℕ) (held' line : List ℕ) (n : ℕ) (p : Progress)
    (stage : Stage) → stage ≡ stages.Going
    → Lines old (record { told = told'; left = left'; held = held'; n = n; progress = p; stage = stage }) line
    → Lines old (record {
      told = told';
      left = left';
      held = held';
      n = n;
      progress = p;
      stage = stages.Going;
    }) line
of_going old told' left' held' line n p stage is l =
    subst (λ s. Lines old (record { told = told'; left = left'; held = held'; n = n; progress = p; stage = s })
    line) is l
