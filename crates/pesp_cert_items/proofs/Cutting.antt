-- Cutting a text at its next LF.
use Rattle.std.proofs.Common.{◌≡◌, ◌⊎◌, inl, inr, ℕ, zero, suc, ◌+◌, ◌-◌, ◌<◌, ◌≤◌, false, List, [], ◌∷◌, ◌++◌, length, take, drop, slice_range, refl, sym, ap, subst, ◌∙◌, arith, append_assoc, append-nil, length-append, length-take, drop-drop, Option, Some}
use Rattle.std.specs.Io.KnownBytes.{Consumes, IsAtEnd}
use Rattle.std.proofs.lemmas.List.{drop-take, nil_from_length}
use Rattle.pesp_cert_items.specs.Fronts.{CutsAt}
use Rattle.pesp_cert_items.specs.declared.chunk.Front.TheVariants as fronts
use Rattle.pesp_cert_items.specs.declared.lines.Next.TheVariants as nexts
use Rattle.std.proofs.KnownBytes.{Consumes-nil, Consumes-trans}
use Rattle.std.proofs.lemmas.List.Elements.{All-append, All-nil}
use Rattle.pesp_stream.specs.Words.{is_byte}
use Rattle.pesp_cert_lines.specs.Lines.{LONGEST}
use Rattle.pesp_cert_items.specs.Cuts.{Clean, Reads, Advances, MovesChunk}

-- the bytes so far that were read are what the reader lost, and with those that were held they are the line so far and what is held
pub record IsCutTo (told told' : Option (List ℕ)) (left left' : ℕ) (held held' line' : List ℕ) : Type 0 where
  pub got : List ℕ
  pub reads : Reads told told' left left' got
  pub clean : Clean line'
  pub all : held ++ got ≡ line' ++ held'
  pub short : length line' ≤ LONGEST

pub cut_start : (told : Option (List ℕ)) (left : ℕ) (held line' : List ℕ) → line' ≡ [] → IsCutTo told told left left held held line'
cut_start told left held line' none = record {
  got = [];
  reads = record { consumed = Consumes-nil told; within = omega arith };
  clean = subst Clean (sym none) (All-nil (λ b. is_byte 10 b ≡ false));
  all = append-nil held ∙ ap (λ l. l ++ held) (sym none);
  short = rw none (omega arith);
}

pub range_behind : (xs : List ℕ) (a e m : ℕ) → m ≤ e - a → slice_range xs (a + m) e ≡ drop m (slice_range xs a e)
range_behind xs a e m le =
    let whole : m + (e - (a + m)) ≡ e - a = omega arith in
    ap (take (e - (a + m))) (sym (drop-drop m a xs)) ∙ sym (drop-take m (e - (a + m)) (drop a xs))
    ∙ ap (λ k. drop m (take k (drop a xs))) whole

-- up to an LF in what is held
pub line_moved : (bytes : List ℕ) (start end at : ℕ) (self line line' : List ℕ)
    → slice_range bytes start end ≡ self → CutsAt (Some at) (slice_range bytes start end)
    → line' ≡ line ++ take at (slice_range bytes start end) → at ≤ LONGEST - length line → length line ≤ LONGEST
    → MovesChunk fronts.Line self line (slice_range bytes (start + (at + 1)) end) line'
line_moved bytes start end at self line line' view cut is few short =
    let held = slice_range bytes start end in
    let few' : at + 1 ≤ end - start = omega (arith, cut.0, length-take (end - start) (drop start bytes)) in
    let long : length (take at held) ≤ at = omega (arith, length-take at held) in (
      take at held,
      cut.1,
      sym view ∙ cut.2 ∙ ap (λ l. take at held ++ 10 ∷ l) (sym (range_behind bytes start end (at + 1) few')),
      is,
      omega (arith, ap length is ∙ length-append line (take at held), long),
    )

-- ---- the loop

pub cut_line : (told told' : Option (List ℕ)) (left left' : ℕ) (held held' line' held'' line'' : List ℕ)
    → IsCutTo told told' left left' held held' line' → MovesChunk fronts.Line held' line' held'' line''
    → Advances told told' left left' held held'' line'' nexts.Line
cut_line told told' left left' held held' line' held'' line'' so_far m =
    record {
      got = so_far.got;
      reads = so_far.reads;
      reaches = (
        subst Clean (sym m.3) (All-append (λ b. is_byte 10 b ≡ false) line' m.0 so_far.clean m.1),
        so_far.all ∙ ap (λ l. line' ++ l) m.2 ∙ sym (append_assoc line' m.0 (10 ∷ held'')) ∙ ap (λ l. l ++ 10 ∷ held'') (sym m.3),
        m.4,
      );
    }

pub cut_long : (told told' : Option (List ℕ)) (left left' : ℕ) (held held' line' held'' line'' : List ℕ)
    → IsCutTo told told' left left' held held' line' → MovesChunk fronts.Long held' line' held'' line''
    → (h : List ℕ) (l : List ℕ) → Advances told told' left left' held h l nexts.Long
cut_long told told' left left' held held' line' held'' line'' so_far m h l =
    record {
      got = so_far.got;
      reads = so_far.reads;
      reaches = (
        line' ++ m.0,
        m.1,
        All-append (λ b. is_byte 10 b ≡ false) line' m.0 so_far.clean m.2,
        so_far.all ∙ ap (λ l. line' ++ l) m.3 ∙ sym (append_assoc line' m.0 m.1),
        omega (arith, length-append line' m.0, m.4),
      );
    }

-- the piece that is read then
pub cut_more : (told told' told'' : Option (List ℕ)) (left left' left'' : ℕ)
    (held held' line' held'' line'' piece : List ℕ) → IsCutTo told told' left left' held held' line'
    → MovesChunk fronts.Part held' line' held'' line''
    → Consumes told' told'' piece → left'' + length piece ≡ left' → IsCutTo told told'' left left'' held piece line''
cut_more told told' told'' left left' left'' held held' line' held'' line'' piece so_far m consumed within =
    record {
      got = so_far.got ++ piece;
      reads = record {
        consumed = Consumes-trans told told' told'' so_far.got piece so_far.reads.consumed consumed;
        within = omega (arith, length-append so_far.got piece, so_far.reads.within);
      };
      clean = subst Clean (sym m.1) (All-append (λ b. is_byte 10 b ≡ false) line' held' so_far.clean m.0);
      all = sym (append_assoc held so_far.got piece) ∙ ap (λ l. l ++ piece) (so_far.all ∙ sym m.1);
      short = m.3;
    }

pub cut_end : (told told' told'' : Option (List ℕ)) (left left' : ℕ)
    (held held' line' held'' line'' piece : List ℕ) → IsCutTo told told' left left' held held' line'
    → MovesChunk fronts.Part held' line' held'' line''
    → Consumes told' told'' piece → 0 ≡ length piece → (0 < left' → IsAtEnd told'')
    → Advances told told'' left left' held piece line'' nexts.End
cut_end told told' told'' left left' held held' line' held'' line'' piece so_far m consumed none end =
    let empty : piece ≡ [] = nil_from_length piece (sym none) in
    let read = cut_more told told' told'' left left' left' held held' line' held'' line'' piece so_far m consumed (omega (arith, none)) in
    record {
      got = read.got;
      reads = read.reads;
      reaches = (read.clean, read.all ∙ ap (λ l. line'' ++ l) empty ∙ append-nil line'', empty, read.short, over left' end);
    }
  where
    over : (n : ℕ) → (0 < n → IsAtEnd told'') → (n ≡ 0) ⊎ IsAtEnd told''
    over zero e = inl refl
    over (suc n) e = inr (e (omega arith))

pub left_after : (left n : ℕ) (piece : List ℕ) → n ≡ length piece → n ≤ left → (left - n) + length piece ≡ left
left_after left n piece is le = omega (arith, is)
