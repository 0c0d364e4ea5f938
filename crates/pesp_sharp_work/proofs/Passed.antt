-- Where a work ends.
use Rattle.std.proofs.Common.{◌≡◌, ℕ, ◌+◌, ◌-◌, ◌<◌, arith, ap, sym, ◌∙◌, refl, List, [], ◌∷◌, ◌++◌, length, take, drop, append_assoc, append-nil, true, false}
use Rattle.std.specs.Prelude.{codes, Bool, ◌||◌, if◌then◌else◌}
use Rattle.std.specs.List.{join_with_byte}
use Rattle.std.specs.Str.{bytes_eq}
use Rattle.std.proofs.lemmas.List.{length-append}
use Rattle.std.proofs.Math.Seq.{take-append_seam, drop-append_seam}
use Rattle.std.proofs.lemmas.List.Splits.{join_with_byte-slice_split}
use Rattle.pesp_stream.specs.Words.{pieces}
use Rattle.pesp_stream.proofs.SplitPieces.{pieces_some}
use Rattle.pesp_sharp_work.specs.Cutting.{begins_with_front, behind_work, IsTextCut}

joined_line : (line : List ℕ) (ps : List (List ℕ)) (w : List ℕ) (ws : List (List ℕ)) → ps ≡ w ∷ ws
    → join_with_byte 10 (line ∷ ps) ≡ line ++ 10 ∷ join_with_byte 10 ps
joined_line line ps w ws e = rw e refl

-- a text by its first line and what stands behind that
first_line : (text line more : List ℕ) → pieces 10 text ≡ line ∷ pieces 10 more → text ≡ (line ++ 10 ∷ []) ++ more
first_line text line more e =
    let some = pieces_some 10 more in
    sym (join_with_byte-slice_split 10 text) ∙ ap (join_with_byte 10) e
    ∙ joined_line line (pieces 10 more) some.0 some.1 some.2
    ∙ ap (λ (rest : List ℕ). line ++ 10 ∷ rest) (join_with_byte-slice_split 10 more)
    ∙ sym (append_assoc line (10 ∷ []) more)

behind_line : (line : List ℕ) (ps : List (List ℕ)) (w : List ℕ) (ws : List (List ℕ)) → ps ≡ w ∷ ws
    → behind_work (line ∷ ps) ≡ (if bytes_eq line (codes "end") || begins_with_front ps then ps else behind_work ps)
behind_line line ps w ws e = rw e refl

-- some bytes were passed, and the work doesn't end among them
abbrev pub IsPassed : List ℕ → List ℕ → Type 0
IsPassed text rest = (before : List ℕ) × (text ≡ before ++ rest) × (behind_work (pieces 10 rest) ≡ behind_work (pieces 10 text))

pub none_passed : (text : List ℕ) → IsPassed text text
none_passed text = ([], refl, refl)

module _ (text rest line : List ℕ) (h : IsPassed text rest) where
  -- no line is left
  pub at_end : (none : List ℕ) → none ≡ [] → pieces 10 rest ≡ line ∷ [] → (work : List ℕ) × IsTextCut text work none
  at_end none is e = rw is (text, (sym (append-nil text), sym (ap behind_work e) ∙ h.2))

  module _ (more : List ℕ) (e : pieces 10 rest ≡ line ∷ pieces 10 more) where
    longer : text ≡ (h.0 ++ (line ++ 10 ∷ [])) ++ more
    longer = h.1 ∙ ap (λ (r : List ℕ). h.0 ++ r) (first_line rest line more e)
        ∙ sym (append_assoc h.0 (line ++ 10 ∷ []) more)

    step : (b : Bool) → (bytes_eq line (codes "end") || begins_with_front (pieces 10 more)) ≡ b
        → behind_work (pieces 10 text) ≡ (if b then pieces 10 more else behind_work (pieces 10 more))
    step b is =
        let some = pieces_some 10 more in
        sym h.2 ∙ ap behind_work e ∙ behind_line line (pieces 10 more) some.0 some.1 some.2
        ∙ ap (λ (x : Bool). if x then pieces 10 more else behind_work (pieces 10 more)) is

    pub ends_here : (bytes_eq line (codes "end") || begins_with_front (pieces 10 more)) ≡ true → (work : List ℕ) × IsTextCut text work more
    ends_here is = (h.0 ++ (line ++ 10 ∷ []), (longer, sym (step true is)))

    pub shorter : length more < length text
    shorter = let whole = ap length longer in omega (
      arith,
      whole,
      length-append (h.0 ++ (line ++ 10 ∷ [])) more,
      length-append h.0 (line ++ 10 ∷ []),
      length-append line (10 ∷ []),
    )

    pub goes_on : (bytes_eq line (codes "end") || begins_with_front (pieces 10 more)) ≡ false → IsPassed text more
    goes_on is = (h.0 ++ (line ++ 10 ∷ []), longer, sym (step false is))

-- a text by the lengths of its parts
pub parts : (text work rest : List ℕ) → IsTextCut text work rest
    → (take (length text - length rest) text ≡ work) × (drop (length text - length rest) text ≡ rest)
parts text work rest cut =
    let long : length text ≡ length work + length rest = ap length cut.0 ∙ length-append work rest in
    let at : length text - length rest ≡ length work = omega (arith, long) in (
      ap (λ (n : ℕ). take n text) at ∙ ap (take (length work)) cut.0 ∙ take-append_seam work rest,
      ap (λ (n : ℕ). drop n text) at ∙ ap (drop (length work)) cut.0 ∙ drop-append_seam work rest,
    )
