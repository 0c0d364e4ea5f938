-- What a run says of the text that its reader gave.
use Rattle.std.proofs.Common.{◌≡◌, ◌⊎◌, inl, inr, ℕ, suc, ◌+◌, ◌<◌, List, [], ◌∷◌, ◌++◌, length, take, sym, ap, ◌∙◌, arith, append-nil, Option, Some, None, IfSome, Ok}
use Rattle.std.specs.Io.KnownBytes.{Consumes, IsAtEnd}
use Rattle.std.proofs.lemmas.List.{take_all}
use Rattle.pesp_stream.specs.Reading.{ReadsText}
use Rattle.pesp_cert_lines.specs.declared.item.Item.{Item}
use Rattle.pesp_cert_lines.specs.declared.item.Item.TheVariants.{End}
use Rattle.pesp_cert_lines.specs.declared.versions.Versions.{Versions}
use Rattle.pesp_cert_lines.specs.Counts.{beginning}
use Rattle.pesp_cert.specs.declared.refusal.CertRefusal.{CertRefusal}
use Rattle.pesp_cert.specs.Refusals.{items_of_text}
use Rattle.pesp_cert_items.specs.declared.stage.Stage.TheVariants as stages
use Rattle.pesp_cert_items.specs.Readings.{Reading, IsReadWhole, RefusesReading}
use Rattle.pesp_cert_items.specs.Texts.{RefusesText}
use Rattle.pesp_cert_items.proofs.Running.{Ran}

-- nothing was read
abbrev pub at_first : Versions → Option (List ℕ) → ℕ → Reading
at_first versions told limit = record { told = told; left = limit; held = []; n = 0; progress = beginning versions; stage = stages.Going }

take_front : (got ys : List ℕ) (left : ℕ) → take (length got + left) (got ++ ys) ≡ got ++ take left ys
take_front [] ys left = ap (λ k. take k ys) {y = left} (omega arith)
take_front (x ∷ got) ys left = ap (λ k. take k (x ∷ got ++ ys)) {y = suc (length got + left)} (omega arith)
    ∙ ap (λ l. x ∷ l) (take_front got ys left)

judged : (xs got ys : List ℕ) (left limit : ℕ) → xs ≡ got ++ ys → left + length got ≡ limit → take limit xs ≡ got ++ take left ys
judged xs got ys left limit is within = ap (λ l. take limit l) is
    ∙ ap (λ k. take k (got ++ ys)) {y = length got + left} (omega (arith, within)) ∙ take_front got ys left

none_left : (left : ℕ) (ys : List ℕ) → (left ≡ 0) ⊎ (ys ≡ []) → take left ys ≡ []
none_left left ys (inl e) = ap (λ k. take k ys) e
none_left left ys (inr e) = ap (take left) e ∙ take_all left [] (omega arith)

-- the bytes that were read are the reader's first ones
front_is : (told told' : Option (List ℕ)) (limit left : ℕ) (got : List ℕ) → Consumes told told' got
    → left + length got ≡ limit → (left ≡ 0) ⊎ IsAtEnd told' → IfSome told (λ xs. got ≡ take limit xs)
front_is None told' limit left got c w over = tt
front_is (Some xs) None limit left got c w over = absurd c
front_is (Some xs) (Some ys) limit left got c w over =
    sym (judged xs got ys left limit c w ∙ ap (λ l. got ++ l) (none_left left ys over) ∙ append-nil got)

ended_is : (told' : Option (List ℕ)) (limit left : ℕ) (got : List ℕ) → left + length got ≡ limit
    → (left ≡ 0) ⊎ IsAtEnd told' → length got < limit → IsAtEnd told'
ended_is told' limit left got w (inl e) l = absurd (omega (arith, w, e, l))
ended_is told' limit left got w (inr e) l = e

pub ran_text : (versions : Versions) (told : Option (List ℕ)) (limit : ℕ) (new : Reading) (items : List Item)
    (ran : Ran (at_first versions told limit) new items) → ReadsText told new.told limit ran.got
    × (items_of_text versions ran.got ≡ Ok (items ++ End ∷ []))
unfolding items_of_text
ran_text versions told limit new items ran = (
  record {
    within = omega (arith, ran.reads.within);
    front = front_is told new.told limit new.left ran.got ran.reads.consumed ran.reads.within ran.over;
    consumed = ran.reads.consumed;
    ended = ended_is new.told limit new.left ran.got ran.reads.within ran.over;
  },
  ran.says,
)

pub refused_text : (versions : Versions) (told : Option (List ℕ)) (limit : ℕ) (new : Reading) (r : CertRefusal)
    → RefusesReading (at_first versions told limit) new r → RefusesText versions told new.told limit r
unfolding items_of_text
refused_text versions told limit new r f = record {
  read = f.got;
  within = omega (arith, f.reads.within);
  consumed = f.reads.consumed;
  first = λ more over. f.says more (λ o. over (full o));
}
  where
    full : IsReadWhole new → (length f.got ≡ limit) ⊎ IsAtEnd new.told
    full (inl e) = inl (omega (arith, e, f.reads.within))
    full (inr e) = inr e
