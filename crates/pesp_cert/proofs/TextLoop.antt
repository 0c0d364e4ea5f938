-- The loop over the lines of a text.
use Rattle.std.proofs.Common.{◌≡◌, ℕ, ◌+◌, ◌<◌, ◌≤◌, true, false, cond, List, [], ◌∷◌, ◌++◌, length, Option, Some, None, Result, Ok, Err, refl, sym, ap, ◌∙◌, arith, inr, append_assoc}
use Rattle.std.specs.Prelude.{◌==◌}
use Rattle.pesp_truth.specs.Certificates.{Content}
use Rattle.pesp_truth.specs.Shown.{LemmaProof}
use Rattle.pesp_stream.specs.Words.{pieces}
use Rattle.pesp_cert_lines.specs.declared.fault.LineFault.{LineFault}
use Rattle.pesp_cert_lines.specs.declared.item.Item.{Item}
use Rattle.pesp_cert_lines.specs.declared.item.Item.TheVariants.{End}
use Rattle.pesp_cert_lines.specs.declared.progress.Progress.{Progress}
use Rattle.pesp_cert_lines.specs.declared.versions.Versions.{Versions}
use Rattle.pesp_cert_lines.specs.Counts.{beginning, progress_after, ProgressIsKept}
use Rattle.pesp_cert_lines.specs.Lines.{line_at, LONGEST}
use Rattle.pesp_cert.specs.declared.refusal.CertRefusal.{CertRefusal}
use Rattle.pesp_cert.specs.declared.refusal.CertRefusal.TheVariants as refusals
use Rattle.pesp_cert.specs.Texts.{is_end}
use Rattle.pesp_cert.specs.Drafts.{blank, added_behind, all_added, FrontValue, no_front, noted_at, noted, all_noted, ReadsItems}
use Rattle.pesp_cert.specs.Refusals.{items_from, items_of_text, refusal_at, is_nothing, onto}
use Rattle.pesp_cert.proofs.DraftLaws.{all_added-append, all_noted-append}
use Rattle.pesp_cert.proofs.TextSteps.{nonempty, nothing_more, at_long, at_last, at_fault, at_end, at_item}

-- items in front of those that are read
abbrev pub behind : List Item → Result (List Item) CertRefusal → Result (List Item) CertRefusal
behind items (Ok others) = Ok (items ++ others)
behind items (Err r) = Err r

-- what is left gives, behind the items so far, what all gives; and they add up to the draft
pub record IsReadTo (vs : Versions) (all rest : List ℕ) (n : ℕ) (p : Progress) (front : FrontValue) (draft : Content) : Type 0 where
  pub items : List Item
  pub same : behind items (items_from n p (pieces 10 rest)) ≡ items_of_text vs all
  pub fronts : front ≡ all_noted no_front items
  pub made : draft ≡ all_added no_front blank items
  pub kept : ProgressIsKept p
  pub long : n + length rest ≤ length all + 1
  pub more : 1 ≤ n

behind_nothing : (r : Result (List Item) CertRefusal) → behind [] r ≡ r
behind_nothing (Ok items) = refl
behind_nothing (Err e) = refl

pub read_start : (vs : Versions) (all : List ℕ) (p : Progress) (front : FrontValue) (draft : Content) → p ≡ beginning vs → ProgressIsKept p
    → front ≡ no_front → draft ≡ blank → IsReadTo vs all all 1 p front draft
unfolding items_of_text
read_start vs all p front draft e kept unfronted none = record {
  items = [];
  same = rw e (behind_nothing (items_from 1 (beginning vs) (pieces 10 all)));
  fronts = unfronted;
  made = none;
  kept = kept;
  long = omega arith;
  more = omega arith;
}

read_as : (vs : Versions) (all rest : List ℕ) (n : ℕ) (p : Progress) (front : FrontValue) (draft : Content) (r : Result (List Item) CertRefusal)
    (so_far : IsReadTo vs all rest n p front draft) → items_from n p (pieces 10 rest) ≡ r
    → behind so_far.items r ≡ items_of_text vs all
read_as vs all rest n p front draft r so_far h = rw (← h) so_far.same

read_err : (vs : Versions) (all rest : List ℕ) (n : ℕ) (p : Progress) (front : FrontValue) (draft : Content) (e : CertRefusal)
    → IsReadTo vs all rest n p front draft → items_from n p (pieces 10 rest) ≡ Err e → ReadsItems (Err e) (items_of_text vs all)
read_err vs all rest n p front draft e so_far h = inr (sym (read_as vs all rest n p front draft (Err e) so_far h))

pub read_long : (vs : Versions) (all rest line : List ℕ) (ps : List (List ℕ)) (n : ℕ) (p : Progress) (front : FrontValue) (draft : Content)
    → IsReadTo vs all rest n p front draft → pieces 10 rest ≡ line ∷ ps → LONGEST < length line
    → ReadsItems (Err (refusals.Limit n)) (items_of_text vs all)
read_long vs all rest line ps n p front draft so_far cut long =
    read_err vs all rest n p front draft (refusals.Limit n) so_far (rw cut (at_long n p line ps long))

pub read_cut : (vs : Versions) (all rest line : List ℕ) (n : ℕ) (p : Progress) (front : FrontValue) (draft : Content) → IsReadTo vs all rest n p front draft
    → pieces 10 rest ≡ line ∷ [] → length line ≤ LONGEST → ReadsItems (Err refusals.Truncated) (items_of_text vs all)
read_cut vs all rest line n p front draft so_far cut short = read_err vs all rest n p front draft refusals.Truncated so_far (rw cut (at_last n p line short))

pub read_fault : (vs : Versions) (all rest line more : List ℕ) (n : ℕ) (p : Progress) (front : FrontValue) (draft : Content) (f : LineFault)
    → IsReadTo vs all rest n p front draft → pieces 10 rest ≡ line ∷ pieces 10 more → length line ≤ LONGEST
    → line_at p line ≡ Err f
    → ReadsItems (Err (refusal_at n f)) (items_of_text vs all)
read_fault vs all rest line more n p front draft f so_far cut short h =
    let some = nonempty more in
    read_err vs all rest n p front draft (refusal_at n f) so_far (rw (cut, some.2) (at_fault n p line some.0 some.1 f short h))

-- the piece behind the end decides
at_the_end : (rest line more : List ℕ) (n : ℕ) (p : Progress) (item : Item)
    → pieces 10 rest ≡ line ∷ pieces 10 more → length line ≤ LONGEST → line_at p line ≡ Ok item → is_end item ≡ true
    → items_from n p (pieces 10 rest) ≡ cond (length more == 0) (Ok (item ∷ [])) (Err (refusals.Trailing (n + 1)))
at_the_end rest line more n p item cut short h e =
    let some = nonempty more in
    let test : is_nothing (some.0 ∷ some.1) ≡ (length more == 0) = ap is_nothing (sym some.2) ∙ nothing_more more in
    rw (cut, some.2, ← test) (at_end n p line some.0 some.1 item short h e)

-- the end says nothing more
end_says : (item : Item) → is_end item ≡ true → End ≡ item
end_says End h = refl
end_says item h = absurd cc

end_notes : (f : FrontValue) → noted f End ≡ f
end_notes f = go f.shown refl
  where
    go : (shown : Option LemmaProof) → f.shown ≡ shown → noted f End ≡ f
    go None e = ap (λ (o : Option LemmaProof). noted_at f o End) e
    go (Some s) e = ap (λ (o : Option LemmaProof). noted_at f o End) e ∙ ap (λ (o : Option LemmaProof). record f { shown = o }) (sym e)

end_adds : (shown : Option LemmaProof) (c : Content) → added_behind shown c End ≡ c
end_adds None c = refl
end_adds (Some s) c = refl

pub read_end : (vs : Versions) (all rest line more : List ℕ) (n : ℕ) (p : Progress) (front : FrontValue) (draft : Content) (item : Item)
    → IsReadTo vs all rest n p front draft → pieces 10 rest ≡ line ∷ pieces 10 more → length line ≤ LONGEST
    → line_at p line ≡ Ok item → is_end item ≡ true
    → (length more == 0) ≡ true → ReadsItems (Ok (front, draft)) (items_of_text vs all)
read_end vs all rest line more n p front draft item so_far cut short h e none =
    let last = rw none at (at_the_end rest line more n p item cut short h e) in (
      so_far.items ++ item ∷ [],
      sym (read_as vs all rest n p front draft (Ok (item ∷ [])) so_far last),
      so_far.fronts
          ∙ sym (all_noted-append no_front so_far.items (item ∷ []) ∙ rw (← end_says item e) (end_notes (all_noted no_front so_far.items))),
      so_far.made
          ∙ sym (all_added-append no_front blank so_far.items (item ∷ [])
          ∙ rw (← end_says item e) (end_adds (noted (all_noted no_front so_far.items) End).shown (all_added no_front blank so_far.items))),
    )

pub read_trailing : (vs : Versions) (all rest line more : List ℕ) (n : ℕ) (p : Progress) (front : FrontValue) (draft : Content) (item : Item)
    → IsReadTo vs all rest n p front draft → pieces 10 rest ≡ line ∷ pieces 10 more → length line ≤ LONGEST
    → line_at p line ≡ Ok item → is_end item ≡ true
    → (length more == 0) ≡ false → ReadsItems (Err (refusals.Trailing (n + 1))) (items_of_text vs all)
read_trailing vs all rest line more n p front draft item so_far cut short h e some =
    read_err vs all rest n p front draft (refusals.Trailing (n + 1)) so_far (rw some at (at_the_end rest line more n p item cut short h e))

behind_onto : (items : List Item) (item : Item) (r : Result (List Item) CertRefusal)
    → behind (items ++ item ∷ []) r ≡ behind items (onto item r)
behind_onto items item (Ok others) = ap Ok (append_assoc items (item ∷ []) others)
behind_onto items item (Err e) = refl

pub read_more : (vs : Versions) (all rest line more : List ℕ) (n : ℕ) (p q : Progress) (front after_front : FrontValue) (draft next : Content) (item : Item)
    → IsReadTo vs all rest n p front draft → pieces 10 rest ≡ line ∷ pieces 10 more → length more < length rest
    → length line ≤ LONGEST → line_at p line ≡ Ok item → is_end item ≡ false
    → q ≡ progress_after p item → ProgressIsKept q → after_front ≡ noted front item → next ≡ added_behind after_front.shown draft item
    → IsReadTo vs all more (n + 1) q after_front next
read_more vs all rest line more n p q front after_front draft next item so_far cut shorter short h e goes kept notes is =
    let some = nonempty more in
    let one : items_from n p (pieces 10 rest) ≡ onto item (items_from (n + 1) (progress_after p item) (pieces 10 more)) =
    rw (cut, some.2) (at_item n p line some.0 some.1 item short h e) in
    record {
      items = so_far.items ++ item ∷ [];
      same = rw goes (behind_onto so_far.items item (items_from (n + 1) (progress_after p item) (pieces 10 more))
          ∙ read_as vs all rest n p front draft (onto item (items_from (n + 1) (progress_after p item) (pieces 10 more))) so_far one);
      fronts = notes ∙ ap (λ (f : FrontValue). noted f item) so_far.fronts ∙ sym (all_noted-append no_front so_far.items (item ∷ []));
      made = is ∙ ap (λ (f : FrontValue). added_behind f.shown draft item) (notes ∙ ap (λ (f : FrontValue). noted f item) so_far.fronts)
          ∙ ap (λ (c : Content). added_behind (noted (all_noted no_front so_far.items) item).shown c item) so_far.made
          ∙ sym (all_added-append no_front blank so_far.items (item ∷ []));
      kept = kept;
      long = omega (arith, so_far.long);
      more = omega (arith, so_far.more);
    }
