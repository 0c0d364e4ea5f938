-- A text that is judged while its items come.
use Rattle.std.proofs.Common.{◌≡◌, ◌⊎◌, inl, inr, ℕ, ◌+◌, ◌≤◌, true, List, [], ◌∷◌, ◌++◌, map, refl, sym, ap, subst, ◌∙◌, append_assoc, Option, Some, None, Ok, Err}
use Rattle.pesp_stream.specs.Counts.{Calls, Worked, Failed}
use Rattle.pesp_problem.specs.Timetables.{Pesp}
use Rattle.pesp_truth.specs.declared.answer.Answer.{Answer}
use Rattle.pesp_truth.specs.Truth.{IsTrueAnswer}
use Rattle.pesp_truth.specs.Certificates.{Front as FrontOf, IsValid, Content, shown_times}
use Rattle.pesp_cert_lines.specs.declared.item.Item.{Item}
use Rattle.pesp_cert_lines.specs.declared.item.Item.TheVariants.{Version, Period, Answer as Says, Cycle, End}
use Rattle.pesp_cert.specs.declared.refusal.CertRefusal.{CertRefusal}
use Rattle.pesp_cert.specs.declared.refusal.CertRefusal.TheVariants as refusals
use Rattle.pesp_cert_lines.specs.declared.versions.Versions.{Versions}
use Rattle.pesp_cert.specs.Texts.{HasText, items_of, front_items, time_item, tree_item}
use Rattle.pesp_cert.proofs.Runs.{items_shape}
use Rattle.pesp_cert.proofs.TextLaws.{text_found_of}
use Rattle.pesp_cert_items.specs.declared.fault.ItemFault.{ItemFault}
use Rattle.pesp_cert_items.specs.declared.fault.ItemFault.TheVariants as items
use Rattle.pesp_cert_items.specs.Readings.{Reading, is_going, GivesItem, Blamed, RefusesReading}
use Rattle.pesp_cert_items.specs.Texts.{RefusesText}
use Rattle.pesp_cert_items.proofs.Running.{Runs, runs_none, runs_more, runs_all, runs_refused}
use Rattle.pesp_cert_items.proofs.Telling.{at_first, ran_text, refused_text}
use Rattle.pesp_judges.specs.declared.refusal.Verdict.{Verdict}
use Rattle.pesp_judges.specs.Faults.{IsVerdict}
use Rattle.pesp_judges.proofs.Faults.{accepts_valid}
use Rattle.pesp_check.specs.declared.stage.Stage.{Stage}
use Rattle.pesp_check.specs.declared.check_fault.CheckFault.TheVariants.{Read}
use Rattle.pesp_check.specs.CheckFaults.{fault_of}
use Rattle.pesp_check.specs.Texts.{ChecksText, Faults}
use Rattle.pesp_check.specs.Judging.{Kept, JudgedAt, items_left}

-- these items came, and whatever front and content they and others are the items of, the others are left of those
pub record IsCheckedTo (p : Pesp) (old now : Reading) (stage : Stage) (kept : Kept) : Type 0 where
  pub so_far : List Item
  pub runs : Runs old now so_far
  pub judged : (front : Option FrontOf) (c : Content) (rest : List Item) → HasText front c → items_left front c ≡ so_far ++ rest
      → JudgedAt stage p front c rest kept
  pub going : is_going now.stage ≡ true

pub checked_none : (p : Pesp) (r : Reading) (stage : Stage) (kept : Kept) → is_going r.stage ≡ true
    → ((front : Option FrontOf) (c : Content) → JudgedAt stage p front c (items_left front c) kept) → IsCheckedTo p r r stage kept
checked_none p r stage kept o h = record {
  so_far = [];
  runs = runs_none r;
  judged = λ front c rest has e. subst (λ (is : List Item). JudgedAt stage p front c is kept) e (h front c);
  going = o;
}

pub checked_more : (p : Pesp) (a b c : Reading) (stage stage' : Stage) (kept kept' : Kept) (item : Item)
    → IsCheckedTo p a b stage kept → GivesItem b c (Ok (Some item))
    → ((front : Option FrontOf) (c : Content) (rest : List Item) → HasText front c → JudgedAt stage p front c (item ∷ rest) kept
    → JudgedAt stage' p front c rest kept') → IsCheckedTo p a c stage' kept'
checked_more p a b c stage stage' kept kept' item h g step = record {
  so_far = h.so_far ++ item ∷ [];
  runs = runs_more a b c h.so_far item h.runs g.2;
  judged = λ front c rest has e. step front c rest has
      (h.judged front c (item ∷ rest) has (e ∙ append_assoc h.so_far (item ∷ []) rest));
  going = ap is_going g.0;
}

-- ---- the end

all_left : (front : Option FrontOf) (c : Content) → items_of front c ≡ items_left front c
all_left front c = ap (λ is. front_items front ++ Version c.version ∷ Period c.period ∷ Says c.answer ∷ is)
    (items_shape (map time_item c.times) (map Cycle c.cycles) (map tree_item c.tree) (End ∷ []))

pub checked_all : (versions : Versions) (p : Pesp) (told : Option (List ℕ)) (b c : Reading) (stage : Stage) (kept : Kept)
    (verdict : Verdict) (answer : Answer) → IsCheckedTo p (at_first versions told 1073741824) b stage kept
    → GivesItem b c (Ok None)
    → ((front : Option FrontOf) (c : Content) → HasText front c → JudgedAt stage p front c (End ∷ []) kept → IsVerdict front p c verdict)
    → ((front : Option FrontOf) (c : Content) → HasText front c → JudgedAt stage p front c (End ∷ []) kept → answer ≡ c.answer)
    → ((front : Option FrontOf) (c : Content) → IsValid front p c → IsTrueAnswer p c.answer (shown_times c))
    → ChecksText versions told c.told p verdict answer
checked_all versions p told b c stage kept verdict answer h g says is true_then =
    let ran = runs_all (at_first versions told 1073741824) b c h.so_far h.runs g.1 in
    let text = ran_text versions told 1073741824 c h.so_far ran in
    let found = text_found_of versions ran.got (h.so_far ++ End ∷ []) text.1 in
    let front = found.0 in
    let content = found.1 in
    let has = found.3.has_text in
    let judged = h.judged front content (End ∷ []) has (sym (found.2 ∙ all_left front content)) in
    let said = says front content has judged in
    let same = is front content has judged in
    record {
      text = ran.got;
      front = front;
      content = content;
      read = text.0;
      taken = found.4;
      spelt = found.3;
      answer_is = same;
      said = said;
      exactly = accepts_valid front p content verdict said;
      truth = λ e. subst (λ (a : Answer). IsTrueAnswer p a (shown_times content)) (sym same)
          (true_then front content ((accepts_valid front p content verdict said).0 e));
    }

-- ---- a fault

text_faults : (versions : Versions) (told told' : Option (List ℕ)) (failed : Type 0) (r : CertRefusal)
    → (r ≡ refusals.Memory) ⊎ RefusesText versions told told' 1073741824 r
    → Faults versions (fault_of (items.Text r)) told told' failed
text_faults versions told told' failed refusals.Memory h = tt
text_faults versions told told' failed refusals.Header (inl e) = absurd cc
text_faults versions told told' failed refusals.Header (inr f) = f
text_faults versions told told' failed (refusals.Line n) (inl e) = absurd cc
text_faults versions told told' failed (refusals.Line n) (inr f) = f
text_faults versions told told' failed (refusals.Number n) (inl e) = absurd cc
text_faults versions told told' failed (refusals.Number n) (inr f) = f
text_faults versions told told' failed (refusals.Limit n) (inl e) = absurd cc
text_faults versions told told' failed (refusals.Limit n) (inr f) = f
text_faults versions told told' failed refusals.Truncated (inl e) = absurd cc
text_faults versions told told' failed refusals.Truncated (inr f) = f
text_faults versions told told' failed (refusals.Trailing n) (inl e) = absurd cc
text_faults versions told told' failed (refusals.Trailing n) (inr f) = f

pub checked_fault : (versions : Versions) (p : Pesp) (told : Option (List ℕ)) (b c : Reading) (stage : Stage) (kept : Kept)
    (f : ItemFault) (old : Calls) (most : ℕ) (new : Calls) → IsCheckedTo p (at_first versions told 1073741824) b stage kept
    → GivesItem b c (Err f) → Blamed f old most new
    → Faults versions (fault_of f) told c.told (Failed old most new)
checked_fault versions p told b c stage kept items.Read old most new h g blamed = blamed
checked_fault versions p told b c stage kept (items.Text r) old most new h g blamed = text_faults versions told c.told (Failed old most new) r (refused g.1)
  where
    refused : (r ≡ refusals.Memory) ⊎ RefusesReading b c r → (r ≡ refusals.Memory) ⊎ RefusesText versions told c.told 1073741824 r
    refused (inl e) = inl e
    refused (inr q) = inr (refused_text versions told 1073741824 c r (runs_refused (at_first versions told 1073741824) b c h.so_far r h.runs q))

-- what is blamed after calls that worked is to be blamed for all of them
pub blamed_since : (f : ItemFault) (first old new : Calls) (most limit : ℕ) → old.failed ≡ first.failed
    → most ≡ limit → Blamed f old most new → Blamed f first limit new
blamed_since (items.Text r) first old new most limit same is (failed, few) = (failed ∙ same, subst (λ (n : ℕ). new.interrupted ≤ n) is few)
blamed_since items.Read first old new most limit same is (inl (failed, few)) =
    inl (failed ∙ ap (λ (n : ℕ). n + 1) same, subst (λ (n : ℕ). new.interrupted ≤ n) is few)
blamed_since items.Read first old new most limit same is (inr (failed, many)) = inr (failed ∙ same, many ∙ ap (λ (n : ℕ). n + 1) is)

-- where the reader isn't blamed it worked
pub not_blamed : (f : ItemFault) (old new : Calls) (most : ℕ) → Blamed f old most new → (fault_of f ≡ Read → ⊥) → Worked old most new
not_blamed (items.Text r) old new most worked other = worked
not_blamed items.Read old new most failed other = absurd (other refl)
