-- The items of a text that came so far.
use Rattle.std.proofs.Common.{◌≡◌, ℕ, true, List, [], ◌∷◌, ◌++◌, refl, sym, ap, ◌∙◌, arith, append_assoc, Option, Ok, Err, Result}
use Rattle.std.proofs.KnownBytes.{Consumes-nil}
use Rattle.std.specs.Prelude.{OnOk}
use Rattle.pesp_cert_lines.specs.declared.item.Item.{Item}
use Rattle.pesp_cert_lines.specs.declared.item.Item.TheVariants.{End}
use Rattle.pesp_cert.specs.declared.refusal.CertRefusal.{CertRefusal}
use Rattle.pesp_cert.specs.Refusals.{onto}
use Rattle.pesp_cert.proofs.TextLoop.{behind}
use Rattle.pesp_cert_items.specs.declared.stage.Stage.{Stage}
use Rattle.pesp_cert_items.specs.declared.stage.Stage.TheVariants as stages
use Rattle.pesp_cert_items.specs.declared.fault.ItemFault.{ItemFault}
use Rattle.pesp_cert_items.specs.Cuts.{Reads}
use Rattle.pesp_cert_items.specs.Readings.{Reading, items_at, is_going, IsReadWhole, ReadsOn, TextEnds, RefusesReading, GivesItem, AnswersNext}
use Rattle.pesp_cert_items.proofs.Stepping.{reads_then}

-- these items came so far, and what is left gives the others
pub record Runs (old now : Reading) (items : List Item) : Type 0 where
  pub got : List ℕ
  pub reads : Reads old.told now.told old.left now.left got
  pub says : (more : List ℕ) → items_at old (old.held ++ (got ++ more)) ≡ behind items (items_at now (now.held ++ more))

-- the bytes that were read are a whole text, and these are its items but the last
pub record Ran (old new : Reading) (items : List Item) : Type 0 where
  pub got : List ℕ
  pub reads : Reads old.told new.told old.left new.left got
  pub over : IsReadWhole new
  pub says : items_at old (old.held ++ got) ≡ Ok (items ++ End ∷ [])

behind_none : (r : Result (List Item) CertRefusal) → r ≡ behind [] r
behind_none (Ok items) = refl
behind_none (Err e) = refl

behind_more : (items : List Item) (item : Item) (r : Result (List Item) CertRefusal)
    → behind items (onto item r) ≡ behind (items ++ item ∷ []) r
behind_more items item (Ok others) = ap Ok (sym (append_assoc items (item ∷ []) others))
behind_more items item (Err e) = refl

pub runs_none : (r : Reading) → Runs r r []
runs_none r = record {
  got = [];
  reads = record { consumed = Consumes-nil r.told; within = omega arith };
  says = λ more. behind_none (items_at r (r.held ++ more));
}

pub runs_more : (a b c : Reading) (items : List Item) (item : Item) → Runs a b items → ReadsOn b c (onto item) → Runs a c (items ++ item ∷ [])
runs_more a b c items item p q = record {
  got = p.got ++ q.got;
  reads = reads_then _ _ _ _ _ _ p.got q.got p.reads q.reads;
  says = λ more.
      ap (λ t. items_at a (a.held ++ t)) (append_assoc p.got q.got more) ∙ p.says (q.got ++ more)
      ∙ ap (behind items) (q.says more) ∙ behind_more items item (items_at c (c.held ++ more));
}

pub runs_all : (a b c : Reading) (items : List Item) → Runs a b items → TextEnds b c → Ran a c items
runs_all a b c items p e = record {
  got = p.got ++ e.got;
  reads = reads_then _ _ _ _ _ _ p.got e.got p.reads e.reads;
  over = e.over;
  says = p.says e.got ∙ ap (behind items) e.says;
}

pub runs_refused : (a b c : Reading) (items : List Item) (r : CertRefusal) → Runs a b items → RefusesReading b c r → RefusesReading a c r
runs_refused a b c items r p q = record {
  got = p.got ++ q.got;
  reads = reads_then _ _ _ _ _ _ p.got q.got p.reads q.reads;
  says = λ more over. ap (λ t. items_at a (a.held ++ t)) (append_assoc p.got q.got more) ∙ p.says (q.got ++ more)
      ∙ ap (behind items) (q.says more over);
}

-- what a call answers while none answered None or a fault
pub gives_of : (stage : Stage) (old new : Reading) (r : Result (Option Item) ItemFault) → is_going stage ≡ true
    → AnswersNext stage old new r → GivesItem old new r
gives_of stages.Going old new r o a = a
gives_of stages.Ended old new r o a = absurd cc
gives_of (stages.Failed f) old new r o a = absurd cc

-- what holds of an Ok
pub on_ok : {A E : Type 0} (P : Type 0) (r : Result A E) (x : A) → r ≡ Ok x → OnOk r P → P
on_ok P (Ok y) x e h = h
on_ok P (Err f) x e h = absurd cc
