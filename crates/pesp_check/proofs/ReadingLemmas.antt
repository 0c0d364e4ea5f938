-- Reading one byte more than a text may have decides what the whole text would.
use Rattle.std.proofs.Common.{◌≡◌, ◌∙◌, ℕ, ◌≤◌, ◌<◌, List, length, take, refl, ap, sym, arith, Bool, true, false, nat_le, ◌&&◌, Some, None, Ok, Err, IfSome, ◌⊎◌, inl, inr}
use Rattle.std.specs.Prelude.{Option, Result, IfErr, IsErrAnd}
use Rattle.std.proofs.lemmas.List.{length-take, take_all}
use Rattle.std.proofs.lemmas.Bool.Decides.{nat_tests}
use Rattle.pesp_problem.specs.Timetables.{Pesp}
use Rattle.pesp_stream.specs.Counts.{Calls}
use Rattle.pesp_stream.specs.Reading.{ReadsText}
use Rattle.pesp_instance.specs.declared.refusal.ReadRefusal.{ReadRefusal}
use Rattle.pesp_instance.specs.declared.refusal.ReadRefusal.TheVariants.{Period, TextTooLong, FieldCount, NotANumber, OutOfRange, BoundsCrossed, TooManyRows, TooManyEvents, Memory as NoMemory}
use Rattle.pesp_instance.specs.Instance.{instance_of}
use Rattle.pesp_check.specs.FaultLines.{instance_fault}
use Rattle.pesp_check.specs.Devices.{over}
use Rattle.pesp_check.specs.Checking.{ReadsAll, ReadsInstance, RefusesInstance, InstanceCause}

-- a text that is too long is refused before its records are looked at
too_long : (text : List ℕ) (period : ℕ) → nat_le 1 period && nat_le period 10000 ≡ true → 16777216 < length text
    → instance_of text period ≡ Err TextTooLong
too_long text period some long = let test : nat_le (length text) 16777216 ≡ false = grind (arith, nat_tests) in rw (some, test) refl

-- only a text that isn't too long has an instance
pub short : (text : List ℕ) (period : ℕ) (p : Pesp) → instance_of text period ≡ Ok p → length text ≤ 16777216
short text period p is = by (nat_le 1 period && nat_le period 10000) (nat_le (length text) 16777216) refl refl
  where
    by : (a b : Bool) → nat_le 1 period && nat_le period 10000 ≡ a → nat_le (length text) 16777216 ≡ b → length text ≤ 16777216
    by true true some test = grind (arith, nat_tests)
    by true false some test = let wrong : ◌≡◌ {A = Result Pesp ReadRefusal} (Err TextTooLong) (Ok p) = rw (some, test) at is in cc
    by false b some test = let wrong : ◌≡◌ {A = Result Pesp ReadRefusal} (Err Period) (Ok p) = rw some at is in cc

-- the front that is read has the instance or the refusal of the whole text
pub same_instance : (text : List ℕ) (period : ℕ) → instance_of (take 16777217 text) period ≡ instance_of text period
same_instance text period = by (nat_le 1 period && nat_le period 10000) (nat_le (length text) 16777216) refl refl
  where
    by : (a b : Bool) → nat_le 1 period && nat_le period 10000 ≡ a → nat_le (length text) 16777216 ≡ b
        → instance_of (take 16777217 text) period ≡ instance_of text period
    by a true some test = let within : length text ≤ 16777217 = grind (arith, nat_tests) in
        ap (λ t. instance_of t period) (take_all 16777217 text within)
    by true false some test =
        let long : 16777216 < length text = grind (arith, nat_tests) in
        let front : 16777216 < length (take 16777217 text) = omega (arith, length-take 16777217 text) in
        too_long (take 16777217 text) period some front ∙ sym (too_long text period some long)
    by false false some test = rw some refl

whole_is : (text bytes : List ℕ) → bytes ≡ take 16777217 text → length bytes ≤ 16777216 → text ≡ bytes
whole_is text bytes front within = let short : length text
    ≤ 16777217 = omega (arith, length-take 16777217 text, ap length front) in
    sym (take_all 16777217 text short) ∙ sym front

-- where the bytes that were read have an instance they are all that the reader had
pub reads_all : (told left : Option (List ℕ)) (bytes : List ℕ) → ReadsText told left 16777217 bytes
    → length bytes ≤ 16777216 → ReadsAll told left bytes
reads_all told left bytes read within = record {
  consumed = read.consumed;
  ended = read.ended (omega (arith, within));
  whole = by told read.front;
}
  where
    by : (told : Option (List ℕ)) → IfSome told (λ text. bytes ≡ take 16777217 text) → IfSome told (λ text. text ≡ bytes)
    by None front = tt
    by (Some text) front = whole_is text bytes front within

refuses : (told left : Option (List ℕ)) (bytes : List ℕ) (period : ℕ) (refusal : ReadRefusal)
    → ReadsText told left 16777217 bytes → instance_of bytes period ≡ Err refusal
    → RefusesInstance told left period refusal
refuses told left bytes period refusal read is = record {
  bytes = bytes;
  read = read;
  refused = is;
  whole = by told read.front;
}
  where
    by : (told : Option (List ℕ)) → IfSome told (λ text. bytes ≡ take 16777217 text)
        → IfSome told (λ text. instance_of text period ≡ Err refusal)
    by None front = tt
    by (Some text) front = sym (same_instance text period) ∙ ap (λ t. instance_of t period) (sym front) ∙ is

-- a refusal of the text, or of memory
pub refusal_has_cause : (refusal : ReadRefusal) (told left : Option (List ℕ)) (calls after : Calls)
    (bytes : List ℕ) (period : ℕ) → ReadsText told left 16777217 bytes
    → (◌≡◌ {A = Result Pesp ReadRefusal} (Err refusal) (instance_of bytes period))
    ⊎ (◌≡◌ {A = Result Pesp ReadRefusal} (Err refusal) (Err NoMemory))
    → InstanceCause (instance_fault refusal) (over told left calls after) period
refusal_has_cause NoMemory told left calls after bytes period read exact = tt
refusal_has_cause Period told left calls after bytes period read exact =
    elim exact [ inl e ↦ refuses told left bytes period Period read (sym e) | inr e ↦ cc ]
refusal_has_cause TextTooLong told left calls after bytes period read exact =
    elim exact [ inl e ↦ refuses told left bytes period TextTooLong read (sym e) | inr e ↦ cc ]
refusal_has_cause (FieldCount at) told left calls after bytes period read exact =
    elim exact [ inl e ↦ refuses told left bytes period (FieldCount at) read (sym e) | inr e ↦ cc ]
refusal_has_cause (NotANumber at field) told left calls after bytes period read exact =
    elim exact [ inl e ↦ refuses told left bytes period (NotANumber at field) read (sym e) | inr e ↦ cc ]
refusal_has_cause (OutOfRange at field) told left calls after bytes period read exact =
    elim exact [ inl e ↦ refuses told left bytes period (OutOfRange at field) read (sym e) | inr e ↦ cc ]
refusal_has_cause (BoundsCrossed at) told left calls after bytes period read exact =
    elim exact [ inl e ↦ refuses told left bytes period (BoundsCrossed at) read (sym e) | inr e ↦ cc ]
refusal_has_cause (TooManyRows at) told left calls after bytes period read exact =
    elim exact [ inl e ↦ refuses told left bytes period (TooManyRows at) read (sym e) | inr e ↦ cc ]
refusal_has_cause (TooManyEvents at) told left calls after bytes period read exact =
    elim exact [ inl e ↦ refuses told left bytes period (TooManyEvents at) read (sym e) | inr e ↦ cc ]

-- the bytes that were read are an instance, and they are all that the reader had
pub reads_instance : (told left : Option (List ℕ)) (bytes : List ℕ) (period : ℕ) (p : Pesp)
    → ReadsText told left 16777217 bytes → instance_of bytes period ≡ Ok p → ReadsInstance told left period p
reads_instance told left bytes period p read is = record {
  text = bytes;
  read = reads_all told left bytes read (short bytes period p is);
  is_instance = is;
}

-- an error that was told as this fault
pub told_as : {A E : Type 0} (r : Result A E) (e : E) (P : E → Type 0) → IsErrAnd r (λ f. f ≡ e) → P e → IfErr r P
told_as (Ok a) e P is holds = tt
told_as (Err f) e P is holds = rw is holds

-- an instance that isn't a refusal of memory is that of the text
pub is_instance : (r : Result Pesp ReadRefusal) (p : Pesp) (bytes : List ℕ) (period : ℕ) → r ≡ Ok p
    → (r ≡ instance_of bytes period) ⊎ (r ≡ Err NoMemory) → instance_of bytes period ≡ Ok p
is_instance r p bytes period is exact = elim exact [ inl e ↦ sym e ∙ is | inr e ↦ cc ]
