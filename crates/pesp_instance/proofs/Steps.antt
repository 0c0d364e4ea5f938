-- What a read of one record does to the records that are left.
use Rattle.std.proofs.Common.{◌≡◌, ◌∙◌, refl, sym, ap, subst, Bool, true, false, cond, ◌&&◌, ℕ, zero, suc, ◌+◌, ◌<◌, ◌≤◌, List, [], ◌∷◌, ◌++◌, length, arith, true≢false, Option, Some, None, Ok, Err, Result, inl, Bor, ℤ, if◌then◌else◌, ◌==◌}
use Rattle.csv.specs.Machine.{Read, next_record, step, in_field, start_field, start_record, is_byte, is_end, ends_at_end, after_end, ends_with, fields_after, field_after}
use Rattle.csv.specs.Reading.{Reached, ReadRecord, records, records_from, Ready, took_first, source_of, strip_bom, is_bom}
use Rattle.csv.specs.declared.parser.Config.{Config}
use Rattle.csv.specs.declared.parser.State.{State}
use Rattle.csv.specs.declared.parser.State.TheVariants as st
use Rattle.csv.specs.declared.parser.Action.{Action}
use Rattle.csv.specs.declared.parser.Action.TheVariants as act
use Rattle.csv.specs.declared.parser.Terminator.{Terminator}
use Rattle.csv.specs.declared.parser.Terminator.TheVariants as term
use Rattle.csv.specs.declared.reader.Reader.{Reader}
use Rattle.pesp_instance.specs.Activities.{activities_after, activity_of, admit, and_then}
use Rattle.pesp_instance.specs.Tables.{IsTable}
use Rattle.pesp_instance.specs.Records.{is_header, is_skipped, past_header, says_something}
use Rattle.pesp_instance.specs.declared.activity.Activity.{Activity}
use Rattle.std.specs.Result.{IsErrAnd}
use Rattle.std.specs.List.{enumerate_from}
use Rattle.std.specs.Prelude.{filter}
use Rattle.pesp_instance.specs.declared.refusal.ReadRefusal.{ReadRefusal}
use Rattle.pesp_problem.specs.declared.row.Row.{Row}
use Rattle.csv.specs.declared.reader.Trim.TheVariants as trim
use Rattle.csv.proofs.ReadFacts.{rows-end, rows-more}

-- the records that say something from a number on; the test says whether a header may come
unfoldable pub kept : ℕ → Bool → List (List (List ℕ)) → List (ℕ × List (List ℕ))
kept at may_head [] = []
kept at may_head (fields ∷ rest) =
    if is_skipped fields then kept (at + 1) may_head rest
    else if may_head && is_header fields then kept (at + 1) false rest
    else (at, fields) ∷ kept (at + 1) false rest

kept-rest : (at : ℕ) (rs : List (List (List ℕ))) → kept at false rs ≡ filter says_something (enumerate_from at rs)
unfolding kept
kept-rest at [] = refl
kept-rest at (f ∷ rest) = by (is_skipped f) refl (kept-rest (at + 1) rest)
  where
    by : (b : Bool) → is_skipped f ≡ b → kept (at + 1) false rest
        ≡ filter says_something (enumerate_from (at + 1) rest)
        → kept at false (f ∷ rest) ≡ filter says_something (enumerate_from at (f ∷ rest))
    by true e more = rw e more
    by false e more = rw e (ap (λ (l : List (ℕ × List (List ℕ))). (at, f) ∷ l) more)

-- they are what the definition says
pub kept-is : (at : ℕ) (rs : List (List (List ℕ))) → kept at true rs ≡ past_header (filter says_something (enumerate_from at rs))
unfolding kept
kept-is at [] = refl
kept-is at (f ∷ rest) = by (is_skipped f) (is_header f) refl refl (kept-is (at + 1) rest) (kept-rest (at + 1) rest)
  where
    by : (b h : Bool) → is_skipped f ≡ b → is_header f ≡ h
        → kept (at + 1) true rest ≡ past_header (filter says_something (enumerate_from (at + 1) rest))
        → kept (at + 1) false rest ≡ filter says_something (enumerate_from (at + 1) rest)
        → kept at true (f ∷ rest) ≡ past_header (filter says_something (enumerate_from at (f ∷ rest)))
    by true h e g more tail = rw e more
    by false true e g more tail = rw (e, g) tail
    by false false e g more tail = rw (e, g) (ap (λ (l : List (ℕ × List (List ℕ))). (at, f) ∷ l) tail)

-- the records of a text that say something
abbrev pub said : Config → List ℕ → List (ℕ × List (List ℕ))
said cfg text = past_header (filter says_something (enumerate_from 1 (records cfg (strip_bom text))))

by-cond : {A : Type 0} (P : A → Type 0) (b : Bool) (x y : A) → P x → P y → P (cond b x y)
by-cond P true x y p q = p
by-cond P false x y p q = q

-- a step that ends a record leaves the machine between records
record EndsBetween (t : State × Action) : Type 0 where
  ends : is_end t.1 ≡ true → ends_at_end t.0 ≡ false

no-end : (s : State) (a : Action) → is_end a ≡ false → EndsBetween (s, a)
no-end s a e = record { ends = λ h. absurd (true≢false (sym h ∙ e)) }

after-end : (t : Terminator) (c : ℕ) → ends_at_end (after_end t c) ≡ false
after-end term.CRLF c = by-cond (λ s. ends_at_end s ≡ false) (c == 13) st.AfterCr st.StartRecord refl refl
after-end (term.Any t) c = refl

in-field : (cfg : Config) (c : ℕ) → EndsBetween (in_field cfg c)
in-field cfg c =
    by-cond EndsBetween (c == cfg.delimiter) (st.StartField, act.EndField)
    (if ends_with cfg.terminator c then (after_end cfg.terminator c, act.EndRecord) else (
      st.InField,
      act.Copy,
    )) (no-end _ _ refl)
    (by-cond EndsBetween (ends_with cfg.terminator c) (after_end cfg.terminator c, act.EndRecord)
    (st.InField, act.Copy) (record { ends = λ _. after-end cfg.terminator c }) (no-end _ _ refl))

start-field : (cfg : Config) (c : ℕ) → EndsBetween (start_field cfg c)
start-field cfg c = by-cond EndsBetween (cfg.quoting && (c == cfg.quote)) (st.InQuoted, act.Skip) (in_field cfg c)
    (no-end _ _ refl) (in-field cfg c)

start-record : (cfg : Config) (c : ℕ) → EndsBetween (start_record cfg c)
start-record cfg c =
    by-cond EndsBetween (ends_with cfg.terminator c) (st.StartRecord, act.Skip)
    (if is_byte cfg.comment c then (st.InComment, act.Skip) else start_field cfg c) (no-end _ _ refl)
    (by-cond EndsBetween (is_byte cfg.comment c) (st.InComment, act.Skip) (start_field cfg c) (no-end _ _ refl) (start-field cfg c))

in-quoted : (cfg : Config) (c : ℕ) → EndsBetween (step cfg st.InQuoted c)
in-quoted cfg c =
    by-cond EndsBetween (cfg.quoting && (c == cfg.quote)) (st.AfterQuote, act.Skip)
    (if cfg.quoting && is_byte cfg.escape c then (st.InEscape, act.Skip) else (st.InQuoted, act.Copy))
    (no-end _ _ refl)
    (by-cond EndsBetween (cfg.quoting && is_byte cfg.escape c) (st.InEscape, act.Skip) (st.InQuoted, act.Copy)
    (no-end _ _ refl) (no-end _ _ refl))

end-between : (cfg : Config) (s : State) (c : ℕ) → EndsBetween (step cfg s c)
end-between cfg st.StartRecord c = start-record cfg c
end-between cfg st.StartField c = start-field cfg c
end-between cfg st.InField c = in-field cfg c
end-between cfg st.InQuoted c = in-quoted cfg c
end-between cfg st.InEscape c = no-end _ _ refl
end-between cfg st.AfterQuote c = by-cond EndsBetween (cfg.quoting && cfg.double_quote && (c == cfg.quote))
    (st.InQuoted, act.Copy) (in_field cfg c) (no-end _ _ refl) (in-field cfg c)
end-between cfg st.InComment c = by-cond EndsBetween (c == 10) (st.StartRecord, act.Skip) (st.InComment, act.Skip)
    (no-end _ _ refl) (no-end _ _ refl)
end-between cfg st.AfterCr c = by-cond EndsBetween (c == 10) (st.StartRecord, act.Skip) (start_record cfg c)
    (no-end _ _ refl) (start-record cfg c)

-- a record that was read takes bytes, unless the text had none, and leaves the machine between records
abbrev pub Takes : State → List ℕ → Read → Type 0
Takes s text p = (ends_at_end p.1 ≡ false) × (length p.2 ≤ length text) × (ends_at_end s ≡ false → length p.2 < length text)

pub takes : (cfg : Config) (s : State) (fields : List (List ℕ)) (field text : List ℕ) (p : Read)
    → next_record cfg s fields field text ≡ Some p → Takes s text p
unfolding next_record
takes cfg s fields field [] p e = at-end (ends_at_end s) refl e
  where
    at-end : (b : Bool) → ends_at_end s ≡ b → (if ends_at_end s then Some
        (fields ++ (field ∷ []), st.StartRecord, []) else None) ≡ Some p → Takes s [] p
    at-end true h g = let q : Some (fields ++ (field ∷ []), st.StartRecord, []) ≡ Some p = rw h at g in
        let r : ◌≡◌ {A = Read} (fields ++ (field ∷ []), st.StartRecord, []) p = cc in
        subst (Takes s []) r (refl, omega arith, λ x. absurd (true≢false (sym h ∙ x)))
    at-end false h g = let q : ◌≡◌ {A = Option Read} None (Some p) = rw h at g in cc
takes cfg s fields field (c ∷ rest) p e = go (is_end (step cfg s c).1) refl e
    (takes cfg (step cfg s c).0 (fields_after (step cfg s c).1 fields field)
    (field_after (step cfg s c).1 c field) rest p)
  where
    go : (b : Bool) → is_end (step cfg s c).1 ≡ b
        → (if is_end (step cfg s c).1 then Some (fields_after (step cfg s c).1 fields field, (step cfg s c).0, rest)
        else next_record cfg (step cfg s c).0 (fields_after (step cfg s c).1 fields field)
        (field_after (step cfg s c).1 c field) rest) ≡ Some p
        → (next_record cfg (step cfg s c).0 (fields_after (step cfg s c).1 fields field)
        (field_after (step cfg s c).1 c field) rest ≡ Some p → Takes (step cfg s c).0 rest p)
        → Takes s (c ∷ rest) p
    go true h g more = let q : Some (fields_after (step cfg s c).1 fields field, (step cfg s c).0, rest) ≡ Some p = rw h at g in
        let r : ◌≡◌ {A = Read} (fields_after (step cfg s c).1 fields field, (step cfg s c).0, rest) p = cc in
        subst (Takes s (c ∷ rest)) r ((end-between cfg s c).ends h, omega arith, λ _. omega arith)
    go false h g more = let t = more (rw h at g) in (t.0, omega arith, λ _. omega arith)

-- where a reader with known bytes found a record: that record, and the bytes after it
pub found-record : {R : Type 0} (rem : R → Option (List ℕ)) (a b : Reader R) (f : List (List ℕ)) (cfg : Config) (y : List ℕ)
    → a.config ≡ cfg → source_of rem a ≡ Some y → ReadRecord rem a b true f
    → (z : List ℕ) × (source_of rem b ≡ Some z) × (next_record cfg a.state [] [] y ≡ Some (f, b.state, z))
unfolding Reached
found-record rem a b f cfg y ec ex r =
    let m = rows-more rem a b f cfg a.state y y [] ec ex (refl, refl) r in
    (m.0, m.1, m.2.1 ∙ ap Some (λ i. (sym m.2.2 i, m.2.3.0 i, m.2.3.1 i)))

-- how many bytes are left, where that is known
abbrev pub bytes_left : Option (List ℕ) → ℕ
bytes_left None = 0
bytes_left (Some text) = length text

-- what is left of a reading after its next record
pub record StepOn (cfg : Config) (acts : List Activity) (at : ℕ) (head : Bool) (fuel : ℕ) (s : State)
    (left : List ℕ) (f : List (List ℕ)) (s2 : State) (z : List ℕ) : Type 0 where
  pub less : length z < length left
  pub between : ends_at_end s2 ≡ false
  pub more : ℕ
  pub enough : length z < more
  pub goes : activities_after acts (kept at head (records_from cfg fuel s left))
      ≡ activities_after acts (kept at head (f ∷ records_from cfg more s2 z))

pub step-on : (cfg : Config) (acts : List Activity) (at : ℕ) (head : Bool) (fuel : ℕ) (s : State) (left : List ℕ)
    (f : List (List ℕ)) (s2 : State) (z : List ℕ)
    → next_record cfg s [] [] left ≡ Some (f, s2, z) → length left < fuel → ends_at_end s ≡ false
    → StepOn cfg acts at head fuel s left f s2 z
unfolding records_from
step-on cfg acts at head zero s left f s2 z e h b = absurd (omega arith)
step-on cfg acts at head (suc m) s left f s2 z e h b =
    let t = takes cfg s [] [] left (f, s2, z) e in
    let less : length z < length left = t.2 b in
    record { less = less; between = t.0; more = m; enough = omega arith; goes = rw e refl }

-- a text with no record left
pub step-end : (cfg : Config) (acts : List Activity) (at : ℕ) (head : Bool) (fuel : ℕ) (s : State) (left : List ℕ)
    → next_record cfg s [] [] left ≡ None → activities_after acts (kept at head (records_from cfg fuel s left))
    ≡ Ok acts
unfolding records_from kept activities_after
step-end cfg acts at head zero s left e = refl
step-end cfg acts at head (suc m) s left e = rw e refl

-- a record that is skipped, one that names the columns, and one that counts
pub kept-skip : (at : ℕ) (head : Bool) (f : List (List ℕ)) (rest : List (List (List ℕ))) → is_skipped f ≡ true
    → kept at head (f ∷ rest) ≡ kept (at + 1) head rest
unfolding kept
kept-skip at head f rest e = rw e refl

pub kept-head : (at : ℕ) (head : Bool) (f : List (List ℕ)) (rest : List (List (List ℕ))) → is_skipped f ≡ false
    → head && is_header f ≡ true → kept at head (f ∷ rest) ≡ kept (at + 1) false rest
unfolding kept
kept-head at head f rest e h = rw (e, h) refl

pub kept-row : (at : ℕ) (head : Bool) (f : List (List ℕ)) (rest : List (List (List ℕ))) → is_skipped f ≡ false
    → head && is_header f ≡ false → kept at head (f ∷ rest) ≡ (at, f) ∷ kept (at + 1) false rest
unfolding kept
kept-row at head f rest e h = rw (e, h) refl

pub activities-row : (acts : List Activity) (at : ℕ) (f : List (List ℕ)) (rest : List (ℕ × List (List ℕ)))
    → activities_after acts ((at, f) ∷ rest) ≡ and_then (activity_of at f)
    (λ a. and_then (admit acts at a) (λ next. activities_after next rest))
unfolding activities_after
activities-row acts at f rest = refl

pub strip-shorter : (text : List ℕ) → length (strip_bom text) ≤ length text
unfolding strip_bom
strip-shorter [] = omega arith
strip-shorter (a ∷ []) = omega arith
strip-shorter (a ∷ b ∷ []) = omega arith
strip-shorter (a ∷ b ∷ d ∷ rest) = by-cond (λ (l : List ℕ). length l ≤ length (a ∷ b ∷ d ∷ rest))
    (is_bom a b d) rest (a ∷ b ∷ d ∷ rest) (omega arith) (omega arith)

-- the bytes of a reader over a slice
abbrev pub rest_of : Bor (List ℕ) → Option (List ℕ)
rest_of s = Some s.now

-- how a reading of a text stands after `at` records
pub record Standing (text : List ℕ) (cfg : Config) (r : Reader (Bor (List ℕ))) (rows : List Row) (events : List ℤ)
    (at : ℕ) (head : Bool) : Type 0 where
  pub config : r.config ≡ cfg
  pub trim : r.trim ≡ trim.None
  pub ready : Ready r
  pub between : ends_at_end r.state ≡ false
  pub left : List ℕ
  pub source : source_of rest_of r ≡ Some left
  pub counted : at + length left ≤ length text
  pub acts : List Activity
  pub table : IsTable rows events acts
  pub few : length events ≤ 100000
  pub fuel : ℕ
  pub enough : length left < fuel
  pub goes : activities_after [] (said cfg text) ≡ activities_after acts (kept (at + 1) head (records_from cfg fuel r.state left))

module _ (text : List ℕ) (cfg : Config) (r r2 : Reader (Bor (List ℕ))) (rows : List Row) (events : List ℤ) (at : ℕ)
    (head : Bool) (w : Standing text cfg r rows events at head) (f : List (List ℕ)) where
  -- the reading ends
  pub stands-end : ReadRecord rest_of r r2 false f
      → (acts : List Activity) × (activities_after [] (said cfg text) ≡ Ok acts) × IsTable rows events acts
  stands-end h = (
    w.acts,
    w.goes ∙ step-end cfg w.acts (at + 1) head w.fuel r.state w.left
        (rows-end rest_of r r2 f cfg w.left w.config w.source h),
    w.table,
  )

  -- one more record
  pub record More : Type 0 where
    pub left : List ℕ
    pub source : source_of rest_of r2 ≡ Some left
    pub step : StepOn cfg w.acts (at + 1) head w.fuel r.state w.left f r2.state left

  pub stands-more : ReadRecord rest_of r r2 true f → More
  stands-more h =
      let g = found-record rest_of r r2 f cfg w.left w.config w.source h in
      record {
        left = g.0;
        source = g.1;
        step =
            step-on cfg w.acts (at + 1) head w.fuel r.state w.left f r2.state g.0 g.2 w.enough w.between;
      }

both-fault : {A B D E : Type 0} (x : Result A E) (g : A → Result B E) (k : B → Result D E) (e : E)
    → and_then x g ≡ Err e → and_then x (λ a. and_then (g a) k) ≡ Err e
both-fault (Err y) g k e h = cc h
both-fault (Ok a) g k e h = rw h refl

both-go : {A B D E : Type 0} (x : Result A E) (g : A → Result B E) (k : B → Result D E) (b : B)
    → and_then x g ≡ Ok b → and_then x (λ a. and_then (g a) k) ≡ k b
both-go (Err y) g k b h = cc h
both-go (Ok a) g k b h = rw h refl

pub err-is : {T E : Type 0} (r : Result T E) (e : E) → IsErrAnd r (λ x. x ≡ e) → r ≡ Err e
err-is (Ok x) e h = absurd h
err-is (Err x) e h = ap Err h

module _ (text : List ℕ) (cfg : Config) (r r2 : Reader (Bor (List ℕ))) (rows : List Row) (events : List ℤ) (at : ℕ)
    (head : Bool) (w : Standing text cfg r rows events at head) (f : List (List ℕ))
    (h : ReadRecord rest_of r r2 true f) where
  -- the reading of one more record uses up bytes
  pub stands-less : bytes_left (source_of rest_of r2) < bytes_left (source_of rest_of r)
  stands-less = let m = stands-more text cfg r r2 rows events at head w f h in rw (m.source, w.source) m.step.less

  -- a record after which the same activities stand
  pub stands-past : (head2 : Bool) → took_first r2 ≡ true
      → ((rest : List (List (List ℕ))) → kept (at + 1) head (f ∷ rest) ≡ kept (at + 1 + 1) head2 rest)
      → Standing text cfg r2 rows events (at + 1) head2
  stands-past head2 first k =
      let m = stands-more text cfg r r2 rows events at head w f h in
      let less : length m.left < length w.left = m.step.less in
      record {
        config = h.2 ∙ w.config;
        trim = h.3 ∙ w.trim;
        ready = inl first;
        between = m.step.between;
        left = m.left;
        source = m.source;
        counted = omega (arith, w.counted);
        acts = w.acts;
        table = w.table;
        few = w.few;
        fuel = m.step.more;
        enough = m.step.enough;
        goes = w.goes ∙ m.step.goes ∙ ap (activities_after w.acts) (k (records_from cfg m.step.more r2.state m.left));
      }

  module _ (counts : is_skipped f ≡ false) (row : head && is_header f ≡ false) where
    -- a record with a fault
    pub stands-fault : (e : ReadRefusal) → and_then (activity_of (at + 1) f) (admit w.acts (at + 1)) ≡ Err e
        → activities_after [] (said cfg text) ≡ Err e
    stands-fault e k =
        let m = stands-more text cfg r r2 rows events at head w f h in
        let rest : List (List (List ℕ)) = records_from cfg m.step.more r2.state m.left in
        w.goes ∙ m.step.goes ∙ ap (activities_after w.acts) (kept-row (at + 1) head f rest counts row)
        ∙ activities-row w.acts (at + 1) f (kept (at + 1 + 1) false rest)
        ∙ both-fault (activity_of (at + 1) f) (admit w.acts (at + 1)) (λ next. activities_after next (kept (at + 1 + 1) false rest)) e k

    -- a record with none
    pub stands-next : (rows2 : List Row) (events2 : List ℤ) (acts2 : List Activity) → took_first r2 ≡ true
        → and_then (activity_of (at + 1) f) (admit w.acts (at + 1)) ≡ Ok acts2 → IsTable rows2 events2 acts2
        → length events2 ≤ 100000 → Standing text cfg r2 rows2 events2 (at + 1) false
    stands-next rows2 events2 acts2 first k table few =
        let m = stands-more text cfg r r2 rows events at head w f h in
        let less : length m.left < length w.left = m.step.less in
        let rest : List (List (List ℕ)) = records_from cfg m.step.more r2.state m.left in
        record {
          config = h.2 ∙ w.config;
          trim = h.3 ∙ w.trim;
          ready = inl first;
          between = m.step.between;
          left = m.left;
          source = m.source;
          counted = omega (arith, w.counted);
          acts = acts2;
          table = table;
          few = few;
          fuel = m.step.more;
          enough = m.step.enough;
          goes = w.goes ∙ m.step.goes ∙ ap (activities_after w.acts) (kept-row (at + 1) head f rest counts row)
              ∙ activities-row w.acts (at + 1) f (kept (at + 1 + 1) false rest)
              ∙ both-go (activity_of (at + 1) f) (admit w.acts (at + 1))
              (λ next. activities_after next (kept (at + 1 + 1) false rest)) acts2 k;
        }

-- the reading begins
pub stands-first : (text : List ℕ) (cfg : Config) (r : Reader (Bor (List ℕ))) (rows : List Row) (events : List ℤ)
    → r.config ≡ cfg → r.trim ≡ trim.None → Ready r → r.state ≡ st.StartRecord
    → source_of rest_of r ≡ Some (strip_bom text) → IsTable rows events [] → length events ≤ 100000 → Standing text cfg r rows events 0 true
stands-first text cfg r rows events c t ready s source table few =
    record {
      config = c;
      trim = t;
      ready = ready;
      between = rw s refl;
      left = strip_bom text;
      source = source;
      counted = omega (arith, strip-shorter text);
      acts = [];
      table = table;
      few = few;
      fuel = length (strip_bom text) + 1;
      enough = omega arith;
      goes = ap (activities_after []) (sym (kept-is 1 (records cfg (strip_bom text)))) ∙ rw s refl;
    }
