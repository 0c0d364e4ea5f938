-- The lines that are left of a text, one after another.
use Rattle.std.proofs.Common.{◌≡◌, ℕ, ◌+◌, ◌<◌, ◌≤◌, true, false, List, [], ◌∷◌, ◌++◌, length, Result, Ok, Err, refl, sym, ap, ◌∙◌, arith, inl, inr, append_assoc}
use Rattle.std.specs.Prelude.{◌==◌}
use Rattle.std.specs.Global.{Vec}
use Rattle.std.specs.Str.{bytes_eq}
use Rattle.std.specs.List.{join_with_byte}
use Rattle.std.proofs.lemmas.Bool.Decides.{nat_tests}
use Rattle.std.proofs.lemmas.Bool.{le-ltb, lt-ltb, ne_eqb}
use Rattle.std.proofs.lemmas.List.{append-nil}
use Rattle.std.proofs.lemmas.List.Splits.{join_with_byte-slice_split}
use Rattle.pesp_truth.specs.Certificates.{Content}
use Rattle.pesp_stream.specs.Words.{pieces}
use Rattle.pesp_cert_lines.specs.declared.fault.LineFault.{LineFault}
use Rattle.pesp_cert_lines.specs.declared.item.Item.{Item}
use Rattle.pesp_cert_lines.specs.declared.progress.Progress.{Progress}
use Rattle.pesp_cert_lines.specs.Counts.{progress_after, ProgressIsKept}
use Rattle.pesp_cert_lines.specs.Lines.{LONGEST}
use Rattle.pesp_cert.specs.declared.refusal.CertRefusal.{CertRefusal}
use Rattle.pesp_cert.specs.declared.refusal.CertRefusal.TheVariants as refusals
use Rattle.pesp_cert.specs.Texts.{is_end}
use Rattle.pesp_cert.specs.Drafts.{blank, added}
use Rattle.pesp_cert.specs.Refusals.{refusal_at}
use Rattle.pesp_cert.proofs.TextSteps.{nonempty}
use Rattle.pesp_cert_items.specs.Works.{WorkValue, HEADER, work_progress}
use Rattle.pesp_cert_items.specs.Lines.{job_at, work_line_at}
use Rattle.pesp_cert_items.specs.Refusals.{Stage, Front, Job, Inside, made, onto, cut_front, other_front, works_from, works_of_text, ReadsWorks}
use Rattle.pesp_cert_items.specs.Steps.{given, TextShrinks, TakesFirstLine, GoesOn, Ends, RefusesWork, IsInside, RefusesInside}

-- ---- the definition, line by line

pub at_empty : (n : ℕ) → works_from n Front ([] ∷ []) ≡ Ok []
unfolding works_from
at_empty n = refl

at_cut_front : (n : ℕ) (line : List ℕ) → (length line == 0) ≡ false → works_from n Front (line ∷ []) ≡ Err (cut_front n line)
unfolding works_from
at_cut_front n line some = rw some refl

pub at_header : (n : ℕ) (line next : List ℕ) (more : List (List ℕ)) → bytes_eq line HEADER ≡ true
    → works_from n Front (line ∷ next ∷ more) ≡ works_from (n + 1) Job (next ∷ more)
unfolding works_from
at_header n line next more h = rw h refl

at_other : (n : ℕ) (line next : List ℕ) (more : List (List ℕ)) → bytes_eq line HEADER ≡ false
    → works_from n Front (line ∷ next ∷ more) ≡ Err (other_front n line)
unfolding works_from
at_other n line next more h = rw h refl

at_long : (n : ℕ) (stage : Stage) (line : List ℕ) (ps : List (List ℕ)) → IsInside stage → LONGEST < length line
    → works_from n stage (line ∷ ps) ≡ Err (refusals.Limit n)
unfolding works_from
at_long n Front line ps inside long = absurd inside
at_long n Job line [] inside long = rw (lt-ltb LONGEST (length line) long) refl
at_long n Job line (next ∷ more) inside long = rw (lt-ltb LONGEST (length line) long) refl
at_long n (Inside job p c) line [] inside long = rw (lt-ltb LONGEST (length line) long) refl
at_long n (Inside job p c) line (next ∷ more) inside long = rw (lt-ltb LONGEST (length line) long) refl

at_cut : (n : ℕ) (stage : Stage) (line : List ℕ) → IsInside stage → length line ≤ LONGEST
    → works_from n stage (line ∷ []) ≡ Err refusals.Truncated
unfolding works_from
at_cut n Front line inside short = absurd inside
at_cut n Job line inside short = rw (le-ltb LONGEST (length line) short) refl
at_cut n (Inside job p c) line inside short = rw (le-ltb LONGEST (length line) short) refl

at_job_fault : (n : ℕ) (line next : List ℕ) (more : List (List ℕ)) (f : LineFault) → length line ≤ LONGEST
    → job_at line ≡ Err f → works_from n Job (line ∷ next ∷ more) ≡ Err (refusal_at n f)
unfolding works_from
at_job_fault n line next more f short h = rw (le-ltb LONGEST (length line) short, h) refl

pub at_job : (n : ℕ) (line next : List ℕ) (more : List (List ℕ)) (job : ℕ) → length line ≤ LONGEST
    → job_at line ≡ Ok job → works_from n Job (line ∷ next ∷ more)
    ≡ works_from (n + 1) (Inside job work_progress blank) (next ∷ more)
unfolding works_from
at_job n line next more job short h = rw (le-ltb LONGEST (length line) short, h) refl

at_fault : (n job : ℕ) (p : Progress) (c : Content) (line next : List ℕ) (more : List (List ℕ)) (f : LineFault)
    → length line ≤ LONGEST → work_line_at p line ≡ Err f
    → works_from n (Inside job p c) (line ∷ next ∷ more) ≡ Err (refusal_at n f)
unfolding works_from
at_fault n job p c line next more f short h = rw (le-ltb LONGEST (length line) short, h) refl

pub at_end : (n job : ℕ) (p : Progress) (c : Content) (line next : List ℕ) (more : List (List ℕ)) (item : Item)
    → length line ≤ LONGEST → work_line_at p line ≡ Ok item → is_end item ≡ true
    → works_from n (Inside job p c) (line ∷ next ∷ more) ≡ onto (made job c) (works_from (n + 1) Front (next ∷ more))
unfolding works_from
at_end n job p c line next more item short h e = rw (le-ltb LONGEST (length line) short, h) (rw e refl)

pub at_item : (n job : ℕ) (p : Progress) (c : Content) (line next : List ℕ) (more : List (List ℕ)) (item : Item)
    → length line ≤ LONGEST → work_line_at p line ≡ Ok item → is_end item ≡ false
    → works_from n (Inside job p c) (line ∷ next ∷ more) ≡ works_from (n + 1) (Inside job (progress_after p item) (added c item)) (next ∷ more)
unfolding works_from
at_item n job p c line next more item short h e = rw (le-ltb LONGEST (length line) short, h) (rw e refl)

-- ---- texts

pub shrinks_by_line : (n : ℕ) (text rest : List ℕ) → length rest < length text → TextShrinks n text (n + 1) rest
shrinks_by_line n text rest lt = record { later = omega arith; shorter = omega (arith, lt) }

pub takes_line : (n m : ℕ) (text line rest : List ℕ) → pieces 10 text ≡ line ∷ pieces 10 rest
    → length rest < length text → length line ≤ LONGEST → m ≡ n + 1 → TakesFirstLine n text line m rest
takes_line n m text line rest cut lt short is =
    record { cut = cut; short = short; number = is; shrinks = rw is (shrinks_by_line n text rest lt) }

some_bytes : (text line : List ℕ) → 0 < length text → pieces 10 text ≡ line ∷ [] → (length line == 0) ≡ false
some_bytes text line some cut =
    let same : line ≡ text = sym (ap (join_with_byte 10) cut) ∙ join_with_byte-slice_split 10 text in
    rw same (ne_eqb (length text) 0 (omega (arith, some)))

pub front_cut : (n : ℕ) (text line : List ℕ) → 0 < length text → pieces 10 text ≡ line ∷ [] → RefusesWork n Front text (cut_front n line)
front_cut n text line some cut = inr (rw cut (at_cut_front n line (some_bytes text line some cut)))

pub front_other : (n : ℕ) (text line rest : List ℕ) → pieces 10 text ≡ line ∷ pieces 10 rest
    → bytes_eq line HEADER ≡ false → RefusesWork n Front text (other_front n line)
front_other n text line rest cut h =
    let some = nonempty rest in
    inr (rw (cut, some.2) (at_other n line some.0 some.1 h))

pub front_header : (n m : ℕ) (text line rest : List ℕ) → pieces 10 text ≡ line ∷ pieces 10 rest
    → length rest < length text → bytes_eq line HEADER ≡ true → m ≡ n + 1 → GoesOn n Front text m Job rest
front_header n m text line rest cut lt h is =
    let some = nonempty rest in
    rw is (record { same = rw (cut, some.2) (at_header n line some.0 some.1 h); shrinks = shrinks_by_line n text rest lt })

pub inside_long : (n : ℕ) (text line : List ℕ) (ps : List (List ℕ)) → pieces 10 text ≡ line ∷ ps
    → LONGEST < length line → RefusesInside n text (refusals.Limit n)
inside_long n text line ps cut long stage inside = rw cut (at_long n stage line ps inside long)

pub inside_cut : (n : ℕ) (text line : List ℕ) → pieces 10 text ≡ line ∷ [] → length line ≤ LONGEST → RefusesInside n text refusals.Truncated
inside_cut n text line cut short stage inside = rw cut (at_cut n stage line inside short)

pub job_fault : (n m : ℕ) (text line rest : List ℕ) (f : LineFault) → TakesFirstLine n text line m rest
    → job_at line ≡ Err f → RefusesWork n Job text (refusal_at n f)
job_fault n m text line rest f taken h =
    let some = nonempty rest in
    inr (rw (taken.cut, some.2) (at_job_fault n line some.0 some.1 f taken.short h))

pub job_taken : (n m : ℕ) (text line rest : List ℕ) (job : ℕ) → TakesFirstLine n text line m rest → job_at line ≡ Ok job
    → GoesOn n Job text m (Inside job work_progress blank) rest
job_taken n m text line rest job taken h =
    let some = nonempty rest in
    record { same = rw (taken.cut, taken.number, some.2) (at_job n line some.0 some.1 job taken.short h); shrinks = taken.shrinks }

-- ---- steps one behind the other

shrinks_then : (n m k : ℕ) (text rest last : List ℕ) → TextShrinks n text m rest → TextShrinks m rest k last → TextShrinks n text k last
shrinks_then n m k text rest last a b = record { later = omega (arith, a.later, b.later); shorter = omega (arith, a.shorter, b.shorter) }

pub goes_ends : (n m k : ℕ) (s t : Stage) (text rest last : List ℕ) (w : WorkValue) → GoesOn n s text m t rest
    → Ends m t rest w k last → Ends n s text w k last
goes_ends n m k s t text rest last w a b = record {
  same = a.same ∙ b.same;
  shrinks = shrinks_then n m k text rest last a.shrinks b.shrinks;
}

pub goes_refuses : (n m : ℕ) (s t : Stage) (text rest : List ℕ) (r : CertRefusal) → GoesOn n s text m t rest
    → RefusesWork m t rest r → RefusesWork n s text r
goes_refuses n m s t text rest r a (inl memory) = inl memory
goes_refuses n m s t text rest r a (inr first) = inr (a.same ∙ first)

-- ---- the lines of a work

-- what is left gives what all gave, and so far the lines said this
pub record IsTakenTo (job first n : ℕ) (text rest : List ℕ) (p : Progress) (c : Content) : Type 0 where
  pub same : given first (Inside job work_progress blank) text ≡ given n (Inside job p c) rest
  pub later : first ≤ n
  pub shorter : n + length rest ≤ first + length text
  pub kept : ProgressIsKept p

pub taken_start : (job n : ℕ) (text : List ℕ) (p : Progress) (c : Content) → p ≡ work_progress → ProgressIsKept p → c ≡ blank
    → IsTakenTo job n n text text p c
taken_start job n text p c at kept none = rw (at, none)
    (record { same = refl; later = omega arith; shorter = omega arith; kept = rw at at kept })

pub taken_refused : (job first n : ℕ) (text rest : List ℕ) (p : Progress) (c : Content) (r : CertRefusal)
    → IsTakenTo job first n text rest p c → RefusesWork n (Inside job p c) rest r
    → RefusesWork first (Inside job work_progress blank) text r
taken_refused job first n text rest p c r so_far (inl memory) = inl memory
taken_refused job first n text rest p c r so_far (inr h) = inr (so_far.same ∙ h)

pub taken_fault : (job first n m : ℕ) (text rest line more : List ℕ) (p : Progress) (c : Content) (f : LineFault)
    → IsTakenTo job first n text rest p c → TakesFirstLine n rest line m more → work_line_at p line ≡ Err f
    → RefusesWork first (Inside job work_progress blank) text (refusal_at n f)
taken_fault job first n m text rest line more p c f so_far taken h =
    let some = nonempty more in
    inr (so_far.same ∙ rw (taken.cut, some.2) (at_fault n job p c line some.0 some.1 f taken.short h))

pub taken_end : (job first n m : ℕ) (text rest line more : List ℕ) (p : Progress) (c : Content) (item : Item)
    → IsTakenTo job first n text rest p c → TakesFirstLine n rest line m more → work_line_at p line ≡ Ok item
    → is_end item ≡ true
    → Ends first (Inside job work_progress blank) text (made job c) m more
taken_end job first n m text rest line more p c item so_far taken h e =
    let some = nonempty more in
    record {
      same = so_far.same ∙ rw (taken.cut, taken.number, some.2) (at_end n job p c line some.0 some.1 item taken.short h e);
      shrinks = record {
        later = omega (arith, so_far.later, taken.shrinks.later);
        shorter = omega (arith, so_far.shorter, taken.shrinks.shorter);
      };
    }

pub taken_more : (job first n m : ℕ) (text rest line more : List ℕ) (p q : Progress) (c d : Content) (item : Item)
    → IsTakenTo job first n text rest p c → TakesFirstLine n rest line m more → work_line_at p line ≡ Ok item
    → is_end item ≡ false
    → q ≡ progress_after p item → ProgressIsKept q → d ≡ added c item → IsTakenTo job first m text more q d
taken_more job first n m text rest line more p q c d item so_far taken h e goes kept is =
    let some = nonempty more in
    let step : given n (Inside job p c) rest ≡ given (n + 1) (Inside job (progress_after p item) (added c item)) more =
    rw (taken.cut, some.2) (at_item n job p c line some.0 some.1 item taken.short h e) in
    record {
      same = rw (goes, is, taken.number) (so_far.same ∙ step);
      later = omega (arith, so_far.later, taken.shrinks.later);
      shorter = omega (arith, so_far.shorter, taken.shrinks.shorter);
      kept = kept;
    }

-- ---- the works of a text

-- works in front of those that are read
abbrev pub behind : List WorkValue → Result (List WorkValue) CertRefusal → Result (List WorkValue) CertRefusal
behind ws (Ok others) = Ok (ws ++ others)
behind ws (Err r) = Err r

-- what is left gives, behind the works so far, what all gives
pub record IsReadTo (all rest : List ℕ) (n : ℕ) (ws : List WorkValue) : Type 0 where
  pub same : behind ws (given n Front rest) ≡ works_of_text all
  pub shorter : n + length rest ≤ 1 + length all

behind_nothing : (r : Result (List WorkValue) CertRefusal) → behind [] r ≡ r
behind_nothing (Ok ws) = refl
behind_nothing (Err e) = refl

pub read_start : (all : List ℕ) → IsReadTo all all 1 []
read_start all = record { same = behind_nothing (given 1 Front all); shorter = omega arith }

nil_of : (text : List ℕ) → (length text == 0) ≡ true → text ≡ []
nil_of [] h = refl
nil_of (c ∷ cs) h = absurd (grind (arith, nat_tests, h))

pub read_end : (all rest : List ℕ) (n : ℕ) (v : Vec WorkValue) → IsReadTo all rest n v.items
    → (length rest == 0) ≡ true → ReadsWorks (Ok v) (works_of_text all)
read_end all rest n v so_far none =
    let nothing : given n Front rest ≡ Ok [] = ap (given n Front) (nil_of rest none) ∙ at_empty n in
    sym so_far.same ∙ ap (behind v.items) nothing ∙ ap Ok (append-nil v.items)

pub read_refused : (all rest : List ℕ) (n : ℕ) (ws : List WorkValue) (r : CertRefusal) → IsReadTo all rest n ws
    → RefusesWork n Front rest r → ReadsWorks (Err r) (works_of_text all)
read_refused all rest n ws r so_far (inl memory) = inl memory
read_refused all rest n ws r so_far (inr h) = inr (sym so_far.same ∙ ap (behind ws) h)

behind_onto : (ws : List WorkValue) (w : WorkValue) (r : Result (List WorkValue) CertRefusal)
    → behind (ws ++ w ∷ []) r ≡ behind ws (onto w r)
behind_onto ws w (Ok others) = ap Ok (append_assoc ws (w ∷ []) others)
behind_onto ws w (Err e) = refl

pub read_more : (all rest more : List ℕ) (n m : ℕ) (ws : List WorkValue) (w : WorkValue) → IsReadTo all rest n ws
    → Ends n Front rest w m more → IsReadTo all more m (ws ++ w ∷ [])
read_more all rest more n m ws w so_far ends = record {
  same = behind_onto ws w (given m Front more) ∙ ap (behind ws) (sym ends.same) ∙ so_far.same;
  shorter = omega (arith, so_far.shorter, ends.shrinks.shorter);
}
