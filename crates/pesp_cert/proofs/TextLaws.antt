-- The whole text: what is read is spelt so, and what is spelt is read. No text begins another.
use Rattle.std.proofs.Common.{◌≡◌, ℕ, zero, suc, ◌+◌, Bool, true, false, cond, not, List, [], ◌∷◌, ◌++◌, length, Option, Some, None, Result, Ok, Err, refl, sym, subst, ap, ◌∙◌, arith, inl, inr, append_assoc}
use Rattle.std.specs.Prelude.{IsErrAnd, IsOkAnd, nat_lt, ◌==◌, ◌⊎◌}
use Rattle.std.specs.List.{list_all, All, join_with_byte, flat_map, AllByRecursion}
use Rattle.std.proofs.lemmas.Bool.Decides.{nat_tests}
use Rattle.std.proofs.lemmas.List.{append-nil}
use Rattle.std.proofs.lemmas.List.Concat.{flat_map-cons}
use Rattle.std.proofs.lemmas.List.Splits.{slice_split_at, join_with_byte-slice_split}
use Rattle.pesp_cert_lines.specs.declared.fault.LineFault.{LineFault}
use Rattle.pesp_cert.specs.declared.refusal.CertRefusal.{CertRefusal}
use Rattle.pesp_cert.specs.declared.refusal.CertRefusal.TheVariants as refusals
use Rattle.pesp_cert_lines.specs.declared.progress.Progress.{Progress}
use Rattle.pesp_cert_lines.specs.declared.versions.Versions.{Versions}
use Rattle.pesp_cert_lines.specs.declared.versions.Versions.TheVariants as readers
use Rattle.pesp_truth.specs.Certificates.{Front, Content}
use Rattle.pesp_stream.specs.Words.{is_byte, pieces, spaced, line_of_words}
use Rattle.pesp_cert_lines.specs.declared.item.Item.{Item}
use Rattle.pesp_cert_lines.specs.Items.{item_words, item_line}
use Rattle.pesp_cert_lines.specs.Counts.{beginning, progress_after, CanStand}
use Rattle.pesp_cert_lines.specs.Lines.{LONGEST, line_at}
use Rattle.pesp_cert.specs.Texts.{is_end, IsRun, text_of, items_of, spelling, takes, NoneBeginsAnother}
use Rattle.pesp_cert.specs.Refusals.{items_from, items_of_text, onto, is_nothing, refusal_at, IsTextOf, ReadsTexts, ReadsWhole}
use Rattle.pesp_cert_lines.proofs.Tests.{cases, and_left, and_right}
use Rattle.pesp_cert.proofs.TextSteps.{nonempty, at_end, at_item, nothing_more}
use Rattle.pesp_cert.specs.Drafts.{blank, all_added, FrontValue, no_front, all_noted, front_said, ReadsItems}
use Rattle.pesp_cert.proofs.DraftLaws.{all_added-items_of, front_said-items_of}
use Rattle.pesp_cert.proofs.FrontRuns.{has_text, text_run, fronts_iff}
use Rattle.pesp_cert.proofs.Runs.{limits_give, text_keeps_limits}
use Rattle.pesp_cert.specs.Limits.{keeps_limits}
use Rattle.pesp_cert.proofs.RunLaws.{run_content}
use Rattle.pesp_cert.proofs.ShortLaws.{IsShort, run_short}
use Rattle.pesp_cert_lines.proofs.LineLaws.{line_found, line_read, item_plain, is_plain, is_inner, all_plain}

-- what one step of reading that gives items says
is_ok : (b : Bool) (r : CertRefusal) (q : Result (List Item) CertRefusal) (items : List Item) → cond b (Err r) q ≡ Ok items → q ≡ Ok items
is_ok true r q items h = absurd cc
is_ok false r q items h = h

onto_ok : (item : Item) (q : Result (List Item) CertRefusal) (items : List Item) → onto item q ≡ Ok items
    → (rest : List Item) × (q ≡ Ok rest) × (items ≡ item ∷ rest)
onto_ok item (Err r) items h = absurd cc
onto_ok item (Ok rest) items h = (rest, refl, cc)

-- the items that were found: their lines are the text, and they are a run
pub record AreFound (p : Progress) (pcs : List (List ℕ)) (items : List Item) : Type 0 where
  pub text : join_with_byte 10 pcs ≡ flat_map item_line items
  pub run : IsRun p items

nothing_is : (next : List ℕ) (more : List (List ℕ)) → is_nothing (next ∷ more) ≡ true → (next ≡ []) × (more ≡ [])
nothing_is [] [] h = (refl, refl)
nothing_is [] (m ∷ ms) h = absurd (grind (arith, nat_tests, h))
nothing_is (c ∷ cs) more h = absurd (grind (arith, nat_tests, h))

ends : (p : Progress) (line next : List ℕ) (more : List (List ℕ)) (item : Item) (n : ℕ) (items : List Item)
    → (line ≡ line_of_words (item_words item)) × CanStand p item → is_end item ≡ true
    → cond (is_nothing (next ∷ more)) (Ok (item ∷ [])) (Err (refusals.Trailing n)) ≡ Ok items → AreFound p (line ∷ next ∷ more) items
ends p line next more item n items found e h = go (is_nothing (next ∷ more)) refl h
  where
    go : (b : Bool) → is_nothing (next ∷ more) ≡ b → cond b (Ok (item ∷ [])) (Err (refusals.Trailing n)) ≡ Ok items
        → AreFound p (line ∷ next ∷ more) items
    go false t h = absurd cc
    go true t h =
        let nothing = nothing_is next more t in
        let same : item ∷ [] ≡ items = cc in
        rw (← same, nothing.0, nothing.1) (record {
          text =
              rw (found.0, flat_map-cons item_line item [], append-nil) refl;
          run = (found.1, e);
        })

run_onto : (p : Progress) (item : Item) (rest : List Item) → CanStand p item → is_end item ≡ false
    → IsRun (progress_after p item) rest → IsRun p (item ∷ rest)
run_onto p item [] can e h = absurd h
run_onto p item (next ∷ more) can e h = (can, e, h)

goes_on : (p : Progress) (line next : List ℕ) (more : List (List ℕ)) (item : Item) (rest items : List Item)
    → (line ≡ line_of_words (item_words item)) × CanStand p item → is_end item ≡ false
    → AreFound (progress_after p item) (next ∷ more) rest → items ≡ item ∷ rest → AreFound p (line ∷ next ∷ more) items
goes_on p line next more item rest items found e others same =
    rw same (record {
      text = rw (flat_map-cons item_line item rest)
          (rw (found.0, others.text) (sym (append_assoc (line_of_words (item_words item)) (10 ∷ [])
          (flat_map item_line rest))));
      run = run_onto p item rest found.1 e others.run;
    })

pub items_found : (n : ℕ) (p : Progress) (pcs : List (List ℕ)) (items : List Item) → items_from n p pcs ≡ Ok items → AreFound p pcs items
unfolding items_from
items_found n p [] items h = absurd cc
items_found n p (line ∷ []) items h = go (nat_lt LONGEST (length line)) h
  where
    go : (b : Bool) → cond b (Err (refusals.Limit n)) (Err refusals.Truncated) ≡ Ok items → AreFound p (line ∷ []) items
    go true h = absurd cc
    go false h = absurd cc
items_found n p (line ∷ next ∷ more) items h =
    at (line_at p line) refl (λ q rest e. items_found (n + 1) q (next ∷ more) rest e)
    (is_ok (nat_lt LONGEST (length line)) (refusals.Limit n) _ items h)
  where
    at : (r : Result Item LineFault) → line_at p line ≡ r
        → ((q : Progress) (rest : List Item) → items_from (n + 1) q (next ∷ more) ≡ Ok rest
        → AreFound q (next ∷ more) rest) → elim r as (λ r. Result (List Item) CertRefusal) [
          | Err f ↦ Err (refusal_at n f)
          | Ok item ↦ cond (is_end item) (cond (is_nothing (next ∷ more)) (Ok (item ∷ []))
              (Err (refusals.Trailing (n + 1)))) (onto item (items_from (n + 1) (progress_after p item) (next ∷ more)))
        ] ≡ Ok items → AreFound p (line ∷ next ∷ more) items
    at (Err f) e others h = absurd cc
    at (Ok item) e others h =
        elim (cases (is_end item)) [
          | inl last ↦ ends p line next more item (n + 1) items (line_found p line item e) last (rw last at h)
          | inr goes ↦
              let o = onto_ok item (items_from (n + 1) (progress_after p item) (next ∷ more)) items (rw goes at h) in
              goes_on p line next more item o.0 items (line_found p line item e) goes (others (progress_after p item) o.0 o.1) o.2
        ]

-- ---- what is spelt is read, whatever stands behind it

all_append : (t : ℕ → Bool) (xs ys : List ℕ) → list_all t xs ≡ true → list_all t ys ≡ true → list_all t (xs ++ ys) ≡ true
all_append t [] ys h k = k
all_append t (x ∷ xs) ys h k = rw (and_left (t x) (list_all t xs) h, all_append t xs ys (and_right (t x) (list_all t xs) h) k) refl

abbrev not_lf : ℕ → Bool
not_lf b = not (b == 10)

word_lf : (w : List ℕ) → list_all is_inner w ≡ true → list_all not_lf w ≡ true
word_lf [] h = refl
word_lf (b ∷ bs) h = rw (
  and_right (not (b == 32)) (not (b == 10))
      (and_left (is_inner b) (list_all is_inner bs) h),
  word_lf bs (and_right (is_inner b) (list_all is_inner bs) h),
)
    refl

plain_lf : (w : List ℕ) → is_plain w ≡ true → list_all not_lf w ≡ true
plain_lf w h = word_lf w (and_right (not (length w == 0)) (list_all is_inner w) h)

spaced_lf : (ws : List (List ℕ)) → all_plain ws ≡ true → list_all not_lf (spaced ws) ≡ true
spaced_lf [] h = refl
spaced_lf (w ∷ ws) h = all_append not_lf (32 ∷ w) (spaced ws) (plain_lf w (and_left (is_plain w) (all_plain ws) h))
    (spaced_lf ws (and_right (is_plain w) (all_plain ws) h))

pub line_lf : (ws : List (List ℕ)) → all_plain ws ≡ true → list_all not_lf (line_of_words ws) ≡ true
line_lf [] h = refl
line_lf (w ∷ ws) h = all_append not_lf w (spaced ws) (plain_lf w (and_left (is_plain w) (all_plain ws) h))
    (spaced_lf ws (and_right (is_plain w) (all_plain ws) h))

pub no_lf : (w : List ℕ) → list_all not_lf w ≡ true → All (λ b. is_byte 10 b ≡ false) w
no_lf [] h k d lt = absurd (omega arith)
no_lf (b ∷ bs) h zero d lt = grind (arith, nat_tests, and_left (not_lf b) (list_all not_lf bs) h)
no_lf (b ∷ bs) h (suc k) d lt = no_lf bs (and_right (not_lf b) (list_all not_lf bs) h) k d (omega arith)

pub line_cut : (p : Progress) (item : Item) (rest : List ℕ) → CanStand p item
    → pieces 10 (item_line item ++ rest) ≡ line_of_words (item_words item) ∷ pieces 10 rest
line_cut p item rest can =
    rw append_assoc (slice_split_at (is_byte 10) (line_of_words (item_words item)) 10 rest
    (no_lf (line_of_words (item_words item)) (line_lf (item_words item)
    (item_plain item can.proper can.within))) refl)

pub items_read : (items : List Item) (n m : ℕ) (p : Progress) (more : List ℕ) → IsRun p items
    → AllByRecursion IsShort items → m ≡ n + length items
    → items_from n p (pieces 10 (flat_map item_line items ++ more)) ≡ cond (length more == 0) (Ok items) (Err (refusals.Trailing m))
items_read [] n m p more run short last = absurd run
items_read (item ∷ []) n m p more run short last =
    let some = nonempty more in
    let cut : pieces 10 (flat_map item_line (item ∷ []) ++ more)
    ≡ line_of_words (item_words item) ∷ some.0 ∷ some.1 =
    ap (λ (t : List ℕ). pieces 10 (t ++ more)) (flat_map-cons item_line item [] ∙ append-nil (item_line item))
    ∙ line_cut p item more run.0 ∙ ap (λ (ps : List (List ℕ)). line_of_words (item_words item) ∷ ps) some.2 in
    let test : is_nothing (some.0 ∷ some.1) ≡ (length more == 0) = ap is_nothing (sym some.2) ∙ nothing_more more in
    let number : n + 1 ≡ m = omega (arith, last) in
    rw cut (at_end n p (line_of_words (item_words item)) some.0 some.1 item short.0 (line_read p item run.0) run.1 ∙ rw (test, number) refl)
items_read (item ∷ next ∷ others) n m p more run short last =
    let rest : List ℕ = flat_map item_line (next ∷ others) ++ more in
    let some = nonempty rest in
    let cut : pieces 10 (flat_map item_line (item ∷ next ∷ others) ++ more)
    ≡ line_of_words (item_words item) ∷ some.0 ∷ some.1 =
    ap (λ (t : List ℕ). pieces 10 (t ++ more)) (flat_map-cons item_line item (next ∷ others))
    ∙ ap (pieces 10) (append_assoc (item_line item) (flat_map item_line (next ∷ others)) more)
    ∙ line_cut p item rest run.0 ∙ ap (λ (ps : List (List ℕ)). line_of_words (item_words item) ∷ ps) some.2 in
    let later = items_read (next ∷ others) (n + 1) m (progress_after p item) more run.2 short.1 (omega (arith, last)) in
    let step = at_item n p (line_of_words (item_words item)) some.0 some.1 item short.0 (line_read p item run.0) run.1 in
    rw cut (step ∙ ap (onto item) (ap (items_from (n + 1) (progress_after p item)) (sym some.2) ∙ later)
    ∙ through item (length more == 0) (next ∷ others) m)
  where
    through : (item : Item) (b : Bool) (rest : List Item) (m : ℕ)
        → onto item (cond b (Ok rest) (Err (refusals.Trailing m)))
        ≡ cond b (Ok (item ∷ rest)) (Err (refusals.Trailing m))
    through item true rest m = refl
    through item false rest m = refl

-- ---- whole texts

pub text_read : (versions : Versions) (items : List Item) (more : List ℕ) → IsRun (beginning versions) items
    → items_of_text versions (text_of items ++ more) ≡ cond (length more == 0) (Ok items)
    (Err (refusals.Trailing (1 + length items)))
unfolding items_of_text
text_read versions items more run =
    items_read items 1 (1 + length items) (beginning versions) more run (run_short (beginning versions) items run) refl

pub text_found : (versions : Versions) (text : List ℕ) (items : List Item) → items_of_text versions text ≡ Ok items
    → (text ≡ text_of items) × IsRun (beginning versions) items
unfolding items_of_text
text_found versions text items h =
    let found = items_found 1 (beginning versions) (pieces 10 text) items h in
    (sym (join_with_byte-slice_split 10 text) ∙ found.text, found.run)

-- ---- no text begins another

begun : (b : Bool) (items others : List Item) (m : ℕ) → cond b (Ok items) (Err (refusals.Trailing m)) ≡ Ok others
    → (b ≡ true) × (items ≡ others)
begun true items others m h = (refl, cc)
begun false items others m h = absurd cc

nil_is : (more : List ℕ) → (length more == 0) ≡ true → more ≡ []
nil_is [] h = refl
nil_is (c ∷ cs) h = absurd (grind (arith, nat_tests, h))

pub none_begins : (a b : List Item) (more : List ℕ) → IsRun (beginning readers.All) a → IsRun (beginning readers.All) b
    → text_of a ++ more ≡ text_of b → (a ≡ b) × (more ≡ [])
none_begins a b more run_a run_b same =
    let whole : items_of_text readers.All (text_of b)
    ≡ Ok b = ap (items_of_text readers.All) (sym (append-nil (text_of b))) ∙ text_read readers.All b [] run_b in
    let both : cond (length more == 0) (Ok a) (Err (refusals.Trailing (1 + length a)))
    ≡ Ok b = sym (text_read readers.All a more run_a) ∙ ap (items_of_text readers.All) same ∙ whole in
    let t = begun (length more == 0) a b (1 + length a) both in
    (t.1, nil_is more t.0)

-- ---- contents

-- what is read whole is some content's text
pub text_found_of : (versions : Versions) (text : List ℕ) (items : List Item) → items_of_text versions text ≡ Ok items
    → (front : Option Front) × (c : Content) × (items ≡ items_of front c) × IsTextOf front text c × (takes versions front ≡ true)
text_found_of versions text items h =
    let t = text_found versions text items h in
    let c = run_content versions items t.1 in
    let run : IsRun (beginning versions) (items_of c.0 c.1) =
    let P : List Item → Type 0 = λ is. IsRun (beginning versions) is in subst P c.2 t.1 in (
      c.0,
      c.1,
      c.2,
      record { has_text = has_text versions c.0 c.1 c.3 run; spelt = t.0 ∙ ap text_of c.2 },
      c.3,
    )

pub text_read_of : (versions : Versions) (front : Option Front) (text : List ℕ) (c : Content) → IsTextOf front text c
    → takes versions front ≡ true → items_of_text versions text ≡ Ok (items_of front c)
text_read_of versions front text c is taken =
    ap (items_of_text versions) (is.spelt ∙ sym (append-nil (spelling front c)))
    ∙ text_read versions (items_of front c) [] (text_run versions front c taken is.has_text)

pub none_begins_another : NoneBeginsAnother
none_begins_another f g a b more text_a text_b same =
    let t = none_begins (items_of f a) (items_of g b) more text_a.run text_b.run same in (
      sym (front_said-items_of f a) ∙ ap (λ (is : List Item). front_said (all_noted no_front is)) t.0 ∙ front_said-items_of g b,
      sym (all_added-items_of f a) ∙ ap (all_added no_front blank) t.0 ∙ all_added-items_of g b,
      t.1,
    )

-- ---- what a reader answers

-- what was said whole is the front and the content of the text
pub reads_whole : (versions : Versions) (text : List ℕ) (f : FrontValue) (d : Content)
    → ReadsItems (Ok (f, d)) (items_of_text versions text)
    → IsTextOf (front_said f) text d × (takes versions (front_said f) ≡ true)
reads_whole versions text f d r =
    let t = text_found_of versions text r.0 r.1 in
    let front : front_said f ≡ t.0 = ap front_said (r.2 ∙ ap (all_noted no_front) t.2) ∙ front_said-items_of t.0 t.1 in
    let same : d ≡ t.1 = r.3 ∙ ap (all_added no_front blank) t.2 ∙ all_added-items_of t.0 t.1 in
    rw (front, same) (t.3, t.4)

-- the content of a text whose front is taken is read
pub whole_reads : (versions : Versions) (text : List ℕ) (f : FrontValue) (d : Content) (front : Option Front) (c : Content)
    → ReadsItems (Ok (f, d)) (items_of_text versions text) → IsTextOf front text c → takes versions front ≡ true
    → (front_said f ≡ front) × (d ≡ c)
whole_reads versions text f d front c r is taken =
    let items : r.0 ≡ items_of front c =
    (let e : Ok r.0 ≡ Ok (items_of front c) = sym r.1 ∙ text_read_of versions front text c is taken in cc) in (
      ap front_said (r.2 ∙ ap (all_noted no_front) items) ∙ front_said-items_of front c,
      r.3 ∙ ap (all_added no_front blank) items ∙ all_added-items_of front c,
    )

plain_is : (front : Option Front) → takes readers.Plain front ≡ true → None ≡ front
plain_is None h = refl
plain_is (Some f) h = absurd cc

-- what a reader of these versions answers
pub reads_text : (versions : Versions) (text : List ℕ) (f : FrontValue) (d : Content)
    → ReadsItems (Ok (f, d)) (items_of_text versions text) → ReadsWhole versions text (Ok (f, d))
reads_text versions text f d r front c is taken = inl (whole_reads versions text f d front c r is taken)

pub reads_none : (versions : Versions) (text : List ℕ) (e : CertRefusal) → ReadsItems (Err e) (items_of_text versions text)
    → ReadsWhole versions text (Err e)
reads_none versions text e (inl memory) front c is taken = inr (ap Err memory)
reads_none versions text e (inr first) front c is taken =
    let bad : Err e ≡ Ok (items_of front c) = sym first ∙ text_read_of versions front text c is taken in absurd cc

pub whole_keeps : (front : Option Front) (text : List ℕ) (c : Content) → IsTextOf front text c → keeps_limits c ≡ true
whole_keeps front text c is = text_keeps_limits c (limits_give c ((fronts_iff front c).1 is.has_text).1)

-- without a front
pub plain_found : (text : List ℕ) (f : FrontValue) (c : Content) → IsTextOf (front_said f) text c
    → takes readers.Plain (front_said f) ≡ true → IsTextOf None text c
plain_found text f c is taken = rw (plain_is (front_said f) taken) is

pub plain_reads : (text : List ℕ) (f : FrontValue) (c : Content) → ReadsWhole readers.Plain text (Ok (f, c)) → ReadsTexts text (Ok c)
plain_reads text f c reads d is = go (reads None d is refl)
  where
    go : IsOkAnd {T = FrontValue × Content} {E = CertRefusal} (Ok (f, c)) (λ p. (front_said p.0 ≡ None) × (p.1 ≡ d))
        ⊎ (◌≡◌ {A = Result (FrontValue × Content) CertRefusal} (Ok (f, c)) (Err refusals.Memory))
        → (◌≡◌ {A = Result Content CertRefusal} (Ok c) (Ok d)) ⊎ (◌≡◌ {A = Result Content CertRefusal} (Ok c) (Err refusals.Memory))
    go (inl same) = inl (ap Ok same.1)
    go (inr bad) = absurd cc

pub plain_none : (text : List ℕ) (e : CertRefusal) → ReadsWhole readers.Plain text (Err e) → ReadsTexts text (Err e)
plain_none text e reads d is = go (reads None d is refl)
  where
    go : IsOkAnd {T = FrontValue × Content} {E = CertRefusal} (Err e) (λ p. (front_said p.0 ≡ None) × (p.1 ≡ d))
        ⊎ (◌≡◌ {A = Result (FrontValue × Content) CertRefusal} (Err e) (Err refusals.Memory))
        → (◌≡◌ {A = Result Content CertRefusal} (Err e) (Ok d)) ⊎ (◌≡◌ {A = Result Content CertRefusal} (Err e) (Err refusals.Memory))
    go (inl bad) = absurd bad
    go (inr same) = inr cc

pub err_is : {A : Type 0} (r : Result A CertRefusal) (e : CertRefusal) → IsErrAnd r (λ x. x ≡ e) → r ≡ Err e
err_is (Ok c) e h = absurd h
err_is (Err x) e h = ap Err h

-- what is read whole of a text without a front is some content's text
pub plain_found_of : (text : List ℕ) (items : List Item) → items_of_text readers.Plain text ≡ Ok items
    → (c : Content) × (items ≡ items_of None c) × IsTextOf None text c
plain_found_of text items h = let t = text_found_of readers.Plain text items h in go t.0 t.1 t.2 t.3 t.4
  where
    go : (front : Option Front) (c : Content) → items ≡ items_of front c → IsTextOf front text c → takes readers.Plain front ≡ true
        → (c : Content) × (items ≡ items_of None c) × IsTextOf None text c
    go None c same is taken = (c, same, is)
    go (Some f) c same is taken = absurd cc

pub plain_read_of : (text : List ℕ) (c : Content) → IsTextOf None text c → items_of_text readers.Plain text ≡ Ok (items_of None c)
plain_read_of text c is = text_read_of readers.Plain None text c is refl
