-- What is read as works is spelt so.
use Rattle.std.proofs.Common.{◌≡◌, ℕ, ◌+◌, ◌≤◌, Bool, true, false, cond, not, List, [], ◌∷◌, ◌++◌, length, Result, Ok, Err, refl, sym, subst, ap, ◌∙◌, arith, inl, inr, append_assoc, append-nil}
use Rattle.std.specs.Prelude.{map, nat_lt, ◌==◌}
use Rattle.std.specs.List.{list_all, join_with_byte, flat_map, AllByRecursion}
use Rattle.std.specs.Str.{bytes_eq}
use Rattle.std.proofs.lemmas.Bool.{ne_eqb}
use Rattle.std.proofs.lemmas.List.Concat.{flat_map-cons}
use Rattle.std.proofs.lemmas.Slice.Eq.{bytes_eq-Decides}
use Rattle.pesp_problem.specs.declared.row.SignedRow.{SignedRow}
use Rattle.pesp_truth.specs.Certificates.{Content}
use Rattle.pesp_stream.specs.Words.{words_of, line_of_words}
use Rattle.pesp_cert_lines.specs.declared.fault.LineFault.{LineFault}
use Rattle.pesp_cert_lines.specs.declared.fault.LineFault.TheVariants as faults
use Rattle.pesp_cert_lines.specs.declared.item.Item.{Item}
use Rattle.pesp_cert_lines.specs.declared.item.Item.TheVariants.{Cycle, End}
use Rattle.pesp_cert_lines.specs.declared.progress.Progress.{Progress}
use Rattle.pesp_cert_lines.specs.Items.{item_words, item_line}
use Rattle.pesp_cert_lines.specs.Counts.{progress_after, CanStand}
use Rattle.pesp_cert_lines.specs.Lines.{LONGEST, line_at}
use Rattle.pesp_cert_lines.proofs.Tests.{cases, and_left, and_right, and_both}
use Rattle.pesp_cert_lines.proofs.LineLaws.{line_found, words_of-item}
use Rattle.pesp_cert.specs.declared.refusal.CertRefusal.{CertRefusal}
use Rattle.pesp_cert.specs.declared.refusal.CertRefusal.TheVariants as refusals
use Rattle.pesp_cert.specs.Texts.{is_end, IsRun, time_item, tree_item}
use Rattle.pesp_cert.specs.Drafts.{blank, added}
use Rattle.pesp_cert.specs.Refusals.{refusal_at}
use Rattle.pesp_cert_items.proofs.Added.{all_added, end_adds, times_added, tree_added}
use Rattle.pesp_cert.proofs.Runs.{run_onto}
use Rattle.pesp_cert.proofs.RunLaws.{time_run}
use Rattle.pesp_cert_items.specs.Works.{WorkValue, HEADER, job_line, work_items, work_progress, work_spelling, spellings, HasWorkText}
use Rattle.pesp_cert_items.specs.Lines.{job_at, begins_cycle, work_line_at}
use Rattle.pesp_cert_items.specs.Refusals.{Stage, Front, Job, Inside, made, onto, cut_front, other_front, works_from}
use Rattle.pesp_cert_items.proofs.Jobs.{job_found}

-- the item is not a cycle's
abbrev pub is_other : Item → Bool
is_other item = not (begins_cycle (item_words item))

-- ---- one line

-- what a line of a work says may stand there, is spelt so, and is no cycle
pub record IsLine (p : Progress) (line : List ℕ) (item : Item) : Type 0 where
  pub spelt : line ≡ line_of_words (item_words item)
  pub can : CanStand p item
  pub other : is_other item ≡ true

pub work_line_found : (p : Progress) (line : List ℕ) (item : Item) → work_line_at p line ≡ Ok item → IsLine p line item
unfolding work_line_at
work_line_found p line item h = go (begins_cycle (words_of line)) refl h
  where
    go : (b : Bool) → begins_cycle (words_of line) ≡ b → cond b (Err faults.Line) (line_at p line) ≡ Ok item → IsLine p line item
    go true is e = absurd cc
    go false is e =
        let found = line_found p line item e in
        let words : words_of line ≡ item_words item = ap words_of found.0 ∙ words_of-item item found.1.proper found.1.within in
        record { spelt = found.0; can = found.1; other = rw words at (ap not is) }

-- ---- what was found at each stage

pub record AreWhole (text : List ℕ) (ws : List WorkValue) : Type 0 where
  pub spelt : text ≡ spellings ws
  pub have : AllByRecursion HasWorkText ws

pub record IsBehindHeader (text : List ℕ) (ws : List WorkValue) : Type 0 where
  pub work : WorkValue
  pub rest : List WorkValue
  pub is : ws ≡ work ∷ rest
  pub has : HasWorkText work
  pub spelt : text ≡ (job_line work.job ++ 10 ∷ flat_map item_line (work_items work)) ++ spellings rest
  pub have : AllByRecursion HasWorkText rest

pub record IsInsideWork (job : ℕ) (p : Progress) (c : Content) (text : List ℕ) (ws : List WorkValue) : Type 0 where
  pub items : List Item
  pub rest : List WorkValue
  pub is : ws ≡ made job (all_added c items) ∷ rest
  pub run : IsRun p items
  pub others : list_all is_other items ≡ true
  pub spelt : text ≡ flat_map item_line items ++ spellings rest
  pub have : AllByRecursion HasWorkText rest

abbrev pub IsFound : Stage → List ℕ → List WorkValue → Type 0
IsFound Front text ws = AreWhole text ws
IsFound Job text ws = IsBehindHeader text ws
IsFound (Inside job p c) text ws = IsInsideWork job p c text ws

-- ---- a work's lines

all_right : {A : Type 0} (t : A → Bool) (xs ys : List A) → list_all t (xs ++ ys) ≡ true → list_all t ys ≡ true
all_right t [] ys h = h
all_right t (x ∷ xs) ys h = all_right t xs ys (and_right (t x) (list_all t (xs ++ ys)) h)

no_cycles : (cs : List (List SignedRow)) (more : List Item) → list_all is_other (map Cycle cs ++ more) ≡ true → cs ≡ []
no_cycles [] more h = refl
no_cycles (w ∷ cs) more h = let bad = and_left (is_other (Cycle w)) (list_all is_other (map Cycle cs ++ more)) h in absurd cc

-- a run without cycles is that of the work to which its lines add up
work_run : (job : ℕ) (items : List Item) → IsRun work_progress items → list_all is_other items ≡ true
    → items ≡ work_items (made job (all_added blank items))
work_run job items run others =
    let t = time_run work_progress items refl refl refl run in
    let behind : List Item = map tree_item t.2 ++ End ∷ [] in
    let none : t.1 ≡ [] = no_cycles t.1 behind (all_right is_other (map time_item t.0) (map Cycle t.1 ++ behind) (rw t.3 at others)) in
    let shape : items ≡ map time_item t.0 ++ behind = t.3
    ∙ ap (λ (cs : List (List SignedRow)). map time_item t.0 ++ (map Cycle cs ++ behind)) none in
    let adds : all_added blank items ≡ record blank { times = t.0; tree = t.2 } = ap (all_added blank) shape
    ∙ times_added blank t.0 behind ∙ tree_added (record blank { times = t.0 }) t.2 (End ∷ []) in
    shape ∙ ap (λ (c : Content). work_items (made job c)) (sym adds)

-- ---- the lines one after another

front_goes : (line next : List ℕ) (more : List (List ℕ)) (ws : List WorkValue) → line ≡ HEADER
    → IsBehindHeader (join_with_byte 10 (next ∷ more)) ws → AreWhole (join_with_byte 10 (line ∷ next ∷ more)) ws
front_goes line next more ws head found =
    let w = found.work in
    let rest : List ℕ = job_line w.job ++ 10 ∷ flat_map item_line (work_items w) in
    let cons : spellings ws ≡ work_spelling w ++ spellings found.rest = ap spellings found.is ∙ flat_map-cons work_spelling w found.rest in
    let shape : work_spelling w ++ spellings found.rest
    ≡ HEADER ++ 10 ∷ (rest ++ spellings found.rest) = append_assoc HEADER (10 ∷ rest) (spellings found.rest) in
    record { spelt = rw (head, found.spelt) (sym (cons ∙ shape)); have = rw found.is (found.has, found.have) }

job_goes : (job : ℕ) (line next : List ℕ) (more : List (List ℕ)) (ws : List WorkValue)
    → (line ≡ job_line job) × (job ≤ 999999) → IsInsideWork job work_progress blank (join_with_byte 10 (next ∷ more)) ws
    → IsBehindHeader (join_with_byte 10 (line ∷ next ∷ more)) ws
job_goes job line next more ws said found =
    let work : WorkValue = made job (all_added blank found.items) in
    let same : found.items ≡ work_items work = work_run job found.items found.run found.others in
    let lines : List ℕ = flat_map item_line (work_items work) in
    let P : List Item → Type 0 = λ items. IsRun work_progress items in
    let spelt : join_with_byte 10 (next ∷ more) ≡ lines ++ spellings found.rest = found.spelt
    ∙ ap (λ (items : List Item). flat_map item_line items ++ spellings found.rest) same in
    record {
      work = work;
      rest = found.rest;
      is = found.is;
      has = record { job = said.1; run = subst P same found.run };
      spelt = rw (said.0, spelt) (sym (append_assoc (job_line job) (10 ∷ lines) (spellings found.rest)));
      have = found.have;
    }

end_goes : (job : ℕ) (p : Progress) (c : Content) (line next : List ℕ) (more : List (List ℕ)) (item : Item)
    (rest ws : List WorkValue) → IsLine p line item → is_end item ≡ true
    → AreWhole (join_with_byte 10 (next ∷ more)) rest → ws ≡ made job c ∷ rest
    → IsInsideWork job p c (join_with_byte 10 (line ∷ next ∷ more)) ws
end_goes job p c line next more item rest ws found e others is =
    let one : flat_map item_line (item ∷ []) ≡ item_line item = flat_map-cons item_line item [] ∙ append-nil (item_line item) in
    record {
      items = item ∷ [];
      rest = rest;
      is = is ∙ ap (λ (d : Content). made job d ∷ rest) (sym (end_adds c item e));
      run = (found.can, e);
      others = and_both (is_other item) true found.other refl;
      spelt = rw (found.spelt, others.spelt, one) (sym (append_assoc (line_of_words (item_words item)) (10 ∷ []) (spellings rest)));
      have = others.have;
    }

item_goes : (job : ℕ) (p : Progress) (c : Content) (line next : List ℕ) (more : List (List ℕ)) (item : Item)
    (ws : List WorkValue) → IsLine p line item → is_end item ≡ false
    → IsInsideWork job (progress_after p item) (added c item) (join_with_byte 10 (next ∷ more)) ws
    → IsInsideWork job p c (join_with_byte 10 (line ∷ next ∷ more)) ws
item_goes job p c line next more item ws found e others =
    let lines : List ℕ = flat_map item_line others.items in
    let cons : flat_map item_line (item ∷ others.items) ++ spellings others.rest
    ≡ line_of_words (item_words item) ++ 10 ∷ (lines ++ spellings others.rest) =
    ap (λ (t : List ℕ). t ++ spellings others.rest) (flat_map-cons item_line item others.items)
    ∙ append_assoc (item_line item) lines (spellings others.rest)
    ∙ append_assoc (line_of_words (item_words item)) (10 ∷ []) (lines ++ spellings others.rest) in
    record {
      items = item ∷ others.items;
      rest = others.rest;
      is = others.is;
      run = run_onto p item others.items found.can e others.run;
      others = and_both (is_other item) (list_all is_other others.items) found.other others.others;
      spelt = rw (found.spelt, others.spelt) (sym cons);
      have = others.have;
    }

-- ---- whole texts

is_ok : (b : Bool) (r : CertRefusal) (q : Result (List WorkValue) CertRefusal) (ws : List WorkValue) → cond b (Err r) q ≡ Ok ws → q ≡ Ok ws
is_ok true r q ws h = absurd cc
is_ok false r q ws h = h

onto_ok : (w : WorkValue) (q : Result (List WorkValue) CertRefusal) (ws : List WorkValue) → onto w q ≡ Ok ws
    → (rest : List WorkValue) × (q ≡ Ok rest) × (ws ≡ w ∷ rest)
onto_ok w (Err r) ws h = absurd cc
onto_ok w (Ok rest) ws h = (rest, refl, cc)

last_found : (n : ℕ) (line : List ℕ) (ws : List WorkValue)
    → cond (length line == 0) (Ok []) (Err (cut_front n line)) ≡ Ok ws → AreWhole (join_with_byte 10 (line ∷ [])) ws
last_found n [] ws h = let same : [] ≡ ws = cc in rw (← same) (record { spelt = refl; have = tt })
last_found n (c ∷ cs) ws h =
    let some : (length (c ∷ cs) == 0) ≡ false = ne_eqb (length (c ∷ cs)) 0 (omega arith) in
    let bad : Err (cut_front n (c ∷ cs)) ≡ Ok ws = rw some at h in
    absurd cc

pub works_found : (n : ℕ) (stage : Stage) (pcs : List (List ℕ)) (ws : List WorkValue)
    → works_from n stage pcs ≡ Ok ws → IsFound stage (join_with_byte 10 pcs) ws
unfolding works_from
works_found n Front [] ws h = absurd cc
works_found n Job [] ws h = absurd cc
works_found n (Inside job p c) [] ws h = absurd cc
works_found n Front (line ∷ []) ws h = last_found n line ws h
works_found n Job (line ∷ []) ws h = absurd cc
works_found n (Inside job p c) (line ∷ []) ws h = absurd cc
works_found n Front (line ∷ next ∷ more) ws h = at (bytes_eq line HEADER) refl (λ e. works_found (n + 1) Job (next ∷ more) ws e) h
  where
    at : (b : Bool) → bytes_eq line HEADER ≡ b
        → (works_from (n + 1) Job (next ∷ more) ≡ Ok ws → IsBehindHeader (join_with_byte 10 (next ∷ more)) ws)
        → cond b (works_from (n + 1) Job (next ∷ more)) (Err (other_front n line)) ≡ Ok ws
        → AreWhole (join_with_byte 10 (line ∷ next ∷ more)) ws
    at true is others e = front_goes line next more ws ((bytes_eq-Decides line HEADER).0 is) (others e)
    at false is others e = absurd cc
works_found n Job (line ∷ next ∷ more) ws h = at (job_at line) refl
    (λ job e. works_found (n + 1) (Inside job work_progress blank) (next ∷ more) ws e)
    (is_ok (nat_lt LONGEST (length line)) (refusals.Limit n) _ ws h)
  where
    at : (r : Result ℕ LineFault) → job_at line ≡ r
        → ((job : ℕ) → works_from (n + 1) (Inside job work_progress blank) (next ∷ more) ≡ Ok ws
        → IsInsideWork job work_progress blank (join_with_byte 10 (next ∷ more)) ws)
        → elim r as (λ r. Result (List WorkValue) CertRefusal) [
          | Err f ↦ Err (refusal_at n f)
          | Ok job ↦ works_from (n + 1) (Inside job work_progress blank) (next ∷ more)
        ] ≡ Ok ws → IsBehindHeader (join_with_byte 10 (line ∷ next ∷ more)) ws
    at (Err f) is others e = absurd cc
    at (Ok job) is others e = job_goes job line next more ws (job_found line job is) (others job e)
works_found n (Inside job p c) (line ∷ next ∷ more) ws h =
    at (work_line_at p line) refl (λ rest e. works_found (n + 1) Front (next ∷ more) rest e)
    (λ q d e. works_found (n + 1) (Inside job q d) (next ∷ more) ws e)
    (is_ok (nat_lt LONGEST (length line)) (refusals.Limit n) _ ws h)
  where
    at : (r : Result Item LineFault) → work_line_at p line ≡ r
        → ((rest : List WorkValue) → works_from (n + 1) Front (next ∷ more) ≡ Ok rest
        → AreWhole (join_with_byte 10 (next ∷ more)) rest)
        → ((q : Progress) (d : Content) → works_from (n + 1) (Inside job q d) (next ∷ more) ≡ Ok ws
        → IsInsideWork job q d (join_with_byte 10 (next ∷ more)) ws)
        → elim r as (λ r. Result (List WorkValue) CertRefusal) [
          | Err f ↦ Err (refusal_at n f)
          | Ok item ↦ cond (is_end item) (onto (made job c) (works_from (n + 1) Front (next ∷ more)))
              (works_from (n + 1) (Inside job (progress_after p item) (added c item)) (next ∷ more))
        ] ≡ Ok ws → IsInsideWork job p c (join_with_byte 10 (line ∷ next ∷ more)) ws
    at (Err f) is ended goes e = absurd cc
    at (Ok item) is ended goes e =
        elim (cases (is_end item)) [
          | inl last ↦
              let o = onto_ok (made job c) (works_from (n + 1) Front (next ∷ more)) ws (rw last at e) in
              end_goes job p c line next more item o.0 ws (work_line_found p line item is) last (ended o.0 o.1) o.2
          | inr further ↦ item_goes job p c line next more item ws (work_line_found p line item is) further
              (goes (progress_after p item) (added c item) (rw further at e))
        ]
