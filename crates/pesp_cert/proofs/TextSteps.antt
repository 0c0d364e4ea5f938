-- The definition of reading, line by line.
use Rattle.std.proofs.Common.{◌≡◌, ℕ, suc, ◌+◌, ◌<◌, ◌≤◌, Bool, true, false, cond, List, [], ◌∷◌, length, Ok, Err, refl, arith}
use Rattle.std.specs.Prelude.{◌==◌}
use Rattle.std.specs.List.{onto_first}
use Rattle.std.proofs.lemmas.Bool.Decides.{nat_tests}
use Rattle.std.proofs.lemmas.Bool.{le-ltb, lt-ltb}
use Rattle.pesp_stream.specs.Words.{pieces, is_byte}
use Rattle.pesp_cert_lines.specs.declared.fault.LineFault.{LineFault}
use Rattle.pesp_cert_lines.specs.declared.item.Item.{Item}
use Rattle.pesp_cert_lines.specs.declared.progress.Progress.{Progress}
use Rattle.pesp_cert_lines.specs.Counts.{progress_after}
use Rattle.pesp_cert_lines.specs.Lines.{line_at, LONGEST}
use Rattle.pesp_cert.specs.declared.refusal.CertRefusal.TheVariants as refusals
use Rattle.pesp_cert.specs.Texts.{is_end}
use Rattle.pesp_cert.specs.Refusals.{items_from, refusal_at, is_nothing, onto}

pub at_long : (n : ℕ) (p : Progress) (line : List ℕ) (rest : List (List ℕ)) → LONGEST < length line
    → items_from n p (line ∷ rest) ≡ Err (refusals.Limit n)
unfolding items_from
at_long n p line [] long = rw (lt-ltb LONGEST (length line) long) refl
at_long n p line (next ∷ more) long = rw (lt-ltb LONGEST (length line) long) refl

pub at_last : (n : ℕ) (p : Progress) (line : List ℕ) → length line ≤ LONGEST → items_from n p (line ∷ []) ≡ Err refusals.Truncated
unfolding items_from
at_last n p line short = rw (le-ltb LONGEST (length line) short) refl

pub at_fault : (n : ℕ) (p : Progress) (line next : List ℕ) (more : List (List ℕ)) (f : LineFault)
    → length line ≤ LONGEST → line_at p line ≡ Err f → items_from n p (line ∷ next ∷ more) ≡ Err (refusal_at n f)
unfolding items_from
at_fault n p line next more f short h = rw (le-ltb LONGEST (length line) short, h) refl

pub at_end : (n : ℕ) (p : Progress) (line next : List ℕ) (more : List (List ℕ)) (item : Item)
    → length line ≤ LONGEST → line_at p line ≡ Ok item → is_end item ≡ true
    → items_from n p (line ∷ next ∷ more) ≡ cond (is_nothing (next ∷ more)) (Ok (item ∷ [])) (Err (refusals.Trailing (n + 1)))
unfolding items_from
at_end n p line next more item short h e = rw (le-ltb LONGEST (length line) short, h) (rw e refl)

pub at_item : (n : ℕ) (p : Progress) (line next : List ℕ) (more : List (List ℕ)) (item : Item)
    → length line ≤ LONGEST → line_at p line ≡ Ok item → is_end item ≡ false
    → items_from n p (line ∷ next ∷ more) ≡ onto item (items_from (n + 1) (progress_after p item) (next ∷ more))
unfolding items_from
at_item n p line next more item short h e = rw (le-ltb LONGEST (length line) short, h) (rw e refl)

pub nonempty : (text : List ℕ) → (w : List ℕ) × (ws : List (List ℕ)) × (pieces 10 text ≡ w ∷ ws)
nonempty [] = ([], [], refl)
nonempty (c ∷ cs) = split (is_byte 10 c) c (pieces 10 cs)
  where
    split : (b : Bool) (x : ℕ) (ps : List (List ℕ)) → (w : List ℕ) × (ws : List (List ℕ)) × (cond b ([] ∷ ps) (onto_first x ps) ≡ w ∷ ws)
    split true x ps = ([], ps, refl)
    split false x [] = (x ∷ [], [], refl)
    split false x (q ∷ qs) = (x ∷ q, qs, refl)

pub nothing_more : (more : List ℕ) → is_nothing (pieces 10 more) ≡ (length more == 0)
nothing_more [] = refl
nothing_more (c ∷ cs) =
    let some = nonempty cs in
    split (is_byte 10 c) c (pieces 10 cs) some.0 some.1 some.2
  where
    split : (b : Bool) (x : ℕ) (ps : List (List ℕ)) (w : List ℕ) (ws : List (List ℕ)) → ps ≡ w ∷ ws
        → is_nothing (cond b ([] ∷ ps) (onto_first x ps)) ≡ (suc (length cs) == 0)
    split true x ps w ws h = rw h (grind (arith, nat_tests))
    split false x ps w ws h = rw h (grind (arith, nat_tests))
