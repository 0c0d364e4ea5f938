use Rattle.std.proofs.Common.{◌≡◌, ℕ, List, length, map, sym, ap, ◌∙◌}
use Rattle.std.specs.Prelude.{ℤ, Result, Ok, Err, IfOk}
use Rattle.std.specs.List.{zip}
use Rattle.std.proofs.lemmas.Slice.Zip.{firsts-zip, seconds-zip}
use Rattle.pesp_board.proofs.certification.shown_times.Goals as goal

-- the two sides of what was paired
sides : {V E : Type 0} (items : V → List (ℤ × ℕ)) (labels : List ℤ) (times best : List ℕ) (r : Result V E)
    → times ≡ best → length labels ≡ length best → IfOk r (λ v. items v ≡ zip labels times)
    → IfOk r (λ v. (map (λ t. t.0) (items v) ≡ labels) × (map (λ t. t.1) (items v) ≡ best))
sides items labels times best (Ok v) same long is =
    let long_too : length times ≡ length labels = ap length same ∙ sym long in
    (ap (map (λ t. t.0)) is ∙ firsts-zip labels times long_too, ap (map (λ t. t.1)) is ∙ seconds-zip labels times long_too ∙ same)
sides items labels times best (Err e) same long is = tt

pub returns-in-Some : goal.returns-in-Some
returns-in-Some c = rw c.in-Some.is (sides (λ v. v.items) c.args.labels.now c.deref.result.now
    c.in-Some.best.times.items c.labelled.result c.deref.ensures.value
    (rw c.in-Some.is at c.requires) c.labelled.ensures)
