-- A work keeps the limits exactly where it has a text.
use Rattle.std.proofs.Common.{◌≡◌, List, [], ◌∷◌, ◌++◌, refl, sym, ap, ◌∙◌, subst, append_assoc, append-nil}
use Rattle.std.specs.Prelude.{◌↔◌, None, map}
use Rattle.pesp_truth.specs.declared.answer.Answer.TheVariants.{Infeasible}
use Rattle.pesp_cert_lines.specs.declared.item.Item.{Item}
use Rattle.pesp_cert_lines.specs.declared.item.Item.TheVariants.{Version, Period, Answer as Says, Cycle, End}
use Rattle.pesp_cert_lines.specs.declared.versions.Versions.TheVariants.{Plain}
use Rattle.pesp_cert_lines.specs.Counts.{beginning, progress_after}
use Rattle.pesp_cert.specs.Texts as certificates
use Rattle.pesp_cert.specs.Texts.{IsRun, time_item, tree_item}
use Rattle.pesp_cert.proofs.Runs.{run_onto, run_rest, limits_iff}
use Rattle.pesp_cert.proofs.FrontRuns.{has_text, text_run}
use Rattle.pesp_cert_items.specs.Works.{WorkValue, work_items, work_progress, HasWorkText, certificate_of, KeepsWorkLimits}

-- the lines behind the answer of the certificate that shows the work's parts
abbrev others_of : WorkValue → List Item
others_of w = ((map time_item w.times ++ map Cycle []) ++ map tree_item w.tree) ++ End ∷ []

same_items : (w : WorkValue) → others_of w ≡ work_items w
same_items w = ap (λ (items : List Item). (items ++ map tree_item w.tree) ++ End ∷ [])
    (append-nil (map time_item w.times)) ∙ append_assoc (map time_item w.times) (map tree_item w.tree) (End ∷ [])

limits_give : (w : WorkValue) → KeepsWorkLimits w → HasWorkText w
limits_give w k =
    let text = (limits_iff (certificate_of w)).0 k.parts in
    let period = run_rest (beginning Plain) (Version 2) (Period 1 ∷ Says Infeasible ∷ others_of w) refl (text_run Plain None (certificate_of w) refl text) in
    let answer = run_rest (progress_after (beginning Plain) (Version 2)) (Period 1) (Says Infeasible ∷ others_of w) refl period in
    let others : IsRun work_progress (others_of w) =
    run_rest (progress_after (progress_after (beginning Plain) (Version 2)) (Period 1)) (Says Infeasible) (others_of w) refl answer in
    let P : List Item → Type 0 = λ items. IsRun work_progress items in
    record { job = k.job; run = subst P (same_items w) others }

text_gives : (w : WorkValue) → HasWorkText w → KeepsWorkLimits w
text_gives w h =
    let P : List Item → Type 0 = λ items. IsRun work_progress items in
    let others : IsRun work_progress (others_of w) = subst P (sym (same_items w)) h.run in
    let answer = run_onto (progress_after (progress_after (beginning Plain) (Version 2)) (Period 1)) (Says Infeasible) (others_of w)
    (record { allowed = refl; proper = tt; within = refl; counts = refl }) refl others in
    let period = run_onto (progress_after (beginning Plain) (Version 2)) (Period 1) (Says Infeasible ∷ others_of w)
    (record { allowed = refl; proper = tt; within = refl; counts = refl }) refl answer in
    let version = run_onto (beginning Plain) (Version 2) (Period 1 ∷ Says Infeasible ∷ others_of w)
    (record { allowed = refl; proper = tt; within = refl; counts = refl }) refl period in
    let text : certificates.HasText None (certificate_of w) = has_text Plain None (certificate_of w) refl version in
    record { job = h.job; parts = (limits_iff (certificate_of w)).1 text }

pub work_limits_iff : (w : WorkValue) → KeepsWorkLimits w ↔ HasWorkText w
work_limits_iff w = (limits_give w, text_gives w)
