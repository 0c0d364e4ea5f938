use Rattle.std.proofs.Common.{◌≡◌, ◌⊎◌, [], inl, ℕ, List, get_or, refl, sym, ap, subst, ◌∙◌, take, ◌+◌}
use Rattle.std.specs.Prelude.{ℤ}
use Rattle.std.specs.Global.{Vec}
use Rattle.std.specs.List.{AllZip}
use Rattle.pesp_cert_items.specs.Works.{WorkValue}
use Rattle.pesp_worker.proofs.Zips.{zip_more}
use Rattle.pesp_worker.proofs.Works.{HasShown}
use Rattle.pesp_worker.proofs.shared_search.works_of.Goals as goal

pub loop-job-preserved : goal.loop-job-preserved
loop-job-preserved c =
    let at = c.loop-job in
    let shown = c.args.times.items in
    let times = c.replace-times.result.items in
    let work : WorkValue = record { job = get_or c.args.jobs.now at.job-index 0; times = times; tree = c.in_ok-tree.tree.items } in
    let same : times ≡ at.left.items = ap (λ (v : Vec (ℤ × ℕ)). v.items) c.replace-times.ensures.value in
    let left : (times ≡ []) ⊎ (times ≡ shown) = subst (λ (ts : List (ℤ × ℕ)). (ts ≡ []) ⊎ (ts ≡ shown)) (sym same) at.invariant.left in
    record {
      works = subst (AllZip (HasShown shown) (take (at.job-index + 1) c.args.jobs.now)) (sym c.in_ok-add.ensures)
          (zip_more (HasShown shown) c.args.jobs.now at.job-index 0 at.works.items work c.loop-job-test.true
          at.invariant.works (refl, left));
      left = inl (ap (λ (v : Vec (ℤ × ℕ)). v.items) c.replace-times.ensures.after ∙ c.new.ensures.items);
    }
