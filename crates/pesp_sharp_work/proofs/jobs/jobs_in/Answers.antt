use Rattle.std.proofs.Common.{◌≡◌, ◌+◌, ℕ, ◌<◌, ◌++◌, ◌∙◌, ap, sym, refl, subst, arith, [], List, length, map, get_or, Bool, true, Option, None}
use Rattle.std.proofs.lemmas.List.{length-map, get_or_default}
use Rattle.pesp_truth.specs.Trees.{line_of}
use Rattle.pesp_sharp_work.specs.Jobs.{Path, SharpJob, told_job, jobs_at_line, paths_after}
use Rattle.pesp_sharp_work.specs.Paths.{paths_waiting, paths_passed}
use Rattle.pesp_sharp_work.proofs.Listing.{one_listed, none_left}
use Rattle.pesp_sharp_work.proofs.jobs.jobs_in.Goals as goal

pub returns-then-not-waits : goal.returns-then-not-waits
returns-then-not-waits c =
    let k = c.loop-place.place in
    let path = c.loop-place.path.items in
    let jobs : List SharpJob = map told_job c.loop-place.opens.items in
    let shown = c.args.shown.now in
    let within : k < length shown = omega (arith, c.if-place-shown.false) in
    let value : Option ℕ = get_or shown k None in
    let shows : value ≡ get_or shown k value = get_or_default shown k None value within in
    let P : Path → Type 0 = λ q. map told_job c.add_if_open.new.opens.items
    ≡ jobs ++ jobs_at_line c.args.cost (length c.loop-place.opens.items) q value in
    let more = subst P c.deref.ensures.value c.in_ok-add_if_open.ensures
    ∙ ap (λ (n : ℕ). jobs ++ jobs_at_line c.args.cost n path value) (sym (length-map c.loop-place.opens.items told_job)) in
    let W : Bool → Type 0 = λ b. ◌≡◌ {A = List Path} (paths_waiting b c.pass.new.path.items)
    (paths_after (line_of c.index-lines-place.result) (paths_waiting true path)) in
    none_left c.args.cost c.args.lines.now c.args.shown.now (k + 1) [] (map told_job c.add_if_open.new.opens.items)
    (one_listed c.args.cost c.args.lines.now c.args.shown.now k (paths_waiting true path) jobs c.loop-place.invariant
    c.index-lines-place.result value path (paths_passed path) [] (map told_job c.add_if_open.new.opens.items)
    c.loop-place-test.true c.index-lines-place.is within shows refl more
    (subst W c.if-not-waits.true c.in_ok-waits.ensures)) refl
