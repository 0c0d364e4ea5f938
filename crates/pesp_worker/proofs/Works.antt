-- Works that are judged one after the other, and handed in together.
use Rattle.std.proofs.Common.{◌≡◌, ◌⊎◌, inl, inr, ℕ, ◌+◌, ◌<◌, ◌≤◌, List, [], ◌∷◌, ◌++◌, length, map, refl, sym, ap, ◌∙◌, subst, arith}
use Rattle.std.specs.Prelude.{ℤ, All, Contains, Option, Result, Ok, Err, IfOk, sum_by}
use Rattle.std.specs.Global.{Vec}
use Rattle.std.specs.List.{AllZip}
use Rattle.std.specs.List.Sorted.{IsStrictlyIncreasing}
use Rattle.std.proofs.lemmas.List.Elements.{All-nil, All-cons, All-head, All-tail, All-contains, Contains-append_right}
use Rattle.std.proofs.lemmas.List.Sums.{sum_by-cons, sum_by_push}
use Rattle.std.proofs.lemmas.Slice.Zip.{all_zipped_more, AllZip-long}
use Rattle.pesp_problem.specs.declared.pair.Pair.{Pair}
use Rattle.pesp_problem.specs.declared.cut.Cut.{Cut}
use Rattle.pesp_problem.specs.declared.cut.Side.{Side}
use Rattle.pesp_problem.specs.Timetables.{Pesp}
use Rattle.pesp_truth.specs.Certificates.{Content, cost_of}
use Rattle.pesp_nodes.specs.Problems.{ProblemValue}
use Rattle.pesp_tree.specs.declared.job.Job.{Job}
use Rattle.pesp_tree.specs.States.{State, HasLeaf, IsLentNumber}
use Rattle.pesp_tree.specs.Reached.{IsOrderly}
use Rattle.pesp_tree.proofs.OneSize.{same_path, same_pairs}
use Rattle.pesp_cert_items.specs.Works.{WorkValue, HasWorkText}
use Rattle.pesp_worker.specs.Lent.{IsLentFrom}
use Rattle.pesp_worker.specs.declared.refusal.WorkRefusal.TheVariants.{NoSuchJob}
use Rattle.pesp_worker.specs.Holding.{KeepsOthers}
use Rattle.pesp_worker.specs.HandingIn.{AreTimesFor, AreShort, StandsFor, IsFound, IsJudged, AreHandedIn, IsWholeFrom, branches_of, without_times, IsWorkOn, IsSplitBelow, AreWorksOn, AreWorkRefusal}
use Rattle.pesp_worker.proofs.Fitting.{text_with_times}
use Rattle.pesp_worker.proofs.Numbers.{lent_below, few_jobs}
use Rattle.pesp_worker.proofs.Rising.{RiseFrom, rise_from_none}
use Rattle.pesp_worker.proofs.Zips.{zip_weaker, zip_map}

abbrev Path : Type 0
Path = List (Cut × Side)

-- a work of this number, with these times or none
abbrev pub HasShown : List (ℤ × ℕ) → ℕ → WorkValue → Type 0
HasShown shown job work = (work.job ≡ job) × ((work.times ≡ []) ⊎ (work.times ≡ shown))

-- ---- one judged after the other

-- the leaves of numbers from n on are lent as they were
abbrev Stay : ℕ → State → State → Type 0
Stay n old now = (number : ℕ) (path : Path) (pairs : List Pair) → n ≤ number → HasLeaf old number path pairs → HasLeaf now number path pairs

-- what was judged so far, and what is left
pub record AreJudgedSoFar (p q : ProblemValue) (old now : State) (steps left : ℕ) (until : Option ℕ)
    (judged rest works : List WorkValue) : Type 0 where
  pub problem : q ≡ p
  pub each : AllZip (IsJudged p old until) judged works
  pub room : sum_by branches_of works + left ≡ steps
  pub above : ℕ
  pub rise : RiseFrom above (map (λ (w : WorkValue). w.job) rest)
  pub stay : Stay above old now

pub none_judged : (p : ProblemValue) (old : State) (steps : ℕ) (until : Option ℕ) (rest : List WorkValue)
    → RiseFrom 0 (map (λ (w : WorkValue). w.job) rest) → AreJudgedSoFar p p old old steps steps until [] rest []
none_judged p old steps until rest rise = record {
  problem = refl;
  each = tt;
  room = omega arith;
  above = 0;
  rise = rise;
  stay = λ number path pairs from leaf. leaf;
}

-- a number that was lent and stays is lent still
pub lent_still : (p : ProblemValue) (old now : State) (n number : ℕ) → IsOrderly p old → Stay n old now
    → n ≤ number → IsLentNumber old number → IsLentNumber now number
lent_still p old now n number orderly stay from lent =
    let there = orderly.lent.leaf number lent.0 lent.1 in
    (lent.0, (stay number lent.0 there.0 from (lent.1, there.1)).0)

-- what it is lent with is what it was lent with
was_lent_with : (p : ProblemValue) (old now : State) (n number : ℕ) (path : Path) (pairs : List Pair)
    → IsOrderly p old → Stay n old now → n ≤ number → IsLentNumber old number → HasLeaf now number path pairs
    → HasLeaf old number path pairs
was_lent_with p old now n number path pairs orderly stay from lent leaf =
    let there = orderly.lent.leaf number lent.0 lent.1 in
    let was : HasLeaf old number lent.0 there.0 = (lent.1, there.1) in
    let is = stay number lent.0 there.0 from was in
    subst (λ (x : Path). HasLeaf old number x pairs) (same_path now number lent.0 path there.0 pairs is leaf)
    (subst (λ (x : List Pair). HasLeaf old number lent.0 x)
    (same_pairs now number lent.0 path there.0 pairs is leaf) was)

-- what is judged now is judged of the board as it was
judged_then : (p : ProblemValue) (old now : State) (n : ℕ) (until : Option ℕ) (found work : WorkValue)
    → IsOrderly p old → Stay n old now → n ≤ found.job → IsLentNumber old found.job
    → IsJudged p now until found work → IsJudged p old until found work
judged_then p old now n until found work orderly stay from lent j =
    let s = j.fits.stands in
    record {
      number = j.number;
      times = j.times;
      fits = record {
        stands = record {
          path = s.path;
          pairs = s.pairs;
          leaf = was_lent_with p old now n found.job s.path s.pairs orderly stay from lent s.leaf;
          lines = s.lines;
          are_lines = s.are_lines;
          valid = s.valid;
        };
        text = j.fits.text;
      };
      whole = λ bound value pairs named leaf least. j.whole bound value pairs named (record {
        path = leaf.path;
        leaf = stay found.job leaf.path pairs from leaf.leaf;
        worth = leaf.worth;
      }) least;
    }

pub judged_next : (p q after : ProblemValue) (old now new : State) (steps left still : ℕ) (until : Option ℕ)
    (judged rest before works : List WorkValue) (found work : WorkValue)
    → IsOrderly p old → IsLentNumber old found.job → AreJudgedSoFar p q old now steps left until judged (found ∷ rest) before
    → after ≡ q → IsJudged q now until found work → branches_of work + still ≡ left → KeepsOthers now found.job new
    → works ≡ before ++ work ∷ []
    → AreJudgedSoFar p after old new steps still until (judged ++ found ∷ []) rest works
judged_next p q after old now new steps left still until judged rest before works found work orderly lent h same j count keeps is =
    let here : IsJudged p now until found work = subst (λ (x : ProblemValue). IsJudged x now until found work) h.problem j in
    let sum = sum_by_push branches_of before work in
    let room = h.room in
    record {
      problem = same ∙ h.problem;
      each = subst (AllZip (IsJudged p old until) (judged ++ found ∷ [])) (sym is)
          (all_zipped_more (IsJudged p old until) judged before found work h.each
          (judged_then p old now h.above until found work orderly h.stay h.rise.0 lent here));
      room = (let total = ap (sum_by branches_of) is ∙ sum in omega (arith, total, room, count));
      above = found.job + 1;
      rise = h.rise.1;
      stay = λ number path pairs from leaf. keeps number path pairs (λ e. absurd (omega (arith, e, from)))
          (h.stay number path pairs (let first = h.rise.0 in omega (arith, first, from)) leaf);
    }

-- once all are judged
pub all_judged : (p q : ProblemValue) (old now : State) (steps left : ℕ) (until : Option ℕ)
    (judged rest works : List WorkValue) → AreJudgedSoFar p q old now steps left until judged rest works
    → AreHandedIn p old steps until judged works
all_judged p q old now steps left until judged rest works h = record { each = h.each; few = (let room = h.room in omega (arith, room)) }

pub rise_of : (found : List WorkValue) → IsStrictlyIncreasing (map (λ (w : WorkValue). w.job) found)
    → RiseFrom 0 (map (λ (w : WorkValue). w.job) found)
rise_of found rise = rise_from_none (map (λ (w : WorkValue). w.job) found) rise

-- ---- all of them

one_on : (i : Pesp) (base : Content) (p : ProblemValue) (jobs : List Job) (state : State) (steps : ℕ)
    (until : Option ℕ) (job : ℕ) (found work : WorkValue) → IsLentFrom i base p jobs state → job < length jobs
    → IsFound i (cost_of base.answer) job found → IsJudged p state until found work → branches_of work ≤ steps
    → IsWorkOn i base job steps work × IsSplitBelow i base job until work
one_on i base p jobs state steps until job found work lent there f j few =
    let number : found.job ≤ 999999 = subst (λ n. n ≤ 999999) (sym f.number) (few_jobs i base p jobs state job lent there) in (
      record {
        number = j.number ∙ f.number;
        tree = record {
          problem = p;
          jobs = jobs;
          lent = state;
          begins = lent;
          stands = subst (λ n. StandsFor p state n work.tree) f.number j.fits.stands;
          few = few;
        };
        times = subst (AreTimesFor i (cost_of base.answer)) (sym j.times) f.times;
        text = text_with_times work (subst (λ n. HasWorkText (without_times n work.tree)) (sym j.number)
            (j.fits.text number)) (subst AreShort (sym j.times) f.short);
      },
      record {
        problem = p;
        jobs = jobs;
        lent = state;
        begins = lent;
        whole = subst (λ n. IsWholeFrom p state until n (branches_of work)) f.number j.whole;
      },
    )

each_on : (i : Pesp) (base : Content) (p : ProblemValue) (jobs : List Job) (state : State) (steps : ℕ)
    (until : Option ℕ) (asked : List ℕ) (found works : List WorkValue) → IsLentFrom i base p jobs state
    → All (λ job. job < length jobs) asked → AllZip (IsFound i (cost_of base.answer)) asked found
    → AllZip (IsJudged p state until) found works → sum_by branches_of works ≤ steps
    → AllZip (λ job work. IsWorkOn i base job steps work × IsSplitBelow i base job until work) asked works
each_on i base p jobs state steps until [] [] [] lent there f j few = tt
each_on i base p jobs state steps until [] [] (work ∷ works) lent there f j few = absurd j
each_on i base p jobs state steps until [] (one ∷ found) works lent there f j few = absurd f
each_on i base p jobs state steps until (job ∷ asked) [] works lent there f j few = absurd f
each_on i base p jobs state steps until (job ∷ asked) (one ∷ found) [] lent there f j few = absurd j
each_on i base p jobs state steps until (job ∷ asked) (one ∷ found) (work ∷ works) lent there f j few =
    let sum = sum_by-cons branches_of work works in (
      one_on i base p jobs state steps until job one work lent
          (All-head (λ n. n < length jobs) job asked there) f.0 j.0 (omega (arith, sum, few)),
      each_on i base p jobs state steps until asked found works lent
          (All-tail (λ n. n < length jobs) job asked there) f.1 j.1 (omega (arith, sum, few)),
    )

-- what is judged for jobs that are there is what is handed in
pub all_on : (i : Pesp) (base : Content) (p : ProblemValue) (jobs : List Job) (state : State) (steps : ℕ)
    (until : Option ℕ) (asked : List ℕ) (found works : List WorkValue) → IsLentFrom i base p jobs state
    → All (λ job. job < length jobs) asked → AllZip (IsFound i (cost_of base.answer)) asked found
    → AreHandedIn p state steps until found works → AreWorksOn i base asked steps until works
all_on i base p jobs state steps until asked found works lent there f j =
    record {
      each = each_on i base p jobs state steps until asked found works lent there f j.each j.few;
      few = j.few;
    }

-- one of the jobs isn't there
pub one_missing : (i : Pesp) (base : Content) (p : ProblemValue) (jobs : List Job) (state : State) (asked : List ℕ)
    → IsLentFrom i base p jobs state → (job : ℕ) × Contains asked job × (length jobs ≤ job)
    → AreWorkRefusal i base asked NoSuchJob
one_missing i base p jobs state asked lent m = (m.0, m.1, record { problem = p; jobs = jobs; lent = state; begins = lent; few = m.2 })

-- the jobs that are there are lent
pub all_lent : (i : Pesp) (base : Content) (p : ProblemValue) (jobs : List Job) (state : State) (known : Option ℕ)
    (asked : List ℕ) (found : List WorkValue) → IsLentFrom i base p jobs state
    → All (λ job. job < length jobs) asked → AllZip (IsFound i known) asked found
    → All (λ (w : WorkValue). IsLentNumber state w.job) found
all_lent i base p jobs state known [] [] lent there f = All-nil (λ (w : WorkValue). IsLentNumber state w.job)
all_lent i base p jobs state known [] (one ∷ found) lent there f = absurd f
all_lent i base p jobs state known (job ∷ asked) [] lent there f = absurd f
all_lent i base p jobs state known (job ∷ asked) (one ∷ found) lent there f =
    let first = lent_below i base p jobs state job lent (All-head (λ n. n < length jobs) job asked there) in
    All-cons (λ (w : WorkValue). IsLentNumber state w.job) one found
    (subst (IsLentNumber state) (sym f.0.number) first)
    (all_lent i base p jobs state known asked found lent (All-tail (λ n. n < length jobs) job asked there) f.1)

-- and rise as they do
pub all_rise : (i : Pesp) (known : Option ℕ) (asked : List ℕ) (found : List WorkValue)
    → AllZip (IsFound i known) asked found → IsStrictlyIncreasing asked
    → IsStrictlyIncreasing (map (λ (w : WorkValue). w.job) found)
all_rise i known asked found f rise = subst IsStrictlyIncreasing
    (sym (zip_map (IsFound i known) (λ (w : WorkValue). w.job) asked found (λ job one h. h.number) f)) rise

-- one in the middle of those that are lent
pub this_is_lent : (state : State) (before rest all : List WorkValue) (one : WorkValue)
    → before ++ one ∷ rest ≡ all → All (λ (w : WorkValue). IsLentNumber state w.job) all
    → IsLentNumber state one.job
this_is_lent state before rest all one is lent =
    All-contains (λ (w : WorkValue). IsLentNumber state w.job) all one lent
    (subst (λ (ws : List WorkValue). Contains ws one) is
    (Contains-append_right before (one ∷ rest) one (0, omega arith, refl)))

-- ---- what is found

-- the times of a certificate, or none
found_times : (i : Pesp) (known : Option ℕ) (shown times : List (ℤ × ℕ)) → AreTimesFor i known shown
    → (times ≡ []) ⊎ (times ≡ shown) → AreTimesFor i known times
found_times i known shown times are (inl none) = inl none
found_times i known shown times are (inr same) = subst (AreTimesFor i known) (sym same) are

found_short : (shown times : List (ℤ × ℕ)) → AreShort shown → (times ≡ []) ⊎ (times ≡ shown) → AreShort times
found_short shown times short (inl none) = subst AreShort (sym none) (omega arith, refl)
found_short shown times short (inr same) = subst AreShort (sym same) short

pub all_found : {E : Type 0} (i : Pesp) (known : Option ℕ) (shown : List (ℤ × ℕ)) (jobs : List ℕ)
    (r : Result (Vec WorkValue) E) → AreTimesFor i known shown → AreShort shown
    → IfOk r (λ works. AllZip (HasShown shown) jobs works.items)
    → IfOk r (λ works. AllZip (IsFound i known) jobs works.items)
all_found i known shown jobs (Ok works) are short each =
    zip_weaker (HasShown shown) (IsFound i known) jobs works.items (λ job work h. record {
      number = h.0;
      times = found_times i known shown work.times are h.1;
      short = found_short shown work.times short h.1;
    }) each
all_found i known shown jobs (Err e) are short each = tt

-- ---- one job alone

pub one_rises : (job : ℕ) → IsStrictlyIncreasing (job ∷ [])
one_rises job k below = absurd (omega (arith, below))

pub one_work : (i : Pesp) (base : Content) (job steps : ℕ) (until : Option ℕ) (works : List WorkValue)
    → AreWorksOn i base (job ∷ []) steps until works → length works ≡ 1
one_work i base job steps until works are = AllZip-long
    (λ job work. IsWorkOn i base job steps work × IsSplitBelow i base job until work) (job ∷ []) works are.each

last_pair : (R : ℕ → WorkValue → Type 0) (job : ℕ) (before : List WorkValue) (work : WorkValue)
    → AllZip R (job ∷ []) (before ++ work ∷ []) → R job work
last_pair R job [] work h = h.0
last_pair R job (one ∷ []) work h = absurd h.1
last_pair R job (one ∷ other ∷ before) work h = absurd h.1

-- the last work is for that job
pub last_work : (i : Pesp) (base : Content) (job steps : ℕ) (until : Option ℕ) (before works : List WorkValue)
    (work : WorkValue) → works ≡ before ++ work ∷ [] → AreWorksOn i base (job ∷ []) steps until works
    → IsWorkOn i base job steps work
last_work i base job steps until before works work e are =
    let R : ℕ → WorkValue → Type 0 = λ job work. IsWorkOn i base job steps work × IsSplitBelow i base job until work in
    (last_pair R job before work (subst (AllZip R (job ∷ [])) e are.each)).0
