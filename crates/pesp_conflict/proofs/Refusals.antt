-- A search over listed rows is refused only where one over all rows could be.
use Rattle.std.proofs.Common.{◌≡◌, ℕ, ◌+◌, ◌≤◌, List, length, subst, arith}
use Rattle.std.proofs.Math.Nat.{mul-le-mul_left, mul-le-mul_right}
use Rattle.std.proofs.lemmas.List.Elements.{All-get_or}
use Rattle.pesp_problem.specs.Timetables.{Pesp}
use Rattle.pesp_problem.specs.Walks.{Names}
use Rattle.pesp_problem.proofs.Counting.{rising_short}
use Rattle.pesp_search.specs.declared.refusal.SolveRefusal.{SolveRefusal}
use Rattle.pesp_search.specs.declared.refusal.SolveRefusal.TheVariants.{Memory, TableTooLarge, PairsTooMany}
use Rattle.pesp_search.specs.Refusals.{MeetsLimit}
use Rattle.pesp_search.specs.Solving.{IsSearchRefusal}
use Rattle.pesp_truth.specs.Conflicts.{only_rows}
use Rattle.pesp_conflict.specs.Findings.{AreFit}
use Rattle.pesp_conflict.specs.Refusals.{IsConflictRefusal, MeetsLimitOver}
use Rattle.pesp_conflict.proofs.Decisions.{length-only_rows}

-- rows of an instance, by rising number, are no more than it has
pub fit_is_short : (p : Pesp) (listed : List ℕ) → AreFit p listed → length listed ≤ length p.rows
fit_is_short p listed fit = rising_short listed (length p.rows) fit.0 (λ k l. All-get_or (Names (length p.rows)) listed k 0 l fit.1)

pub refused_for_part : (p : Pesp) (listed : List ℕ) (steps : ℕ) (e : SolveRefusal) → AreFit p listed
    → IsSearchRefusal (only_rows p listed) steps e → IsSearchRefusal p steps e
refused_for_part p listed steps Memory fit r = tt
refused_for_part p listed steps TableTooLarge fit r =
    let few = fit_is_short p listed fit in
    let n = length (only_rows p listed).rows in
    let less : n ≤ length p.rows = omega (arith, few, length-only_rows p listed) in
    let one = mul-le-mul_left n less in
    let two = mul-le-mul_right (length p.rows) less in
    omega (arith, r, one, two)
refused_for_part p listed steps PairsTooMany fit r =
    let few = fit_is_short p listed fit in
    let less : length (only_rows p listed).rows ≤ length p.rows = omega (arith, few, length-only_rows p listed) in
    omega (arith, r, mul-le-mul_left (steps + 1) less)

-- and by fewer steps only where one by more could be
refused_by_fewer : (p : Pesp) (few steps : ℕ) (e : SolveRefusal) → few ≤ steps → IsSearchRefusal p few e → IsSearchRefusal p steps e
refused_by_fewer p few steps Memory l r = tt
refused_by_fewer p few steps TableTooLarge l r = r
refused_by_fewer p few steps PairsTooMany l r =
    let less : few + 1 ≤ steps + 1 = omega arith in
    omega (arith, r, mul-le-mul_right (length p.rows) less)

over : (p : Pesp) (listed : List ℕ) (steps : ℕ) (e : SolveRefusal) → AreFit p listed → IsSearchRefusal (only_rows p listed) steps e
    → MeetsLimit (only_rows p listed) steps e → MeetsLimitOver p steps e
over p listed steps e fit r met = record {
  rows = listed;
  fit = fit;
  few = steps;
  within = omega arith;
  possible = refused_for_part p listed steps e fit r;
  met = met;
}

-- a search over listed rows that is refused has met a limit
pub met_over : (p part : Pesp) (listed : List ℕ) (steps : ℕ) (e : SolveRefusal) → AreFit p listed → part ≡ only_rows p listed
    → IsSearchRefusal part steps e → MeetsLimit part steps e → IsConflictRefusal p steps e
met_over p part listed steps Memory fit is r met = tt
met_over p part listed steps TableTooLarge fit is r met = over p listed steps TableTooLarge fit
    (subst (λ (q : Pesp). IsSearchRefusal q steps TableTooLarge) is r) (subst (λ (q : Pesp). MeetsLimit q steps TableTooLarge) is met)
met_over p part listed steps PairsTooMany fit is r met = over p listed steps PairsTooMany fit
    (subst (λ (q : Pesp). IsSearchRefusal q steps PairsTooMany) is r) (subst (λ (q : Pesp). MeetsLimit q steps PairsTooMany) is met)

by_fewer : (p : Pesp) (few steps : ℕ) (e : SolveRefusal) → few ≤ steps → MeetsLimitOver p few e → MeetsLimitOver p steps e
by_fewer p few steps e l m = record {
  rows = m.rows;
  fit = m.fit;
  few = m.few;
  within = let w = m.within in omega (arith, w);
  possible = refused_by_fewer p few steps e l m.possible;
  met = m.met;
}

-- within fewer steps too
pub met_by_fewer : (p : Pesp) (few steps : ℕ) (e : SolveRefusal) → few ≤ steps → IsConflictRefusal p few e → IsConflictRefusal p steps e
met_by_fewer p few steps Memory l r = tt
met_by_fewer p few steps TableTooLarge l r = by_fewer p few steps TableTooLarge l r
met_by_fewer p few steps PairsTooMany l r = by_fewer p few steps PairsTooMany l r
