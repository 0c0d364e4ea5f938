-- What a certificate of the instance that has listed rows alone says of them.
use Rattle.std.proofs.Common.{◌≡◌, ℕ, ◌-◌, ◌<◌, List, length, get_or, sym, subst, arith}
use Rattle.std.specs.Prelude.{ℤ, All, Contains, slice_index, Some, None}
use Rattle.std.specs.List.Sorted.{IsStrictlyIncreasing}
use Rattle.std.proofs.lemmas.List.{length-map, get_or_default}
use Rattle.std.proofs.lemmas.List.Elements.{All-map, All-contains}
use Rattle.pesp_problem.specs.Timetables.{Pesp, row_at}
use Rattle.pesp_problem.specs.Walks.{Names}
use Rattle.pesp_truth.specs.declared.answer.Answer.{Answer}
use Rattle.pesp_truth.specs.declared.answer.Answer.TheVariants.{Optimal, Infeasible, Bounded}
use Rattle.pesp_truth.specs.Truth.{IsTrueAnswer, HasNoTimetable}
use Rattle.pesp_truth.specs.Certificates.{Content, IsValid, ShowsAnswer, cost_of, shown_times, shown_labels}
use Rattle.pesp_truth.proofs.Certificates.{valid_is_true}
use Rattle.pesp_truth.specs.Conflicts.{KeepsRows, only_rows, unweighted, chosen}
use Rattle.pesp_truth.specs.Used.{UsesOnly}
use Rattle.pesp_truth.proofs.Choosing.{only_rows_are_kept, conflict_is_none, chosen_conflict}
use Rattle.pesp_truth.proofs.Using.{used_rows_conflict}
use Rattle.pesp_search.specs.Solving.{IsSolved}
use Rattle.pesp_conflict.specs.Findings.{IsConflict, IsOpenOver, AreFit}
use Rattle.pesp_conflict.specs.Insides.{IsToldBy, IsPart, IsDecision, IsOpenWithout}
use Rattle.pesp_conflict.specs.declared.decision.Decision.{Decision}
use Rattle.pesp_conflict.specs.declared.decision.Decision.TheVariants as decisions

-- ---- the listed rows that are used

pub length-only_rows : (p : Pesp) (listed : List ℕ) → length (only_rows p listed).rows ≡ length listed
length-only_rows p listed = length-map listed (λ (row : ℕ). unweighted (row_at p.rows (row - 1)))

chosen_among : (listed places : List ℕ) → All (Names (length listed)) places → All (Contains listed) (chosen listed places)
chosen_among listed places names = All-map (Contains listed) (λ (place : ℕ). slice_index listed (place - 1)) places
    (λ i d l. at (get_or places i d) (names i d l))
  where
    at : (place : ℕ) → Names (length listed) place → Contains listed (slice_index listed (place - 1))
    at place n = (let inside : place - 1 < length listed = omega (arith, n) in
        (place - 1, inside, get_or_default listed (place - 1) (slice_index listed (place - 1)) 0 inside))

pub used_part : (p : Pesp) (listed places : List ℕ) (content : Content) → IsToldBy p listed content
    → content.answer ≡ Infeasible → All (Names (length listed)) places → UsesOnly (length listed) content places
    → IsPart p listed (chosen listed places)
used_part p listed places content told answer names uses =
    let used = subst (λ (k : ℕ). UsesOnly k content places) (sym (length-only_rows p listed)) uses in
    let conflict = used_rows_conflict (only_rows p listed) content places told.some_period told.valid answer used in
    (chosen_conflict p listed places names conflict, chosen_among listed places names)

-- ---- conflicts

pub part_is_conflict : (p : Pesp) (listed rows : List ℕ) → AreFit p listed → IsPart p listed rows
    → IsStrictlyIncreasing rows → IsConflict p rows × All (Contains listed) rows
part_is_conflict p listed rows fit part rising = (
  record {
    exist = λ i d l. All-contains (Names (length p.rows)) listed (get_or rows i d) fit.1 (part.1 i d l);
    rising = rising;
    none_keep = part.0;
  },
  part.1,
)

each_listed : (listed : List ℕ) → All (Contains listed) listed
each_listed listed i d l = (i, l, get_or_default listed i (get_or listed i d) d l)

pub whole_conflict : (p : Pesp) (listed : List ℕ) (content : Content) → IsToldBy p listed content
    → content.answer ≡ Infeasible → IsConflict p listed × All (Contains listed) listed
whole_conflict p listed content told answer =
    let true_answer = valid_is_true None (only_rows p listed) content told.some_period told.valid in
    let none : HasNoTimetable (only_rows p listed) =
    subst (λ (a : Answer). IsTrueAnswer (only_rows p listed) a (shown_times content)) answer true_answer in
    (record { exist = told.fit.1; rising = told.fit.0; none_keep = (conflict_is_none p listed).1 none }, each_listed listed)

-- ---- times that keep the listed rows

shown_keep : (p : Pesp) (listed : List ℕ) (answer : Answer) (c : ℕ) (labels : List ℤ) (times : List ℕ)
    → cost_of answer ≡ Some c → ShowsAnswer (only_rows p listed) answer labels times → KeepsRows p listed times
shown_keep p listed (Optimal d) c labels times e s = (only_rows_are_kept p listed times).0 (s.1.0)
shown_keep p listed Infeasible c labels times e s = cc
shown_keep p listed (Bounded least (Some d)) c labels times e s = (only_rows_are_kept p listed times).0 (s.1.1.0)
shown_keep p listed (Bounded least None) c labels times e s = cc

pub kept_by_shown : (p : Pesp) (listed : List ℕ) (content : Content) (c : ℕ) → IsToldBy p listed content
    → cost_of content.answer ≡ Some c → (times : List ℕ) × KeepsRows p listed times
kept_by_shown p listed content c told e = (
  shown_times content,
  shown_keep p listed content.answer c (shown_labels content) (shown_times content) e told.valid.answer,
)

-- ---- what a search over the listed rows decides

open_over : (p part : Pesp) (listed : List ℕ) (steps used : ℕ) (content : Content) → part ≡ only_rows p listed
    → IsSolved part steps used content → IsOpenWithout content → IsOpenOver p steps listed
open_over p part listed steps used content is solved without =
    let all = solved.finished (rw (without.1) tt) in record {
      content = content;
      solved = subst (λ (n : ℕ). IsSolved (only_rows p listed) steps n content) all
          (subst (λ (q : Pesp). IsSolved q steps used content) is solved);
      least = without.0;
      answer = without.1;
    }

pub decided_over : (p part : Pesp) (listed : List ℕ) (steps used : ℕ) (content : Content) (d : Decision)
    → part ≡ only_rows p listed → IsSolved part steps used content → IsDecision p listed (IsOpenWithout content) d
    → IsDecision p listed (IsOpenOver p steps listed) d
decided_over p part listed steps used content (decisions.Conflict rows) is solved d = d
decided_over p part listed steps used content decisions.Timetable is solved d = d
decided_over p part listed steps used content decisions.Undecided is solved d = open_over p part listed steps used content is solved d

pub told_of_part : (p part : Pesp) (listed : List ℕ) (content : Content) → 0 < p.period → AreFit p listed
    → part ≡ only_rows p listed → IsValid None part content → IsToldBy p listed content
told_of_part p part listed content some fit is valid =
    record { some_period = some; fit = fit; valid = subst (λ (q : Pesp). IsValid None q content) is valid }
