-- The work on a small problem, event by event: two rows side by side, of which one leaf at the root shows nothing.
use Rattle.std.proofs.Common.{◌≡◌, ℕ, ◌<◌, ◌≤◌, zero, suc, List, [], ◌∷◌, ◌++◌, length, refl, sym, ap, arith, subst, true, false}
use Rattle.std.specs.Prelude.{ℤ, pos, negsuc, ◌<ℤ◌, Option, Some, None, Ok, Err, slice_set}
use Rattle.std.proofs.lemmas.Int.{ints}
use Rattle.pesp_problem.specs.declared.pair.Pair.{Pair}
use Rattle.pesp_problem.specs.declared.arc.Arc.{Arc}
use Rattle.pesp_problem.specs.declared.cut.Cut.{Cut}
use Rattle.pesp_problem.specs.declared.cut.Cut.TheVariants.{Offset}
use Rattle.pesp_problem.specs.declared.cut.Side.{Side}
use Rattle.pesp_problem.specs.declared.cut.Side.TheVariants.{Low, High}
use Rattle.pesp_problem.specs.Arcs.{arc_slack}
use Rattle.pesp_problem.specs.NetTimetables.{IsNetTimetable}
use Rattle.pesp_problem.proofs.Worked.{pair, single, both, aside_table}
use Rattle.pesp_network.specs.declared.row.NetRow.{NetRow}
use Rattle.pesp_network.specs.Networks.{arc_of_net}
use Rattle.pesp_truth.specs.declared.answer.Answer.TheVariants.{Optimal, Bounded}
use Rattle.pesp_truth.specs.Trees.{Tree, Ends, Branch, Bound}
use Rattle.pesp_nodes.specs.Problems.{ProblemValue, problem_net, ArePairs, IsPairOf}
use Rattle.pesp_tree.specs.declared.job.Job.{Job}
use Rattle.pesp_tree.specs.declared.work.Work.{Work}
use Rattle.pesp_tree.specs.declared.work.Work.TheVariants as works
use Rattle.pesp_tree.specs.declared.refusal.GiveRefusal.TheVariants.{UnknownJob, AlreadyGiven, NotValid}
use Rattle.pesp_truth.specs.Leaves.{put}
use Rattle.pesp_tree.specs.Limits.{IsSmallTree}
use Rattle.pesp_tree.specs.States.{State, Ticket, Lent, Given, Recalled, opening, HasLeaf, IsOpen, node_at, least, best_cost}
use Rattle.pesp_tree.specs.Events.{Event, Lend, Give, Recall, Offer, Step, Run, LendsLeaf, Makes, Takes}
use Rattle.pesp_tree.specs.Certificates.{answer_of}
use Rattle.pesp_tree.proofs.Lending.{ticket_in}

-- ---- events of any board

lends_at : (p : ProblemValue) (old : State) (job : Job) (path : List (Cut × Side))
    → job.number ≡ length old.numbers → job.path.items ≡ path → length old.numbers < 1000000 → IsOpen p old path
    → LendsLeaf p old job (record old { numbers = old.numbers ++ Lent path ∷ [] })
lends_at p old job path n e l opens = record {
  opens = subst (IsOpen p old) (sym e) opens;
  number = n;
  left = l;
  state = ap (λ (x : List (Cut × Side)). let new : State = record old { numbers = old.numbers ++ Lent x ∷ [] } in new) (sym e);
}

takes_at : (p : ProblemValue) (old : State) (number : ℕ) (work : Work) (path : List (Cut × Side))
    (pairs : List Pair) (part : Tree) → HasLeaf old number path pairs → Makes p (node_at p path) pairs work part
    → IsSmallTree (put old.tree path part)
    → Takes p old number work (record old { tree = put old.tree path part; numbers = slice_set old.numbers number Given })
takes_at p old number work path pairs part h m s =
    record { path = path; pairs = pairs; leaf = h; part = part; makes = m; small = s; state = refl }

-- ---- the problem

abbrev first_row : NetRow
first_row = record { tail = 0; head = 1; lower = pos 0; span = 9; weight = 1; origin = 1 }

abbrev second_row : NetRow
second_row = record { tail = 0; head = 1; lower = pos 5; span = 9; weight = 1; origin = 2 }

abbrev aside : ProblemValue
aside = record { network = record { period = 10; events = 2; rows = first_row ∷ second_row ∷ []; forest = 1 ∷ [] }; table = aside_table }

abbrev cut : Cut
cut = Offset 1 (negsuc 0)

abbrev at_low : List (Cut × Side)
at_low = (cut, Low) ∷ []

abbrev at_high : List (Cut × Side)
at_high = (cut, High) ∷ []

abbrev plus_pair : List Pair
plus_pair = pair 1 (pos 1) ∷ []

abbrev minus_pair : List Pair
minus_pair = pair 1 (negsuc 0) ∷ []

one_pair : (m : ℤ) → IsPairOf 1 (pair 1 m) → ArePairs 1 (pair 1 m ∷ [])
one_pair m h = record { rise = λ i j d l k. absurd (omega (arith, l, k)); each = single (IsPairOf 1) (pair 1 m) h }

-- ---- the states

abbrev leaves : List Pair → List Pair → Tree
leaves low high = Branch cut (Ends (Bound low)) (Ends (Bound high))

abbrev with_times : Tree → List Ticket → State
with_times tree numbers = record { tree = tree; numbers = numbers; best = Some (0 ∷ 0 ∷ []) }

-- ---- the events

equal_times : IsNetTimetable (problem_net aside) 2 (0 ∷ 0 ∷ [])
equal_times = record {
  count = refl;
  below = both (λ t. t < 10) 0 0 (omega arith) (omega arith);
  slacks = both (λ (arc : Arc). arc_slack 10 (0 ∷ 0 ∷ []) arc ≤ arc.span) (arc_of_net first_row)
      (arc_of_net second_row) (omega arith) (omega arith);
}

offered : Step aside opening (Offer (0 ∷ 0 ∷ []) true) (with_times (Ends (Bound [])) [])
offered = ((equal_times, tt), refl)

-- none of the numbers so far is lent with a path
none_lent : (number : ℕ) (path : List (Cut × Side)) → ticket_in [] number ≡ Lent path → ⊥
none_lent number path e = cc

one_given : (number : ℕ) (path : List (Cut × Side)) → ticket_in (Given ∷ []) number ≡ Lent path → ⊥
one_given zero path e = cc
one_given (suc number) path e = none_lent number path e

-- the side that the first step of a lent leaf's path takes
abbrev first_side : Ticket → Option Side
first_side (Lent []) = None
first_side (Lent (step ∷ path)) = Some step.1
first_side Given = None
first_side Recalled = None

not_low : Lent at_high ≡ Lent at_low → ⊥
not_low e = let sides : Some High ≡ Some Low = ap first_side e in cc sides

high_lent : (number : ℕ) → ticket_in (Given ∷ Lent at_high ∷ []) number ≡ Lent at_low → ⊥
high_lent zero e = cc
high_lent (suc zero) e = not_low e
high_lent (suc (suc number)) e = none_lent number at_low e

below_five : pos 0 <ℤ pos 5
below_five = omega (arith, ints)

root_opens : IsOpen aside (with_times (Ends (Bound [])) []) []
root_opens = record { pairs = []; leaf = refl; unlent = λ l. none_lent l.0 [] l.1; cheaper = below_five }

high_opens : IsOpen aside (with_times (leaves [] []) (Given ∷ [])) at_high
high_opens = record { pairs = []; leaf = (refl, refl); unlent = λ l. one_given l.0 at_high l.1; cheaper = below_five }

low_opens : IsOpen aside (with_times (leaves [] []) (Given ∷ Lent at_high ∷ [])) at_low
low_opens = record { pairs = []; leaf = (refl, refl); unlent = λ l. high_lent l.0 l.1; cheaper = below_five }

split : Makes aside (node_at aside []) [] (works.Split cut) (leaves [] [])
split = record {
  exists = (omega arith, omega arith);
  both = (omega (arith, ints), omega (arith, ints));
  low = Bound [];
  high = Bound [];
  keeps_low = (refl, refl);
  keeps_high = (refl, refl);
  tree = refl;
}

high_pairs : Makes aside (node_at aside at_high) [] (works.Leaf plus_pair) (Ends (Bound plus_pair))
high_pairs = (one_pair (pos 1) (record { names = (omega arith, omega arith); some = omega arith; most = omega arith }), refl, refl)

low_pairs : Makes aside (node_at aside at_low) [] (works.Leaf minus_pair) (Ends (Bound minus_pair))
low_pairs = (one_pair (negsuc 0) (record { names = (omega arith, omega arith); some = omega arith; most = omega arith }), refl, refl)

no_gap : (part : Tree) → Makes aside (node_at aside at_high) [] (works.Gap 1) part → ⊥
no_gap part m = cc (m.0.1.1)

-- the other sign is worth less at the high part, where the leaf keeps what it had
keeps_better : Makes aside (node_at aside at_high) plus_pair (works.Leaf minus_pair) (Ends (Bound plus_pair))
keeps_better = (low_pairs.0, refl, refl)

small_leaf : IsSmallTree (Ends (Bound []))
small_leaf = record { lines = omega arith; pairs = omega arith }

small_leaves : (low high : List Pair) → length low ≤ 1 → length high ≤ 1 → IsSmallTree (leaves low high)
small_leaves low high h k = record { lines = omega arith; pairs = omega (arith, h, k) }

-- ---- the run: times, the root's leaf split in two, a false work, both parts closed, works for numbers that aren't lent

abbrev all_given : State
all_given = with_times (leaves minus_pair plus_pair) (Given ∷ Given ∷ Given ∷ [])

abbrev events : Job → Job → Job → List Event
events root high low =
    Offer (0 ∷ 0 ∷ []) true
    ∷ Lend (Ok (Some root))
    ∷ Give 0 (works.Split cut) (Ok tt)
    ∷ Lend (Ok (Some high))
    ∷ Lend (Ok (Some low))
    ∷ Give 1 (works.Gap 1) (Err NotValid)
    ∷ Give 1 (works.Leaf plus_pair) (Ok tt)
    ∷ Give 1 (works.Leaf plus_pair) (Err AlreadyGiven)
    ∷ Give 7 (works.Leaf plus_pair) (Err UnknownJob)
    ∷ Give 2 (works.Leaf minus_pair) (Ok tt)
    ∷ []

-- a job of this number and this path
abbrev IsJob : Job → ℕ → List (Cut × Side) → Type 0
IsJob job number path = (job.number ≡ number) × (job.path.items ≡ path)

run : (root high low : Job) → IsJob root 0 [] → IsJob high 1 at_high → IsJob low 2 at_low
    → Run aside opening (events root high low) all_given
run root high low r h l =
    let offered_root = with_times (Ends (Bound [])) [] in
    let lent_root = with_times (Ends (Bound [])) (Lent [] ∷ []) in
    let halves = with_times (leaves [] []) (Given ∷ []) in
    let lent_high = with_times (leaves [] []) (Given ∷ Lent at_high ∷ []) in
    let lent_both = with_times (leaves [] []) (Given ∷ Lent at_high ∷ Lent at_low ∷ []) in
    let given_high = with_times (leaves [] plus_pair) (Given ∷ Given ∷ Lent at_low ∷ []) in (
      offered_root,
      offered,
      (
        lent_root,
        lends_at aside offered_root root [] r.0 r.1 (omega arith) root_opens,
        (
          halves,
          takes_at aside lent_root 0 (works.Split cut) [] [] (leaves [] []) (refl, refl) split
              (small_leaves [] [] (omega arith) (omega arith)),
          (
            lent_high,
            lends_at aside halves high at_high h.0 h.1 (omega arith) high_opens,
            (
              lent_both,
              lends_at aside lent_high low at_low l.0 l.1 (omega arith) low_opens,
              (
                lent_both,
                (refl, record { path = at_high; pairs = []; leaf = (refl, (refl, refl)); none = no_gap }),
                (
                  given_high,
                  takes_at aside lent_both 1 (works.Leaf plus_pair) at_high [] (Ends (Bound plus_pair))
                      (refl, (refl, refl)) high_pairs (small_leaves [] plus_pair (omega arith) (omega arith)),
                  (
                    given_high,
                    (refl, refl),
                    (
                      given_high,
                      (refl, refl),
                      (
                        all_given,
                        takes_at aside given_high 2 (works.Leaf minus_pair) at_low [] (Ends (Bound minus_pair))
                            (refl, (refl, refl)) low_pairs (small_leaves minus_pair plus_pair (omega arith)
                            (omega arith)),
                        refl,
                      ),
                    ),
                  ),
                ),
              ),
            ),
          ),
        ),
      ),
    )

-- the bound and the best cost are 5
bound_is : least aside all_given ≡ Some 5
bound_is = refl

best_is : best_cost aside all_given ≡ Some 5
best_is = refl

answer_is : answer_of (least aside all_given) (best_cost aside all_given) ≡ Optimal 5
answer_is = refl

-- ---- another run, without times: a number that is recalled is spent, and its leaf is lent again under the next

abbrev without_times : Tree → List Ticket → State
without_times tree numbers = record { tree = tree; numbers = numbers; best = None }

root_opens_first : IsOpen aside opening []
root_opens_first = record { pairs = []; leaf = refl; unlent = λ l. none_lent l.0 [] l.1; cheaper = tt }

high_opens_first : IsOpen aside (without_times (leaves [] []) (Given ∷ [])) at_high
high_opens_first = record { pairs = []; leaf = (refl, refl); unlent = λ l. one_given l.0 at_high l.1; cheaper = tt }

low_opens_first : IsOpen aside (without_times (leaves [] []) (Given ∷ Lent at_high ∷ [])) at_low
low_opens_first = record { pairs = []; leaf = (refl, refl); unlent = λ l. high_lent l.0 l.1; cheaper = tt }

low_recalled : (number : ℕ) → ticket_in (Given ∷ Given ∷ Recalled ∷ []) number ≡ Lent at_low → ⊥
low_recalled zero e = cc
low_recalled (suc zero) e = cc
low_recalled (suc (suc zero)) e = cc
low_recalled (suc (suc (suc number))) e = none_lent number at_low e

low_opens_again : IsOpen aside (without_times (leaves [] plus_pair) (Given ∷ Given ∷ Recalled ∷ [])) at_low
low_opens_again = record { pairs = []; leaf = (refl, refl); unlent = λ l. low_recalled l.0 l.1; cheaper = tt }

not_lent : (path : List (Cut × Side)) → Recalled ≡ Lent path → ⊥
not_lent path e = cc

abbrev lent_again : State
lent_again = without_times (leaves [] plus_pair) (Given ∷ Given ∷ Recalled ∷ Lent at_low ∷ [])

abbrev recalling : Job → Job → Job → Job → List Event
recalling root high low again =
    Lend (Ok (Some root))
    ∷ Give 0 (works.Split cut) (Ok tt)
    ∷ Lend (Ok (Some high))
    ∷ Lend (Ok (Some low))
    ∷ Give 1 (works.Leaf plus_pair) (Ok tt)
    ∷ Recall 2 true
    ∷ Recall 2 false
    ∷ Lend (Ok (Some again))
    ∷ []

run_with_recall : (root high low again : Job) → IsJob root 0 [] → IsJob high 1 at_high → IsJob low 2 at_low
    → IsJob again 3 at_low → Run aside opening (recalling root high low again) lent_again
run_with_recall root high low again r h l a =
    let lent_root = without_times (Ends (Bound [])) (Lent [] ∷ []) in
    let halves = without_times (leaves [] []) (Given ∷ []) in
    let lent_high = without_times (leaves [] []) (Given ∷ Lent at_high ∷ []) in
    let lent_both = without_times (leaves [] []) (Given ∷ Lent at_high ∷ Lent at_low ∷ []) in
    let given_high = without_times (leaves [] plus_pair) (Given ∷ Given ∷ Lent at_low ∷ []) in
    let recalled_low = without_times (leaves [] plus_pair) (Given ∷ Given ∷ Recalled ∷ []) in (
      lent_root,
      lends_at aside opening root [] r.0 r.1 (omega arith) root_opens_first,
      (
        halves,
        takes_at aside lent_root 0 (works.Split cut) [] [] (leaves [] []) (refl, refl) split
            (small_leaves [] [] (omega arith) (omega arith)),
        (
          lent_high,
          lends_at aside halves high at_high h.0 h.1 (omega arith) high_opens_first,
          (
            lent_both,
            lends_at aside lent_high low at_low l.0 l.1 (omega arith) low_opens_first,
            (
              given_high,
              takes_at aside lent_both 1 (works.Leaf plus_pair) at_high [] (Ends (Bound plus_pair))
                  (refl, (refl, refl)) high_pairs (small_leaves [] plus_pair (omega arith) (omega arith)),
              (
                recalled_low,
                ((at_low, refl), refl),
                (
                  recalled_low,
                  (λ lent. not_lent lent.0 lent.1, refl),
                  (
                    lent_again,
                    lends_at aside recalled_low again at_low a.0 a.1 (omega arith) low_opens_again,
                    refl,
                  ),
                ),
              ),
            ),
          ),
        ),
      ),
    )

-- nothing is known of a best cost, and the low part's leaf is worth 0
still_open : answer_of (least aside lent_again) (best_cost aside lent_again) ≡ Bounded 0 None
still_open = refl
