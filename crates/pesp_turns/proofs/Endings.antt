-- How turns end on a board in any state: which leaves are lent then, and how many numbers are spent.
use Rattle.std.proofs.Common.{◌≡◌, ℕ, zero, suc, ◌+◌, ◌*◌, ◌<◌, ◌≤◌, Bool, true, false, List, [], ◌∷◌, ◌++◌, length, length-append, set, refl, inl, inr, ap, arith, sym, ◌∙◌, subst}
use Rattle.std.specs.Prelude.{ℤ, ◌≤ℤ◌, ◌<ℤ◌}
use Rattle.std.proofs.lemmas.Int.{ints}
use Rattle.pesp_problem.specs.declared.cut.Cut.{Cut}
use Rattle.pesp_problem.specs.declared.cut.Side.{Side}
use Rattle.pesp_problem.specs.Nodes.{Node, slack_range, offset_range}
use Rattle.pesp_nodes.specs.Problems.{ProblemValue}
use Rattle.pesp_tree.specs.declared.job.Job.{Job}
use Rattle.pesp_tree.specs.declared.work.Work.{Work}
use Rattle.pesp_tree.specs.declared.work.Work.TheVariants as works
use Rattle.pesp_tree.specs.States.{State, Ticket, Lent, Given, Recalled, IsOpen, node_at}
use Rattle.pesp_tree.specs.Events.{LendsLeaf, Takes, Offers, Recalls}
use Rattle.pesp_tree.proofs.Lending.{ticket_in, none_is_lent, lent_more}
use Rattle.pesp_reduce.specs.Reductions.{ReducedValue}
use Rattle.pesp_branching.specs.Offering.{MayOffer}
use Rattle.pesp_branching.proofs.Spent.{given_one, recalled_one}
use Rattle.pesp_turns.specs.declared.ending.Ending.{Ending}
use Rattle.pesp_turns.specs.declared.ending.Ending.TheVariants.{StepsUsed, NoneOpen, NumbersSpent, TreeTooLarge, TurnsUsed}
use Rattle.pesp_turns.specs.declared.turn.Turn.TheVariants.{Split, Closed, GivenUp, Over}
use Rattle.pesp_turns.specs.Turning.{OffersTimes, IsSettling, IsSettledTurn, IsOver, IsTurn}
use Rattle.pesp_turns.specs.Endings.{IsSettledAt, AreLentSettled, IsNoneLeft, IsTurnOn, TurnsLead, EndsAs}

-- ---- numbers

-- each number in a list that is lent has a settled leaf
abbrev AreSettledIn : ProblemValue → List Ticket → Type 0
AreSettledIn p tickets = (number : ℕ) (path : List (Cut × Side)) → ticket_in tickets number ≡ Lent path → IsSettledAt p path

given_is_not_lent : (q : List (Cut × Side)) → Given ≡ Lent q → ⊥
given_is_not_lent q e = cc

recalled_is_not_lent : (q : List (Cut × Side)) → Recalled ≡ Lent q → ⊥
recalled_is_not_lent q e = cc

-- a number that is lent, where the one that was lent last ended, was lent before
lent_before : (tickets : List Ticket) (path q : List (Cut × Side)) (number : ℕ)
    → ticket_in (set (tickets ++ Lent path ∷ []) (length tickets) Given) number ≡ Lent q
    → ticket_in tickets number ≡ Lent q
lent_before [] path q zero e = absurd (given_is_not_lent q e)
lent_before [] path q (suc number) e = absurd (none_is_lent number q e)
lent_before (t ∷ tickets) path q zero e = e
lent_before (t ∷ tickets) path q (suc number) e = lent_before tickets path q number e

-- and where some number ended
lent_still : (tickets : List Ticket) (ended number : ℕ) (q : List (Cut × Side))
    → ticket_in (set tickets ended Recalled) number ≡ Lent q → ticket_in tickets number ≡ Lent q
lent_still [] ended number q e = e
lent_still (t ∷ tickets) zero zero q e = absurd (recalled_is_not_lent q e)
lent_still (t ∷ tickets) zero (suc number) q e = e
lent_still (t ∷ tickets) (suc ended) zero q e = e
lent_still (t ∷ tickets) (suc ended) (suc number) q e = lent_still tickets ended number q e

settled_given : (p : ProblemValue) (tickets : List Ticket) (path : List (Cut × Side)) → AreSettledIn p tickets
    → AreSettledIn p (set (tickets ++ Lent path ∷ []) (length tickets) Given)
settled_given p tickets path h number q e = h number q (lent_before tickets path q number e)

settled_more : (p : ProblemValue) (tickets : List Ticket) (path : List (Cut × Side)) → IsSettledAt p path
    → AreSettledIn p tickets → AreSettledIn p (tickets ++ Lent path ∷ [])
settled_more p tickets path s h number q e = elim (lent_more tickets number q path e) [
  | inl before ↦ h number q before
  | inr here ↦ subst (IsSettledAt p) (sym here.1) s
]

settled_still : (p : ProblemValue) (tickets : List Ticket) (ended : ℕ) → AreSettledIn p tickets
    → AreSettledIn p (set tickets ended Recalled)
settled_still p tickets ended h number q e = h number q (lent_still tickets ended number q e)

-- ---- events

offer_numbers : (p : ProblemValue) (old new : State) (times : List ℕ) (kept : Bool) → Offers p old times kept new
    → new.numbers ≡ old.numbers
offer_numbers p old new times true o = ap (λ (s : State). s.numbers) o.1
offer_numbers p old new times false o = ap (λ (s : State). s.numbers) o.1

may_offer_numbers : (p : ProblemValue) (old new : State) → MayOffer p old new → new.numbers ≡ old.numbers
may_offer_numbers p old new (inl same) = ap (λ (s : State). s.numbers) same
may_offer_numbers p old new (inr (times, kept, o)) = offer_numbers p old new times kept o

given_numbers : (p : ProblemValue) (old mid new : State) (job : Job) (work : Work) → LendsLeaf p old job mid
    → Takes p mid job.number work new → new.numbers
    ≡ set (old.numbers ++ Lent job.path.items ∷ []) (length old.numbers) Given
given_numbers p old mid new job work l t =
    let numbers : mid.numbers ≡ old.numbers ++ Lent job.path.items ∷ [] = ap (λ (s : State). s.numbers) l.state in
    ap (λ (s : State). s.numbers) t.state ∙ rw (numbers, l.number) refl

recalled_settled : (p : ProblemValue) (old new : State) (number : ℕ) (back : Bool) → Recalls old number back new
    → AreSettledIn p old.numbers → AreSettledIn p new.numbers
recalled_settled p old new number true r h = subst (AreSettledIn p) (sym (ap (λ (s : State). s.numbers) r.1))
    (settled_still p old.numbers number h)
recalled_settled p old new number false r h = subst (AreSettledIn p) (sym (ap (λ (s : State). s.numbers) r.1)) h

-- ---- turns

given_leaves : (p : ProblemValue) (old mid given new : State) (job : Job) (work : Work) → LendsLeaf p old job mid
    → Takes p mid job.number work given → new.numbers ≡ given.numbers → AreLentSettled p old → AreLentSettled p new
given_leaves p old mid given new job work l t same h =
    subst (AreSettledIn p) (sym (same ∙ given_numbers p old mid given job work l t))
    (settled_given p old.numbers job.path.items h)

-- the leaf of a settled turn was lent
settled_mid : (p : ProblemValue) (r : ReducedValue) (closed : Bool) (old new : State)
    (s : IsSettledTurn p r old closed new) → AreLentSettled p old → AreSettledIn p s.lent.numbers
settled_mid p r closed old new s h =
    let path = s.job.path.items in
    let numbers : s.lent.numbers ≡ old.numbers ++ Lent path ∷ [] = ap (λ (x : State). x.numbers) s.lends.state in
    subst (AreSettledIn p) (sym numbers) (settled_more p old.numbers path (record { settled = s.settled; left = s.left }) h)

offered_settled : (p : ProblemValue) (r : ReducedValue) (node : Node) (old new : State)
    → OffersTimes p r node old new → AreSettledIn p old.numbers → AreSettledIn p new.numbers
offered_settled p r node old new o h = subst (AreSettledIn p) (sym (offer_numbers p old new o.times o.kept o.offers)) h

settled_leaves : (p : ProblemValue) (r : ReducedValue) (closed : Bool) (old new : State)
    → IsSettledTurn p r old closed new → AreLentSettled p old → AreLentSettled p new
settled_leaves p r true old new s h =
    let x = s.settles in
    recalled_settled p x.offered new s.job.number x.back x.recalls
    (offered_settled p r (node_at p s.job.path.items) s.lent x.offered x.offers
    (settled_mid p r true old new s h))
settled_leaves p r false old new s h =
    by_times s.settles
  where
    by_times : IsSettling p r (node_at p s.job.path.items) s.lent s.job.number false new → AreLentSettled p new
    by_times (inl none) = subst (AreLentSettled p) (sym none.0) (settled_mid p r false old new s h)
    by_times (inr vain) = offered_settled p r (node_at p s.job.path.items) s.lent new vain.offers (settled_mid p r false old new s h)

turn_leaves : (p : ProblemValue) (r : ReducedValue) (old new : State) → IsTurnOn p r old new → AreLentSettled p old → AreLentSettled p new
turn_leaves p r old new (inl s) h = given_leaves p old s.lent s.split new s.job
    (works.Tree s.gives.lines) s.lends s.gives.given (may_offer_numbers p s.split new s.offers) h
turn_leaves p r old new (inr (inl c)) h = given_leaves p old c.lent new new c.job (works.Gap c.cycle) c.lends c.takes refl h
turn_leaves p r old new (inr (inr s)) h = settled_leaves p r s.0 old new s.1 h

-- ---- nothing is left

not_more : (a b : ℕ) → (b < a → ⊥) → a ≤ b
not_more a b not = grind arith

not_above : (a b : ℤ) → (b <ℤ a → ⊥) → a ≤ℤ b
not_above a b not = grind (arith, ints)

not_both : (a b : ℕ) → b < a → a ≤ b → ⊥
not_both a b h k = absurd (omega (arith, h, k))

not_both_int : (a b : ℤ) → b <ℤ a → a ≤ℤ b → ⊥
not_both_int a b h k = absurd (omega (arith, ints, h, k))

-- a node that isn't unsettled is settled
settled_unless : (p : ProblemValue) (path : List (Cut × Side)) → ((IsSettledAt p path → ⊥) → ⊥) → IsSettledAt p path
settled_unless p path h = record {
  settled = record {
    slacks = λ i l passed. not_more (slack_range (node_at p path).slacks i).1
        (slack_range (node_at p path).slacks i).0 (λ more.
        h (λ s. not_both (slack_range (node_at p path).slacks i).1 (slack_range (node_at p path).slacks i).0 more
        (s.settled.slacks i l passed)));
    offsets = λ c l. not_above (offset_range (node_at p path).offsets c).1
        (offset_range (node_at p path).offsets c).0
        (λ more. h (λ s. not_both_int (offset_range (node_at p path).offsets c).1
        (offset_range (node_at p path).offsets c).0 more (s.settled.offsets c l)));
  };
  left = λ c l none. h (λ s. s.left c l none);
}

none_left : (p : ProblemValue) (state : State) → AreLentSettled p state
    → ((path : List (Cut × Side)) → IsOpen p state path → ⊥) → IsNoneLeft p state
none_left p state h closed path pairs leaf cheaper =
    settled_unless p path (λ not. closed path (record {
      pairs = pairs;
      leaf = leaf;
      unlent = λ lent. not (h lent.0 path lent.1);
      cheaper = cheaper;
    }))

-- ---- one turn after the other

-- so many turns were taken, of which so many split a leaf
pub record AreTakenTo (p q : ProblemValue) (r : ReducedValue) (used turn : ℕ) (old now : State) : Type 0 where
  pub problem : q ≡ p
  pub few : used ≤ turn
  pub settled : AreLentSettled p old → AreLentSettled p now
  pub lead : TurnsLead p r turn old now

pub taken_none : (p : ProblemValue) (r : ReducedValue) (old : State) → AreTakenTo p p r 0 0 old old
taken_none p r old = record { problem = refl; few = omega arith; settled = λ h. h; lead = refl }

-- n and one more
one_later : (p : ProblemValue) (r : ReducedValue) (n : ℕ) (old mid new : State) → TurnsLead p r n old mid
    → IsTurnOn p r mid new → TurnsLead p r (n + 1) old new
one_later p r n old mid new h t = subst (λ (k : ℕ). TurnsLead p r k old new) (one_more n) (mid, h, t)
  where
    one_more : (k : ℕ) → suc k ≡ k + 1
    one_more k = omega arith

taken_on : (p q x : ProblemValue) (r : ReducedValue) (used used' turn : ℕ) (old now new : State) → x ≡ q
    → used' ≤ used + 1 → AreTakenTo p q r used turn old now → IsTurnOn q r now new
    → AreTakenTo p x r used' (turn + 1) old new
taken_on p q x r used used' turn old now new e l h t =
    let here : IsTurnOn p r now new = subst (λ (y : ProblemValue). IsTurnOn y r now new) h.problem t in
    record {
      problem = e ∙ h.problem;
      few = (let few = h.few in omega (arith, few, l));
      settled = λ s. turn_leaves p r now new here (h.settled s);
      lead = one_later p r turn old now new h.lead here;
    }

pub taken_split : (p q x : ProblemValue) (r : ReducedValue) (used turn : ℕ) (old now new : State) → x ≡ q
    → AreTakenTo p q r used turn old now → IsTurn q r now Split new → AreTakenTo p x r (used + 1) (turn + 1) old new
taken_split p q x r used turn old now new e h t = taken_on p q x r used (used + 1) turn old now new e (omega arith) h (inl t)

closed_on : (q : ProblemValue) (r : ReducedValue) (now new : State) → IsTurn q r now Closed new → IsTurnOn q r now new
closed_on q r now new (inl c) = inr (inl c)
closed_on q r now new (inr s) = inr (inr (true, s))

pub taken_closed : (p q x : ProblemValue) (r : ReducedValue) (used turn : ℕ) (old now new : State) → x ≡ q
    → AreTakenTo p q r used turn old now → IsTurn q r now Closed new → AreTakenTo p x r used (turn + 1) old new
taken_closed p q x r used turn old now new e h t = taken_on p q x r used used turn old now new e (omega arith) h (closed_on q r now new t)

pub taken_given_up : (p q x : ProblemValue) (r : ReducedValue) (used turn : ℕ) (old now new : State) → x ≡ q
    → AreTakenTo p q r used turn old now → IsTurn q r now GivenUp new → AreTakenTo p x r used (turn + 1) old new
taken_given_up p q x r used turn old now new e h t = taken_on p q x r used used turn old now new e (omega arith) h (inr (inr (false, t)))

-- ---- the end

pub ends_used : (p q : ProblemValue) (r : ReducedValue) (steps used turn : ℕ) (old now : State) → used ≡ steps
    → AreTakenTo p q r used turn old now → AreLentSettled p old → EndsAs p r steps old used StepsUsed now
ends_used p q r steps used turn old now e h s = (e, record { settled = h.settled s; count = turn; many = h.few; lead = h.lead })

pub ends_taken : (p q : ProblemValue) (r : ReducedValue) (steps used turn : ℕ) (old now : State)
    → 2 * steps + 3 ≤ turn → AreTakenTo p q r used turn old now → AreLentSettled p old
    → EndsAs p r steps old used TurnsUsed now
ends_taken p q r steps used turn old now e h s = record { settled = h.settled s; count = turn; many = e; lead = h.lead }

pub ends_over : (p q : ProblemValue) (r : ReducedValue) (steps used turn : ℕ) (old now new : State)
    (ending : Ending) → AreTakenTo p q r used turn old now → IsTurn q r now (Over ending) new
    → AreLentSettled p old → EndsAs p r steps old used ending new
ends_over p q r steps used turn old now new ending h t s =
    by_ending ending (subst (λ (y : ProblemValue). IsOver y now ending new) h.problem t)
  where
    by_ending : (ending : Ending) → IsOver p now ending new → EndsAs p r steps old used ending new
    by_ending StepsUsed o = absurd o
    by_ending NoneOpen o = subst (IsNoneLeft p) (sym o.0) (none_left p now (h.settled s) o.1)
    by_ending NumbersSpent o = record {
      count = turn;
      lead = subst (TurnsLead p r turn old) (sym o.0) h.lead;
      spent = subst (λ (x : State). 1000000 ≤ length x.numbers) (sym o.0) o.2;
    }
    by_ending TreeTooLarge o = record { number = o.job.number; work = o.work; few = o.few; large = o.large }
    by_ending TurnsUsed o = absurd o

-- ---- runs of turns

pub turns_join : (p : ProblemValue) (r : ReducedValue) (m n : ℕ) (old mid new : State) → TurnsLead p r m old mid
    → TurnsLead p r n mid new → TurnsLead p r (m + n) old new
turns_join p r m zero old mid new h k = subst (λ (j : ℕ). TurnsLead p r j old new) (none_more m) (subst (TurnsLead p r m old) (sym k) h)
  where
    none_more : (j : ℕ) → j ≡ j + 0
    none_more j = omega arith
turns_join p r m (suc n) old mid new h k = subst (λ (j : ℕ). TurnsLead p r j old new) (one_more m n)
    (k.0, turns_join p r m n old mid k.0 h k.1, k.2)
  where
    one_more : (i j : ℕ) → suc (i + j) ≡ i + suc j
    one_more i j = omega arith

-- a turn spends one number
turn_spends : (p : ProblemValue) (r : ReducedValue) (old new : State) → IsTurnOn p r old new → length new.numbers ≡ length old.numbers + 1
turn_spends p r old new (inl s) = ap length (may_offer_numbers p s.split new s.offers)
    ∙ given_one p old s.lent s.split s.job (works.Tree s.gives.lines) s.lends s.gives.given
turn_spends p r old new (inr (inl c)) = given_one p old c.lent new c.job (works.Gap c.cycle) c.lends c.takes
turn_spends p r old new (inr (inr (true, s))) =
    (let x = s.settles in recalled_one p old s.lent x.offered new s.job x.offers.times x.offers.kept x.back s.lends
    x.offers.offers x.recalls)
turn_spends p r old new (inr (inr (false, s))) =
    by_times s.settles ∙ ap (λ (x : State). length x.numbers) s.lends.state ∙ length-append old.numbers (Lent s.job.path.items ∷ [])
  where
    by_times : IsSettling p r (node_at p s.job.path.items) s.lent s.job.number false new → length new.numbers ≡ length s.lent.numbers
    by_times (inl none) = ap (λ (x : State). length x.numbers) none.0
    by_times (inr vain) = ap length (offer_numbers p s.lent new vain.offers.times vain.offers.kept vain.offers.offers)

pub turns_spend : (p : ProblemValue) (r : ReducedValue) (n : ℕ) (old new : State) → TurnsLead p r n old new
    → length new.numbers ≡ length old.numbers + n
turns_spend p r zero old new h = ap (λ (x : State). length x.numbers) h ∙ none_more (length old.numbers)
  where
    none_more : (j : ℕ) → j ≡ j + 0
    none_more j = omega arith
turns_spend p r (suc n) old new h =
    let one = turn_spends p r h.0 new h.2 in
    let before = turns_spend p r n old h.0 h.1 in
    omega (arith, one, before)
