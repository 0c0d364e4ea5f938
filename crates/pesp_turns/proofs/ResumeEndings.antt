-- How a search that goes on from a certificate ends, one look after the other.
use Rattle.std.proofs.Common.{◌≡◌, ◌≢◌, ◌⊎◌, ℕ, ◌+◌, ◌<◌, ◌≤◌, Bool, true, false, List, [], ◌∷◌, length, length-append, refl, inl, inr, ap, sym, ◌∙◌, subst, arith}
use Rattle.std.specs.Prelude.{Some, None, Result, Ok, Err, IfOk}
use Rattle.std.proofs.lemmas.List.{length-set}
use Rattle.pesp_truth.specs.Certificates.{Content}
use Rattle.pesp_nodes.specs.Problems.{ProblemValue}
use Rattle.pesp_tree.specs.declared.job.Job.{Job}
use Rattle.pesp_tree.specs.declared.work.Work.{Work}
use Rattle.pesp_tree.specs.declared.refusal.LendRefusal.TheVariants as lending
use Rattle.pesp_tree.specs.declared.refusal.GiveRefusal.{GiveRefusal}
use Rattle.pesp_tree.specs.States.{State, BoardValue, Ticket, Lent, Given}
use Rattle.pesp_tree.specs.Events.{Lends, LendsLeaf, Gives}
use Rattle.pesp_tree.specs.Adopting.{Adopts}
use Rattle.pesp_tree.proofs.Lending.{ticket_in, none_is_lent}
use Rattle.pesp_turns.specs.declared.known.Known.{Known}
use Rattle.pesp_turns.specs.declared.ending.Ending.{Ending as TurnsEnding}
use Rattle.pesp_turns.specs.declared.ending.Ending.TheVariants as turns
use Rattle.pesp_reduce.specs.Reductions.{ReducedValue}
use Rattle.pesp_turns.specs.Endings.{AreLentSettled, TakesTurns, SpendsNumbers, EndsAs}
use Rattle.pesp_turns.proofs.Endings.{turns_join, turns_spend}
use Rattle.pesp_turns.specs.declared.resume_ending.ResumeEnding.{ResumeEnding}
use Rattle.pesp_turns.specs.declared.resume_ending.ResumeEnding.TheVariants.{StepsUsed, NoneOpen, Full, Stopped}
use Rattle.pesp_turns.specs.declared.splits.Done.{Done}
use Rattle.pesp_turns.specs.declared.resumption.Resumed.{Resumed}
use Rattle.pesp_turns.specs.ResumeEndings.{ending_of, IsNoneWaiting, IsEndedAs, AreTold}
use Rattle.pesp_turns.specs.Looking.{IsLook}

-- ---- looks

-- so many looks were taken, with at least so many turns, and what is lent is settled
pub record AreLooks (p q : ProblemValue) (r : ReducedValue) (look : ℕ) (old now : State) : Type 0 where
  pub problem : q ≡ p
  pub turns : AreLentSettled p old → TakesTurns p r look old now

pub no_looks : (p : ProblemValue) (r : ReducedValue) (old : State) → AreLooks p p r 0 old old
no_looks p r old = record { problem = refl; turns = λ h. record { settled = h; count = 0; many = omega arith; lead = refl } }

-- a look that ends nothing takes a turn
went_on : (p : ProblemValue) (r : ReducedValue) (used : ℕ) (ending : TurnsEnding) (old new : State)
    → ending_of ending ≡ None → EndsAs p r 1 old used ending new → TakesTurns p r 1 old new
went_on p r used turns.StepsUsed old new e h =
    record {
      settled = h.1.settled;
      count = h.1.count;
      many = (let one = h.0 in let many = h.1.many in omega (arith, one, many));
      lead = h.1.lead;
    }
went_on p r used turns.NoneOpen old new e h = cc
went_on p r used turns.NumbersSpent old new e h = cc
went_on p r used turns.TreeTooLarge old new e h = cc
went_on p r used turns.TurnsUsed old new e h =
    record {
      settled = h.settled;
      count = h.count;
      many = (let many = h.many in omega (arith, many));
      lead = h.lead;
    }

then_turns : (p : ProblemValue) (r : ReducedValue) (m n : ℕ) (old mid new : State) → TakesTurns p r m old mid
    → TakesTurns p r n mid new → TakesTurns p r (m + n) old new
then_turns p r m n old mid new g h = record {
  settled = h.settled;
  count = g.count + h.count;
  many = (let first = g.many in let second = h.many in omega (arith, first, second));
  lead = turns_join p r g.count h.count old mid new g.lead h.lead;
}

-- the run of one look, told of the first problem
one_run : (p q : ProblemValue) (r : ReducedValue) (used : ℕ) (ending : TurnsEnding) (now new : State) → q ≡ p
    → (AreLentSettled q now → EndsAs q r 1 now used ending new) → AreLentSettled p now
    → EndsAs p r 1 now used ending new
one_run p q r used ending now new e ends = subst (λ (y : ProblemValue). AreLentSettled y now → EndsAs y r 1 now used ending new) e ends

pub look_more : (p q x : ProblemValue) (r : ReducedValue) (look used : ℕ) (ending : TurnsEnding)
    (old now new : State) → x ≡ q → AreLooks p q r look old now → ending_of ending ≡ None
    → (AreLentSettled q now → EndsAs q r 1 now used ending new) → AreLooks p x r (look + 1) old new
look_more p q x r look used ending old now new e h on ends = record {
  problem = e ∙ h.problem;
  turns = λ s. (let was = h.turns s in then_turns p r look 1 old now new was
      (went_on p r used ending now new on (one_run p q r used ending now new h.problem ends was.settled)));
}

-- what is known of the problem is the same
pub ends_known : (q : ProblemValue) (a b : Known) (used : ℕ) (ending : TurnsEnding) (now new : State) → a ≡ b
    → (AreLentSettled q now → EndsAs q a.reduced 1 now used ending new) → AreLentSettled q now
    → EndsAs q b.reduced 1 now used ending new
ends_known q a b used ending now new e h = subst (λ (k : Known). AreLentSettled q now → EndsAs q k.reduced 1 now used ending new) e h

-- ---- ends

-- numbers that are spent by a run behind a run
then_spends : (p : ProblemValue) (r : ReducedValue) (m : ℕ) (old mid new : State) → TakesTurns p r m old mid
    → SpendsNumbers p r mid new → SpendsNumbers p r old new
then_spends p r m old mid new g h = record {
  count = g.count + h.count;
  lead = turns_join p r g.count h.count old mid new g.lead h.lead;
  spent = h.spent;
}

ended : (p : ProblemValue) (r : ReducedValue) (steps used all look : ℕ) (stopped : Type 0) (turn : TurnsEnding)
    (ending : ResumeEnding) (old now new : State) → ending_of turn ≡ Some ending → TakesTurns p r look old now
    → EndsAs p r 1 now used turn new → IsEndedAs p steps stopped old new all ending
ended p r steps used all look stopped turns.StepsUsed ending old now new e g h = cc
ended p r steps used all look stopped turns.NoneOpen ending old now new e g h =
    (let same : NoneOpen ≡ ending = cc in subst (IsEndedAs p steps stopped old new all) same h)
ended p r steps used all look stopped turns.NumbersSpent ending old now new e g h =
    (let same : Full ≡ ending = cc in subst (IsEndedAs p steps stopped old new all) same
    (inr (inl (r, then_spends p r look old now new g h))))
ended p r steps used all look stopped turns.TreeTooLarge ending old now new e g h =
    (let same : Full ≡ ending = cc in subst (IsEndedAs p steps stopped old new all) same (inl h))
ended p r steps used all look stopped turns.TurnsUsed ending old now new e g h = cc

pub look_ends : (p q : ProblemValue) (r : ReducedValue) (steps look used all : ℕ) (stopped : Type 0)
    (turn : TurnsEnding) (ending : ResumeEnding) (old now new : State) → AreLooks p q r look old now
    → ending_of turn ≡ Some ending → (AreLentSettled q now → EndsAs q r 1 now used turn new) → AreLentSettled p old
    → IsEndedAs p steps stopped old new all ending
look_ends p q r steps look used all stopped turn ending old now new h e ends s =
    let was = h.turns s in
    ended p r steps used all look stopped turn ending old now new e was (one_run p q r used turn now new h.problem ends was.settled)

-- after 1000000 looks the numbers are spent
pub looks_end : (p q : ProblemValue) (r : ReducedValue) (steps look used : ℕ) (stopped : Type 0) (old now : State)
    → 1000000 ≤ look → AreLooks p q r look old now → AreLentSettled p old
    → IsEndedAs p steps stopped old now used Full
looks_end p q r steps look used stopped old now most h s =
    let was = h.turns s in
    let many = was.many in
    let spent = turns_spend p r was.count old now was.lead in
    inr (inl (r, record { count = was.count; lead = was.lead; spent = omega (arith, most, many, spent) }))

-- so many leaves were split as may be, at least one
pub all_used : (p : ProblemValue) (steps used : ℕ) (stopped : Type 0) (old state : State) → steps ≤ used
    → used ≤ steps → 0 < steps → IsEndedAs p steps stopped old state used StepsUsed
all_used p steps used stopped old state most few some = (omega (arith, most, few), λ none. absurd (omega (arith, some, none)))

-- ---- looks without a split

pub none_waits : (p : ProblemValue) (old new : State) → Lends p old (Ok None) new → IsEndedAs p 0 ⊥ old new 0 StepsUsed
none_waits p old new l = (refl, λ e. subst (IsNoneWaiting p) (sym l.0) l.1)

pub numbers_spent : (p : ProblemValue) (old new : State) → Lends p old (Err lending.NumbersSpent) new → IsEndedAs p 0 ⊥ old new 0 Full
numbers_spent p old new l = inr (inr (refl, subst (λ (s : State). 1000000 ≤ length s.numbers) (sym l.0) l.2))

pub give_numbers : (p : ProblemValue) (old new : State) (number : ℕ) (work : Work)
    (reply : Result (Unit {0}) GiveRefusal) → Gives p old number work reply new
    → length new.numbers ≡ length old.numbers
give_numbers p old new number work (Ok done) t = ap (λ (s : State). length s.numbers) t.state ∙ length-set old.numbers number Given
give_numbers p old new number work (Err refusal) g = ap (λ (s : State). length s.numbers) g.0

lent_number : (p : ProblemValue) (old mid : State) (job : Job) → LendsLeaf p old job mid → length mid.numbers ≡ length old.numbers + 1
lent_number p old mid job l = ap (λ (s : State). length s.numbers) l.state ∙ length-append old.numbers (Lent job.path.items ∷ [])

pub one_look : (p : ProblemValue) (old mid new : State) (job : Job) → LendsLeaf p old job mid
    → length new.numbers ≡ length mid.numbers → IsLook p old None new
one_look p old mid new job l e = e ∙ lent_number p old mid job l

-- looks end alike from an earlier state, where more is said of a stop
watched : {A B : Type 0} (p : ProblemValue) (old now state : State) (ending : ResumeEnding) → (A → B)
    → IsEndedAs p 0 A now state 0 ending → IsEndedAs p 0 B old state 0 ending
watched p old now state StepsUsed f h = h
watched p old now state NoneOpen f h = h
watched p old now state Full f (inl full) = inl full
watched p old now state Full f (inr (inl h)) = inr (inr (refl, h.1.spent))
watched p old now state Full f (inr (inr h)) = inr (inr h)
watched p old now state Stopped f h = f h

-- the problem is the same
pub looked : (p q : ProblemValue) (stopped : Type 0) (old now new : State) (found : ResumeEnding) → q ≡ p
    → IsLook q now (Some found) new → IsEndedAs p 0 stopped old new 0 found
looked p q stopped old now new found e l = watched p old now new found (λ never. absurd never)
    (subst (λ (x : ProblemValue). IsEndedAs x 0 ⊥ now new 0 found) e l)

pub looked_from : (p q : ProblemValue) (stopped : Type 0) (old mid new : State) (ending : ResumeEnding) → q ≡ p
    → IsEndedAs q 0 stopped mid new 0 ending → IsEndedAs p 0 stopped old new 0 ending
looked_from p q stopped old mid new ending e l =
    watched p old mid new ending (λ h. h) (subst (λ (x : ProblemValue). IsEndedAs x 0 stopped mid new 0 ending) e l)

-- the numbers of all looks are spent
pub all_looked : (p : ProblemValue) (stopped : Type 0) (old new : State) → 1000000 ≤ length new.numbers
    → IsEndedAs p 0 stopped old new 0 Full
all_looked p stopped old new spent = inr (inr (refl, spent))

-- ---- the beginning

-- nothing is lent on a board that takes a certificate up
pub none_is_lent_yet : (p : ProblemValue) (base : Content) (state : State) → Adopts base state → AreLentSettled p state
none_is_lent_yet p base state a number path e =
    absurd (none_is_lent number path (ap (λ (xs : List Ticket). ticket_in xs number) (sym a.numbers) ∙ e))

-- ---- what is answered

as_ended : (p : ProblemValue) (steps used told : ℕ) (stopped : Type 0) (old state : State) (ending found : ResumeEnding)
    → told ≡ used → found ≡ ending → IsEndedAs p steps stopped old state used ending
    → IsEndedAs p steps stopped old state told found
as_ended p steps used told stopped old state ending found e f h =
    subst (λ (n : ℕ). IsEndedAs p steps stopped old state n found) (sym e)
    (subst (IsEndedAs p steps stopped old state used) (sym f) h)

pub none_split : {E : Type 0} (p : ProblemValue) (steps : ℕ) (stopped : Type 0) (old state : State)
    (r : Result Done E) → steps ≡ 0 → IfOk r (λ d. d.used ≡ 0)
    → IfOk r (λ d. IsEndedAs p 0 stopped old state 0 d.ending)
    → IfOk r (λ d. IsEndedAs p steps stopped old state d.used d.ending)
none_split p steps stopped old state (Ok d) e used h =
    subst (λ (n : ℕ). IsEndedAs p n stopped old state d.used d.ending) (sym e)
    (subst (λ (n : ℕ). IsEndedAs p 0 stopped old state n d.ending) (sym used) h)
none_split p steps stopped old state (Err x) e used h = tt

pub certified_ends : {E : Type 0} (a : BoardValue) (steps : ℕ) (stopped : Type 0) (state : State) (done : Done)
    (r : Result Resumed E) → (AreLentSettled a.problem a.state
    → IsEndedAs a.problem steps stopped a.state state done.used done.ending)
    → IfOk r (λ x. x.steps_used ≡ done.used) → IfOk r (λ x. x.ending ≡ done.ending)
    → AreLentSettled a.problem a.state → IfOk r
    (λ x. IsEndedAs a.problem steps stopped a.state state x.steps_used x.ending)
certified_ends a steps stopped state done (Ok x) h used ending s =
    as_ended a.problem steps done.used x.steps_used stopped a.state state done.ending x.ending used ending (h s)
certified_ends a steps stopped state done (Err x) h used ending s = tt

-- ---- what the watcher is told

-- each number of leaves that were split so far was told, and the answer was to go on
abbrev pub AreToldTo : (ℕ → Bool → Type 0) → ℕ → Type 0
AreToldTo said used = (n : ℕ) → 1 ≤ n → n ≤ used → said n true

pub none_told : (said : ℕ → Bool → Type 0) → AreToldTo said 0
none_told said n some few = absurd (omega (arith, some, few))

before_or_last : (n used more : ℕ) → more ≤ 1 → n ≤ used + more → (n ≤ used) ⊎ (n ≡ used + more)
before_or_last n used more one few = grind arith

pub told_more : (was now : ℕ → Bool → Type 0) (used more : ℕ) (answer : Bool) → more ≤ 1 → AreToldTo was used
    → ((n : ℕ) (b : Bool) → was n b → now n b) → answer ≡ true → now (used + more) answer → AreToldTo now (used + more)
told_more was now used more answer one before kept go last n some few = elim (before_or_last n used more one few) [
  | inl early ↦ kept n true (before n some early)
  | inr same ↦ subst (λ (m : ℕ). now m true) (sym same) (subst (now (used + more)) go last)
]

-- where the answer is to end
pub told_stop : (was now : ℕ → Bool → Type 0) (used more : ℕ) (answer : Bool) → more ≤ 1 → AreToldTo was used
    → ((n : ℕ) (b : Bool) → was n b → now n b) → answer ≡ false → now (used + more) answer
    → AreTold now (used + more) Stopped
told_stop was now used more answer one before kept stop last =
    (λ n some less. kept n true (before n some (omega (arith, less, one))), subst (now (used + more)) stop last)

-- where the search ends by itself, the last number may be missing
pub told_before : (said : ℕ → Bool → Type 0) (used more : ℕ) (turn : TurnsEnding) (ending : ResumeEnding)
    → ending_of turn ≡ Some ending → more ≤ 1 → AreToldTo said used → AreTold said (used + more) ending
told_before said used more turns.StepsUsed ending e one before = cc
told_before said used more turns.NoneOpen ending e one before =
    (let same : NoneOpen ≡ ending = cc in subst (AreTold said (used + more)) same
    (λ n some less. before n some (omega (arith, less, one))))
told_before said used more turns.NumbersSpent ending e one before =
    (let same : Full ≡ ending = cc in subst (AreTold said (used + more)) same
    (λ n some less. before n some (omega (arith, less, one))))
told_before said used more turns.TreeTooLarge ending e one before =
    (let same : Full ≡ ending = cc in subst (AreTold said (used + more)) same
    (λ n some less. before n some (omega (arith, less, one))))
told_before said used more turns.TurnsUsed ending e one before = cc

pub told_full : (said : ℕ → Bool → Type 0) (used : ℕ) → AreToldTo said used → AreTold said used Full
told_full said used before = λ n some less. before n some (omega (arith, less))

-- without a split there is no number to tell, where the search ends by itself
pub nothing_to_tell : (said : ℕ → Bool → Type 0) (p : ProblemValue) (old new : State) (ending : ResumeEnding)
    → IsEndedAs p 0 ⊥ old new 0 ending → AreTold said 0 ending
nothing_to_tell said p old new StepsUsed h = λ n some few. absurd (omega (arith, some, few))
nothing_to_tell said p old new NoneOpen h = λ n some less. absurd (omega (arith, some, less))
nothing_to_tell said p old new Full h = λ n some less. absurd (omega (arith, some, less))
nothing_to_tell said p old new Stopped h = absurd h

-- without a split, where the answer is to end
pub stopped_at_once : (said : ℕ → Bool → Type 0) (answer : Bool) → answer ≡ false → said 0 answer → AreTold said 0 Stopped
stopped_at_once said answer stop last = (λ n some less. absurd (omega (arith, some, less)), subst (said 0) stop last)

pub certified_told : {E : Type 0} (said : ℕ → Bool → Type 0) (done : Done) (r : Result Resumed E)
    → AreTold said done.used done.ending → IfOk r (λ x. x.steps_used ≡ done.used)
    → IfOk r (λ x. x.ending ≡ done.ending) → IfOk r (λ x. AreTold said x.steps_used x.ending)
certified_told said done (Ok x) h used ending =
    subst (λ (n : ℕ). AreTold said n x.ending) (sym used) (subst (AreTold said done.used) (sym ending) h)
certified_told said done (Err x) h used ending = tt

pub certified_heeded : {E : Type 0} {A B : Type 0} (done : Done) (r : Result Resumed E)
    → IfOk r (λ x. x.ending ≡ done.ending) → (done.ending ≢ Stopped → A → B) → IfOk r (λ x. x.ending ≢ Stopped → A → B)
certified_heeded done (Ok x) ending h = λ other. h (λ e. other (ending ∙ e))
certified_heeded done (Err x) ending h = tt
