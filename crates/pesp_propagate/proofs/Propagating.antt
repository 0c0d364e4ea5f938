-- What propagation answers, in the words of networks.
use Rattle.std.proofs.Common.{◌≡◌, ℕ, ◌<◌, ◌⊎◌, inl, inr, List, length, refl, arith, sym, ◌∙◌, subst, Bool, true, false}
use Rattle.std.specs.Prelude.{Result, Ok, Err, IfOk, ◌↔◌, nat_lt, ◌&&◌}
use Rattle.std.proofs.lemmas.Bool.{cases_lt}
use Rattle.std.proofs.lemmas.Bool.Decides.{nat_tests}
use Rattle.pesp_problem.specs.declared.arc.Arc.{Arc}
use Rattle.pesp_problem.specs.declared.memory.Memory.{Memory}
use Rattle.pesp_problem.specs.Arcs.{Net, no_arc}
use Rattle.pesp_problem.specs.Forests.{IsFirstOf}
use Rattle.pesp_problem.specs.Families.{Family, IsFamily, IsSupported, IsWithin, HasNoEmpty, NoFamilyIsSupported}
use Rattle.pesp_network.specs.Networks.{NetworkValue, arcs_of_network, net_of_network, KeepsNetLimits}
use Rattle.pesp_network.proofs.Holding.{arcs_keep_limits}
use Rattle.pesp_domains.specs.declared.outcome.Outcome.{Outcome}
use Rattle.pesp_domains.specs.declared.outcome.Outcome.TheVariants.{Stable, Empty}
use Rattle.pesp_domains.specs.declared.waiting.Waiting.{Waiting}
use Rattle.pesp_domains.specs.Domains.{SetRows, family_of}
use Rattle.pesp_problem.specs.ArcLimits.{HaveEnds}
use Rattle.pesp_domains.specs.Waiting.{waits_at}
use Rattle.pesp_domains.specs.Outcomes.{Shrinks, IsOutcome, LeavesSupported}
use Rattle.pesp_propagate.specs.Answers.{HasNone, TellsEmpty}
use Rattle.pesp_domains.specs.Visits.{net_at, sets_at, RestIsSupported}
use Rattle.pesp_domains.specs.Rows.{RowsValue, network_rows}
use Rattle.pesp_domains.specs.Full.{IsFull}

-- what became of the sets
pub record Ended (n : Net) (ranges : List (ℕ × ℕ)) (events : ℕ) (old new : Family) (result : Result Outcome Memory) : Type 0 where
  pub shrinks : Shrinks n ranges old new
  pub outcome : IfOk result (IsOutcome events new)
  pub supported : IfOk result (LeavesSupported n ranges new)

-- the period and the arcs of the work are those of the network
pub at_network : (n : NetworkValue) (rows : RowsValue) (ranges : List (ℕ × ℕ)) (old new : SetRows)
    (result : Result Outcome Memory) → rows ≡ network_rows n → old.period ≡ n.period → new.period ≡ n.period
    → Ended (net_at rows.period rows.arcs) ranges rows.events (sets_at rows.period old.words)
    (sets_at rows.period new.words) result → Ended (net_of_network n) ranges n.events (family_of old)
    (family_of new) result
at_network n rows ranges old new result e f g h =
    let A : RowsValue → Type 0 = λ r. Ended (net_at r.period r.arcs) ranges r.events (sets_at r.period old.words)
    (sets_at r.period new.words) result in
    let B : ℕ → Type 0 = λ t. Ended (net_of_network n) ranges n.events (sets_at t old.words) (sets_at n.period new.words) result in
    let C : ℕ → Type 0 = λ t. Ended (net_of_network n) ranges n.events (family_of old) (sets_at t new.words) result in
    subst C (sym g) (subst B (sym f) (subst A e h))

pub stable_of : (n : Net) (ranges : List (ℕ × ℕ)) (events : ℕ) (old new : Family) (result : Result Outcome Memory)
    → Ended n ranges events old new result → result ≡ Ok Stable → IsSupported n ranges new × HasNoEmpty events new
stable_of n ranges events old new result h e =
    let P : Result Outcome Memory → Type 0 = λ r. IfOk r (LeavesSupported n ranges new) in
    let Q : Result Outcome Memory → Type 0 = λ r. IfOk r (IsOutcome events new) in
    (subst P e h.supported, subst Q e h.outcome)

pub exact_of : (n : Net) (ranges : List (ℕ × ℕ)) (events : ℕ) (old new : Family) (result : Result Outcome Memory)
    → Ended n ranges events old new result → IfOk result
    (λ outcome. TellsEmpty outcome ↔ HasNone n ranges events old)
exact_of n ranges events old new (Err e) h = tt
exact_of n ranges events old new (Ok Stable) h = (λ x. absurd x, λ none. none new h.supported h.shrinks.within h.outcome)
exact_of n ranges events old new (Ok (Empty e)) h = (
  λ _ s sup wi some.
      let o = h.outcome in
      let f = some e o.0 in
      let a : new e (f.0) ≡ true = h.shrinks.keeps s sup wi e f.0 f.1 in
      let b : new e (f.0) ≡ false = o.1 f.0 in
      absurd (cc),
  λ _. tt,
)

-- the family with no set past the events
cut : ℕ → Family → Family
cut events s x d = nat_lt x events && s x d

cut_in : (b c : Bool) → b ≡ true → c ≡ true → (b && c) ≡ true
cut_in true c e f = f
cut_in false c e f = cc

cut_out : (b c : Bool) → (b && c) ≡ true → (b ≡ true) × (c ≡ true)
cut_out true c e = (refl, e)
cut_out false c e = absurd (cc)

is_lt : (x n : ℕ) → x < n → nat_lt x n ≡ true
is_lt x n h = grind (arith, nat_tests)

lt_is : (x n : ℕ) → nat_lt x n ≡ true → x < n
lt_is x n h = grind (arith, nat_tests)

cut_supported : (n : Net) (ranges : List (ℕ × ℕ)) (events : ℕ) (s : Family) → HaveEnds events n.arcs
    → IsSupported n ranges s → IsSupported n ranges (cut events s)
unfolding cut
cut_supported n ranges events s ends h i l = let e = ends i l in record {
  tails = λ a m. let q = (h i l).tails a (cut_out _ _ m).1 in (q.0, cut_in _ _ (is_lt _ _ e.1) q.1, q.2);
  heads = λ b m. let q = (h i l).heads b (cut_out _ _ m).1 in (q.0, cut_in _ _ (is_lt _ _ e.0) q.1, q.2);
}

bool_cases : (b : Bool) → (b ≡ true) ⊎ (b ≡ false)
bool_cases true = inl refl
bool_cases false = inr refl

-- full sets have all that a family may have
in_full : (n : Net) (events : ℕ) (s full : Family) → IsFull n events full → IsFamily n events s → (x d : ℕ)
    → x < events → s x d ≡ true → full x d ≡ true
in_full n events s full f h x d l m = elim (bool_cases (full x d)) [
  | inl e ↦ e
  | inr e ↦
      let no : IsFirstOf n.arcs x x → ⊥ = λ first. let t : full x d ≡ true = (f.first x d l first).1 (h.first x d l first m) in cc in
      (f.others x d l no).1 (h.below x d l m)
]

of_full : (n : Net) (events : ℕ) (s full : Family) → 0 < n.period → IsFull n events full → IsWithin s full → IsFamily n events s
of_full n events s full p f w = record {
  below = λ x d l m. elim (cases_lt d n.period) [
    | inl a ↦ a
    | inr a ↦
        let no : IsFirstOf n.arcs x x → ⊥ = λ first. let z : d ≡ 0 = (f.first x d l first).0 (w x d m) in omega arith in
        (f.others x d l no).0 (w x d m)
  ];
  first = λ x d l first m. (f.first x d l first).0 (w x d m);
}

pub none_full : (n : Net) (ranges : List (ℕ × ℕ)) (events : ℕ) (full : Family) → 0 < n.period
    → HaveEnds events n.arcs → IsFull n events full
    → HasNone n ranges events full ↔ NoFamilyIsSupported n ranges events
unfolding cut
none_full n ranges events full p ends f = (
  λ none s fam sup some. none (cut events s) (cut_supported n ranges events s ends sup)
      (λ x d m. let q = cut_out _ _ m in in_full n events s full f fam x d (lt_is x events q.0) q.1)
      (λ x l. let q = some x l in (q.0, cut_in _ _ (is_lt x events l) q.1)),
  λ none s sup wi some. none s (of_full n events s full p f wi) sup some,
)

pub full_of : (n : Net) (ranges : List (ℕ × ℕ)) (events : ℕ) (old : Family) (result : Result Outcome Memory)
    → 0 < n.period → HaveEnds events n.arcs → IsFull n events old
    → IfOk result (λ outcome. TellsEmpty outcome ↔ HasNone n ranges events old)
    → IfOk result (λ outcome. TellsEmpty outcome ↔ NoFamilyIsSupported n ranges events)
full_of n ranges events old (Err e) p ends f h = tt
full_of n ranges events old (Ok o) p ends f h = let q = none_full n ranges events old p ends f in (λ e. q.0 (h.0 e), λ e. h.1 (q.1 e))
