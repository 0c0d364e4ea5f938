-- What is told of a certificate's tree, by the marks and the lemmas of its front.
use Rattle.std.proofs.Common.{◌≡◌, ◌∙◌, ℕ, ◌<◌, refl, sym, ap, subst, arith, List, length, Option, Some, None, true}
use Rattle.std.specs.Prelude.{ℤ, pos, All, IfSome, option_map, nat_lt}
use Rattle.std.specs.Option.{ForSome}
use Rattle.std.proofs.lemmas.Bool.Decides.{nat_tests}
use Rattle.pesp_problem.specs.declared.arc.Arc.{Arc}
use Rattle.pesp_problem.specs.Timetables.{Pesp}
use Rattle.pesp_problem.specs.Arcs.{Net, arcs_of, net_of}
use Rattle.pesp_problem.specs.Walks.{RowExists}
use Rattle.pesp_truth.specs.declared.answer.Answer.{Answer}
use Rattle.pesp_truth.specs.declared.answer.Answer.TheVariants.{Optimal, Infeasible, Bounded}
use Rattle.pesp_truth.specs.Marks.{Marks}
use Rattle.pesp_truth.specs.Lemmas.{Lemma}
use Rattle.pesp_truth.specs.Trees.{Plain, cost_goal}
use Rattle.pesp_truth.specs.Certificates.{Front, claim_of, least_of}
use Rattle.pesp_cert_lines.proofs.Tests.{and_left}
use Rattle.pesp_cert.specs.Limits.{is_cost, has_costs}
use Rattle.pesp_leaves.specs.declared.checker.Shown.{Shown}
use Rattle.pesp_leaves.specs.declared.checker.Claim.{Claim as ToldClaim}
use Rattle.pesp_leaves.specs.declared.checker.Claim.TheVariants.{Behind as TellsBehind}
use Rattle.pesp_leaves.specs.Claims.{FitsShown, FitsClaim, AreOf, TellsOf}
use Rattle.pesp_leaves.specs.Taken.{HaveRows, AreSmallWeights}
use Rattle.pesp_leaves.proofs.Summing.{rows_exist}
use Rattle.pesp_whole_check.specs.Costs.{facts_said}
use Rattle.pesp_whole_check.specs.Inner.{AreClosed}
use Rattle.pesp_whole_check.specs.Rooms.{AreOwnWeights, FitsRoom, FitsWalks, claim_from}
use Rattle.pesp_whole_check.specs.declared.room.Room.{Room}
use Rattle.pesp_whole_check.proofs.Inner.{if_for, marks_in, in_marks, lent_for, claim_is}

-- what holds behind a front holds of its marks, as they are lent
pub for_marks : {R : Type 0} (now : R → Marks) (lent : Option R) (front : Option Front) (P : Marks → Type 0)
    → option_map now lent ≡ marks_in front → IfSome front (λ f. P f.marks) → ForSome lent (λ m. P (now m))
for_marks now lent front P e h = lent_for now P lent (marks_in front) e (if_for (marks_in front) P (in_marks front P h))

-- ---- what is told of a claim

pub shown_fits : (p : Pesp) (s : Shown) → HaveRows (length p.rows) s.facts.now → FitsWalks p s.marks.now s.arcs.now s.weights.now
    → FitsClaim p (TellsBehind s)
shown_fits p s rows fits = λ t is. let same : s ≡ t = cc in subst (FitsShown p) same (record {
  arcs = fits.arcs_are;
  walks = fits.exist;
  facts = rows;
  weights = fits.own.long;
  small = fits.small;
  own = λ cost. fits.own.own;
})

pub told_of : (p : Pesp) (weights : List ℤ) (least : Option ℕ) (sum : Option ℤ) → AreOwnWeights p weights → sum ≡ option_map pos least
    → AreOf weights sum (cost_goal (net_of p) least)
told_of p weights least sum own is = record { weights_are = own.own; least_is = is }

pub plain_from : {R : Type 0} (now : R → Marks) (lent : Option R) (facts : List Lemma) (n : Net) (least : Option ℕ)
    → ((m : R) → lent ≡ Some m → ⊥) → claim_from (option_map now lent) facts n least ≡ Plain least
plain_from now None facts n least none = refl
plain_from now (Some m) facts n least none = absurd (none m refl)

-- ---- what leaves behind a front ask for

pub walks_fit : (p : Pesp) (marks : Marks) (room : Room) (arcs : List Arc) (weights : List ℤ) → arcs ≡ room.arcs.items
    → weights ≡ room.weights.items → FitsRoom p room → All (λ walk. All (λ s. RowExists room.arcs.items s.signed) walk) marks.walks
    → FitsWalks p marks arcs weights
walks_fit p marks room arcs weights a w fits exist = record {
  arcs_are = a ∙ fits.arcs;
  exist = subst (λ (xs : List Arc). All (λ walk. All (λ s. RowExists xs s.signed) walk) marks.walks) (sym a) exist;
  own = subst (AreOwnWeights p) (sym w) fits.weights;
  small = subst AreSmallWeights (sym w) fits.small;
}

pub front_fits : (front : Option Front) (p : Pesp) (room : Room) (arcs : List Arc) (weights : List ℤ) → arcs ≡ room.arcs.items
    → weights ≡ room.weights.items → IfSome front (λ _. FitsRoom p room) → AreClosed front p
    → IfSome front (λ f. FitsWalks p f.marks arcs weights)
front_fits None p room arcs weights a w fits closed = tt
front_fits (Some f) p room arcs weights a w fits closed =
    let P : List Arc → Type 0 = λ xs. All (λ walk. All (λ s. RowExists xs s.signed) walk) f.marks.walks in
    walks_fit p f.marks room arcs weights a w fits (subst P (sym fits.arcs) (rows_exist (arcs_of p) f.marks.walks closed))

pub own_weights_there : (front : Option Front) (p : Pesp) (room : Room) (weights : List ℤ) → weights ≡ room.weights.items
    → IfSome front (λ _. FitsRoom p room) → IfSome front (λ _. AreOwnWeights p weights)
own_weights_there None p room weights w fits = tt
own_weights_there (Some f) p room weights w fits = subst (AreOwnWeights p) (sym w) fits.weights

pub room_there : (front : Option Front) (p : Pesp) (room : Room) (rows rates : ℕ) → rows ≡ length p.rows
    → rates ≡ length room.rates.items → IfSome front (λ _. FitsRoom p room) → IfSome front (λ _. rates ≡ rows)
room_there None p room rows rates e r fits = tt
room_there (Some f) p room rows rates e r fits = r ∙ fits.rates ∙ sym e

-- ---- what is told

pub told_there : (front : Option Front) (n : Net) (least : Option ℕ) (marks : Option Marks) (facts : List Lemma) (told : ToldClaim)
    → marks ≡ marks_in front → facts ≡ facts_said front → TellsOf told (claim_from marks facts n least)
    → TellsOf told (claim_of front n least)
told_there front n least marks facts told m f h =
    let e : claim_from marks facts n least ≡ claim_of front n least =
    ap (λ (o : Option Marks). claim_from o facts n least) m ∙ ap (λ (fs : List Lemma). claim_from (marks_in front) fs n least) f
    ∙ claim_is front n least in
    subst (TellsOf told) e h

-- a cost that a certificate says is one that a text may say
few_of : (a b : ℕ) → nat_lt a b ≡ true → a < b
few_of a b e = grind (arith, nat_tests, e)

pub least_few : (a : Answer) → has_costs a ≡ true → IfSome (least_of a) (λ l. l < 1000000000000000000)
least_few (Optimal n) h = few_of n 1000000000000000000 h
least_few Infeasible h = tt
least_few (Bounded n cost) h = few_of n 1000000000000000000 (and_left (nat_lt n 1000000000000000000) (is_cost cost) h)
