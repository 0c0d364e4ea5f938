-- Lemmas that are shown name rows that exist.
use Rattle.std.proofs.Common.{ℕ, subst, List, [], ◌∷◌, ◌++◌, length, Option, Some, None}
use Rattle.std.specs.Prelude.{All, IfSome}
use Rattle.std.proofs.lemmas.List.Elements.{All-nil, All-cons}
use Rattle.pesp_problem.specs.declared.pair.Pair.{Pair}
use Rattle.pesp_problem.specs.Timetables.{Pesp}
use Rattle.pesp_problem.specs.Arcs.{net_of}
use Rattle.pesp_problem.specs.Walks.{Names}
use Rattle.pesp_leaves.proofs.Arcs.{arcs_long}
use Rattle.pesp_truth.specs.Certificates.{Front, IsShownFront}
use Rattle.pesp_truth.specs.Lemmas.{Lemma}
use Rattle.pesp_truth.specs.Shown.{LemmaProof, lemmas_of, AreShownLemmas}
use Rattle.pesp_leaves.specs.Taken.{HaveRows}
use Rattle.pesp_whole_check.specs.Costs.{facts_said}
use Rattle.pesp_whole_check.specs.Inner.{AreClosed}

pub have_rows : (p : Pesp) (earlier : List Lemma) (shown : List LemmaProof) → AreShownLemmas (net_of p) earlier shown
    → HaveRows (length p.rows) (lemmas_of shown)
have_rows p earlier [] h = All-nil (λ (fact : Lemma). All (λ (pair : Pair). Names (length p.rows) pair.cycle) fact.weights)
have_rows p earlier (s ∷ shown) h =
    All-cons (λ (fact : Lemma). All (λ (pair : Pair). Names (length p.rows) pair.cycle) fact.weights) s.fact (lemmas_of shown)
    (subst (λ (m : ℕ). All (λ (pair : Pair). Names m pair.cycle) s.fact.weights) (arcs_long p) h.0.rows)
    (have_rows p (earlier ++ s.fact ∷ []) shown h.1)

-- the lemmas of a front
pub front_rows : (p : Pesp) (front : Option Front) → IfSome front (λ f. AreShownLemmas (net_of p) [] f.lemmas)
    → HaveRows (length p.rows) (facts_said front)
front_rows p None shown = All-nil (λ (fact : Lemma). All (λ (pair : Pair). Names (length p.rows) pair.cycle) fact.weights)
front_rows p (Some f) shown = have_rows p [] f.lemmas shown

-- the lemmas and the marked walks of a front that is shown
pub shown_lemmas : (front : Option Front) (p : Pesp) → IfSome front (IsShownFront (net_of p))
    → IfSome front (λ f. AreShownLemmas (net_of p) [] f.lemmas)
shown_lemmas None p shown = tt
shown_lemmas (Some f) p shown = shown.lemmas

pub shown_closed : (front : Option Front) (p : Pesp) → IfSome front (IsShownFront (net_of p)) → AreClosed front p
shown_closed None p shown = tt
shown_closed (Some f) p shown = shown.marks.walks
