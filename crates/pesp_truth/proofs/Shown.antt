-- Why lemmas are true that are shown one after the other.
use Rattle.std.proofs.Common.{ℕ, ◌<◌, List, [], ◌∷◌, ◌++◌, get_or}
use Rattle.std.specs.Prelude.{All}
use Rattle.std.proofs.lemmas.List.Elements.{All-nil, All-cons, All-append}
use Rattle.pesp_problem.specs.Timetables.{Pesp}
use Rattle.pesp_problem.specs.Arcs.{net_of}
use Rattle.pesp_truth.specs.Lemmas.{Lemma, IsTrueOf}
use Rattle.pesp_truth.specs.Shown.{LemmaProof, lemma_claim, IsShownLemma, AreShownLemmas, lemmas_of}
use Rattle.pesp_truth.proofs.Trees.{root_is_right}

pub shown_is_true : (p : Pesp) (earlier : List Lemma) (s : LemmaProof) → 0 < p.period → All (IsTrueOf p) earlier
    → IsShownLemma (net_of p) earlier s → IsTrueOf p s.fact
shown_is_true p earlier s h are shown times t =
    root_is_right (lemma_claim earlier s) p s.cycles times shown.tree.0 h shown.cycles (shown.marks, λ i d l. are i d l times t)
    shown.tree.2 t

pub shown_are_true : (p : Pesp) (earlier : List Lemma) (shown : List LemmaProof) → 0 < p.period → All (IsTrueOf p) earlier
    → AreShownLemmas (net_of p) earlier shown → All (IsTrueOf p) (lemmas_of shown)
shown_are_true p earlier [] h are s = All-nil (IsTrueOf p)
shown_are_true p earlier (one ∷ shown) h are s =
    let here = shown_is_true p earlier one h are s.0 in
    All-cons (IsTrueOf p) one.fact (lemmas_of shown) here
    (shown_are_true p (earlier ++ one.fact ∷ []) shown h
    (All-append (IsTrueOf p) earlier (one.fact ∷ []) are (All-cons (IsTrueOf p) one.fact [] here (All-nil (IsTrueOf p)))) s.1)
