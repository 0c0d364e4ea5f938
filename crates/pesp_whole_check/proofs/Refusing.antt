-- The first fault of a certificate, by the part that it is one of, and that a certificate without one is valid.
use Rattle.std.proofs.Common.{◌≡◌, inl, inr, ℕ, ◌+◌, arith, true, [], length, refl, Option, Some, None}
use Rattle.std.specs.Prelude.{All, IfSome, MatchOption}
use Rattle.pesp_problem.specs.Timetables.{Pesp}
use Rattle.pesp_problem.specs.Arcs.{arcs_of, net_of}
use Rattle.pesp_problem.specs.Walks.{IsWalk}
use Rattle.pesp_truth.specs.FrontLimits.{MarksKeepLimits}
use Rattle.pesp_truth.specs.Trees.{are_trees}
use Rattle.pesp_truth.specs.Shown.{AreShownLemmas}
use Rattle.pesp_truth.specs.Certificates.{Content, Front, IsShownFront, IsValid, ShowsAnswer, shown_labels, shown_times, lines_of}
use Rattle.pesp_judges.specs.declared.refusal.Refusal.{Refusal}
use Rattle.pesp_judges.specs.Faults.{IsCycleFault, IsMarksFault, IsLemmasFault, IsFirstFault, own_line}
use Rattle.pesp_judges.proofs.Faults.{later_tree_fault, valid_is}
use Rattle.pesp_whole_check.specs.Inner.{IsHeadFault, AreClosed, IsSoundTree, IsInnerTreeFault, IsInnerFault}

-- what holds where nothing is wrong
pub of_none : (found : Option Refusal) (P : Type 0) (Q : Refusal → Type 0)
    → ((refusal : Refusal) → found ≡ Some refusal → ⊥) → MatchOption found P Q → P
of_none None P Q n h = h
of_none (Some refusal) P Q n h = absurd (n refusal refl)

pub own_adds : (front : Option Front) (n m : ℕ) → own_line front n + m ≡ own_line front (n + m)
own_adds None n m = refl
own_adds (Some f) n m = omega arith

-- a front within its limits whose lemmas are shown and whose walks are closed
pub shown_front : (front : Option Front) (p : Pesp) → IfSome front (λ f. MarksKeepLimits f.marks)
    → IfSome front (λ f. AreShownLemmas (net_of p) [] f.lemmas) → AreClosed front p → IfSome front (IsShownFront (net_of p))
shown_front None p keeps shown closed = tt
shown_front (Some f) p keeps shown closed = record { lemmas = shown; marks = record { scale = keeps.scale.0; walks = closed } }

module _ (p : Pesp) (c : Content) (refusal : Refusal) where
  pub lemmas_refused : (f : Front) → IsLemmasFault (net_of p) [] f.lemmas (3 + length f.marks.walks) refusal
      → IsFirstFault (Some f) p c refusal
  lemmas_refused f fault = inl fault

  module _ (front : Option Front) (shown : IfSome front (λ f. AreShownLemmas (net_of p) [] f.lemmas)) where
    pub head_refused : IsHeadFault p c.period c.answer (shown_labels c) (shown_times c) refusal → IsFirstFault front p c refusal
    head_refused (inl g) = inr (shown, inl g)
    head_refused (inr g) = inr (shown, inr (g.0, inl g.1))

    module _ (period : c.period ≡ p.period) (shows : ShowsAnswer p c.answer (shown_labels c) (shown_times c)) where
      pub cycle_refused : IsCycleFault (arcs_of p) c.cycles (own_line front (3 + length c.times)) refusal → IsFirstFault front p c refusal
      cycle_refused fault = inr (shown, inr (period, inr (inl (shows, fault))))

      module _ (walks : All (IsWalk (arcs_of p)) c.cycles) where
        pub marks_refused : IsMarksFault front p (length c.cycles) refusal → IsFirstFault front p c refusal
        marks_refused fault = inr (shown, inr (period, inr (inr (inl (shows, walks, fault)))))

        pub tree_refused : are_trees 1 (lines_of c) ≡ true → AreClosed front p → IsInnerTreeFault front p c refusal
            → IsFirstFault front p c refusal
        tree_refused whole closed fault = inr (shown, inr (period, later_tree_fault front p c refusal whole shows walks closed fault))

        pub inner_refused : are_trees 1 (lines_of c) ≡ true → IsInnerFault front p c refusal → IsFirstFault front p c refusal
        inner_refused whole (inl fault) = marks_refused fault
        inner_refused whole (inr fault) = tree_refused whole fault.0 fault.1

pub valid_there : (front : Option Front) (p : Pesp) (c : Content) → IfSome front (λ f. MarksKeepLimits f.marks)
    → IfSome front (λ f. AreShownLemmas (net_of p) [] f.lemmas) → c.period ≡ p.period
    → ShowsAnswer p c.answer (shown_labels c) (shown_times c) → All (IsWalk (arcs_of p)) c.cycles
    → AreClosed front p → IsSoundTree front p c → IsValid front p c
valid_there front p c keeps shown period shows walks closed sound =
    valid_is front p c (shown_front front p keeps shown closed) period shows walks sound
