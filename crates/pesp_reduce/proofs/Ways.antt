-- Ways over other arcs, and what ways join.
use Rattle.std.proofs.Common.{◌≡◌, ℕ, ◌-◌, ◌≤◌, refl, sym, ◌∙◌, ap, arith, subst, List, [], ◌∷◌, ◌++◌, length, All}
use Rattle.std.specs.Prelude.{if◌then◌else◌}
use Rattle.std.proofs.lemmas.List.Elements.{All-append, All-nil, All-head, All-tail}
use Rattle.pesp_problem.specs.declared.row.SignedRow.{SignedRow}
use Rattle.pesp_problem.specs.declared.arc.Arc.{Arc}
use Rattle.pesp_problem.specs.Arcs.{arc_at}
use Rattle.pesp_problem.specs.Walks.{Names, RowExists, Leads, IsWalk, start, finish}
use Rattle.pesp_problem.specs.Forests.{AreJoined, IsFirstOf}
use Rattle.pesp_problem.proofs.Ways.{leads_append, back, leads_back, all_back}

-- a way is one over other arcs that agree at its rows
pub leads_same : (arcs others : List Arc) (way : List SignedRow) (a b : ℕ)
    → All (λ s. arc_at others (s.row - 1) ≡ arc_at arcs (s.row - 1)) way → Leads arcs a way b → Leads others a way b
leads_same arcs others [] a b e h = h
leads_same arcs others (s ∷ way) a b e h =
    let Q : SignedRow → Type 0 = λ x. arc_at others (x.row - 1) ≡ arc_at arcs (x.row - 1) in
    let here : arc_at others (s.row - 1) ≡ arc_at arcs (s.row - 1) = All-head Q s way e in
    let starts : start others s ≡ start arcs s = ap (λ (arc : Arc). if s.plus then arc.tail else arc.head) here in
    let ends : finish others s ≡ finish arcs s = ap (λ (arc : Arc). if s.plus then arc.head else arc.tail) here in
    let rest = leads_same arcs others way (finish arcs s) b (All-tail Q s way e) h.1 in
    (starts ∙ h.0, subst (λ x. Leads others x way b) (sym ends) rest)

-- a closed walk is one over other arcs that agree at its rows
pub walk_same : (arcs others : List Arc) (walk : List SignedRow) → length others ≡ length arcs
    → All (λ s. arc_at others (s.row - 1) ≡ arc_at arcs (s.row - 1)) walk → IsWalk arcs walk → IsWalk others walk
walk_same arcs others [] n e w = absurd w
walk_same arcs others (s ∷ way) n e w =
    let walk : List SignedRow = s ∷ way in
    let leads = leads_same arcs others walk (start arcs s) (start arcs s) e w.1 in
    (subst (λ (k : ℕ). All (λ (x : SignedRow). Names k x.row) walk) (sym n) w.0, subst (λ x. Leads others x walk x) (sym leads.0) leads)

-- ---- joined events

pub joined_self : (arcs : List Arc) (a : ℕ) → AreJoined arcs a a
joined_self arcs a = ([], All-nil (RowExists arcs), refl)

pub joined_sym : (arcs : List Arc) (a b : ℕ) → AreJoined arcs a b → AreJoined arcs b a
joined_sym arcs a b j = (back j.0, all_back (λ (k : ℕ). (1 ≤ k) × (k ≤ length arcs)) j.0 j.1, leads_back arcs j.0 a b j.2)

pub joined_trans : (arcs : List Arc) (a b c : ℕ) → AreJoined arcs a b → AreJoined arcs b c → AreJoined arcs a c
joined_trans arcs a b c j k = (j.0 ++ k.0, All-append (RowExists arcs) j.0 k.0 j.1 k.1, leads_append arcs j.0 k.0 a b c j.2 k.2)

le_both : (a b : ℕ) → a ≤ b → b ≤ a → a ≡ b
le_both a b h k = omega arith

-- joined events have one first event
pub one_first : (arcs : List Arc) (a b f g : ℕ) → IsFirstOf arcs a f → IsFirstOf arcs b g → AreJoined arcs a b → f ≡ g
one_first arcs a b f g x y j =
    le_both f g (x.least g (joined_trans arcs a b g j y.joined)) (y.least f (joined_trans arcs b a f (joined_sym arcs a b j) x.joined))

pub first_not_after : (arcs : List Arc) (a f : ℕ) → IsFirstOf arcs a f → f ≤ a
first_not_after arcs a f x = x.least a (joined_self arcs a)

pub first_is_own : (arcs : List Arc) (a f : ℕ) → IsFirstOf arcs a f → IsFirstOf arcs f f
first_is_own arcs a f x = record {
  joined = joined_self arcs f;
  least = λ other j. x.least other (joined_trans arcs a f other x.joined j);
}

pub first_by : (arcs : List Arc) (a f g : ℕ) → IsFirstOf arcs a f → IsFirstOf arcs f g → IsFirstOf arcs a g
first_by arcs a f g x y = subst (λ z. IsFirstOf arcs a z) (one_first arcs a f f g x y x.joined) x
