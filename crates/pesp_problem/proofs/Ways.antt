-- Ways put together and passed backwards.
use Rattle.std.proofs.Common.{◌≡◌, ℕ, ◌-◌, refl, sym, ◌∙◌, arith, subst, List, [], ◌∷◌, ◌++◌, true, false, Bool, not, All}
use Rattle.std.specs.Prelude.{pos, negsuc, ◌+ℤ◌, neg_ℤ, ◌+◌, ◌==◌, if◌then◌else◌}
use Rattle.std.proofs.lemmas.Int.{ints}
use Rattle.std.proofs.lemmas.List.Elements.{All-append, All-cons, All-nil, All-push, All-weaker, All-head, All-tail}
use Rattle.pesp_problem.specs.declared.row.SignedRow.{SignedRow}
use Rattle.pesp_problem.specs.declared.arc.Arc.{Arc}
use Rattle.pesp_problem.specs.Arcs.{arc_at}
use Rattle.pesp_problem.specs.Walks.{AreRows, Leads, IsWalk, start, finish, net_count}
use Rattle.pesp_problem.proofs.Walks.{step, net_count-cons}

pub leads_append : (arcs : List Arc) (v w : List SignedRow) (a b c : ℕ) → Leads arcs a v b → Leads arcs b w c → Leads arcs a (v ++ w) c
leads_append arcs [] w a b c h k = subst (λ (x : ℕ). Leads arcs x w c) (sym h) k
leads_append arcs (s ∷ v) w a b c h k = (h.0, leads_append arcs v w (finish arcs s) b c h.1 k)

pub leads_from : (arcs : List Arc) (a b c : ℕ) (way : List SignedRow) → a ≡ b → Leads arcs b way c → Leads arcs a way c
leads_from arcs a b c way e k = subst (λ (x : ℕ). Leads arcs x way c) (sym e) k

pub leads_to : (arcs : List Arc) (a b c : ℕ) (way : List SignedRow) → b ≡ c → Leads arcs a way b → Leads arcs a way c
leads_to arcs a b c way e k = subst (λ (x : ℕ). Leads arcs a way x) e k

pub net_count-append : (v w : List SignedRow) (i : ℕ) → net_count (v ++ w) i ≡ net_count v i +ℤ net_count w i
net_count-append [] w i = omega (arith, ints)
net_count-append (s ∷ v) w i = omega (arith, ints, net_count-cons s (v ++ w) i, net_count-append v w i, net_count-cons s v i)

pub net_count-one : (s : SignedRow) (i : ℕ) → net_count (s ∷ []) i ≡ step s i
net_count-one s i = omega (arith, ints, net_count-cons s [] i)

-- ---- passed backwards

abbrev pub turned : SignedRow → SignedRow
turned s = record { row = s.row; plus = not s.plus }

-- passed from its end to its beginning
abbrev pub back : List SignedRow → List SignedRow
back [] = []
back (s ∷ way) = back way ++ turned s ∷ []

swapped : (b : Bool) (x y : ℕ) → (if not b then x else y) ≡ (if b then y else x)
swapped true x y = refl
swapped false x y = refl

pub leads_back : (arcs : List Arc) (way : List SignedRow) (a b : ℕ) → Leads arcs a way b → Leads arcs b (back way) a
leads_back arcs [] a b h = sym h
leads_back arcs (s ∷ way) a b h =
    let arc = arc_at arcs (s.row - 1) in
    let last : Leads arcs (finish arcs s) (turned s ∷ []) a = (swapped s.plus arc.tail arc.head, swapped s.plus arc.head arc.tail ∙ h.0) in
    leads_append arcs (back way) (turned s ∷ []) b (finish arcs s) a (leads_back arcs way (finish arcs s) b h.1) last

-- what holds of the number of each row of a way holds on the way back
pub all_back : (P : ℕ → Type 0) (way : List SignedRow) → All (λ (s : SignedRow). P s.row) way → All (λ (s : SignedRow). P s.row) (back way)
all_back P [] h = h
all_back P (s ∷ way) h =
    let Q : SignedRow → Type 0 = λ x. P x.row in
    All-push Q (back way) (turned s) (all_back P way (All-tail Q s way h)) (All-head Q s way h)

turned_if : (plus here : Bool) → (if here then (if not plus then pos 1 else negsuc 0) else pos 0)
    ≡ neg_ℤ (if here then (if plus then pos 1 else negsuc 0) else pos 0)
turned_if true true = refl
turned_if true false = refl
turned_if false true = refl
turned_if false false = refl

pub net_count-back : (way : List SignedRow) (i : ℕ) → net_count (back way) i ≡ neg_ℤ (net_count way i)
net_count-back [] i = refl
net_count-back (s ∷ way) i =
    let parts = net_count-append (back way) (turned s ∷ []) i in
    let one = net_count-one (turned s) i in
    let other = turned_if s.plus (s.row == i + 1) in
    omega (arith, ints, parts, one, other, net_count-back way i, net_count-cons s way i)

-- ---- closed ways

-- a walk begins and ends at an event
pub record Closed (arcs : List Arc) (walk : List SignedRow) : Type 0 where
  pub event : ℕ
  pub rows : AreRows arcs walk
  pub closes : Leads arcs event walk event

pub closed : (arcs : List Arc) (walk : List SignedRow) → IsWalk arcs walk → Closed arcs walk
closed arcs [] w = absurd w
closed arcs (s ∷ walk) w = record { event = start arcs s; rows = w.0; closes = w.1 }

pub is_walk : (arcs : List Arc) (a : ℕ) (s : SignedRow) (way : List SignedRow) → AreRows arcs (s ∷ way)
    → Leads arcs a (s ∷ way) a → IsWalk arcs (s ∷ way)
is_walk arcs a s way r h = (r, (refl, subst (λ (x : ℕ). Leads arcs (finish arcs s) way x) (sym h.0) h.1))

-- ---- ways along rows of which P holds

pub record WayOver (arcs : List Arc) (P : ℕ → Type 0) (a b : ℕ) : Type 0 where
  pub way : List SignedRow
  pub over : All (λ (s : SignedRow). P s.row) way
  pub leads : Leads arcs a way b

pub no_way : (arcs : List Arc) (P : ℕ → Type 0) (a b : ℕ) → a ≡ b → WayOver arcs P a b
no_way arcs P a b e = record { way = []; over = All-nil (λ (s : SignedRow). P s.row); leads = e }

pub one_row : (arcs : List Arc) (P : ℕ → Type 0) (a b : ℕ) (s : SignedRow) → P s.row → start arcs s ≡ a
    → finish arcs s ≡ b → WayOver arcs P a b
one_row arcs P a b s p starts ends = record {
  way = s ∷ [];
  over = All-cons (λ (x : SignedRow). P x.row) s [] p (All-nil (λ (x : SignedRow). P x.row));
  leads = (starts, ends);
}

pub way_joined : (arcs : List Arc) (P : ℕ → Type 0) (a b c : ℕ) → WayOver arcs P a b → WayOver arcs P b c → WayOver arcs P a c
way_joined arcs P a b c v w = record {
  way = v.way ++ w.way;
  over = All-append (λ (s : SignedRow). P s.row) v.way w.way v.over w.over;
  leads = leads_append arcs v.way w.way a b c v.leads w.leads;
}

pub way_back : (arcs : List Arc) (P : ℕ → Type 0) (a b : ℕ) → WayOver arcs P a b → WayOver arcs P b a
way_back arcs P a b w = record { way = back w.way; over = all_back P w.way w.over; leads = leads_back arcs w.way a b w.leads }

pub way_weaker : (arcs : List Arc) (P Q : ℕ → Type 0) (a b : ℕ) → ((k : ℕ) → P k → Q k) → WayOver arcs P a b → WayOver arcs Q a b
way_weaker arcs P Q a b weaker w = record {
  way = w.way;
  over = All-weaker (λ (s : SignedRow). P s.row) (λ (s : SignedRow). Q s.row) (λ s. weaker s.row) w.way w.over;
  leads = w.leads;
}
