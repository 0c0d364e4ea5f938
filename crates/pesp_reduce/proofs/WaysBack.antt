-- Ways over mapped rows as ways over the rows: contracted rows lead between events that became one.
use Rattle.std.proofs.Common.{◌≡◌, ◌≢◌, ℕ, ◌+◌, ◌-◌, ◌<◌, inl, inr, refl, sym, ◌∙◌, ap, arith, subst, List, [], ◌∷◌, ◌++◌, length, map, true, false, Bool, All, pos}
use Rattle.std.specs.Prelude.{if◌then◌else◌, slice_index, filter}
use Rattle.std.proofs.lemmas.Int.{ints}
use Rattle.std.proofs.lemmas.Bool.{cases_Bool}
use Rattle.std.proofs.lemmas.List.{length-map}
use Rattle.std.proofs.lemmas.List.Elements.{All-cons, All-head, All-tail, All-append, All-filter, filter_passes, All-weaker}
use Rattle.pesp_problem.specs.declared.arc.Arc.{Arc}
use Rattle.pesp_problem.specs.declared.row.SignedRow.{SignedRow}
use Rattle.pesp_problem.specs.Arcs.{arc_at}
use Rattle.pesp_problem.specs.Walks.{Names, RowExists, AreRows, Leads, IsWalk, start, finish, net_count}
use Rattle.pesp_problem.specs.Forests.{IsBridge, AreJoined}
use Rattle.pesp_problem.proofs.Walks.{net_count-cons, step_other}
use Rattle.pesp_network.specs.declared.row.NetRow.{NetRow}
use Rattle.pesp_network.specs.Networks.{net_row_at, arcs_of_network}
use Rattle.pesp_reduce.specs.Rows.{flag}
use Rattle.pesp_reduce.specs.Contractions.{AreTree, IsStanding}
use Rattle.pesp_reduce.specs.Fates.{mapped_row}
use Rattle.pesp_reduce.proofs.Lists.{arc_at_net, arcs_length}
use Rattle.pesp_problem.proofs.Ways.{leads_append, net_count-append}
use Rattle.pesp_reduce.proofs.Ways.{joined_sym, joined_trans}
use Rattle.pesp_reduce.proofs.Trees.{is_flagged, leads_flagged, loop_stays}
use Rattle.pesp_reduce.proofs.Bridges.{absent}
use Rattle.pesp_reduce.proofs.Reducing.{mapped_ends}

-- ---- flagged rows between events with one number

pub record HasFlaggedWay (rows : List NetRow) (flags : List Bool) (a b : ℕ) : Type 0 where
  pub way : List SignedRow
  pub exist : AreRows (arcs_of_network rows) way
  pub flagged : All (λ s. flag flags (s.row - 1) ≡ true) way
  pub leads : Leads (arcs_of_network rows) a way b

pub joined_in_tree : (arcs : List Arc) (events : ℕ) (stands firsts : List ℕ) (a b : ℕ)
    → IsStanding arcs events stands firsts → a < events → b < events → slice_index stands a ≡ slice_index stands b
    → AreJoined arcs a b
joined_in_tree arcs events stands firsts a b s x y e =
    let one : AreJoined arcs a (slice_index firsts (slice_index stands a)) = (s.first a x).joined in
    let two : AreJoined arcs b (slice_index firsts (slice_index stands b)) = (s.first b y).joined in
    let same : AreJoined arcs b (slice_index firsts (slice_index stands a)) =
    subst (λ c. AreJoined arcs b (slice_index firsts c)) (sym e) two in
    joined_trans arcs a (slice_index firsts (slice_index stands a)) b one
    (joined_sym arcs b (slice_index firsts (slice_index stands a)) same)

pub flagged_way : (rows tree : List NetRow) (flags : List Bool) (events : ℕ) (stands firsts : List ℕ) (a b : ℕ)
    → AreTree rows tree flags → IsStanding (arcs_of_network tree) events stands firsts → a < events → b < events
    → slice_index stands a ≡ slice_index stands b → HasFlaggedWay rows flags a b
flagged_way rows tree flags events stands firsts a b t s x y e =
    let T = arcs_of_network tree in let R = arcs_of_network rows in
    let j = joined_in_tree T events stands firsts a b s x y e in
    let same_count : length T ≡ length R = arcs_length tree ∙ t.tree_count ∙ sym (arcs_length rows) in
    let exist : AreRows R j.0 = subst (λ (n : ℕ). All (λ (q : SignedRow). Names n q.row) j.0) same_count j.1 in
    record {
      way = filter (is_flagged flags) j.0;
      exist = All-filter (is_flagged flags) (RowExists R) j.0 exist;
      flagged = filter_passes (is_flagged flags) j.0;
      leads = leads_flagged rows tree flags j.0 a b t j.2;
    }

-- ---- a way over mapped rows without the free ones

-- what is used of contracted rows and of rows that are loops since they don't matter
pub record IsContractedApart (rows tree : List NetRow) (flags : List Bool) (free : ℕ → Bool) (events : ℕ)
    (stands firsts : List ℕ) : Type 0 where
  pub tree_is : AreTree rows tree flags
  pub standing : IsStanding (arcs_of_network tree) events stands firsts
  pub ends : (j : ℕ) → j < length rows → ((net_row_at rows j).tail < events) × ((net_row_at rows j).head < events)
  pub loops : (j : ℕ) → free j ≡ true → (net_row_at rows j).tail ≡ (net_row_at rows j).head
  pub apart : (j : ℕ) → flag flags j ≡ true → free j ≡ false

pub record HasWayBack (rows : List NetRow) (free : ℕ → Bool) (a b i : ℕ) (way : List SignedRow) : Type 0 where
  pub back : List SignedRow
  pub exist : AreRows (arcs_of_network rows) back
  pub matters : All (λ s. free (s.row - 1) ≡ false) back
  pub leads : Leads (arcs_of_network rows) a back b
  pub counts : net_count back i ≡ net_count way i

other_flag : (f : ℕ → Bool) (i k : ℕ) → f i ≡ false → f (k - 1) ≡ true → k ≢ i + 1
other_flag f i k n t e =
    let place : (i + 1) - 1 ≡ i = omega arith in
    let at = ap (λ m. f (m - 1)) e in
    let back : f ((i + 1) - 1) ≡ false = ap f place ∙ n in
    cc

none_counted : (f : ℕ → Bool) (i : ℕ) (way : List SignedRow) → f i ≡ false → All (λ s. f (s.row - 1) ≡ true) way → net_count way i ≡ pos 0
none_counted f i way n h = absent i way (All-weaker (λ s. f (s.row - 1) ≡ true) (λ s. s.row ≢ i + 1)
    (λ s t. other_flag f i s.row n t) way h)

either_end : (P : ℕ → Type 0) (b : Bool) (x y : ℕ) → P x → P y → P (if b then x else y)
either_end P true x y h k = h
either_end P false x y h k = k

pub ends_below : (rows : List NetRow) (events : ℕ) (s : SignedRow)
    → ((j : ℕ) → j < length rows → ((net_row_at rows j).tail < events) × ((net_row_at rows j).head < events))
    → RowExists (arcs_of_network rows) s
    → (start (arcs_of_network rows) s < events) × (finish (arcs_of_network rows) s < events)
ends_below rows events s h x =
    let i = s.row - 1 in
    let R = arcs_of_network rows in
    let e = h i (omega (arith, x, arcs_length rows)) in
    let arc = sym (arc_at_net rows i) in
    let tail : (arc_at R i).tail < events = subst (λ (a : Arc). a.tail < events) arc e.0 in
    let head : (arc_at R i).head < events = subst (λ (a : Arc). a.head < events) arc e.1 in (
      either_end (λ n. n < events) s.plus (arc_at R i).tail (arc_at R i).head tail head,
      either_end (λ n. n < events) s.plus (arc_at R i).head (arc_at R i).tail head tail,
    )

pub way_back : (rows tree : List NetRow) (flags : List Bool) (free : ℕ → Bool) (events : ℕ)
    (stands firsts shifts : List ℕ) (i : ℕ) (way : List SignedRow) (a b : ℕ)
    → IsContractedApart rows tree flags free events stands firsts
    → free i ≡ false → flag flags i ≡ false → a < events → b < events → AreRows (arcs_of_network rows) way
    → Leads (arcs_of_network (map (mapped_row stands shifts) rows)) (slice_index stands a) way
    (slice_index stands b) → HasWayBack rows free a b i way
way_back rows tree flags free events stands firsts shifts i [] a b c n m x y r h =
    let f = flagged_way rows tree flags events stands firsts a b c.tree_is c.standing x y h in
    record {
      back = f.way;
      exist = f.exist;
      matters = All-weaker (λ s. flag flags (s.row - 1) ≡ true) (λ s. free (s.row - 1) ≡ false)
          (λ s t. c.apart (s.row - 1) t) f.way f.flagged;
      leads = f.leads;
      counts = none_counted (flag flags) i f.way m f.flagged;
    }
way_back rows tree flags free events stands firsts shifts i (s ∷ way) a b c n m x y r h =
    let W = arcs_of_network rows in let B = arcs_of_network (map (mapped_row stands shifts) rows) in
    let k = s.row - 1 in
    let e = All-head (RowExists W) s way r in
    let rest_rows = All-tail (RowExists W) s way r in
    let ends = mapped_ends stands shifts rows s e in
    let below = ends_below rows events s c.ends e in
    elim (cases_Bool (free k)) [
      | inl t ↦
          let arc = arc_at_net rows k in
          let stays = loop_stays W s (ap (λ (q : Arc). q.tail) arc ∙ c.loops k t ∙ sym (ap (λ (q : Arc). q.head) arc)) in
          let here : finish B s ≡ slice_index stands a = ends.1 ∙ ap (slice_index stands) (sym stays) ∙ sym ends.0 ∙ h.0 in
          let rest = way_back rows tree flags free events stands firsts shifts i way a b c n m x y rest_rows
          (subst (λ z. Leads B z way (slice_index stands b)) here h.1) in
          record {
            back = rest.back;
            exist = rest.exist;
            matters = rest.matters;
            leads = rest.leads;
            counts = omega (arith, ints, rest.counts, net_count-cons s way i, step_other s i (other_flag free i s.row n t));
          }
      | inr t ↦
          let from = start W s in let to = finish W s in
          let f = flagged_way rows tree flags events stands firsts a from c.tree_is c.standing x below.0 (sym h.0 ∙ ends.0) in
          let rest = way_back rows tree flags free events stands firsts shifts i way to b c n m below.1 y rest_rows
          (subst (λ z. Leads B z way (slice_index stands b)) ends.1 h.1) in
          let M : SignedRow → Type 0 = λ q. free (q.row - 1) ≡ false in
          let first = All-weaker (λ q. flag flags (q.row - 1) ≡ true) M (λ q u. c.apart (q.row - 1) u) f.way f.flagged in
          let after : Leads W from (s ∷ rest.back) b = (refl, rest.leads) in
          record {
            back = f.way ++ s ∷ rest.back;
            exist = All-append (RowExists W) f.way (s ∷ rest.back) f.exist (All-cons (RowExists W) s rest.back e rest.exist);
            matters = All-append M f.way (s ∷ rest.back) first (All-cons M s rest.back t rest.matters);
            leads = leads_append W f.way (s ∷ rest.back) a from b f.leads after;
            counts = omega (
              arith,
              ints,
              rest.counts,
              net_count-cons s way i,
              net_count-cons s rest.back i,
              net_count-append f.way (s ∷ rest.back) i,
              none_counted (flag flags) i f.way m f.flagged,
            );
          }
    ]

closed_none : (arcs : List Arc) (free : ℕ → Bool) (i a : ℕ)
    → ((walk : List SignedRow) → IsWalk arcs walk → All (λ s. free (s.row - 1) ≡ false) walk
    → net_count walk i ≡ pos 0)
    → (back : List SignedRow) → AreRows arcs back → Leads arcs a back a → All (λ s. free (s.row - 1) ≡ false) back
    → net_count back i ≡ pos 0
closed_none arcs free i a none [] r h k = refl
closed_none arcs free i a none (s ∷ way) r h k = none (s ∷ way) (r, subst (λ x. Leads arcs x (s ∷ way) x) (sym h.0) h) k

-- a row that no walk without free rows passes more often one way than the other is a bridge of the mapped rows
pub bridge_of_mapped : (rows tree : List NetRow) (flags : List Bool) (free : ℕ → Bool) (events : ℕ)
    (stands firsts shifts : List ℕ) (i : ℕ) → IsContractedApart rows tree flags free events stands firsts
    → free i ≡ false → flag flags i ≡ false
    → ((walk : List SignedRow) → IsWalk (arcs_of_network rows) walk → All (λ s. free (s.row - 1) ≡ false) walk
    → net_count walk i ≡ pos 0) → IsBridge (arcs_of_network (map (mapped_row stands shifts) rows)) (i + 1)
bridge_of_mapped rows tree flags free events stands firsts shifts i c n m none [] w = absurd w
bridge_of_mapped rows tree flags free events stands firsts shifts i c n m none (s ∷ way) w =
    let W = arcs_of_network rows in let B = arcs_of_network (map (mapped_row stands shifts) rows) in
    let walk : List SignedRow = s ∷ way in
    let place : (i + 1) - 1 ≡ i = omega arith in
    let count : length B ≡ length W = arcs_length (map (mapped_row stands shifts) rows)
    ∙ length-map rows (mapped_row stands shifts) ∙ sym (arcs_length rows) in
    let exists : AreRows W walk = subst (λ (n : ℕ). All (λ (x : SignedRow). Names n x.row) walk) count w.0 in
    let e = All-head (RowExists W) s way exists in
    let a = start W s in
    let below = (ends_below rows events s c.ends e).0 in
    let starts = (mapped_ends stands shifts rows s e).0 in
    let r = way_back rows tree flags free events stands firsts shifts i walk a a c n m below below exists
    (subst (λ x. Leads B x walk x) starts w.1) in
    ap (net_count walk) place ∙ sym r.counts ∙ closed_none W free i a none r.back r.exist r.leads r.matters
