-- What a reduction says of the fates of rows, of the kept rows and of the events that become one.
use Rattle.std.proofs.Common.{◌≡◌, ℕ, zero, suc, ◌+◌, ◌-◌, ◌<◌, inl, inr, refl, sym, ◌∙◌, ap, arith, subst, List, [], ◌∷◌, ◌++◌, length, get_or, map, true, All, pos, ◌-ℤ◌}
use Rattle.std.specs.Prelude.{slice_index}
use Rattle.std.specs.List.Sorted.{IsStrictlyIncreasing}
use Rattle.std.proofs.lemmas.Bool.{cases_Bool, cases_lt}
use Rattle.std.proofs.lemmas.List.{length-map, get_or-map, get_or_append_left, get_or_push, length_push}
use Rattle.std.proofs.lemmas.List.Elements.{All-nil, All-push, All-weaker, All-get_or}
use Rattle.pesp_problem.specs.declared.arc.Arc.{Arc}
use Rattle.pesp_problem.specs.declared.row.SignedRow.{SignedRow}
use Rattle.pesp_problem.specs.Timetables.{Pesp}
use Rattle.pesp_problem.specs.Arcs.{arc_at, arcs_of}
use Rattle.pesp_problem.specs.Walks.{Names, AreRows, Leads, IsWalk, net_count}
use Rattle.pesp_problem.specs.Forests.{AreJoined}
use Rattle.pesp_problem.proofs.Arcs.{length-arcs_of}
use Rattle.pesp_network.specs.declared.row.NetRow.{NetRow}
use Rattle.pesp_network.specs.Networks.{NetworkValue, net_row_at, no_net_row, arcs_of_network}
use Rattle.pesp_reduce.specs.declared.fate.Fate.{Fate}
use Rattle.pesp_reduce.specs.declared.fate.Fate.TheVariants.{Free, Contracted, Bridge, Kept}
use Rattle.pesp_reduce.specs.declared.contraction.Contraction.{Contraction}
use Rattle.pesp_problem.specs.Congruences.{IsSame}
use Rattle.pesp_reduce.specs.Rows.{flag, IsFree}
use Rattle.pesp_reduce.specs.Fates.{fate_at, is_kept, mapped_row, kept_below}
use Rattle.pesp_reduce.specs.Reductions.{IsReduction, ReducedValue, IsFateOf, AreFatesOf, AreKeptRows, AreMerged, AreForEvents, AreJoinedByContracted}
use Rattle.pesp_reduce.proofs.Lists.{arc_at_net, arcs_length}
use Rattle.pesp_reduce.proofs.Ways.{leads_same, walk_same}
use Rattle.pesp_reduce.proofs.Trees.{same_arc}
use Rattle.pesp_reduce.proofs.Standings.{standing_joined}
use Rattle.pesp_reduce.proofs.Keeping.{keeps, places, places_before, one_place, kept_yes, kept_no}
use Rattle.pesp_reduce.proofs.Reducing.{mapped_at}
use Rattle.pesp_reduce.proofs.WaysBack.{flagged_way}
use Rattle.pesp_reduce.proofs.Results.{size_of, kept_row, not_free_contracted}

abbrev value_of : Pesp → List Fate → Contraction → NetworkValue → ReducedValue
value_of p fates c network = record { original = p; fates = fates; stands = c.stands.items; shifts = c.shifts.items; network = network }

-- ---- fates

bridge_not_free : (fate : Fate) → fate ≡ Bridge → fate ≡ Free → ⊥
bridge_not_free fate e q = cc

kept_not_free : (fate : Fate) → fate ≡ Kept → fate ≡ Free → ⊥
kept_not_free fate e q = cc

-- a row that isn't free has another fate
same_where_matters : (p : Pesp) (fates : List Fate) (whole network : NetworkValue) (c : Contraction) (k : ℕ)
    → IsReduction p fates whole c network → k < length p.rows → (IsFree p.period (arc_at (arcs_of p) k) → ⊥)
    → arc_at (arcs_of_network whole.rows) k ≡ arc_at (arcs_of p) k
same_where_matters p fates whole network c k r l n = (r.others k l (λ e. n (r.free k l e))).0

pub sizes_agree : (p : Pesp) (fates : List Fate) (whole network : NetworkValue) (c : Contraction)
    → IsReduction p fates whole c network → length (arcs_of_network whole.rows) ≡ length (arcs_of p)
sizes_agree p fates whole network c r = arcs_length whole.rows ∙ r.whole_count ∙ sym (length-arcs_of p)

bridge_is_right : (p : Pesp) (fates : List Fate) (whole network : NetworkValue) (c : Contraction) (i : ℕ)
    (walk : List SignedRow) → IsReduction p fates whole c network → i < length p.rows → fate_at fates i ≡ Bridge
    → IsWalk (arcs_of p) walk
    → All (λ s. IsFree p.period (arc_at (arcs_of p) (s.row - 1)) → ⊥) walk → net_count walk i ≡ pos 0
bridge_is_right p fates whole network c i [] r l e w m = absurd w
bridge_is_right p fates whole network c i (s ∷ way) r l e w m =
    let A = arcs_of p in let W = arcs_of_network whole.rows in
    let walk : List SignedRow = s ∷ way in
    let inside = λ (j : ℕ) (d : SignedRow) (b : j < length walk). let x = w.0 j d b in let n = length-arcs_of p in
    let place : (get_or walk j d).row - 1 < length p.rows = omega arith in place in
    let same : All (λ x. arc_at W (x.row - 1) ≡ arc_at A (x.row - 1)) walk =
    λ j d b. same_where_matters p fates whole network c ((get_or walk j d).row - 1) r (inside j d b)
    (m j d b) in
    r.bridges i walk l e (walk_same A W walk (sizes_agree p fates whole network c r) same w)

fate_is_right : (p : Pesp) (fates : List Fate) (whole network : NetworkValue) (c : Contraction) (i : ℕ)
    (fate : Fate) → IsReduction p fates whole c network → i < length p.rows → fate_at fates i ≡ fate
    → IsFateOf p i fate
fate_is_right p fates whole network c i Free r l e = r.free i l e
fate_is_right p fates whole network c i Contracted r l e =
    let o = r.others i l (not_free_contracted (fate_at fates i) e) in
    let fixed = (r.contraction.tree.fixed i (r.contracted i l e)).1 in
    (o.1, ap (λ (a : Arc). a.span) (sym o.0 ∙ arc_at_net whole.rows i) ∙ fixed)
fate_is_right p fates whole network c i Bridge r l e = (
  (r.others i l (bridge_not_free (fate_at fates i) e)).1,
  r.loose i l e,
  λ walk w m. bridge_is_right p fates whole network c i walk r l e w m,
)
fate_is_right p fates whole network c i Kept r l e = ((r.others i l (kept_not_free (fate_at fates i) e)).1, r.kept i l e)

pub fates_are_right : (p : Pesp) (fates : List Fate) (whole network : NetworkValue) (c : Contraction)
    → IsReduction p fates whole c network → AreFatesOf p fates
fates_are_right p fates whole network c r = record {
  count = r.fates_count;
  each = λ i l. fate_is_right p fates whole network c i (fate_at fates i) r l refl;
}

-- ---- the kept rows in order

abbrev origins : List NetRow → List ℕ
origins rows = map (λ (row : NetRow). row.origin) rows

rising_push : (xs : List ℕ) (v : ℕ) → IsStrictlyIncreasing xs → All (λ x. x < v) xs → IsStrictlyIncreasing (xs ++ v ∷ [])
rising_push xs v r a k h =
    let l = length_push xs v in
    let here = get_or_append_left xs (v ∷ []) 0 k (omega arith) in
    elim (cases_lt (k + 1) (length xs)) [
      | inl w ↦ let next = get_or_append_left xs (v ∷ []) 0 (k + 1) w in let q = r k w in omega arith
      | inr w ↦
          let next = get_or_push xs v 0 (k + 1) (omega arith) in
          let q = All-get_or (λ x. x < v) xs k 0 (omega arith) a in omega arith
    ]

pub map_push : {X Y : Type 0} (f : X → Y) (xs : List X) (x : X) → map f (xs ++ x ∷ []) ≡ map f xs ++ f x ∷ []
map_push f [] x = refl
map_push f (y ∷ xs) x = ap (λ ys. f y ∷ ys) (map_push f xs x)

origins_rise : (fates : List Fate) (rows : List NetRow) (n : ℕ)
    → ((i : ℕ) → i < n → (net_row_at rows i).origin ≡ i + 1)
    → IsStrictlyIncreasing (origins (kept_below fates rows n))
    × All (λ k. k < n + 1) (origins (kept_below fates rows n))
origins_rise fates rows zero h = (λ k l. absurd (omega arith), All-nil (λ (k : ℕ). k < 1))
origins_rise fates rows (suc n) h =
    let before = origins_rise fates rows n (λ i l. h i (omega arith)) in
    let P : List ℕ → Type 0 = λ ks. IsStrictlyIncreasing ks × All (λ k. k < suc n + 1) ks in
    let wider = All-weaker (λ k. k < n + 1) (λ k. k < suc n + 1) (λ k l. omega arith) (origins (kept_below fates rows n)) before.1 in
    elim (cases_Bool (keeps fates n)) [
      | inl e ↦
          let own = h n (omega arith) in
          let is : origins (kept_below fates rows (suc n)) ≡ origins (kept_below fates rows n) ++ (n + 1) ∷ [] =
          ap origins (kept_yes fates rows n e)
          ∙ map_push (λ (row : NetRow). row.origin) (kept_below fates rows n) (net_row_at rows n)
          ∙ ap (λ k. origins (kept_below fates rows n) ++ k ∷ []) own in
          subst P (sym is) (
            rising_push (origins (kept_below fates rows n)) (n + 1) before.0 before.1,
            All-push (λ k. k < suc n + 1) (origins (kept_below fates rows n)) (n + 1) wider (omega arith),
          )
      | inr e ↦ subst P (sym (ap origins (kept_no fates rows n e))) (before.0, wider)
    ]

pub kept_in_order : (p : Pesp) (fates : List Fate) (whole network : NetworkValue) (c : Contraction)
    → IsReduction p fates whole c network → AreKeptRows (value_of p fates c network)
kept_in_order p fates whole network c r =
    let B = map (mapped_row c.stands.items c.shifts.items) whole.rows in
    let own : (i : ℕ) → i < length p.rows → (net_row_at B i).origin
    ≡ i + 1 = λ i l. ap (λ (row : NetRow). row.origin)
    (mapped_at c.stands.items c.shifts.items whole.rows i (omega (arith, r.whole_count))) ∙ r.origins i l in
    record {
      rising = subst (λ rows. IsStrictlyIncreasing (origins rows)) (sym r.rows) (origins_rise fates B (length p.rows) own).0;
      all = λ k names e.
          let i = k - 1 in
          let l : i < length p.rows = omega (arith, names) in
          let kept : keeps fates i ≡ true = ap is_kept e in
          let f = kept_row p fates whole network c i r l kept in
          let j = places fates i in
          let below : j < length network.rows =
          omega (arith, places_before fates (length p.rows) i l kept, size_of p fates whole network c r) in
          let at : (net_row_at network.rows j).origin
          ≡ k = omega (arith, f.origin, one_place fates f.place i f.keeps_it kept f.stands, names) in (
            j,
            omega (arith, length-map network.rows (λ (row : NetRow). row.origin)),
            get_or-map (λ (row : NetRow). row.origin) network.rows j no_net_row k below ∙ at,
          );
    }

-- ---- events that become one

contracted_arcs : (p : Pesp) (fates : List Fate) (whole network : NetworkValue) (c : Contraction) (i : ℕ)
    → IsReduction p fates whole c network → flag c.contracted.items i ≡ true
    → arc_at (arcs_of_network whole.rows) i ≡ arc_at (arcs_of p) i
contracted_arcs p fates whole network c i r e =
    let inside = (r.contraction.tree.fixed i e).0 in
    (r.others i (omega (arith, r.whole_count)) (not_free_contracted (fate_at fates i) (r.flagged i e))).0

-- a way along contracted rows, over the instance's rows
pub contracted_way : (p : Pesp) (fates : List Fate) (whole network : NetworkValue) (c : Contraction)
    (way : List SignedRow) (a b : ℕ) → IsReduction p fates whole c network
    → All (λ s. flag c.contracted.items (s.row - 1) ≡ true) way
    → Leads (arcs_of_network whole.rows) a way b → Leads (arcs_of p) a way b
contracted_way p fates whole network c way a b r f h =
    leads_same (arcs_of_network whole.rows) (arcs_of p) way a b
    (All-weaker (λ s. flag c.contracted.items (s.row - 1) ≡ true)
    (λ s. arc_at (arcs_of p) (s.row - 1) ≡ arc_at (arcs_of_network whole.rows) (s.row - 1))
    (λ s e. sym (contracted_arcs p fates whole network c (s.row - 1) r e)) way f) h

joined_to_one : (p : Pesp) (fates : List Fate) (whole network : NetworkValue) (c : Contraction) (a b : ℕ)
    → IsReduction p fates whole c network → a < length p.events → b < length p.events
    → AreJoinedByContracted (value_of p fates c network) a b
    → slice_index c.stands.items a ≡ slice_index c.stands.items b
joined_to_one p fates whole network c a b r x y j =
    let A = arcs_of p in let T = arcs_of_network c.tree.rows in
    let t = r.contraction.tree in
    let way = j.0 in
    let flagged : All (λ s. flag c.contracted.items (s.row - 1) ≡ true) way = λ k d l.
    let e = j.1 k d l in let n = length-arcs_of p in r.contracted ((get_or way k d).row - 1) (omega arith) (j.2 k d l) in
    let same : All (λ s. arc_at T (s.row - 1) ≡ arc_at A (s.row - 1)) way =
    All-weaker (λ s. flag c.contracted.items (s.row - 1) ≡ true) (λ s. arc_at T (s.row - 1) ≡ arc_at A (s.row - 1))
    (λ s e. same_arc whole.rows c.tree.rows c.contracted.items (s.row - 1) t e
    ∙ contracted_arcs p fates whole network c (s.row - 1) r e) way flagged in
    let sizes : length A ≡ length T = sym (arcs_length c.tree.rows ∙ t.tree_count ∙ r.whole_count ∙ sym (length-arcs_of p)) in
    let exist : AreRows T way = subst (λ (n : ℕ). All (λ (s : SignedRow). Names n s.row) way) sizes j.1 in
    let joined : AreJoined T a b = (way, exist, leads_same A T way a b same j.3) in
    standing_joined T (length p.events) c.stands.items c.firsts.items a b r.contraction.standing x y joined

one_to_joined : (p : Pesp) (fates : List Fate) (whole network : NetworkValue) (c : Contraction) (a b : ℕ)
    → IsReduction p fates whole c network → a < length p.events → b < length p.events
    → slice_index c.stands.items a ≡ slice_index c.stands.items b
    → AreJoinedByContracted (value_of p fates c network) a b
one_to_joined p fates whole network c a b r x y e =
    let f = flagged_way whole.rows c.tree.rows c.contracted.items
    (length p.events) c.stands.items c.firsts.items a b r.contraction.tree r.contraction.standing x y e in (
      f.way,
      subst (λ (n : ℕ). All (λ (s : SignedRow). Names n s.row) f.way) (sizes_agree p fates whole network c r) f.exist,
      All-weaker (λ s. flag c.contracted.items (s.row - 1) ≡ true) (λ s. fate_at fates (s.row - 1) ≡ Contracted)
          (λ s e. r.flagged (s.row - 1) e) f.way f.flagged,
      contracted_way p fates whole network c f.way a b r f.flagged f.leads,
    )

pub are_merged : (p : Pesp) (fates : List Fate) (whole network : NetworkValue) (c : Contraction)
    → IsReduction p fates whole c network → AreMerged (value_of p fates c network)
are_merged p fates whole network c r = record {
  becomes = λ a l. subst (λ n. slice_index c.stands.items a < n) (sym r.events) (r.contraction.standing.stands_below a l);
  from = λ k l. let b : k < length c.firsts.items = omega (arith, r.events) in
      (slice_index c.firsts.items k, r.contraction.standing.firsts_below k b, r.contraction.standing.own k b);
  joined = λ a b x y. (one_to_joined p fates whole network c a b r x y, joined_to_one p fates whole network c a b r x y);
  tight = λ i l e.
      let o = (r.others i l (not_free_contracted (fate_at fates i) e)).0 in
      subst (λ (arc : Arc). IsSame p.period (pos (slice_index c.shifts.items arc.head) -ℤ pos
      (slice_index c.shifts.items arc.tail)) arc.lower) (sym (arc_at_net whole.rows i) ∙ o)
      (r.contraction.shifts.tight i (r.contracted i l e));
}

pub are_for_events : (p : Pesp) (fates : List Fate) (whole network : NetworkValue) (c : Contraction)
    → IsReduction p fates whole c network → AreForEvents (value_of p fates c network)
are_for_events p fates whole network c r = record { stands = r.contraction.standing.stands_count; shifts = r.contraction.shifts.count }
