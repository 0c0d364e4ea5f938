-- A reduction from its parts, and what it says of the instance.
use Rattle.std.proofs.Common.{◌≡◌, ℕ, ◌+◌, ◌-◌, ◌<◌, inl, inr, refl, sym, ◌∙◌, ap, arith, subst, List, [], ◌∷◌, length, get_or, map, true, false, Bool, All, pos, ◌+ℤ◌, ◌-ℤ◌}
use Rattle.std.specs.Prelude.{if◌then◌else◌, slice_index}
use Rattle.std.proofs.lemmas.Bool.{cases_Bool}
use Rattle.std.proofs.lemmas.List.{length-map}
use Rattle.std.proofs.lemmas.List.Elements.{All-weaker}
use Rattle.pesp_problem.specs.declared.arc.Arc.{Arc}
use Rattle.pesp_problem.specs.declared.row.SignedRow.{SignedRow}
use Rattle.pesp_problem.specs.Timetables.{Pesp}
use Rattle.pesp_problem.specs.Limits.{KeepsLimits}
use Rattle.pesp_problem.specs.Arcs.{arc_at, arcs_of}
use Rattle.pesp_problem.specs.Walks.{Names, AreRows, Leads, IsWalk, start}
use Rattle.pesp_problem.specs.Forests.{IsBridge}
use Rattle.pesp_problem.proofs.Arcs.{length-arcs_of}
use Rattle.pesp_network.specs.declared.row.NetRow.{NetRow}
use Rattle.pesp_network.specs.Networks.{NetworkValue, net_row_at, arc_of_net, arcs_of_network}
use Rattle.pesp_reduce.specs.declared.fate.Fate.{Fate}
use Rattle.pesp_reduce.specs.declared.fate.Fate.TheVariants.{Free, Contracted, Bridge, Kept}
use Rattle.pesp_reduce.specs.declared.contraction.Contraction.{Contraction}
use Rattle.pesp_reduce.specs.Rows.{flag, is_free, IsFree, loop_at, row_that_matters}
use Rattle.pesp_reduce.specs.Contracting.{IsContraction}
use Rattle.pesp_reduce.specs.Fates.{AreFates, fate_at, is_kept, mapped_row, kept_below}
use Rattle.pesp_reduce.specs.Reductions.{IsReduction, IsReducedRow, HaveNoContractedCycle, IsOnNoCycle, origin_place}
use Rattle.pesp_reduce.proofs.Lists.{arc_at_net, arcs_length}
use Rattle.pesp_reduce.proofs.Ways.{leads_same, walk_same}
use Rattle.pesp_reduce.proofs.Keeping.{keeps, places, length_kept, kept_at, which}
use Rattle.pesp_reduce.proofs.WaysBack.{IsContractedApart, bridge_of_mapped}
use Rattle.pesp_reduce.proofs.Reducing.{matters_at, matters_on, matters_off, matter_ends, is_not_free, kept_parts, free_fate, other_fate, contracted_fate, bridge_fate, flagged_fate, flagged_matters, bridge_below, together_no_bridge, left_sorted, none_left_over, mapped_at}

origin_stays : (b : Bool) (row : NetRow) → (if b then loop_at row else row).origin ≡ row.origin
origin_stays true row = refl
origin_stays false row = refl

bridge_not_free : (fate : Fate) → fate ≡ Bridge → fate ≡ Free → ⊥
bridge_not_free fate e q = cc

-- the contracted rows and the free ones among the rows that matter
contracted_apart : (p : Pesp) (given : List NetRow) (c : Contraction) → KeepsLimits p
    → arcs_of_network given ≡ arcs_of p → length given ≡ length p.rows
    → IsContraction p.period (length p.events) (map (row_that_matters p.period) given) c
    → IsContractedApart (map (row_that_matters p.period) given) c.tree.rows c.contracted.items
    (λ j. is_free p.period (net_row_at given j)) (length p.events) c.stands.items c.firsts.items
contracted_apart p given c limits arcs_are count ic =
    let T = p.period in
    record {
      tree_is = ic.tree;
      standing = ic.standing;
      ends = λ j l. matter_ends p given j limits arcs_are (omega (arith, length-map given (row_that_matters T)));
      loops = λ j e. let at = matters_at T given j ∙ matters_off T (net_row_at given j) e in
          ap (λ (r : NetRow). r.tail) at ∙ sym (ap (λ (r : NetRow). r.head) at);
      apart = λ j e. elim (cases_Bool (is_free T (net_row_at given j))) [
        | inl t ↦ absurd (flagged_matters T given c.tree.rows c.contracted.items j ic.tree e t)
        | inr f ↦ f
      ];
    }

-- a kept row is on a cycle
kept_on_cycle : (p : Pesp) (given : List NetRow) (c : Contraction) (fates : List Fate) (i : ℕ) → KeepsLimits p
    → arcs_of_network given ≡ arcs_of p → length given ≡ length p.rows
    → IsContraction p.period (length p.events) (map (row_that_matters p.period) given) c
    → AreFates p.period given c.contracted.items
    (arcs_of_network (map (mapped_row c.stands.items c.shifts.items) (map (row_that_matters p.period) given)))
    fates → i < length p.rows → fate_at fates i ≡ Kept → IsOnNoCycle p i → ⊥
kept_on_cycle p given c fates i limits arcs_are count ic f l e none =
    let T = p.period in
    let S = c.stands.items in let H = c.shifts.items in let flags = c.contracted.items in
    let W = map (row_that_matters T) given in
    let A = arcs_of p in let R = arcs_of_network W in
    let free : ℕ → Bool = λ j. is_free T (net_row_at given j) in
    let parts = kept_parts T (net_row_at given i) (flag flags i) (arcs_of_network (map (mapped_row S H) W)) (i + 1)
    (fate_at fates i) (f.each i (omega arith)) e in
    let own : (k : ℕ) → arc_of_net (net_row_at given k) ≡ arc_at A k = λ k. sym (arc_at_net given k)
    ∙ ap (λ arcs. arc_at arcs k) arcs_are in
    let same : (s : SignedRow) → free (s.row - 1) ≡ false → arc_at A (s.row - 1) ≡ arc_at R (s.row - 1) = λ s q.
    let k = s.row - 1 in sym (arc_at_net W k ∙ ap arc_of_net (matters_at T given k ∙ matters_on T (net_row_at given k) q) ∙ own k) in
    let matters : (s : SignedRow) → free (s.row - 1) ≡ false → IsFree T (arc_at A (s.row - 1)) → ⊥ = λ s q z.
    is_not_free T (net_row_at given (s.row - 1)) q (subst (IsFree T) (sym (own (s.row - 1))) z) in
    let sizes : length A ≡ length R = length-arcs_of p ∙ sym count ∙ sym (length-map given (row_that_matters T)) ∙ sym (arcs_length W) in
    let F : SignedRow → Type 0 = λ s. free (s.row - 1) ≡ false in
    parts.2 (bridge_of_mapped W c.tree.rows flags free (length p.events) S c.firsts.items H i
    (contracted_apart p given c limits arcs_are count ic) parts.0 parts.1
    (λ walk w m. none walk (walk_same R A walk sizes
    (All-weaker F (λ s. arc_at A (s.row - 1) ≡ arc_at R (s.row - 1)) same walk m) w)
    (All-weaker F (λ s. IsFree T (arc_at A (s.row - 1)) → ⊥) matters walk m)))

pub is_reduction : (p : Pesp) (given : List NetRow) (whole network : NetworkValue) (c : Contraction)
    (fates : List Fate) → KeepsLimits p → arcs_of_network given ≡ arcs_of p
    → ((i : ℕ) → i < length given → (net_row_at given i).origin ≡ i + 1)
    → whole.period ≡ p.period → whole.events ≡ length p.events → whole.rows ≡ map (row_that_matters p.period) given
    → IsContraction p.period (length p.events) whole.rows c
    → length fates ≡ length given → AreFates p.period given c.contracted.items
    (arcs_of_network (map (mapped_row c.stands.items c.shifts.items) whole.rows)) fates
    → network.period ≡ p.period → network.events ≡ length c.firsts.items
    → network.rows ≡ kept_below fates (map (mapped_row c.stands.items c.shifts.items) whole.rows)
    (length (map (mapped_row c.stands.items c.shifts.items) whole.rows)) → IsReduction p fates whole c network
is_reduction p given whole network c fates limits arcs_are origins period_is events_are whole_is contraction
    fates_count fates_are net_period net_events net_rows =
    let T = p.period in
    let S = c.stands.items in let H = c.shifts.items in let flags = c.contracted.items in
    let W = map (row_that_matters T) given in
    let B = map (mapped_row S H) W in
    let ic = subst (λ rows. IsContraction T (length p.events) rows c) whole_is contraction in
    let t = ic.tree in
    let left_rows : map (mapped_row S H) whole.rows ≡ B = ap (map (mapped_row S H)) whole_is in
    let f = subst (λ rows. AreFates T given flags (arcs_of_network rows) fates) left_rows fates_are in
    let count_given : length given ≡ length p.rows = sym (arcs_length given) ∙ ap length arcs_are ∙ length-arcs_of p in
    let count_whole : length W ≡ length given = length-map given (row_that_matters T) in
    let count_left : length B ≡ length W = length-map W (mapped_row S H) in
    let N = kept_below fates B (length B) in
    let rows_are : network.rows ≡ N = net_rows ∙ ap (λ rows. kept_below fates rows (length rows)) left_rows in
    let own : (i : ℕ) → arc_of_net (net_row_at given i) ≡ arc_at (arcs_of p) i = λ i. sym (arc_at_net given i)
    ∙ ap (λ arcs. arc_at arcs i) arcs_are in
    let fate = λ (i : ℕ) (l : i < length p.rows). f.each i (omega arith) in
    let left_arcs = arcs_of_network B in
    record {
      whole_period = period_is;
      whole_events = events_are;
      whole_count = ap length whole_is ∙ count_whole ∙ count_given;
      fates_count = fates_count ∙ count_given;
      contraction = contraction;
      free = λ i l e. subst (IsFree T) (own i)
          (free_fate T (net_row_at given i) (flag flags i) left_arcs (i + 1) (fate_at fates i) (fate i l) e);
      others = λ i l n.
          let o = other_fate T (net_row_at given i) (flag flags i) left_arcs (i + 1) (fate_at fates i) (fate i l) n in (
            ap (λ rows. arc_at (arcs_of_network rows) i) whole_is ∙ arc_at_net W i
                ∙ ap arc_of_net (matters_at T given i ∙ o.0) ∙ own i,
            λ q. o.1 (subst (IsFree T) (sym (own i)) q),
          );
      contracted = λ i l e. contracted_fate T (net_row_at given i) (flag flags i) left_arcs (i + 1) (fate_at fates i) (fate i l) e;
      flagged = λ i e.
          let inside = (t.fixed i e).0 in
          flagged_fate T (net_row_at given i) (flag flags i) left_arcs (i + 1) (fate_at fates i)
          (fate i (omega arith)) e (flagged_matters T given c.tree.rows flags i t e);
      bridges = λ i walk l e w. bridge_below S H W i walk
          (bridge_fate T (net_row_at given i) (flag flags i) left_arcs (i + 1) (fate_at fates i) (fate i l) e)
          (subst (λ rows. IsWalk (arcs_of_network rows) walk) whole_is w);
      loose = λ i l e z.
          let o = other_fate T (net_row_at given i) (flag flags i) left_arcs (i + 1) (fate_at fates i) (fate i l)
          (bridge_not_free (fate_at fates i) e) in
          let inside : i < length W = omega (arith, count_whole, count_given) in
          let fixed = ap (λ (r : NetRow). r.span) (matters_at T given i ∙ o.0) ∙ ap (λ (a : Arc). a.span) (own i) ∙ z in
          together_no_bridge S H W i inside (ic.together i inside fixed)
          (bridge_fate T (net_row_at given i) (flag flags i) left_arcs (i + 1) (fate_at fates i) (fate i l) e);
      kept = λ i l e none. kept_on_cycle p given c fates i limits arcs_are count_given ic f l e none;
      origins = λ i l. ap (λ rows. (net_row_at rows i).origin) whole_is
          ∙ ap (λ (r : NetRow). r.origin) (matters_at T given i)
          ∙ origin_stays (is_free T (net_row_at given i)) (net_row_at given i) ∙ origins i (omega arith);
      period = net_period;
      events = net_events;
      rows = rows_are ∙ ap (kept_below fates B) (count_left ∙ count_whole ∙ count_given)
          ∙ sym (ap (λ rows. kept_below fates (map (mapped_row S H) rows) (length p.rows)) whole_is);
      no_bridge = λ row names b.
          none_left_over T given B flags fates row (omega arith) (left_sorted T given c.tree.rows flags S H fates t ic.together f) f
          (subst (λ (n : ℕ). Names n row) (ap length rows_are) names) (subst (λ rows. IsBridge (arcs_of_network rows) row) rows_are b);
    }

-- ---- the rows of the network

pub kept_only : (fate : Fate) → is_kept fate ≡ true → fate ≡ Kept
kept_only Free e = cc
kept_only Contracted e = cc
kept_only Bridge e = cc
kept_only Kept e = refl

pub not_free : (fate : Fate) → fate ≡ Kept → fate ≡ Free → ⊥
not_free fate e q = cc

pub not_free_contracted : (fate : Fate) → fate ≡ Contracted → fate ≡ Free → ⊥
not_free_contracted fate e q = cc

-- a row of the network and the row of the instance that it comes from
pub record ComesFrom (p : Pesp) (fates : List Fate) (whole : NetworkValue) (c : Contraction) (network : NetworkValue) (j : ℕ) : Type 0 where
  pub place : ℕ
  pub below : place < length p.rows
  pub keeps_it : keeps fates place ≡ true
  pub kept : fate_at fates place ≡ Kept
  pub stands : places fates place ≡ j
  pub row : net_row_at network.rows j ≡ mapped_row c.stands.items c.shifts.items (net_row_at whole.rows place)
  pub arc : arc_of_net (net_row_at whole.rows place) ≡ arc_at (arcs_of p) place
  pub matters : IsFree p.period (arc_at (arcs_of p) place) → ⊥
  pub origin : (net_row_at network.rows j).origin ≡ place + 1

unfoldable pub kept_row : (p : Pesp) (fates : List Fate) (whole network : NetworkValue) (c : Contraction) (i : ℕ)
    → IsReduction p fates whole c network → i < length p.rows → keeps fates i ≡ true
    → ComesFrom p fates whole c network (places fates i)
kept_row p fates whole network c i r l e =
    let B = map (mapped_row c.stands.items c.shifts.items) whole.rows in
    let kept = kept_only (fate_at fates i) e in
    let o = r.others i l (not_free (fate_at fates i) kept) in
    let inside : i < length whole.rows = omega (arith, r.whole_count) in
    let at : net_row_at network.rows (places fates i) ≡ mapped_row c.stands.items c.shifts.items (net_row_at whole.rows i) =
    ap (λ rows. net_row_at rows (places fates i)) r.rows ∙ kept_at fates B (length p.rows) i l e
    ∙ mapped_at c.stands.items c.shifts.items whole.rows i inside in
    record {
      place = i;
      below = l;
      keeps_it = e;
      kept = kept;
      stands = refl;
      row = at;
      arc = sym (arc_at_net whole.rows i) ∙ o.0;
      matters = o.1;
      origin = ap (λ (row : NetRow). row.origin) at ∙ r.origins i l;
    }

pub size_of : (p : Pesp) (fates : List Fate) (whole network : NetworkValue) (c : Contraction)
    → IsReduction p fates whole c network → length network.rows ≡ places fates (length p.rows)
size_of p fates whole network c r = ap length r.rows
    ∙ length_kept fates (map (mapped_row c.stands.items c.shifts.items) whole.rows) (length p.rows)

pub comes_from : (p : Pesp) (fates : List Fate) (whole network : NetworkValue) (c : Contraction) (j : ℕ)
    → IsReduction p fates whole c network → j < length network.rows → ComesFrom p fates whole c network j
comes_from p fates whole network c j r l =
    let w = which fates (length p.rows) j (omega (arith, size_of p fates whole network c r)) in
    subst (λ k. ComesFrom p fates whole c network k) w.place (kept_row p fates whole network c w.from r w.below w.kept)

pub reduced_row : (p : Pesp) (fates : List Fate) (whole network : NetworkValue) (c : Contraction) (j : ℕ)
    → IsReduction p fates whole c network → j < length network.rows
    → IsReducedRow (record { original = p; fates = fates; stands = c.stands.items; shifts = c.shifts.items; network = network }) j
reduced_row p fates whole network c j r l =
    let f = comes_from p fates whole network c j r l in
    let below = f.below in
    let origin : origin_place network j ≡ f.place = omega (arith, f.origin) in
    let A : ℕ → Arc = arc_at (arcs_of p) in
    let arc : A f.place ≡ A (origin_place network j) = ap A (sym origin) in
    let both = f.arc ∙ arc in
    let S = c.stands.items in let H = c.shifts.items in
    record {
      names = (omega (arith, f.origin), omega (arith, f.origin));
      kept = ap (fate_at fates) origin ∙ f.kept;
      tail = ap (λ (row : NetRow). row.tail) f.row ∙ ap (λ (a : Arc). slice_index S a.tail) both;
      head = ap (λ (row : NetRow). row.head) f.row ∙ ap (λ (a : Arc). slice_index S a.head) both;
      lower = ap (λ (row : NetRow). row.lower) f.row
          ∙ ap (λ (a : Arc). (a.lower +ℤ pos (slice_index H a.tail)) -ℤ pos (slice_index H a.head)) both;
      span = ap (λ (row : NetRow). row.span) f.row ∙ ap (λ (a : Arc). a.span) both;
      weight = ap (λ (row : NetRow). row.weight) f.row ∙ ap (λ (a : Arc). a.weight) both;
    }

pub none_free : (p : Pesp) (fates : List Fate) (whole network : NetworkValue) (c : Contraction) (j : ℕ)
    → IsReduction p fates whole c network → j < length network.rows
    → IsFree network.period (arc_of_net (net_row_at network.rows j)) → ⊥
none_free p fates whole network c j r l q =
    let f = comes_from p fates whole network c j r l in
    let span = ap (λ (row : NetRow). row.span) f.row ∙ ap (λ (a : Arc). a.span) f.arc in
    let weight = ap (λ (row : NetRow). row.weight) f.row ∙ ap (λ (a : Arc). a.weight) f.arc in
    f.matters (sym span ∙ q.0 ∙ ap (λ n. n - 1) r.period, sym weight ∙ q.1)

pub none_fixed : (p : Pesp) (fates : List Fate) (whole network : NetworkValue) (c : Contraction) (j : ℕ)
    → IsReduction p fates whole c network → j < length network.rows → (net_row_at network.rows j).span ≡ 0
    → (net_row_at network.rows j).tail ≡ (net_row_at network.rows j).head
none_fixed p fates whole network c j r l q =
    let f = comes_from p fates whole network c j r l in
    let below = f.below in
    let one = r.contraction.together f.place (omega (arith, r.whole_count)) (sym (ap (λ (row : NetRow). row.span) f.row) ∙ q) in
    ap (λ (row : NetRow). row.tail) f.row ∙ one ∙ sym (ap (λ (row : NetRow). row.head) f.row)

pub no_contracted_cycle : (p : Pesp) (fates : List Fate) (whole network : NetworkValue) (c : Contraction)
    → IsReduction p fates whole c network
    → HaveNoContractedCycle (record { original = p; fates = fates; stands = c.stands.items; shifts = c.shifts.items; network = network })
no_contracted_cycle p fates whole network c r [] i w k = absurd w
no_contracted_cycle p fates whole network c r (s ∷ way) i w k =
    let A = arcs_of p in let W = arcs_of_network whole.rows in
    let walk : List SignedRow = s ∷ way in
    let count : length A ≡ length W = length-arcs_of p ∙ sym (arcs_length whole.rows ∙ r.whole_count) in
    let exists : AreRows W walk = subst (λ (n : ℕ). All (λ (x : SignedRow). Names n x.row) walk) count w.0 in
    let inside = λ (j : ℕ) (d : SignedRow) (l : j < length walk). let x = w.0 j d l in let m = length-arcs_of p in
    let place : (get_or walk j d).row - 1 < length p.rows = omega arith in place in
    let same : All (λ x. arc_at W (x.row - 1) ≡ arc_at A (x.row - 1)) walk = λ j d l.
    (r.others ((get_or walk j d).row - 1) (inside j d l) (not_free_contracted (fate_at fates ((get_or walk j d).row - 1)) (k j d l))).0 in
    let flagged : All (λ x. flag c.contracted.items (x.row - 1) ≡ true) walk =
    λ j d l. r.contracted ((get_or walk j d).row - 1) (inside j d l) (k j d l) in
    let leads = leads_same A W walk (start A s) (start A s) same w.1 in
    let closed : Leads W (start W s) walk (start W s) = subst (λ x. Leads W x walk x) (sym leads.0) leads in
    r.contraction.tree.no_cycle walk i (exists, closed) flagged
