-- What a network holds, in the words of its value.
use Rattle.std.proofs.Common.{◌≡◌, ◌≢◌, ℕ, ◌<◌, inl, inr, sym, ◌∙◌, ap, arith, subst, List, length, vec_len, All}
use Rattle.std.specs.Prelude.{◌≤◌, unsigned_abs, slice_index, Option, Some, None, IfSome, IfNone}
use Rattle.std.proofs.lemmas.Bool.{cases_lt}
use Rattle.std.proofs.lemmas.List.{get_or_past, get_or-map, length-map}
use Rattle.std.proofs.lemmas.List.Elements.{All-get_or, All-weaker, All-from_get_or, All-map}
use Rattle.pesp_problem.specs.declared.row.SignedRow.{SignedRow}
use Rattle.pesp_problem.specs.declared.arc.Arc.{Arc}
use Rattle.pesp_problem.specs.Arcs.{no_arc, arc_at, arc_slack}
use Rattle.pesp_problem.specs.ArcLimits.{ArcKeepsLimits, KeepArcLimits, HaveEnds}
use Rattle.pesp_problem.specs.NetTimetables.{IsNetTimetable}
use Rattle.pesp_problem.specs.Walks.{RowExists, AreRows, Leads, start}
use Rattle.pesp_problem.specs.Forests.{KeepsTo, IsSimple, AreJoined, IsFirstOf}
use Rattle.pesp_network.specs.declared.row.NetRow.{NetRow}
use Rattle.pesp_network.specs.declared.refusal.NetRefusal.{NetRefusal}
use Rattle.pesp_network.specs.declared.refusal.NetRefusal.TheVariants.{Memory, TableTooLarge, BadRow}
use Rattle.pesp_network.specs.declared.parts.Forest.{Forest}
use Rattle.pesp_network.specs.declared.parts.Reaches.{Reaches}
use Rattle.pesp_network.specs.Held.{NetworkIsHeld}
use Rattle.pesp_network.specs.Networks.{NetworkValue, arc_of_net, arcs_of_network, net_of_network, net_row_at, no_net_row, RowKeepsNetLimits, AreGood, KeepsNetLimits, IsTableRefusal, signed_rows}
use Rattle.pesp_network.specs.Growing.{at}
use Rattle.pesp_network.specs.Rooted.{IsForest, IsTreeRow, AreTreeRows, AreReaches}
use Rattle.pesp_network.specs.Ways.{way_between, IsForestWay, walks_of, IsTooMany}
use Rattle.pesp_network.specs.Times.{AreSlacks}
use Rattle.pesp_network.proofs.Places.{count, arc_is, lower_at}
use Rattle.pesp_problem.proofs.Spanning.{along}
use Rattle.pesp_network.proofs.Spanning.{as_roots, are_roots}
use Rattle.pesp_network.proofs.Bridging.{tree_is_row}
use Rattle.pesp_network.proofs.Paths.{is_path}
use Rattle.pesp_network.proofs.Tables.{keeps_to, too_many}
use Rattle.pesp_network.proofs.Firsts.{first_event}

-- the ends of rows that keep their limits are events
pub ends_kept : (period events : ℕ) (rows view : List NetRow) → view ≡ rows
    → All (RowKeepsNetLimits period events) rows → HaveEnds events (arcs_of_network view)
ends_kept period events rows view e each =
    let have : HaveEnds events (arcs_of_network rows) = λ k h.
    let c = count rows in
    let l : k < length rows = omega arith in
    let r = All-get_or (RowKeepsNetLimits period events) rows k no_net_row l each in
    let q = arc_is rows k no_net_row l in let t = ap (λ (a : Arc). a.tail) q in
    let d = ap (λ (a : Arc). a.head) q in let rt = r.tail in let rh = r.head in (omega arith, omega arith) in
    let P : List NetRow → Type 0 = λ x. HaveEnds events (arcs_of_network x) in
    subst P (sym e) have

-- each of good rows keeps its limits
pub each_good : (period events : ℕ) (rows view : List NetRow) → view ≡ rows → AreGood period events view
    → All (RowKeepsNetLimits period events) rows
each_good period events rows view e good =
    let P : List NetRow → Type 0 = λ x. All (RowKeepsNetLimits period events) x in
    subst P e (All-from_get_or (RowKeepsNetLimits period events) view no_net_row (λ i l. (good.each i l).keeps))

pub slacks_kept : (n : NetworkValue) (slacks : List ℕ) (view : List NetRow) → view ≡ n.rows → KeepsNetLimits n
    → length slacks ≡ length n.rows → All (λ y. y < n.period) slacks
    → AreSlacks n.period (arcs_of_network view) slacks
slacks_kept n slacks view e k len below =
    let rows = n.rows in
    let have : AreSlacks n.period (arcs_of_network rows) slacks = record {
      period_some = let a = k.some_period in omega arith;
      period_most = k.period_most;
      count = let c = count rows in omega arith;
      small = λ i h. All-get_or (λ y. y < n.period) slacks i 0 h below;
      lowers = λ i. elim (cases_lt i (length rows)) [
        | inl h ↦ let r = All-get_or (RowKeepsNetLimits n.period n.events) rows i no_net_row h k.each in
            let l = r.lower in let q = ap unsigned_abs (lower_at rows i h) in omega arith
        | inr h ↦ let c = count rows in let q =
            ap (λ (a : Arc). unsigned_abs a.lower) (get_or_past (arcs_of_network rows) i no_arc (omega arith)) in
            omega arith
      ];
    } in
    let P : List NetRow → Type 0 = λ x. AreSlacks n.period (arcs_of_network x) slacks in
    subst P (sym e) have

pub first_held : (n event first : ℕ) (arcs : List Arc) (g : Forest) → IsForest n arcs g → event < n
    → first ≡ at g.root.items event → IsFirstOf arcs event first
first_held n event first arcs g f h e = let P : ℕ → Type 0 = λ x. IsFirstOf arcs event x in subst P (sym e) (first_event n arcs g event f h)

-- the table of the rows as they are lent
pub table_is : (rows view : List NetRow) (g : Forest) (table : List (List SignedRow)) → view ≡ rows
    → table ≡ walks_of (arcs_of_network view) g (length view)
    → table ≡ walks_of (arcs_of_network rows) g (length (arcs_of_network rows))
table_is rows view g table e q = q ∙ ap (λ (x : List NetRow). walks_of (arcs_of_network x) g (length x)) e
    ∙ ap (walks_of (arcs_of_network rows) g) (sym (count rows))

pub refusal_is : (n : ℕ) (rows view : List NetRow) (g : Forest) (kept : List ℕ)
    → IsForest n (arcs_of_network rows) g → AreTreeRows n g kept → view ≡ rows → (e : NetRefusal)
    → IsTooMany (arcs_of_network view) g (length view) e → IsTableRefusal (arcs_of_network rows) kept e
refusal_is n rows view g kept f t q Memory h = tt
refusal_is n rows view g kept f t q TableTooLarge h = let e =
    ap (λ (x : List NetRow). signed_rows (walks_of (arcs_of_network x) g (length x))) q
    ∙ ap (λ m. signed_rows (walks_of (arcs_of_network rows) g m)) (sym (count rows)) in
    too_many n (arcs_of_network rows) g kept f t (omega arith)
refusal_is n rows view g kept f t q (BadRow row) h = absurd h

-- a way along the forest, in the words of the network's value
pub record IsWayHeld (n : NetworkValue) (from to : ℕ) (way : List SignedRow) : Type 0 where
  pub rows : AreRows (arcs_of_network n.rows) way
  pub leads : Leads (arcs_of_network n.rows) from way to
  pub keeps : KeepsTo n.forest way
  pub simple : IsSimple (arcs_of_network n.rows) way
  pub end_once : All (λ s. start (arcs_of_network n.rows) s ≢ to) way

pub way_held : (v n : NetworkValue) (held : List Arc) (g : Forest) (r : Reaches) (view : List NetRow) (from to : ℕ)
    (way : List SignedRow) → v ≡ n → NetworkIsHeld v held g r → view ≡ v.rows → from < n.events → to < n.events
    → IsForestWay (arcs_of_network view) g from to way → IsWayHeld n from to way
way_held v n held g r view from to way same k e bx bt w =
    let arcs = arcs_of_network v.rows in let f = k.forest in
    let events = ap (λ (x : NetworkValue). x.events) same in
    let p = is_path v.events arcs g from to f (omega arith) (omega arith) w.one_tree in
    let P : List SignedRow → Type 0 = λ y. IsWayHeld v from to y in
    let Q : NetworkValue → Type 0 = λ x. IsWayHeld x from to way in
    let q : way ≡ way_between arcs g from to = w.way_is ∙ ap (λ (x : List NetRow). way_between (arcs_of_network x) g from to) e in
    subst Q same (subst P (sym q) (record {
      rows = All-weaker (λ (s : SignedRow). IsTreeRow g s.row) (RowExists arcs) (tree_is_row v.events arcs g f)
          (way_between arcs g from to) p.tree;
      leads = p.leads;
      keeps = keeps_to v.events arcs g v.forest f k.kept (way_between arcs g from to) p.tree;
      simple = (p.starts, p.rows);
      end_once = p.end_once;
    }))

-- events of two trees aren't joined
pub apart_held : (v n : NetworkValue) (held : List Arc) (g : Forest) (r : Reaches) (from to : ℕ) → v ≡ n
    → NetworkIsHeld v held g r → from < n.events → at g.root.items from ≢ at g.root.items to
    → AreJoined (arcs_of_network n.rows) from to → ⊥
apart_held v n held g r from to same k b ne h =
    let events = ap (λ (x : NetworkValue). x.events) same in
    let P : NetworkValue → Type 0 = λ x. AreJoined (arcs_of_network x.rows) from to in
    let j = subst P (sym same) h in
    ne (along v.events (arcs_of_network v.rows) (as_roots g) from to j.0
    (are_roots v.events (arcs_of_network v.rows) g k.forest) (omega arith) j.1 j.2).1

pub none_then : {T : Type 0} {P Q : Type 0} (o : Option T) → IfNone o P → (P → Q) → IfNone o Q
none_then None h f = f h
none_then (Some x) h f = h

-- times with slacks within the spans are a timetable
pub within_spans : (n : NetworkValue) (view : List NetRow) (slacks times : List ℕ) → view ≡ n.rows
    → length times ≡ n.events → All (λ t. t < n.period) times
    → ((i : ℕ) → i < length view → arc_slack n.period times (arc_at (arcs_of_network view) i) ≡ slice_index slacks i)
    → ((i : ℕ) → i < length n.rows → slice_index slacks i ≤ (net_row_at n.rows i).span) → IsNetTimetable (net_of_network n) n.events times
within_spans n view slacks times e count below same within =
    let own = subst (λ rows. (i : ℕ) → i < length rows
    → arc_slack n.period times (arc_at (arcs_of_network rows) i) ≡ slice_index slacks i) e same in
    record {
      count = count;
      below = below;
      slacks = All-from_get_or (λ arc. arc_slack n.period times arc ≤ arc.span) (arcs_of_network n.rows) no_arc (λ i l.
          let inside : i < length n.rows = omega (arith, length-map n.rows arc_of_net) in
          let span = ap (λ (a : Arc). a.span) (get_or-map arc_of_net n.rows i no_net_row no_arc inside) in
          omega (arith, own i inside, within i inside, span));
    }

pub all_three : {T : Type 0} {P Q R S : T → Type 0} (o : Option T) → IfSome o P → IfSome o Q → IfSome o R
    → ((x : T) → P x → Q x → R x → S x) → IfSome o S
all_three None p q r f = tt
all_three (Some x) p q r f = f x p q r

-- ---- the arcs

row_limits : (period events : ℕ) (row : NetRow) → RowKeepsNetLimits period events row → ArcKeepsLimits period events (arc_of_net row)
row_limits period events row h = record { tail = h.tail; head = h.head; span = h.span; lower = h.lower; weight = h.weight }

pub arcs_keep_limits : (n : NetworkValue) → KeepsNetLimits n → KeepArcLimits n.period n.events (arcs_of_network n.rows)
arcs_keep_limits n h = record {
  some_period = h.some_period;
  period_most = h.period_most;
  events_most = h.events_most;
  arcs_most = (let e = length-map n.rows arc_of_net in let m = h.rows_most in omega arith);
  each = All-map (ArcKeepsLimits n.period n.events) arc_of_net n.rows (λ i d l. row_limits n.period n.events _ (h.each i d l));
}

-- a forest counts its events itself, and so do the places that are reached in it
pub own_forest : (n : ℕ) (arcs : List Arc) (g : Forest) → IsForest n arcs g → IsForest (vec_len g.up) arcs g
own_forest n arcs g f = subst (λ (k : ℕ). IsForest k arcs g) (sym f.events) f

pub own_reaches : (n : ℕ) (arcs : List Arc) (g : Forest) (low high : List ℕ) → IsForest n arcs g
    → AreReaches n arcs g low high → AreReaches (vec_len g.up) arcs g low high
own_reaches n arcs g low high f r = subst (λ (k : ℕ). AreReaches k arcs g low high) (sym f.events) r
