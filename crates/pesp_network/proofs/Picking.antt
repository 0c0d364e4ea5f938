-- A forest over some rows of a network is one of the network.
use Rattle.std.proofs.Common.{◌≡◌, ℕ, ◌+◌, ◌-◌, ◌<◌, ◌≤◌, inl, inr, refl, sym, ◌∙◌, ap, subst, arith, List, length, vec_len, map, All, slice_index_or}
use Rattle.std.specs.Prelude.{slice_index}
use Rattle.std.proofs.lemmas.Bool.{cases_lt}
use Rattle.std.proofs.lemmas.Bool.Decides.{nat_tests}
use Rattle.std.proofs.lemmas.List.{get_or-map, get_or_past, length-map}
use Rattle.std.proofs.lemmas.List.Elements.{All-from_get_or}
use Rattle.pesp_problem.specs.declared.arc.Arc.{Arc}
use Rattle.pesp_problem.specs.Arcs.{arc_at, tail_of, head_of}
use Rattle.pesp_problem.specs.Walks.{Names}
use Rattle.pesp_network.specs.declared.row.NetRow.{NetRow}
use Rattle.pesp_network.specs.declared.parts.Growth.{Growth}
use Rattle.pesp_network.specs.declared.parts.Forest.{Forest}
use Rattle.pesp_network.specs.Networks.{arcs_of_network, arc_of_net, net_row_at, no_net_row}
use Rattle.pesp_problem.specs.ArcLimits.{HaveEnds}
use Rattle.pesp_network.specs.Growing.{Fns, Grown, at}
use Rattle.pesp_network.specs.Floods.{OPEN_END, fns_of, GrownOver, AllClosed}
use Rattle.pesp_network.specs.Rooted.{IsRooted, IsGrown, IsForest, IsMetBy, row_number_of}
use Rattle.pesp_network.proofs.Climbing.{ends_of}
use Rattle.pesp_network.proofs.Places.{count, arc_is, tail_more, head_more}

-- the rows of these numbers
abbrev pub picked : List NetRow → List ℕ → List NetRow
picked rows numbers = map (λ k. net_row_at rows (k - 1)) numbers

pub number_some : (numbers : List ℕ) (k : ℕ) → 0 < k → row_number_of numbers k ≡ slice_index numbers (k - 1)
number_some numbers k h = grind (arith, nat_tests)

pub number_none : (numbers : List ℕ) (k : ℕ) → k ≡ 0 → row_number_of numbers k ≡ 0
number_none numbers k h = grind (arith, nat_tests)

-- a picked row is the row of its number
pub picked_arc : (rows : List NetRow) (numbers : List ℕ) (k : ℕ) → All (Names (length rows)) numbers → 0 < k → k ≤ length numbers
    → (Names (length rows) (row_number_of numbers k))
    × (arc_at (arcs_of_network rows) (row_number_of numbers k - 1)
    ≡ arc_at (arcs_of_network (picked rows numbers)) (k - 1))
picked_arc rows numbers k names some most =
    let h : k - 1 < length numbers = omega arith in
    let n = number_some numbers k some in
    let a = names (k - 1) 0 h in
    let P : ℕ → Type 0 = λ j. Names (length rows) j in
    let b : Names (length rows) (row_number_of numbers k) = rw n a in
    let lp : k - 1 < length (picked rows numbers) = let e = length-map numbers (λ j. net_row_at rows (j - 1)) in omega arith in (
      b,
      arc_is rows (row_number_of numbers k - 1) no_net_row (omega arith) ∙ ap (λ j. arc_of_net (net_row_at rows (j - 1))) n
          ∙ ap arc_of_net (sym (get_or-map (λ j. net_row_at rows (j - 1)) numbers (k - 1) 0 no_net_row h))
          ∙ sym (arc_is (picked rows numbers) (k - 1) no_net_row lp),
    )

-- a forest of lists as functions, but for its rows and what is left
abbrev pub fns_with : Forest → (ℕ → ℕ) → (ℕ → ℕ) → Fns
fns_with f b l = record {
  up = at f.up.items;
  by = b;
  place = at f.place.items;
  last = at f.last.items;
  root = at f.root.items;
  left = l;
  order = at f.order.items;
  count = vec_len f.order;
}

-- the rows of the forest have other names
pub record Renamed (m : ℕ) (T H new_tail new_head b : ℕ → ℕ) (f : Forest) : Type 0 where
  pub none : (x : ℕ) → b x ≡ 0 → at f.by.items x ≡ 0
  pub some : (x : ℕ) → 0 < b x → (0 < at f.by.items x) × (at f.by.items x ≤ m)
      × (new_tail (at f.by.items x) ≡ T (b x)) × (new_head (at f.by.items x) ≡ H (b x))

was : (m : ℕ) (T H new_tail new_head b : ℕ → ℕ) (f : Forest) → Renamed m T H new_tail new_head b f → (x : ℕ) → 0 < at f.by.items x → 0 < b x
was m T H new_tail new_head b f r x h = elim (cases_lt 0 (b x))
    [ inl s ↦ s | inr z ↦ absurd (let n = r.none x (omega arith) in omega arith) ]

pub rooted_as : (n m m2 : ℕ) (T H new_tail new_head b l : ℕ → ℕ) (f : Forest)
    → Grown n m OPEN_END T H (fns_with f b l) → ((x : ℕ) → 0 < at f.place.items x → at f.last.items x < OPEN_END)
    → Renamed m2 T H new_tail new_head b f → IsRooted n m2 new_tail new_head f
rooted_as n m m2 T H new_tail new_head b l f g closed r =
    let old = was m2 T H new_tail new_head b f r in
    record {
      seen_below = g.seen_below;
      places = g.places;
      order_at = g.order_at;
      place_at = g.place_at;
      by_row = λ x. elim (cases_lt 0 (b x)) [
        | inl s ↦ let w = r.some x s in
            omega arith
        | inr z ↦ let w = r.none x (omega arith) in omega arith
      ];
      by_ends = λ x h. let w = r.some x (old x h) in
          elim (g.by_ends x (old x h)) [ inl e ↦ inl (w.2 ∙ e.0, w.3 ∙ e.1) | inr e ↦ inr (w.3 ∙ e.0, w.2 ∙ e.1) ];
      by_seen = λ x h. g.by_seen x (old x h);
      climbs = λ x h. g.climbs x (old x h);
      same_root = λ x h. g.same_root x (old x h);
      own_root = λ x s h. elim (cases_lt 0 (b x))
          [ inl k ↦ absurd (let w = r.some x k in omega arith) | inr z ↦ g.own_root x s (omega arith) ];
      root_first = g.root_first;
      inner_up = λ x y s h. g.inner_up x y s (old y h);
      inner_down = λ x y s h. g.inner_down x y s (old y h);
      inner_root = λ x y s t h. elim (cases_lt 0 (b y))
          [ inl k ↦ absurd (let w = r.some y k in omega arith) | inr z ↦ g.inner_root x y s t (omega arith) ];
      lasts = λ x s. let c = g.closed x (closed x s) in omega arith;
    }

-- a list of numbers that takes 0 to 0, past its end too
at_map : (h : ℕ → ℕ) (xs : List ℕ) (x : ℕ) → h 0 ≡ 0 → at (map h xs) x ≡ h (at xs x)
at_map h xs x z = elim (cases_lt x (length xs)) [
  | inl l ↦ get_or-map h xs x 0 0 l
  | inr l ↦ get_or_past (map h xs) x 0 (let e = length-map xs h in omega arith) ∙ sym (ap h (get_or_past xs x 0 l) ∙ z)
]

pub renamed : (rows : List NetRow) (numbers bys : List ℕ) (f : Forest) → All (Names (length rows)) numbers
    → ((x : ℕ) → at bys x ≤ length numbers) → f.by.items ≡ map (row_number_of numbers) bys
    → Renamed (length (arcs_of_network rows)) (tail_of (arcs_of_network (picked rows numbers)))
    (head_of (arcs_of_network (picked rows numbers))) (tail_of (arcs_of_network rows))
    (head_of (arcs_of_network rows)) (at bys) f
renamed rows numbers bys f names few e =
    let is : (x : ℕ) → at f.by.items x ≡ row_number_of numbers (at bys x) = λ x. ap (λ xs. at xs x) e
    ∙ at_map (row_number_of numbers) bys x (number_none numbers 0 refl) in
    record {
      none = λ x z. is x ∙ number_none numbers (at bys x) z;
      some = λ x s.
          let a = picked_arc rows numbers (at bys x) names s (few x) in
          let q = is x in let c = count rows in let a0 = a.0 in (
            omega arith,
            omega arith,
            ap (tail_of (arcs_of_network rows)) q ∙ ap (λ (r : Arc). r.tail) a.1,
            ap (head_of (arcs_of_network rows)) q ∙ ap (λ (r : Arc). r.head) a.1,
          );
    }

-- the ends of the picked rows are events
pub picked_ends : (n : ℕ) (rows : List NetRow) (numbers : List ℕ) → All (Names (length rows)) numbers
    → HaveEnds n (arcs_of_network rows) → HaveEnds n (arcs_of_network (picked rows numbers))
picked_ends n rows numbers names ends k h =
    let c = count (picked rows numbers) in let e = length-map numbers (λ j. net_row_at rows (j - 1)) in let d = count rows in
    let a = picked_arc rows numbers (k + 1) names (omega arith) (omega arith) in
    let a0 = a.0 in
    let w = ends (row_number_of numbers (k + 1) - 1) (omega arith) in
    let z : k + 1 - 1 ≡ k = omega arith in
    let q = a.1 ∙ ap (arc_at (arcs_of_network (picked rows numbers))) z in
    let x = ap (λ (r : Arc). r.tail) q in let y = ap (λ (r : Arc). r.head) q in (omega arith, omega arith)

-- both ends of a picked row are in one tree
pub picked_met : (n : ℕ) (rows : List NetRow) (numbers : List ℕ) (g : Growth) (i : ℕ)
    → All (Names (length rows)) numbers → HaveEnds n (arcs_of_network rows)
    → GrownOver (arcs_of_network (picked rows numbers)) g → AllClosed g
    → ((x : ℕ) → x < n → 0 < at g.place.items x) → i < length numbers
    → at g.root.items (tail_of (arcs_of_network rows) (slice_index numbers i))
    ≡ at g.root.items (head_of (arcs_of_network rows) (slice_index numbers i))
picked_met n rows numbers g i names ends grown closed seen h =
    let arcs = arcs_of_network (picked rows numbers) in
    let c = count (picked rows numbers) in let e = length-map numbers (λ j. net_row_at rows (j - 1)) in
    let w = ends_of n arcs (i + 1) (picked_ends n rows numbers names ends) (omega arith, omega arith) in
    let t = tail_of arcs (i + 1) in
    let k = grown.closed t (closed t (seen t w.0)) in
    let m = grown.tail_met (i + 1) (omega arith) (omega arith) (omega arith) in
    let a = picked_arc rows numbers (i + 1) names (omega arith) (omega arith) in
    let z : i + 1 - 1 ≡ i = omega arith in
    let q : row_number_of numbers (i + 1) ≡ slice_index numbers i = number_some numbers (i + 1) (omega arith) ∙ ap (slice_index numbers) z in
    let x = ap (tail_of (arcs_of_network rows)) (sym q) ∙ ap (λ (r : Arc). r.tail) a.1 in
    let y = ap (head_of (arcs_of_network rows)) (sym q) ∙ ap (λ (r : Arc). r.head) a.1 in
    ap (at g.root.items) x ∙ m.same ∙ sym (ap (at g.root.items) y)

pub picked_count : (rows : List NetRow) (numbers : List ℕ) → length (arcs_of_network (picked rows numbers)) ≡ length numbers
picked_count rows numbers = count (picked rows numbers) ∙ length-map numbers (λ j. net_row_at rows (j - 1))

-- the rows that join events are among the picked ones
pub bys_few : (rows : List NetRow) (numbers : List ℕ) (kept : List NetRow) (g : Growth) (bys : List ℕ)
    → kept ≡ picked rows numbers → bys ≡ g.by.items → GrownOver (arcs_of_network kept) g
    → All (λ k. k ≤ length numbers) bys
bys_few rows numbers kept g bys e q grown = All-from_get_or (λ k. k ≤ length numbers) bys 0 (λ k h.
    let b = grown.by_row k in
    let c = picked_count rows numbers in
    let l = ap (λ r. length (arcs_of_network r)) e in
    let s = ap (λ xs. at xs k) q in
    omega arith)

pub kept_ends : (n : ℕ) (rows : List NetRow) (numbers : List ℕ) (kept : List NetRow) → kept ≡ picked rows numbers
    → All (Names (length rows)) numbers → HaveEnds n (arcs_of_network rows) → HaveEnds n (arcs_of_network kept)
kept_ends n rows numbers kept e names ends = let P : List NetRow → Type 0 = λ r. HaveEnds n (arcs_of_network r) in
    subst P (sym e) (picked_ends n rows numbers names ends)

pub kept_grown : (rows : List NetRow) (numbers : List ℕ) (kept : List NetRow) (g : Growth)
    → kept ≡ picked rows numbers → GrownOver (arcs_of_network kept) g
    → GrownOver (arcs_of_network (picked rows numbers)) g
kept_grown rows numbers kept g e grown = let P : List NetRow → Type 0 = λ r. GrownOver (arcs_of_network r) g in subst P e grown

-- a forest of the same lists as a grown one, with its rows renamed
pub regrown : (n : ℕ) (rows : List NetRow) (numbers : List ℕ) (bys : List ℕ) (f : Forest) (l : ℕ → ℕ)
    (names : All (Names (length rows)) numbers) (ends : HaveEnds n (arcs_of_network rows))
    (few : length rows ≤ 100000)
    (grown : Grown n (length (arcs_of_network (picked rows numbers))) OPEN_END
    (tail_of (arcs_of_network (picked rows numbers))) (head_of (arcs_of_network (picked rows numbers)))
    (fns_with f (at bys) l))
    (closed : (x : ℕ) → 0 < at f.place.items x → at f.last.items x < OPEN_END)
    (seen : (x : ℕ) → x < n → 0 < at f.place.items x) (events : vec_len f.up ≡ n)
    (e : f.by.items ≡ map (row_number_of numbers) bys) → IsGrown n (arcs_of_network rows) f
regrown n rows numbers bys f l names ends few grown closed seen events e =
    let arcs = arcs_of_network (picked rows numbers) in
    let less : (x : ℕ) → at bys x ≤ length numbers = λ x. let b = grown.by_row x in let c = picked_count rows numbers in omega arith in
    record {
      grown = rooted_as n (length arcs) (length (arcs_of_network rows)) (tail_of arcs) (head_of arcs)
          (tail_of (arcs_of_network rows)) (head_of (arcs_of_network rows)) (at bys) l f grown closed
          (renamed rows numbers bys f names less e);
      all_seen = seen;
      events = events;
      ends = ends;
      few = let c = count rows in omega arith;
    }

-- all rows are met
pub met_forest : (n : ℕ) (arcs : List Arc) (f : Forest) → IsGrown n arcs f
    → ((k : ℕ) → Names (length arcs) k → IsMetBy arcs f k) → IsForest n arcs f
met_forest n arcs f g met = record { grown = g.grown; all_seen = g.all_seen; events = g.events; ends = g.ends; few = g.few; met = met }

pub all_met : (rows : List NetRow) (numbers : List ℕ) (f : Forest)
    → ((i : ℕ) → i < length rows → slice_index numbers i ≡ i + 1)
    → ((i : ℕ) → i < length rows → IsMetBy (arcs_of_network rows) f (slice_index numbers i))
    → (k : ℕ) → Names (length (arcs_of_network rows)) k → IsMetBy (arcs_of_network rows) f k
all_met rows numbers f are met k h =
    let c = count rows in let h0 = h.0 in let h1 = h.1 in
    let l : k - 1 < length rows = omega arith in
    let P : ℕ → Type 0 = λ j. IsMetBy (arcs_of_network rows) f j in
    let e : slice_index numbers (k - 1) ≡ k = are (k - 1) l ∙ omega arith in
    subst P e (met (k - 1) l)

pub names_all : (rows : List NetRow) (numbers : List ℕ) → length numbers ≡ length rows
    → ((i : ℕ) → i < length rows → slice_index numbers i ≡ i + 1) → All (Names (length rows)) numbers
names_all rows numbers e are = All-from_get_or (Names (length rows)) numbers 0
    (λ k h. let a = are k (omega arith) in (omega arith, omega arith))

pub met_more : (rows : List NetRow) (f : Forest) (i : ℕ) → i < length rows
    → ((k : ℕ) → Names (length (arcs_of_network rows)) k → k ≤ i → IsMetBy (arcs_of_network rows) f k)
    → at f.root.items (slice_index_or rows i no_net_row).tail
    ≡ at f.root.items (slice_index_or rows i no_net_row).head → (k : ℕ)
    → Names (length (arcs_of_network rows)) k → k ≤ i + 1 → IsMetBy (arcs_of_network rows) f k
met_more rows f i lt before here k names h = elim (cases_lt i k) [
  | inl w ↦
      let e : i + 1 ≡ k = omega arith in
      let P : ℕ → Type 0 = λ j. IsMetBy (arcs_of_network rows) f j in
      subst P e (ap (at f.root.items) (sym (tail_more rows i lt)) ∙ here ∙ ap (at f.root.items) (head_more rows i lt))
  | inr w ↦ before k names w
]

pub grown_among : (n : ℕ) (rows : List NetRow) (numbers : List ℕ) (g : Growth) → vec_len g.up ≡ n
    → GrownOver (arcs_of_network (picked rows numbers)) g
    → Grown n (length (arcs_of_network (picked rows numbers))) OPEN_END
    (tail_of (arcs_of_network (picked rows numbers))) (head_of (arcs_of_network (picked rows numbers)))
    (fns_of g)
grown_among n rows numbers g e h =
    let arcs = arcs_of_network (picked rows numbers) in
    let P : ℕ → Type 0 = λ m. Grown m (length arcs) OPEN_END (tail_of arcs) (head_of arcs) (fns_of g) in subst P e h
