-- One flood, from an event that isn't seen.
use Rattle.std.proofs.Common.{◌≡◌, ℕ, ◌<◌, ◌≤◌, inl, inr, sym, ◌∙◌, ap, arith, subst, List, length, vec_len, set, sum, count_by, cond, ◌==◌, replicate, []}
use Rattle.std.proofs.lemmas.List.{get_or-replicate, get_or_past}
use Rattle.std.proofs.lemmas.List.Sums.{sum_by-set}
use Rattle.std.proofs.lemmas.Bool.{cases_lt}
use Rattle.pesp_problem.specs.declared.arc.Arc.{Arc}
use Rattle.pesp_network.specs.declared.parts.Growth.{Growth}
use Rattle.pesp_network.specs.declared.chains.Chains.{Chains}
use Rattle.pesp_network.specs.Chains.{Chained, AreChains}
use Rattle.pesp_network.specs.Growing.{Fns, Grown, Opens, OpensRoot, Closes, ClosesCurrent, at}
use Rattle.pesp_problem.specs.Arcs.{tail_of, head_of}
use Rattle.pesp_network.specs.Floods.{OPEN_END, fns_of, GrownOver, IsCurrent, AllClosed, KeepsSeen, work_left}
use Rattle.pesp_network.proofs.Rooting.{rooted, rooted_at}
use Rattle.pesp_network.proofs.Closing.{closed_grown, closed_at, all_closed, current_open}
use Rattle.pesp_network.proofs.Steps.{room, grown_from, keeps_opening}
use Rattle.pesp_network.proofs.Chaining.{all_zero}

pub start_flood : (arcs : List Arc) (g h : Growth) (y : ℕ) → GrownOver arcs g → AllClosed g → y < vec_len g.up
    → ((x : ℕ) → x < y → 0 < at g.place.items x) → at g.place.items y ≡ 0 → Opens (fns_of g) (fns_of h) y y 0 y
    → vec_len h.up ≡ vec_len g.up
    → GrownOver arcs h × IsCurrent h y × KeepsSeen g h × (0 < at h.place.items y)
start_flood arcs g h y grown closed below before fresh opens e =
    let T = tail_of arcs in let H = head_of arcs in
    let root : OpensRoot (vec_len g.up) (length arcs) OPEN_END T H (fns_of g) (fns_of h) y = record {
      g = grown;
      all_closed = closed;
      fresh = fresh;
      below = below;
      before = before;
      room = room g;
      step = opens;
    } in
    let here = opens.here in (
      grown_from arcs (vec_len g.up) (vec_len h.up) (fns_of h) e
          (rooted (vec_len g.up) (length arcs) OPEN_END T H (fns_of g) (fns_of h) y root),
      rooted_at (vec_len g.up) (length arcs) OPEN_END T H (fns_of g) (fns_of h) y root,
      keeps_opening g h y y 0 y opens,
      omega arith,
    )

pub closes_at : (arcs : List Arc) (g h : Growth) (u : ℕ) → GrownOver arcs g → IsCurrent g u → at g.left.items u ≡ 0
    → Closes (fns_of g) (fns_of h) u
    → ClosesCurrent (vec_len g.up) (length arcs) OPEN_END (tail_of arcs) (head_of arcs) (fns_of g) (fns_of h) u
closes_at arcs g h u grown current done closes =
    record { g = grown; current = current; done = done; room = let w = room g in omega arith; step = closes }

pub close_grown : (arcs : List Arc) (g h : Growth) (u : ℕ) → GrownOver arcs g → IsCurrent g u
    → at g.left.items u ≡ 0 → Closes (fns_of g) (fns_of h) u → vec_len h.up ≡ vec_len g.up → GrownOver arcs h
close_grown arcs g h u grown current done closes e =
    grown_from arcs (vec_len g.up) (vec_len h.up) (fns_of h) e
    (closed_grown (vec_len g.up) (length arcs) OPEN_END (tail_of arcs) (head_of arcs) (fns_of g) (fns_of h) u
    (closes_at arcs g h u grown current done closes))

pub close_root : (arcs : List Arc) (g h : Growth) (u : ℕ) → GrownOver arcs g → IsCurrent g u
    → at g.left.items u ≡ 0 → Closes (fns_of g) (fns_of h) u → at h.by.items u ≡ 0 → AllClosed h
close_root arcs g h u grown current done closes root = let e = closes.same u in
    all_closed (vec_len g.up) (length arcs) OPEN_END (tail_of arcs) (head_of arcs) (fns_of g) (fns_of h) u
    (closes_at arcs g h u grown current done closes) (omega arith)

pub close_up : (arcs : List Arc) (g h : Growth) (u p : ℕ) → GrownOver arcs g → IsCurrent g u
    → at g.left.items u ≡ 0 → Closes (fns_of g) (fns_of h) u → 0 < at h.by.items u → p ≡ at h.up.items u
    → IsCurrent h p
close_up arcs g h u p grown current done closes b q = let e = closes.same u in
    let P : ℕ → Type 0 = λ x. IsCurrent h x in
    subst P (sym (q ∙ e.0)) (closed_at (vec_len g.up) (length arcs) OPEN_END (tail_of arcs) (head_of arcs)
    (fns_of g) (fns_of h) u (closes_at arcs g h u grown current done closes) (omega arith))

pub keeps_closing : (g h : Growth) (u : ℕ) → Closes (fns_of g) (fns_of h) u → KeepsSeen g h
keeps_closing g h u closes = λ x sx. let e = closes.same x in omega arith

weight : ℕ → ℕ
weight x = cond (x == OPEN_END) 1 0

one_at : (x : ℕ) → x ≡ OPEN_END → weight x ≡ 1
unfolding weight
one_at x e = grind arith

none_at : (x : ℕ) → x < OPEN_END → weight x ≡ 0
unfolding weight
none_at x e = grind arith

pub less_work : (arcs : List Arc) (g h : Growth) (u : ℕ) → GrownOver arcs g → IsCurrent g u
    → h.last.items ≡ set g.last.items u (vec_len g.order) → h.left.items ≡ g.left.items → work_left h < work_left g
unfolding weight
less_work arcs g h u grown current lasts lefts =
    let f : ℕ → ℕ = weight in
    let r : vec_len g.order < OPEN_END = let w = room g in omega arith in
    let o = current_open (vec_len g.up) (length arcs) OPEN_END (tail_of arcs) (head_of arcs) (fns_of g) u grown current r in
    let b = grown.seen_below u current.seen in
    let s = g.sized in let l = g.last.ok.0 in
    let w = sum_by-set f g.last.items u (vec_len g.order) 0 (omega arith) in
    let a1 = one_at (at g.last.items u) o in
    let a2 = none_at (vec_len g.order) r in
    let q = ap sum lefts in
    let p = ap (λ xs. count_by (λ x. x == OPEN_END) xs) lasts in
    omega arith

-- no event is seen yet, and each has all its arcs left
pub nothing_grown : (n m : ℕ) (T H A B F : ℕ → ℕ) (s : Fns) → Chained m T H F A B → ((x : ℕ) → s.place x ≡ 0)
    → ((x : ℕ) → s.by x ≡ 0) → s.count ≡ 0 → ((x : ℕ) → x < n → s.last x ≡ OPEN_END)
    → ((x : ℕ) → n ≤ x → (s.last x ≡ 0) × (F x ≡ 0)) → ((x : ℕ) → s.left x ≡ F x) → Grown n m OPEN_END T H s
nothing_grown n m T H A B F s c place by count last past left = record {
  seen_below = λ x h. absurd (let p = place x in omega arith);
  places = λ x. let p = place x in omega arith;
  order_at = λ i h. absurd (omega arith);
  place_at = λ x h. absurd (let p = place x in omega arith);
  by_row = λ x. let b = by x in omega arith;
  by_ends = λ x h. absurd (let b = by x in omega arith);
  by_seen = λ x h. absurd (let b = by x in omega arith);
  climbs = λ x h. absurd (let b = by x in omega arith);
  same_root = λ x h. absurd (let b = by x in omega arith);
  own_root = λ x h b. absurd (let p = place x in omega arith);
  root_first = λ x h. absurd (let p = place x in omega arith);
  before_root = λ x y h lt. absurd (let p = place x in omega arith);
  inner_up = λ x y h b ne i. absurd (let p = place x in omega arith);
  inner_down = λ x y h b ne i. absurd (let p = place x in omega arith);
  inner_root = λ x y h k b i. absurd (let p = place x in omega arith);
  lasts = λ x. elim (cases_lt x n) [ inl b ↦ let l = last x b in omega arith | inr b ↦ let l = past x b in omega arith ];
  unseen = λ x b h. last x b;
  closed = λ x h. elim (cases_lt x n) [
    | inl b ↦ absurd (let l = last x b in omega arith)
    | inr b ↦
        let l = past x b in let p = place x in let q = left x in (omega arith, omega arith, omega arith)
  ];
  left_row = λ x. let l = left x in let f = c.first_row x in omega arith;
  left_end = λ x h. let l = left x in elim (c.first_end x (omega arith)) [ inl w ↦ inl (ap T l ∙ w) | inr w ↦ inr (ap H l ∙ w) ];
  tail_met = λ k a b h. absurd (let l = left (T k) in let f = c.tail_reached k a b in omega arith);
  head_met = λ k a b h. absurd (let l = left (H k) in let f = c.head_reached k a b in omega arith);
}

pub at_zeros : (n x : ℕ) (xs : List ℕ) → xs ≡ replicate n 0 → at xs x ≡ 0
at_zeros n x xs e = ap (λ l. at l x) e ∙ all_zero n x

pub at_same : (n x : ℕ) (xs : List ℕ) → xs ≡ replicate n OPEN_END → x < n → at xs x ≡ OPEN_END
at_same n x xs e b = ap (λ l. at l x) e ∙ get_or-replicate n x OPEN_END 0 b

pub past_end : (n x : ℕ) (xs : List ℕ) → length xs ≡ n → n ≤ x → at xs x ≡ 0
past_end n x xs e b = get_or_past xs x 0 (omega arith)

-- the forest as it is made
pub starts : (arcs : List Arc) (g : Growth) (c : Chains) (n : ℕ) → AreChains arcs n c → vec_len g.up ≡ n
    → g.by.items ≡ replicate n 0 → g.place.items ≡ replicate n 0 → g.last.items ≡ replicate n OPEN_END
    → g.left.items ≡ c.first.items → g.order.items ≡ []
    → GrownOver arcs g
starts arcs g c n chains events by place last left order =
    let k = g.order.ok.0 in let q = ap length order in let s = g.sized in let a = g.last.ok.0 in
    let b = c.first.ok.0 in let d = chains.firsts in
    nothing_grown (vec_len g.up) (length arcs) (tail_of arcs) (head_of arcs) (at c.at_tail.items)
    (at c.at_head.items) (at c.first.items) (fns_of g) chains.chained
    (λ x. at_zeros n x g.place.items place) (λ x. at_zeros n x g.by.items by) (omega arith)
    (λ x h. at_same n x g.last.items last (omega arith))
    (λ x h. (past_end n x g.last.items (omega arith) (omega arith), past_end n x c.first.items (omega arith) (omega arith)))
    (λ x. ap (λ l. at l x) left)

pub none_seen : (g : Growth) (n : ℕ) → g.place.items ≡ replicate n 0 → AllClosed g
none_seen g n e = λ x h. absurd (let p = at_zeros n x g.place.items e in omega arith)
