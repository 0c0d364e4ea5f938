-- The forest stays one as the current event is closed, or a row at an event is looked at.
use Rattle.std.proofs.Common.{◌≡◌, ℕ, ◌-◌, ◌<◌, ◌≤◌, inl, inr, sym, ◌∙◌, ap, arith, subst}
use Rattle.std.proofs.lemmas.Bool.{cases_eq, cases_lt}
use Rattle.pesp_network.specs.Growing.{Fns, Inside, IsMet, Grown, OpenAt, ClosesCurrent, Looks, LooksAt}
use Rattle.pesp_network.proofs.Opening.{ends_moved, left_moved, met_kept}

pub inside_self : (n m M : ℕ) (T H : ℕ → ℕ) (s : Fns) (x : ℕ) → Grown n m M T H s → s.count < M → Inside s x x
inside_self n m M T H s x g room =
    let most = g.places x in
    elim (cases_lt (s.last x) M) [ inl h ↦ let c = g.closed x h in (omega arith, omega arith) | inr h ↦ (omega arith, omega arith) ]

pub current_open : (n m M : ℕ) (T H : ℕ → ℕ) (s : Fns) (u : ℕ) → Grown n m M T H s → OpenAt M s u → s.count < M → s.last u ≡ M
current_open n m M T H s u g c room = c.inside_open u c.seen (inside_self n m M T H s u g room)

-- what is inside of what stays, while the event that is closed was open
inside_kept : (n m M : ℕ) (T H : ℕ → ℕ) (s t : Fns) (u x y : ℕ) → ClosesCurrent n m M T H s t u → Inside t x y → Inside s x y
inside_kept n m M T H s t u x y o i =
    let a = o.step.same x in let b = o.step.same y in let most = o.g.places y in
    elim (cases_eq x u) [
      | inl e ↦ let q = ap s.last e in let w = current_open n m M T H s u o.g o.current o.room in let r = o.room in
          (omega arith, omega arith)
      | inr ne ↦ let l = o.step.else x ne in (omega arith, omega arith)
    ]

inside_back : (n m M : ℕ) (T H : ℕ → ℕ) (s t : Fns) (u x y : ℕ) → ClosesCurrent n m M T H s t u → Inside s x y → Inside t x y
inside_back n m M T H s t u x y o i =
    let a = o.step.same x in let b = o.step.same y in let most = o.g.places y in
    elim (cases_eq x u) [
      | inl e ↦ let q = ap t.last e in let h = o.step.here in (omega arith, omega arith)
      | inr ne ↦ let l = o.step.else x ne in (omega arith, omega arith)
    ]

to_up : (n m M : ℕ) (T H : ℕ → ℕ) (s t : Fns) (u x y : ℕ) → ClosesCurrent n m M T H s t u → Inside s x (s.up y) → Inside t x (t.up y)
to_up n m M T H s t u x y o i = let e = o.step.same y in let w = inside_back n m M T H s t u x (s.up y) o i in
    let q = ap t.place e.0 in (omega arith, omega arith)

from_up : (n m M : ℕ) (T H : ℕ → ℕ) (s t : Fns) (u x y : ℕ) → ClosesCurrent n m M T H s t u → Inside t x (t.up y) → Inside s x (s.up y)
from_up n m M T H s t u x y o i = let e = o.step.same y in let q = ap t.place e.0 in
    let j : Inside t x (s.up y) = (omega arith, omega arith) in inside_kept n m M T H s t u x (s.up y) o j

pub closed_grown : (n m M : ℕ) (T H : ℕ → ℕ) (s t : Fns) (u : ℕ) → ClosesCurrent n m M T H s t u → Grown n m M T H t
closed_grown n m M T H s t u o =
    let here = o.step.here in
    let count = o.step.count in
    let room = o.room in record {
      seen_below = λ x h. let e = o.step.same x in o.g.seen_below x (omega arith);
      places = λ x. let e = o.step.same x in let q = o.g.places x in omega arith;
      order_at = λ i h. let e = o.step.order i in let q = o.g.order_at i (omega arith) in let w = ap t.place e in
          let v = o.step.same (s.order i) in omega arith;
      place_at = λ x h. let e = o.step.same x in let q = o.g.place_at x (omega arith) in
          let c : t.place x - 1 ≡ s.place x - 1 = omega arith in ap t.order c ∙ o.step.order (s.place x - 1) ∙ q;
      by_row = λ x. let e = o.step.same x in let q = o.g.by_row x in omega arith;
      by_ends = λ x h. let e = o.step.same x in ends_moved T H (s.by x) x (s.up x) (t.by x) (t.up x) e.1 e.0 (o.g.by_ends x (omega arith));
      by_seen = λ x h. let e = o.step.same x in let q = o.g.by_seen x (omega arith) in let w = ap t.place e.0 in
          let v = o.step.same (s.up x) in omega arith;
      climbs = λ x h. let e = o.step.same x in let q = o.g.climbs x (omega arith) in let w = ap t.place e.0 in
          let v = o.step.same (s.up x) in omega arith;
      same_root = λ x h. let e = o.step.same x in let q = o.g.same_root x (omega arith) in let w = ap t.root e.0 in
          let v = o.step.same (s.up x) in omega arith;
      own_root = λ x h b. let e = o.step.same x in let q = o.g.own_root x (omega arith) (omega arith) in omega arith;
      root_first = λ x h. let e = o.step.same x in let q = o.g.root_first x (omega arith) in omega arith;
      before_root = λ x y h lt. let e = o.step.same x in let f = o.step.same y in
          let q = o.g.before_root x y (omega arith) (omega arith) in omega arith;
      inner_up = λ x y h b ne i. let e = o.step.same x in let f = o.step.same y in
          to_up n m M T H s t u x y o (o.g.inner_up x y (omega arith) (omega arith) ne
          (inside_kept n m M T H s t u x y o i));
      inner_down = λ x y h b ne i. let e = o.step.same x in let f = o.step.same y in
          inside_back n m M T H s t u x y o (o.g.inner_down x y (omega arith) (omega arith) ne
          (from_up n m M T H s t u x y o i));
      inner_root = λ x y h k b i. let e = o.step.same x in let f = o.step.same y in
          o.g.inner_root x y (omega arith) (omega arith) (omega arith) (inside_kept n m M T H s t u x y o i);
      lasts = λ x. elim (cases_eq x u) [
        | inl e ↦ let q = ap t.last e in
            omega arith
        | inr ne ↦ let l = o.step.else x ne in let q = o.g.lasts x in omega arith
      ];
      unseen = λ x b h. let e = o.step.same x in
          elim (cases_eq x u) [
            | inl w ↦ absurd (let q = ap s.place w in let z = o.current.seen in
                omega arith)
            | inr ne ↦ let l = o.step.else x ne in let q = o.g.unseen x b (omega arith) in omega arith
          ];
      closed = λ x h. let e = o.step.same x in elim (cases_eq x u) [
        | inl w ↦ let q = ap t.last w in let z = ap s.left w in let d = o.done in let most = o.g.places x in
            (omega arith, omega arith, omega arith)
        | inr ne ↦ let l = o.step.else x ne in let q = o.g.closed x (omega arith) in (omega arith, omega arith, omega arith)
      ];
      left_row = λ x. let e = o.step.same x in let q = o.g.left_row x in omega arith;
      left_end = λ x h. let e = o.step.same x in left_moved T H (s.left x) x (t.left x) e.4 (o.g.left_end x (omega arith));
      tail_met = λ j a b h. let e = o.step.same (T j) in
          met_kept T H s t j (λ x seen. let f = o.step.same x in (f.2, f.3)) (o.g.tail_met j a b (omega arith));
      head_met = λ j a b h. let e = o.step.same (H j) in
          met_kept T H s t j (λ x seen. let f = o.step.same x in (f.2, f.3)) (o.g.head_met j a b (omega arith));
    }

-- below a root nothing stays open
pub all_closed : (n m M : ℕ) (T H : ℕ → ℕ) (s t : Fns) (u : ℕ) → ClosesCurrent n m M T H s t u → s.by u ≡ 0
    → (x : ℕ) → 0 < t.place x → t.last x < M
all_closed n m M T H s t u o root x seen =
    let e = o.step.same x in let room = o.room in let here = o.step.here in
    elim (cases_eq x u) [
      | inl w ↦ let q = ap t.last w in omega arith
      | inr ne ↦ let l = o.step.else x ne in
          elim (cases_lt (s.last x) M) [
            | inl h ↦ omega arith
            | inr h ↦ absurd (let m = o.g.lasts x in let i = o.current.open_inside x (omega arith) (omega arith) in
                ne (o.g.inner_root x u (omega arith) o.current.seen root i))
          ]
    ]

-- the event above is the current one
pub closed_at : (n m M : ℕ) (T H : ℕ → ℕ) (s t : Fns) (u : ℕ) → ClosesCurrent n m M T H s t u → 0 < s.by u → OpenAt M t (s.up u)
closed_at n m M T H s t u o b =
    let here = o.step.here in let room = o.room in
    let p = s.up u in
    let ep = o.step.same p in
    let seen = o.g.by_seen u b in
    let climbs = o.g.climbs u b in
    let mine = current_open n m M T H s u o.g o.current o.room in record {
      seen = omega arith;
      open_inside = λ x sx l. let e = o.step.same x in elim (cases_eq x u) [
        | inl w ↦ absurd (let q = ap t.last w in omega arith)
        | inr ne ↦ let k = o.step.else x ne in
            inside_back n m M T H s t u x p o (o.g.inner_up x u (omega arith) b ne
            (o.current.open_inside x (omega arith) (omega arith)))
      ];
      inside_open = λ x sx i. let e = o.step.same x in elim (cases_eq x u) [
        | inl w ↦ absurd (let q = ap t.place w in let v = o.step.same u in omega arith)
        | inr ne ↦ let k = o.step.else x ne in
            let j = o.current.inside_open x (omega arith)
            (o.g.inner_down x u (omega arith) b ne (inside_kept n m M T H s t u x p o i)) in omega arith
      ];
      one_root = λ x sx l. let e = o.step.same x in elim (cases_eq x u) [
        | inl w ↦ absurd (let q = ap t.last w in omega arith)
        | inr ne ↦ let k = o.step.else x ne in let j = o.current.one_root x (omega arith) (omega arith) in
            let r = o.g.same_root u b in omega arith
      ];
    }

-- a row at the current event is looked at
pub looked : (n m M : ℕ) (T H : ℕ → ℕ) (s t : Fns) (u next : ℕ) → LooksAt n m M T H s t u next → Grown n m M T H t
looked n m M T H s t u next o =
    let here = o.step.here in
    let count = o.step.count in
    let kept : (x y : ℕ) → Inside t x y → Inside s x y = λ x y i. let e = o.step.same x in let f = o.step.same y in
    (omega arith, omega arith) in
    let back : (x y : ℕ) → Inside s x y → Inside t x y = λ x y i. let e = o.step.same x in let f = o.step.same y in
    (omega arith, omega arith) in
    let met : (j : ℕ) → IsMet T H s j → IsMet T H t j = λ j i. met_kept T H s t j (λ x seen. let f = o.step.same x in (f.2, f.3)) i in
    record {
      seen_below = λ x h. let e = o.step.same x in o.g.seen_below x (omega arith);
      places = λ x. let e = o.step.same x in let q = o.g.places x in omega arith;
      order_at = λ i h. let e = o.step.order i in let q = o.g.order_at i (omega arith) in let w = ap t.place e in
          let v = o.step.same (s.order i) in omega arith;
      place_at = λ x h. let e = o.step.same x in let q = o.g.place_at x (omega arith) in
          let c : t.place x - 1 ≡ s.place x - 1 = omega arith in ap t.order c ∙ o.step.order (s.place x - 1) ∙ q;
      by_row = λ x. let e = o.step.same x in let q = o.g.by_row x in omega arith;
      by_ends = λ x h. let e = o.step.same x in ends_moved T H (s.by x) x (s.up x) (t.by x) (t.up x) e.1 e.0 (o.g.by_ends x (omega arith));
      by_seen = λ x h. let e = o.step.same x in let q = o.g.by_seen x (omega arith) in let w = ap t.place e.0 in
          let v = o.step.same (s.up x) in omega arith;
      climbs = λ x h. let e = o.step.same x in let q = o.g.climbs x (omega arith) in let w = ap t.place e.0 in
          let v = o.step.same (s.up x) in omega arith;
      same_root = λ x h. let e = o.step.same x in let q = o.g.same_root x (omega arith) in let w = ap t.root e.0 in
          let v = o.step.same (s.up x) in omega arith;
      own_root = λ x h b. let e = o.step.same x in let q = o.g.own_root x (omega arith) (omega arith) in omega arith;
      root_first = λ x h. let e = o.step.same x in let q = o.g.root_first x (omega arith) in omega arith;
      before_root = λ x y h lt. let e = o.step.same x in let f = o.step.same y in
          let q = o.g.before_root x y (omega arith) (omega arith) in omega arith;
      inner_up = λ x y h b ne i. let e = o.step.same x in let f = o.step.same y in
          let j = back x (s.up y) (o.g.inner_up x y (omega arith) (omega arith) ne (kept x y i)) in
          let q = ap t.place f.0 in (omega arith, omega arith);
      inner_down = λ x y h b ne i. let e = o.step.same x in let f = o.step.same y in let q = ap t.place f.0 in
          back x y (o.g.inner_down x y (omega arith) (omega arith) ne (kept x (s.up y) (omega arith, omega arith)));
      inner_root = λ x y h k b i. let e = o.step.same x in let f = o.step.same y in
          o.g.inner_root x y (omega arith) (omega arith) (omega arith) (kept x y i);
      lasts = λ x. let e = o.step.same x in let q = o.g.lasts x in omega arith;
      unseen = λ x b h. let e = o.step.same x in let q = o.g.unseen x b (omega arith) in omega arith;
      closed = λ x h. let e = o.step.same x in elim (cases_eq x u) [
        | inl w ↦ absurd (let q = ap s.last w in let z = o.is_open in omega arith)
        | inr ne ↦ let l = o.step.else x ne in let q = o.g.closed x (omega arith) in (omega arith, omega arith, omega arith)
      ];
      left_row = λ x. elim (cases_eq x u) [
        | inl w ↦ let q = ap t.left w in let l = o.follows.less in
            let r = o.g.left_row u in omega arith
        | inr ne ↦ let l = o.step.else x ne in let r = o.g.left_row x in
            omega arith
      ];
      left_end = λ x h. elim (cases_eq x u) [
        | inl w ↦ let q = ap t.left w in elim (o.follows.end (omega arith))
            [ inl a ↦ inl (ap T (q ∙ here) ∙ a ∙ sym w) | inr a ↦ inr (ap H (q ∙ here) ∙ a ∙ sym w) ]
        | inr ne ↦ let l = o.step.else x ne in left_moved T H (s.left x) x (t.left x) l (o.g.left_end x (omega arith))
      ];
      tail_met = λ j a b h. elim (cases_eq (T j) u) [
        | inl w ↦ let q = ap t.left w in let r = ap s.left w in elim (cases_eq j (s.left u)) [
          | inl e ↦ let R : ℕ → Type 0 = λ i. IsMet T H t i in subst R (sym e) (met (s.left u) o.met)
          | inr ne ↦ elim (cases_lt j (s.left u)) [
            | inl lt ↦ absurd (o.follows.none_between j (omega arith) lt (inl w))
            | inr ge ↦
                met j (o.g.tail_met j a b (omega arith))
          ]
        ]
        | inr ne ↦ let l = o.step.else (T j) ne in met j (o.g.tail_met j a b (omega arith))
      ];
      head_met = λ j a b h. elim (cases_eq (H j) u) [
        | inl w ↦ let q = ap t.left w in let r = ap s.left w in elim (cases_eq j (s.left u)) [
          | inl e ↦ let R : ℕ → Type 0 = λ i. IsMet T H t i in subst R (sym e) (met (s.left u) o.met)
          | inr ne ↦ elim (cases_lt j (s.left u)) [
            | inl lt ↦ absurd (o.follows.none_between j (omega arith) lt (inr w))
            | inr ge ↦
                met j (o.g.head_met j a b (omega arith))
          ]
        ]
        | inr ne ↦ let l = o.step.else (H j) ne in met j (o.g.head_met j a b (omega arith))
      ];
    }

-- the current event stays the current one
pub looked_at : (n m M : ℕ) (T H : ℕ → ℕ) (s t : Fns) (u next v : ℕ) → Looks s t u next → OpenAt M s v → OpenAt M t v
looked_at n m M T H s t u next v o c =
    let ev = o.same v in record {
      seen = let a = c.seen in omega arith;
      open_inside = λ x sx l. let e = o.same x in let i = c.open_inside x (omega arith) (omega arith) in (omega arith, omega arith);
      inside_open = λ x sx i. let e = o.same x in let j = c.inside_open x (omega arith) (omega arith, omega arith) in omega arith;
      one_root = λ x sx l. let e = o.same x in let i = c.one_root x (omega arith) (omega arith) in omega arith;
    }

-- the rows that are left at the current event are met if the event at their other end is seen
pub meets_tail : (n m M : ℕ) (T H : ℕ → ℕ) (s : Fns) (u k : ℕ) → Grown n m M T H s → OpenAt M s u → s.count < M
    → 0 < k → k ≤ m → s.left u ≡ k → T k ≡ u → 0 < s.place (H k) → IsMet T H s k
meets_tail n m M T H s u k g c room a b l e seen =
    let here = c.seen in let mine = current_open n m M T H s u g c room in
    elim (cases_lt (s.last (H k)) M) [
      | inl h ↦ g.head_met k a b (let q = g.closed (H k) h in omega arith)
      | inr h ↦ let q = g.lasts (H k) in let r = c.one_root (H k) seen (omega arith) in let p = ap s.place e in let w = ap s.root e in
          record { tail_seen = omega arith; head_seen = seen; same = omega arith }
    ]

pub meets_head : (n m M : ℕ) (T H : ℕ → ℕ) (s : Fns) (u k : ℕ) → Grown n m M T H s → OpenAt M s u → s.count < M
    → 0 < k → k ≤ m → s.left u ≡ k → H k ≡ u → 0 < s.place (T k) → IsMet T H s k
meets_head n m M T H s u k g c room a b l e seen =
    let here = c.seen in let mine = current_open n m M T H s u g c room in
    elim (cases_lt (s.last (T k)) M) [
      | inl h ↦ g.tail_met k a b (let q = g.closed (T k) h in omega arith)
      | inr h ↦ let q = g.lasts (T k) in let r = c.one_root (T k) seen (omega arith) in let p = ap s.place e in let w = ap s.root e in
          record { tail_seen = seen; head_seen = omega arith; same = omega arith }
    ]
