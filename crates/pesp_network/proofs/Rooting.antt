-- The forest stays one as an event is opened as a root, while none is open.
use Rattle.std.proofs.Common.{◌≡◌, ◌≢◌, ℕ, ◌<◌, inl, inr, sym, ◌∙◌, ap, arith}
use Rattle.std.proofs.lemmas.Bool.{cases_eq}
use Rattle.pesp_network.specs.Growing.{Fns, Inside, Grown, OpenAt, OpensRoot}
use Rattle.pesp_network.proofs.Opening.{ends_moved, left_moved, other, met_kept, seen_kept, order_goes_on, places_go_on}

-- an event that is joined to another isn't the new one, and both were seen before
old : (n m M : ℕ) (T H : ℕ → ℕ) (s t : Fns) (y x : ℕ) → OpensRoot n m M T H s t y → 0 < t.by x
    → (x ≢ y) × (0 < s.by x) × (0 < s.place (s.up x)) × (t.place (t.up x) ≡ s.place (s.up x))
    × (t.place x ≡ s.place x) × (t.root (t.up x) ≡ s.root (s.up x)) × (t.root x ≡ s.root x)
old n m M T H s t y x o bx =
    let here = o.step.here in
    let nx : x ≢ y = λ e. let q = ap t.by e in omega arith in
    let e = o.step.else x nx in
    let b : 0 < s.by x = omega arith in
    let seen = o.g.by_seen x b in
    let eu = o.step.else (s.up x) (other s (s.up x) y o.fresh seen) in
    let q1 = ap t.place e.0 in let q2 = ap t.root e.0 in
    (nx, b, seen, omega arith, omega arith, omega arith, omega arith)

-- no closed event reaches as far as the new one
reaches : (n m M : ℕ) (T H : ℕ → ℕ) (s t : Fns) (y x : ℕ) → OpensRoot n m M T H s t y → x ≢ y → 0 < t.place x → Inside t x y → ⊥
reaches n m M T H s t y x o nx sx i =
    let e = o.step.else x nx in let l = o.step.lasts x in let here = o.step.here in
    let c = o.g.closed x (o.all_closed x (omega arith)) in omega arith

pub rooted : (n m M : ℕ) (T H : ℕ → ℕ) (s t : Fns) (y : ℕ) → OpensRoot n m M T H s t y → Grown n m M T H t
rooted n m M T H s t y o =
    let here = o.step.here in
    let count = o.step.count in
    let fresh = o.fresh in record {
      seen_below = λ x sx. elim (cases_eq x y) [
        | inl e ↦ let b = o.below in omega arith
        | inr nx ↦ let e = o.step.else x nx in
            o.g.seen_below x (omega arith)
      ];
      places = λ x. elim (cases_eq x y) [
        | inl e ↦ let q = ap t.place e in
            omega arith
        | inr nx ↦ let e = o.step.else x nx in let q = o.g.places x in omega arith
      ];
      order_at = order_goes_on n m M T H s t y y 0 y o.g o.fresh o.step;
      place_at = places_go_on n m M T H s t y y 0 y o.g o.step;
      by_row = λ x. elim (cases_eq x y) [
        | inl e ↦ let q = ap t.by e in
            omega arith
        | inr nx ↦ let e = o.step.else x nx in let q = o.g.by_row x in omega arith
      ];
      by_ends = λ x bx. let w = old n m M T H s t y x o bx in let e = o.step.else x w.0 in
          ends_moved T H (s.by x) x (s.up x) (t.by x) (t.up x) e.1 e.0 (o.g.by_ends x w.1);
      by_seen = λ x bx. let w = old n m M T H s t y x o bx in omega arith;
      climbs = λ x bx. let w = old n m M T H s t y x o bx in let q = o.g.climbs x w.1 in omega arith;
      same_root = λ x bx. let w = old n m M T H s t y x o bx in let q = o.g.same_root x w.1 in omega arith;
      own_root = λ x sx bx. elim (cases_eq x y) [
        | inl e ↦ let q = ap t.root e in omega arith
        | inr nx ↦ let e = o.step.else x nx in
            let q = o.g.own_root x (omega arith) (omega arith) in omega arith
      ];
      root_first = λ x sx. elim (cases_eq x y) [
        | inl e ↦ let q = ap t.root e in omega arith
        | inr nx ↦ let e = o.step.else x nx in
            let q = o.g.root_first x (omega arith) in omega arith
      ];
      before_root = λ x z sx lt. elim (cases_eq x y) [
        | inl e ↦ let q = ap t.root e in let b = o.before z (omega arith) in let w = o.step.else z (other s z y o.fresh b) in omega arith
        | inr nx ↦ let e = o.step.else x nx in let b = o.g.before_root x z (omega arith) (omega arith) in
            let w = o.step.else z (other s z y o.fresh b) in omega arith
      ];
      inner_up = λ x z sx bz ne i. let w = old n m M T H s t y z o bz in let l = o.step.lasts x in
          let most = o.g.places z in elim (cases_eq x y) [
            | inl e ↦ absurd (let q = ap t.place e in omega arith)
            | inr nx ↦ let e = o.step.else x nx in
                let j = o.g.inner_up x z (omega arith) w.1 ne (omega arith, omega arith) in (omega arith, omega arith)
          ];
      inner_down = λ x z sx bz ne i. let w = old n m M T H s t y z o bz in let l = o.step.lasts x in
          let most = o.g.places (s.up z) in elim (cases_eq x y) [
            | inl e ↦ absurd (let q = ap t.place e in omega arith)
            | inr nx ↦ let e = o.step.else x nx in
                let j = o.g.inner_down x z (omega arith) w.1 ne (omega arith, omega arith) in (omega arith, omega arith)
          ];
      inner_root = λ x z sx sz bz i. let l = o.step.lasts x in let most = o.g.places z in elim (cases_eq z y) [
        | inl ez ↦ elim (cases_eq x y) [
          | inl ex ↦ ex
              ∙ sym ez
          | inr nx ↦ absurd (let q = ap t.place ez in
              reaches n m M T H s t y x o nx sx (omega arith, omega arith))
        ]
        | inr nz ↦ let e = o.step.else z nz in elim (cases_eq x y) [
          | inl ex ↦ absurd (let q = ap t.place ex in omega arith)
          | inr nx ↦ let f = o.step.else x nx in o.g.inner_root x z (omega arith) (omega arith) (omega arith) (omega arith, omega arith)
        ]
      ];
      lasts = λ x. let e = o.step.lasts x in let l = o.g.lasts x in omega arith;
      unseen = λ x b h. elim (cases_eq x y) [
        | inl e ↦ let l = o.step.lasts x in let q = ap s.last e in
            let u = o.g.unseen y o.below o.fresh in omega arith
        | inr nx ↦ let e = o.step.else x nx in
            let l = o.step.lasts x in let u = o.g.unseen x b (omega arith) in omega arith
      ];
      closed = λ x h. elim (cases_eq x y) [
        | inl e ↦ absurd (let l = o.step.lasts x in let q = ap s.last e in let u = o.g.unseen y o.below o.fresh in omega arith)
        | inr nx ↦ let e = o.step.else x nx in let l = o.step.lasts x in let f = o.step.lefts x in
            let u = o.g.closed x (omega arith) in (omega arith, omega arith, omega arith)
      ];
      left_row = λ x. let e = o.step.lefts x in let l = o.g.left_row x in omega arith;
      left_end = λ x h. let e = o.step.lefts x in left_moved T H (s.left x) x (t.left x) e (o.g.left_end x (omega arith));
      tail_met = λ j a b h. met_kept T H s t j (seen_kept s t y y 0 y o.fresh o.step)
          (o.g.tail_met j a b (let e = o.step.lefts (T j) in omega arith));
      head_met = λ j a b h. met_kept T H s t j (seen_kept s t y y 0 y o.fresh o.step)
          (o.g.head_met j a b (let e = o.step.lefts (H j) in omega arith));
    }

pub rooted_at : (n m M : ℕ) (T H : ℕ → ℕ) (s t : Fns) (y : ℕ) → OpensRoot n m M T H s t y → OpenAt M t y
rooted_at n m M T H s t y o =
    let here = o.step.here in
    let count = o.step.count in
    let fresh = o.fresh in
    let room = o.room in
    let fine = o.g.unseen y o.below o.fresh in
    let ly = o.step.lasts y in record {
      seen = omega arith;
      open_inside = λ x sx l. let lx = o.step.lasts x in
          elim (cases_eq x y) [
            | inl e ↦ let q = ap t.place e in
                (omega arith, omega arith)
            | inr nx ↦ absurd
                (let e = o.step.else x nx in let c = o.all_closed x (omega arith) in omega arith)
          ];
      inside_open = λ x sx i. let lx = o.step.lasts x in
          elim (cases_eq x y) [
            | inl e ↦ let q = ap s.last e in
                omega arith
            | inr nx ↦ absurd (reaches n m M T H s t y x o nx sx i)
          ];
      one_root = λ x sx l. let lx = o.step.lasts x in
          elim (cases_eq x y) [
            | inl e ↦ ap t.root e
            | inr nx ↦
                absurd (let e = o.step.else x nx in let c = o.all_closed x (omega arith) in omega arith)
          ];
    }
