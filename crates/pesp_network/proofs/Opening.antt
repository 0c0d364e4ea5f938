-- The forest stays one as an event is opened below the current one.
use Rattle.std.proofs.Common.{◌≡◌, ◌≢◌, ℕ, ◌+◌, ◌-◌, ◌<◌, ◌⊎◌, inl, inr, sym, ◌∙◌, ap, arith}
use Rattle.std.proofs.lemmas.Bool.{cases_eq, cases_lt}
use Rattle.pesp_network.specs.Growing.{Fns, Inside, IsMet, Grown, OpenAt, Opens, OpensChild}

-- an event whose end lies beyond all that is seen is open
pub still_open : (n m M : ℕ) (T H : ℕ → ℕ) (s : Fns) (x : ℕ) → Grown n m M T H s → s.count < s.last x → s.last x ≡ M
still_open n m M T H s x g above = elim (cases_lt (s.last x) M)
    [ inl h ↦ absurd (let c = g.closed x h in omega arith) | inr h ↦ let l = g.lasts x in omega arith ]

-- what was seen is another event
pub other : (s : Fns) (x y : ℕ) → s.place y ≡ 0 → 0 < s.place x → x ≢ y
other s x y fresh seen e = let q = ap s.place e in omega arith

pub inner_up : (n m M : ℕ) (T H : ℕ → ℕ) (s t : Fns) (y p k : ℕ) → OpensChild n m M T H s t y p k
    → (x z : ℕ) → 0 < t.place x → 0 < t.by z → x ≢ z → Inside t x z → Inside t x (t.up z)
inner_up n m M T H s t y p k o x z sx bz ne i =
    let fresh = o.fresh in
    let np = other s p y o.fresh o.current.seen in
    let ep = o.step.else p np in
    let lx = o.step.lasts x in
    elim (cases_eq z y) [
      | inl ez ↦
          let nx : x ≢ y = λ e. ne (e ∙ sym ez) in
          let ex = o.step.else x nx in
          let here = o.step.here in
          let pz = ap t.place ez in
          let pu = ap t.place (ap t.up ez ∙ o.step.here.0) in
          let wide : s.count < s.last x = omega arith in
          let seen : 0 < s.place x = omega arith in
          let inside = o.current.open_inside x seen (still_open n m M T H s x o.g wide) in
          (omega arith, omega arith)
      | inr nz ↦
          let ez = o.step.else z nz in
          let bz_old : 0 < s.by z = omega arith in
          let useen = o.g.by_seen z bz_old in
          let nu = other s (s.up z) y o.fresh useen in
          let eu = o.step.else (s.up z) nu in
          let pu = ap t.place ez.0 in
          elim (cases_eq x y) [
            | inl ex ↦ absurd (let px = ap t.place ex in let here = o.step.here in let most = o.g.places z in omega arith)
            | inr nx ↦
                let ex = o.step.else x nx in
                let seen : 0 < s.place x = omega arith in
                let inside = o.g.inner_up x z seen bz_old ne (omega arith, omega arith) in
                (omega arith, omega arith)
          ]
    ]

pub inner_down : (n m M : ℕ) (T H : ℕ → ℕ) (s t : Fns) (y p k : ℕ) → OpensChild n m M T H s t y p k
    → (x z : ℕ) → 0 < t.place x → 0 < t.by z → x ≢ z → Inside t x (t.up z) → Inside t x z
inner_down n m M T H s t y p k o x z sx bz ne i =
    let fresh = o.fresh in
    let np = other s p y o.fresh o.current.seen in
    let ep = o.step.else p np in
    let lx = o.step.lasts x in
    elim (cases_eq z y) [
      | inl ez ↦
          let nx : x ≢ y = λ e. ne (e ∙ sym ez) in
          let ex = o.step.else x nx in
          let here = o.step.here in
          let pz = ap t.place ez in
          let pu = ap t.place (ap t.up ez ∙ o.step.here.0) in
          let seen : 0 < s.place x = omega arith in
          let room = o.room in
          let most = o.g.places x in
          let opened = o.current.inside_open x seen (omega arith, omega arith) in
          (omega arith, omega arith)
      | inr nz ↦
          let ez = o.step.else z nz in
          let bz_old : 0 < s.by z = omega arith in
          let useen = o.g.by_seen z bz_old in
          let nu = other s (s.up z) y o.fresh useen in
          let eu = o.step.else (s.up z) nu in
          let pu = ap t.place ez.0 in
          elim (cases_eq x y) [
            | inl ex ↦ absurd (let px = ap t.place ex in let here = o.step.here in let most = o.g.places (s.up z) in omega arith)
            | inr nx ↦
                let ex = o.step.else x nx in
                let seen : 0 < s.place x = omega arith in
                let inside = o.g.inner_down x z seen bz_old ne (omega arith, omega arith) in
                (omega arith, omega arith)
          ]
    ]

pub inner_root : (n m M : ℕ) (T H : ℕ → ℕ) (s t : Fns) (y p k : ℕ) → OpensChild n m M T H s t y p k
    → (x z : ℕ) → 0 < t.place x → 0 < t.place z → t.by z ≡ 0 → Inside t x z → x ≡ z
inner_root n m M T H s t y p k o x z sx sz bz i =
    let lx = o.step.lasts x in
    elim (cases_eq z y) [
      | inl ez ↦ absurd (let b = ap t.by ez in let here = o.step.here in let row = o.row in omega arith)
      | inr nz ↦
          let ez = o.step.else z nz in
          elim (cases_eq x y) [
            | inl ex ↦ absurd (let px = ap t.place ex in let here = o.step.here in let most = o.g.places z in omega arith)
            | inr nx ↦ let ex = o.step.else x nx in o.g.inner_root x z (omega arith) (omega arith) (omega arith) (omega arith, omega arith)
          ]
    ]

pub ends_moved : (T H : ℕ → ℕ) (b x u b2 u2 : ℕ) → b2 ≡ b → u2 ≡ u
    → ((T b ≡ x) × (H b ≡ u)) ⊎ ((H b ≡ x) × (T b ≡ u)) → ((T b2 ≡ x) × (H b2 ≡ u2)) ⊎ ((H b2 ≡ x) × (T b2 ≡ u2))
ends_moved T H b x u b2 u2 eb eu (inl e) = inl (ap T eb ∙ e.0, ap H eb ∙ e.1 ∙ sym eu)
ends_moved T H b x u b2 u2 eb eu (inr e) = inr (ap H eb ∙ e.0, ap T eb ∙ e.1 ∙ sym eu)

pub left_moved : (T H : ℕ → ℕ) (b x b2 : ℕ) → b2 ≡ b → (T b ≡ x) ⊎ (H b ≡ x) → (T b2 ≡ x) ⊎ (H b2 ≡ x)
left_moved T H b x b2 eb (inl e) = inl (ap T eb ∙ e)
left_moved T H b x b2 eb (inr e) = inr (ap H eb ∙ e)

-- a row that was met stays met where events that were seen keep their places and their roots
pub met_kept : (T H : ℕ → ℕ) (s t : Fns) (j : ℕ)
    → ((x : ℕ) → 0 < s.place x → (t.place x ≡ s.place x) × (t.root x ≡ s.root x)) → IsMet T H s j → IsMet T H t j
met_kept T H s t j same met =
    let p = met.tail_seen in let q = met.head_seen in let r = met.same in
    let a = same (T j) p in let b = same (H j) q in
    record { tail_seen = omega arith; head_seen = omega arith; same = omega arith }

-- the other events keep theirs as an event is opened
pub seen_kept : (s t : Fns) (y p k r : ℕ) → s.place y ≡ 0 → Opens s t y p k r → (x : ℕ) → 0 < s.place x
    → (t.place x ≡ s.place x) × (t.root x ≡ s.root x)
seen_kept s t y p k r fresh step x seen = let e = step.else x (other s x y fresh seen) in (e.2, e.3)

-- and the order goes on with the new one
pub order_goes_on : (n m M : ℕ) (T H : ℕ → ℕ) (s t : Fns) (y p k r : ℕ) → Grown n m M T H s → s.place y ≡ 0
    → Opens s t y p k r → (i : ℕ) → i < t.count → t.place (t.order i) ≡ i + 1
order_goes_on n m M T H s t y p k r g fresh step i h =
    let here = step.here in let count = step.count in
    elim (cases_lt i s.count) [
      | inl lt ↦ let e = step.order_else i lt in let q = g.order_at i lt in
          let w = step.else (s.order i) (other s (s.order i) y fresh (omega arith)) in let r = ap t.place e in omega arith
      | inr ge ↦ let e : i ≡ s.count = omega arith in let q = ap (λ j. t.place (t.order j)) e in
          let r = ap t.place step.order_here in omega arith
    ]

pub places_go_on : (n m M : ℕ) (T H : ℕ → ℕ) (s t : Fns) (y p k r : ℕ) → Grown n m M T H s → Opens s t y p k r
    → (x : ℕ) → 0 < t.place x → t.order (t.place x - 1) ≡ x
places_go_on n m M T H s t y p k r g step x sx =
    let here = step.here in
    elim (cases_eq x y) [
      | inl e ↦ let q = ap t.place e in let c : t.place x - 1 ≡ s.count = omega arith in ap t.order c ∙ step.order_here ∙ sym e
      | inr nx ↦ let e = step.else x nx in let old : 0 < s.place x = omega arith in let q = g.place_at x old in let most = g.places x in
          let c : t.place x - 1 ≡ s.place x - 1 = omega arith in ap t.order c ∙ step.order_else (s.place x - 1) (omega arith) ∙ q
    ]

-- the upper end of an event that was joined before, or of the new one, is an old event
up_old : (n m M : ℕ) (T H : ℕ → ℕ) (s t : Fns) (y p k : ℕ) → OpensChild n m M T H s t y p k → (x : ℕ) → 0 < t.by x
    → (0 < s.place (t.up x)) × (t.place (t.up x) ≡ s.place (t.up x)) × (s.place (t.up x) < t.place x)
    × (s.root (t.up x) ≡ t.root x) × (t.root (t.up x) ≡ s.root (t.up x))
up_old n m M T H s t y p k o x bx =
    elim (cases_eq x y) [
      | inl e ↦
          let here = o.step.here in
          let u = ap t.up e ∙ here.0 in
          let seen = o.current.seen in
          let ep = o.step.else p (other s p y o.fresh seen) in
          let q1 = ap t.place u in let q2 = ap s.place u in let q3 = ap t.root u in let q4 = ap s.root u in
          let q5 = ap t.place e in let q6 = ap t.root e in let most = o.g.places p in
          (omega arith, omega arith, omega arith, omega arith, omega arith)
      | inr nx ↦
          let ex = o.step.else x nx in
          let b : 0 < s.by x = omega arith in
          let seen = o.g.by_seen x b in
          let eu = o.step.else (s.up x) (other s (s.up x) y o.fresh seen) in
          let u = ex.0 in
          let q1 = ap t.place u in let q2 = ap s.place u in let q3 = ap t.root u in let q4 = ap s.root u in
          let c = o.g.climbs x b in let r = o.g.same_root x b in
          (omega arith, omega arith, omega arith, omega arith, omega arith)
    ]

pub opened : (n m M : ℕ) (T H : ℕ → ℕ) (s t : Fns) (y p k : ℕ) → OpensChild n m M T H s t y p k → Grown n m M T H t
opened n m M T H s t y p k o =
    let here = o.step.here in
    let count = o.step.count in
    let fresh = o.fresh in record {
      seen_below = λ x sx. elim (cases_eq x y) [
        | inl e ↦ let b = o.below in omega arith
        | inr nx ↦ let e = o.step.else x nx in
            o.g.seen_below x (omega arith)
      ];
      places = λ x. elim (cases_eq x y) [
        | inl e ↦ let q = ap t.place e in
            omega arith
        | inr nx ↦ let e = o.step.else x nx in let q = o.g.places x in omega arith
      ];
      order_at = order_goes_on n m M T H s t y p k (s.root p) o.g o.fresh o.step;
      place_at = places_go_on n m M T H s t y p k (s.root p) o.g o.step;
      by_row = λ x. elim (cases_eq x y) [
        | inl e ↦ let q = ap t.by e in let r = o.row in
            omega arith
        | inr nx ↦ let e = o.step.else x nx in let q = o.g.by_row x in omega arith
      ];
      by_ends = λ x bx. elim (cases_eq x y) [
        | inl e ↦ ends_moved T H k x p (t.by x) (t.up x) (ap t.by e ∙ here.1) (ap t.up e ∙ here.0)
            (elim o.ends [ inl w ↦ inl (w.0 ∙ sym e, w.1) | inr w ↦ inr (w.0 ∙ sym e, w.1) ])
        | inr nx ↦ let e = o.step.else x nx in ends_moved T H (s.by x) x (s.up x) (t.by x) (t.up x) e.1 e.0 (o.g.by_ends x (omega arith))
      ];
      by_seen = λ x bx. let w = up_old n m M T H s t y p k o x bx in omega arith;
      climbs = λ x bx. let w = up_old n m M T H s t y p k o x bx in omega arith;
      same_root = λ x bx. let w = up_old n m M T H s t y p k o x bx in omega arith;
      own_root = λ x sx bx. elim (cases_eq x y) [
        | inl e ↦ absurd (let q = ap t.by e in let r = o.row in omega arith)
        | inr nx ↦
            let e = o.step.else x nx in let q = o.g.own_root x (omega arith) (omega arith) in omega arith
      ];
      root_first = λ x sx. elim (cases_eq x y) [
        | inl e ↦ let q = ap t.root e in let seen = o.current.seen in
            elim (cases_lt y (s.root p)) [
              | inl lt ↦ absurd
                  (let b = o.g.before_root p y seen lt in omega arith)
              | inr ge ↦ omega arith
            ]
        | inr nx ↦ let e = o.step.else x nx in let q = o.g.root_first x (omega arith) in omega arith
      ];
      before_root = λ x z sx lt. elim (cases_eq x y) [
        | inl e ↦ let q = ap t.root e in let b = o.g.before_root p z o.current.seen (omega arith) in
            let w = o.step.else z (other s z y o.fresh b) in omega arith
        | inr nx ↦ let e = o.step.else x nx in let b = o.g.before_root x z (omega arith) (omega arith) in
            let w = o.step.else z (other s z y o.fresh b) in omega arith
      ];
      inner_up = inner_up n m M T H s t y p k o;
      inner_down = inner_down n m M T H s t y p k o;
      inner_root = inner_root n m M T H s t y p k o;
      lasts = λ x. let e = o.step.lasts x in let l = o.g.lasts x in omega arith;
      unseen = λ x b h. elim (cases_eq x y) [
        | inl e ↦ let l = o.step.lasts x in let q = ap s.last e in
            let u = o.g.unseen y o.below o.fresh in omega arith
        | inr nx ↦ let e = o.step.else x nx in
            let l = o.step.lasts x in let u = o.g.unseen x b (omega arith) in omega arith
      ];
      closed = λ x h. elim (cases_eq x y) [
        | inl e ↦ absurd (let l = o.step.lasts x in let q = ap s.last e in let u = o.g.unseen y o.below o.fresh in omega arith)
        | inr nx ↦ let e = o.step.else x nx in let l = o.step.lasts x in let f = o.step.lefts x in
            let u = o.g.closed x (omega arith) in (omega arith, omega arith, omega arith)
      ];
      left_row = λ x. let e = o.step.lefts x in let l = o.g.left_row x in omega arith;
      left_end = λ x h. let e = o.step.lefts x in left_moved T H (s.left x) x (t.left x) e (o.g.left_end x (omega arith));
      tail_met = λ j a b h. met_kept T H s t j (seen_kept s t y p k (s.root p) o.fresh o.step)
          (o.g.tail_met j a b (let e = o.step.lefts (T j) in omega arith));
      head_met = λ j a b h. met_kept T H s t j (seen_kept s t y p k (s.root p) o.fresh o.step)
          (o.g.head_met j a b (let e = o.step.lefts (H j) in omega arith));
    }

-- the new event is the current one
pub opened_at : (n m M : ℕ) (T H : ℕ → ℕ) (s t : Fns) (y p k : ℕ) → OpensChild n m M T H s t y p k → OpenAt M t y
opened_at n m M T H s t y p k o =
    let here = o.step.here in
    let count = o.step.count in
    let fresh = o.fresh in
    let room = o.room in
    let fine = o.g.unseen y o.below o.fresh in
    let ly = o.step.lasts y in record {
      seen = omega arith;
      open_inside = λ x sx l. let lx = o.step.lasts x in
          elim (cases_eq x y) [
            | inl e ↦ let q = ap t.place e in
                (omega arith, omega arith)
            | inr nx ↦ let e = o.step.else x nx in let most = o.g.places x in
                (omega arith, omega arith)
          ];
      inside_open = λ x sx i. let lx = o.step.lasts x in
          elim (cases_eq x y) [
            | inl e ↦ let q = ap s.last e in
                omega arith
            | inr nx ↦ let q = still_open n m M T H s x o.g (omega arith) in omega arith
          ];
      one_root = λ x sx l. let lx = o.step.lasts x in
          elim (cases_eq x y) [
            | inl e ↦ ap t.root e
            | inr nx ↦ let e = o.step.else x nx in
                let q = o.current.one_root x (omega arith) (omega arith) in omega arith
          ];
    }
