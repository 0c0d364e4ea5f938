-- What one look at a row leaves.
use Rattle.std.proofs.Common.{◌≡◌, ℕ, ◌+◌, ◌-◌, ◌<◌, ◌≤◌, ◌⊎◌, inl, inr, sym, ◌∙◌, ap, arith, subst, List, length, vec_len, get_or, set, sum}
use Rattle.std.proofs.lemmas.List.{get_or_read}
use Rattle.std.proofs.lemmas.List.Sums.{sum_by-set}
use Rattle.std.proofs.lemmas.Bool.{cases_eq}
use Rattle.pesp_problem.specs.declared.arc.Arc.{Arc}
use Rattle.pesp_network.specs.declared.parts.Growth.{Growth}
use Rattle.pesp_network.specs.Chains.{IsNext}
use Rattle.pesp_network.specs.Growing.{Fns, IsMet, Grown, Opens, OpensChild, Looks, at}
use Rattle.pesp_problem.specs.Arcs.{tail_of, head_of}
use Rattle.pesp_problem.specs.ArcLimits.{HaveEnds}
use Rattle.pesp_network.specs.Floods.{OPEN_END, fns_of, GrownOver, IsCurrent, KeepsSeen}
use Rattle.pesp_network.proofs.Opening.{opened, opened_at}
use Rattle.pesp_network.proofs.Closing.{looked, looked_at, meets_tail, meets_head, current_open}

-- a Vec is far from the greatest number
pub room : (g : Growth) → vec_len g.order + 1 < OPEN_END
room g = let a = g.order.ok.1 in let b = g.order.small in omega arith

pub end_below : (n : ℕ) (arcs : List Arc) (k u y : ℕ) → HaveEnds n arcs → 0 < k → k ≤ length arcs
    → ((tail_of arcs k ≡ y) × (head_of arcs k ≡ u)) ⊎ ((head_of arcs k ≡ y) × (tail_of arcs k ≡ u)) → y < n
end_below n arcs k u y h a b e =
    let w = h (k - 1) (omega arith) in
    elim e [ inl x ↦ omega arith | inr x ↦ omega arith ]

pub grown_from : (arcs : List Arc) (n n2 : ℕ) (s : Fns) → n2 ≡ n
    → Grown n (length arcs) OPEN_END (tail_of arcs) (head_of arcs) s
    → Grown n2 (length arcs) OPEN_END (tail_of arcs) (head_of arcs) s
grown_from arcs n n2 s e g = let P : ℕ → Type 0 = λ m. Grown m (length arcs) OPEN_END (tail_of arcs) (head_of arcs) s in subst P (sym e) g

-- the row k is the next to be looked at, at u, and leads to y
pub record LeadsOn (arcs : List Arc) (g : Growth) (u k y next : ℕ) : Type 0 where
  pub grown : GrownOver arcs g
  pub current : IsCurrent g u
  pub left : k ≡ at g.left.items u
  pub some : 0 < at g.left.items u
  pub follows : IsNext (tail_of arcs) (head_of arcs) u k next
  pub ends : ((tail_of arcs k ≡ y) × (head_of arcs k ≡ u)) ⊎ ((head_of arcs k ≡ y) × (tail_of arcs k ≡ u))

pub left_below : (arcs : List Arc) (g : Growth) (u k y next : ℕ) → LeadsOn arcs g u k y next → (0 < k) × (k ≤ length arcs)
left_below arcs g u k y next o = let l = o.left in let s = o.some in let r = o.grown.left_row u in (omega arith, omega arith)

pub keeps_opening : (g h : Growth) (y p k r : ℕ) → Opens (fns_of g) (fns_of h) y p k r → KeepsSeen g h
keeps_opening g h y p k r opens =
    let here = opens.here in
    λ x sx. elim (cases_eq x y) [ inl q ↦ let w = ap (at h.place.items) q in omega arith | inr ne ↦ let o = opens.else x ne in omega arith ]

pub keeps_looking : (g h : Growth) (u next : ℕ) → Looks (fns_of g) (fns_of h) u next → KeepsSeen g h
keeps_looking g h u next looks = λ x sx. let e = looks.same x in omega arith

pub advance_seen : (arcs : List Arc) (g h : Growth) (u k y next : ℕ) → LeadsOn arcs g u k y next
    → 0 < at g.place.items y → Looks (fns_of g) (fns_of h) u next → vec_len h.up ≡ vec_len g.up
    → GrownOver arcs h × IsCurrent h u
advance_seen arcs g h u k y next o seen looks e =
    let T = tail_of arcs in let H = head_of arcs in let s = fns_of g in
    let n = vec_len g.up in let m = length arcs in
    let b = left_below arcs g u k y next o in
    let r : vec_len g.order < OPEN_END = let w = room g in omega arith in
    let met : IsMet T H s k = elim o.ends [
      | inl x ↦ meets_head n m OPEN_END T H s u k o.grown o.current r b.0 b.1 (sym o.left) x.1
          (let q = ap (at g.place.items) x.0 in omega arith)
      | inr x ↦ meets_tail n m OPEN_END T H s u k o.grown o.current r b.0 b.1 (sym o.left) x.1
          (let q = ap (at g.place.items) x.0 in omega arith)
    ] in
    let P : ℕ → Type 0 = λ j. IsMet T H s j in
    let Q : ℕ → Type 0 = λ j. IsNext T H u j next in (
      grown_from arcs n (vec_len h.up) (fns_of h) e (looked n m OPEN_END T H s (fns_of h) u next (record {
        g = o.grown;
        met = subst P o.left met;
        follows = subst Q o.left o.follows;
        is_open = current_open n m OPEN_END T H s u o.grown o.current r;
        step = looks;
      })),
      looked_at n m OPEN_END T H s (fns_of h) u next u looks o.current,
    )

pub advance_new : (arcs : List Arc) (g f h : Growth) (u k y next root : ℕ) → LeadsOn arcs g u k y next
    → HaveEnds (vec_len g.up) arcs → at g.place.items y ≡ 0 → root ≡ at g.root.items u
    → Opens (fns_of g) (fns_of f) y u k root → f.left.items ≡ g.left.items → vec_len f.up ≡ vec_len g.up
    → Looks (fns_of f) (fns_of h) u next → vec_len h.up ≡ vec_len f.up
    → GrownOver arcs h × IsCurrent h y
advance_new arcs g f h u k y next root o ends fresh er opens lefts e looks e2 =
    let T = tail_of arcs in let H = head_of arcs in let s = fns_of g in let t = fns_of f in
    let n = vec_len g.up in let m = length arcs in
    let b = left_below arcs g u k y next o in
    let R : ℕ → Type 0 = λ r. Opens s t y u k r in
    let child : OpensChild n m OPEN_END T H s t y u k = record {
      g = o.grown;
      current = o.current;
      fresh = fresh;
      below = end_below n arcs k u y ends b.0 b.1 o.ends;
      room = room g;
      row = b;
      ends = o.ends;
      step = subst R er opens;
    } in
    let grown = opened n m OPEN_END T H s t y u k child in
    let current = opened_at n m OPEN_END T H s t y u k child in
    let u_old = opens.else u (λ q. let p = ap (at g.place.items) q in let c = o.current.seen in absurd (omega arith)) in
    let here = opens.here in
    let c = o.current.seen in
    let met : IsMet T H t k = elim o.ends [
      | inl x ↦ let p = ap t.place x.0 in let q = ap t.place x.1 in let a = ap t.root x.0 in
          let d = ap t.root x.1 in record { tail_seen = omega arith; head_seen = omega arith; same = omega arith }
      | inr x ↦ let p = ap t.place x.0 in let q = ap t.place x.1 in let a = ap t.root x.0 in
          let d = ap t.root x.1 in record { tail_seen = omega arith; head_seen = omega arith; same = omega arith }
    ] in
    let kl : k ≡ t.left u = o.left ∙ ap (λ l. at l u) (sym lefts) in
    let P : ℕ → Type 0 = λ j. IsMet T H t j in
    let Q : ℕ → Type 0 = λ j. IsNext T H u j next in
    let r : vec_len f.order < OPEN_END = let w = room f in omega arith in
    let u_open : t.last u ≡ OPEN_END = opens.lasts u
    ∙ current_open n m OPEN_END T H s u o.grown o.current (let w = room g in omega arith) in (
      grown_from arcs n (vec_len h.up) (fns_of h) (e2 ∙ e) (looked n m OPEN_END T H t (fns_of h) u next (record {
        g = grown;
        met = subst P kl met;
        follows = subst Q kl o.follows;
        is_open = u_open;
        step = looks;
      })),
      looked_at n m OPEN_END T H t (fns_of h) u next y looks current,
    )

pub read_left : (g : Growth) (u x : ℕ) → u < vec_len g.up → x ≡ get_or g.left.items u x → x ≡ at g.left.items u
read_left g u x h e = let s = g.sized in let l = g.left.ok.0 in get_or_read g.left.items u x (omega arith) e 0

pub read_root : (g : Growth) (u x : ℕ) → u < vec_len g.up → x ≡ get_or g.root.items u x → x ≡ at g.root.items u
read_root g u x h e = let s = g.sized in let l = g.root.ok.0 in get_or_read g.root.items u x (omega arith) e 0

pub read_place : (g : Growth) (u x : ℕ) → u < vec_len g.up → x ≡ get_or g.place.items u x → x ≡ at g.place.items u
read_place g u x h e = let s = g.sized in let l = g.place.ok.0 in get_or_read g.place.items u x (omega arith) e 0

pub current_below : (arcs : List Arc) (g : Growth) (u : ℕ) → GrownOver arcs g → IsCurrent g u → u < vec_len g.up
current_below arcs g u a c = a.seen_below u c.seen

pub leads_on : (arcs : List Arc) (g : Growth) (u k y next : ℕ) → GrownOver arcs g → IsCurrent g u
    → k ≡ get_or g.left.items u k → 0 < at g.left.items u
    → IsNext (tail_of arcs) (head_of arcs) u k next
    → ((tail_of arcs k ≡ y) × (head_of arcs k ≡ u)) ⊎ ((head_of arcs k ≡ y) × (tail_of arcs k ≡ u))
    → LeadsOn arcs g u k y next
leads_on arcs g u k y next a c e s f d = record {
  grown = a;
  current = c;
  left = read_left g u k (current_below arcs g u a c) e;
  some = s;
  follows = f;
  ends = d;
}

pub other_below : (arcs : List Arc) (g : Growth) (u k y next : ℕ) → LeadsOn arcs g u k y next
    → HaveEnds (vec_len g.up) arcs → y < vec_len g.up
other_below arcs g u k y next o h = let b = left_below arcs g u k y next o in end_below (vec_len g.up) arcs k u y h b.0 b.1 o.ends

pub sum_less : (xs ys : List ℕ) (i y : ℕ) → ys ≡ set xs i y → i < length xs → y < at xs i → sum ys < sum xs
sum_less xs ys i y e a b = let w = sum_by-set (λ x. x) xs i y 0 a in let q = ap sum e in omega arith
