-- A forest that grows depth first, as functions of the events.
use Rattle.std.specs.Prelude.{◌≡◌, ◌≢◌, ℕ, ◌+◌, ◌-◌, ◌<◌, ◌≤◌, ◌⊎◌, slice_index, List}
use Rattle.pesp_network.specs.Chains.{IsNext}

-- by is the row that joins an event to the event up, or 0 at a root; the place is 0 where it isn't seen;
-- last is the last place below it, or the limit while it is open; left is the last row that isn't looked at
pub record Fns : Type 0 where
  pub up : ℕ → ℕ
  pub by : ℕ → ℕ
  pub place : ℕ → ℕ
  pub last : ℕ → ℕ
  pub root : ℕ → ℕ
  pub left : ℕ → ℕ
  pub order : ℕ → ℕ
  pub count : ℕ

-- y is x or lies below it: its place is from x's place to x's last place
abbrev pub Inside : Fns → ℕ → ℕ → Type 0
Inside s x y = (s.place x ≤ s.place y) × (s.place y ≤ s.last x)

-- the ends of a row were seen, in one tree

-- both ends of the row k have a place, under the same root
pub record IsMet (T H : ℕ → ℕ) (s : Fns) (k : ℕ) : Type 0 where
  pub tail_seen : 0 < s.place (T k)
  pub head_seen : 0 < s.place (H k)
  pub same : s.root (T k) ≡ s.root (H k)

-- a forest that grows over n events and m rows of the tails T and the heads H; M is the last place of an open event
pub record Grown (n m M : ℕ) (T H : ℕ → ℕ) (s : Fns) : Type 0 where
  pub seen_below : (x : ℕ) → 0 < s.place x → x < n
  pub places : (x : ℕ) → s.place x ≤ s.count
  pub order_at : (i : ℕ) → i < s.count → s.place (s.order i) ≡ i + 1
  pub place_at : (x : ℕ) → 0 < s.place x → s.order (s.place x - 1) ≡ x
  pub by_row : (x : ℕ) → s.by x ≤ m
  pub by_ends : (x : ℕ) → 0 < s.by x → ((T (s.by x) ≡ x) × (H (s.by x) ≡ s.up x)) ⊎ ((H (s.by x) ≡ x) × (T (s.by x) ≡ s.up x))
  pub by_seen : (x : ℕ) → 0 < s.by x → 0 < s.place (s.up x)
  pub climbs : (x : ℕ) → 0 < s.by x → s.place (s.up x) < s.place x
  pub same_root : (x : ℕ) → 0 < s.by x → s.root (s.up x) ≡ s.root x
  pub own_root : (x : ℕ) → 0 < s.place x → s.by x ≡ 0 → s.root x ≡ x
  pub root_first : (x : ℕ) → 0 < s.place x → s.root x ≤ x
  pub before_root : (x y : ℕ) → 0 < s.place x → y < s.root x → 0 < s.place y
  pub inner_up : (x y : ℕ) → 0 < s.place x → 0 < s.by y → x ≢ y → Inside s x y → Inside s x (s.up y)
  pub inner_down : (x y : ℕ) → 0 < s.place x → 0 < s.by y → x ≢ y → Inside s x (s.up y) → Inside s x y
  pub inner_root : (x y : ℕ) → 0 < s.place x → 0 < s.place y → s.by y ≡ 0 → Inside s x y → x ≡ y
  pub lasts : (x : ℕ) → s.last x ≤ M
  pub unseen : (x : ℕ) → x < n → s.place x ≡ 0 → s.last x ≡ M
  pub closed : (x : ℕ) → s.last x < M → (s.place x ≤ s.last x) × (s.last x ≤ s.count) × (s.left x ≡ 0)
  pub left_row : (x : ℕ) → s.left x ≤ m
  pub left_end : (x : ℕ) → 0 < s.left x → (T (s.left x) ≡ x) ⊎ (H (s.left x) ≡ x)
  pub tail_met : (k : ℕ) → 0 < k → k ≤ m → s.left (T k) < k → IsMet T H s k
  pub head_met : (k : ℕ) → 0 < k → k ≤ m → s.left (H k) < k → IsMet T H s k

-- the events that are open are those above u
pub record OpenAt (M : ℕ) (s : Fns) (u : ℕ) : Type 0 where
  pub seen : 0 < s.place u
  pub open_inside : (x : ℕ) → 0 < s.place x → s.last x ≡ M → Inside s x u
  pub inside_open : (x : ℕ) → 0 < s.place x → Inside s x u → s.last x ≡ M
  pub one_root : (x : ℕ) → 0 < s.place x → s.last x ≡ M → s.root x ≡ s.root u

-- the event y is opened below p by the row k, or as a root where k is 0
pub record Opens (s t : Fns) (y p k r : ℕ) : Type 0 where
  pub here : (t.up y ≡ p) × (t.by y ≡ k) × (t.place y ≡ s.count + 1) × (t.root y ≡ r)
  pub else : (x : ℕ) → x ≢ y → (t.up x ≡ s.up x) × (t.by x ≡ s.by x) × (t.place x ≡ s.place x) × (t.root x ≡ s.root x)
  pub lasts : (x : ℕ) → t.last x ≡ s.last x
  pub lefts : (x : ℕ) → t.left x ≡ s.left x
  pub count : t.count ≡ s.count + 1
  pub order_here : t.order (s.count) ≡ y
  pub order_else : (i : ℕ) → i < s.count → t.order i ≡ s.order i

-- what is known as an event is opened below the current one, p
pub record OpensChild (n m M : ℕ) (T H : ℕ → ℕ) (s t : Fns) (y p k : ℕ) : Type 0 where
  pub g : Grown n m M T H s
  pub current : OpenAt M s p
  pub fresh : s.place y ≡ 0
  pub below : y < n
  pub room : s.count + 1 < M
  pub row : (0 < k) × (k ≤ m)
  pub ends : ((T k ≡ y) × (H k ≡ p)) ⊎ ((H k ≡ y) × (T k ≡ p))
  pub step : Opens s t y p k (s.root p)

-- what is known as an event is opened as a root, and none is open
pub record OpensRoot (n m M : ℕ) (T H : ℕ → ℕ) (s t : Fns) (y : ℕ) : Type 0 where
  pub g : Grown n m M T H s
  pub all_closed : (x : ℕ) → 0 < s.place x → s.last x < M
  pub fresh : s.place y ≡ 0
  pub below : y < n
  pub before : (x : ℕ) → x < y → 0 < s.place x
  pub room : s.count + 1 < M
  pub step : Opens s t y y 0 y

-- the current event is closed
pub record Closes (s t : Fns) (u : ℕ) : Type 0 where
  pub here : t.last u ≡ s.count
  pub else : (x : ℕ) → x ≢ u → t.last x ≡ s.last x
  pub same : (x : ℕ) → (t.up x ≡ s.up x) × (t.by x ≡ s.by x) × (t.place x ≡ s.place x) × (t.root x ≡ s.root x) × (t.left x ≡ s.left x)
  pub order : (i : ℕ) → t.order i ≡ s.order i
  pub count : t.count ≡ s.count

-- what is known as the current event is closed, with none of its rows left to be looked at
pub record ClosesCurrent (n m M : ℕ) (T H : ℕ → ℕ) (s t : Fns) (u : ℕ) : Type 0 where
  pub g : Grown n m M T H s
  pub current : OpenAt M s u
  pub done : s.left u ≡ 0
  pub room : s.count < M
  pub step : Closes s t u

-- the row k was looked at, at u
pub record Looks (s t : Fns) (u next : ℕ) : Type 0 where
  pub here : t.left u ≡ next
  pub else : (x : ℕ) → x ≢ u → t.left x ≡ s.left x
  pub same : (x : ℕ) → (t.up x ≡ s.up x) × (t.by x ≡ s.by x) × (t.place x ≡ s.place x) × (t.root x ≡ s.root x) × (t.last x ≡ s.last x)
  pub order : (i : ℕ) → t.order i ≡ s.order i
  pub count : t.count ≡ s.count

-- what is known as a row is looked at, at an open event, where both of its ends were seen
pub record LooksAt (n m M : ℕ) (T H : ℕ → ℕ) (s t : Fns) (u next : ℕ) : Type 0 where
  pub g : Grown n m M T H s
  pub met : IsMet T H s (s.left u)
  pub follows : IsNext T H u (s.left u) next
  pub is_open : s.last u ≡ M
  pub step : Looks s t u next

-- the number at a place, from 0
abbrev pub at : List ℕ → ℕ → ℕ
at xs i = slice_index xs i
