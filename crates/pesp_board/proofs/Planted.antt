-- The parts are put at the nodes one after the other: what is left makes the same tree and the same entries.
use Rattle.std.proofs.Common.{◌≡◌, ℕ, zero, suc, ◌+◌, ◌<◌, ◌≤◌, List, [], ◌∷◌, ◌++◌, length, reverse, refl, sym, ap, ◌∙◌, arith, subst, append_assoc, append-nil, true, inl, inr}
use Rattle.std.specs.Prelude.{Option, Some, None, IsSome}
use Rattle.std.specs.List.Sorted.{IsPermutation}
use Rattle.std.proofs.lemmas.List.{length-set, length-reverse, reverse-append}
use Rattle.std.proofs.lemmas.List.Sorted.{IsPermutation-refl, IsPermutation-trans, IsPermutation-append, IsPermutation-cons}
use Rattle.pesp_truth.specs.Trees.{Line, EndLine, CutLine, are_trees}
use Rattle.pesp_tree.specs.Leaves.{leaf_of}
use Rattle.pesp_tree.specs.WorkTrees.{WorkTreeValue, IsWhole, leaf_at, with_room}
use Rattle.pesp_tree.specs.declared.entry.Entry.{Entry}
use Rattle.pesp_tree.specs.Entries.{entry, HasItem}
use Rattle.pesp_tree.specs.Queues.{QueueValue, all_of, KeepsRoom, QueueKeepsLimits}
use Rattle.pesp_board.specs.declared.part.Part.{Part}
use Rattle.pesp_board.specs.declared.part.Part.TheVariants.{Cut as CutPart, Leaf as LeafPart}
use Rattle.pesp_board.specs.Parts.{part_lines}
use Rattle.pesp_board.specs.Growing.{waits, part_value, with_part, next, with_parts, news, HasRoomForPart, AreOthers, AreUnqueued, AreReady, IsPlanted}
use Rattle.pesp_board.proofs.Growing.{site_within, long_part, long_cut, next_sites, next_shape}
use Rattle.pesp_board.proofs.Replacing.{IsWithout, IsWith, one_less, one_more, node_gone, still_fresh, with_held}

-- ---- how many lines are needed

enough_lines : (m : ℕ) (lines : List Line) → are_trees m lines ≡ true → m ≤ length lines
enough_lines zero lines e = omega arith
enough_lines (suc m) [] e = cc
enough_lines (suc m) (EndLine leaf ∷ lines) e = omega (arith, enough_lines m lines e)
enough_lines (suc m) (CutLine cut ∷ lines) e = omega (arith, enough_lines (suc (suc m)) lines e)

same_length : (parts : List Part) → length (part_lines parts) ≡ length parts
same_length [] = refl
same_length (part ∷ parts) = ap suc (same_length parts)

pub enough_parts : (m : ℕ) (parts : List Part) → are_trees m (part_lines parts) ≡ true → m ≤ length parts
enough_parts m parts e = omega (arith, enough_lines m (part_lines parts) e, same_length parts)

-- ---- a part is put

long_next : (k : ℕ) (part : Part) (nodes : List ℕ) → length nodes ≤ length (next k part nodes)
long_next k (CutPart cut) nodes = omega arith
long_next k (LeafPart part) nodes = omega arith

-- how many nodes there are more, and how many more of them wait
as_many : (t : WorkTreeValue) (n : ℕ) (part : Part) (nodes : List ℕ)
    → length (with_part t n part).leaves + length nodes
    ≡ length t.leaves + length (next (length t.leaves) part nodes)
as_many t n (CutPart cut) nodes = omega (arith, long_cut t n cut)
as_many t n (LeafPart part) nodes = omega (arith, length-set t.leaves n (Some (leaf_of part.leaf)))

room_stays : (t : WorkTreeValue) (n : ℕ) (part : Part) → (with_part t n part).room ≡ t.room
room_stays t n (CutPart cut) = refl
room_stays t n (LeafPart part) = refl

pub may_grow : (t : WorkTreeValue) (q : QueueValue) (n : ℕ) (nodes : List ℕ) (part : Part) (parts : List Part)
    → AreReady t q (n ∷ nodes) (part ∷ parts) → HasRoomForPart t part
may_grow t q n nodes (LeafPart part) parts r = tt
may_grow t q n nodes (CutPart cut) parts r =
    let enough = enough_parts (suc (suc (length nodes))) parts r.shape in
    let lines = r.lines in
    let few = r.few in
    (omega (arith, enough, lines), omega (arith, enough, few))

pub number_fits : (t : WorkTreeValue) (q : QueueValue) (n : ℕ) (nodes : List ℕ) (parts : List Part)
    → AreReady t q (n ∷ nodes) parts → n < q.numbers
number_fits t q n nodes parts r =
    let within = site_within t n r.sites.0 in
    let enough = enough_parts (length (n ∷ nodes)) parts r.shape in
    let numbers = r.numbers in
    omega (arith, within, enough, numbers)

unqueued_stay : (q r : QueueValue) (n : ℕ) (value : Option ℕ) (nodes : List ℕ) → IsWith q r n value
    → AreOthers n nodes → AreUnqueued q nodes → AreUnqueued r nodes
unqueued_stay q r n value [] k o u = tt
unqueued_stay q r n value (m ∷ nodes) k o u = (
  λ h.
      elim (with_held q r n value m k h) [ inl same ↦ o.0 same | inr old ↦ u.0 old ],
  unqueued_stay q r n value nodes k o.1 u.1,
)

beyond_stays : (t : WorkTreeValue) (q r : QueueValue) (n : ℕ) (part : Part) (value : Option ℕ)
    → n < length t.leaves → IsWith q r n value → ((node : ℕ) → length t.leaves ≤ node → HasItem (all_of q) node
    → ⊥) → (node : ℕ) → length t.leaves ≤ node → HasItem (all_of r) node → ⊥
beyond_stays t q r n part value within k b node past h =
    elim (with_held q r n value node k h) [
      | inl same ↦ absurd (omega (arith, within, past, same))
      | inr old ↦
          b node past old
    ]

next_unqueued : (t : WorkTreeValue) (q r : QueueValue) (n : ℕ) (part : Part) (nodes : List ℕ) → n < length t.leaves
    → IsWith q r n (part_value part) → ((node : ℕ) → length t.leaves ≤ node → HasItem (all_of q) node → ⊥)
    → AreOthers n nodes → AreUnqueued q nodes → AreUnqueued r (next (length t.leaves) part nodes)
next_unqueued t q r n (CutPart cut) nodes within k b o u =
    let past = beyond_stays t q r n (CutPart cut) None within k b in
    (past (length t.leaves) (omega arith), (past (length t.leaves + 1) (omega arith), unqueued_stay q r n None nodes k o u))
next_unqueued t q r n (LeafPart part) nodes within k b o u = unqueued_stay q r n part.value nodes k o u

pub ready_more : (t u : WorkTreeValue) (q r : QueueValue) (n : ℕ) (nodes : List ℕ) (part : Part)
    (parts : List Part) → AreReady t q (n ∷ nodes) (part ∷ parts) → u ≡ with_part t n part → IsWhole u
    → IsWith q r n (part_value part) → KeepsRoom q r → AreReady u r (next (length t.leaves) part nodes) parts
ready_more t u q r n nodes part parts h e whole k keeps =
    let v = with_part t n part in
    let within = site_within t n h.sites.0 in
    let many = as_many t n part nodes in
    let more = one_more q r n (part_value part) k in
    let lines = h.lines in
    let few = h.few in
    let numbers = h.numbers in
    let room = h.room in
    let same = room_stays t n part in
    rw e (record {
      shape = next_shape (length t.leaves) part nodes (part_lines parts) h.shape;
      whole = subst IsWhole e whole;
      sites = next_sites t n part nodes h.sites;
      fresh = next_unqueued t q r n part nodes within k h.beyond h.sites.1 h.fresh.1;
      beyond = λ node past. beyond_stays t q r n part (part_value part) within k h.beyond node (omega (arith, past, long_part t n part));
      lines = omega (arith, many, lines, same);
      few = omega (arith, many, few);
      numbers = omega (arith, many, numbers, keeps.0);
      room = omega (arith, more, room, keeps.1);
    })

-- ---- the loop

-- what was put so far, and what is left, make what all make
pub record ArePlanted (t : WorkTreeValue) (q : QueueValue) (nodes : List ℕ) (parts : List Part) (u : WorkTreeValue)
    (r : QueueValue) (nodes_left : List ℕ) (left : List Part) : Type 0 where
  pub ready : AreReady u r nodes_left left
  pub tree : with_parts u nodes_left left ≡ with_parts t nodes parts
  pub done : List Entry
  pub rest : news u nodes_left left ++ done ≡ news t nodes parts
  pub waits : IsPermutation (done ++ q.waiting) r.waiting
  pub parked : IsPermutation q.parked r.parked

pub planted_none : (t : WorkTreeValue) (q : QueueValue) (nodes : List ℕ) (parts : List Part)
    → AreReady t q nodes parts → ArePlanted t q nodes parts t q nodes parts
planted_none t q nodes parts h = record {
  ready = h;
  tree = refl;
  done = [];
  rest = append-nil (news t nodes parts);
  waits = IsPermutation-refl q.waiting;
  parked = IsPermutation-refl q.parked;
}

pub planted_more : (t : WorkTreeValue) (q : QueueValue) (nodes : List ℕ) (parts : List Part) (u v : WorkTreeValue)
    (r s : QueueValue) (n : ℕ) (nodes_left : List ℕ) (part : Part) (left : List Part)
    → ArePlanted t q nodes parts u r (n ∷ nodes_left) (part ∷ left)
    → v ≡ with_part u n part → IsWhole v → IsWith r s n (part_value part) → KeepsRoom r s
    → ArePlanted t q nodes parts v s (next (length u.leaves) part nodes_left) left
planted_more t q nodes parts u v r s n nodes_left part left h e whole k keeps =
    let own = waits n (part_value part) in
    record {
      ready = ready_more u v r s n nodes_left part left h.ready e whole k keeps;
      tree = ap (λ (x : WorkTreeValue). with_parts x (next (length u.leaves) part nodes_left) left) e ∙ h.tree;
      done = own ++ h.done;
      rest =
          ap (λ (x : WorkTreeValue). news x (next (length u.leaves) part nodes_left) left ++ (own ++ h.done)) e
          ∙ sym (append_assoc (news (with_part u n part) (next (length u.leaves) part nodes_left) left) own h.done) ∙ h.rest;
      waits = IsPermutation-trans _ _ _ (subst (λ (x : List Entry). IsPermutation x (own ++ r.waiting))
          (sym (append_assoc own h.done q.waiting)) (IsPermutation-append own own (h.done ++ q.waiting) r.waiting
          (IsPermutation-refl own) h.waits)) k.waiting;
      parked = IsPermutation-trans _ _ _ h.parked k.parked;
    }

-- the end, where no part is left
pub record AreAllPlanted (t : WorkTreeValue) (q : QueueValue) (nodes : List ℕ) (parts : List Part)
    (u : WorkTreeValue) (r : QueueValue) : Type 0 where
  pub tree : u ≡ with_parts t nodes parts
  pub whole : IsWhole u
  pub waits : IsPermutation (news t nodes parts ++ q.waiting) r.waiting
  pub parked : IsPermutation q.parked r.parked

pub planted_all : (t : WorkTreeValue) (q : QueueValue) (nodes : List ℕ) (parts : List Part) (u : WorkTreeValue)
    (r : QueueValue) (nodes_left : List ℕ) → ArePlanted t q nodes parts u r nodes_left []
    → AreAllPlanted t q nodes parts u r
planted_all t q nodes parts u r nodes_left h = record {
  tree = h.tree;
  whole = h.ready.whole;
  waits = subst (λ (x : List Entry). IsPermutation (x ++ q.waiting) r.waiting) h.rest h.waits;
  parked = h.parked;
}

-- the lists that the code keeps have what comes next at their ends
pub turned : {X : Type 0} (xs popped : List X) (x : X) → xs ≡ popped ++ x ∷ [] → reverse xs ≡ x ∷ reverse popped
turned xs popped x e = ap reverse e ∙ reverse-append popped (x ∷ [])

-- a node waits while a part is left
pub some_node : (t : WorkTreeValue) (q : QueueValue) (nodes : List ℕ) (part : Part) (parts : List Part)
    → AreReady t q nodes (part ∷ parts) → nodes ≡ [] → ⊥
some_node t q [] part parts h e = let shape = h.shape in cc
some_node t q (n ∷ nodes) part parts h e = cc

-- ---- from one parked node

with_room_whole : (t : WorkTreeValue) (room : ℕ) → IsWhole t → IsWhole (with_room t room)
with_room_whole t room w = record {
  counted = w.counted;
  lines = w.lines;
  within = w.within;
  stands = w.stands;
  found = w.found;
  one = w.one;
}

pub ready_once : (t u : WorkTreeValue) (q r s : QueueValue) (node value : ℕ) (parts : List Part) → IsWhole t
    → IsSome (leaf_at t node) → are_trees 1 (part_lines parts) ≡ true → length t.leaves + length parts ≤ 1000001
    → ((item : ℕ) → length t.leaves ≤ item → HasItem (all_of q) item → ⊥)
    → u ≡ with_room t u.room → length t.leaves + length parts ≤ u.room + 1 → r.waiting ≡ q.waiting
    → r.parked ≡ q.parked → length t.leaves + length parts ≤ r.numbers + 1
    → length (all_of q) + length parts ≤ r.room
    → QueueKeepsLimits r → IsWithout r s node value → KeepsRoom r s → AreReady u s (node ∷ []) parts
ready_once t u q r s node value parts whole some shape few beyond e room waiting parked numbers free limits without keeps =
    let long : length u.leaves ≡ length t.leaves = ap (λ (x : WorkTreeValue). length x.leaves) e in
    let less = one_less r s node value without in
    let same : length (all_of r) ≡ length (all_of q) = (λ i. length (waiting i ++ parked i)) in
    record {
      shape = shape;
      whole = subst IsWhole (sym e) (with_room_whole t u.room whole);
      sites = (subst (λ (x : WorkTreeValue). IsSome (leaf_at x node)) (sym e) some, tt, tt);
      fresh = (node_gone r s node value limits without, tt);
      beyond = λ item past. still_fresh r s node value item without
          (λ h. beyond item (omega (arith, past, long))
          (subst (λ (xs : List Entry). HasItem (q.waiting ++ xs) item) parked
          (subst (λ (xs : List Entry). HasItem (xs ++ r.parked) item) waiting h)));
      lines = omega (arith, long, room);
      few = omega (arith, long, few);
      numbers = omega (arith, long, numbers, keeps.0);
      room = omega (arith, less, same, free, keeps.1);
    }

pub planted_there : (t u v : WorkTreeValue) (q r s w : QueueValue) (node value : ℕ) (parts : List Part)
    → u ≡ with_room t u.room → r.waiting ≡ q.waiting → r.parked ≡ q.parked → IsWithout r s node value
    → AreAllPlanted u s (node ∷ []) parts v w → IsPlanted t q node parts v w
planted_there t u v q r s w node value parts e waiting parked without all =
    let same : s.waiting ≡ q.waiting = without.waiting ∙ waiting in
    record {
      room = u.room;
      tree = all.tree ∙ ap (λ (x : WorkTreeValue). with_parts x (node ∷ []) parts) e;
      queue = record {
        value = value;
        parked = subst (λ (xs : List Entry). IsPermutation xs (entry node value ∷ w.parked)) parked
            (IsPermutation-trans _ _ _ without.parked (IsPermutation-cons (entry node value) _ _ all.parked));
        waiting = subst (λ (x : WorkTreeValue). IsPermutation (news x (node ∷ []) parts ++ q.waiting) w.waiting) e
            (subst (λ (xs : List Entry). IsPermutation (news u (node ∷ []) parts ++ xs) w.waiting) same all.waits);
      };
    }

-- ---- what the code keeps turned round

pub popped : (t : WorkTreeValue) (q : QueueValue) (nodes : List ℕ) (parts : List Part) (u : WorkTreeValue)
    (r : QueueValue) (waiting fewer : List ℕ) (n : ℕ) (left shorter : List Part) (part : Part)
    → ArePlanted t q nodes parts u r (reverse waiting) (reverse left) → waiting ≡ fewer ++ n ∷ []
    → left ≡ shorter ++ part ∷ []
    → ArePlanted t q nodes parts u r (n ∷ reverse fewer) (part ∷ reverse shorter)
popped t q nodes parts u r waiting fewer n left shorter part h e f =
    subst (λ (x : List ℕ). ArePlanted t q nodes parts u r x (part ∷ reverse shorter)) (turned waiting fewer n e)
    (subst (λ (x : List Part). ArePlanted t q nodes parts u r (reverse waiting) x) (turned left shorter part f) h)

pub few_wait : (u : WorkTreeValue) (r : QueueValue) (waiting : List ℕ) (left : List Part)
    → AreReady u r (reverse waiting) (reverse left) → length waiting ≤ length left
few_wait u r waiting left h =
    let enough = enough_parts (length (reverse waiting)) (reverse left) h.shape in
    omega (arith, enough, length-reverse waiting, length-reverse left)

pub all_told : (t : WorkTreeValue) (q : QueueValue) (nodes told_nodes : List ℕ) (parts told : List Part)
    (u : WorkTreeValue) (r : QueueValue) → AreAllPlanted t q nodes parts u r → nodes ≡ told_nodes → parts ≡ told
    → AreAllPlanted t q told_nodes told u r
all_told t q nodes told_nodes parts told u r h e f =
    subst (λ (x : List ℕ). AreAllPlanted t q x told u r) e
    (subst (λ (x : List Part). AreAllPlanted t q nodes x u r) f h)
