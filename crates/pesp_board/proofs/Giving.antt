-- What is given is taken or refused, and what becomes of the board.
use Rattle.std.proofs.Common.{◌≡◌, ℕ, zero, suc, ◌+◌, ◌<◌, ◌≤◌, List, [], ◌∷◌, ◌++◌, length, set, map, refl, sym, ap, ◌∙◌, arith, subst, true}
use Rattle.std.specs.Prelude.{Option, Some, Result, Ok, Err, IsErrAnd, Contains, sum_by}
use Rattle.pesp_problem.specs.declared.pair.Pair.{Pair}
use Rattle.std.proofs.lemmas.List.{length-map}
use Rattle.pesp_truth.specs.Trees.{Line, Bound, preorder, are_trees}
use Rattle.pesp_truth.specs.Leaves.{put}
use Rattle.pesp_truth.proofs.Lines.{whole_tree}
use Rattle.pesp_nodes.specs.Problems.{ProblemValue}
use Rattle.pesp_tree.specs.WorkTrees.{WorkTreeValue, IsWhole, path_to, leaf_at, with_room}
use Rattle.pesp_tree.specs.Entries.{entry, HasItem, ItemsDiffer}
use Rattle.pesp_tree.specs.Queues.{QueueValue, all_of}
use Rattle.pesp_tree.specs.declared.work.Work.{Work}
use Rattle.pesp_tree.specs.declared.refusal.GiveRefusal.{GiveRefusal}
use Rattle.pesp_tree.specs.declared.refusal.GiveRefusal.TheVariants.{UnknownJob, AlreadyGiven, NotValid, Memory, TooLarge}
use Rattle.pesp_tree.specs.Limits.{pairs_in}
use Rattle.pesp_tree.specs.States.{State, Lent, Given, HasLeaf}
use Rattle.pesp_tree.specs.Events.{Gives, Takes, Give}
use Rattle.pesp_tree.proofs.Making.{not_valid_is}
use Rattle.pesp_tree.proofs.Sizes.{put_lines_add_up}
use Rattle.pesp_tree.proofs.Runs.{step_is_orderly}
use Rattle.pesp_board.specs.declared.best.Best.{Best}
use Rattle.pesp_board.specs.declared.slot.Slot.{Slot}
use Rattle.pesp_board.specs.declared.slot.Slot.TheVariants.{Lent as LentSlot, Given as GivenSlot, Recalled as RecalledSlot}
use Rattle.pesp_board.specs.declared.part.Part.{Part}
use Rattle.pesp_board.specs.Insides.{ticket_of, times_of, state_of, slot_at, IsBoard, IsQueue}
use Rattle.pesp_board.specs.Parts.{part_line, part_lines}
use Rattle.pesp_board.specs.Giving.{LendsOrRefuses, MakesAt, MakesPart, IsWorkable, IsSameQueue}
use Rattle.pesp_board.specs.Growing.{with_parts, news, IsPlanted}
use Rattle.pesp_board.proofs.Slots.{ticket_is, map_set, one_number}
use Rattle.pesp_board.proofs.Lending.{some_leaf}
use Rattle.pesp_board.proofs.Lent.{leaf_within}
use Rattle.pesp_board.proofs.Telling.{lent_leaf_is}
use Rattle.pesp_board.proofs.Changing.{IsChanged, changed_queue}
use Rattle.pesp_board.proofs.Growing.{one_changed, one_tree_grown}

-- the number is lent with this node
pub record IsLentWith (slots : List Slot) (number node : ℕ) : Type 0 where
  pub within : number < length slots
  pub slot : slot_at slots number ≡ LentSlot node

pub lent_is : (read slots : List Slot) (number node : ℕ) → read ≡ slots → LendsOrRefuses read number (Ok node)
    → IsLentWith slots number node
lent_is read slots number node e h = let here =
    subst (λ (xs : List Slot). LendsOrRefuses xs number (Ok node)) e h in record { within = here.0; slot = here.1 }

-- ---- refusals

-- the leaf with which the number is lent
has_leaf : (t : WorkTreeValue) (slots : List Slot) (times : Option (List ℕ)) (number node : ℕ) (pairs : List Pair)
    → IsWhole t → IsLentWith slots number node → leaf_at t node ≡ Some (Bound pairs)
    → HasLeaf (state_of t slots times) number (path_to t node) pairs
has_leaf t slots times number node pairs w l e = (ticket_is t slots number ∙ ap (ticket_of t) l.slot, w.stands node (Bound pairs) e)

pub no_memory : (p : ProblemValue) (t u : WorkTreeValue) (slots : List Slot) (times : Option (List ℕ))
    (number node : ℕ) (work : Work) → IsLentWith slots number node → u ≡ t
    → Gives p (state_of t slots times) number work (Err Memory) (state_of u slots times)
no_memory p t u slots times number node work l e = (
  ap (λ (x : WorkTreeValue). state_of x slots times) e,
  (path_to t node, ticket_is t slots number ∙ ap (ticket_of t) l.slot),
)

pub not_made : (p : ProblemValue) (t : WorkTreeValue) (slots : List Slot) (q : ℕ) (times : Option (List ℕ))
    (number node : ℕ) (work : Work) (refusal : GiveRefusal) → IsWhole t → IsLentWith slots number node
    → IsWorkable p t node q → MakesAt p t node work (Err refusal)
    → Gives p (state_of t slots times) number work (Err refusal) (state_of t slots times)
not_made p t slots q times number node work UnknownJob w l k m = absurd m
not_made p t slots q times number node work AlreadyGiven w l k m = absurd m
not_made p t slots q times number node work NotValid w l k m = (
  refl,
  not_valid_is p (state_of t slots times) number work (path_to t node) m.0
      (has_leaf t slots times number node m.0 w l m.1) m.2,
)
not_made p t slots q times number node work Memory w l k m = no_memory p t t slots times number node work l refl
not_made p t slots q times number node work TooLarge w l k m = (
  refl,
  record {
    path = path_to t node;
    pairs = m.pairs;
    leaf = has_leaf t slots times number node m.pairs w l m.leaf;
    part = m.new;
    makes = m.makes;
    large = m.large;
  },
)

-- a refusal that is told on
pub told_as : (p : ProblemValue) (old new : State) (number : ℕ) (work : Work)
    (result : Result (Unit {0}) GiveRefusal) (refusal : GiveRefusal) → IsErrAnd result (λ told. told ≡ refusal)
    → Gives p old number work (Err refusal) new → Gives p old number work result new
told_as p old new number work (Ok done) refusal e g = absurd e
told_as p old new number work (Err told) refusal e g = subst (λ (x : GiveRefusal). Gives p old number work (Err x) new) (sym e) g

-- ---- the state

ticket_same : (t u : WorkTreeValue) (s : Slot) → ((n : ℕ) → s ≡ LentSlot n → path_to u n ≡ path_to t n) → ticket_of u s ≡ ticket_of t s
ticket_same t u (LentSlot n) h = ap Lent (h n refl)
ticket_same t u GivenSlot h = refl
ticket_same t u RecalledSlot h = refl

-- the tickets of slots are the same where the paths of lent nodes are
tickets_same : (t u : WorkTreeValue) (slots : List Slot)
    → ((i n : ℕ) → slot_at slots i ≡ LentSlot n → path_to u n ≡ path_to t n)
    → map (ticket_of u) slots ≡ map (ticket_of t) slots
tickets_same t u [] h = refl
tickets_same t u (s ∷ slots) h =
    let first = ticket_same t u s (h 0) in
    let rest = tickets_same t u slots (λ i n e. h (suc i) n e) in
    cc

-- a lent node is one of the tree's
lent_within : (p : ProblemValue) (t : WorkTreeValue) (slots : List Slot) (q : QueueValue) (best : Option Best)
    (count number node : ℕ) → IsBoard p t slots q best count → IsLentWith slots number node → node < length t.leaves
lent_within p t slots q best count number node b l = (lent_leaf_is p t slots q best count number node b (l.within, l.slot)).2

slot_within : (slots : List Slot) (i n : ℕ) → slot_at slots i ≡ LentSlot n → i < length slots
slot_within [] i n e = cc
slot_within (s ∷ slots) zero n e = omega arith
slot_within (s ∷ slots) (suc i) n e = omega (arith, slot_within slots i n e)

state_with : (p : ProblemValue) (t u : WorkTreeValue) (slots : List Slot) (q : QueueValue) (best : Option Best)
    (count number : ℕ) → IsBoard p t slots q best count
    → ((n : ℕ) → n < length t.leaves → path_to u n ≡ path_to t n)
    → map (ticket_of u) (set slots number GivenSlot) ≡ set (map (ticket_of t) slots) number Given
state_with p t u slots q best count number b same =
    map_set u slots number GivenSlot
    ∙ ap (λ tickets. set tickets number Given)
    (tickets_same t u slots (λ i n e. same n (lent_within p t slots q best count i n b
    (record { within = slot_within slots i n e; slot = e }))))

-- ---- what is taken

-- the parts are whole trees
pub parts_shape : (p : ProblemValue) (t : WorkTreeValue) (node count : ℕ) (work : Work) (parts : List Part)
    → MakesPart p t node work parts count → are_trees 1 (part_lines parts) ≡ true
parts_shape p t node count work parts m = (whole_tree (part_lines parts)).1 (m.made.tree, m.made.lines)

-- what the lent leaf becomes
parts_changed : (p : ProblemValue) (t : WorkTreeValue) (node count room : ℕ) (work : Work) (parts : List Part)
    → IsWhole t → MakesPart p t node work parts count
    → IsChanged p t (with_parts (with_room t room) (node ∷ []) parts) node (news (with_room t room) (node ∷ []) parts)
parts_changed p t node count room work parts w m =
    let c = one_changed p (with_room t room) node parts w.counted
    (some_leaf (leaf_at t node) (Bound m.pairs) m.leaf)
    (parts_shape p t node count work parts m) m.made.valued in
    record { leaves = c.leaves; paths = c.paths; each = c.each; has = c.has }

tree_with : (p : ProblemValue) (t : WorkTreeValue) (node count room : ℕ) (work : Work) (parts : List Part)
    → IsWhole t → (m : MakesPart p t node work parts count)
    → (with_parts (with_room t room) (node ∷ []) parts).tree ≡ put t.tree (path_to t node) m.made.tree
tree_with p t node count room work parts w m =
    one_tree_grown (with_room t room) node parts m.made.tree w.counted
    (some_leaf (leaf_at t node) (Bound m.pairs) m.leaf) m.made.lines

taken : (p : ProblemValue) (t : WorkTreeValue) (slots : List Slot) (q : QueueValue) (best : Option Best)
    (old count number node room : ℕ) (work : Work) (parts : List Part) → IsBoard p t slots q best old
    → IsLentWith slots number node → MakesPart p t node work parts count
    → Takes p (state_of t slots (times_of best)) number work
    (state_of (with_parts (with_room t room) (node ∷ []) parts) (set slots number GivenSlot) (times_of best))
taken p t slots q best old count number node room work parts b l m =
    let c = parts_changed p t node count room work parts b.whole m in
    let tickets = state_with p t (with_parts (with_room t room) (node ∷ []) parts) slots q best old number b c.paths in
    record {
      path = path_to t node;
      pairs = m.pairs;
      leaf = has_leaf t slots (times_of best) number node m.pairs b.whole l m.leaf;
      part = m.made.tree;
      makes = m.made.makes;
      small = m.small;
      state = λ i. record { tree = tree_with p t node count room work parts b.whole m i; numbers = tickets i; best = times_of best };
    }

-- what is given and taken
pub given : (p : ProblemValue) (t u : WorkTreeValue) (slots : List Slot) (q r : QueueValue) (best : Option Best)
    (old count number node : ℕ) (work : Work) (parts : List Part) (done : Unit {0}) → IsBoard p t slots q best old
    → IsLentWith slots number node → MakesPart p t node work parts count
    → IsPlanted t q node parts u r → Gives p (state_of t slots (times_of best)) number work (Ok done)
    (state_of u (set slots number GivenSlot) (times_of best))
given p t u slots q r best old count number node work parts done b l m k =
    rw (k.tree) (taken p t slots q best old count number node k.room work parts b l m)

pub given_board : (p : ProblemValue) (t u : WorkTreeValue) (slots : List Slot) (q r : QueueValue)
    (best : Option Best) (old count number node : ℕ) (work : Work) (parts : List Part)
    → IsBoard p t slots q best old → IsLentWith slots number node → ItemsDiffer (all_of q)
    → MakesPart p t node work parts count
    → IsPlanted t q node parts u r → IsWhole u → IsBoard p u (set slots number GivenSlot) r best count
given_board p t u slots q r best old count number node work parts b l differ m k whole =
    let new = with_parts (with_room t k.room) (node ∷ []) parts in
    rw (k.tree) (record {
      network = b.network;
      table = b.table;
      whole = subst IsWhole k.tree whole;
      orderly = step_is_orderly p (state_of t slots (times_of best)) (Give number work (Ok tt))
          (state_of new (set slots number GivenSlot) (times_of best)) b.network b.table b.orderly
          (taken p t slots q best old count number node k.room work parts b l m);
      queue = changed_queue p t new slots q r number node (news (with_room t k.room) (node ∷ []) parts) b.queue
          (one_number p t slots (times_of best) b.orderly) differ l.within l.slot
          (parts_changed p t node count k.room work parts b.whole m) k.queue;
      cost = b.cost;
      pairs = m.count ∙ ap (λ tree. sum_by pairs_in (preorder tree)) (sym (tree_with p t node count k.room work parts b.whole m));
    })

-- ---- what is left

-- the lent node has a leaf at which work can be taken
pub workable : (p : ProblemValue) (t : WorkTreeValue) (slots : List Slot) (q : QueueValue) (best : Option Best)
    (count number node : ℕ) → IsBoard p t slots q best count → IsLentWith slots number node
    → IsWorkable p t node count
workable p t slots q best count number node b l =
    let leaf = lent_leaf_is p t slots q best count number node b (l.within, l.slot) in
    record { pairs = leaf.0; leaf = leaf.1; limits = b.orderly.limits; count = b.pairs }

pub is_lent_parked : (p : ProblemValue) (t : WorkTreeValue) (slots : List Slot) (q : QueueValue) (number node : ℕ)
    → IsQueue p t slots q → IsLentWith slots number node → HasItem q.parked node
is_lent_parked p t slots q number node is l = is.lent node (number, l.slot)

-- no node beyond those of the tree is in the queue
pub none_beyond : (p : ProblemValue) (t : WorkTreeValue) (slots : List Slot) (q : QueueValue) → IsQueue p t slots q
    → (item : ℕ) → length t.leaves ≤ item → HasItem (all_of q) item → ⊥
none_beyond p t slots q is item past has =
    let worth = is.each (entry item has.0) has.1 in
    let within = leaf_within t.leaves item (Bound worth.pairs) worth.leaf in
    omega (arith, past, within)

-- room for lines
pub lines_fit : (p : ProblemValue) (t : WorkTreeValue) (node count : ℕ) (work : Work) (parts : List Part)
    → IsWhole t → MakesPart p t node work parts count → length t.leaves + length parts ≤ 1000001
lines_fit p t node count work parts w m =
    let added = put_lines_add_up t.tree (path_to t node) (Bound m.pairs) m.made.tree (w.stands node (Bound m.pairs) m.leaf) in
    let most = m.small.lines in
    let lines = w.lines in
    let own : length (preorder m.made.tree) ≡ length (part_lines parts) = ap (λ (l : List Line). length l) m.made.lines in
    let counted = length-map parts part_line in
    omega (arith, added, most, lines, own, counted)

same_queue : (p : ProblemValue) (t : WorkTreeValue) (slots : List Slot) (q r : QueueValue) → IsQueue p t slots q
    → IsSameQueue q r → IsQueue p t slots r
same_queue p t slots q r is same =
    let all : all_of q ≡ all_of r = sym (λ i. same.waiting i ++ same.parked i) in
    record {
      each = λ e h. is.each e (subst (λ xs. Contains xs e) (sym all) h);
      has = λ n pairs l. subst (λ xs. HasItem xs n) all (is.has n pairs l);
      lent = λ n l. subst (λ xs. HasItem xs n) (sym same.parked) (is.lent n l);
      parked = λ n h. is.parked n (subst (λ xs. HasItem xs n) same.parked h);
    }

-- where nothing is taken the board is kept as it was
pub same_board : (p : ProblemValue) (t u : WorkTreeValue) (slots : List Slot) (q r : QueueValue)
    (best : Option Best) (count : ℕ) → IsBoard p t slots q best count → u ≡ t → IsSameQueue q r
    → IsBoard p u slots r best count
same_board p t u slots q r best count b e same = rw e (record {
  network = b.network;
  table = b.table;
  whole = b.whole;
  orderly = b.orderly;
  queue = same_queue p t slots q r b.queue same;
  cost = b.cost;
  pairs = b.pairs;
})
