-- A board that goes on from a valid certificate.
use Rattle.std.proofs.Common.{◌≡◌, ℕ, ◌<◌, ◌≤◌, List, [], ◌∷◌, ◌++◌, length, map, refl, sym, ap, ◌∙◌, arith, subst, append-nil, true, inl, inr}
use Rattle.std.specs.Prelude.{Option, IfSome, Contains, sum_by, nat_lt, None}
use Rattle.std.specs.List.Sorted.{IsPermutation}
use Rattle.std.proofs.lemmas.Bool.Decides.{nat_tests}
use Rattle.std.proofs.lemmas.List.{length-map}
use Rattle.std.proofs.lemmas.List.Elements.{Contains-append_cases, Contains-append_left}
use Rattle.std.proofs.lemmas.List.Sorted.{IsPermutation-sym, Contains-permutation, length_permutation}
use Rattle.pesp_problem.specs.declared.row.SignedRow.{SignedRow}
use Rattle.pesp_problem.specs.Limits as instances
use Rattle.pesp_problem.specs.Timetables.{Pesp}
use Rattle.pesp_problem.specs.Arcs.{Net}
use Rattle.pesp_problem.specs.Arcs as nets
use Rattle.pesp_problem.specs.Nodes.{root}
use Rattle.pesp_truth.specs.declared.answer.Answer.{Answer}
use Rattle.pesp_truth.specs.declared.answer.Answer.TheVariants.{Optimal, Infeasible, Bounded}
use Rattle.pesp_truth.specs.Trees.{Plain, Tree, Line, AreSound, are_trees, preorder, line_of}
use Rattle.pesp_truth.specs.Certificates.{Content, IsValid, least_of, lines_of, shown_times}
use Rattle.pesp_truth.specs.Certificates as certificates
use Rattle.pesp_truth.proofs.Lines.{sound_as_lines}
use Rattle.pesp_network.specs.Networks.{KeepsNetLimits}
use Rattle.pesp_nodes.specs.Problems.{ProblemValue, IsSmallTable}
use Rattle.pesp_tree.specs.WorkTrees.{WorkTreeValue, opening_tree, with_room}
use Rattle.pesp_tree.specs.declared.entry.Entry.{Entry}
use Rattle.pesp_tree.specs.Entries.{entry}
use Rattle.pesp_tree.specs.Queues.{QueueValue}
use Rattle.pesp_stream.specs.Number.{NATURALS}
use Rattle.pesp_cert_lines.proofs.Tests.{and_left}
use Rattle.pesp_cert.specs.Limits.{has_costs, is_cost, ContentKeepsLimits}
use Rattle.pesp_tree.specs.Limits.{pairs_in, KeepsTreeLimits}
use Rattle.pesp_tree.specs.States.{State, root_of, least, best_cost, IsAtMost}
use Rattle.pesp_tree.specs.Certificates.{IsProblemOf}
use Rattle.pesp_tree.specs.Adopting.{shown_best, Adopts}
use Rattle.pesp_tree.proofs.Certified.{same_net}
use Rattle.pesp_tree.proofs.Adopting.{adopted_is_orderly}
use Rattle.pesp_tree.proofs.Tightening.{adopted_bound, adopted_cost}
use Rattle.pesp_board.specs.declared.best.Best.{Best}
use Rattle.pesp_board.specs.declared.part.Part.{Part}
use Rattle.pesp_board.specs.declared.slot.Slot.{Slot}
use Rattle.pesp_board.specs.Insides.{ticket_of, times_of, best_cost_of, state_of, IsQueue, IsBoard}
use Rattle.pesp_board.specs.Parts.{part_line, part_lines, AreValued}
use Rattle.pesp_board.specs.Growing.{with_parts, news}
use Rattle.pesp_board.specs.Adopting.{AreSoundLines, AreLinesOf, IsPlantedAlone, IsGrownOf}
use Rattle.pesp_board.proofs.Queues.{none_held}
use Rattle.pesp_board.proofs.Opening.{nothing_lent}
use Rattle.pesp_board.proofs.Changing.{IsChanged}
use Rattle.pesp_board.proofs.Growing.{one_changed, one_tree_grown}
use Rattle.pesp_board.proofs.Planted.{AreAllPlanted}
use Rattle.pesp_board.proofs.Certified.{same_pairs}
use Rattle.pesp_board.proofs.Taken.{sound_lines_keep}

-- ---- the certificate

-- its lines are a sound tree of the problem's root
pub certificate_sound : (i : Pesp) (p : ProblemValue) (content : Content) → IsProblemOf i p
    → p.table ≡ content.cycles → IsValid None i content → AreSoundLines p (lines_of content) (root_of p ∷ [])
certificate_sound i p content o cycles v =
    let n : Net = nets.net_of i in
    let bound = least_of content.answer in
    let lines = lines_of content in
    let sound : AreSound (Plain bound) n content.cycles lines (root n content.cycles ∷ []) =
    sound_as_lines (Plain bound) n content.cycles lines (root n content.cycles) v.tree in
    let on_table : AreSound (Plain bound) n p.table lines (root n p.table ∷ []) =
    subst (λ (table : List (List SignedRow)). AreSound (Plain bound) n table lines (root n table ∷ []))
    (sym cycles) sound in
    (bound, subst (λ (m : Net). AreSound (Plain bound) m p.table lines (root m p.table ∷ [])) (sym (same_net i p o)) on_table)

short : (n : ℕ) → nat_lt n NATURALS ≡ true → n ≤ 999999999999999999
short n e = grind (arith, nat_tests, e)

pub bound_is_short : (answer : Answer) → has_costs answer ≡ true → IfSome (least_of answer) (λ l. l ≤ 999999999999999999)
bound_is_short (Optimal c) e = short c e
bound_is_short Infeasible e = tt
bound_is_short (Bounded l cost) e = short l (and_left (nat_lt l NATURALS) (is_cost cost) e)

-- as many parts as lines
pub parts_few : (content : Content) (parts : List Part) → part_lines parts ≡ lines_of content → ContentKeepsLimits content → length parts ≤ 1000000
parts_few content parts said k =
    let same = ap (λ (l : List Line). length l) said in
    let most = k.lines in
    omega (arith, same, most, length-map parts part_line, length-map content.tree line_of)

-- ---- what is planted

no_items : {X : Type 0} (xs : List X) → length xs ≡ 0 → xs ≡ []
no_items [] e = refl
no_items (x ∷ xs) e = absurd (omega (arith, e))

pub planted_alone : (parts : List Part) (t u v : WorkTreeValue) (q w : QueueValue) → t ≡ opening_tree
    → u ≡ with_room t u.room → q.waiting ≡ [] → q.parked ≡ [] → AreAllPlanted u q (0 ∷ []) parts v w
    → IsPlantedAlone parts v w
planted_alone parts t u v q w first room waiting parked all =
    let is : u ≡ with_room opening_tree u.room = room ∙ ap (λ (x : WorkTreeValue). with_room x u.room) first in
    let entries : news u (0 ∷ []) parts ++ q.waiting
    ≡ news (with_room opening_tree u.room) (0 ∷ []) parts =
    ap (λ (xs : List Entry). news u (0 ∷ []) parts ++ xs) waiting ∙ append-nil (news u (0 ∷ []) parts)
    ∙ ap (λ (x : WorkTreeValue). news x (0 ∷ []) parts) is in
    let fewer : length q.parked ≡ 0 = ap (λ (xs : List Entry). length xs) parked in
    record {
      room = u.room;
      tree = all.tree ∙ ap (λ (x : WorkTreeValue). with_parts x (0 ∷ []) parts) is;
      waiting = subst (λ (xs : List Entry). IsPermutation xs w.waiting) entries all.waits;
      parked = no_items w.parked (omega (arith, fewer, length_permutation _ _ all.parked));
    }

-- ---- the board

module _ (p : ProblemValue) (parts : List Part) (u : WorkTreeValue) (r : QueueValue)
    (shape : are_trees 1 (part_lines parts) ≡ true) (valued : AreValued p (root_of p ∷ []) parts)
    (k : IsPlantedAlone parts u r) where
  abbrev alone : WorkTreeValue
  alone = with_room opening_tree k.room

  changed : IsChanged p alone (with_parts alone (0 ∷ []) parts) 0 (news alone (0 ∷ []) parts)
  changed = one_changed p alone 0 parts refl refl shape valued

  pub alone_queue : (slots : List Slot) → slots ≡ [] → IsQueue p u slots r
  alone_queue slots none = rw none (rw (k.tree) (record {
    each = λ e h. elim (Contains-append_cases r.waiting r.parked e h) [
      | inl waits ↦ changed.each e (Contains-permutation _ _ e (IsPermutation-sym _ _ k.waiting) waits)
      | inr lies ↦ absurd (none_held e (subst (λ (xs : List Entry). Contains xs e) k.parked lies))
    ];
    has = λ n pairs e. elim (changed.has n pairs e) [
      | inl new ↦ (new.0, Contains-append_left r.waiting r.parked (entry n new.0) (Contains-permutation _ _ _ k.waiting new.1))
      | inr old ↦ (let within : n < 1 = old.0 in absurd (old.1 (omega (arith, within))))
    ];
    lent = λ n l. absurd (nothing_lent n l);
    parked = λ n h. absurd (none_held (entry n h.0) (subst (λ (xs : List Entry). Contains xs (entry n h.0)) k.parked h.1));
  }))

  pub alone_tree : (tree : Tree) → preorder tree ≡ part_lines parts → u.tree ≡ tree
  alone_tree tree said = ap (λ (x : WorkTreeValue). x.tree) k.tree ∙ one_tree_grown alone 0 parts tree refl refl said

-- what is made of a valid certificate
pub record IsMadeOf (i : Pesp) (p : ProblemValue) (content : Content) (pairs : ℕ) (u : WorkTreeValue)
    (r : QueueValue) (slots : List Slot) (best : Option Best) : Type 0 where
  pub instance : instances.KeepsLimits i
  pub certificate : ContentKeepsLimits content
  pub valid : IsValid None i content
  pub of : IsProblemOf i p
  pub cycles : p.table ≡ content.cycles
  pub grown : IsGrownOf p content u r pairs
  pub none : slots ≡ []
  pub times : times_of best ≡ shown_best content.answer (shown_times content)
  pub cost : best_cost_of best ≡ certificates.cost_of content.answer

module _ (i : Pesp) (p : ProblemValue) (content : Content) (pairs : ℕ) (u : WorkTreeValue) (r : QueueValue)
    (slots : List Slot) (best : Option Best) (m : IsMadeOf i p content pairs u r slots best) where
  abbrev pub state : State
  state = state_of u slots (times_of best)

  same_lines : preorder u.tree ≡ lines_of content
  same_lines = ap preorder (alone_tree p m.grown.parts u r m.grown.shape m.grown.valued m.grown.planted
      m.valid.tree.0 (m.valid.tree.1 ∙ sym m.grown.lines)) ∙ m.valid.tree.1

  pub made_adopts : Adopts content state
  made_adopts = record { tree = same_lines; numbers = ap (map (ticket_of u)) m.none; best = m.times }

  in_limits : KeepsTreeLimits p u.tree
  in_limits =
      let long : length (preorder u.tree) ≡ length content.tree = ap (λ (l : List Line). length l) same_lines
      ∙ length-map content.tree line_of in
      let many : sum_by pairs_in (preorder u.tree) ≡ sum_by pairs_in (lines_of content) = ap (sum_by pairs_in) same_lines in
      let few = m.certificate.lines in
      let most = m.certificate.pairs in
      record {
        small = record { lines = omega (arith, long, few); pairs = omega (arith, many, same_pairs content.tree, most) };
        lines = subst (AreLinesOf p) (sym same_lines)
            (sound_lines_keep p content.tree (root_of p ∷ []) m.certificate.each_line
            (certificate_sound i p content m.of m.cycles m.valid));
      }

  pub made_board : KeepsNetLimits p.network → IsSmallTable p.table → IsBoard p u slots r best pairs
  made_board network table = record {
    network = network;
    table = table;
    whole = m.grown.whole;
    orderly = adopted_is_orderly i p content state m.instance m.of (sym m.cycles) m.valid in_limits made_adopts;
    queue = alone_queue p m.grown.parts u r m.grown.shape m.grown.valued m.grown.planted slots m.none;
    cost = m.cost ∙ sym (adopted_cost i p content state m.of m.valid made_adopts);
    pairs = m.grown.count ∙ ap (sum_by pairs_in) (sym same_lines);
  }

  pub made_bound : IsAtMost (least_of content.answer) (least p state)
  made_bound = adopted_bound i p content state m.of (sym m.cycles) m.valid (bound_is_short content.answer m.certificate.answer) made_adopts

  pub made_cost : best_cost p state ≡ certificates.cost_of content.answer
  made_cost = adopted_cost i p content state m.of m.valid made_adopts
