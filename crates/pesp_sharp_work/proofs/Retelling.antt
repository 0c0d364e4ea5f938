-- A certificate with the answer that its tree shows.
use Rattle.std.proofs.Common.{◌≡◌, ℕ, ◌<◌, ◌≤◌, arith, ap, sym, ◌∙◌, refl, subst, List, [], ◌∷◌, Option, Some, None, Bool, true, false}
use Rattle.std.specs.Prelude.{ℤ, pos, negsuc, min, ◌≤ℤ◌, ◌&&◌, nat_lt, if◌then◌else◌, option_map}
use Rattle.std.proofs.lemmas.Int.{ints}
use Rattle.std.proofs.lemmas.Bool.Decides.{nat_tests}
use Rattle.pesp_problem.specs.declared.row.SignedRow.{SignedRow}
use Rattle.pesp_problem.specs.Timetables.{Pesp}
use Rattle.pesp_problem.specs.declared.pair.Pair.{Pair}
use Rattle.pesp_problem.specs.Arcs.{Net, arc_at, net_of}
use Rattle.pesp_problem.specs.Nodes.{Node, root, low_part, high_part, leaf_value}
use Rattle.pesp_truth.specs.declared.answer.Answer.{Answer}
use Rattle.pesp_truth.specs.declared.answer.Answer.TheVariants.{Optimal, Infeasible, Bounded}
use Rattle.pesp_truth.specs.Trees.{Tree, Line, EndLine, CutLine, Reason, ByPairs, ByGap, ByPropagation, Bound, Shut, preorder, Reaches, value_rounded, bound_by, IsShut, IsSoundLeaf, IsSound, AreSound}
use Rattle.pesp_truth.specs.Certificates.{Content, lines_of, least_of, cost_of, Front, claim_of, ShowsTimetable, ShowsAnswer, shown_labels, shown_times, IsValid}
use Rattle.pesp_truth.specs.Shown.{lemmas_of}
use Rattle.pesp_truth.proofs.Lines.{sound_as_tree, sound_as_lines}
use Rattle.pesp_cert.specs.Limits.{is_cost, has_costs, ContentKeepsLimits}
use Rattle.pesp_cert.specs.Fronted.{Fronted}
use Rattle.pesp_whole_check.specs.Costs.{told, shown_at, shown_in, shown_of}
use Rattle.pesp_tree.specs.States.{IsAtMost}
use Rattle.pesp_sharp_work.specs.Told.{least_shown, answer_of, TellsLeast, IsRetold}
use Rattle.pesp_sharp_work.proofs.Lesser.{IsReached, AreCosts, least_is_reached, least_within_cost, reached_by_least, least_cost}

-- ---- one leaf

told_reached : (v : ℤ) (m l : ℕ) → pos m ≤ℤ v → l ≤ told v → pos l ≤ℤ v
told_reached (pos n) m l a r = let few : l ≤ n = omega (arith, r) in omega (arith, ints, few)
told_reached (negsuc n) m l a r = absurd (omega (arith, ints, a))

value_reached : (value : Option ℤ) (least l : Option ℕ) → Reaches value (option_map pos least) → IsAtMost l (option_map told value)
    → Reaches value (option_map pos l)
value_reached value None l a r = absurd a
value_reached None (Some m) l a r = absurd a
value_reached (Some v) (Some m) None a r = absurd r
value_reached (Some v) (Some m) (Some l) a r = told_reached v m l a r

told_above : (v : ℤ) (m : ℕ) → pos m ≤ℤ v → nat_lt m 1000000000000000000 ≡ true → m ≤ told v
told_above (pos n) m a c =
    let small : m < 1000000000000000000 = grind (arith, nat_tests, c) in
    let few : m ≤ n = omega (arith, ints, a) in
    omega (arith, small, few)
told_above (negsuc n) m a c = absurd (omega (arith, ints, a))

value_above : (value : Option ℤ) (least : Option ℕ) → Reaches value (option_map pos least) → is_cost least ≡ true → IsAtMost least (option_map told value)
value_above value None a c = absurd a
value_above None (Some m) a c = absurd a
value_above (Some v) (Some m) a c = told_above v m a c

value_cost : (value : Option ℤ) → is_cost (option_map told value) ≡ true
value_cost None = refl
value_cost (Some (pos n)) = let few : min n 999999999999999999 < 1000000000000000000 = omega arith in grind (arith, nat_tests, few)
value_cost (Some (negsuc n)) = refl

-- ---- lines

module _ (n : Net) (table : List (List SignedRow)) where
  -- a bound leaf shows what it showed, whichever least cost is claimed
  bound_for : (front : Option Front) (least l : Option ℕ) (pairs : List Pair) (node : Node)
      → IsSoundLeaf (claim_of front n least) n table (Bound pairs) node
      → IsAtMost l (shown_at (claim_of front n least) n table (Bound pairs) node)
      → IsSoundLeaf (claim_of front n l) n table (Bound pairs) node
  bound_for None least l pairs node s r = (s.0, value_reached (leaf_value n table node pairs true) least l s.1 r)
  bound_for (Some f) least l pairs node s r =
      (s.0, value_reached (value_rounded f.marks (lemmas_of f.lemmas) n table node pairs (λ i. pos (arc_at n.arcs i).weight)) least l s.1 r)

  bound_above : (front : Option Front) (least : Option ℕ) (pairs : List Pair) (node : Node)
      → IsSoundLeaf (claim_of front n least) n table (Bound pairs) node → is_cost least ≡ true
      → IsAtMost least (shown_at (claim_of front n least) n table (Bound pairs) node)
  bound_above None least pairs node s c = value_above (leaf_value n table node pairs true) least s.1 c
  bound_above (Some f) least pairs node s c =
      value_above (value_rounded f.marks (lemmas_of f.lemmas) n table node pairs (λ i. pos (arc_at n.arcs i).weight)) least s.1 c

  bound_still : (front : Option Front) (least l : Option ℕ) (pairs : List Pair) (node : Node)
      → shown_at (claim_of front n least) n table (Bound pairs) node ≡ shown_at (claim_of front n l) n table (Bound pairs) node
  bound_still None least l pairs node = refl
  bound_still (Some f) least l pairs node = refl

  shut_still : (front : Option Front) (least l : Option ℕ) (reason : Reason) (node : Node)
      → IsShut (claim_of front n least) n table reason node → IsShut (claim_of front n l) n table reason node
  shut_still None least l (ByPairs pairs) node s = s
  shut_still (Some f) least l (ByPairs pairs) node s = s
  shut_still front least l (ByGap cycle) node s = s
  shut_still front least l ByPropagation node s = s

  module _ (front : Option Front) where
    abbrev AreSoundFor : Option ℕ → List Line → List Node → Type 0
    AreSoundFor least lines nodes = AreSound (claim_of front n least) n table lines nodes

    abbrev shown_for : Option ℕ → List Line → List Node → List (Option ℕ)
    shown_for least lines nodes = shown_in (claim_of front n least) n table lines nodes

    sound_for : (least l : Option ℕ) (lines : List Line) (nodes : List Node) → AreSoundFor least lines nodes
        → IsReached l (shown_for least lines nodes) → AreSoundFor l lines nodes
    sound_for least l [] [] s r = tt
    sound_for least l [] (node ∷ nodes) s r = absurd s
    sound_for least l (line ∷ lines) [] s r = absurd s
    sound_for least l (EndLine (Bound pairs) ∷ lines) (node ∷ nodes) s r =
        (bound_for front least l pairs node s.0 r.0, sound_for least l lines nodes s.1 r.1)
    sound_for least l (EndLine (Shut reason) ∷ lines) (node ∷ nodes) s r =
        (shut_still front least l reason node s.0, sound_for least l lines nodes s.1 r.1)
    sound_for least l (CutLine cut ∷ lines) (node ∷ nodes) s r = (
      s.0,
      sound_for least l lines (low_part node cut ∷ high_part node cut ∷ nodes) s.1 r.1,
    )

    reached_before : (least : Option ℕ) → is_cost least ≡ true → (lines : List Line) (nodes : List Node) → AreSoundFor least lines nodes
        → IsReached least (shown_for least lines nodes)
    reached_before least c [] nodes s = tt
    reached_before least c (line ∷ lines) [] s = tt
    reached_before least c (EndLine (Bound pairs) ∷ lines) (node ∷ nodes) s =
        (bound_above front least pairs node s.0 c, reached_before least c lines nodes s.1)
    reached_before least c (EndLine (Shut reason) ∷ lines) (node ∷ nodes) s = (tt, reached_before least c lines nodes s.1)
    reached_before least c (CutLine cut ∷ lines) (node ∷ nodes) s = (
      tt,
      reached_before least c lines (low_part node cut ∷ high_part node cut ∷ nodes) s.1,
    )

    shown_costs : (least : Option ℕ) (lines : List Line) (nodes : List Node) → AreCosts (shown_for least lines nodes)
    shown_costs least [] nodes = tt
    shown_costs least (line ∷ lines) [] = tt
    shown_costs least (EndLine (Bound pairs) ∷ lines) (node ∷ nodes) =
        (value_cost (bound_by (claim_of front n least) n table node pairs), shown_costs least lines nodes)
    shown_costs least (EndLine (Shut reason) ∷ lines) (node ∷ nodes) = (refl, shown_costs least lines nodes)
    shown_costs least (CutLine cut ∷ lines) (node ∷ nodes) =
        (refl, shown_costs least lines (low_part node cut ∷ high_part node cut ∷ nodes))

    shown_still : (least l : Option ℕ) (lines : List Line) (nodes : List Node) → shown_for least lines nodes ≡ shown_for l lines nodes
    shown_still least l [] nodes = refl
    shown_still least l (line ∷ lines) [] = refl
    shown_still least l (EndLine (Bound pairs) ∷ lines) (node ∷ nodes) =
        rw (bound_still front least l pairs node, shown_still least l lines nodes) refl
    shown_still least l (EndLine (Shut reason) ∷ lines) (node ∷ nodes) = rw (shown_still least l lines nodes) refl
    shown_still least l (CutLine cut ∷ lines) (node ∷ nodes) =
        rw (shown_still least l lines (low_part node cut ∷ high_part node cut ∷ nodes)) refl

-- ---- answers

answer_costs : (l cost : Option ℕ) → is_cost l ≡ true → is_cost cost ≡ true → has_costs (answer_of l cost) ≡ true
answer_costs None cost h k = refl
answer_costs (Some l) None h k = ap (λ (b : Bool). b && true) h
answer_costs (Some l) (Some c) h k = go (nat_lt l c)
  where
    go : (b : Bool) → has_costs (if b then Bounded l (Some c) else Optimal c) ≡ true
    go true = ap (λ (b : Bool). b && nat_lt c 1000000000000000000) h ∙ k
    go false = k

cost_is_cost : (answer : Answer) → has_costs answer ≡ true → is_cost (cost_of answer) ≡ true
cost_is_cost (Optimal c) h = h
cost_is_cost Infeasible h = refl
cost_is_cost (Bounded l cost) h = second (nat_lt l 1000000000000000000) (is_cost cost) h
  where
    second : (a b : Bool) → (a && b) ≡ true → b ≡ true
    second true b e = e
    second false b e = cc

least_is_cost : (answer : Answer) → has_costs answer ≡ true → is_cost (least_of answer) ≡ true
least_is_cost (Optimal c) h = h
least_is_cost Infeasible h = refl
least_is_cost (Bounded l cost) h = first (nat_lt l 1000000000000000000) (is_cost cost) h
  where
    first : (a b : Bool) → (a && b) ≡ true → a ≡ true
    first true b e = refl
    first false b e = cc

told_least : (l cost : Option ℕ) → IsAtMost l cost → (least_of (answer_of l cost) ≡ l) × (cost_of (answer_of l cost) ≡ cost)
told_least None None h = (refl, refl)
told_least None (Some c) h = absurd h
told_least (Some l) None h = (refl, refl)
told_least (Some l) (Some c) h = go (nat_lt l c) (λ e. let above : c ≤ l = grind (arith, nat_tests, e) in omega (arith, above, h))
  where
    go : (b : Bool) → (b ≡ false → l ≡ c) → (least_of (if b then Bounded l (Some c) else Optimal c) ≡ Some l)
        × (cost_of (if b then Bounded l (Some c) else Optimal c) ≡ Some c)
    go true same = (refl, refl)
    go false same = (sym (ap (λ (n : ℕ). Some n) (same refl)), refl)

module _ (p : Pesp) where
  timed : (l c : ℕ) (labels : List ℤ) (times : List ℕ) → ShowsTimetable p labels times c
      → ShowsAnswer p (answer_of (Some l) (Some c)) labels times
  timed l c labels times s = go (nat_lt l c) (λ e. grind (arith, nat_tests, e))
    where
      go : (b : Bool) → (b ≡ true → l < c) → ShowsAnswer p (if b then Bounded l (Some c) else Optimal c) labels times
      go true less = (less refl, s)
      go false less = s

  shows_still : (old : Answer) (l : Option ℕ) (labels : List ℤ) (times : List ℕ) → IsAtMost l (cost_of old)
      → ShowsAnswer p old labels times → ShowsAnswer p (answer_of l (cost_of old)) labels times
  shows_still (Optimal c) None labels times h s = absurd h
  shows_still (Optimal c) (Some l) labels times h s = timed l c labels times s
  shows_still Infeasible None labels times h s = s
  shows_still Infeasible (Some l) labels times h s = s
  shows_still (Bounded m None) None labels times h s = s
  shows_still (Bounded m None) (Some l) labels times h s = s
  shows_still (Bounded m (Some c)) None labels times h s = absurd h
  shows_still (Bounded m (Some c)) (Some l) labels times h s = timed l c labels times s.1

  -- a bound that is told isn't above the cost
  within : (old : Answer) (labels : List ℤ) (times : List ℕ) → ShowsAnswer p old labels times → IsAtMost (least_of old) (cost_of old)
  within (Optimal c) labels times s = omega arith
  within Infeasible labels times s = tt
  within (Bounded m None) labels times s = tt
  within (Bounded m (Some c)) labels times s = let less = s.0 in omega (arith, less)

-- ---- certificates

abbrev with_new : Content → Answer → Content
with_new content answer = record content { answer = answer }

module _ (p : Pesp) (c : Fronted) (limits : ContentKeepsLimits c.content) (valid : IsValid c.front p c.content) where
  lines : AreSoundFor (net_of p) c.content.cycles c.front (least_of c.content.answer) (lines_of c.content) (root (net_of p) c.content.cycles ∷ [])
  lines = sound_as_lines (claim_of c.front (net_of p) (least_of c.content.answer)) (net_of p) c.content.cycles (lines_of c.content)
      (root (net_of p) c.content.cycles) valid.tree

  known : is_cost (least_of c.content.answer) ≡ true
  known = least_is_cost c.content.answer limits.answer

  pub new_costs : has_costs (answer_of (least_shown (cost_of c.content.answer) (shown_of p c)) (cost_of c.content.answer)) ≡ true
  new_costs =
      let own = cost_is_cost c.content.answer limits.answer in
      answer_costs (least_shown (cost_of c.content.answer) (shown_of p c)) (cost_of c.content.answer)
      (least_cost (cost_of c.content.answer) (shown_of p c) own
      (shown_costs (net_of p) c.content.cycles c.front (least_of c.content.answer) (lines_of c.content) (root (net_of p) c.content.cycles ∷ [])))
      own

  pub retold_is : (content : Content) → content ≡ record c.content {
    answer = answer_of (least_shown (cost_of c.content.answer) (shown_of p c)) (cost_of c.content.answer);
  } → IsRetold p c (record { front = c.front; content = content })
  retold_is content is =
      let n = net_of p in
      let table = c.content.cycles in
      let nodes : List Node = root n table ∷ [] in
      let old = least_of c.content.answer in
      let cost = cost_of c.content.answer in
      let shown = shown_of p c in
      let least = least_shown cost shown in
      let new : Content = record c.content { answer = answer_of least cost } in
      let below = least_within_cost cost shown in
      let tells = told_least least cost below in
      let sound = sound_for n table c.front old least (lines_of c.content) nodes lines (least_is_reached cost shown) in
      let tree = sound_as_tree (claim_of c.front n least) n table (lines_of c.content) (root n table) sound in
      let S : Option ℕ → Type 0 = λ l. (tree : Tree) × (preorder tree ≡ lines_of c.content)
      × IsSound (claim_of c.front n l) n table tree (root n table) in
      let as_new : IsValid c.front p new = record {
        shown = valid.shown;
        period = valid.period;
        answer = shows_still p c.content.answer least (shown_labels c.content) (shown_times c.content) below valid.answer;
        cycles = valid.cycles;
        tree = subst S (sym tells.0) tree;
      } in
      let reached = reached_by_least old cost shown
      (within p c.content.answer (shown_labels c.content) (shown_times c.content) valid.answer)
      (reached_before n table c.front old known (lines_of c.content) nodes lines) in
      let same : shown ≡ shown_of p (record { front = c.front; content = new }) =
      shown_still n table c.front old (least_of new.answer) (lines_of c.content) nodes in
      let R : Content → Type 0 = λ content. IsRetold p c (record { front = c.front; content = content }) in
      let there : R new = record {
        valid = as_new;
        told = tells.0 ∙ ap (λ (o : Option ℕ). least_shown o shown) (sym tells.1) ∙ ap (least_shown (cost_of new.answer)) same;
        same = refl;
        least = subst (IsAtMost old) (sym tells.0) reached;
        cost = tells.1;
      } in
      subst R (sym is) there

  -- the same of what was computed
  module _ (answer : Answer) (cost least : Option ℕ) (shown : List (Option ℕ)) (new : Answer) (a : answer ≡ c.content.answer)
      (k : cost ≡ cost_of answer) (s : shown ≡ shown_of p c) (l : least ≡ least_shown cost shown) (n : new ≡ answer_of least cost) where
    new_is : new ≡ answer_of (least_shown (cost_of c.content.answer) (shown_of p c)) (cost_of c.content.answer)
    new_is =
        let costs : cost ≡ cost_of c.content.answer = k ∙ ap cost_of a in
        let leasts : least ≡ least_shown (cost_of c.content.answer) (shown_of p c) =
        l ∙ ap (λ (x : Option ℕ). least_shown x shown) costs ∙ ap (least_shown (cost_of c.content.answer)) s in
        n ∙ ap (λ (x : Option ℕ). answer_of x cost) leasts
        ∙ ap (answer_of (least_shown (cost_of c.content.answer) (shown_of p c))) costs

    pub again_costs : has_costs new ≡ true
    again_costs = ap has_costs new_is ∙ new_costs

    pub again : (content : Content) → content ≡ record c.content { answer = new }
        → IsRetold p c (record { front = c.front; content = content })
    again content is = retold_is content (is ∙ ap (with_new c.content) new_is)

-- ---- as it is

at_most_itself : (a : Option ℕ) → IsAtMost a a
at_most_itself None = tt
at_most_itself (Some a) = omega arith

-- a certificate that tells what its tree shows is told again as it is
pub told_itself : (p : Pesp) (c : Fronted) → IsValid c.front p c.content → TellsLeast p c → IsRetold p c c
told_itself p c valid tells = record {
  valid = valid;
  told = tells;
  same = refl;
  least = at_most_itself (least_of c.content.answer);
  cost = refl;
}
