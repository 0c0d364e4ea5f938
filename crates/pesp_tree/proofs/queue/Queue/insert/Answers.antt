use Rattle.std.proofs.Common.{◌≡◌, ◌+◌, ◌-◌, [], ◌∷◌, ◌++◌, length, take, drop, arith, sym, ap, subst, ◌∙◌}
use Rattle.std.proofs.lemmas.Grind.{common_steps}
use Rattle.std.proofs.lemmas.List.{length-append}
use Rattle.std.specs.List.{swap}
use Rattle.std.specs.List.Sorted.{IsPermutation}
use Rattle.pesp_tree.specs.Entries.{entry}
use Rattle.pesp_tree.proofs.Parts.{rest_kept, written}
use Rattle.pesp_tree.proofs.queue.Queue.insert.Goals as goal

pub returns-clause-parked : goal.returns-clause-parked
returns-clause-parked c =
    let v = ap (λ q. q.parked) c.self.view_is in
    let a = c.add.ensures in
    let d = c.deref_mut-2.ensures in
    let b = c.join.ensures.back in
    let xs = c.self.inside.entries.items in
    let n = c.self.inside.waiting in
    let x = entry c.args.item c.args.value in
    let before : c.deref_mut-2.result.now ≡ xs ++ x ∷ [] = d.value ∙ a.added in
    let all : length (c.deref_mut-2.result.now) ≡ length xs + 1 = ap length before ∙ length-append xs (x ∷ []) in
    let last : c.len-last.result - 1 ≡ length xs = omega (arith, c.len-last.ensures, d.len, all) in
    let long : length c.join.new.entries ≡ c.add.new.entries.len = omega (arith, d.len, c.join.auto.entries) in
    let after : take c.add.new.entries.len (c.join.new.entries
    ++ drop (length c.join.new.entries) c.add.new.entries.items)
    ≡ c.join.new.entries = written c.add.new.entries.len c.join.new.entries _ long in
    let is : drop (n + 1) c.join.new.entries ≡ drop (n + 1) (swap (xs ++ x ∷ []) n (length xs)) = b
    ∙ (λ i. drop (n + 1) (swap (before i) n (last i))) in
    let moved : IsPermutation (drop n xs) (drop (n + 1) c.join.new.entries) =
    subst (IsPermutation (drop n xs)) (sym is) (rest_kept xs x x n c.self.invariant.within) in
    subst (λ l. IsPermutation l (drop (n + 1) (take c.add.new.entries.len
    (c.join.new.entries ++ drop (length c.join.new.entries) c.add.new.entries.items)))) v
    (subst (λ l. IsPermutation (drop n xs) (drop (n + 1) l)) (sym after) moved)

pub returns-clause-waiting : goal.returns-clause-waiting
returns-clause-waiting c = grind (arith, common_steps)

pub add-requires-clause-memory : goal.add-requires-clause-memory
add-requires-clause-memory c = grind (arith, common_steps)

pub add-requires-clause-fresh : goal.add-requires-clause-fresh
add-requires-clause-fresh c = grind (arith, common_steps)

pub overflow_sub-last : goal.overflow_sub-last
overflow_sub-last c = grind (arith, common_steps)

pub join-requires-clause-behind : goal.join-requires-clause-behind
join-requires-clause-behind c = grind (arith, common_steps)

pub join-requires-clause-within : goal.join-requires-clause-within
join-requires-clause-within c = grind (arith, common_steps)

pub join-requires-clause-heap : goal.join-requires-clause-heap
join-requires-clause-heap c = grind (arith, common_steps)

pub invariant_of-self : goal.invariant_of-self
invariant_of-self c = grind (arith, common_steps)

pub returns-clause-room : goal.returns-clause-room
returns-clause-room c = grind (arith, common_steps)
