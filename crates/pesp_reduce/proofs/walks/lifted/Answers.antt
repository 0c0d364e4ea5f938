use Rattle.std.proofs.Common.{◌≡◌, ◌<◌, ◌+◌, ap, sym, ◌∙◌, subst, arith, length, List, [], ◌∷◌, ◌++◌}
use Rattle.pesp_problem.specs.declared.row.SignedRow.{SignedRow}
use Rattle.pesp_problem.specs.Walks.{Names, RowExists, start, finish}
use Rattle.pesp_problem.specs.Forests.{AreJoined}
use Rattle.pesp_network.specs.declared.row.NetRow.{NetRow}
use Rattle.pesp_network.specs.Networks.{arcs_of_network}
use Rattle.pesp_reduce.specs.LiftedWalks.{original_row, passed_at, row_after}
use Rattle.pesp_reduce.proofs.Lists.{arcs_length}
use Rattle.pesp_reduce.proofs.LiftedWalks.{IsLiftedUpTo, IsContractedWay, passed_exists, after_exists, original_exists, original_ends, gap_joined, contracted_way_of, lifted_more, lifted_all}
use Rattle.pesp_reduce.proofs.walks.lifted.Goals as goal

named : (rows : List NetRow) (s : SignedRow) → RowExists (arcs_of_network rows) s → Names (length rows) s.row
named rows s x = (x.0, let y = x.1 in omega (arith, arcs_length rows))

pub original_row-next-requires : goal.original_row-next-requires
original_row-next-requires c =
    let left = c.args.left.now in
    let walk = c.args.walk.now in
    let i = c.loop-i.i in
    let inside : i < length walk = let t = c.loop-i-test.true in let a = c.loop-i.auto.i-end in omega arith in
    subst (λ (s : SignedRow). Names (length left) s.row) (sym c.row_after.ensures)
    (named left (row_after walk i) (after_exists (arcs_of_network left) walk i c.requires.walk inside))

pub finish_of-from-requires : goal.finish_of-from-requires
finish_of-from-requires c =
    let whole = c.args.whole.now in let left = c.args.left.now in
    let walk = c.args.walk.now in
    let i = c.loop-i.i in
    let inside : i < length walk = let t = c.loop-i-test.true in let a = c.loop-i.auto.i-end in omega arith in
    let passed : c.original_row-passed.result ≡ original_row left (passed_at walk i) = c.original_row-passed.ensures in
    subst (λ (s : SignedRow). Names (length whole) s.row) (sym passed)
    (named whole (original_row left (passed_at walk i))
    (original_exists whole c.args.contraction.now left (passed_at walk i) c.requires.left
    (passed_exists (arcs_of_network left) walk i c.requires.walk inside)))

pub start_of-to-requires : goal.start_of-to-requires
start_of-to-requires c =
    let whole = c.args.whole.now in let left = c.args.left.now in
    let walk = c.args.walk.now in
    let i = c.loop-i.i in
    let inside : i < length walk = let t = c.loop-i-test.true in let a = c.loop-i.auto.i-end in omega arith in
    let next : c.original_row-next.result ≡ original_row left (row_after walk i) = c.original_row-next.ensures
    ∙ ap (original_row left) c.row_after.ensures in
    subst (λ (s : SignedRow). Names (length whole) s.row) (sym next)
    (named whole (original_row left (row_after walk i))
    (original_exists whole c.args.contraction.now left (row_after walk i) c.requires.left
    (after_exists (arcs_of_network left) walk i c.requires.walk inside)))

pub between-requires-clause-from : goal.between-requires-clause-from
between-requires-clause-from c =
    let whole = c.args.whole.now in let left = c.args.left.now in
    let k = c.args.contraction.now in
    let walk = c.args.walk.now in
    let i = c.loop-i.i in
    let inside : i < length walk = let t = c.loop-i-test.true in let a = c.loop-i.auto.i-end in omega arith in
    let from : c.finish_of-from.result ≡ finish (arcs_of_network whole) (original_row left (passed_at walk i)) =
    c.finish_of-from.ensures ∙ ap (finish (arcs_of_network whole)) c.original_row-passed.ensures in
    subst (λ n. n < k.tree.events) (sym from) (original_ends whole k left
    (passed_at walk i) c.requires.contraction c.requires.left
    (passed_exists (arcs_of_network left) walk i c.requires.walk inside)).1

pub between-requires-clause-to : goal.between-requires-clause-to
between-requires-clause-to c =
    let whole = c.args.whole.now in let left = c.args.left.now in
    let k = c.args.contraction.now in
    let walk = c.args.walk.now in
    let i = c.loop-i.i in
    let inside : i < length walk = let t = c.loop-i-test.true in let a = c.loop-i.auto.i-end in omega arith in
    let to : c.start_of-to.result ≡ start (arcs_of_network whole) (original_row left (row_after walk i)) =
    c.start_of-to.ensures ∙ ap (start (arcs_of_network whole))
    (c.original_row-next.ensures ∙ ap (original_row left) c.row_after.ensures) in
    subst (λ n. n < k.tree.events) (sym to) (original_ends whole k left
    (row_after walk i) c.requires.contraction c.requires.left
    (after_exists (arcs_of_network left) walk i c.requires.walk inside)).0

pub between-requires-clause-joined : goal.between-requires-clause-joined
between-requires-clause-joined c =
    let whole = c.args.whole.now in let left = c.args.left.now in
    let k = c.args.contraction.now in
    let walk = c.args.walk.now in
    let i = c.loop-i.i in
    let inside : i < length walk = let t = c.loop-i-test.true in let a = c.loop-i.auto.i-end in omega arith in
    let from : c.finish_of-from.result ≡ finish (arcs_of_network whole) (original_row left (passed_at walk i)) =
    c.finish_of-from.ensures ∙ ap (finish (arcs_of_network whole)) c.original_row-passed.ensures in
    let to : c.start_of-to.result ≡ start (arcs_of_network whole) (original_row left (row_after walk i)) =
    c.start_of-to.ensures ∙ ap (start (arcs_of_network whole))
    (c.original_row-next.ensures ∙ ap (original_row left) c.row_after.ensures) in
    subst (λ n. AreJoined (arcs_of_network k.tree.rows) c.finish_of-from.result n) (sym to)
    (subst (λ n. AreJoined (arcs_of_network k.tree.rows) n
    (start (arcs_of_network whole) (original_row left (row_after walk i)))) (sym from)
    (gap_joined whole k left walk i c.requires.contraction c.requires.left c.requires.walk inside))

pub loop-i-preserved : goal.loop-i-preserved
loop-i-preserved c =
    let whole = c.args.whole.now in let left = c.args.left.now in
    let k = c.args.contraction.now in
    let walk = c.args.walk.now in
    let i = c.loop-i.i in
    let inside : i < length walk = let t = c.loop-i-test.true in let a = c.loop-i.auto.i-end in omega arith in
    let W = arcs_of_network whole in let T = arcs_of_network k.tree.rows in
    let made = c.loop-i.made.items in
    let way = c.in_ok-way.way.items in
    let passed : c.original_row-passed.result ≡ original_row left (passed_at walk i) = c.original_row-passed.ensures in
    let from : c.finish_of-from.result ≡ finish W (original_row left (passed_at walk i)) = c.finish_of-from.ensures
    ∙ ap (finish W) passed in
    let to : c.start_of-to.result ≡ start W (original_row left (row_after walk i)) = c.start_of-to.ensures
    ∙ ap (start W) (c.original_row-next.ensures ∙ ap (original_row left) c.row_after.ensures) in
    let own = contracted_way_of whole k.tree.rows k.contracted.items c.finish_of-from.result c.start_of-to.result
    way c.requires.contraction.tree c.in_ok-way.ensures.rows c.in_ok-way.ensures.leads
    c.in_ok-way.ensures.simple c.in_ok-way.ensures.end_once in
    let between = subst (λ n. IsContractedWay whole k.contracted.items
    (finish W (original_row left (passed_at walk i))) n way) to
    (subst (λ n. IsContractedWay whole k.contracted.items n c.start_of-to.result way) from own) in
    let more = lifted_more whole k left walk i made way c.requires.contraction c.requires.left c.requires.walk
    inside between c.loop-i.invariant in
    let all : c.extend_from_slice.new.self.items ≡ (made ++ original_row left (passed_at walk i) ∷ []) ++ way =
    c.in_ok-extend_from_slice.ensures.items ∙ ap (λ xs. xs ++ c.as_slice.result.now)
    (c.in_ok-push.ensures.items ∙ ap (λ s. made ++ s ∷ []) passed)
    ∙ ap (λ xs. (made ++ original_row left (passed_at walk i) ∷ []) ++ xs) c.as_slice.ensures.value in
    subst (λ xs. IsLiftedUpTo whole k left walk (i + 1) xs) (sym all) more

pub returns : goal.returns
returns c =
    let walk = c.args.walk.now in
    let v = c.loop-i.invariant in
    let ends : c.loop-i.i ≡ length walk = let t = c.loop-i-test.false in let a = c.loop-i.auto.i-end in omega arith in
    lifted_all c.args.whole.now c.args.contraction.now c.args.left.now walk c.loop-i.i c.loop-i.made.items c.requires.walk ends v
