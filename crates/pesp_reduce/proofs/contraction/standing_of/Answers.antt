use Rattle.std.proofs.Common.{◌≡◌, ◌+◌, ℕ, length, sym, arith, subst, ◌++◌, ◌∷◌, []}
use Rattle.std.proofs.lemmas.List.{get_or_read}
use Rattle.pesp_problem.specs.Forests.{IsFirstOf}
use Rattle.pesp_network.specs.Networks.{arcs_of_network}
use Rattle.pesp_reduce.specs.Contractions.{IsStanding}
use Rattle.pesp_reduce.proofs.Ways.{first_not_after}
use Rattle.pesp_reduce.proofs.Standings.{standing_old, standing_new}
use Rattle.pesp_reduce.proofs.contraction.standing_of.Goals as goal

pub loop-event-preserved-then-first-event : goal.loop-event-preserved-then-first-event
loop-event-preserved-then-first-event c =
    let arcs = arcs_of_network c.args.tree.now.rows in
    let e = c.loop-event.event in let f = c.first_of-first.result in
    let S = c.loop-event.stands.items in let F = c.loop-event.firsts.items in
    let v = c.loop-event.invariant in
    let n = v.stands_count in
    let t = c.if-first-event.true in
    let x = get_or_read S f _ (omega arith) c.index-stand.ensures 0 in
    let P : ℕ → Type 0 = λ y. IsStanding arcs (e + 1) (S ++ y ∷ []) F in
    rw c.in_ok-push.ensures.items (subst P (sym x) (standing_old arcs e f S F v c.first_of-first.ensures t))

pub loop-event-preserved : goal.loop-event-preserved
loop-event-preserved c =
    let arcs = arcs_of_network c.args.tree.now.rows in
    let e = c.loop-event.event in let f = c.first_of-first.result in
    let S = c.loop-event.stands.items in let F = c.loop-event.firsts.items in
    let v = c.loop-event.invariant in
    let t = c.if-first-event.false in
    let l = first_not_after arcs e f c.first_of-first.ensures in
    let same : f ≡ e = omega arith in
    let own : IsFirstOf arcs e e = subst (λ y. IsFirstOf arcs e y) same c.first_of-first.ensures in
    let k = c.loop-event.firsts.ok.0 in let w = c.len.ensures in
    let x : c.len.result ≡ length F = omega arith in
    let P : ℕ → Type 0 = λ y. IsStanding arcs (e + 1) (S ++ y ∷ []) (F ++ e ∷ []) in
    rw (c.in_ok-push-2.ensures.items, c.in_ok-push-3.ensures.items) (subst P (sym x) (standing_new arcs e S F v own))

pub returns : goal.returns
returns c =
    let arcs = arcs_of_network c.args.tree.now.rows in
    let a = c.loop-event.auto.event-end in let t = c.loop-event-test.false in let n = c.events-event-end.ensures.events in
    let same : c.loop-event.event ≡ c.args.tree.now.events = omega arith in
    let P : ℕ → Type 0 = λ y. IsStanding arcs y c.loop-event.stands.items c.loop-event.firsts.items in
    subst P same c.loop-event.invariant
