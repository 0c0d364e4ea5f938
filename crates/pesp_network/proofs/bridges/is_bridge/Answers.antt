use Rattle.std.proofs.Common.{ℕ, ◌-◌, ◌<◌, arith, sym, ◌∙◌, ap, List, length, vec_len, slice_index_or}
use Rattle.std.proofs.lemmas.Bool.{false≢true}
use Rattle.std.proofs.lemmas.List.{get_or_read}
use Rattle.pesp_problem.specs.Walks.{Names}
use Rattle.pesp_network.specs.declared.row.NetRow.{NetRow}
use Rattle.pesp_network.specs.declared.parts.Forest.{Forest}
use Rattle.pesp_network.specs.Networks.{arcs_of_network, no_net_row}
use Rattle.pesp_network.specs.Growing.{at}
use Rattle.pesp_network.specs.Rooted.{IsForest}
use Rattle.pesp_network.proofs.Climbing.{ends_of}
use Rattle.pesp_network.proofs.Places.{named, tail_at, head_at, tail_below, head_below}
use Rattle.pesp_network.proofs.Bridging.{tells, tells_outside}
use Rattle.pesp_network.proofs.bridges.is_bridge.Goals as goal

-- both ends of a row are events
ends : (n : ℕ) (rows : List NetRow) (g : Forest) (k : ℕ) → IsForest n (arcs_of_network rows) g
    → Names (length rows) k → let row = slice_index_or rows (k - 1) no_net_row in
    (row.tail < vec_len g.up) × (row.head < vec_len g.up)
ends n rows g k f r =
    let low = r.0 in let high = r.1 in
    let within : k - 1 < length rows = omega (arith, low, high) in
    let count = f.events in
    (omega (arith, count, tail_below n rows (k - 1) f.ends within), omega (arith, count, head_below n rows (k - 1) f.ends within))

pub index-tail_row-requires : goal.index-tail_row-requires
index-tail_row-requires c = let e = (ends _ _ _ _ c.requires.forest c.requires.row).0 in let s = c.args.forest.now.sized in omega arith

pub is_cut-requires-clause-event : goal.is_cut-requires-clause-event
is_cut-requires-clause-event c = (ends _ _ _ _ c.requires.forest c.requires.row).0

pub index-head_row-requires : goal.index-head_row-requires
index-head_row-requires c = let e = (ends _ _ _ _ c.requires.forest c.requires.row).1 in let s = c.args.forest.now.sized in omega arith

pub is_cut-requires-then-head_row-k-clause-event : goal.is_cut-requires-then-head_row-k-clause-event
is_cut-requires-then-head_row-k-clause-event c = (ends _ _ _ _ c.requires.forest c.requires.row).1

pub returns-then-tail_row-k : goal.returns-then-tail_row-k
returns-then-tail_row-k c =
    let g = c.args.forest.now in let rows = c.args.rows.now in let k = c.args.k in let f = c.requires.forest in
    let row = named rows k c.requires.row in let t = (slice_index_or rows (k - 1) no_net_row).tail in
    let e = ends_of (vec_len g.up) (arcs_of_network rows) k f.ends row in let q = tail_at rows k c.requires.row in
    let n = f.events in let s = g.sized in let l = g.by.ok.0 in let e0 = e.0 in
    let b : t < (vec_len g.up) = omega arith in
    let r = get_or_read g.by.items t _ (omega arith) c.index-tail_row.ensures 0 in
    tells (vec_len g.up) (arcs_of_network rows) g _ _ t k c.is_cut.result f c.requires.reaches b
    (sym r ∙ c.if-tail_row-k.true) row c.is_cut.ensures

pub returns-then-head_row-k : goal.returns-then-head_row-k
returns-then-head_row-k c =
    let g = c.args.forest.now in let rows = c.args.rows.now in let k = c.args.k in let f = c.requires.forest in
    let row = named rows k c.requires.row in let t = (slice_index_or rows (k - 1) no_net_row).head in
    let e = ends_of (vec_len g.up) (arcs_of_network rows) k f.ends row in let q = head_at rows k c.requires.row in
    let n = f.events in let s = g.sized in let l = g.by.ok.0 in let e1 = e.1 in
    let b : t < (vec_len g.up) = omega arith in
    let r = get_or_read g.by.items t _ (omega arith) c.index-head_row.ensures 0 in
    tells (vec_len g.up) (arcs_of_network rows) g _ _ t k c.is_cut-then-head_row-k.result f c.requires.reaches b
    (sym r ∙ c.if-head_row-k.true) row c.is_cut-then-head_row-k.ensures

pub returns : goal.returns
returns c =
    let g = c.args.forest.now in let rows = c.args.rows.now in let k = c.args.k in let f = c.requires.forest in
    let row = named rows k c.requires.row in let t = (slice_index_or rows (k - 1) no_net_row).tail in
    let h = (slice_index_or rows (k - 1) no_net_row).head in
    let e = ends_of (vec_len g.up) (arcs_of_network rows) k f.ends row in let qt = tail_at rows k c.requires.row in
    let qh = head_at rows k c.requires.row in let n = f.events in let s = g.sized in let l = g.by.ok.0 in
    let e0 = e.0 in let e1 = e.1 in
    let r = get_or_read g.by.items t _ (omega arith) c.index-tail_row.ensures 0 in
    let q = get_or_read g.by.items h _ (omega arith) c.index-head_row.ensures 0 in (
      (λ z. absurd (false≢true z)),
      (λ b. absurd (tells_outside (vec_len g.up) (arcs_of_network rows) g k f row
          (λ w. c.if-tail_row-k.false (r ∙ ap (at g.by.items) qt ∙ w))
          (λ w. c.if-head_row-k.false (q ∙ ap (at g.by.items) qh ∙ w)) b)),
    )
