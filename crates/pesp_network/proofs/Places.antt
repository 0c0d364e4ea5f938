-- Rows by their numbers.
use Rattle.std.proofs.Common.{◌≡◌, ℕ, ◌+◌, ◌-◌, ◌<◌, sym, ◌∙◌, ap, arith, List, length, slice_index_or}
use Rattle.std.proofs.lemmas.List.{get_or-map, length-map}
use Rattle.pesp_problem.specs.declared.arc.Arc.{Arc}
use Rattle.pesp_problem.specs.Arcs.{arc_at, no_arc, tail_of, head_of}
use Rattle.pesp_problem.specs.Walks.{Names}
use Rattle.pesp_network.specs.declared.row.NetRow.{NetRow}
use Rattle.pesp_network.specs.Networks.{arcs_of_network, arc_of_net, no_net_row}
use Rattle.pesp_problem.specs.ArcLimits.{HaveEnds}

pub count : (rows : List NetRow) → length (arcs_of_network rows) ≡ length rows
count rows = length-map rows arc_of_net

pub arc_is : (rows : List NetRow) (i : ℕ) (d : NetRow) → i < length rows
    → arc_at (arcs_of_network rows) i ≡ arc_of_net (slice_index_or rows i d)
arc_is rows i d h = get_or-map arc_of_net rows i d no_arc h

pub arc_more : (rows : List NetRow) (i : ℕ) → i < length rows
    → arc_at (arcs_of_network rows) (i + 1 - 1) ≡ arc_of_net (slice_index_or rows i no_net_row)
arc_more rows i h = let e : i + 1 - 1 ≡ i = omega arith in ap (arc_at (arcs_of_network rows)) e ∙ arc_is rows i no_net_row h

pub tail_more : (rows : List NetRow) (i : ℕ) → i < length rows
    → (slice_index_or rows i no_net_row).tail ≡ tail_of (arcs_of_network rows) (i + 1)
tail_more rows i h = ap (λ (r : Arc). r.tail) (sym (arc_more rows i h))

pub head_more : (rows : List NetRow) (i : ℕ) → i < length rows
    → (slice_index_or rows i no_net_row).head ≡ head_of (arcs_of_network rows) (i + 1)
head_more rows i h = ap (λ (r : Arc). r.head) (sym (arc_more rows i h))

pub tail_below : (n : ℕ) (rows : List NetRow) (i : ℕ) → HaveEnds n (arcs_of_network rows) → i < length rows
    → (slice_index_or rows i no_net_row).tail < n
tail_below n rows i h lt = let c = count rows in let w = h i (omega arith) in
    let e = ap (λ (r : Arc). r.tail) (arc_is rows i no_net_row lt) in omega arith

pub head_below : (n : ℕ) (rows : List NetRow) (i : ℕ) → HaveEnds n (arcs_of_network rows) → i < length rows
    → (slice_index_or rows i no_net_row).head < n
head_below n rows i h lt = let c = count rows in let w = h i (omega arith) in
    let e = ap (λ (r : Arc). r.head) (arc_is rows i no_net_row lt) in omega arith

pub named : (rows : List NetRow) (k : ℕ) → Names (length rows) k → Names (length (arcs_of_network rows)) k
named rows k h = let c = count rows in let h0 = h.0 in let h1 = h.1 in (omega arith, omega arith)

pub tail_at : (rows : List NetRow) (k : ℕ) → Names (length rows) k
    → (slice_index_or rows (k - 1) no_net_row).tail ≡ tail_of (arcs_of_network rows) k
tail_at rows k h = let h0 = h.0 in let h1 = h.1 in ap (λ (r : Arc). r.tail) (sym (arc_is rows (k - 1) no_net_row (omega arith)))

pub head_at : (rows : List NetRow) (k : ℕ) → Names (length rows) k
    → (slice_index_or rows (k - 1) no_net_row).head ≡ head_of (arcs_of_network rows) k
head_at rows k h = let h0 = h.0 in let h1 = h.1 in ap (λ (r : Arc). r.head) (sym (arc_is rows (k - 1) no_net_row (omega arith)))

pub lower_at : (rows : List NetRow) (i : ℕ) → i < length rows
    → (slice_index_or rows i no_net_row).lower ≡ (arc_at (arcs_of_network rows) i).lower
lower_at rows i h = ap (λ (r : Arc). r.lower) (sym (arc_is rows i no_net_row h))
