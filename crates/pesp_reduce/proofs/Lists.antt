-- Lists by place, and the arcs of rows.
use Rattle.std.proofs.Common.{◌≡◌, ℕ, zero, suc, ◌+◌, ◌<◌, inl, inr, refl, sym, ◌∙◌, ap, arith, List, [], ◌∷◌, ◌++◌, length, get_or, map, All}
use Rattle.std.specs.Prelude.{slice_index, replicate}
use Rattle.std.proofs.lemmas.List.Elements.{All-replicate}
use Rattle.std.proofs.lemmas.List.{get_or_append_left, get_or_push, length_push, length-map}
use Rattle.pesp_problem.specs.Arcs.{arc_at}
use Rattle.pesp_problem.proofs.Integers.{lt-or-same}
use Rattle.pesp_network.specs.declared.row.NetRow.{NetRow}
use Rattle.pesp_network.specs.Networks.{net_row_at, no_net_row, arc_of_net, arcs_of_network}

-- a list by place holds what a function gives
pub record Holds {X : Type 0} (d : X) (f : ℕ → X) (xs : List X) : Type 0 where
  pub at : (k : ℕ) → k < length xs → get_or xs k d ≡ f k

pub holds_none : {X : Type 0} (d : X) (f : ℕ → X) → Holds d f []
holds_none d f = record { at = λ k h. absurd (omega arith) }

pub holds_more : {X : Type 0} (d : X) (f : ℕ → X) (xs : List X) (x : X) → Holds d f xs → x ≡ f (length xs) → Holds d f (xs ++ x ∷ [])
holds_more d f xs x h e = record {
  at = λ k l.
      let l' : k < length xs + 1 = omega (arith, length_push xs x) in
      elim (lt-or-same k (length xs) l') [
        | inl m ↦ get_or_append_left xs (x ∷ []) d k m ∙ h.at k m
        | inr s ↦ get_or_push xs x d k (sym s) ∙ e ∙ ap f (sym s)
      ];
}

pub zeros_index : (n i : ℕ) → slice_index (replicate n 0) i ≡ 0
zeros_index zero i = refl
zeros_index (suc n) zero = refl
zeros_index (suc n) (suc i) = zeros_index n i

pub zeros_below : (n period : ℕ) → 0 < period → All (λ y. y < period) (replicate n 0)
zeros_below n period h = All-replicate (λ (y : ℕ). y < period) n 0 h

-- ---- arcs of rows

get_or_map : {X Y : Type 0} (f : X → Y) (xs : List X) (d : X) (i : ℕ) → get_or (map f xs) i (f d) ≡ f (get_or xs i d)
get_or_map f [] d i = refl
get_or_map f (x ∷ xs) d zero = refl
get_or_map f (x ∷ xs) d (suc i) = get_or_map f xs d i

pub arc_at_net : (rows : List NetRow) (i : ℕ) → arc_at (arcs_of_network rows) i ≡ arc_of_net (net_row_at rows i)
arc_at_net rows i = get_or_map arc_of_net rows no_net_row i

pub arcs_length : (rows : List NetRow) → length (arcs_of_network rows) ≡ length rows
arcs_length rows = length-map rows arc_of_net

pub row_of_map : (f : NetRow → NetRow) (rows : List NetRow) (i : ℕ) → f no_net_row ≡ no_net_row
    → net_row_at (map f rows) i ≡ f (net_row_at rows i)
row_of_map f rows i e = ap (λ (d : NetRow). get_or (map f rows) i d) (sym e) ∙ get_or_map f rows no_net_row i
