-- Labels that become those of the first events, row by row.
use Rattle.std.proofs.Common.{◌≡◌, ◌≢◌, ℕ, ◌+◌, ◌⊎◌, inl, inr, List, ◌++◌, take, drop, length, max, min, ap, sym, ◌∙◌, arith}
use Rattle.std.specs.Prelude.{slice_index}
use Rattle.std.proofs.lemmas.List.{take_at}
use Rattle.pesp_problem.specs.declared.arc.Arc.{Arc}
use Rattle.pesp_problem.specs.Arcs.{arc_at}
use Rattle.pesp_problem.specs.Forests.{IsFirstOf}
use Rattle.pesp_problem.proofs.Joined.{first_in, merged, merged_most, merged_else, first_more, first_all}

same_or : (a b : ℕ) → (a ≡ b) ⊎ (a ≢ b)
same_or a b = grind arith

pub joined_more : (arcs : List Arc) (k event a b : ℕ) (xs ys : List ℕ) → a ≡ first_in arcs k (arc_at arcs k).tail
    → b ≡ first_in arcs k (arc_at arcs k).head → slice_index xs event ≡ first_in arcs k event
    → (slice_index xs event ≡ max a b → slice_index ys event ≡ min a b)
    → (slice_index xs event ≢ max a b → slice_index ys event ≡ slice_index xs event)
    → slice_index ys event ≡ first_in arcs (k + 1) event
joined_more arcs k event a b xs ys ea eb e most rest =
    let f = first_in arcs k event in
    let to : merged a b f ≡ first_in arcs (k + 1) event = ap (λ x. merged x b f) ea
    ∙ (ap (λ x. merged (first_in arcs k (arc_at arcs k).tail) x f) eb ∙ sym (first_more arcs k event)) in
    elim (same_or (slice_index xs event) (max a b)) [
      | inl q ↦ most q ∙ (sym (merged_most a b f (sym e ∙ q)) ∙ to)
      | inr n ↦ rest n ∙ (e ∙ (sym (merged_else a b f (λ q. n (e ∙ q))) ∙ to))
    ]

pub first_end : (arcs : List Arc) (k event f : ℕ) → k ≡ length arcs → f ≡ first_in arcs k event → IsFirstOf arcs event f
first_end arcs k event f e h = first_all arcs event f (h ∙ ap (λ x. first_in arcs x event) e)

-- the whole of a vector was written
pub whole : (len : ℕ) (xs ys : List ℕ) → length ys ≡ len → take len (ys ++ drop (length ys) xs) ≡ ys
whole len xs ys e = take_at ys (drop (length ys) xs) len e
