-- Fates of rows, one after another.
use Rattle.std.proofs.Common.{◌≡◌, ℕ, ◌+◌, ◌<◌, inl, inr, sym, arith, subst, List, [], ◌∷◌, ◌++◌, length, Bool}
use Rattle.std.proofs.lemmas.List.{get_or_append_left, get_or_push}
use Rattle.pesp_problem.specs.declared.arc.Arc.{Arc}
use Rattle.pesp_problem.proofs.Integers.{lt-or-same}
use Rattle.pesp_network.specs.declared.row.NetRow.{NetRow}
use Rattle.pesp_network.specs.Networks.{net_row_at}
use Rattle.pesp_reduce.specs.declared.fate.Fate.{Fate}
use Rattle.pesp_reduce.specs.declared.fate.Fate.TheVariants.{Free}
use Rattle.pesp_reduce.specs.Rows.{flag}
use Rattle.pesp_reduce.specs.Fates.{fate_at, IsFate}

pub fates_more : (period : ℕ) (rows : List NetRow) (flags : List Bool) (left : List Arc) (fates : List Fate)
    (fate : Fate) (i : ℕ) → length fates ≡ i
    → ((k : ℕ) → k < i → IsFate period (net_row_at rows k) (flag flags k) left (k + 1) (fate_at fates k))
    → IsFate period (net_row_at rows i) (flag flags i) left (i + 1) fate
    → (k : ℕ) → k < i + 1 → IsFate period (net_row_at rows k) (flag flags k) left (k + 1) (fate_at (fates ++ fate ∷ []) k)
fates_more period rows flags left fates fate i n old new k l =
    let P : ℕ → Fate → Type 0 = λ j f. IsFate period (net_row_at rows j) (flag flags j) left (j + 1) f in
    elim (lt-or-same k i l) [
      | inl m ↦ subst (λ f. P k f) (sym (get_or_append_left fates (fate ∷ []) Free k (omega arith))) (old k m)
      | inr e ↦
          let here : P i (fate_at (fates ++ fate ∷ []) i) = subst (λ f. P i f) (sym (get_or_push fates fate Free i n)) new in
          subst (λ j. P j (fate_at (fates ++ fate ∷ []) j)) (sym e) here
    ]
