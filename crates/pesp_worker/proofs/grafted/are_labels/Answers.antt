use Rattle.std.proofs.Common.{ℕ, ◌≡◌, ◌<◌, ◌≤◌, ◌∙◌, refl, arith, List, length, get_or, map}
use Rattle.std.specs.Prelude.{ℤ, pos}
use Rattle.std.proofs.lemmas.List.{ext_get_or, get_or-map, length-map}
use Rattle.pesp_worker.proofs.grafted.are_labels.Goals as goal

-- labels that are equal place by place are the same list
same_labels : (times : List (ℤ × ℕ)) (events : List ℤ) (k : ℕ) → length times ≡ length events → length times ≤ k
    → ((i : ℕ) → i < k → (get_or times i (pos 0, 0)).0 ≡ get_or events i (pos 0)) → map (λ t. t.0) times ≡ events
same_labels times events k long done same =
    let label : ℤ × ℕ → ℤ = λ t. t.0 in
    ext_get_or (pos 0) (map label times) events (length-map times label ∙ long) (λ i l.
    let l' : i < length times = omega (arith, length-map times label) in
    get_or-map label times i (pos 0, 0) (pos 0) l' ∙ same i (omega arith))

pub returns : goal.returns
returns c = (
  λ t. same_labels c.args.shown.now c.args.events.now c.loop-place.place c.if-shown-events.false
      c.loop-place-test.false c.loop-place.invariant,
  λ e. refl,
)
