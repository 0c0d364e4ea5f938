use Rattle.std.proofs.Common.{◌≡◌, ◌≢◌, ℕ, ◌+◌, ◌<◌, ◌∙◌, ap, arith, sym, subst, List, [], ◌∷◌, inl, inr, All, length, get_or}
use Rattle.std.specs.Prelude.{Contains}
use Rattle.std.specs.List.{AllPairs}
use Rattle.std.proofs.lemmas.List.{get_or_read}
use Rattle.std.proofs.lemmas.Bool.{cases_lt}
use Rattle.std.proofs.lemmas.List.Elements.{All-push, All-weaker, Contains-append_left, Contains-push}
use Rattle.std.proofs.lemmas.List.Quantifiers.{all_pairs_push}
use Rattle.pesp_network.specs.declared.parts.Forest.{Forest}
use Rattle.pesp_network.specs.Growing.{at}
use Rattle.pesp_network.specs.Rooted.{IsTreeRow}
use Rattle.pesp_network.proofs.Spanning.{one_below}
use Rattle.pesp_network.proofs.walks.forest_rows.Goals as goal

-- the row joins one of the first events upwards
abbrev JoinsBefore : Forest → ℕ → ℕ → Type 0
JoinsBefore g m k = (x : ℕ) × (x < m) × (0 < at g.by.items x) × (at g.by.items x ≡ k)

wider : (g : Forest) (m : ℕ) (rows : List ℕ) → All (JoinsBefore g m) rows → All (JoinsBefore g (m + 1)) rows
wider g m rows h = All-weaker (JoinsBefore g m) (JoinsBefore g (m + 1)) (λ k w. (w.0, (let l = w.1 in omega (arith, l)), w.2, w.3)) rows h

pub overflow_cast-row : goal.overflow_cast-row
overflow_cast-row c =
    let g = c.args.forest.now in let n = c.requires.1.events in let s = g.sized in let l = g.by.ok.0 in let lt = c.loop-event-test.true in
    let b = get_or_read g.by.items c.loop-event.event _ (omega arith) c.index-row.ensures 0 in
    let most = c.requires.1.grown.by_row c.loop-event.event in
    let few = c.requires.1.few in
    omega (arith, b, most, few)

pub loop-event-preserved-then-row-eq0 : goal.loop-event-preserved-then-row-eq0
loop-event-preserved-then-row-eq0 c =
    let g = c.args.forest.now in let i = c.loop-event.invariant in let n = c.requires.1.events in let s = g.sized in
    let l = g.by.ok.0 in let lt = c.loop-event-test.true in
    let x = c.loop-event.event in
    let b = get_or_read g.by.items x _ (omega arith) c.index-row.ensures 0 in
    let zero = c.if-row-eq0.true in
    record {
      apart = i.apart;
      before = wider g x c.loop-event.found.items i.before;
      all = λ y h j. elim (cases_lt y x) [
        | inl w ↦ i.all y w j
        | inr w ↦ let u : y ≡ x = omega arith in let at_y = ap (at g.by.items) u in absurd (omega (arith, at_y, b, zero, j))
      ];
    }

pub loop-event-preserved : goal.loop-event-preserved
loop-event-preserved c =
    let g = c.args.forest.now in let i = c.loop-event.invariant in let n = c.requires.1.events in let s = g.sized in
    let l = g.by.ok.0 in let lt = c.loop-event-test.true in
    let x = c.loop-event.event in
    let row = c.index-row.result.now in
    let b = get_or_read g.by.items x _ (omega arith) c.index-row.ensures 0 in
    let t = c.if-row-eq0.false in
    let e = c.in_ok-push.ensures.items in
    let old = c.loop-event.found.items in
    let other : (k : ℕ) (d : ℕ) → k < length old → get_or old k d ≢ row = λ k d m q.
    let w = i.before k d m in
    let first = w.1 in
    let same = one_below _ _ _ _ g w.0 x c.requires.1.grown w.2 (w.3 ∙ q ∙ b) in
    omega (arith, first, same) in
    let here : Contains c.push.new.self.items (at g.by.items x) =
    let Q : ℕ → Type 0 = λ v. Contains c.push.new.self.items v in
    let R : List ℕ → Type 0 = λ q. Contains q row in
    subst Q b (subst R (sym e) (Contains-push old row)) in
    record {
      apart = subst (λ (xs : List ℕ). AllPairs (λ (a : ℕ) (b : ℕ). a ≢ b) xs) (sym e)
          (all_pairs_push (λ (a : ℕ) (b : ℕ). a ≢ b) old row i.apart other);
      before = subst (λ (xs : List ℕ). All (JoinsBefore g (x + 1)) xs) (sym e)
          (All-push (JoinsBefore g (x + 1)) old row (wider g x old i.before) (x, omega arith, omega arith, sym b));
      all = λ y h j. elim (cases_lt y x) [
        | inl w ↦ let R : List ℕ → Type 0 = λ q. Contains q (at g.by.items y) in
            subst R (sym e) (Contains-append_left old (row ∷ []) (at g.by.items y) (i.all y w j))
        | inr w ↦ let u : x ≡ y = omega arith in
            let R : ℕ → Type 0 = λ z. Contains c.push.new.self.items (at g.by.items z) in subst R u here
      ];
    }

pub returns : goal.returns
returns c =
    let g = c.args.forest.now in
    let i = c.loop-event.invariant in
    record {
      apart = i.apart;
      tree = All-weaker (JoinsBefore g c.loop-event.event) (IsTreeRow g) (λ k w. (w.0, w.2, w.3)) c.loop-event.found.items i.before;
      all = λ x h j. i.all x (let t = c.loop-event-test.false in omega arith) j;
    }
