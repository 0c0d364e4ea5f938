use Rattle.std.proofs.Common.{◌≡◌, ◌∙◌, refl, sym, ap, arith, rules, true, false, cond, ◌+◌, ◌++◌, ◌∷◌, [], ℕ, ℤ, Option, Some, to_z-of_z, w64, SFits}
use Rattle.std.specs.Prelude.{count_by, is_some}
use Rattle.std.specs.Ordering.{int_eq}
use Rattle.std.proofs.lemmas.List.Sums.{sum_by_push}
use Rattle.indexmap.specs.IndexMap.{get}
use Rattle.pesp_old_times.specs.OldTimes.{has, is_stray}
use Rattle.pesp_old_times.proofs.Slots.{is-known, slot-known, slot-stray}
use Rattle.pesp_old_times.proofs.table.Table.note.Goals as goal

pub returns-then-not-contains_key : goal.returns-then-not-contains_key
returns-then-not-contains_key c = λ events entries h.
    let label = c.args.label in
    let e : ℤ × ℕ = (c.args.label, c.args.time) in
    let fits : SFits w64 c.args.label = search rules in
    let same = to_z-of_z {w = w64} {z = c.args.label} fits in
    let none : is_some (get int_eq c.args.self.now.slots c.args.label) ≡ false = rw same at (sym c.contains_key.ensures ∙ c.if-not-contains_key.true) in
    let away : has events c.args.label ≡ false =
    sym (is-known events entries c.args.label) ∙ sym (ap is_some (h.slots c.args.label)) ∙ none in
    let one : ◌≡◌ {A = ℕ} (cond (is_stray events e) 1 0) 1 = rw away refl in
    let push : count_by (is_stray events) (entries ++ e ∷ []) ≡ count_by (is_stray events) entries + cond (is_stray events e) 1 0 =
    sum_by_push (λ (x : ℤ × ℕ). cond (is_stray events x) 1 0) entries e in
    record {
      slots = λ q. h.slots q ∙ slot-stray events entries c.args.label c.args.time q away;
      strays = omega (arith, h.strays, push, one);
    }

pub returns : goal.returns
returns c = λ events entries h.
    let e : ℤ × ℕ = (c.args.label, c.args.time) in
    let fits : SFits w64 c.args.label = search rules in
    let same = to_z-of_z {w = w64} {z = c.args.label} fits in
    let some : is_some (get int_eq c.args.self.now.slots c.args.label) ≡ true = rw same at (sym c.contains_key.ensures ∙ c.if-not-contains_key.false) in
    let there : has events c.args.label ≡ true =
    sym (is-known events entries c.args.label) ∙ sym (ap is_some (h.slots c.args.label)) ∙ some in
    let none : ◌≡◌ {A = ℕ} (cond (is_stray events e) 1 0) 0 = rw there refl in
    let push : count_by (is_stray events) (entries ++ e ∷ []) ≡ count_by (is_stray events) entries + cond (is_stray events e) 1 0 =
    sum_by_push (λ (x : ℤ × ℕ). cond (is_stray events x) 1 0) entries e in
    let updates = rw same at c.in_ok-insert.ensures.updates in
    record {
      slots = λ q. updates.0 q
          ∙ ap (λ (o : Option (Option ℕ)). cond (int_eq c.args.label q) (Some (Some c.args.time)) o) (h.slots q)
          ∙ slot-known events entries c.args.label c.args.time q there;
      strays = omega (arith, h.strays, push, none);
    }
