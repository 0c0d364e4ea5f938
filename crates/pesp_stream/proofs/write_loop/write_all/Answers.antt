use Rattle.std.proofs.Common.{◌≡◌, ℕ, ◌-◌, List, ◌++◌, rules, length, take, drop, sym, ap, ◌∙◌, append_assoc, take-append-drop}
use Rattle.std.proofs.lemmas.List.{take_rest}
use Rattle.std.proofs.KnownBytes.{Appends-trans}
use Rattle.pesp_stream.proofs.write_loop.write_all.Goals as goal

-- the front of what is left moves to what is done
moves_front : (all done rest : List ℕ) (n : ℕ) → all ≡ done ++ rest → all ≡ (done ++ take n rest) ++ take (length rest - n) (drop n rest)
moves_front all done rest n e =
    e ∙ ap (λ l. done ++ l) (sym (take-append-drop n rest)) ∙ sym (append_assoc done (take n rest) (drop n rest))
    ∙ ap (λ l. (done ++ take n rest) ++ l) (sym (take_rest rest n))

pub loop-rest-preserved-in-Ok : goal.loop-rest-preserved-in-Ok
loop-rest-preserved-in-Ok g c =
    let (done, split, appended) = c.loop-rest.invariant.0 in
    let rest = c.loop-rest.rest.now in
    let n = c.in-Ok.n in
    let bytes = c.in-Ok.ensures.bytes in
    ((done ++ take n rest, moves_front _ done rest n split, Appends-trans _ _ _ _ _ appended bytes), search rules)

pub returns-in-Ok-eq0-clause-text : goal.returns-in-Ok-eq0-clause-text
returns-in-Ok-eq0-clause-text g c =
    let (done, split, appended) = c.loop-rest.invariant.0 in
    record { front = done; rest = c.loop-rest.rest.now; whole = split; appended = search rules }

pub returns-in-Ok-eq0-clause-counts : goal.returns-in-Ok-eq0-clause-counts
returns-in-Ok-eq0-clause-counts g c = tt
