-- How the lists of cuts grow.
use Rattle.std.proofs.Common.{◌≡◌, ◌≢◌, inl, inr, ℕ, ◌+◌, ◌-◌, ◌<◌, ◌≤◌, refl, ap, sym, ◌∙◌, arith, subst, List, [], ◌∷◌, ◌++◌, length, set, get_or, take, drop, length-drop}
use Rattle.std.proofs.lemmas.Grind.{get_or-set_at}
use Rattle.std.proofs.lemmas.List.{get_or-set_other, length_push, get_or-append_right, get_or_append_left, get_or-take, get_or-drop, ext_get_or, length-take-le}
use Rattle.pesp_propagate.specs.declared.crossing.Entry.{Entry}
use Rattle.pesp_propagate.specs.Entries.{cut_entry_at, no_entry}
use Rattle.pesp_propagate.specs.Lists.{HaveLists, pushed}
use Rattle.std.proofs.lemmas.Bool.{cases_eq, cases_lt, eq-eqb, ne_eqb}

pub pushed_here : (lists : ℕ → List Entry) (cut : ℕ) (e : Entry) (c : ℕ) → c ≡ cut → pushed lists cut e c ≡ lists c ++ e ∷ []
pushed_here lists cut e c q = rw (eq-eqb c cut q) refl

pub pushed_other : (lists : ℕ → List Entry) (cut : ℕ) (e : Entry) (c : ℕ) → c ≢ cut → pushed lists cut e c ≡ lists c
pushed_other lists cut e c ne = rw (ne_eqb c cut ne) refl

last_of : (xs : List Entry) (e : Entry) (k : ℕ) → k ≡ length xs → cut_entry_at (xs ++ e ∷ []) k ≡ e
last_of xs e k q = get_or-append_right xs (e ∷ []) (length xs) k no_entry refl (omega arith)
    ∙ ap (λ (i : ℕ). get_or (e ∷ []) i no_entry) (let z : k - length xs ≡ 0 = omega arith in z)

-- an entry is put at the end of one list, where there is room before the next
pub put_holds : (n : ℕ) (starts ends : List ℕ) (entries : List Entry) (lists : ℕ → List Entry) (cut at : ℕ)
    (e : Entry) → HaveLists n starts ends entries lists → cut < n → cut < length ends → at ≡ get_or ends cut 0
    → at < get_or starts (cut + 1) 0 → at < length entries
    → HaveLists n starts (set ends cut (at + 1)) (set entries at e) (pushed lists cut e)
put_holds n starts ends entries lists cut at e h lc le is room inside =
    let own = h.ends_at cut lc in
    record {
      rising = h.rising;
      ends_at = λ c l. elim (cases_eq c cut) [
        | inl q ↦ rw (get_or-set_at ends cut c (at + 1) 0 q le, pushed_here lists cut e c q)
            (let p = length_push (lists c) e in let s = ap (λ x. get_or starts x 0) q in
            let t = ap (λ x. length (lists x)) q in omega arith)
        | inr ne ↦ rw (get_or-set_other ends cut c (at + 1) 0 ne, pushed_other lists cut e c ne) (h.ends_at c l)
      ];
      within = λ c l. elim (cases_eq c cut) [
        | inl q ↦ rw (get_or-set_at ends cut c (at + 1) 0 q le) (let s = ap (λ x. get_or starts (x + 1) 0) q in omega arith)
        | inr ne ↦ rw (get_or-set_other ends cut c (at + 1) 0 ne) (h.within c l)
      ];
      items = λ c k l lk. elim (cases_eq c cut) [
        | inl q ↦
            let s = ap (λ x. get_or starts x 0) q in let t = ap (λ x. length (lists x)) q in
            let p = length_push (lists c) e in
            let less : k < length (lists c) + 1 = (let u = ap length (pushed_here lists cut e c q) in omega arith) in
            rw (pushed_here lists cut e c q) (elim (cases_lt k (length (lists c))) [
              | inl m ↦
                  let ne : get_or starts c 0 + k ≢ at = λ x. omega arith in
                  get_or-set_other entries at (get_or starts c 0 + k) e no_entry ne ∙ h.items c k l m
                  ∙ sym (get_or_append_left (lists c) (e ∷ []) no_entry k m)
              | inr m ↦
                  let here : get_or starts c 0 + k ≡ at = omega arith in
                  get_or-set_at entries at (get_or starts c 0 + k) e no_entry here inside ∙ sym (last_of (lists c) e k (omega arith))
            ])
        | inr ne ↦
            let m : k < length (lists c) = (let u = ap length (pushed_other lists cut e c ne) in omega arith) in
            let far : get_or starts c 0 + k ≢ at = λ x. elim (cases_lt c cut) [
              | inl before ↦ (let r = h.rising (c + 1) cut (omega arith) (omega arith) in let w = h.within c l in
                  let v = h.ends_at c l in omega arith)
              | inr after ↦ (let r = h.rising (cut + 1) c (omega arith) (omega arith) in omega arith)
            ] in
            rw (pushed_other lists cut e c ne) (get_or-set_other entries at (get_or starts c 0 + k) e no_entry far ∙ h.items c k l m)
      ];
    }

-- lists that are the same
pub same_lists : (n : ℕ) (starts ends : List ℕ) (entries : List Entry) (f g : ℕ → List Entry)
    → HaveLists n starts ends entries f → ((c : ℕ) → c < n → f c ≡ g c) → HaveLists n starts ends entries g
same_lists n starts ends entries f g h same = record {
  rising = h.rising;
  ends_at = λ c l. rw (sym (same c l)) (h.ends_at c l);
  within = h.within;
  items = λ c k l lk. (let P : List Entry → Type 0 = λ xs. k < length xs
      → cut_entry_at entries (get_or starts c 0 + k) ≡ cut_entry_at xs k in subst P (same c l) (h.items c k l) lk);
}

-- what stands from the begin of a list to its end
pub list_is : (n : ℕ) (starts ends : List ℕ) (entries : List Entry) (lists : ℕ → List Entry) (cut from to : ℕ)
    → HaveLists n starts ends entries lists → cut < n → from ≡ get_or starts cut 0 → to ≡ get_or ends cut 0
    → to ≤ length entries
    → take (to - from) (drop from entries) ≡ lists cut
list_is n starts ends entries lists cut from to h l f t inside =
    let e = h.ends_at cut l in
    let long : to - from ≡ length (lists cut) = omega arith in
    let count : length (take (to - from) (drop from entries))
    ≡ length (lists cut) = length-take-le (to - from) (drop from entries)
    (let d = length-drop from entries in omega arith) ∙ long in
    ext_get_or no_entry (take (to - from) (drop from entries)) (lists cut) count (λ i li.
    get_or-take (to - from) (drop from entries) i no_entry (omega arith) ∙ get_or-drop from entries i no_entry
    ∙ ap (λ (x : ℕ). get_or entries (x + i) no_entry) f ∙ h.items cut i l (omega arith))
