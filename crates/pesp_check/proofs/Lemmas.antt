-- The items of the lemmas of a front, one after the other.
use Rattle.std.proofs.Common.{◌≡◌, ◌⊎◌, inl, inr, ℕ, ◌+◌, ◌<◌, ◌≤◌, arith, true, List, [], ◌∷◌, ◌++◌, length, get_or, map, drop, ap, ◌∙◌, append_assoc}
use Rattle.std.specs.List.{flat_map}
use Rattle.std.proofs.lemmas.Bool.{cases_lt}
use Rattle.std.proofs.lemmas.List.{drop_all, drop_more, get_or_default}
use Rattle.pesp_truth.specs.Certificates.{Content, Front as FrontOf}
use Rattle.pesp_cert_lines.specs.declared.item.Item.{Item}
use Rattle.pesp_cert_lines.specs.declared.item.Item.TheVariants.{Scale, Walk, Lemma, Least, Version, Cycle}
use Rattle.pesp_cert.specs.Texts.{tree_item, lemma_items}
use Rattle.pesp_truth.specs.Shown.{LemmaProof}
use Rattle.pesp_check.specs.Items.{ends_lemma}
use Rattle.pesp_check.specs.Judging.{behind, lemmas_from, lemma_walks_from}

-- the next lemma is at place j, and its rows come
pub record IsNextLemma (xs : List LemmaProof) (ys : List Item) (j : ℕ) (item : Item) (rest : List Item) (s : LemmaProof) : Type 0 where
  pub within : j < length xs
  pub read : s ≡ get_or xs j s
  pub item_is : item ≡ Lemma s.fact.weights
  pub left : rest ≡ Least s.fact.least ∷ Scale s.marks.scale ∷ lemma_walks_from s (flat_map lemma_items (drop (j + 1) xs) ++ ys) 0

tail : {x y : Item} {xs ys : List Item} → x ∷ xs ≡ y ∷ ys → xs ≡ ys
tail e = cc

regroup : (w c t f y : List Item) → (((w ++ c ++ t) ++ f) ++ y) ≡ w ++ (c ++ (t ++ (f ++ y)))
regroup w c t f y = simp append_assoc

-- or all lemmas came
pub next_lemma : (xs : List LemmaProof) (ys : List Item) (j : ℕ) (item : Item) (rest : List Item)
    → item ∷ rest ≡ flat_map lemma_items (drop j xs) ++ ys
    → ((s : LemmaProof) × IsNextLemma xs ys j item rest s) ⊎ ((length xs ≤ j) × (item ∷ rest ≡ ys))
next_lemma [] ys j item rest e = inr (omega arith, e ∙ ap (λ l. flat_map lemma_items l ++ ys) (drop_all j [] (omega arith)))
next_lemma (d ∷ ds) ys j item rest e = elim (cases_lt j (length (d ∷ ds))) [
  | inl m ↦
      let s = get_or (d ∷ ds) j d in
      let more = flat_map lemma_items (drop (j + 1) (d ∷ ds)) in
      let shown = map Walk s.marks.walks ++ map Cycle s.cycles ++ map tree_item s.tree in
      let both : item ∷ rest ≡ Lemma s.fact.weights ∷ Least s.fact.least ∷ Scale s.marks.scale ∷ ((shown ++ more) ++ ys) =
      e ∙ ap (λ l. flat_map lemma_items l ++ ys) (drop_more (d ∷ ds) j d m) in
      inl (
        s,
        record {
          within = m;
          read = get_or_default (d ∷ ds) j d s m;
          item_is = cc;
          left = tail both ∙ ap (λ is. Least s.fact.least ∷ Scale s.marks.scale ∷ is)
              (regroup (map Walk s.marks.walks) (map Cycle s.cycles) (map tree_item s.tree) more ys);
        },
      )
  | inr m ↦ inr (m, e ∙ ap (λ l. flat_map lemma_items l ++ ys) (drop_all j (d ∷ ds) m))
]

pub lemmas_begin : (f : FrontOf) (c : Content) (j : ℕ) (item : Item) (rest : List Item) → item ∷ rest ≡ lemmas_from f c j
    → ends_lemma item ≡ true
lemmas_begin f c j item rest e = elim (next_lemma f.lemmas (behind c) j item rest e) [
  | inl n ↦ ap ends_lemma n.1.item_is
  | inr n ↦ let is : item ≡ Version c.version = (let l = n.1 in cc) in ap ends_lemma is
]
