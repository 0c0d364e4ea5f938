-- What the lines of a work add up to.
use Rattle.std.proofs.Common.{◌≡◌, ℕ, true, List, [], ◌∷◌, ◌++◌, refl, sym, ap, ◌∙◌, append_assoc}
use Rattle.std.specs.Prelude.{map, ℤ}
use Rattle.std.proofs.lemmas.List.{append-nil}
use Rattle.pesp_truth.specs.declared.tree.TreeLine.{TreeLine}
use Rattle.pesp_truth.specs.declared.tree.TreeLine.TheVariants as lines
use Rattle.pesp_truth.specs.Certificates.{Content}
use Rattle.pesp_cert_lines.specs.declared.item.Item.{Item}
use Rattle.pesp_cert_lines.specs.declared.item.Item.TheVariants.{End}
use Rattle.pesp_cert.specs.Texts.{is_end, time_item, tree_item}
use Rattle.pesp_cert.specs.Drafts.{with_line, added}

abbrev pub all_added : Content → List Item → Content
all_added c [] = c
all_added c (item ∷ items) = all_added (added c item) items

added_line : (c : Content) (line : TreeLine) → added c (tree_item line) ≡ with_line c line
added_line c (lines.Slack row k) = refl
added_line c (lines.Offset cycle k) = refl
added_line c (lines.Bound ps) = refl
added_line c (lines.Nothing ps) = refl
added_line c (lines.Gap cycle) = refl
added_line c lines.Propagated = refl

pub times_added : (c : Content) (ts : List (ℤ × ℕ)) (more : List Item)
    → all_added c (map time_item ts ++ more) ≡ all_added (record c { times = c.times ++ ts }) more
times_added c [] more = ap (λ (ts : List (ℤ × ℕ)). all_added (record c { times = ts }) more) (sym (append-nil c.times))
times_added c (t ∷ ts) more =
    times_added (record c { times = c.times ++ t ∷ [] }) ts more
    ∙ ap (λ (us : List (ℤ × ℕ)). all_added (record c { times = us }) more) (append_assoc c.times (t ∷ []) ts)

pub tree_added : (c : Content) (ls : List TreeLine) (more : List Item)
    → all_added c (map tree_item ls ++ more) ≡ all_added (record c { tree = c.tree ++ ls }) more
tree_added c [] more = ap (λ (ks : List TreeLine). all_added (record c { tree = ks }) more) (sym (append-nil c.tree))
tree_added c (line ∷ ls) more =
    ap (λ (d : Content). all_added d (map tree_item ls ++ more)) (added_line c line)
    ∙ tree_added (with_line c line) ls more ∙ ap
    (λ (ks : List TreeLine). all_added (record c { tree = ks }) more) (append_assoc c.tree (line ∷ []) ls)

pub end_adds : (c : Content) (item : Item) → is_end item ≡ true → added c item ≡ c
end_adds c End h = refl
end_adds c item h = absurd cc
