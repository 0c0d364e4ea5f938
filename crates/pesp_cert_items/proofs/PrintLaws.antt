-- The pieces in which a work is sent are its text.
use Rattle.std.proofs.Common.{◌≡◌, ℕ, List, [], ◌∷◌, ◌++◌, refl, sym, ap, ◌∙◌, append_assoc, append-nil}
use Rattle.std.specs.Prelude.{map, codes, decimal}
use Rattle.std.specs.List.{flat_map}
use Rattle.std.proofs.lemmas.List.Concat.{flat_map-append}
use Rattle.pesp_cert_lines.specs.declared.item.Item.TheVariants.{End}
use Rattle.pesp_cert_lines.specs.Items.{item_line}
use Rattle.pesp_cert.specs.Print.{time_line, tree_line_text}
use Rattle.pesp_cert.specs.Texts.{time_item, tree_item}
use Rattle.pesp_cert.proofs.PrintLaws.{mapped, time_is, tree_is}
use Rattle.pesp_cert_items.specs.Works.{WorkValue, HEADER, work_items, work_spelling}
use Rattle.pesp_cert_items.specs.Print.{work_text}

shape : (h j n sp lf a b e : List ℕ) → h ++ (lf ++ ((j ++ ((sp ++ n) ++ [])) ++ (lf ++ (a ++ (b ++ e)))))
    ≡ ((((((h ++ lf) ++ (j ++ sp)) ++ n) ++ lf) ++ a) ++ b) ++ e
shape h j n sp lf a b e = simp (append_assoc, append-nil)

pub work_is : (w : WorkValue) → work_text w ≡ work_spelling w
work_is w =
    let times = flat_map time_line w.times in
    let tree = flat_map tree_line_text w.tree in
    let lines : flat_map item_line (work_items w) ≡ times ++ (tree ++ codes "end\n") =
    rw (
      flat_map-append item_line (map time_item w.times) (map tree_item w.tree ++ End ∷ []),
      flat_map-append item_line (map tree_item w.tree) (End ∷ []),
      mapped time_item time_line time_is w.times,
      mapped tree_item tree_line_text tree_is w.tree,
    ) refl in
    let whole : work_spelling w ≡ HEADER ++ 10 ∷ ((codes "job" ++ ((32 ∷ decimal w.job) ++ [])) ++ 10
    ∷ (times ++ (tree ++ codes "end\n"))) = ap (λ (t : List ℕ). HEADER ++ 10
    ∷ ((codes "job" ++ ((32 ∷ decimal w.job) ++ [])) ++ 10 ∷ t)) lines in
    sym (whole ∙ shape HEADER (codes "job") (decimal w.job) (32 ∷ []) (10 ∷ []) times tree (codes "end\n"))
