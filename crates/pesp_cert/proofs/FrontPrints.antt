-- The pieces in which a front is sent are its text.
use Rattle.std.proofs.Common.{◌≡◌, ℕ, Bool, true, false, List, [], ◌∷◌, ◌++◌, Option, Some, None, refl, sym, ap, ◌∙◌, append_assoc}
use Rattle.std.specs.Prelude.{map, codes, decimal}
use Rattle.std.specs.List.{flat_map}
use Rattle.std.specs.Fmt.{signed_decimal}
use Rattle.std.proofs.lemmas.List.{append-nil}
use Rattle.std.proofs.lemmas.List.Concat.{flat_map-cons, flat_map-append}
use Rattle.pesp_stream.specs.Words.{spaced}
use Rattle.pesp_problem.specs.declared.marked.MarkedRow.{MarkedRow}
use Rattle.pesp_truth.specs.Marks.{Marks}
use Rattle.pesp_truth.specs.Shown.{LemmaProof}
use Rattle.pesp_truth.specs.Certificates.{Front as FrontOf, Content}
use Rattle.pesp_cert_lines.specs.Marked.{marked_words}
use Rattle.pesp_cert_lines.specs.declared.item.Item.{Item}
use Rattle.pesp_cert_lines.specs.declared.item.Item.TheVariants.{Front, Scale, Walk, Lemma, Least, Cycle}
use Rattle.pesp_cert_lines.specs.Items.{item_line}
use Rattle.pesp_cert.specs.Texts.{text_of, tree_item, marks_items, lemma_items, front_items, own_items, spelling}
use Rattle.pesp_cert.specs.Fronted.{front_text}
use Rattle.pesp_cert.specs.FrontPrint.{row_text, rows_text, walk_text, marks_text, lemma_text}
use Rattle.pesp_cert.specs.Print.{pairs_text, cycle_line, tree_line_text}
use Rattle.pesp_cert.proofs.PrintLaws.{pairs_are, cycle_is, tree_is, mapped}

rows_are : (walk : List MarkedRow) → spaced (marked_words walk) ≡ rows_text walk
rows_are [] = refl
rows_are (s ∷ walk) = go s.signed.plus ∙ ap (λ (t : List ℕ). row_text s ++ t) (rows_are walk) ∙ sym (flat_map-cons row_text s walk)
  where
    go : (plus : Bool) → spaced (marked_words (record {
      signed = record { row = s.signed.row; plus = plus };
      flipped = s.flipped;
    } ∷ walk)) ≡ row_text (record {
      signed = record { row = s.signed.row; plus = plus };
      flipped = s.flipped;
    }) ++ spaced (marked_words walk)
    go true = refl
    go false = refl

walk_is : (walk : List MarkedRow) → walk_text walk ≡ item_line (Walk walk)
walk_is walk = ap (λ (t : List ℕ). (codes "walk" ++ t) ++ 10 ∷ []) (sym (rows_are walk))

walks_are : (walks : List (List MarkedRow)) → flat_map walk_text walks ≡ text_of (map Walk walks)
walks_are [] = refl
walks_are (walk ∷ walks) = flat_map-cons walk_text walk walks
    ∙ ap (λ (t : List ℕ). t ++ flat_map walk_text walks) (walk_is walk)
    ∙ ap (λ (t : List ℕ). item_line (Walk walk) ++ t) (walks_are walks) ∙ sym (flat_map-cons item_line (Walk walk) (map Walk walks))

one_shape : (s d w : List ℕ) → ((s ++ (32 ∷ [])) ++ (d ++ (10 ∷ []))) ++ w ≡ ((s ++ ((32 ∷ d) ++ [])) ++ (10 ∷ [])) ++ w
one_shape s d w = simp (append_assoc, append-nil)

-- the lines of a scale and of marked walks
marks_are : (m : Marks) → marks_text m ≡ text_of (marks_items m)
marks_are m = one_shape (codes "scale") (decimal m.scale) (flat_map walk_text m.walks)
    ∙ ap (λ (w : List ℕ). item_line (Scale m.scale) ++ w) (walks_are m.walks)
    ∙ sym (flat_map-cons item_line (Scale m.scale) (map Walk m.walks))

lemma_shape : (l p s d m c t : List ℕ) → ((((l ++ p) ++ ((10 ∷ (s ++ (32 ∷ []))) ++ (d ++ (10 ∷ [])))) ++ m) ++ c) ++ t
    ≡ ((l ++ p) ++ (10 ∷ [])) ++ (((s ++ ((32 ∷ d) ++ [])) ++ (10 ∷ [])) ++ ((m ++ c) ++ t))
lemma_shape l p s d m c t = simp (append_assoc, append-nil)

-- the lines of a lemma
lemma_is : (s : LemmaProof) → lemma_text s ≡ text_of (lemma_items s)
lemma_is s =
    let ms : List Item = marks_items s.marks in
    let cs : List Item = map Cycle s.cycles in
    let ts : List Item = map tree_item s.tree in
    let rest : text_of ((ms ++ cs) ++ ts) ≡ (marks_text s.marks ++ flat_map cycle_line s.cycles) ++ flat_map tree_line_text s.tree =
    flat_map-append item_line (ms ++ cs) ts
    ∙ ap (λ (w : List ℕ). w ++ text_of ts) (flat_map-append item_line ms cs
    ∙ ap (λ (w : List ℕ). w ++ text_of cs) (sym (marks_are s.marks))
    ∙ ap (λ (w : List ℕ). marks_text s.marks ++ w) (mapped Cycle cycle_line cycle_is s.cycles))
    ∙ ap (λ (w : List ℕ). (marks_text s.marks ++ flat_map cycle_line s.cycles) ++ w) (mapped tree_item tree_line_text tree_is s.tree) in
    let all : text_of (lemma_items s) ≡ item_line (Lemma s.fact.weights) ++ (item_line (Least s.fact.least)
    ++ ((marks_text s.marks ++ flat_map cycle_line s.cycles) ++ flat_map tree_line_text s.tree)) =
    flat_map-cons item_line (Lemma s.fact.weights) (Least s.fact.least ∷ (ms ++ cs) ++ ts)
    ∙ ap (λ (t : List ℕ). item_line (Lemma s.fact.weights) ++ t) (flat_map-cons item_line (Least s.fact.least) ((ms ++ cs) ++ ts)
    ∙ ap (λ (t : List ℕ). item_line (Least s.fact.least) ++ t) rest) in
    lemma_shape (codes "lemma") (pairs_text s.fact.weights) (codes "least") (signed_decimal s.fact.least) (marks_text s.marks)
    (flat_map cycle_line s.cycles) (flat_map tree_line_text s.tree)
    ∙ sym (all ∙ ap (λ (p : List ℕ). ((codes "lemma" ++ p) ++ (10 ∷ [])) ++ (item_line (Least s.fact.least)
    ++ ((marks_text s.marks ++ flat_map cycle_line s.cycles) ++ flat_map tree_line_text s.tree))) (pairs_are s.fact.weights))

lemmas_are : (ss : List LemmaProof) → flat_map lemma_text ss ≡ text_of (flat_map lemma_items ss)
lemmas_are [] = refl
lemmas_are (s ∷ ss) = flat_map-cons lemma_text s ss ∙ ap (λ (t : List ℕ). t ++ flat_map lemma_text ss) (lemma_is s)
    ∙ ap (λ (t : List ℕ). text_of (lemma_items s) ++ t) (lemmas_are ss)
    ∙ sym (ap text_of (flat_map-cons lemma_items s ss) ∙ flat_map-append item_line (lemma_items s) (flat_map lemma_items ss))

pub front_is : (f : FrontOf) → (codes "pesp-certificate 3\n" ++ marks_text f.marks) ++ flat_map lemma_text f.lemmas ≡ front_text (Some f)
front_is f =
    append_assoc (codes "pesp-certificate 3\n") (marks_text f.marks) (flat_map lemma_text f.lemmas)
    ∙ ap (λ (t : List ℕ). item_line Front ++ t) (ap (λ (t : List ℕ). t ++ flat_map lemma_text f.lemmas) (marks_are f.marks)
    ∙ ap (λ (t : List ℕ). text_of (marks_items f.marks) ++ t) (lemmas_are f.lemmas)
    ∙ sym (flat_map-append item_line (marks_items f.marks) (flat_map lemma_items f.lemmas)))
    ∙ sym (flat_map-cons item_line Front (marks_items f.marks ++ flat_map lemma_items f.lemmas))

-- the front's text and the content's are that of both
pub whole_is : (front : Option FrontOf) (c : Content) → front_text front ++ spelling None c ≡ spelling front c
whole_is front c = sym (flat_map-append item_line (front_items front) (own_items c))
