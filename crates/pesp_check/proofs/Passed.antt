-- Items behind one that is wrong: the answer is told by them, where it has not come yet.
use Rattle.std.proofs.Common.{◌≡◌, ◌⊎◌, inl, inr, ℕ, true, false, List, [], ◌∷◌, ◌++◌, map, drop, refl, sym, ap, subst, ◌∙◌, append_assoc, Option}
use Rattle.std.specs.List.{list_all, flat_map}
use Rattle.std.proofs.lemmas.List.Concat.{flat_map-cons}
use Rattle.pesp_problem.specs.declared.row.SignedRow.{SignedRow}
use Rattle.pesp_problem.specs.Timetables.{Pesp}
use Rattle.pesp_problem.specs.declared.marked.MarkedRow.{MarkedRow}
use Rattle.pesp_truth.specs.declared.answer.Answer.{Answer}
use Rattle.pesp_truth.specs.declared.tree.TreeLine.{TreeLine}
use Rattle.pesp_truth.specs.declared.tree.TreeLine.TheVariants as lines
use Rattle.pesp_truth.specs.Certificates.{Content, Front as FrontOf}
use Rattle.pesp_cert_lines.specs.declared.item.Item.{Item}
use Rattle.pesp_cert_lines.specs.declared.item.Item.TheVariants.{Scale, Walk, Least, Version, Period, Answer as Says, Cycle, End}
use Rattle.pesp_cert_lines.proofs.Tests.{and_left, and_right, and_both}
use Rattle.pesp_cert.specs.Texts.{time_item, tree_item, marks_items, lemma_items}
use Rattle.pesp_truth.specs.Lemmas.{Lemma as Fact}
use Rattle.pesp_truth.specs.Shown.{LemmaProof}
use Rattle.pesp_judges.specs.declared.refusal.Refusal.{Refusal}
use Rattle.pesp_judges.specs.Showing.{KeptLemma}
use Rattle.pesp_check.specs.Items.{says_no_answer}
use Rattle.pesp_check.specs.declared.stage.Stage.TheVariants as stages
use Rattle.pesp_check.specs.Judging.{Kept, AnswerIsLeft, tree_from, cycles_from, times_from, behind, lemmas_from, lemma_tree_from, lemma_cycles_from, lemma_walks_from, LemmaTo, JudgedAt}

-- ---- items that are not the answer

pub line_no : (line : TreeLine) → says_no_answer (tree_item line) ≡ true
line_no (lines.Slack row k) = refl
line_no (lines.Offset cycle k) = refl
line_no (lines.Bound ps) = refl
line_no (lines.Nothing ps) = refl
line_no (lines.Gap cycle) = refl
line_no lines.Propagated = refl

all_mapped : {A : Type 0} (f : A → Item) → ((x : A) → says_no_answer (f x) ≡ true) → (xs : List A) → list_all says_no_answer (map f xs) ≡ true
all_mapped f h [] = refl
all_mapped f h (x ∷ xs) = and_both (says_no_answer (f x)) (list_all says_no_answer (map f xs)) (h x) (all_mapped f h xs)

all_both : (xs ys : List Item) → list_all says_no_answer xs ≡ true → list_all says_no_answer ys ≡ true → list_all says_no_answer (xs ++ ys) ≡ true
all_both [] ys a b = b
all_both (x ∷ xs) ys a b = and_both (says_no_answer x) (list_all says_no_answer (xs ++ ys))
    (and_left (says_no_answer x) (list_all says_no_answer xs) a)
    (all_both xs ys (and_right (says_no_answer x) (list_all says_no_answer xs) a) b)

tree_no : (ls : List TreeLine) → list_all says_no_answer (map tree_item ls) ≡ true
tree_no ls = all_mapped tree_item line_no ls

cycles_no : (cs : List (List SignedRow)) → list_all says_no_answer (map Cycle cs) ≡ true
cycles_no cs = all_mapped Cycle (λ c. refl) cs

walks_no : (ws : List (List MarkedRow)) → list_all says_no_answer (map Walk ws) ≡ true
walks_no ws = all_mapped Walk (λ w. refl) ws

pub all_tree : (c : Content) (k : ℕ) → list_all says_no_answer (tree_from c k) ≡ true
all_tree c k = all_both (map tree_item (drop k c.tree)) (End ∷ []) (tree_no (drop k c.tree)) refl

pub all_cycles : (c : Content) (k : ℕ) → list_all says_no_answer (cycles_from c k) ≡ true
all_cycles c k = all_both (map Cycle (drop k c.cycles)) (tree_from c 0) (cycles_no (drop k c.cycles)) (all_tree c 0)

all_times : (c : Content) (k : ℕ) → list_all says_no_answer (times_from c k) ≡ true
all_times c k = all_both (map time_item (drop k c.times)) (cycles_from c 0) (all_mapped time_item (λ t. refl) (drop k c.times)) (all_cycles c 0)

shown_no : (s : LemmaProof) → list_all says_no_answer (marks_items s.marks ++ map Cycle s.cycles ++ map tree_item s.tree) ≡ true
shown_no s = all_both (marks_items s.marks ++ map Cycle s.cycles) (map tree_item s.tree)
    (all_both (marks_items s.marks) (map Cycle s.cycles) (walks_no s.marks.walks) (cycles_no s.cycles)) (tree_no s.tree)

lemmas_no : (ss : List LemmaProof) → list_all says_no_answer (flat_map lemma_items ss) ≡ true
lemmas_no [] = refl
lemmas_no (s ∷ ss) = ap (list_all says_no_answer) (flat_map-cons lemma_items s ss)
    ∙ all_both (lemma_items s) (flat_map lemma_items ss) (shown_no s) (lemmas_no ss)

-- ---- the answer is still to come

left_more : (c : Content) (xs rest : List Item) → list_all says_no_answer xs ≡ true → AnswerIsLeft c rest → AnswerIsLeft c (xs ++ rest)
left_more c xs rest a (before, all, is) =
    (xs ++ before, all_both xs before a all, ap (λ ys. xs ++ ys) is ∙ sym (append_assoc xs before (Says c.answer ∷ times_from c 0)))

left_behind : (c : Content) → AnswerIsLeft c (behind c)
left_behind c = (Version c.version ∷ Period c.period ∷ [], refl, refl)

pub left_lemmas : (f : FrontOf) (c : Content) (j : ℕ) → AnswerIsLeft c (lemmas_from f c j)
left_lemmas f c j = left_more c (flat_map lemma_items (drop j f.lemmas)) (behind c) (lemmas_no (drop j f.lemmas)) (left_behind c)

left_next : (c : Content) (item : Item) (rest : List Item) → says_no_answer item ≡ true → AnswerIsLeft c (item ∷ rest) → AnswerIsLeft c rest
left_next c item rest e ([], all, is) =
    let head : item ≡ Says c.answer = cc in let bad : false ≡ true = ap says_no_answer (sym head) ∙ e in absurd cc
left_next c item rest e (x ∷ before, all, is) = (before, and_right (says_no_answer x) (list_all says_no_answer before) all, cc)

left_tree : (c : Content) (s : LemmaProof) (more : List Item) (k : ℕ) → AnswerIsLeft c more → AnswerIsLeft c (lemma_tree_from s more k)
left_tree c s more k h = left_more c (map tree_item (drop k s.tree)) more (tree_no (drop k s.tree)) h

left_cycles : (c : Content) (s : LemmaProof) (more : List Item) (k : ℕ) → AnswerIsLeft c more → AnswerIsLeft c (lemma_cycles_from s more k)
left_cycles c s more k h = left_more c (map Cycle (drop k s.cycles)) (lemma_tree_from s more 0) (cycles_no (drop k s.cycles)) (left_tree c s more 0 h)

left_walks : (c : Content) (s : LemmaProof) (more : List Item) (k : ℕ) → AnswerIsLeft c more → AnswerIsLeft c (lemma_walks_from s more k)
left_walks c s more k h =
    left_more c (map Walk (drop k s.marks.walks)) (lemma_cycles_from s more 0) (walks_no (drop k s.marks.walks)) (left_cycles c s more 0 h)

-- behind the rows of a lemma
pub left_of_begun : (c : Content) (s : LemmaProof) (more : List Item) → AnswerIsLeft c more
    → AnswerIsLeft c (Least s.fact.least ∷ Scale s.marks.scale ∷ lemma_walks_from s more 0)
left_of_begun c s more h = left_more c (Least s.fact.least ∷ Scale s.marks.scale ∷ []) (lemma_walks_from s more 0) refl (left_walks c s more 0 h)

-- while a lemma is coming
pub left_in_lemma : (c : Content) (p : Pesp) (earlier : List Fact) (s : LemmaProof) (at : ℕ) (kept : KeptLemma) (line : ℕ) (rest more : List Item)
    → AnswerIsLeft c more → LemmaTo p earlier s at kept line rest more → AnswerIsLeft c rest
left_in_lemma c p earlier s at kept line rest more h (inl l) =
    subst (AnswerIsLeft c) (sym l.2) (left_of_begun c s more h)
left_in_lemma c p earlier s at kept line rest more h (inr (inl l)) =
    subst (AnswerIsLeft c) (sym l.3) (left_more c (Scale s.marks.scale ∷ []) (lemma_walks_from s more 0) refl (left_walks c s more 0 h))
left_in_lemma c p earlier s at kept line rest more h (inr (inr (inl l))) = subst (AnswerIsLeft c) (sym l.1.left) (left_walks c s more l.0 h)
left_in_lemma c p earlier s at kept line rest more h (inr (inr (inr (inl l)))) = subst (AnswerIsLeft c) (sym l.1.left) (left_cycles c s more l.0 h)
left_in_lemma c p earlier s at kept line rest more h (inr (inr (inr (inr l)))) = subst (AnswerIsLeft c) (sym l.1.left) (left_tree c s more l.0 h)

-- behind the next item of it, which is not the answer
pub left_behind_item : (c : Content) (p : Pesp) (earlier : List Fact) (s : LemmaProof) (at : ℕ) (kept : KeptLemma) (line : ℕ) (item : Item)
    (rest more : List Item) → says_no_answer item ≡ true → AnswerIsLeft c more → LemmaTo p earlier s at kept line (item ∷ rest) more
    → AnswerIsLeft c rest
left_behind_item c p earlier s at kept line item rest more e h l =
    left_next c item rest e (left_in_lemma c p earlier s at kept line (item ∷ rest) more h l)

-- ---- the answer came, or it is still to come

abbrev pub IsAnswered : Content → Answer → List Item → Type 0
IsAnswered c answer rest = ((answer ≡ c.answer) × (list_all says_no_answer rest ≡ true)) ⊎ AnswerIsLeft c rest

pub answer_passed : (c : Content) (item : Item) (rest : List Item) (old new : Answer) → says_no_answer item ≡ true → new ≡ old
    → IsAnswered c old (item ∷ rest) → IsAnswered c new rest
answer_passed c item rest old new e same (inl h) = inl (same ∙ h.0, and_right (says_no_answer item) (list_all says_no_answer rest) h.1)
answer_passed c item rest old new e same (inr h) = inr (left_next c item rest e h)

pub answer_came : (c : Content) (a : Answer) (rest : List Item) (old : Answer) → IsAnswered c old (Says a ∷ rest) → IsAnswered c a rest
answer_came c a rest old (inl h) = let bad : false ≡ true = and_left false (list_all says_no_answer rest) h.1 in absurd cc
answer_came c a rest old (inr ([], all, is)) = inl (cc, ap (list_all says_no_answer) (rest_is is) ∙ all_times c 0)
  where
    rest_is : Says a ∷ rest ≡ Says c.answer ∷ times_from c 0 → rest ≡ times_from c 0
    rest_is e = cc
answer_came c a rest old (inr (x ∷ before, all, is)) =
    let head : x ≡ Says a = cc in
    let no = and_left (says_no_answer x) (list_all says_no_answer before) all in
    let bad : false ≡ true = ap says_no_answer (sym head) ∙ no in absurd cc

pub answered : (c : Content) (answer : Answer) → IsAnswered c answer (End ∷ []) → answer ≡ c.answer
answered c answer (inl h) = h.0
answered c answer (inr ([], all, is)) = let head : End ≡ Says c.answer = cc in absurd cc
answered c answer (inr (x ∷ [], all, is)) = let none : [] ≡ Says c.answer ∷ times_from c 0 = cc in absurd cc
answered c answer (inr (x ∷ y ∷ before, all, is)) = let none : [] ≡ y ∷ (before ++ Says c.answer ∷ times_from c 0) = cc in absurd cc

-- an item behind a refusal
pub passed : (p : Pesp) (front : Option FrontOf) (c : Content) (refusal : Refusal) (item : Item) (rest : List Item) (kept kept' : Kept)
    → says_no_answer item ≡ true → kept'.answer ≡ kept.answer → kept'.lemma ≡ kept.lemma
    → JudgedAt (stages.Refused refusal) p front c (item ∷ rest) kept → JudgedAt (stages.Refused refusal) p front c rest kept'
passed p front c refusal item rest kept kept' e same none h = record {
  none = none ∙ h.none;
  answer = answer_passed c item rest kept.answer kept'.answer e same h.answer;
  first = h.first;
}
