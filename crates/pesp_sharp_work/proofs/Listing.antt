-- Jobs listed line by line.
use Rattle.std.proofs.Common.{◌≡◌, ℕ, ◌+◌, ◌<◌, ◌≤◌, ap, sym, ◌∙◌, refl, List, [], ◌∷◌, ◌++◌, length, get_or, drop, map, append_assoc, append-nil, Option}
use Rattle.std.proofs.lemmas.List.{drop_all, drop_more, length-append}
use Rattle.pesp_truth.specs.declared.tree.TreeLine.{TreeLine}
use Rattle.pesp_truth.specs.Trees.{Line, line_of}
use Rattle.pesp_judges.proofs.Judged.{next_line}
use Rattle.pesp_sharp_work.specs.Jobs.{Path, SharpJob, jobs_at_line, jobs_in, paths_after}

-- what is left of lines, of what they show and of the paths that wait; the jobs before
pub record AreListed (cost : Option ℕ) (lines : List TreeLine) (shown : List (Option ℕ)) (k : ℕ)
    (waits : List Path) (jobs : List SharpJob) : Type 0 where
  pub all : jobs ++ jobs_in cost (length jobs) (map line_of (drop k lines)) (drop k shown) waits
      ≡ jobs_in cost 0 (map line_of lines) shown ([] ∷ [])

pub none_listed : (cost : Option ℕ) (lines : List TreeLine) (shown : List (Option ℕ))
    → AreListed cost lines shown 0 ([] ∷ []) []
none_listed cost lines shown = record { all = refl }

no_lines : (cost : Option ℕ) (n : ℕ) (shown : List (Option ℕ)) (waits : List Path) → jobs_in cost n [] shown waits ≡ []
no_lines cost n shown waits = refl

none_shows : (cost : Option ℕ) (n : ℕ) (lines : List Line) (waits : List Path) → jobs_in cost n lines [] waits ≡ []
none_shows cost n [] waits = refl
none_shows cost n (line ∷ lines) waits = refl

none_waits : (cost : Option ℕ) (n : ℕ) (lines : List Line) (shown : List (Option ℕ)) → jobs_in cost n lines shown [] ≡ []
none_waits cost n [] shown = refl
none_waits cost n (line ∷ lines) [] = refl
none_waits cost n (line ∷ lines) (value ∷ shown) = refl

module _ (cost : Option ℕ) (lines : List TreeLine) (shown : List (Option ℕ)) (k : ℕ) (waits : List Path)
    (jobs : List SharpJob) (h : AreListed cost lines shown k waits jobs) where
  ended : jobs_in cost (length jobs) (map line_of (drop k lines)) (drop k shown) waits ≡ []
      → jobs ≡ jobs_in cost 0 (map line_of lines) shown ([] ∷ [])
  ended none = sym (append-nil jobs) ∙ ap (λ (more : List SharpJob). jobs ++ more) (sym none) ∙ h.all

  pub lines_ended : length lines ≤ k → jobs ≡ jobs_in cost 0 (map line_of lines) shown ([] ∷ [])
  lines_ended done = ended (ap (λ (ls : List TreeLine). jobs_in cost (length jobs) (map line_of ls) (drop k shown) waits)
      (drop_all k lines done))

  pub shown_ended : length shown ≤ k → jobs ≡ jobs_in cost 0 (map line_of lines) shown ([] ∷ [])
  shown_ended done = ended (ap (λ (s : List (Option ℕ)). jobs_in cost (length jobs) (map line_of (drop k lines)) s waits)
      (drop_all k shown done) ∙ none_shows cost (length jobs) (map line_of (drop k lines)) waits)

  pub none_left : waits ≡ [] → jobs ≡ jobs_in cost 0 (map line_of lines) shown ([] ∷ [])
  none_left done = ended (ap (λ (w : List Path). jobs_in cost (length jobs) (map line_of (drop k lines)) (drop k shown) w) done
      ∙ none_waits cost (length jobs) (map line_of (drop k lines)) (drop k shown))

  pub one_listed : (line : TreeLine) (value : Option ℕ) (path : Path) (paths waits' : List Path) (jobs' : List SharpJob)
      → k < length lines → line ≡ get_or lines k line → k < length shown → value ≡ get_or shown k value
      → waits ≡ path ∷ paths → jobs' ≡ jobs ++ jobs_at_line cost (length jobs) path value
      → waits' ≡ paths_after (line_of line) waits → AreListed cost lines shown (k + 1) waits' jobs'
  one_listed line value path paths waits' jobs' in_lines is in_shown shows w more a =
      let job = jobs_at_line cost (length jobs) path value in
      let left = map line_of (drop (k + 1) lines) in
      let rest = drop (k + 1) shown in
      let values : drop k shown ≡ value ∷ rest = drop_more shown k value in_shown ∙ ap (λ (v : Option ℕ). v ∷ rest) (sym shows) in
      let there : jobs_in cost (length jobs) (map line_of (drop k lines)) (drop k shown) waits
      ≡ job ++ jobs_in cost (length jobs + length job) left rest (paths_after (line_of line) (path ∷ paths)) =
      ap (λ (ls : List Line). jobs_in cost (length jobs) ls (drop k shown) waits) (next_line lines k line in_lines is)
      ∙ ap (λ (s : List (Option ℕ)). jobs_in cost (length jobs) (line_of line ∷ left) s waits) values
      ∙ ap (λ (ps : List Path). jobs_in cost (length jobs) (line_of line ∷ left) (value ∷ rest) ps) w in
      let count : length (jobs ++ job) ≡ length jobs + length job = length-append jobs job in
      record {
        all =
            ap (λ (js : List SharpJob). js ++ jobs_in cost (length js) left rest waits') more
            ∙ ap (λ (ps : List Path). (jobs ++ job) ++ jobs_in cost (length (jobs ++ job)) left rest ps)
            (a ∙ ap (paths_after (line_of line)) w)
            ∙ ap (λ (n : ℕ). (jobs ++ job) ++ jobs_in cost n left rest (paths_after (line_of line) (path ∷ paths))) count
            ∙ append_assoc jobs job (jobs_in cost (length jobs + length job) left rest (paths_after (line_of line) (path ∷ paths)))
            ∙ ap (λ (js : List SharpJob). jobs ++ js) (sym there) ∙ h.all;
      }
