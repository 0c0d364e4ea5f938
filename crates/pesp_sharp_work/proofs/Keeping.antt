-- Open leaves that stay as they are.
use Rattle.std.proofs.Common.{◌≡◌, ℕ, ◌+◌, ◌<◌, ◌≤◌, arith, ap, sym, ◌∙◌, refl, subst, inr, List, [], ◌∷◌, ◌++◌, length, get_or, drop, map, append_assoc, zero, suc, Option}
use Rattle.std.proofs.lemmas.List.{drop_all, drop_more, length-append, length-map}
use Rattle.pesp_problem.specs.Timetables.{Pesp}
use Rattle.pesp_truth.specs.Certificates.{cost_of}
use Rattle.pesp_cert.specs.Fronted.{Fronted}
use Rattle.pesp_turns.specs.declared.open_job.OpenJob.{OpenJob}
use Rattle.pesp_sharp_work.specs.Jobs.{SharpJob, told_job, jobs_of}
use Rattle.pesp_sharp_work.specs.Keeping.{IsAmong, KeepsLeaf, KeepLeaves, KeepsOtherLeaves}

-- ---- a path, step by step

-- the first k steps of two paths are the same
pub record AreAlike {A : Type 0} (xs ys : List A) (k : ℕ) : Type 0 where
  pub long : length xs ≡ length ys
  pub rest : drop k xs ≡ drop k ys → xs ≡ ys

pub none_alike : {A : Type 0} (xs ys : List A) → length xs ≡ length ys → AreAlike xs ys 0
none_alike xs ys long = record { long = long; rest = λ h. h }

pub one_alike : {A : Type 0} (xs ys : List A) (k : ℕ) (x y : A) → k < length xs → x ≡ get_or xs k x → y ≡ get_or ys k y → x ≡ y
    → AreAlike xs ys k → AreAlike xs ys (k + 1)
one_alike xs ys k x y below in_xs in_ys same h =
    let long = h.long in
    let others : k < length ys = omega (arith, below, long) in
    record {
      long = long;
      rest = λ e. h.rest (drop_more xs k x below ∙ ap (λ z. z ∷ drop (k + 1) xs) (sym in_xs ∙ same ∙ in_ys)
          ∙ ap (λ zs. get_or ys k y ∷ zs) e ∙ sym (drop_more ys k y others));
    }

pub all_alike : {A : Type 0} (xs ys : List A) (k : ℕ) → length xs ≤ k → AreAlike xs ys k → xs ≡ ys
all_alike xs ys k done h =
    let long = h.long in
    let others : length ys ≤ k = omega (arith, done, long) in
    h.rest (drop_all k xs done ∙ sym (drop_all k ys others))

-- ---- a job

at_map : (leaves : List OpenJob) (i : ℕ) (leaf : OpenJob) (job : SharpJob) → i < length leaves
    → get_or (map told_job leaves) i job ≡ told_job (get_or leaves i leaf)
at_map [] i leaf job below = absurd (omega (arith, below))
at_map (x ∷ leaves) zero leaf job below = refl
at_map (x ∷ leaves) (suc i) leaf job below = at_map leaves i leaf job (omega (arith, below))

pub is_among : (others : List OpenJob) (leaf other : OpenJob) (i : ℕ) → i < length others → other ≡ get_or others i other
    → other.job.path.items ≡ leaf.job.path.items → other.value ≡ leaf.value → IsAmong (map told_job others) (told_job leaf)
is_among others leaf other i below is path value =
    let at = at_map others i other (told_job leaf) below ∙ ap told_job (sym is) in
    let long = length-map others told_job in
    (i, omega (arith, below, long), ap (λ (j : SharpJob). j.path) at ∙ path, ap (λ (j : SharpJob). j.value) at ∙ value)

-- ---- jobs, one after the other

-- k of the jobs keep their leaves
pub record AreKept (jobs : List ℕ) (until cost : Option ℕ) (others leaves : List OpenJob) (k : ℕ) : Type 0 where
  pub rest : KeepLeaves jobs until cost (map told_job others) (map told_job (drop k leaves))
      → KeepLeaves jobs until cost (map told_job others) (map told_job leaves)

pub none_kept : (jobs : List ℕ) (until cost : Option ℕ) (others leaves : List OpenJob) → AreKept jobs until cost others leaves 0
none_kept jobs until cost others leaves = record { rest = λ h. h }

module _ (jobs : List ℕ) (until cost : Option ℕ) (others leaves : List OpenJob) (k : ℕ) (h : AreKept jobs until cost others leaves k) where
  pub one_kept : (leaf : OpenJob) → k < length leaves → leaf ≡ get_or leaves k leaf
      → KeepsLeaf jobs until cost (map told_job others) (told_job leaf) → AreKept jobs until cost others leaves (k + 1)
  one_kept leaf below is kept =
      let there : drop k leaves ≡ leaf ∷ drop (k + 1) leaves =
      drop_more leaves k leaf below ∙ ap (λ (x : OpenJob). x ∷ drop (k + 1) leaves) (sym is) in
      let P : List OpenJob → Type 0 = λ ls. KeepLeaves jobs until cost (map told_job others) (map told_job ls) in
      record { rest = λ rest. h.rest (subst P (sym there) (kept, rest)) }

  pub all_kept : length leaves ≤ k → KeepLeaves jobs until cost (map told_job others) (map told_job leaves)
  all_kept done =
      let P : List OpenJob → Type 0 = λ ls. KeepLeaves jobs until cost (map told_job others) (map told_job ls) in
      h.rest (subst P (sym (drop_all k leaves done)) tt)

-- ---- a base keeps its own

at_end : (before : List SharpJob) (job : SharpJob) (rest : List SharpJob) → get_or (before ++ job ∷ rest) (length before) job ≡ job
at_end [] job rest = refl
at_end (x ∷ before) job rest = at_end before job rest

keep_from : (jobs : List ℕ) (until cost : Option ℕ) (before rest : List SharpJob) → KeepLeaves jobs until cost (before ++ rest) rest
keep_from jobs until cost before [] = tt
keep_from jobs until cost before (job ∷ rest) =
    let at = at_end before job rest in
    let long = length-append before (job ∷ rest) in
    let P : List SharpJob → Type 0 = λ all. KeepLeaves jobs until cost all rest in (
      inr (inr (length before, omega (arith, long), ap (λ (j : SharpJob). j.path) at, ap (λ (j : SharpJob). j.value) at)),
      subst P (append_assoc before (job ∷ []) rest) (keep_from jobs until cost (before ++ job ∷ []) rest),
    )

pub base_keeps : (p : Pesp) (base : Fronted) (jobs : List ℕ) (until : Option ℕ) → KeepsOtherLeaves p base jobs until base
base_keeps p base jobs until is = keep_from jobs until (cost_of base.content.answer) [] (jobs_of p base)
