-- Works taken one after the other.
use Rattle.std.proofs.Common.{◌≡◌, ℕ, arith, ap, sym, subst, ◌∙◌, refl, List, [], ◌∷◌, ◌++◌, length, append_assoc, append-nil}
use Rattle.std.specs.Prelude.{Option, Some, None}
use Rattle.pesp_problem.specs.Timetables.{Pesp}
use Rattle.pesp_truth.specs.declared.answer.Answer.{Answer}
use Rattle.pesp_truth.specs.Certificates.{least_of, cost_of, IsValid}
use Rattle.pesp_tree.specs.States.{IsAtMost}
use Rattle.pesp_cert.specs.Fronted.{Fronted, IsFrontedText}
use Rattle.pesp_sharp_work.specs.Ranks.{IsNoWorse}
use Rattle.pesp_sharp_work.specs.Cutting.{IsTextCut}
use Rattle.pesp_sharp_work.specs.declared.sharp_graft.SharpReply.{SharpReply}
use Rattle.pesp_sharp_work.specs.declared.sharp_graft.SharpReply.TheVariants.{Taken, AddsNothing, Unread, NotValid, TooLarge}
use Rattle.pesp_sharp_work.specs.Grafts.{TakesSharpWork, TakesSharpWorks, IsSharpGrafted}

at_most_itself : (a : Option ℕ) → IsAtMost a a
at_most_itself None = tt
at_most_itself (Some a) = omega arith

at_most_then : (a b c : Option ℕ) → IsAtMost a b → IsAtMost b c → IsAtMost a c
at_most_then a b None h k = tt
at_most_then None None (Some c) h k = absurd k
at_most_then (Some a) None (Some c) h k = absurd k
at_most_then None (Some b) (Some c) h k = absurd h
at_most_then (Some a) (Some b) (Some c) h k = omega (arith, h, k)

-- an answer is no worse than itself
itself : (a : Answer) → IsNoWorse a a
itself a = (at_most_itself (least_of a), at_most_itself (cost_of a))

no_worse_then : (a b c : Answer) → IsNoWorse a b → IsNoWorse b c → IsNoWorse a c
no_worse_then a b c h k = (
  at_most_then (least_of a) (least_of b) (least_of c) h.0 k.0,
  at_most_then (cost_of c) (cost_of b) (cost_of a) k.1 h.1,
)

-- what stands after a work is valid and no worse
module _ (p : Pesp) (old new : Fronted) (text : List ℕ) where
  kept : new ≡ old → IsValid old.front p old.content
      → IsValid new.front p new.content × IsNoWorse old.content.answer new.content.answer
  kept is valid = rw is (valid, itself old.content.answer)

  after_work : (reply : SharpReply) → IsValid old.front p old.content → TakesSharpWork p old text reply new
      → IsValid new.front p new.content × IsNoWorse old.content.answer new.content.answer
  after_work Taken valid h = (h.0, h.1)
  after_work AddsNothing valid h = kept h.0 valid
  after_work (Unread refusal) valid h = kept h.0 valid
  after_work (NotValid refusal) valid h = kept h.0 valid
  after_work TooLarge valid h = kept h.0 valid

-- ---- a valid work alone

module _ (p : Pesp) (old work : Fronted) (text : List ℕ) (valid : IsValid work.front p work.content) (is : IsFrontedText text work) where
  pub adds_nothing : IsNoWorse work.content.answer old.content.answer → TakesSharpWork p old text AddsNothing old
  adds_nothing worse = (refl, (work, is, (valid, worse)))

  pub taken_alone : IsNoWorse old.content.answer work.content.answer → TakesSharpWork p old text Taken work
  taken_alone better = (valid, better, (work, is, (valid, itself work.content.answer)))

  pub too_large : (IsNoWorse work.content.answer old.content.answer → ⊥) → (IsNoWorse old.content.answer work.content.answer → ⊥)
      → TakesSharpWork p old text TooLarge old
  too_large less more = (refl, (work, is, (valid, less, more)))

pub nothing_left : (xs : List ℕ) → length xs ≡ 0 → xs ≡ []
nothing_left [] e = refl
nothing_left (x ∷ xs) e = cc

-- some works were taken, and this is left of the text
pub record AreTaken (p : Pesp) (base : Fronted) (text rest : List ℕ) (stood : Fronted) (replies : List SharpReply) : Type 0 where
  pub valid : IsValid stood.front p stood.content
  pub no_worse : IsNoWorse base.content.answer stood.content.answer
  pub takes : (more : List SharpReply) (new : Fronted) → TakesSharpWorks p stood rest more new
      → TakesSharpWorks p base text (replies ++ more) new

pub none_taken : (p : Pesp) (base : Fronted) (text : List ℕ) → IsValid base.front p base.content → AreTaken p base text text base []
none_taken p base text valid = record { valid = valid; no_worse = itself base.content.answer; takes = λ more new h. h }

module _ (p : Pesp) (base : Fronted) (text rest : List ℕ) (stood : Fronted) (replies : List SharpReply)
    (h : AreTaken p base text rest stood replies) where
  pub one_taken : (work rest' : List ℕ) (stood' : Fronted) (reply : SharpReply) (replies' : List SharpReply)
      → IsTextCut rest work rest' → TakesSharpWork p stood work reply stood' → replies' ≡ replies ++ reply ∷ []
      → AreTaken p base text rest' stood' replies'
  one_taken work rest' stood' reply replies' cut takes more =
      let there = after_work p stood stood' work reply h.valid takes in
      record {
        valid = there.0;
        no_worse = no_worse_then base.content.answer stood.content.answer stood'.content.answer h.no_worse there.1;
        takes = λ others new t.
            let P : List SharpReply → Type 0 = λ rs. TakesSharpWorks p base text rs new in
            subst P (sym (ap (λ (rs : List SharpReply). rs ++ others) more ∙ append_assoc replies (reply ∷ []) others))
            (h.takes (reply ∷ others) new (work, rest', stood', cut, takes, t));
      }

  pub all_taken : rest ≡ [] → IsSharpGrafted p base text replies stood
  all_taken done =
      let P : List SharpReply → Type 0 = λ rs. TakesSharpWorks p base text rs stood in
      record {
        takes = subst P (append-nil replies) (h.takes [] stood (done, refl));
        valid = h.valid;
        no_worse = h.no_worse;
      }
