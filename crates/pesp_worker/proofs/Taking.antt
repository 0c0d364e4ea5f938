-- Works that are taken one after the other.
use Rattle.std.proofs.Common.{◌≡◌, ℕ, List, [], ◌∷◌, ◌++◌, refl, sym, subst}
use Rattle.std.specs.Prelude.{ℤ, Result, Err}
use Rattle.std.specs.Global.{Vec}
use Rattle.pesp_truth.specs.declared.tree.TreeLine.{TreeLine}
use Rattle.pesp_tree.specs.declared.work.Work.TheVariants.{Tree}
use Rattle.pesp_tree.specs.declared.refusal.GiveRefusal.{GiveRefusal}
use Rattle.pesp_tree.specs.declared.refusal.GiveRefusal.TheVariants.{Memory}
use Rattle.pesp_tree.specs.Events.{Gives}
use Rattle.pesp_nodes.specs.Problems.{ProblemValue}
use Rattle.pesp_tree.specs.States.{State}
use Rattle.pesp_cert_items.specs.Works.{WorkValue}
use Rattle.pesp_worker.specs.declared.grafted.Reply.{Reply}
use Rattle.pesp_worker.specs.Grafts.{OffersShown, TakesWork, TakesWorks}

-- one more work
pub one_more : (p : ProblemValue) (events : List ℤ) (old mid new : State) (works : List WorkValue)
    (replies : List Reply) (work : WorkValue) (reply : Reply)
    → TakesWorks p events old works replies mid → TakesWork p events mid work reply new
    → TakesWorks p events old (works ++ work ∷ []) (replies ++ reply ∷ []) new
one_more p events old mid new [] replies work reply h k =
    rw h.0 (new, subst (λ (s : State). TakesWork p events s work reply new) h.1 k, (refl, refl))
one_more p events old mid new (first ∷ works) [] work reply h k = absurd h
one_more p events old mid new (first ∷ works) (said ∷ replies) work reply h k =
    (h.0, h.1, one_more p events h.0 mid new works replies work reply h.2 k)

pub taken : (p q : ProblemValue) (events : List ℤ) (old given new : State) (work : WorkValue)
    (lines : Vec TreeLine) (times shown : List (ℤ × ℕ)) (job : ℕ) (reply said : Result (Unit {0}) GiveRefusal)
    → ◌≡◌ {A = WorkValue} (record { job = job; times = times; tree = lines.items }) work → q ≡ p → shown ≡ times
    → said ≡ reply → (said ≡ Err Memory → ⊥)
    → Gives p old job (Tree lines) reply given → OffersShown q events given shown new
    → TakesWork p events old work (record { job = job; given = said }) new
taken p q events old given new work lines times shown job reply said is e f same never gives offers = rw (← is) (record {
  lines = lines;
  are_lines = refl;
  job = refl;
  given = given;
  gives = subst (λ (r : Result (Unit {0}) GiveRefusal). Gives p old job (Tree lines) r given) (sym same) gives;
  answered = never;
  offers = subst (λ (x : ProblemValue). OffersShown x events given times new) e
      (subst (λ (s : List (ℤ × ℕ)). OffersShown q events given s new) f offers);
})

pub more_taken : (p q : ProblemValue) (events : List ℤ) (old mid new : State) (works : List WorkValue)
    (before after : List Reply) (work : WorkValue) (reply : Reply)
    → q ≡ p → TakesWorks p events old works before mid → TakesWork q events mid work reply new
    → after ≡ before ++ reply ∷ [] → TakesWorks p events old (works ++ work ∷ []) after new
more_taken p q events old mid new works before after work reply e h k is =
    subst (λ (rs : List Reply). TakesWorks p events old (works ++ work ∷ []) rs new) (sym is)
    (one_more p events old mid new works before work reply h
    (subst (λ (x : ProblemValue). TakesWork x events mid work reply new) e k))
