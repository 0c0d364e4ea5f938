-- What of the words is another after an arc's step.
use Rattle.std.proofs.Common.{◌≢◌, ℕ, List, ap, arith, sym, ◌∙◌, Bool}
use Rattle.pesp_problem.specs.declared.arc.Arc.{Arc}
use Rattle.pesp_problem.specs.Words.{IsLess}
use Rattle.pesp_problem.proofs.Words.{sum_most}
use Rattle.pesp_domains.specs.Sets.{set_of, Narrows, Changes}

pub changed_both : (t w ahead back m n : ℕ) (arc : Arc) (xs ys zs : List ℕ) (tail head : Bool) → arc.tail ≢ arc.head
    → Narrows t w arc.tail arc.head ahead m xs ys → Narrows t w arc.head arc.tail back n ys zs → IsLess xs ys tail
    → IsLess ys zs head → Changes w arc xs zs tail head
changed_both t w ahead back m n arc xs ys zs tail head ne one two lt lh =
    let a = sum_most xs ys tail lt in
    let b = sum_most ys zs head lh in
    record {
      else = λ event nt nh. two.else event nh ∙ one.else event nt;
      tail_same = λ e. two.else arc.tail ne ∙ ap (λ (ws : List ℕ). set_of w ws arc.tail) (lt.same e);
      head_same = λ e. ap (λ (ws : List ℕ). set_of w ws arc.head) (lh.same e) ∙ one.else arc.head (λ q. ne (sym q));
      tail_less = λ e. let l = lt.less e in omega arith;
      head_less = λ e. let l = lh.less e in omega arith;
      most = omega arith;
    }

pub changed_loop : (t w first n : ℕ) (arc : Arc) (xs ys : List ℕ) (fewer : Bool)
    → Narrows t w arc.tail arc.tail first n xs ys → IsLess xs ys fewer → Changes w arc xs ys fewer fewer
changed_loop t w first n arc xs ys fewer o less = record {
  else = λ event nt nh. o.else event nt;
  tail_same = λ e. ap (λ (ws : List ℕ). set_of w ws arc.tail) (less.same e);
  head_same = λ e. ap (λ (ws : List ℕ). set_of w ws arc.head) (less.same e);
  tail_less = λ e. less.less e;
  head_less = λ e. less.less e;
  most = sum_most xs ys fewer less;
}
