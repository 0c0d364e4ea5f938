-- Visits of rows, one after another.
use Rattle.std.proofs.Common.{◌≡◌, ◌≢◌, ℕ, ◌+◌, ◌-◌, ◌<◌, ◌≤◌, ◌⊎◌, inl, inr, List, [], length, get_or, refl, ap, arith, sym, ◌∙◌, subst, Bool, true, false, sum, vec_len, min}
use Rattle.std.specs.Prelude.{Option, Some, None, Result, Ok, Err, IfOk, IfSome, is_some, All, Contains, ◌==◌}
use Rattle.std.proofs.lemmas.Bool.{cases_eq}
use Rattle.std.proofs.lemmas.Bool.Decides.{nat_tests}
use Rattle.std.proofs.lemmas.List.{get_or_default}
use Rattle.std.proofs.lemmas.List.Elements.{All-nil}
use Rattle.pesp_problem.specs.declared.arc.Arc.{Arc}
use Rattle.pesp_problem.specs.declared.memory.Memory.{Memory}
use Rattle.pesp_problem.specs.Arcs.{arc_at, tail_of, head_of}
use Rattle.pesp_problem.specs.Nodes.{slack_range}
use Rattle.pesp_problem.specs.Families.{IsSupportedBy}
use Rattle.pesp_domains.specs.declared.waiting.Waiting.{Waiting}
use Rattle.pesp_domains.specs.Sets.{set_of, Changes}
use Rattle.pesp_domains.specs.Domains.{width_of}
use Rattle.pesp_domains.specs.Waiting.{waits_at, WaitingGrows, Leaves, WaitingAreListed}
use Rattle.pesp_domains.specs.declared.outcome.Outcome.{Outcome}
use Rattle.pesp_domains.specs.declared.outcome.Outcome.TheVariants.{Stable, Empty}
use Rattle.pesp_domains.specs.Outcomes.{Shrinks, LeavesSupported}
use Rattle.pesp_domains.specs.Visits.{net_at, sets_at, RestIsSupported, HasSameEnds, VisitsRow, Visited, IsEmptyAt, IsRowVisit, Passed, IsPass}
use Rattle.pesp_domains.proofs.Places.{tail_more, head_more}
use Rattle.pesp_domains.proofs.Revising.{is_one, one_is, in_other}

which : (b : Bool) → (b ≡ true) ⊎ (b ≡ false)
which true = inl refl
which false = inr refl

not_both : (b : Bool) → b ≡ true → b ≡ false → ⊥
not_both b t f = let e : true ≡ false = sym t ∙ f in cc

pub none_of : (o : Option ℕ) → is_some o ≡ false → o ≡ None
none_of None h = refl
none_of (Some e) h = cc

pub visit_result : (t events : ℕ) (arcs : List Arc) (row : ℕ) (xs ys : List ℕ) (before after : Waiting) (result : Result (Option ℕ) Memory)
    → IfOk result (λ o. IfSome o (λ e. IsEmptyAt t events ys e))
    → (result ≡ Ok None → Visited t arcs row xs ys before after)
    → IfOk result (IsRowVisit t events arcs row xs ys before after)
visit_result t events arcs row xs ys before after (Err e) a b = tt
visit_result t events arcs row xs ys before after (Ok None) a b = b refl
visit_result t events arcs row xs ys before after (Ok (Some e)) a b = a

pub some_visit : (t events : ℕ) (arcs : List Arc) (row : ℕ) (xs ys : List ℕ) (before after : Waiting) (o : Option ℕ)
    → is_some o ≡ true → IfSome o (λ e. IsEmptyAt t events ys e) → IsRowVisit t events arcs row xs ys before after o
some_visit t events arcs row xs ys before after None h a = cc
some_visit t events arcs row xs ys before after (Some e) h a = a

pub visited : (t : ℕ) (arcs : List Arc) (row : ℕ) (xs ys : List ℕ) (w0 w1 w2 w3 : Waiting) (tail head : Bool)
    → Leaves row w0 w1 → Changes (width_of t) (arc_at arcs row) xs ys tail head → WaitingGrows w1 w2 → WaitingGrows w2 w3
    → (tail ≡ true → (k : ℕ) → 0 < k → k ≤ length arcs
    → (tail_of arcs k ≡ (arc_at arcs row).tail) ⊎ (head_of arcs k ≡ (arc_at arcs row).tail) → k ≢ row + 1
    → waits_at w2 (k - 1) ≡ true)
    → (head ≡ true → (k : ℕ) → 0 < k → k ≤ length arcs
    → (tail_of arcs k ≡ (arc_at arcs row).head) ⊎ (head_of arcs k ≡ (arc_at arcs row).head) → k ≢ row + 1
    → waits_at w3 (k - 1) ≡ true)
    → (tail ≡ false → w2.rows.items ≡ w1.rows.items) → (head ≡ false → w3.rows.items ≡ w2.rows.items) → Visited t arcs row xs ys w0 w3
visited t arcs row xs ys w0 w1 w2 w3 tail head left ch ga gb at_tail at_head qa qb = record {
  rest = λ other l ne w. (
    elim (which (waits_at w0 other)) [
      | inl a ↦ absurd (not_both (waits_at w3 other) (gb.still other (ga.still other (left.else other ne ∙ a))) w)
      | inr a ↦ a
    ],
    record {
      tail = same other l ne w (arc_at arcs other).tail (inl (sym (tail_more arcs other)));
      head = same other l ne w (arc_at arcs other).head (inr (sym (head_more arcs other)));
    },
  );
  long = gb.long ∙ ga.long ∙ left.long;
  listed = λ other w. elim (gb.listed other w) [
    | inr m ↦ inr m
    | inl m ↦ elim (ga.listed other m) [
      | inr k ↦ inr (gb.kept other k)
      | inl k ↦ elim (cases_eq other row) [
        | inl e ↦ absurd (not_both (waits_at w1 other) k (ap (λ (j : ℕ). waits_at w1 j) e ∙ left.here))
        | inr ne ↦ inl (ne, sym (left.else other ne) ∙ k)
      ]
    ]
  ];
  kept = λ other m. gb.kept other (ga.kept other (let P : List ℕ → Type 0 = λ rs. Contains rs other in subst P (sym left.list) m));
  below = λ h.
      let P : List ℕ → Type 0 = λ rs. All (λ (other : ℕ). other < vec_len w0.flags) rs in
      let Q : ℕ → Type 0 = λ n. All (λ (other : ℕ). other < n) w1.rows.items → All (λ (other : ℕ). other < n) w2.rows.items in
      let R : ℕ → Type 0 = λ n. All (λ (other : ℕ). other < n) w2.rows.items → All (λ (other : ℕ). other < n) w3.rows.items in
      subst R (ga.long ∙ left.long) gb.below (subst Q left.long ga.below (subst P (sym left.list) h));
  quiet = elim (which tail) [
    | inl a ↦ inl (ch.tail_less a)
    | inr a ↦ elim (which head) [ inl b ↦ inl (ch.head_less b) | inr b ↦ inr (qb b ∙ qa a ∙ left.list) ]
  ];
}
  where
    number : (other row : ℕ) → other ≢ row → other + 1 ≢ row + 1
    number other row ne = omega arith

    place : (w : Waiting) (other : ℕ) → waits_at w (other + 1 - 1) ≡ waits_at w other
    place w other = let e : other + 1 - 1 ≡ other = omega arith in ap (λ (j : ℕ). waits_at w j) e

    same : (other : ℕ) → other < length arcs → other ≢ row → waits_at w3 other ≡ false → (e : ℕ)
        → (tail_of arcs (other + 1) ≡ e) ⊎ (head_of arcs (other + 1) ≡ e)
        → set_of (width_of t) ys e ≡ set_of (width_of t) xs e
    same other l ne w e q =
        elim (cases_eq e (arc_at arcs row).tail) [
          | inl a ↦
              let P : ℕ → Type 0 = λ x. (tail_of arcs (other + 1) ≡ x) ⊎ (head_of arcs (other + 1) ≡ x) in
              elim (which tail) [
                | inl b ↦ absurd (not_both (waits_at w3 other)
                    (gb.still other (sym (place w2 other) ∙ at_tail b (other + 1) (omega arith) (omega arith)
                    (subst P a q) (number other row ne))) w)
                | inr b ↦ ap (λ (x : ℕ). set_of (width_of t) ys x) a ∙ ch.tail_same b ∙ ap (λ (x : ℕ). set_of (width_of t) xs x) (sym a)
              ]
          | inr na ↦
              elim (cases_eq e (arc_at arcs row).head) [
                | inl a ↦
                    let P : ℕ → Type 0 = λ x. (tail_of arcs (other + 1) ≡ x) ⊎ (head_of arcs (other + 1) ≡ x) in
                    elim (which head) [
                      | inl b ↦ absurd (not_both (waits_at w3 other)
                          (sym (place w3 other) ∙ at_head b (other + 1) (omega arith) (omega arith) (subst P a q)
                          (number other row ne)) w)
                      | inr b ↦ ap (λ (x : ℕ). set_of (width_of t) ys x) a ∙ ch.head_same b
                          ∙ ap (λ (x : ℕ). set_of (width_of t) xs x) (sym a)
                    ]
                | inr nb ↦ ch.else e na nb
              ]
        ]

-- where the sets at its ends are the same, an arc still supports them
still_supported : (t : ℕ) (arc : Arc) (range : ℕ × ℕ) (xs ys : List ℕ) → HasSameEnds t arc xs ys
    → IsSupportedBy t arc range (sets_at t xs) → IsSupportedBy t arc range (sets_at t ys)
still_supported t arc range xs ys e s = record {
  tails = λ a h. let q = s.tails a (one_is _ (in_other _ _ a e.tail (is_one _ h))) in
      (q.0, one_is _ (in_other _ _ q.0 (sym e.head) (is_one _ q.1)), q.2);
  heads = λ b h. let q = s.heads b (one_is _ (in_other _ _ b e.head (is_one _ h))) in
      (q.0, one_is _ (in_other _ _ q.0 (sym e.tail) (is_one _ q.1)), q.2);
}

pub passed_none : (t : ℕ) (arcs : List Arc) (ranges : List (ℕ × ℕ)) (line : List ℕ) (xs : List ℕ) (w : Waiting)
    → ((row : ℕ) → waits_at w row ≡ true → Contains line row) → w.rows.items ≡ [] → Passed t arcs ranges line 0 xs xs w w
passed_none t arcs ranges line xs w h e = record {
  shrinks = record { within = λ x d m. m; keeps = λ s sup wi. wi };
  most = omega arith;
  supported = λ s. s;
  long = refl;
  listed = λ row m. let c = h row m in inl (c.0, omega arith, c.1, get_or_default line c.0 0 row c.1 ∙ c.2);
  below = let P : List ℕ → Type 0 = λ rs. All (λ (row : ℕ). row < vec_len w.flags) rs in
      subst P (sym e) (All-nil (λ (row : ℕ). row < vec_len w.flags));
  quiet = inr refl;
}

pub passed_more : (t : ℕ) (arcs : List Arc) (ranges : List (ℕ × ℕ)) (line : List ℕ) (i row : ℕ) (xs ys zs : List ℕ) (u v w : Waiting)
    → row < length arcs → row ≡ get_or line i 0 → Passed t arcs ranges line i xs ys u v
    → VisitsRow t arcs ranges row ys zs → Visited t arcs row ys zs v w
    → Passed t arcs ranges line (i + 1) xs zs u w
passed_more t arcs ranges line i row xs ys zs u v w l here p k o = record {
  shrinks = record {
    within = λ x d m. p.shrinks.within x d (k.revises.within x d m);
    keeps = λ s sup wi. k.revises.keeps s (sup row l) (p.shrinks.keeps s sup wi);
  };
  most = let a = p.most in let b = k.most in omega arith;
  supported = λ s other lo wo. elim (cases_eq other row) [
    | inl e ↦
        let P : ℕ → Type 0 = λ j. IsSupportedBy t (arc_at arcs j) (slack_range ranges j) (sets_at t zs) in
        subst P (sym e) k.revises.supported
    | inr ne ↦ let q = o.rest other lo ne wo in
        still_supported t (arc_at arcs other) (slack_range ranges other) ys zs q.1 (p.supported s other lo q.0)
  ];
  long = o.long ∙ p.long;
  listed = λ other m. elim (o.listed other m) [
    | inr c ↦ inr c
    | inl c ↦ elim (p.listed other c.1) [
      | inr d ↦ inr (o.kept other d)
      | inl d ↦ inl (d.0, later d.0 other d.1 d.3 c.0, d.2, d.3)
    ]
  ];
  below = let P : ℕ → Type 0 = λ n. All (λ (r : ℕ). r < n) v.rows.items → All (λ (r : ℕ). r < n) w.rows.items in
      subst P p.long o.below p.below;
  quiet = elim o.quiet [
    | inl a ↦ let b = p.most in inl (omega arith)
    | inr a ↦ elim p.quiet [ inl b ↦ let c = k.most in inl (omega arith) | inr b ↦ inr (a ∙ b) ]
  ];
}
  where
    later : (j other : ℕ) → i ≤ j → get_or line j 0 ≡ other → other ≢ row → i + 1 ≤ j
    later j other a e ne = elim (cases_eq j i) [
      | inl q ↦ absurd (ne (sym e ∙ ap (λ (n : ℕ). get_or line n 0) q ∙ sym here))
      | inr q ↦ above j a q
    ]
      where
        above : (j : ℕ) → i ≤ j → j ≢ i → i + 1 ≤ j
        above j a q = omega arith

pub takes_at : (u t : ℕ) (arcs : List Arc) (ranges : List (ℕ × ℕ)) (row : ℕ) (xs ys : List ℕ) → u ≡ t
    → VisitsRow u arcs ranges row xs ys → VisitsRow t arcs ranges row xs ys
takes_at u t arcs ranges row xs ys e k = let P : ℕ → Type 0 = λ n. VisitsRow n arcs ranges row xs ys in subst P e k

pub shrinks_more : (t : ℕ) (arcs : List Arc) (ranges : List (ℕ × ℕ)) (row : ℕ) (xs ys zs : List ℕ)
    → row < length arcs → Shrinks (net_at t arcs) ranges (sets_at t xs) (sets_at t ys)
    → VisitsRow t arcs ranges row ys zs
    → Shrinks (net_at t arcs) ranges (sets_at t xs) (sets_at t zs)
shrinks_more t arcs ranges row xs ys zs l p k =
    record {
      within = λ x d m. p.within x d (k.revises.within x d m);
      keeps = λ s sup wi. k.revises.keeps s (sup row l) (p.keeps s sup wi);
    }

pub none_visited : (u t events : ℕ) (arcs : List Arc) (row : ℕ) (xs ys : List ℕ) (v w : Waiting) (o : Option ℕ)
    → u ≡ t → is_some o ≡ false → IsRowVisit u events arcs row xs ys v w o → Visited t arcs row xs ys v w
none_visited u t events arcs row xs ys v w (Some e) q h o = cc
none_visited u t events arcs row xs ys v w None q h o = let P : ℕ → Type 0 = λ n. Visited n arcs row xs ys v w in subst P q o

pub some_passed : (u t m events : ℕ) (arcs : List Arc) (ranges : List (ℕ × ℕ)) (line : List ℕ) (row : ℕ)
    (xs ys zs : List ℕ) (u0 v w : Waiting) (o : Option ℕ) → u ≡ t → m ≡ events → is_some o ≡ true
    → IsRowVisit u m arcs row ys zs v w o → IsPass t events arcs ranges line xs zs u0 w o
some_passed u t m events arcs ranges line row xs ys zs u0 v w None q r h o = cc
some_passed u t m events arcs ranges line row xs ys zs u0 v w (Some e) q r h o =
    let P : ℕ → Type 0 = λ n. IsEmptyAt n m zs e in
    let Q : ℕ → Type 0 = λ n. IsEmptyAt t n zs e in
    subst Q r (subst P q o)

-- what holds between two passes
pub record Settling (t : ℕ) (arcs : List Arc) (ranges : List (ℕ × ℕ)) (xs ys : List ℕ) (u v : Waiting) : Type 0 where
  pub shrinks : Shrinks (net_at t arcs) ranges (sets_at t xs) (sets_at t ys)
  pub supported : RestIsSupported t arcs ranges u xs → RestIsSupported t arcs ranges v ys
  pub listed : WaitingAreListed (length arcs) v

pub settling_none : (t : ℕ) (arcs : List Arc) (ranges : List (ℕ × ℕ)) (xs : List ℕ) (u : Waiting)
    → WaitingAreListed (length arcs) u → Settling t arcs ranges xs xs u u
settling_none t arcs ranges xs u l = record {
  shrinks = record { within = λ x d m. m; keeps = λ s sup wi. wi };
  supported = λ s. s;
  listed = l;
}

pub shrinks_both : (t : ℕ) (arcs : List Arc) (ranges : List (ℕ × ℕ)) (xs ys zs : List ℕ)
    → Shrinks (net_at t arcs) ranges (sets_at t xs) (sets_at t ys)
    → Shrinks (net_at t arcs) ranges (sets_at t ys) (sets_at t zs)
    → Shrinks (net_at t arcs) ranges (sets_at t xs) (sets_at t zs)
shrinks_both t arcs ranges xs ys zs a b = record {
  within = λ x d m. a.within x d (b.within x d m);
  keeps = λ s sup wi. b.keeps s sup (a.keeps s sup wi);
}

-- v waits as before, and v0 is v with its list taken out
pub settling_more : (t : ℕ) (arcs : List Arc) (ranges : List (ℕ × ℕ)) (line : List ℕ) (xs ys zs : List ℕ)
    (u v v0 w : Waiting) → v0.flags ≡ v.flags → Settling t arcs ranges xs ys u v
    → Passed t arcs ranges line (length line) ys zs v0 w
    → Settling t arcs ranges xs zs u w
settling_more t arcs ranges line xs ys zs u v v0 w e s p =
    let long : vec_len v0.flags ≡ length arcs = ap (λ fs. vec_len fs) e ∙ s.listed.long in
    record {
      shrinks = shrinks_both t arcs ranges xs ys zs s.shrinks p.shrinks;
      supported = λ h row l m. p.supported (λ r lr mr. s.supported h r lr (flags r ∙ mr)) row l m;
      listed = record {
        long = p.long ∙ long;
        listed = λ row m. elim (p.listed row m) [
          | inr c ↦ c
          | inl c ↦ let a : length line ≤ c.0 = c.1 in let b : c.0 < length line = c.2 in
              absurd (omega arith)
        ];
        below = let P : ℕ → Type 0 = λ n. All (λ (row : ℕ). row < n) w.rows.items in subst P long p.below;
      };
    }
  where
    flags : (r : ℕ) → waits_at v r ≡ waits_at v0 r
    flags r = ap (λ fs. get_or fs.items r false) (sym e)

pub settling_less : (t : ℕ) (arcs : List Arc) (ranges : List (ℕ × ℕ)) (line : List ℕ) (ys zs : List ℕ)
    (v0 w : Waiting) (n : ℕ) → v0.rows.items ≡ [] → 0 < n → Passed t arcs ranges line (length line) ys zs v0 w
    → sum zs + min 1 (length w.rows.items) < sum ys + min 1 n
settling_less t arcs ranges line ys zs v0 w n e h p = elim p.quiet [
  | inl a ↦ omega arith
  | inr a ↦ let z : length w.rows.items ≡ 0 = ap length (a ∙ e) in let m = p.most in omega arith
]

pub shrinks_at : (u t : ℕ) (arcs : List Arc) (ranges : List (ℕ × ℕ)) (xs ys : List ℕ) → u ≡ t
    → Shrinks (net_at u arcs) ranges (sets_at u xs) (sets_at u ys)
    → Shrinks (net_at t arcs) ranges (sets_at t xs) (sets_at t ys)
shrinks_at u t arcs ranges xs ys e k = let P : ℕ → Type 0 = λ n. Shrinks (net_at n arcs) ranges (sets_at n xs) (sets_at n ys) in subst P e k

pub passed_at : (u t : ℕ) (arcs : List Arc) (ranges : List (ℕ × ℕ)) (line : List ℕ) (i : ℕ) (xs ys : List ℕ)
    (v w : Waiting) → u ≡ t → Passed u arcs ranges line i xs ys v w → Passed t arcs ranges line i xs ys v w
passed_at u t arcs ranges line i xs ys v w e k = let P : ℕ → Type 0 = λ n. Passed n arcs ranges line i xs ys v w in subst P e k

-- where no row waits, all support the sets
pub settled : (t : ℕ) (arcs : List Arc) (ranges : List (ℕ × ℕ)) (xs ys : List ℕ) (u v : Waiting)
    (outcome : Outcome) → Settling t arcs ranges xs ys u v → length v.rows.items ≡ 0
    → RestIsSupported t arcs ranges u xs → LeavesSupported (net_at t arcs) ranges (sets_at t ys) outcome
settled t arcs ranges xs ys u v (Empty e) s z h = tt
settled t arcs ranges xs ys u v Stable s z h =
    λ i l. s.supported h i l (elim (which (waits_at v i)) [
      | inr a ↦ a
      | inl a ↦ let c = s.listed.listed i a in let b : c.0 < length v.rows.items = c.1 in
          absurd (omega arith)
    ])

pub empty_at : (u t m n : ℕ) (ys : List ℕ) (result : Result (Option ℕ) Memory) → u ≡ t → m ≡ n
    → IfOk result (λ o. IfSome o (λ e. IsEmptyAt u m ys e)) → IfOk result (λ o. IfSome o (λ e. IsEmptyAt t n ys e))
empty_at u t m n ys result e f h =
    let P : ℕ → Type 0 = λ k. IfOk result (λ o. IfSome o (λ e. IsEmptyAt k m ys e)) in
    let Q : ℕ → Type 0 = λ k. IfOk result (λ o. IfSome o (λ e. IsEmptyAt t k ys e)) in
    subst Q f (subst P e h)

pub is_zero : (n : ℕ) → (n == 0) ≡ true → n ≡ 0
is_zero n h = grind (arith, nat_tests)
