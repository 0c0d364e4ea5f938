-- A text without a front has no line of one.
use Rattle.std.proofs.Common.{◌≡◌, true, false, Bool, cond, not, ◌&&◌, refl, ap}
use Rattle.std.specs.Prelude.{◌==◌, ◌||◌}
use Rattle.pesp_cert_lines.specs.declared.item.Item.{Item}
use Rattle.pesp_cert_lines.specs.declared.item.Item.TheVariants.{Front, Scale, Walk, Lemma, Least, Version, Period, Answer as Says, Time, Cycle, Slack, Offset, Bound, Nothing, Gap, Propagated, End}
use Rattle.pesp_cert_lines.specs.declared.kind.Kind.{Kind}
use Rattle.pesp_cert_lines.specs.declared.kind.Kind.TheVariants as kinds
use Rattle.pesp_cert_lines.specs.declared.progress.Place.{Place}
use Rattle.pesp_cert_lines.specs.declared.progress.Place.TheVariants as places
use Rattle.pesp_cert_lines.specs.declared.progress.Progress.{Progress}
use Rattle.pesp_cert_lines.specs.declared.versions.Versions.{Versions}
use Rattle.pesp_cert_lines.specs.Counts.{is_version_kind, is_front_kind, is_period_kind, is_answer_kind, is_time_kind, is_cycle_kind, is_tree_kind, is_end_kind, may_follow, may_end, has_kind, allows, takes_fronts, is_in_front, progress_after, CanStand}
use Rattle.pesp_cert_items.specs.Plain.{in_front, IsPlain}

-- the lines show no lemma
not_shown : (place : Place) (shows : Bool) → is_in_front place shows ≡ false → shows ≡ false
not_shown places.Front shows h = h
not_shown places.Marked shows h = absurd cc
not_shown places.Walks shows h = absurd cc
not_shown places.Lemma shows h = absurd cc
not_shown places.Least shows h = absurd cc
not_shown places.Header shows h = h
not_shown places.Period shows h = h
not_shown places.Times shows h = h
not_shown places.Cycles shows h = h
not_shown places.Tree shows h = h

-- ---- kinds of lines that a text without a front doesn't have

record IsForeign (k : Kind) (known : Bool) : Type 0 where
  version : is_version_kind k ≡ false
  front : (is_front_kind k && known) ≡ false
  period : is_period_kind k ≡ false
  answer : is_answer_kind k ≡ false
  time : is_time_kind k ≡ false
  cycle : is_cycle_kind k ≡ false
  tree : is_tree_kind k ≡ false
  last : is_end_kind k ≡ false

none_of_two : (a b known : Bool) → a ≡ false → (b && known) ≡ false → ((a || b) && known) ≡ true → ⊥
none_of_two true b known d e h = absurd cc
none_of_two false b known d e h = absurd cc

none_of_three : (a b c known : Bool) → a ≡ false → b ≡ false → c ≡ false → ((a || b || c) && known) ≡ true → ⊥
none_of_three true b c known d e f h = absurd cc
none_of_three false true c known d e f h = absurd cc
none_of_three false false true known d e f h = absurd cc
none_of_three false false false known d e f h = absurd cc

not_behind : (shows : Bool) (k : Kind) → shows ≡ false → is_end_kind k ≡ false → may_end shows k ≡ true → ⊥
not_behind true k s e h = absurd cc
not_behind false k s e h = absurd cc

foreign_not : (b known shows : Bool) (place : Place) (k : Kind) → IsForeign k known → is_in_front place shows ≡ false
    → cond b (may_end shows k) (may_follow place shows k && known) ≡ true → ⊥
foreign_not true known shows place k n f h = not_behind shows k (not_shown place shows f) n.last h
foreign_not false known shows places.Front k n f h = none_of_two (is_version_kind k) (is_front_kind k) known n.version n.front h
foreign_not false known shows places.Marked k n f h = absurd cc
foreign_not false known shows places.Walks k n f h = absurd cc
foreign_not false known shows places.Lemma k n f h = absurd cc
foreign_not false known shows places.Least k n f h = absurd cc
foreign_not false known shows places.Header k n f h = none_of_three false false (is_period_kind k) known refl refl n.period h
foreign_not false known shows places.Period k n f h = none_of_three false false (is_answer_kind k) known refl refl n.answer h
foreign_not false known shows places.Times k n f h =
    none_of_three (is_time_kind k) (is_cycle_kind k) (is_tree_kind k) known n.time n.cycle n.tree h
foreign_not false known shows places.Cycles k n f h = none_of_three false (is_cycle_kind k) (is_tree_kind k) known refl n.cycle n.tree h
foreign_not false known shows places.Tree k n f h = none_of_three false false (is_tree_kind k) known refl refl n.tree h

-- they stand in a front alone; its first line is of such a kind where no front is taken
abbrev is_alone : Kind → Bool → Bool
is_alone kinds.Front known = not known
is_alone kinds.Scale known = true
is_alone kinds.Walk known = true
is_alone kinds.Lemma known = true
is_alone kinds.Least known = true
is_alone _ known = false

are_foreign : (k : Kind) (known : Bool) → is_alone k known ≡ true → IsForeign k known
are_foreign kinds.Front true h = absurd cc
are_foreign kinds.Front false h =
    record { version = refl; front = refl; period = refl; answer = refl; time = refl; cycle = refl; tree = refl; last = refl }
are_foreign kinds.Scale known h =
    record { version = refl; front = refl; period = refl; answer = refl; time = refl; cycle = refl; tree = refl; last = refl }
are_foreign kinds.Walk known h =
    record { version = refl; front = refl; period = refl; answer = refl; time = refl; cycle = refl; tree = refl; last = refl }
are_foreign kinds.Lemma known h =
    record { version = refl; front = refl; period = refl; answer = refl; time = refl; cycle = refl; tree = refl; last = refl }
are_foreign kinds.Least known h =
    record { version = refl; front = refl; period = refl; answer = refl; time = refl; cycle = refl; tree = refl; last = refl }
are_foreign k known h = absurd cc

stands_not : (p : Progress) (k : Kind) → IsPlain p → is_alone k (has_kind p.versions p.version p.shows k) ≡ true → allows p k ≡ true → ⊥
stands_not p k plain alone h = foreign_not (p.needs == 0) (has_kind p.versions p.version p.shows k) p.shows p.place k
    (are_foreign k (has_kind p.versions p.version p.shows k) alone) plain.place h

pub plain_item : (p : Progress) (item : Item) → IsPlain p → CanStand p item → in_front item ≡ false
plain_item p Front plain can = absurd (stands_not p kinds.Front plain (ap (λ (v : Versions). not (takes_fronts v)) plain.versions) can.allowed)
plain_item p (Scale n) plain can = absurd (stands_not p kinds.Scale plain refl can.allowed)
plain_item p (Walk walk) plain can = absurd (stands_not p kinds.Walk plain refl can.allowed)
plain_item p (Lemma ps) plain can = absurd (stands_not p kinds.Lemma plain refl can.allowed)
plain_item p (Least n) plain can = absurd (stands_not p kinds.Least plain refl can.allowed)
plain_item p (Version n) plain can = refl
plain_item p (Period n) plain can = refl
plain_item p (Says a) plain can = refl
plain_item p (Time l t) plain can = refl
plain_item p (Cycle rs) plain can = refl
plain_item p (Slack row k) plain can = refl
plain_item p (Offset cycle k) plain can = refl
plain_item p (Bound ps) plain can = refl
plain_item p (Nothing ps) plain can = refl
plain_item p (Gap cycle) plain can = refl
plain_item p Propagated plain can = refl
plain_item p End plain can = refl

pub plain_after : (p q : Progress) (item : Item) → IsPlain p → CanStand p item → q ≡ progress_after p item → IsPlain q
plain_after p q item plain can e = rw e (go item (plain_item p item plain can))
  where
    open_is : p.shows ≡ false
    open_is = not_shown p.place p.shows plain.place

    go : (item : Item) → in_front item ≡ false → IsPlain (progress_after p item)
    go Front h = absurd cc
    go (Scale n) h = absurd cc
    go (Walk walk) h = absurd cc
    go (Lemma ps) h = absurd cc
    go (Least n) h = absurd cc
    go (Version n) h = record { versions = plain.versions; place = refl }
    go (Period n) h = record { versions = plain.versions; place = open_is }
    go (Says a) h = record { versions = plain.versions; place = open_is }
    go (Time l t) h = record { versions = plain.versions; place = plain.place }
    go (Cycle rs) h = record { versions = plain.versions; place = open_is }
    go (Slack row k) h = record { versions = plain.versions; place = open_is }
    go (Offset cycle k) h = record { versions = plain.versions; place = open_is }
    go (Bound ps) h = record { versions = plain.versions; place = open_is }
    go (Nothing ps) h = record { versions = plain.versions; place = open_is }
    go (Gap cycle) h = record { versions = plain.versions; place = open_is }
    go Propagated h = record { versions = plain.versions; place = open_is }
    go End h = plain
