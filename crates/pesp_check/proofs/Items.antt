-- The limits of an item that may stand in a text.
use Rattle.std.proofs.Common.{◌≡◌, ◌≤◌, arith, true}
use Rattle.std.specs.Prelude.{nat_abs, nat_le}
use Rattle.std.proofs.lemmas.Bool.Decides.{nat_tests}
use Rattle.pesp_cert_lines.specs.declared.item.Item.{Item}
use Rattle.pesp_cert_lines.specs.declared.item.Item.TheVariants.{Front, Scale, Walk, Lemma, Least, Version, Period, Answer as Says, Time, Cycle, Slack, Offset, Bound, Nothing, Gap, Propagated, End}
use Rattle.pesp_cert_lines.specs.declared.progress.Progress.{Progress}
use Rattle.pesp_cert_lines.specs.Counts.{CanStand, progress_after, keeps_counts}
use Rattle.pesp_cert_lines.specs.Rows.{is_name}
use Rattle.pesp_cert_lines.specs.Pairs.{rise_from, all_within}
use Rattle.pesp_cert_lines.proofs.Tests.{and_right, and_both}
use Rattle.pesp_whole_check.proofs.Limits.{le_of, pair_limits, weights_keep}
use Rattle.pesp_check.specs.Items.{KeepsItemLimits}

few_rows : (p : Progress) → keeps_counts p ≡ true → p.rows ≤ 10000000
few_rows p h = grind (arith, nat_tests, h)

pub item_limits : (p : Progress) (item : Item) → CanStand p item → KeepsItemLimits item
item_limits p Front h = tt
item_limits p (Scale n) h = tt
item_limits p (Walk walk) h = tt
item_limits p (Lemma ps) h = weights_keep ps (and_both (rise_from 0 ps) (all_within ps) h.proper h.within)
item_limits p (Least n) h = tt
item_limits p (Version n) h = tt
item_limits p (Period n) h = tt
item_limits p (Says a) h = tt
item_limits p (Time label time) h = tt
item_limits p (Cycle rows) h = let few = few_rows (progress_after p (Cycle rows)) h.counts in omega (arith, few)
item_limits p (Slack row k) h = le_of k 9999 (and_right (is_name row) (nat_le k 9999) h.within)
item_limits p (Offset cycle k) h = le_of (nat_abs k) 100000000000000
    (and_right (is_name cycle) (nat_le (nat_abs k) 100000000000000) h.within)
item_limits p (Bound ps) h = pair_limits ps (and_both (rise_from 0 ps) (all_within ps) h.proper h.within)
item_limits p (Nothing ps) h = pair_limits ps (and_both (rise_from 0 ps) (all_within ps) h.proper h.within)
item_limits p (Gap cycle) h = tt
item_limits p Propagated h = tt
item_limits p End h = tt
