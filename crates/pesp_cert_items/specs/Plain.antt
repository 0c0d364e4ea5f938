-- A text without a front.
use Rattle.std.specs.Prelude.{◌≡◌, Bool, true, false}
use Rattle.pesp_cert_lines.specs.declared.item.Item.{Item}
use Rattle.pesp_cert_lines.specs.declared.item.Item.TheVariants.{Front, Scale, Walk, Lemma, Least}
use Rattle.pesp_cert_lines.specs.declared.progress.Progress.{Progress}
use Rattle.pesp_cert_lines.specs.declared.versions.Versions.TheVariants.{Plain}
use Rattle.pesp_cert_lines.specs.Counts.{is_in_front}

-- a line that stands in a front alone
abbrev pub in_front : Item → Bool
in_front Front = true
in_front (Scale n) = true
in_front (Walk walk) = true
in_front (Lemma ps) = true
in_front (Least n) = true
in_front _ = false

-- no front is taken, and none began
pub record IsPlain (p : Progress) : Type 0 where
  pub versions : p.versions ≡ Plain
  pub place : is_in_front p.place p.shows ≡ false
