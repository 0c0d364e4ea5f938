use Rattle.std.proofs.Common.{◌≡◌, ◌∙◌, length, arith, ap}
use Rattle.pesp_domains.specs.Domains.{width_of}
use Rattle.pesp_domains.proofs.Holding.{whole, kept_is, revised_is, revises_at, changes_at, room_is}
use Rattle.pesp_domains.proofs.domains.Domains.narrow_ends.Goals as goal

pub invariant_of-self : goal.invariant_of-self
invariant_of-self c =
    let s = c.self.inside in
    let w : length c.deref_mut-2.result.now ≡ width_of s.period = ap length c.deref_mut-2.ensures.value ∙ c.self.invariant.1.once in
    let lw : length c.revise.new.words ≡ s.words.len = omega arith in
    let lb : length c.revise.new.beside ≡ s.beside.len = omega arith in
    let lt : length c.revise.new.twice ≡ s.twice.len = omega arith in
    let lx : length c.revise.new.words ≡ length s.words.items = omega arith in
    let ly : length c.revise.new.beside ≡ length s.beside.items = omega arith in
    let lz : length c.revise.new.twice ≡ length s.twice.items = omega arith in (
      kept_is s.period s.events c.args.arc.now c.args.range s.words.items c.revise.new.words _
          (whole s.words.len s.words.items c.revise.new.words lw) c.self.invariant.0
          (revises_at s.period (length c.deref_mut-2.result.now)
          (width_of s.period) c.args.arc.now c.args.range c.deref_mut.result.now s.words.items
          c.revise.new.words w c.deref_mut.ensures.value c.revise.ensures.revises) lx,
      room_is s.period (length s.beside.items) (length s.twice.items) _ _
          (ap length (whole s.beside.len s.beside.items c.revise.new.beside lb) ∙ ly)
          (ap length (whole s.twice.len s.twice.items c.revise.new.twice lt) ∙ lz) c.self.invariant.1,
    )

pub returns : goal.returns
returns c =
    let s = c.self.inside in
    let w : length c.deref_mut-2.result.now ≡ width_of s.period = ap length c.deref_mut-2.ensures.value ∙ c.self.invariant.1.once in
    let lw : length c.revise.new.words ≡ s.words.len = omega arith in
    revised_is s.period s.events c.args.arc.now c.args.range s.words.items c.revise.new.words _ c.args.self.now
    c.revise.result.tail c.revise.result.head (whole s.words.len s.words.items c.revise.new.words lw)
    c.self.view_is
    (revises_at s.period (length c.deref_mut-2.result.now)
    (width_of s.period) c.args.arc.now c.args.range c.deref_mut.result.now s.words.items c.revise.new.words w
    c.deref_mut.ensures.value c.revise.ensures.revises)
    (changes_at (length c.deref_mut-2.result.now)
    (width_of s.period) c.args.arc.now c.deref_mut.result.now s.words.items c.revise.new.words
    c.revise.result.tail c.revise.result.head w c.deref_mut.ensures.value c.revise.ensures.changes)
