-- Times that are offered on the way.
use Rattle.std.specs.Prelude.{◌≡◌, ◌⊎◌, ℕ, List, Bool}
use Rattle.pesp_nodes.specs.Problems.{ProblemValue}
use Rattle.pesp_tree.specs.States.{State}
use Rattle.pesp_tree.specs.Events.{Offers}

-- times are offered, with some reply
abbrev pub OffersSome : ProblemValue → State → State → Type 0
OffersSome p old new = (times : List ℕ) × (kept : Bool) × Offers p old times kept new

-- nothing changes, or times are offered
abbrev pub MayOffer : ProblemValue → State → State → Type 0
MayOffer p old new = (new ≡ old) ⊎ OffersSome p old new

-- times are offered, and then others may be
abbrev pub OffersFirst : ProblemValue → State → State → Type 0
OffersFirst p old new = (between : State) × OffersSome p old between × MayOffer p between new
