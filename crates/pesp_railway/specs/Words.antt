-- The words for what trains do.
use Rattle.std.specs.Prelude.{ℕ, List, [], codes}
use Rattle.pesp_railway.specs.declared.step.Direction.{Direction}
use Rattle.pesp_railway.specs.declared.step.Direction.TheVariants.{Out, Back, Nowhere}
use Rattle.pesp_railway.specs.declared.step.Halt.{Halt}
use Rattle.pesp_railway.specs.declared.step.Halt.TheVariants.{Arrival, Departure, Pass, Other}

-- the word for the direction of a train, empty where it goes nowhere
abbrev pub direction_word : Direction → List ℕ
direction_word Out = codes "out"
direction_word Back = codes "back"
direction_word Nowhere = []

-- the word for what a train does at an event, empty where it neither comes nor leaves
abbrev pub halt_word : Halt → List ℕ
halt_word Arrival = codes "arrival"
halt_word Departure = codes "departure"
halt_word Pass = codes "pass"
halt_word Other = []
