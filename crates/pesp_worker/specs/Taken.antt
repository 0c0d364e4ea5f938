-- What a board says of work that it may not call wrong.
use Rattle.std.specs.Prelude.{⊤, Result, Ok, Err}
use Rattle.pesp_tree.specs.declared.refusal.GiveRefusal.{GiveRefusal}
use Rattle.pesp_tree.specs.declared.refusal.GiveRefusal.TheVariants.{UnknownJob, AlreadyGiven, NotValid, Memory, TooLarge}

-- the work is taken, or with it the tree would pass a limit
abbrev pub IsTakenOrLarge : Result (Unit {0}) GiveRefusal → Type 0
IsTakenOrLarge (Ok done) = ⊤
IsTakenOrLarge (Err TooLarge) = ⊤
IsTakenOrLarge (Err UnknownJob) = ⊥
IsTakenOrLarge (Err AlreadyGiven) = ⊥
IsTakenOrLarge (Err NotValid) = ⊥
IsTakenOrLarge (Err Memory) = ⊥
