-- The texts of replies.
use Rattle.std.specs.Prelude.{ℕ, List, ◌++◌, Result, Ok, Err, codes, decimal}
use Rattle.pesp_tree.specs.declared.refusal.GiveRefusal.{GiveRefusal}
use Rattle.pesp_tree.specs.declared.refusal.GiveRefusal.TheVariants.{UnknownJob, AlreadyGiven, NotValid, Memory, TooLarge}
use Rattle.pesp_worker.specs.declared.grafted.Reply.{Reply}

-- taken, or refused with the refusal's number and name
abbrev pub reply_words : Result (Unit {0}) GiveRefusal → List ℕ
reply_words (Ok done) = codes " taken\n"
reply_words (Err UnknownJob) = codes " refused 1 UnknownJob\n"
reply_words (Err AlreadyGiven) = codes " refused 2 AlreadyGiven\n"
reply_words (Err NotValid) = codes " refused 3 NotValid\n"
reply_words (Err Memory) = codes " refused 4 Memory\n"
reply_words (Err TooLarge) = codes " refused 5 TooLarge\n"

-- the number of the job, and what became of the work
abbrev pub reply_line : Reply → List ℕ
reply_line reply = codes "job " ++ decimal reply.job ++ reply_words reply.given
