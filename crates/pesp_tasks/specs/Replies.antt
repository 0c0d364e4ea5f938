-- The lines that are told of works.
use Rattle.std.specs.Prelude.{ℕ, ◌+◌, List, [], ◌∷◌, ◌++◌, codes, decimal}
use Rattle.pesp_cert.specs.RefusalLines.{certificate_line}
use Rattle.pesp_check.specs.Verdicts.{refusal_text}
use Rattle.pesp_sharp_work.specs.declared.sharp_graft.SharpReply.{SharpReply}
use Rattle.pesp_sharp_work.specs.declared.sharp_graft.SharpReply.TheVariants.{Taken, AddsNothing, Unread, NotValid, TooLarge}

-- what became of a work; of a refusal its number, name and place
abbrev pub reply_text : SharpReply → List ℕ
reply_text Taken = codes "taken"
reply_text AddsNothing = codes "adds nothing"
reply_text (Unread refusal) = codes "unread " ++ certificate_line refusal
reply_text (NotValid refusal) = codes "refused " ++ refusal_text refusal
reply_text TooLarge = codes "too large"

-- the line of the work of this number
abbrev pub sharp_reply_line : ℕ → SharpReply → List ℕ
sharp_reply_line number reply = codes "work " ++ decimal number ++ codes " " ++ reply_text reply ++ codes "\n"

-- a line for each work, numbered on from this number
abbrev pub lines_from : ℕ → List SharpReply → List ℕ
lines_from number [] = []
lines_from number (reply ∷ replies) = sharp_reply_line number reply ++ lines_from (number + 1) replies
