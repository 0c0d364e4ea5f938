-- Lines told one after the other.
use Rattle.std.proofs.Common.{◌≡◌, ℕ, ◌+◌, ◌<◌, ◌≤◌, arith, ap, sym, ◌∙◌, refl, List, [], ◌∷◌, ◌++◌, length, get_or, drop, append_assoc, append-nil}
use Rattle.std.proofs.lemmas.List.{drop_all, drop_more}
use Rattle.pesp_sharp_work.specs.declared.sharp_graft.SharpReply.{SharpReply}
use Rattle.pesp_tasks.specs.Replies.{sharp_reply_line, lines_from}

-- the lines of so many works were told
pub record AreTold (replies : List SharpReply) (k : ℕ) (lines : List ℕ) : Type 0 where
  pub all : lines ++ lines_from (k + 1) (drop k replies) ≡ lines_from 1 replies

pub none_told : (replies : List SharpReply) → AreTold replies 0 []
none_told replies = record { all = refl }

pub one_told : (replies : List SharpReply) (k : ℕ) (lines lines' : List ℕ) (reply : SharpReply) → k < length replies
    → reply ≡ get_or replies k reply → lines' ≡ lines ++ sharp_reply_line (k + 1) reply → AreTold replies k lines
    → AreTold replies (k + 1) lines'
one_told replies k lines lines' reply within is more h =
    let left = drop (k + 1) replies in
    let there : drop k replies ≡ reply ∷ left = drop_more replies k reply within ∙ ap (λ (r : SharpReply). r ∷ left) (sym is) in
    record {
      all = ap (λ (ls : List ℕ). ls ++ lines_from (k + 1 + 1) left) more
          ∙ append_assoc lines (sharp_reply_line (k + 1) reply) (lines_from (k + 1 + 1) left)
          ∙ ap (λ (rs : List SharpReply). lines ++ lines_from (k + 1) rs) (sym there) ∙ h.all;
    }

pub all_told : (replies : List SharpReply) (k : ℕ) (lines : List ℕ) → length replies ≤ k → AreTold replies k lines
    → lines ≡ lines_from 1 replies
all_told replies k lines done h =
    sym (append-nil lines) ∙ ap (λ (rs : List SharpReply). lines ++ lines_from (k + 1) rs) (sym (drop_all k replies done)) ∙ h.all
