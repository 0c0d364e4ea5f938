use Rattle.std.proofs.Common.{◌≡◌, ◌⊎◌, inl, inr}
use Rattle.pesp_tree.specs.declared.refusal.GiveRefusal.TheVariants.{NotValid, Memory, TooLarge}
use Rattle.pesp_branching.proofs.Replies.{refused_for_room}
use Rattle.pesp_turns.proofs.handed_work.hand_in.Goals as goal

never : (NotValid ≡ Memory) ⊎ (NotValid ≡ TooLarge) → ⊥
never (inl e) = cc
never (inr e) = cc

pub unreachable-requires-in-Err-NotValid : goal.unreachable-requires-in-Err-NotValid
unreachable-requires-in-Err-NotValid c =
    let refused = rw (c.in-Err-NotValid.field-0-is) at c.in-Err-NotValid.ensures.state in
    never (refused_for_room c.args.board.now.problem c.args.board.now.state c.args.job.now.number
    c.args.job.now.path.items c.requires.pairs c.args.work.now NotValid c.requires.leaf c.requires.valid
    refused.1)
