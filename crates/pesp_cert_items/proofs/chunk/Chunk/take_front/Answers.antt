use Rattle.std.proofs.Common.{rules}
use Rattle.pesp_cert_items.proofs.Cutting.{line_moved}
use Rattle.pesp_cert_items.proofs.chunk.Chunk.take_front.Goals as goal

pub returns-in_ok-extend_from_slice-in-Some : goal.returns-in_ok-extend_from_slice-in-Some
returns-in_ok-extend_from_slice-in-Some c =
    let i = c.self.inside in
    line_moved i.bytes i.start i.end c.in-Some.at c.args.self.now c.args.line.now.items
    c.extend_from_slice.new.self.items c.self.view_is c.in-Some.ensures
    c.in_ok-extend_from_slice-in-Some.ensures.items (search rules) c.requires

pub returns-in_ok-extend_from_slice-in-None : goal.returns-in_ok-extend_from_slice-in-None
returns-in_ok-extend_from_slice-in-None c = search rules
