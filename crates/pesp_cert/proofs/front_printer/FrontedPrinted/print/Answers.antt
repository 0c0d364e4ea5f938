use Rattle.pesp_stream.proofs.Printing.{sends_then, sends_as}
use Rattle.pesp_cert.specs.Fronted.{fronted_text}
use Rattle.pesp_cert.proofs.FrontPrints.{whole_is}
use Rattle.pesp_cert.proofs.front_printer.FrontedPrinted.print.Goals as goal

pub returns : goal.returns
returns g c = sends_as (fronted_text c.args.self.now) (whole_is c.args.self.now.front c.args.self.now.content)
    (rw (← c.self.view_is) (sends_then c.print_front.ensures c.print.ensures))
