use Rattle.pesp_conflict.proofs.records.write_header.Goals as goal

pub returns-in-None : goal.returns-in-None
returns-in-None c = rw c.in-None.is c.write_fields.ensures
