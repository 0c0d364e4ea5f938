-- Faults of items as faults of a check.
use Rattle.pesp_cert.specs.declared.refusal.CertRefusal.TheVariants.{Memory as NoMemory}
use Rattle.pesp_cert_items.specs.declared.fault.ItemFault.{ItemFault}
use Rattle.pesp_cert_items.specs.declared.fault.ItemFault.TheVariants as items
use Rattle.pesp_check.specs.declared.check_fault.CheckFault.{CheckFault}
use Rattle.pesp_check.specs.declared.check_fault.CheckFault.TheVariants.{Text, Read, Memory}

-- a refusal of memory is told as such
abbrev pub fault_of : ItemFault → CheckFault
fault_of (items.Text NoMemory) = Memory
fault_of (items.Text r) = Text r
fault_of items.Read = Read
