-- The line of a refusal.
use Rattle.std.specs.Prelude.{ℕ, List, ◌++◌, codes, decimal}
use Rattle.pesp_cert.specs.declared.refusal.CertRefusal.{CertRefusal}
use Rattle.pesp_cert.specs.declared.refusal.CertRefusal.TheVariants.{Header, Line, Number, Limit, Truncated, Trailing, Memory}

-- number, name and line of a refusal of a certificate's text
abbrev pub certificate_line : CertRefusal → List ℕ
certificate_line Header = codes "1 Header"
certificate_line (Line n) = codes "2 Line line " ++ decimal n
certificate_line (Number n) = codes "3 Number line " ++ decimal n
certificate_line (Limit n) = codes "4 Limit line " ++ decimal n
certificate_line Truncated = codes "5 Truncated"
certificate_line (Trailing n) = codes "6 Trailing line " ++ decimal n
certificate_line Memory = codes "7 Memory"
