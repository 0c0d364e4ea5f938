-- What the words of the command line ask for.
use Rattle.std.specs.Prelude.{List, ◌∷◌, if◌then◌else◌, String, string_bytes, codes}
use Rattle.std.specs.Str.{bytes_eq}
use Rattle.pesp_cert_lines.specs.declared.versions.Versions.{Versions}
use Rattle.pesp_cert_lines.specs.declared.versions.Versions.TheVariants.{Plain, All}

-- the versions that are taken: all of them where `--sharp` stands behind the program's name
abbrev pub versions_asked : {A : Type 0} → List (String A) → Versions
versions_asked (name ∷ option ∷ words) = if bytes_eq (string_bytes option) (codes "--sharp") then All else Plain
versions_asked words = Plain
