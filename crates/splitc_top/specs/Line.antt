-- The bytes of a line for `err`.
use Rattle.std.specs.Prelude.{ℕ, List, string_bytes}
use Rattle.splitc_top.specs.declared.line.LineText.{LineText}
use Rattle.splitc_top.specs.declared.line.LineText.TheVariants.{Constant, Made}

abbrev pub bytes_of : LineText → List ℕ
bytes_of (Constant line) = line.now
bytes_of (Made line) = string_bytes line
