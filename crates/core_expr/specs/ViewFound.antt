-- What the code has found, as plain data.
use Rattle.core_expr.specs.declared.places.Found.{Found as CodeFound}
use Rattle.core_expr.specs.declared.places.Found.TheVariants as code
use Rattle.sc_core.specs.Places.{Found, value, local, cell}
use Rattle.sc_core.specs.View.{plain_core}

abbrev pub seen_found : CodeFound → Found
seen_found (code.Value e) = value (plain_core e)
seen_found (code.Local number line) = local number line
seen_found (code.Cell pointer own line) = cell (plain_core pointer) own line
