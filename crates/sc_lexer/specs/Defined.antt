-- The names that directives defined, as a list of pairs of a name and a number.
use Rattle.std.specs.Prelude.{ℤ, List, [], ◌∷◌, Option, Some, None, if◌then◌else◌}
use Rattle.std.specs.Str.{bytes_eq}
use Rattle.sc_tree.specs.Names.{Text}

abbrev pub Definitions : Type 0
Definitions = List (Text × ℤ)

-- the number of the first pair with this name
abbrev pub defined_value : Text → Definitions → Option ℤ
defined_value name [] = None
defined_value name (d ∷ ds) = if bytes_eq name d.0 then Some d.1 else defined_value name ds
