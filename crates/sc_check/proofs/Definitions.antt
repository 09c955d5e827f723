-- A function is among the definitions where it has a body.
use Rattle.std.proofs.Common.{◌≡◌, List, [], ◌∷◌, ◌++◌, Option, Some, None, append_assoc}
use Rattle.sc_tree.specs.PlainStmt.{Statements}
use Rattle.sc_typing.specs.declared.file.Definition.{Definition}
use Rattle.sc_typing.specs.Program.{definition_if}

pub definition_added : (found : List Definition) (body : Option Statements) (d : Definition) (more : List Definition) →
    (found ++ definition_if body d []) ++ more ≡ found ++ definition_if body d more
definition_added found None d more = append_assoc found [] more
definition_added found (Some all) d more = append_assoc found (d ∷ []) more
