-- The steps that take the value so far in turn, as pending work.
use Rattle.std.specs.Prelude.{ℕ, ◌+◌, List, [], ◌∷◌}
use Rattle.sc_core.specs.View.{Linked}
use Rattle.core_machine.specs.Todo.{Todo, takes_each, performs}
use Rattle.core_machine.specs.Moves.{count}

abbrev pub unlinked : List Linked → List Todo
unlinked [] = []
unlinked (l ∷ more) = takes_each l.more ∷ performs l.operation (count l.more + 1) l.line ∷ unlinked more
