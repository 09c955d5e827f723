-- How many points and sites come before a part of a source, and how many behind it.
use Rattle.std.specs.Prelude.{ℕ, ◌+◌, List, [], ◌∷◌, ◌++◌}
use Rattle.sc_core.specs.Core.{Core, Arguments, Does}
use Rattle.sc_core.specs.View.{Linked, Tested}
use Rattle.sc_meaning.specs.Points.{size, sizes, size_of}
use Rattle.flow_form.specs.declared.count.Count.{Count}
use Rattle.flow_form.specs.Accesses.{accesses, accesses_all, accesses_by, accesses_in}

unfoldable pub with_more : (points sites : ℕ) → Count → Count
with_more points sites c = record { points = c.points + points; sites = c.sites + sites }

-- behind an expression, arguments, or a statement
unfoldable pub counted : Core → Count → Count
counted e c = with_more (size e) (accesses e) c

unfoldable pub counted_all : Arguments → Count → Count
counted_all arguments c = with_more (sizes arguments) (accesses_all arguments) c

unfoldable pub counted_in : Does → Count → Count
counted_in d c = with_more (size_of d) (accesses_in d) c

-- ---- parts that stand in lists

-- a step that takes the value so far, and steps in turn
unfoldable pub counted_link : Linked → Count → Count
counted_link l c = with_more 1 (accesses_by l.operation) (counted_all l.more c)

unfoldable pub counted_links : List Linked → Count → Count
counted_links [] c = c
counted_links (l ∷ more) c = counted_links more (counted_link l c)

-- an operand of `&&` or `||`, and operands in turn
unfoldable pub counted_test : Tested → Count → Count
counted_test t c = with_more 1 0 (counted t.e c)

unfoldable pub counted_tests : List Tested → Count → Count
counted_tests [] c = c
counted_tests (t ∷ more) c = counted_tests more (counted_test t c)
