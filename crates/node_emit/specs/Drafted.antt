-- What the parts of a core tree that are kept as lists add to code while it is written.
use Rattle.std.specs.Prelude.{ℕ, pos, List, [], ◌∷◌, length}
use Rattle.sc_isa.specs.declared.op.Op.TheVariants.{Push}
use Rattle.sc_core.specs.View.{Linked, Tested}
use Rattle.site_graph.specs.declared.plan.Plan.{Plan}
use Rattle.node_emit.specs.Drafts.{Written, put, turned, ended, tested, stepped, emitted, emitted_all}

-- a value that is done more with
unfoldable pub linked_put : Plan → Linked → Written → Written
linked_put plan l d = stepped plan l.operation l.line (emitted_all plan l.more d)

unfoldable pub chained : Plan → List Linked → Written → Written
chained plan [] d = d
chained plan (l ∷ more) d = chained plan more (linked_put plan l d)

-- an operand, and its test
unfoldable pub opened : Plan → Tested → Written → Written
opened plan t d = tested plan t.of_pointer (emitted plan t.e d)

-- 0 where the test at the place is false
unfoldable pub shut : (place : ℕ) → Written → Written
shut place d = ended (length d.instrs ∷ []) (put (Push (pos 0)) (turned place d))

unfoldable pub closed : List ℕ → Written → Written
closed [] d = d
closed (place ∷ more) d = shut place (closed more d)
