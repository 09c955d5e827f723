-- What functions add to code while it is written, and why a source has no code.
use Rattle.std.specs.Prelude.{◌≡◌, ◌+◌, ◌≤◌, ℕ, List, [], ◌∷◌, length, slice_get, Some}
use Rattle.sc_base.specs.declared.limits.TheConstants.{LIMITS}
use Rattle.sc_isa.specs.declared.code.FnRow.{FnRow}
use Rattle.sc_core.specs.Core.{Function, Program}
use Rattle.sc_meaning.specs.Points.{size_of}
use Rattle.flow_form.specs.Accesses.{accesses_in}
use Rattle.site_graph.specs.declared.plan.Plan.{Plan}
use Rattle.node_emit.specs.declared.error.EmitError.{EmitError}
use Rattle.node_emit.specs.declared.error.EmitError.TheVariants.{TooManyLocals, OutOfMemory}
use Rattle.node_emit.specs.Drafts.{Written, grown}
use Rattle.node_emit.specs.Sources.{function_code, locals_of, IsFirstOver}

-- no function has more locals than the limit
abbrev pub AreWithin : Program → Type 0
AreWithin program = (n : ℕ) (f : Function) → slice_get program.functions n ≡ Some f →
    locals_of f ≤ LIMITS.locals

-- the source has no code for this reason
abbrev pub IsRefused : Program → EmitError → Type 0
IsRefused program (TooManyLocals count) = IsFirstOver program count
IsRefused program OutOfMemory = Unit {0}

unfoldable pub function_put : Plan → Function → Written → Written
function_put plan f d =
    grown d (function_code plan f d.point d.sites (length d.instrs)) (size_of f.body + 2) (accesses_in f.body)

unfoldable pub functions_put : Plan → List Function → Written → Written
functions_put plan [] d = d
functions_put plan (f ∷ more) d = functions_put plan more (function_put plan f d)

-- the row of a function that is written next
unfoldable pub row_of : Function → Written → FnRow
row_of f d = record { start = length d.instrs; params = length f.params; locals = locals_of f }

unfoldable pub rows_of : Plan → List Function → Written → List FnRow
rows_of plan [] d = []
rows_of plan (f ∷ more) d = row_of f d ∷ rows_of plan more (function_put plan f d)
