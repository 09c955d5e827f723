-- The core of what a typed statement is made of: whole expressions, declarations, split assignments and loops.
use Rattle.std.specs.Prelude.{ℕ, ◌+◌, pos, Bool, true, false, Option, Some, None, List, [], ◌∷◌}
use Rattle.sc_base.specs.declared.operator.Binary.TheVariants as op
use Rattle.sc_base.specs.declared.shape.Shape.{Shape}
use Rattle.sc_base.specs.declared.shape.Ty.{Ty}
use Rattle.sc_base.specs.declared.value.CopyMode.{CopyMode}
use Rattle.sc_base.specs.declared.value.CopyMode.TheVariants.{Blocking, Split, OneWay}
use Rattle.sc_tree.specs.declared.typed.Named.{Named}
use Rattle.sc_tree.specs.declared.typed.Named.TheVariants as named
use Rattle.sc_tree.specs.PlainTyped.{TypedExpression, typed_expression, TypedForm, assign, printf, sync, barrier, all_store_sync, bulk_read, bulk_write, bulk_get, bulk_put, bulk_store}
use Rattle.sc_tree.specs.PlainTypedStmt.{TypedDeclared}
use Rattle.sc_core.specs.declared.operation.Constant.{Constant}
use Rattle.sc_core.specs.declared.operation.Constant.TheVariants.{Number, Null, Mine, Procs}
use Rattle.sc_core.specs.declared.operation.Operation.TheVariants as does
use Rattle.sc_core.specs.declared.operation.Action.{Action}
use Rattle.sc_core.specs.declared.operation.Action.TheVariants as acts
use Rattle.sc_core.specs.Core.{Core, constant, step, none, argument, Does, nothing, break, then_, act, choose, loop}
use Rattle.sc_core.specs.Places.{last_of, is_own, is_pointer, with_two, Found, value, local, cell, reaching, fetched}
use Rattle.sc_core.specs.Expressions.{star_of, count_of, line_of, value_of, values_of, found}

abbrev pub act_on : Action → Core → (line : ℕ) → Does
act_on action e line = act action (argument e none) line

-- a local of this type that begins without a value, and what a function of this result gives without one
abbrev pub has_star : Ty → Bool
has_star ty = is_pointer (last_of ty.stars)

abbrev pub zero_of : Ty → Constant
zero_of ty = elim (has_star ty) [ true ↦ Null | false ↦ Number (pos 0) ]

-- one after the other
abbrev pub in_turn : Does → Does → Does
in_turn first second = then_ first (then_ second nothing)

-- ---- whole expressions

-- the local becomes what was found; where that is a cell, its value is read for the local alone
abbrev pub filled : (local : ℕ) → Found → Does → (line : ℕ) → Does
filled x (cell pointer own at) otherwise line = act_on (acts.Fill x) (reaching own pointer at) line
filled x _ otherwise line = otherwise

abbrev pub assigning : Found → Found → Does → (line : ℕ) → Does
assigning (local x at) right otherwise line = filled x right otherwise line
assigning _ right otherwise line = otherwise

-- an argument of a bulk transfer, a local pointer being one of the executing node's own memory
abbrev pub transferred : List Shape → TypedExpression → Core
transferred objects e = reaching (is_own (star_of e)) (value_of objects e) (line_of e)

abbrev pub copying : List Shape → CopyMode → (to from bytes : TypedExpression) → (line : ℕ) → Does
copying objects mode to from bytes line =
    act (acts.Copy mode)
    (argument (transferred objects to) (argument (transferred objects from) (argument (value_of objects bytes) none)))
    line

-- an expression as a whole statement, whose value would else be let go
abbrev pub whole_form : List Shape → TypedForm → Does → (line : ℕ) → Does
whole_form objects (assign None left right) dropped line =
    assigning (found objects left) (found objects right) dropped line
whole_form objects (printf f args) dropped line =
    act (acts.Print f (count_of args)) (values_of objects args) line
whole_form objects sync dropped line = act acts.Sync none line
whole_form objects barrier dropped line = act acts.Barrier none line
whole_form objects all_store_sync dropped line = act acts.AllStoreSync none line
whole_form objects (bulk_read to from bytes) dropped line = copying objects Blocking to from bytes line
whole_form objects (bulk_write to from bytes) dropped line = copying objects Blocking to from bytes line
whole_form objects (bulk_get to from bytes) dropped line = copying objects Split to from bytes line
whole_form objects (bulk_put to from bytes) dropped line = copying objects Split to from bytes line
whole_form objects (bulk_store to from bytes) dropped line = copying objects OneWay to from bytes line
whole_form objects _ dropped line = dropped

-- an expression whose value is let go
abbrev pub dropped : List Shape → TypedExpression → Does
dropped objects e = act_on acts.Drop (value_of objects e) (line_of e)

abbrev pub whole : List Shape → TypedExpression → Does
whole objects (typed_expression form ty start at line) =
    whole_form objects form (dropped objects (typed_expression form ty start at line)) line

abbrev pub optional : List Shape → Option TypedExpression → Does
optional objects None = nothing
optional objects (Some e) = dropped objects e

-- ---- declarations

abbrev pub begun : List Shape → (local : ℕ) → Ty → Option TypedExpression → (line : ℕ) → Does
begun objects x ty None line = act (acts.Clear x (has_star ty)) none line
begun objects x ty (Some e) line = filled x (found objects e) (act_on (acts.Begin x) (value_of objects e) line) line

abbrev pub declared : List Shape → (next : ℕ) → List TypedDeclared → Does
declared objects next [] = nothing
declared objects next (l ∷ more) = then_ (begun objects next l.ty l.init l.line) (declared objects (next + 1) more)

-- ---- split assignments

abbrev pub eight : Core
eight = constant (Number (pos 8))

-- the place that was found as the argument of a transfer
abbrev pub placed : Found → Core
placed (cell pointer own at) = reaching own pointer at
placed what = fetched what

abbrev pub put_or_send : (one_way : Bool) → Action
put_or_send true = acts.Send
put_or_send false = acts.Put

abbrev pub splitting : List Shape → Found → TypedExpression → (one_way : Bool) → (line : ℕ) → Does
splitting objects (local x at) right one_way line = act_on (acts.Get x) (placed (found objects right)) line
splitting objects (cell pointer false at) right one_way line =
    act (put_or_send one_way) (argument pointer (argument (value_of objects right) none)) line
splitting objects (cell pointer true at) right one_way line =
    act (acts.Copy Split)
    (argument (reaching true pointer at) (argument (placed (found objects right)) (argument eight none))) line
splitting objects (value e) right one_way line = nothing

-- ---- loops

-- leaves the loop where the test is false
abbrev pub tested : List Shape → TypedExpression → Does
tested objects e = choose (is_pointer (star_of e)) (value_of objects e) nothing break

abbrev pub tested_if : List Shape → Option TypedExpression → Does
tested_if objects None = nothing
tested_if objects (Some e) = tested objects e

-- `for_my_1d (i, n) s` is `for (i = MYPROC; i < (n); i += PROCS) s`, told at the line of its name
abbrev pub used : (local line : ℕ) → Core
used x line = step (does.Use x) none line

abbrev pub set_and_dropped : (local : ℕ) → Core → (line : ℕ) → Does
set_and_dropped x e line = act_on acts.Drop (step (does.Set x) (argument e none) line) line

abbrev pub mine_first : (local line : ℕ) → Does
mine_first x line = set_and_dropped x (constant Mine) line

abbrev pub mine_test : (local : ℕ) → (bound : Core) → (line : ℕ) → Does
mine_test x bound line = choose false (with_two (does.Binary op.Lt) (used x line) bound line) nothing break

abbrev pub mine_next : (local line : ℕ) → Does
mine_next x line = set_and_dropped x (with_two (does.Binary op.Add) (used x line) (constant Procs) line) line

abbrev pub mine_loop : Named → (bound : Core) → Does → (line : ℕ) → Does
mine_loop (named.Local x) bound body line =
    in_turn (mine_first x line) (loop (Some x) (mine_test x bound line) body (mine_next x line))
mine_loop _ bound body line = nothing
