-- The core of a typed expression, by its form and the last stars of its types.
use Rattle.std.specs.Prelude.{ℕ, zero, suc, ◌+◌, pos, Bool, true, false, ◌&&◌, Option, Some, None, List, [], ◌∷◌}
use Rattle.sc_base.specs.declared.operator.Binary.{Binary}
use Rattle.sc_base.specs.declared.operator.Unary.TheVariants as unary
use Rattle.sc_base.specs.declared.operator.Unary.{Unary}
use Rattle.sc_base.specs.declared.shape.Star.{Star}
use Rattle.sc_base.specs.declared.shape.Shape.{Shape}
use Rattle.sc_base.specs.declared.shape.Ty.{Ty}
use Rattle.sc_tree.specs.declared.typed.Named.TheVariants as named
use Rattle.sc_tree.specs.PlainTyped.{TypedExpression, typed_expression, TypedForm, number, null, my_proc, procs, size_int, name, format, chain, both, either, choice as choice_form, assign, step as step_form, plus, prefix, deref, address, cast, postfix, call, convert, printf, sync, barrier, all_store_sync, to_global, to_proc, to_local, bulk_read, bulk_write, bulk_get, bulk_put, bulk_store, TypedExpressions, no_expressions, expressions, link, TypedLinks, no_links, links, TypedTail, index, up, down, TypedTails, no_tails, tails}
use Rattle.sc_core.specs.declared.operation.Constant.TheVariants.{Number, Null, Mine, Procs}
use Rattle.sc_core.specs.declared.operation.Operation.TheVariants as does
use Rattle.sc_core.specs.Core.{Core, constant, step, choice, Arguments, none, argument}
use Rattle.sc_core.specs.Places.{last_of, is_pointer, number_one, number_zero, with_one, with_two, operation_on, star_after, step_operator, taken_back, converted, Found, value, local, fetched, assigned, changed, changed_after, address_of, behind, object_with, dimensions_of, without_last}

abbrev pub type_of : TypedExpression → Ty
type_of (typed_expression form ty start at line) = ty

abbrev pub star_of : TypedExpression → Option Star
star_of e = last_of (type_of e).stars

abbrev pub count_of : TypedExpressions → ℕ
count_of no_expressions = 0
count_of (expressions e more) = 1 + count_of more

-- an argument behind the others
abbrev pub behind_all : Arguments → Core → Arguments
behind_all none e = argument e none
behind_all (argument first more) e = argument first (behind_all more e)

-- the object that the expression names, if it is the name of one
abbrev pub object_in : TypedForm → Option ℕ
object_in (name (named.Object o)) = Some o
object_in _ = None

abbrev pub object_named : TypedExpression → Option ℕ
object_named (typed_expression form ty start at line) = object_in form

abbrev pub line_of : TypedExpression → ℕ
line_of (typed_expression form ty start at line) = line

-- an index that is written with numbers, `MYPROC`, `PROCS`, locals and operators of two alone
abbrev mutual
  pub is_plain : TypedExpression → Bool
  is_plain (typed_expression form ty start at line) = is_plain_form form

  pub is_plain_form : TypedForm → Bool
  is_plain_form (number n) = true
  is_plain_form my_proc = true
  is_plain_form procs = true
  is_plain_form (name (named.Local x)) = true
  is_plain_form (chain first rest) = is_plain first && are_plain rest
  is_plain_form _ = false

  pub are_plain : TypedLinks → Bool
  are_plain no_links = true
  are_plain (links (link op e at line) more) = is_plain e && are_plain more

-- `-`, `!` or `~` of a value whose type has this last star
abbrev pub prefixed : Unary → Option Star → Core → (line : ℕ) → Core
prefixed unary.Not (Some s) e line = with_one does.IsNull e line
prefixed op s e line = with_one (does.Unary op) e line

-- an assignment, plain or by an operator
abbrev pub set_to : Option Binary → Found → Option Star → (right : Core) → (line : ℕ) → Core
set_to None place s right line = assigned place right line
set_to (Some op) place s right line = changed place (operation_on s op) right line

-- an index behind a pointer with this last star
abbrev pub indexed : Found → Option Star → (by : Core) → (line : ℕ) → Found
indexed what None by line = what
indexed what (Some s) by line = behind (Some s) (with_two (does.Forward s) (fetched what) by line) line

-- `++` or `--` behind a place of a type with this last star
abbrev pub stepped_after : Found → Option Star → (up : Bool) → (line : ℕ) → Core
stepped_after what s is_up line =
    changed_after what (operation_on s (step_operator is_up)) (operation_on s (taken_back is_up)) line

-- an index leads from a pointer to what it reaches, and a step leaves the type
abbrev pub stars_behind : List Star → TypedTail → List Star
stars_behind stars (index e at line) = without_last stars
stars_behind stars (up at line) = stars
stars_behind stars (down at line) = stars

-- a postfix expression on an object's own name, or on anything else
abbrev pub with_object : Option ℕ → (ℕ → Found) → Found → Found
with_object None of_object other = other
with_object (Some o) of_object other = of_object o

unfoldable mutual
  -- the value of the expression
  pub value_of : List Shape → TypedExpression → Core
  value_of objects (typed_expression form ty start at line) = fetched (found_form objects form line)

  -- what the expression comes to
  pub found : List Shape → TypedExpression → Found
  found objects (typed_expression form ty start at line) = found_form objects form line

  pub found_form : List Shape → TypedForm → (line : ℕ) → Found
  found_form objects (number n) line = value (constant (Number n))
  found_form objects null line = value (constant Null)
  found_form objects my_proc line = value (constant Mine)
  found_form objects procs line = value (constant Procs)
  found_form objects size_int line = value (constant (Number (pos 8)))
  found_form objects (name (named.Local x)) line = local x line
  found_form objects (name (named.Object o)) line = object_with objects o 0 true none line
  found_form objects (name (named.Function f)) line = value number_zero
  found_form objects (format f) line = value number_zero
  found_form objects (chain first rest) line = value (joined objects (star_of first) (value_of objects first) rest)
  found_form objects (both all) line = value (every objects all)
  found_form objects (either all) line = value (any objects all)
  found_form objects (choice_form test on off) line =
      value (choice (is_pointer (star_of test)) (value_of objects test) (value_of objects on) (value_of objects off))
  found_form objects (assign op left right) line =
      value (set_to op (found objects left) (star_of left) (value_of objects right) line)
  found_form objects (step_form is_up e) line =
      value (changed (found objects e) (operation_on (star_of e) (step_operator is_up)) number_one line)
  found_form objects (plus e) line = value (value_of objects e)
  found_form objects (prefix op e) line = value (prefixed op (star_of e) (value_of objects e) line)
  found_form objects (deref e) line = behind (star_of e) (value_of objects e) line
  found_form objects (address e) line = value (address_of (found objects e))
  found_form objects (cast stars e) line = value (converted (star_of e) (last_of stars) (value_of objects e) line)
  found_form objects (postfix first all) line =
      with_object (object_named first)
      (λ o. indices_found objects o (dimensions_of objects o) 0 true none (line_of first) (type_of first).stars all)
      (tails_found objects (found objects first) (type_of first).stars all)
  found_form objects (call (named.Function f) args) line =
      value (step (does.Call f (count_of args)) (values_of objects args) line)
  found_form objects (call (named.Local x) args) line = value number_zero
  found_form objects (call (named.Object o) args) line = value number_zero
  found_form objects (convert ty e) line = value (converted (star_of e) (last_of ty.stars) (value_of objects e) line)
  found_form objects (to_global node e) line =
      value (with_two does.ToGlobal (value_of objects node) (value_of objects e) line)
  found_form objects (to_proc e) line = value (with_one does.ToProc (value_of objects e) line)
  found_form objects (to_local e) line = value (with_one does.ToLocal (value_of objects e) line)
  -- these have no value, and stand as whole statements
  found_form objects (printf f args) line = value number_zero
  found_form objects sync line = value number_zero
  found_form objects barrier line = value number_zero
  found_form objects all_store_sync line = value number_zero
  found_form objects (bulk_read to from bytes) line = value number_zero
  found_form objects (bulk_write to from bytes) line = value number_zero
  found_form objects (bulk_get to from bytes) line = value number_zero
  found_form objects (bulk_put to from bytes) line = value number_zero
  found_form objects (bulk_store to from bytes) line = value number_zero

  pub values_of : List Shape → TypedExpressions → Arguments
  values_of objects no_expressions = none
  values_of objects (expressions e more) = argument (value_of objects e) (values_of objects more)

  -- the links of a chain behind what stands to their left, whose type has this last star
  pub joined : List Shape → Option Star → Core → TypedLinks → Core
  joined objects s left no_links = left
  joined objects s left (links (link op e at line) more) =
      joined objects (star_after op s) (with_two (operation_on s op) left (value_of objects e) line) more

  -- `&&` and `||`, which evaluate what they need
  pub every : List Shape → TypedExpressions → Core
  every objects no_expressions = number_one
  every objects (expressions e more) =
      choice (is_pointer (star_of e)) (value_of objects e) (every objects more) number_zero

  pub any : List Shape → TypedExpressions → Core
  any objects no_expressions = number_zero
  any objects (expressions e more) = choice (is_pointer (star_of e)) (value_of objects e) number_one (any objects more)

  -- an object with so many indices, which takes as many more as are left
  pub indices_found : List Shape → (o left count : ℕ) → (plain : Bool) → Arguments → (line : ℕ) →
      (stars : List Star) →
      TypedTails → Found
  indices_found objects o left count plain indices line stars no_tails = object_with objects o count plain indices line
  indices_found objects o zero count plain indices line stars (tails t more) =
      tails_found objects (tail_found objects (object_with objects o count plain indices line) stars t)
      (stars_behind stars t) more
  indices_found objects o (suc left) count plain indices line stars (tails (index e at line_index) more) =
      indices_found objects o left (count + 1) (plain && is_plain e) (behind_all indices (value_of objects e))
      line_index stars more
  indices_found objects o (suc left) count plain indices line stars (tails t more) =
      tails_found objects (tail_found objects (object_with objects o count plain indices line) stars t)
      (stars_behind stars t) more

  -- what stands behind a part whose type has these stars
  pub tails_found : List Shape → Found → (stars : List Star) → TypedTails → Found
  tails_found objects what stars no_tails = what
  tails_found objects what stars (tails t more) =
      tails_found objects (tail_found objects what stars t) (stars_behind stars t) more

  pub tail_found : List Shape → Found → (stars : List Star) → TypedTail → Found
  tail_found objects what stars (index e at line) = indexed what (last_of stars) (value_of objects e) line
  tail_found objects what stars (up at line) = value (stepped_after what (last_of stars) true line)
  tail_found objects what stars (down at line) = value (stepped_after what (last_of stars) false line)
