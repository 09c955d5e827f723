-- The core of a typed statement and of a typed source. Locals are numbered in the order of the text: `next` is the
-- number of the next local.
use Rattle.std.specs.Prelude.{ℕ, suc, ◌+◌, ◌-◌, Option, Some, None, List, [], ◌∷◌, ◌++◌, length, drop, map, codes, if◌then◌else◌}
use Rattle.std.specs.Str.{bytes_eq}
use Rattle.sc_base.specs.declared.shape.Shape.{Shape}
use Rattle.sc_base.specs.declared.shape.Ty.{Ty}
use Rattle.sc_tree.specs.Names.{Text}
use Rattle.sc_tree.specs.PlainTyped.{TypedExpression}
use Rattle.sc_tree.specs.PlainTypedStmt.{TypedStatement, block, empty, declare, simple, split, choose as choose_arms, choose_else, while_, do_while, for_, for_mine, return as return_of, break as break_at, continue as continue_at, TypedStatements, no_statements, statements, TypedArm, arm, TypedArms, no_arms, arms}
use Rattle.sc_tree.specs.PlainTypedTree.{PlainTypedFunction, PlainTypedTree}
use Rattle.sc_core.specs.Core.{constant, Does, nothing, break, continue, then_, choose, loop, return, Function, Program}
use Rattle.sc_core.specs.Places.{is_pointer}
use Rattle.sc_core.specs.Expressions.{star_of, value_of, found}
use Rattle.sc_core.specs.Statements.{zero_of, whole, optional, declared, in_turn, splitting, tested, tested_if, mine_loop}

-- ---- the types of the locals that are declared in a statement, in the order of their numbers

abbrev mutual
  pub types_in : TypedStatement → List Ty
  types_in (block all) = types_of all
  types_in (declare locals) = map (λ l. l.ty) locals
  types_in (choose_arms all) = types_of_arms all
  types_in (choose_else all otherwise) = types_of_arms all ++ types_in otherwise
  types_in (while_ test body) = types_in body
  types_in (do_while body test) = types_in body
  types_in (for_ first test next body) = types_in body
  types_in (for_mine n bound body at line) = types_in body
  types_in _ = []

  pub types_of : TypedStatements → List Ty
  types_of no_statements = []
  types_of (statements s more) = types_in s ++ types_of more

  pub types_of_arms : TypedArms → List Ty
  types_of_arms no_arms = []
  types_of_arms (arms (arm test body) more) = types_in body ++ types_of_arms more

-- ---- statements

-- what `return` gives, which is 0 or null where it has no value
abbrev pub returned : List Shape → (result : Ty) → Option TypedExpression → (line : ℕ) → Does
returned objects result None line = return (constant (zero_of result)) line
returned objects result (Some e) line = return (value_of objects e) line

unfoldable mutual
  pub does_of : List Shape → (result : Ty) → (next : ℕ) → TypedStatement → Does
  does_of objects result next (block all) = all_of objects result next all
  does_of objects result next empty = nothing
  does_of objects result next (declare locals) = declared objects next locals
  does_of objects result next (simple e) = whole objects e
  does_of objects result next (split left right one_way at line) =
      splitting objects (found objects left) right one_way line
  does_of objects result next (choose_arms all) = arms_of objects result next all nothing
  does_of objects result next (choose_else all otherwise) =
      arms_of objects result next all (does_of objects result (next + length (types_of_arms all)) otherwise)
  does_of objects result next (while_ test body) =
      loop None (tested objects test) (does_of objects result next body) nothing
  does_of objects result next (do_while body test) =
      loop None nothing (does_of objects result next body) (tested objects test)
  does_of objects result next (for_ first test after body) =
      in_turn (optional objects first)
      (loop None (tested_if objects test) (does_of objects result next body) (optional objects after))
  does_of objects result next (for_mine n bound body at line) =
      mine_loop n (value_of objects bound) (does_of objects result next body) line
  does_of objects result next (return_of value at line) = returned objects result value line
  does_of objects result next (break_at at) = break
  does_of objects result next (continue_at at) = continue

  pub all_of : List Shape → (result : Ty) → (next : ℕ) → TypedStatements → Does
  all_of objects result next no_statements = nothing
  all_of objects result next (statements s more) =
      then_ (does_of objects result next s) (all_of objects result (next + length (types_in s)) more)

  -- the arms of an `if`, and what is done where no test is true
  pub arms_of : List Shape → (result : Ty) → (next : ℕ) → TypedArms → (otherwise : Does) → Does
  arms_of objects result next no_arms otherwise = otherwise
  arms_of objects result next (arms (arm test body) more) otherwise =
      choose (is_pointer (star_of test)) (value_of objects test) (does_of objects result next body)
      (arms_of objects result (next + length (types_in body)) more otherwise)

-- ---- functions and sources

abbrev pub function_with : List Shape → PlainTypedFunction → TypedStatements → Function
function_with objects f body = record {
  params = map (λ p. p.ty) f.params;
  others = types_of body;
  result = f.result;
  body = all_of objects f.result (length f.params) body;
  line = f.line;
}

-- the definitions; prototypes are left out
abbrev pub functions_of : List Shape → List PlainTypedFunction → List Function
functions_of objects [] = []
functions_of objects (f ∷ more) =
    elim f.body [
      | None ↦ functions_of objects more
      | Some body ↦ function_with objects f body ∷
          functions_of objects more
    ]

-- the first of the names that is `splitc_main`
abbrev pub main_in : List Text → ℕ
main_in [] = 0
main_in (text ∷ more) = if bytes_eq text (codes "splitc_main") then 0 else suc (main_in more)

-- The core of a typed source. The names of its functions are its last texts.
abbrev pub core_of : PlainTypedTree → Program
core_of tree =
    let functions : List Function = functions_of tree.objects tree.functions in
    record {
      functions = functions;
      main = main_in (drop (length tree.texts - length functions) tree.texts);
      texts = tree.texts;
    }
