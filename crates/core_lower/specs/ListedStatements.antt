-- Statements and arms of the core that the code keeps in lists, as lists. The function has so many parameters, and
-- these types of other locals before them.
use Rattle.std.specs.Prelude.{ℕ, ◌+◌, List, [], ◌∷◌, ◌++◌, length}
use Rattle.sc_base.specs.declared.shape.Shape.{Shape}
use Rattle.sc_base.specs.declared.shape.Ty.{Ty}
use Rattle.sc_tree.specs.PlainTypedStmt.{TypedDeclared, TypedStatements, no_statements, statements, TypedArms, no_arms, arms, arm}
use Rattle.sc_core.specs.Core.{Does}
use Rattle.sc_core.specs.Places.{is_pointer}
use Rattle.sc_core.specs.Expressions.{star_of, value_of}
use Rattle.sc_core.specs.Statements.{begun}
use Rattle.sc_core.specs.Lowering.{types_in, does_of}
use Rattle.sc_core.specs.ViewStatements.{Armed}

unfoldable pub begun_in : List Shape → (params : ℕ) → (before : List Ty) → List TypedDeclared → List Does
begun_in objects params before [] = []
begun_in objects params before (l ∷ more) =
    begun objects (params + length before) l.ty l.init l.line ∷ begun_in objects params (before ++ l.ty ∷ []) more

unfoldable pub does_in : List Shape → (result : Ty) → (params : ℕ) → (before : List Ty) → TypedStatements →
    List Does
does_in objects result params before no_statements = []
does_in objects result params before (statements s more) =
    does_of objects result (params + length before) s
    ∷ does_in objects result params (before ++ types_in s) more

unfoldable pub arms_in : List Shape → (result : Ty) → (params : ℕ) → (before : List Ty) → TypedArms →
    List Armed
arms_in objects result params before no_arms = []
arms_in objects result params before (arms (arm test body) more) =
    record {
      of_pointer = is_pointer (star_of test);
      test = value_of objects test;
      body = does_of objects result (params + length before) body;
    } ∷ arms_in objects result params (before ++ types_in body) more
