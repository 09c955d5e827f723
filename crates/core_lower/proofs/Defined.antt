-- The functions of a source, one after another.
use Rattle.std.proofs.Common.{◌≡◌, refl, List, ◌∷◌, ◌++◌, Option, Some, None}
use Rattle.sc_base.specs.declared.shape.Shape.{Shape}
use Rattle.sc_tree.specs.PlainTypedStmt.{TypedStatements}
use Rattle.sc_tree.specs.PlainTypedTree.{PlainTypedFunction}
use Rattle.sc_core.specs.Core.{Function}
use Rattle.sc_core.specs.Lowering.{function_with, functions_of}
use Rattle.core_lower.specs.ListedFunctions.{function_in, listed}

by_body : (objects : List Shape) (f : PlainTypedFunction) (rest : List Function) (body : Option TypedStatements) →
    elim body [ None ↦ rest | Some all ↦ function_with objects f all ∷ rest ] ≡ listed (function_in objects f body) ++ rest
by_body objects f rest None = refl
by_body objects f rest (Some all) = refl

pub functions-on : (objects : List Shape) (f : PlainTypedFunction) (more : List PlainTypedFunction) →
    functions_of objects (f ∷ more) ≡ listed (function_in objects f f.body) ++ functions_of objects more
functions-on objects f more = by_body objects f (functions_of objects more) f.body

pub ruleset definitions = (functions-on)
