-- Parts of core trees and of flows by hand, all on line 1.
use Rattle.std.proofs.Common.{ℕ, ◌-◌, ◌^◌, pos, true, false, Option, None, List, [], ◌∷◌}
use Rattle.std.specs.Prelude.{replicate}
use Rattle.sc_base.specs.declared.operator.Binary.{Binary}
use Rattle.sc_base.specs.declared.shape.Ty.{Ty}
use Rattle.sc_core.specs.declared.operation.Constant.TheVariants.{Number}
use Rattle.sc_core.specs.declared.operation.Operation.{Operation}
use Rattle.sc_core.specs.declared.operation.Operation.TheVariants as does
use Rattle.sc_core.specs.declared.operation.Action.{Action}
use Rattle.sc_core.specs.declared.operation.Action.TheVariants as acts
use Rattle.sc_core.specs.Core.{Core, constant, step, none, argument, Does, nothing, then_, act, Function, Program}
use Rattle.site_graph.specs.declared.flow.Edge.{Edge}
use Rattle.site_graph.specs.declared.point.Point.{Point}
use Rattle.site_graph.specs.declared.point.PointKind.{PointKind}
use Rattle.site_graph.specs.declared.point.PointKind.TheVariants.{Plain, Return, Access}
use Rattle.site_graph.specs.declared.site.Form.{Form}
use Rattle.site_graph.specs.declared.site.Site.{Site}
use Rattle.site_graph.specs.declared.site.SiteKind.{SiteKind}

-- ---- core trees

abbrev pub number : ℕ → Core
number n = constant (Number (pos n))

abbrev pub alone : Operation → Core
alone o = step o none 1

abbrev pub one : Operation → Core → Core
one o a = step o (argument a none) 1

abbrev pub two : Operation → Core → Core → Core
two o a b = step o (argument a (argument b none)) 1

abbrev pub use_ : ℕ → Core
use_ x = alone (does.Use x)

abbrev pub by : Binary → Core → Core → Core
by o a b = two (does.Binary o) a b

-- an element of a spread object with one index, and the own cell of an ordinary object without an index
abbrev pub element : (object : ℕ) → (index : Core) → Core
element o e = one (does.Element o 1 true) e

abbrev pub own : (object : ℕ) → Core
own o = one does.Own (alone (does.Element o 0 true))

abbrev pub dropped : Core → Does
dropped e = act acts.Drop (argument e none) 1

abbrev pub acting : Action → Does
acting a = act a none 1

abbrev pub acting_on : Action → Core → Does
acting_on a e = act a (argument e none) 1

abbrev pub acting_on_two : Action → Core → Core → Does
acting_on_two a e f = act a (argument e (argument f none)) 1

abbrev pub block : List Does → Does
block [] = nothing
block (s ∷ more) = then_ s (block more)

abbrev pub int : Ty
int = record { void = false; stars = [] }

-- a function with so many int parameters and so many other int locals
abbrev pub function : (params others : ℕ) → List Does → Function
function params others all =
    record { params = replicate params int; others = replicate others int; result = int; body = block all; line = 1 }

abbrev pub program_of : List Function → (main : ℕ) → Program
program_of functions main = record { functions = functions; main = main; texts = [] }

-- ---- flows

abbrev pub M : ℕ
M = 2 ^ 32 - 1

abbrev pub point : PointKind → (function : ℕ) → (takes reads : List ℕ) → (writes : Option ℕ) → Point
point kind f takes reads writes = record { kind = kind; function = f; takes = takes; reads = reads; writes = writes }

abbrev pub plain : (function : ℕ) → (reads : List ℕ) → Point
plain f reads = point Plain f [] reads None

abbrev pub returning : (function : ℕ) → (reads : List ℕ) → Point
returning f reads = point Return f [] reads None

abbrev pub access : (site function : ℕ) → (reads : List ℕ) → Point
access s f reads = point (Access s) f [] reads None

abbrev pub to : ℕ → ℕ → Edge
to a b = record { from = a; to = b }

abbrev pub site : SiteKind → (reads writes : Option Form) → (fills : Option ℕ) → Site
site kind reads writes fills = record { kind = kind; line = 1; reads = reads; writes = writes; fills = fills }
