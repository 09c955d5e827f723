-- A chain of the code, and the arguments of its outermost step, as plain data.
use Rattle.std.specs.Prelude.{List, Option, Some, None, map}
use Rattle.sc_core.specs.declared.expression.CoreExpr.{CoreExpr}
use Rattle.sc_core.specs.Core.{Core, Arguments, none, argument}
use Rattle.sc_core.specs.View.{plain_core, linked, arguments_of}
use Rattle.sc_core.specs.ViewParts.{plain_core_first, plain_core_link}
use Rattle.index_form.specs.declared.chain.Chain.{Chain}
use Rattle.index_form.specs.declared.chain.Outer.{Outer}
use Rattle.index_form.specs.declared.chain.Two.{Two}
use Rattle.index_form.specs.Outermost.{Stepped, Sides}

unfoldable pub chain_core : Chain → Core
chain_core c = linked (plain_core_first c.first.now) (map plain_core_link c.links.now)

-- the first argument, if there is one, and those behind it
unfoldable pub behind : Option Chain → List CoreExpr → Arguments
behind None more = none
behind (Some e) more = argument (chain_core e) (arguments_of (map plain_core more))

unfoldable pub stepped : Outer → Stepped
stepped s = record { operation = s.operation; arguments = behind s.value s.more.now }

unfoldable pub seen_two : Two → Sides
seen_two two = record { left = chain_core two.left; right = chain_core two.right }
