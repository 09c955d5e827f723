-- Chains of the code as plain data.
use Rattle.std.specs.Prelude.{map}
use Rattle.sc_tree.specs.ViewTyped.{plain_typed, plain_typed_link}
use Rattle.sc_typing.specs.Operators as operators
use Rattle.sc_typing.specs.Chains as chains
use Rattle.sc_typing.specs.ViewKnown.{seen}
use Rattle.sc_operators.specs.declared.chains.Linked.{Linked}
use Rattle.sc_operators.specs.declared.chains.Gathered.{Gathered}

abbrev pub seen_linked : Linked → chains.Linked
seen_linked l =
    record { first = seen l.first; rest = map plain_typed_link l.rest.items; ty = l.ty; is_null = l.is_null }

abbrev pub seen_gathered : Gathered → operators.Gathered
seen_gathered g = record { all = map plain_typed g.all.items; whole = g.whole }
