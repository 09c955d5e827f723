-- Postfix expressions of the code as plain data.
use Rattle.std.specs.Prelude.{map}
use Rattle.std.specs.Option.{option_map}
use Rattle.sc_tree.specs.ViewTyped.{plain_typed, plain_typed_tail}
use Rattle.sc_typing.specs.Tails as tails
use Rattle.sc_operators.specs.declared.tails.Tailed.{Tailed}
use Rattle.sc_operators.specs.declared.tails.Tailing.{Tailing}

abbrev pub seen_tailed : Tailed → tails.Tailed
seen_tailed t = record {
  first = plain_typed t.first;
  rest = map plain_typed_tail t.rest.items;
  ty = t.ty;
  is_null = t.is_null;
}

abbrev pub seen_tailing : Tailing → tails.Tailing
seen_tailing t = record { place = t.place; skip = t.skip; tailed = option_map seen_tailed t.tailed }
