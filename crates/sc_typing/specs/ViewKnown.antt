-- What the code knows of an expression, as plain data.
use Rattle.std.specs.Option.{option_map}
use Rattle.sc_tree.specs.ViewTyped.{plain_typed}
use Rattle.sc_typing.specs.Known.{Valued, Judgement}
use Rattle.sc_typing.specs.declared.known.Known.{Known}
use Rattle.sc_typing.specs.declared.known.Judged.{Judged}

abbrev pub seen : Known → Valued
seen k = record { expression = plain_typed k.e; ty = k.ty; is_null = k.is_null; spot = k.spot }

abbrev pub seen_judged : Judged → Judgement
seen_judged j = record { start = j.start; place = j.place; taken = j.taken; known = option_map seen j.known }
