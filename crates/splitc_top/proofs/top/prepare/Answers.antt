use Rattle.std.proofs.Common.{map, string_bytes}
use Rattle.splitc_top.proofs.SomeNodes.{some_nodes}
use Rattle.splitc_top.proofs.top.prepare.Goals as goal

pub text_of-requires-clause-some : goal.text_of-requires-clause-some
text_of-requires-clause-some g c = some_nodes (map string_bytes c.args.words.now) c.in-Ok.command
    c.in-Ok.ensures.command
