use Rattle.std.proofs.lemmas.Bool.{both_ways}
use Rattle.site_graph.proofs.Opened.{one_opened}
use Rattle.site_graph.proofs.reaching.open_one.Goals as goal

pub returns : goal.returns
returns c =
    one_opened c.args.point c.args.found.now c.set.new.self c.args.todo.now.items c.push.new.self.items
    (λ s. both_ways _ c.if-get.false (c.get.ensures.1 s)) c.requires.within c.set.ensures c.in-Ok.ensures.items
