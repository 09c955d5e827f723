use Rattle.std.proofs.Common.{refl, ap, ◌∙◌}
use Rattle.replay_books.specs.Tables.{fresh_tables}
use Rattle.sc_core.specs.ViewStatements.{plain_program}
use Rattle.history_replay.proofs.Reaching.{begun}
use Rattle.history_replay.proofs.judge.Judge.new.Goals as goal

pub returns-clause-reached : goal.returns-clause-reached
returns-clause-reached c =
    begun c.args.layout.now (plain_program c.args.program.now) c.args.budget _ refl (c.in_ok-tables.ensures ∙ ap fresh_tables c.nodes.ensures) c.in_ok-cells.ensures
    c.in_ok-nodes.ensures.many c.in_ok-nodes.ensures.all
