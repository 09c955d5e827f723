use Rattle.alias_conflicts.proofs.Tables.{marked}
use Rattle.alias_conflicts.proofs.conflicting.mark.Goals as goal

pub returns-then-holds : goal.returns-then-holds
returns-then-holds c = marked c.args.row c.args.column c.args.holds c.args.rows.now c.set.new.self c.if-holds.true c.set.ensures
