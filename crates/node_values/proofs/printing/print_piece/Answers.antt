use Rattle.std.proofs.Common.{refl}
use Rattle.node_values.proofs.Formats.{percent_at, number_at, byte_at}
use Rattle.node_values.proofs.printing.print_piece.Goals as goal

pub returns-in_ok-push-in-Percent-clause-text : goal.returns-in_ok-push-in-Percent-clause-text
returns-in_ok-push-in-Percent-clause-text c =
    percent_at c.args.text.now.items c.push.new.self.items c.args.format.now c.args.operands.now c.args.from.at c.args.from.used
    _ c.in_ok-push-in-Percent.ensures.items c.in-Percent.ensures

pub returns-in_ok-push_number-in-Number-clause-text : goal.returns-in_ok-push_number-in-Number-clause-text
returns-in_ok-push_number-in-Number-clause-text c =
    number_at c.args.text.now.items c.push_number.new.text.items c.args.format.now c.args.operands.now c.args.from.at
    c.args.from.used _ refl _
    c.in_ok-push_number-in-Number.ensures.text
    c.in-Number.ensures

pub returns-in_ok-push-in-Byte-clause-text : goal.returns-in_ok-push-in-Byte-clause-text
returns-in_ok-push-in-Byte-clause-text c =
    byte_at c.args.text.now.items c.push-in-Byte.new.self.items c.args.format.now c.args.operands.now c.args.from.at
    c.args.from.used _ refl c.requires c.in_ok-push-in-Byte.ensures.items c.in-Byte.ensures
