use Rattle.std.proofs.Common.{◌≡◌, ◌∙◌, Some, None, false, arith}
use Rattle.std.proofs.lemmas.Grind.{common_steps}
use Rattle.sc_typing.proofs.Directives.{counted, counted_whole}
use Rattle.sc_typing.proofs.file.directives.Goals as goal

pub returns-in_default : goal.returns-in_default
returns-in_default c =
    let end : None ≡ counted false 0 c.args.text.now = grind (arith, common_steps) in end ∙ counted_whole c.args.text.now

pub returns-then-after-2 : goal.returns-then-after-2
returns-then-after-2 c =
    let end : None ≡ counted false 0 c.args.text.now = grind (arith, common_steps) in end ∙ counted_whole c.args.text.now

pub returns-else-after-2 : goal.returns-else-after-2
returns-else-after-2 c =
    let end : Some c.loop-byte.count ≡ counted false 0 c.args.text.now = grind (arith, common_steps) in
    end ∙ counted_whole c.args.text.now
