use Rattle.meaning_laws.proofs.Instructions.{actions_are_their_instructions}
use Rattle.meaning_laws.proofs.steps.actions_are_their_instructions.Goals as goal

pub returns : goal.returns
returns c = actions_are_their_instructions
