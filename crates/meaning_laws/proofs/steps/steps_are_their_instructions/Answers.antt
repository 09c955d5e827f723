use Rattle.meaning_laws.proofs.Instructions.{steps_are_their_instructions}
use Rattle.meaning_laws.proofs.steps.steps_are_their_instructions.Goals as goal

pub returns : goal.returns
returns c = steps_are_their_instructions
