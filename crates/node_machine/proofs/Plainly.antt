-- The instructions other than a call and a print.
use Rattle.std.proofs.Common.{◌≡◌, ℕ, refl}
use Rattle.sc_isa.specs.declared.op.Op.{Op}
use Rattle.sc_isa.specs.declared.op.Op.TheVariants as op
use Rattle.node_machine.specs.Groups.{IsPlain, HasFewIndices}

pub is_plain : (o : Op) → ((function : ℕ) → o ≡ op.Call function → ⊥) → ((text count : ℕ) → o ≡ op.Print text count → ⊥)
    → HasFewIndices o → IsPlain o
is_plain (op.Elem object count) c p few = few
is_plain (op.Call function) c p few = c function refl
is_plain (op.Print text count) c p few = p text count refl
is_plain _ c p few = tt
