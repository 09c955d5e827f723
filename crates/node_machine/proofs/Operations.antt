-- Operations on one value and on two.
use Rattle.std.proofs.Common.{◌≡◌, ℕ, [], ◌∷◌, refl}
use Rattle.sc_base.specs.declared.value.Value.{Value}
use Rattle.sc_layout.specs.Layout.{Arrangement}
use Rattle.sc_isa.specs.declared.op.Op.{Op}
use Rattle.sc_isa.specs.declared.op.Op.TheVariants as op
use Rattle.sc_isa.specs.Pure.{computed, on_one, on_two}
use Rattle.node_values.specs.Plain.{one_of, two_of}

pub computed_one : (layout : Arrangement) (node : ℕ) (o : Op) (a : Value)
    → computed layout node (one_of o) (a ∷ []) ≡ on_one layout node (one_of o) a
computed_one layout node op.Glob a = refl
computed_one layout node op.ToLocal a = refl
computed_one layout node op.ToProc a = refl
computed_one layout node (op.Un operator) a = refl
computed_one layout node op.Truth a = refl
computed_one layout node _ a = refl

pub computed_two : (layout : Arrangement) (node : ℕ) (o : Op) (a b : Value)
    → computed layout node (two_of o) (a ∷ b ∷ []) ≡ on_two layout (two_of o) a b
computed_two layout node (op.Step star) a b = refl
computed_two layout node op.ToGlobal a b = refl
computed_two layout node op.Same a b = refl
computed_two layout node _ a b = refl
