-- Locals plus or minus a number, by the parts of the outermost step.
use Rattle.std.specs.Prelude.{ℕ, ℤ, pos, neg_ℤ, Option, Some, None, if◌then◌else◌}
use Rattle.sc_base.specs.declared.operator.Binary.TheVariants.{Add, Sub, Rem}
use Rattle.sc_core.specs.declared.operation.Constant.TheVariants.{Number}
use Rattle.sc_core.specs.declared.operation.Operation.{Operation}
use Rattle.sc_core.specs.declared.operation.Operation.TheVariants as does
use Rattle.sc_core.specs.Core.{Core, constant, step, Arguments, none}
use Rattle.flow_form.specs.Forms.{or_else}
use Rattle.index_form.specs.declared.offset.Kind.{Kind}
use Rattle.index_form.specs.declared.offset.Kind.TheVariants.{Local, Sum, Difference, Remainder, Own, Element, Other}
use Rattle.index_form.specs.declared.offset.Offset.{Offset}
use Rattle.index_form.specs.Outermost.{Stepped, Sides, step_in, two_in, has_none}

unfoldable pub kind : Operation → Kind
kind (does.Use x) = Local x
kind (does.Binary Add) = Sum
kind (does.Binary Sub) = Difference
kind (does.Binary Rem) = Remainder
kind does.Own = Own
kind (does.Element o n plain) = Element o plain
kind _ = Other

unfoldable pub number_in : Core → Option ℤ
number_in (constant (Number n)) = Some n
number_in _ = None

unfoldable pub local_in : Core → Option ℕ
local_in (step (does.Use x) none line) = Some x
local_in _ = None

unfoldable pub local_by : Kind → Arguments → Option ℕ
local_by (Local x) arguments = if has_none arguments then Some x else None
local_by _ arguments = None

unfoldable pub bare_local_in : Stepped → Option ℕ
bare_local_in s = local_by (kind s.operation) s.arguments

unfoldable pub moved : Option ℕ → Option ℤ → Option Offset
moved (Some x) (Some n) = Some (record { local = x; plus = n })
moved _ _ = None

unfoldable pub moved_back : Option ℕ → Option ℤ → Option Offset
moved_back (Some x) (Some n) = Some (record { local = x; plus = neg_ℤ n })
moved_back _ _ = None

unfoldable pub sum_offset : Sides → Option Offset
sum_offset s = or_else (moved (local_in s.left) (number_in s.right)) (moved (local_in s.right) (number_in s.left))

unfoldable pub difference_offset : Sides → Option Offset
difference_offset s = moved_back (local_in s.left) (number_in s.right)

unfoldable pub two_offset : (Sides → Option Offset) → Option Sides → Option Offset
two_offset f None = None
two_offset f (Some s) = f s

unfoldable pub offset_by : Kind → Arguments → Option Offset
offset_by (Local x) arguments = if has_none arguments then Some (record { local = x; plus = pos 0 }) else None
offset_by Sum arguments = two_offset sum_offset (two_in arguments)
offset_by Difference arguments = two_offset difference_offset (two_in arguments)
offset_by _ arguments = None

unfoldable pub step_offset : Stepped → Option Offset
step_offset s = offset_by (kind s.operation) s.arguments

unfoldable pub offset_at : Option Stepped → Option Offset
offset_at None = None
offset_at (Some s) = step_offset s

unfoldable pub offset_in : Core → Option Offset
offset_in e = offset_at (step_in e)
