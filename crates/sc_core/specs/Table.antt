-- The table of steps: for each its run of instructions, and what it does with values, which is what its instructions
-- do.
use Rattle.std.specs.Prelude.{ℕ, Bool, true, false, List, [], ◌∷◌, slice_get}
use Rattle.std.specs.Option.{option_map_or}
use Rattle.sc_base.specs.declared.operator.Unary.TheVariants.{Minus, Not}
use Rattle.sc_base.specs.declared.shape.Star.{Star}
use Rattle.sc_base.specs.declared.value.Value.{Value}
use Rattle.sc_layout.specs.Layout.{Arrangement}
use Rattle.sc_isa.specs.declared.op.Op.{Op}
use Rattle.sc_isa.specs.declared.op.Op.TheVariants as op
use Rattle.sc_isa.specs.Elements.{Outcome, gives, fails, wrong}
use Rattle.sc_isa.specs.Pure.{Pure, push, null, mine, procs, elem, step, glob, to_local, to_proc, to_global, bin, un, same, truth, computed}
use Rattle.sc_isa.specs.Steps.{Gain, pure, load, set, read, write, call}
use Rattle.sc_isa.specs.Steps as steps
use Rattle.sc_isa.specs.Deeds.{Made, faults, stuck, made, made_by, Done, sticks, clears, done}
use Rattle.sc_tree.specs.Names.{Text}
use Rattle.sc_core.specs.declared.operation.Constant.{Constant}
use Rattle.sc_core.specs.declared.operation.Constant.TheVariants as constants
use Rattle.sc_core.specs.declared.operation.Operation.{Operation}
use Rattle.sc_core.specs.declared.operation.Operation.TheVariants.{Use, Element, Address, Own, Convert, Forward, Back, Binary, Unary, Same, Differ, IsNull, ToGlobal, ToProc, ToLocal, Set, Call, Read, Write}
use Rattle.sc_core.specs.declared.operation.Action.{Action}
use Rattle.sc_core.specs.declared.operation.Action.TheVariants.{Drop, Begin, Clear, Fill, Get, Put, Send, Copy, Print, Sync, Barrier, AllStoreSync}

-- ---- what a step with a value does

-- its run: one instruction; one, and whether what it gives is 0; or a pointer step by the number negated
pub data Run : Type 0 where
  one : Gain → Run
  then_not : Pure → Run
  back : Star → Run

abbrev pub run_of : Operation → Run
run_of (Use x) = one (load x)
run_of (Element o n plain) = one (pure (elem o n))
run_of (Address o n) = one (pure (elem o n))
run_of Own = one (pure glob)
run_of Convert = one (pure glob)
run_of (Forward star) = one (pure (step star))
run_of (Back star) = back star
run_of (Binary operator) = one (pure (bin operator))
run_of (Unary operator) = one (pure (un operator))
run_of Same = one (pure same)
run_of Differ = then_not same
run_of IsNull = then_not truth
run_of ToGlobal = one (pure to_global)
run_of ToProc = one (pure to_proc)
run_of ToLocal = one (pure to_local)
run_of (Set x) = one (set x)
run_of (Call f n) = one (call f n)
run_of Read = one read
run_of Write = one write

abbrev pub then_made : Outcome → (Value → Made) → Made
then_made (gives value) go = go value
then_made (fails kind) go = faults kind
then_made wrong go = stuck

abbrev pub run_made : Arrangement → (node : ℕ) → Run → List Value → Made
run_made layout node (one gain) values = made layout node gain values
run_made layout node (then_not op) values =
    then_made (computed layout node op values) (λ v. made_by (computed layout node (un Not) (v ∷ [])))
run_made layout node (back star) (pointer ∷ by ∷ []) =
    then_made (computed layout node (un Minus) (by ∷ []))
    (λ n. made_by (computed layout node (step star) (pointer ∷ n ∷ [])))
run_made layout node (back star) values = stuck

-- what the step does with the values of its arguments
abbrev pub made_of : Arrangement → (node : ℕ) → Operation → List Value → Made
made_of layout node operation values = run_made layout node (run_of operation) values

-- ---- what a step without a value does

-- with the text of this number, if there is one
abbrev pub with_text : List Text → ℕ → (List ℕ → Done) → Done
with_text texts text go = option_map_or go (slice_get texts text) sticks

-- what the action does with the values of its arguments
abbrev pub done_of : Arrangement → List Text → Action → List Value → Done
done_of layout texts Drop vs = done layout steps.drop vs
done_of layout texts (Begin x) (v ∷ []) = clears x v
done_of layout texts (Begin x) vs = sticks
done_of layout texts (Clear x pointer) vs = done layout (steps.clear x pointer) vs
done_of layout texts (Fill x) vs = done layout (steps.fill x) vs
done_of layout texts (Get x) vs = done layout (steps.get x) vs
done_of layout texts Put vs = done layout steps.put vs
done_of layout texts Send vs = done layout steps.send vs
done_of layout texts (Copy mode) vs = done layout steps.copy vs
done_of layout texts (Print text n) vs = with_text texts text (λ format. done layout (steps.print format n) vs)
done_of layout texts Sync vs = done layout (steps.wait 0) vs
done_of layout texts Barrier vs = done layout (steps.barrier false) vs
done_of layout texts AllStoreSync vs = done layout (steps.barrier true) vs

-- ---- constants

-- the instruction that gives the constant
abbrev pub pure_of : Constant → Pure
pure_of (constants.Number n) = push n
pure_of constants.Null = null
pure_of constants.Mine = mine
pure_of constants.Procs = procs

-- ---- the instructions of a step, at the access site of this number, whose write is sent one-way or not

abbrev pub write_op : (one_way : Bool) → (site : ℕ) → Op
write_op true site = op.Store site
write_op false site = op.Write site

abbrev pub ops_of : (one_way : Bool) → (site : ℕ) → Operation → List Op
ops_of w site (Use x) = op.Load x ∷ []
ops_of w site (Element o n plain) = op.Elem o n ∷ []
ops_of w site (Address o n) = op.Elem o n ∷ []
ops_of w site Own = op.Glob ∷ []
ops_of w site Convert = op.Glob ∷ []
ops_of w site (Forward star) = op.Step star ∷ []
ops_of w site (Back star) = op.Un Minus ∷ op.Step star ∷ []
ops_of w site (Binary operator) = op.Bin operator ∷ []
ops_of w site (Unary operator) = op.Un operator ∷ []
ops_of w site Same = op.Same ∷ []
ops_of w site Differ = op.Same ∷ op.Un Not ∷ []
ops_of w site IsNull = op.Truth ∷ op.Un Not ∷ []
ops_of w site ToGlobal = op.ToGlobal ∷ []
ops_of w site ToProc = op.ToProc ∷ []
ops_of w site ToLocal = op.ToLocal ∷ []
ops_of w site (Set x) = op.Set x ∷ []
ops_of w site (Call f n) = op.Call f ∷ []
ops_of w site Read = op.Read site ∷ []
ops_of w site Write = write_op w site ∷ []

abbrev pub ops_of_action : (site : ℕ) → Action → List Op
ops_of_action site Drop = op.Drop ∷ []
ops_of_action site (Begin x) = op.Set x ∷ op.Drop ∷ []
ops_of_action site (Clear x pointer) = op.Clear x pointer ∷ []
ops_of_action site (Fill x) = op.Fill site x ∷ []
ops_of_action site (Get x) = op.Get site x ∷ []
ops_of_action site Put = op.Put site ∷ []
ops_of_action site Send = op.Send site ∷ []
ops_of_action site (Copy mode) = op.Copy site mode ∷ []
ops_of_action site (Print text n) = op.Print text n ∷ []
ops_of_action site Sync = op.Wait 0 ∷ []
ops_of_action site Barrier = op.Barrier ∷ []
ops_of_action site AllStoreSync = op.AllSync ∷ []
