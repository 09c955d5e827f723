-- Which step reads, writes, calls, or asks for the others.
use Rattle.std.proofs.Common.{◌≡◌, ℕ, zero, suc, ℤ, pos, negsuc, List, [], ◌∷◌, Option, Some, None, Result, Ok, Err, Bool, true, false, ◌&&◌, if◌then◌else◌, ◌==◌, refl}
use Rattle.std.specs.Prelude.{◌/◌, ◌%◌, slice_get}
use Rattle.std.specs.Option.{option_map_or}
use Rattle.sc_base.specs.declared.operator.Unary.TheVariants.{Minus, Not}
use Rattle.sc_base.specs.declared.value.CopyMode.{CopyMode}
use Rattle.sc_base.specs.declared.value.FaultKind.{FaultKind}
use Rattle.sc_base.specs.declared.value.FaultKind.TheVariants.{BadSize}
use Rattle.sc_base.specs.declared.value.Place.{Place}
use Rattle.sc_base.specs.declared.value.Value.{Value}
use Rattle.sc_base.specs.declared.value.Value.TheVariants.{Int, Null, Ptr}
use Rattle.sc_layout.specs.Layout.{Arrangement}
use Rattle.sc_tree.specs.Names.{Text}
use Rattle.sc_isa.specs.Elements.{Outcome, gives, fails, wrong}
use Rattle.sc_isa.specs.Pure.{elem, step, glob, to_local, to_proc, to_global, bin, un, same, truth, is_pointer, ints, computed}
use Rattle.sc_isa.specs.Steps as steps
use Rattle.sc_isa.specs.Deeds.{Made, makes, faults, stuck, uses, sets, reads, writes, calls, Done, lets_go, ends, sticks, clears, prints, fills, gets, misses, puts, sends, copies, waits, meets, Spotted, found, missing, nowhere, spotted, spanned, made_by, reading, writing, printing, filling, getting, putting, copied_from, copied, copying, done}
use Rattle.sc_core.specs.declared.operation.Operation.{Operation}
use Rattle.sc_core.specs.declared.operation.Operation.TheVariants as op
use Rattle.sc_core.specs.declared.operation.Action.{Action}
use Rattle.sc_core.specs.declared.operation.Action.TheVariants as acts
use Rattle.sc_core.specs.Table.{then_made, made_of, done_of}
use Rattle.flow_form.specs.Steps.{callee_of}

-- ---- steps with a value

abbrev pub IsOf : Operation → Made → Type 0
IsOf operation (makes v) = callee_of operation ≡ None
IsOf operation (faults kind) = Unit {0}
IsOf operation stuck = Unit {0}
IsOf operation (uses x) = callee_of operation ≡ None
IsOf operation (sets x v) = callee_of operation ≡ None
IsOf operation (reads place) = operation ≡ op.Read
IsOf operation (writes place v) = operation ≡ op.Write
IsOf operation (calls f vs) = callee_of operation ≡ Some f

by_outcome : (operation : Operation) → callee_of operation ≡ None → (o : Outcome) → IsOf operation (made_by o)
by_outcome operation e (gives v) = e
by_outcome operation e (fails kind) = tt
by_outcome operation e wrong = tt

then_of : (operation : Operation) (o : Outcome) (go : Value → Made) → ((v : Value) → IsOf operation (go v)) → IsOf operation (then_made o go)
then_of operation (gives v) go h = h v
then_of operation (fails kind) go h = tt
then_of operation wrong go h = tt

reading_of : (s : Spotted) → IsOf op.Read (reading s)
reading_of (found place) = refl
reading_of (missing kind) = tt
reading_of nowhere = tt

writing_of : (s : Spotted) (v : Value) → IsOf op.Write (writing s v)
writing_of (found place) v = refl
writing_of (missing kind) v = tt
writing_of nowhere v = tt

module _ (layout : Arrangement) (node : ℕ) where
  pub made_is : (operation : Operation) (vs : List Value) → IsOf operation (made_of layout node operation vs)
  made_is (op.Use x) [] = refl
  made_is (op.Use x) (v ∷ vs) = tt
  made_is (op.Element o n literal) vs = by_outcome (op.Element o n literal) refl (computed layout node (elem o n) vs)
  made_is (op.Address o n) vs = by_outcome (op.Address o n) refl (computed layout node (elem o n) vs)
  made_is op.Own vs = by_outcome op.Own refl (computed layout node glob vs)
  made_is op.Convert vs = by_outcome op.Convert refl (computed layout node glob vs)
  made_is (op.Forward star) vs = by_outcome (op.Forward star) refl (computed layout node (step star) vs)
  made_is (op.Back star) [] = tt
  made_is (op.Back star) (p ∷ []) = tt
  made_is (op.Back star) (p ∷ by ∷ []) =
      then_of (op.Back star) (computed layout node (un Minus) (by ∷ [])) _
      (λ n. by_outcome (op.Back star) refl (computed layout node (step star) (p ∷ n ∷ [])))
  made_is (op.Back star) (p ∷ by ∷ more ∷ vs) = tt
  made_is (op.Binary operator) vs = by_outcome (op.Binary operator) refl (computed layout node (bin operator) vs)
  made_is (op.Unary operator) vs = by_outcome (op.Unary operator) refl (computed layout node (un operator) vs)
  made_is op.Same vs = by_outcome op.Same refl (computed layout node same vs)
  made_is op.Differ vs =
      then_of op.Differ (computed layout node same vs) _ (λ v. by_outcome op.Differ refl (computed layout node (un Not) (v ∷ [])))
  made_is op.IsNull vs =
      then_of op.IsNull (computed layout node truth vs) _ (λ v. by_outcome op.IsNull refl (computed layout node (un Not) (v ∷ [])))
  made_is op.ToGlobal vs = by_outcome op.ToGlobal refl (computed layout node to_global vs)
  made_is op.ToProc vs = by_outcome op.ToProc refl (computed layout node to_proc vs)
  made_is op.ToLocal vs = by_outcome op.ToLocal refl (computed layout node to_local vs)
  made_is (op.Set x) [] = tt
  made_is (op.Set x) (v ∷ []) = refl
  made_is (op.Set x) (v ∷ w ∷ vs) = tt
  made_is (op.Call f n) vs = refl
  made_is op.Read [] = tt
  made_is op.Read (p ∷ []) = reading_of (spotted layout p)
  made_is op.Read (p ∷ v ∷ vs) = tt
  made_is op.Write [] = tt
  made_is op.Write (p ∷ []) = tt
  made_is op.Write (p ∷ v ∷ []) = writing_of (spotted layout p) v
  made_is op.Write (p ∷ v ∷ w ∷ vs) = tt

-- ---- steps without one

abbrev barrier_of : Bool → Action
barrier_of true = acts.AllStoreSync
barrier_of false = acts.Barrier

abbrev pub IsOfAction : Action → Done → Type 0
IsOfAction action lets_go = Unit {0}
IsOfAction action (ends kind) = Unit {0}
IsOfAction action sticks = Unit {0}
IsOfAction action (clears x v) = Unit {0}
IsOfAction action (prints text) = Unit {0}
IsOfAction action (fills x place) = action ≡ acts.Fill x
IsOfAction action (gets x place) = action ≡ acts.Get x
IsOfAction action (misses x kind) = Unit {0}
IsOfAction action (puts place v) = action ≡ acts.Put
IsOfAction action (sends place v) = action ≡ acts.Send
IsOfAction action (copies from to cells) = (mode : CopyMode) × (action ≡ acts.Copy mode)
IsOfAction action (waits counter) = action ≡ acts.Sync
IsOfAction action (meets stores) = action ≡ barrier_of stores

printing_of : (action : Action) (format : List ℕ) (o : Option (List ℤ)) → IsOfAction action (printing format o)
printing_of action format (Some ns) = tt
printing_of action format None = tt

filling_of : (x : ℕ) (s : Spotted) → IsOfAction (acts.Fill x) (filling x s)
filling_of x (found place) = refl
filling_of x (missing kind) = tt
filling_of x nowhere = tt

getting_of : (x : ℕ) (s : Spotted) → IsOfAction (acts.Get x) (getting x s)
getting_of x (found place) = refl
getting_of x (missing kind) = tt
getting_of x nowhere = tt

putting_of : (s : Spotted) (v : Value) → IsOfAction acts.Put (putting puts s v)
putting_of (found place) v = refl
putting_of (missing kind) v = tt
putting_of nowhere v = tt

sending_of : (s : Spotted) (v : Value) → IsOfAction acts.Send (putting sends s v)
sending_of (found place) v = refl
sending_of (missing kind) v = tt
sending_of nowhere v = tt

module _ (mode : CopyMode) where
  from_of : (to : Place) (cells : ℕ) (r : Result Place FaultKind) → IsOfAction (acts.Copy mode) (copied_from to cells r)
  from_of to cells (Ok from) = (mode, refl)
  from_of to cells (Err kind) = tt

  copied_of : (layout : Arrangement) (cells : ℕ) (r : Result Place FaultKind) (from : Value) → IsOfAction (acts.Copy mode) (copied layout cells r from)
  copied_of layout cells (Ok to) from = from_of to cells (spanned layout cells from)
  copied_of layout cells (Err kind) from = tt

  if_of : (b : Bool) (x y : Done) → IsOfAction (acts.Copy mode) x → IsOfAction (acts.Copy mode) y
      → IsOfAction (acts.Copy mode) (if b then x else y)
  if_of true x y h k = h
  if_of false x y h k = k

  copying_of : (layout : Arrangement) (to from : Value) (bytes : ℤ) → IsOfAction (acts.Copy mode) (copying layout to from bytes)
  copying_of layout to from (pos zero) = tt
  copying_of layout to from (pos (suc n)) =
      if_of (suc n % 8 == 0) _ (ends BadSize) (copied_of layout (suc n / 8) (spanned layout (suc n / 8) to) from) tt
  copying_of layout to from (negsuc n) = tt

text_of : (action : Action) (layout : Arrangement) (n : ℕ) (vs : List Value) (o : Option Text)
    → IsOfAction action (option_map_or (λ format. done layout (steps.print format n) vs) o sticks)
text_of action layout n vs (Some format) = printing_of action format (ints vs)
text_of action layout n vs None = tt

module _ (layout : Arrangement) (texts : List Text) where
  pub done_is : (action : Action) (vs : List Value) → IsOfAction action (done_of layout texts action vs)
  done_is acts.Drop [] = tt
  done_is acts.Drop (v ∷ []) = tt
  done_is acts.Drop (v ∷ w ∷ vs) = tt
  done_is (acts.Begin x) [] = tt
  done_is (acts.Begin x) (v ∷ []) = tt
  done_is (acts.Begin x) (v ∷ w ∷ vs) = tt
  done_is (acts.Clear x pointer) [] = tt
  done_is (acts.Clear x pointer) (v ∷ vs) = tt
  done_is (acts.Fill x) [] = tt
  done_is (acts.Fill x) (p ∷ []) = filling_of x (spotted layout p)
  done_is (acts.Fill x) (p ∷ v ∷ vs) = tt
  done_is (acts.Get x) [] = tt
  done_is (acts.Get x) (p ∷ []) = getting_of x (spotted layout p)
  done_is (acts.Get x) (p ∷ v ∷ vs) = tt
  done_is acts.Put [] = tt
  done_is acts.Put (p ∷ []) = tt
  done_is acts.Put (p ∷ v ∷ []) = putting_of (spotted layout p) v
  done_is acts.Put (p ∷ v ∷ w ∷ vs) = tt
  done_is acts.Send [] = tt
  done_is acts.Send (p ∷ []) = tt
  done_is acts.Send (p ∷ v ∷ []) = sending_of (spotted layout p) v
  done_is acts.Send (p ∷ v ∷ w ∷ vs) = tt
  done_is (acts.Copy mode) (to ∷ from ∷ Int bytes ∷ []) =
      if_of mode (is_pointer layout to && is_pointer layout from) _ sticks (copying_of mode layout to from bytes) tt
  done_is (acts.Copy mode) [] = tt
  done_is (acts.Copy mode) (a ∷ []) = tt
  done_is (acts.Copy mode) (a ∷ b ∷ []) = tt
  done_is (acts.Copy mode) (a ∷ b ∷ Null ∷ []) = tt
  done_is (acts.Copy mode) (a ∷ b ∷ Ptr object node offset ∷ []) = tt
  done_is (acts.Copy mode) (a ∷ b ∷ Int bytes ∷ d ∷ vs) = tt
  done_is (acts.Copy mode) (a ∷ b ∷ Null ∷ d ∷ vs) = tt
  done_is (acts.Copy mode) (a ∷ b ∷ Ptr object node offset ∷ d ∷ vs) = tt
  done_is (acts.Print text n) vs = text_of (acts.Print text n) layout n vs (slice_get texts text)
  done_is acts.Sync [] = refl
  done_is acts.Sync (v ∷ vs) = tt
  done_is acts.Barrier [] = refl
  done_is acts.Barrier (v ∷ vs) = tt
  done_is acts.AllStoreSync [] = refl
  done_is acts.AllStoreSync (v ∷ vs) = tt
