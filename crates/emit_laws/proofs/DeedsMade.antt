-- What the table says of a step by what it makes or does.
use Rattle.std.proofs.Common.{◌≡◌, inl, ℕ, List, [], ◌∷◌, Option, Some, None, Bool, true, false, ◌&&◌, slice_get, if◌then◌else◌, refl}
use Rattle.std.specs.Prelude.{ℤ, pos, negsuc, zero, suc, ◌==◌, ◌%◌, ◌/◌, Result, Ok, Err}
use Rattle.std.specs.Option.{option_map_or}
use Rattle.sc_base.specs.declared.operator.Unary.TheVariants.{Minus, Not}
use Rattle.sc_base.specs.declared.shape.Star.{Star}
use Rattle.sc_base.specs.declared.value.CopyMode.{CopyMode}
use Rattle.sc_base.specs.declared.value.FaultKind.{FaultKind}
use Rattle.sc_base.specs.declared.value.Place.{Place}
use Rattle.sc_base.specs.declared.value.Value.{Value}
use Rattle.sc_base.specs.declared.value.Value.TheVariants.{Int, Null, Ptr}
use Rattle.sc_layout.specs.Layout.{Arrangement}
use Rattle.sc_tree.specs.Names.{Text}
use Rattle.sc_isa.specs.Elements.{Outcome, gives, fails, wrong, ints}
use Rattle.sc_isa.specs.Pure.{is_pointer, elem, glob, to_global, to_proc, to_local, bin, un, step, same, truth, computed}
use Rattle.sc_isa.specs.Steps as steps
use Rattle.sc_isa.specs.Deeds.{Made, makes, faults, stuck, uses, sets, reads, writes, calls, Done, ends, sticks, clears, fills, gets, misses, puts, sends, copies, waits, Spotted, found, missing, nowhere, spotted, made_by, reading, writing, filling, getting, putting, printing, spanned, copied_from, copied, copying, done}
use Rattle.sc_core.specs.declared.operation.Operation.{Operation}
use Rattle.sc_core.specs.declared.operation.Operation.TheVariants as does
use Rattle.sc_core.specs.declared.operation.Action.{Action}
use Rattle.sc_core.specs.declared.operation.Action.TheVariants as acts
use Rattle.sc_core.specs.Table.{then_made, made_of, done_of}
use Rattle.flow_form.specs.Steps.{callee_of}
use Rattle.emit_laws.proofs.Parts.{In, named, touched}

-- ---- steps with a value

abbrev pub MadeBy : Operation → Made → Type 0
MadeBy o (makes v) = callee_of o ≡ None
MadeBy o (faults kind) = Unit {0}
MadeBy o stuck = Unit {0}
MadeBy o (uses x) = In x (named o) × (callee_of o ≡ None)
MadeBy o (sets x v) = In x (named o) × (callee_of o ≡ None)
MadeBy o (reads p) = o ≡ does.Read
MadeBy o (writes p v) = o ≡ does.Write
MadeBy o (calls f vs) = (n : ℕ) × (o ≡ does.Call f n)

of_outcome : (o : Operation) → callee_of o ≡ None → (outcome : Outcome) → MadeBy o (made_by outcome)
of_outcome o e (gives v) = e
of_outcome o e (fails kind) = tt
of_outcome o e wrong = tt

of_then : (o : Operation) → callee_of o ≡ None → (go : Value → Outcome) (outcome : Outcome) → MadeBy o (then_made outcome (λ v. made_by (go v)))
of_then o e go (gives v) = of_outcome o e (go v)
of_then o e go (fails kind) = tt
of_then o e go wrong = tt

of_read : (s : Spotted) → MadeBy does.Read (reading s)
of_read (found p) = refl
of_read (missing kind) = tt
of_read nowhere = tt

of_write : (s : Spotted) (v : Value) → MadeBy does.Write (writing s v)
of_write (found p) v = refl
of_write (missing kind) v = tt
of_write nowhere v = tt

of_back : (layout : Arrangement) (node : ℕ) (star : Star) (vs : List Value) → MadeBy (does.Back star) (made_of layout node (does.Back star) vs)
of_back layout node star [] = tt
of_back layout node star (a ∷ []) = tt
of_back layout node star (a ∷ b ∷ []) =
    of_then (does.Back star) refl (λ n. computed layout node (step star) (a ∷ n ∷ [])) (computed layout node (un Minus) (b ∷ []))
of_back layout node star (a ∷ b ∷ d ∷ vs) = tt

pub made_table : (layout : Arrangement) (node : ℕ) (o : Operation) (vs : List Value) → MadeBy o (made_of layout node o vs)
made_table layout node (does.Use x) [] = (inl refl, refl)
made_table layout node (does.Use x) (v ∷ vs) = tt
made_table layout node (does.Element o n plain) vs = of_outcome (does.Element o n plain) refl (computed layout node (elem o n) vs)
made_table layout node (does.Address o n) vs = of_outcome (does.Address o n) refl (computed layout node (elem o n) vs)
made_table layout node does.Own vs = of_outcome does.Own refl (computed layout node glob vs)
made_table layout node does.Convert vs = of_outcome does.Convert refl (computed layout node glob vs)
made_table layout node (does.Forward star) vs = of_outcome (does.Forward star) refl (computed layout node (step star) vs)
made_table layout node (does.Back star) vs = of_back layout node star vs
made_table layout node (does.Binary operator) vs = of_outcome (does.Binary operator) refl (computed layout node (bin operator) vs)
made_table layout node (does.Unary operator) vs = of_outcome (does.Unary operator) refl (computed layout node (un operator) vs)
made_table layout node does.Same vs = of_outcome does.Same refl (computed layout node same vs)
made_table layout node does.Differ vs = of_then does.Differ refl (λ v. computed layout node (un Not) (v ∷ [])) (computed layout node same vs)
made_table layout node does.IsNull vs = of_then does.IsNull refl (λ v. computed layout node (un Not) (v ∷ [])) (computed layout node truth vs)
made_table layout node does.ToGlobal vs = of_outcome does.ToGlobal refl (computed layout node to_global vs)
made_table layout node does.ToProc vs = of_outcome does.ToProc refl (computed layout node to_proc vs)
made_table layout node does.ToLocal vs = of_outcome does.ToLocal refl (computed layout node to_local vs)
made_table layout node (does.Set x) [] = tt
made_table layout node (does.Set x) (v ∷ []) = (inl refl, refl)
made_table layout node (does.Set x) (v ∷ u ∷ vs) = tt
made_table layout node (does.Call f n) vs = (n, refl)
made_table layout node does.Read [] = tt
made_table layout node does.Read (a ∷ []) = of_read (spotted layout a)
made_table layout node does.Read (a ∷ b ∷ vs) = tt
made_table layout node does.Write [] = tt
made_table layout node does.Write (a ∷ []) = tt
made_table layout node does.Write (a ∷ v ∷ []) = of_write (spotted layout a) v
made_table layout node does.Write (a ∷ v ∷ u ∷ vs) = tt

-- ---- steps without one

abbrev pub DoneBy : Action → Done → Type 0
DoneBy a (clears x v) = In x (touched a)
DoneBy a (fills x p) = a ≡ acts.Fill x
DoneBy a (gets x p) = In x (touched a)
DoneBy a (misses x kind) = In x (touched a)
DoneBy a (waits counter) = counter ≡ 0
DoneBy a (puts p v) = a ≡ acts.Put
DoneBy a (sends p v) = a ≡ acts.Send
DoneBy a (copies from to cells) = (mode : CopyMode) × (a ≡ acts.Copy mode)
DoneBy a _ = Unit {0}

of_fill : (x : ℕ) (s : Spotted) → DoneBy (acts.Fill x) (filling x s)
of_fill x (found p) = refl
of_fill x (missing kind) = tt
of_fill x nowhere = tt

of_get : (x : ℕ) (s : Spotted) → DoneBy (acts.Get x) (getting x s)
of_get x (found p) = inl refl
of_get x (missing kind) = inl refl
of_get x nowhere = tt

of_put : (s : Spotted) (v : Value) → DoneBy acts.Put (putting puts s v)
of_put (found p) v = refl
of_put (missing kind) v = tt
of_put nowhere v = tt

of_send : (s : Spotted) (v : Value) → DoneBy acts.Send (putting sends s v)
of_send (found p) v = refl
of_send (missing kind) v = tt
of_send nowhere v = tt

of_from : (mode : CopyMode) (to : Place) (cells : ℕ) (from : Result Place FaultKind) → DoneBy (acts.Copy mode) (copied_from to cells from)
of_from mode to cells (Ok from) = (mode, refl)
of_from mode to cells (Err kind) = tt

of_copied : (layout : Arrangement) (mode : CopyMode) (cells : ℕ) (to : Result Place FaultKind) (from : Value) → DoneBy (acts.Copy mode) (copied layout cells to from)
of_copied layout mode cells (Ok to) from = of_from mode to cells (spanned layout cells from)
of_copied layout mode cells (Err kind) from = tt

of_whole : (a : Action) (b : Bool) (d : Done) (kind : FaultKind) → DoneBy a d → DoneBy a (if b then d else ends kind)
of_whole a true d kind h = h
of_whole a false d kind h = tt

of_either : (a : Action) (b : Bool) (d : Done) → DoneBy a d → DoneBy a (if b then d else sticks)
of_either a true d h = h
of_either a false d h = tt

of_copying : (layout : Arrangement) (mode : CopyMode) (to from : Value) (bytes : ℤ) → DoneBy (acts.Copy mode) (copying layout to from bytes)
of_copying layout mode to from (pos zero) = tt
of_copying layout mode to from (pos (suc n)) =
    of_whole (acts.Copy mode) (suc n % 8 == 0) _ _ (of_copied layout mode (suc n / 8) (spanned layout (suc n / 8) to) from)
of_copying layout mode to from (negsuc n) = tt

of_print : (a : Action) (format : List ℕ) (values : Option (List ℤ)) → DoneBy a (printing format values)
of_print a format (Some values) = tt
of_print a format None = tt

of_text : (layout : Arrangement) (a : Action) (n : ℕ) (vs : List Value) (format : Option Text)
    → DoneBy a (option_map_or (λ format. done layout (steps.print format n) vs) format sticks)
of_text layout a n vs None = tt
of_text layout a n vs (Some format) = of_print a format (ints vs)

of_copy : (layout : Arrangement) (mode : CopyMode) (vs : List Value) → DoneBy (acts.Copy mode) (done layout steps.copy vs)
of_copy layout mode [] = tt
of_copy layout mode (to ∷ []) = tt
of_copy layout mode (to ∷ from ∷ []) = tt
of_copy layout mode (to ∷ from ∷ Int bytes ∷ []) = of_pointers (is_pointer layout to) (is_pointer layout from)
  where
    of_pointers : (b b' : Bool) → DoneBy (acts.Copy mode) (if b && b' then copying layout to from bytes else sticks)
    of_pointers b b' = of_either (acts.Copy mode) (b && b') (copying layout to from bytes) (of_copying layout mode to from bytes)
of_copy layout mode (to ∷ from ∷ Null ∷ []) = tt
of_copy layout mode (to ∷ from ∷ Ptr o p q ∷ []) = tt
of_copy layout mode (to ∷ from ∷ Int n ∷ v ∷ vs) = tt
of_copy layout mode (to ∷ from ∷ Null ∷ v ∷ vs) = tt
of_copy layout mode (to ∷ from ∷ Ptr o p q ∷ v ∷ vs) = tt

pub done_table : (layout : Arrangement) (texts : List Text) (a : Action) (vs : List Value) → DoneBy a (done_of layout texts a vs)
done_table layout texts acts.Drop [] = tt
done_table layout texts acts.Drop (v ∷ []) = tt
done_table layout texts acts.Drop (v ∷ u ∷ vs) = tt
done_table layout texts (acts.Begin x) [] = tt
done_table layout texts (acts.Begin x) (v ∷ []) = inl refl
done_table layout texts (acts.Begin x) (v ∷ u ∷ vs) = tt
done_table layout texts (acts.Clear x pointer) [] = inl refl
done_table layout texts (acts.Clear x pointer) (v ∷ vs) = tt
done_table layout texts (acts.Fill x) [] = tt
done_table layout texts (acts.Fill x) (a ∷ []) = of_fill x (spotted layout a)
done_table layout texts (acts.Fill x) (a ∷ b ∷ vs) = tt
done_table layout texts (acts.Get x) [] = tt
done_table layout texts (acts.Get x) (a ∷ []) = of_get x (spotted layout a)
done_table layout texts (acts.Get x) (a ∷ b ∷ vs) = tt
done_table layout texts acts.Put [] = tt
done_table layout texts acts.Put (a ∷ []) = tt
done_table layout texts acts.Put (a ∷ v ∷ []) = of_put (spotted layout a) v
done_table layout texts acts.Put (a ∷ v ∷ u ∷ vs) = tt
done_table layout texts acts.Send [] = tt
done_table layout texts acts.Send (a ∷ []) = tt
done_table layout texts acts.Send (a ∷ v ∷ []) = of_send (spotted layout a) v
done_table layout texts acts.Send (a ∷ v ∷ u ∷ vs) = tt
done_table layout texts (acts.Copy mode) vs = of_copy layout mode vs
done_table layout texts (acts.Print text n) vs = of_text layout (acts.Print text n) n vs (slice_get texts text)
done_table layout texts acts.Sync [] = refl
done_table layout texts acts.Sync (v ∷ vs) = tt
done_table layout texts acts.Barrier [] = tt
done_table layout texts acts.Barrier (v ∷ vs) = tt
done_table layout texts acts.AllStoreSync [] = tt
done_table layout texts acts.AllStoreSync (v ∷ vs) = tt
