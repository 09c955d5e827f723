-- What the table of steps can do: no step but a call calls, and none is the fault of too many frames.
use Rattle.std.proofs.Common.{◌≡◌, ℕ, zero, suc, ℤ, pos, negsuc, List, [], ◌∷◌, Option, Some, None, Result, Ok, Err, Bool, true, false, ◌&&◌, if◌then◌else◌, ◌==◌}
use Rattle.std.specs.Prelude.{◌^◌, ◌+◌, ◌*◌, ◌/◌, ◌%◌, ◌+ℤ◌, ◌-ℤ◌, ◌*ℤ◌, int_div, int_rem, nat_lt, nat_le, int_lt, int_le, neg_ℤ, slice_get}
use Rattle.std.specs.Option.{option_map_or}
use Rattle.sc_base.specs.Arithmetic.{within_int, divided, shifted, floor_div, binary_of, unary_of}
use Rattle.sc_base.specs.declared.operator.Binary.{Binary}
use Rattle.sc_base.specs.declared.operator.Binary.TheVariants as binary
use Rattle.sc_base.specs.declared.operator.Unary.{Unary}
use Rattle.sc_base.specs.declared.operator.Unary.TheVariants.{Minus, Not, Invert}
use Rattle.sc_base.specs.declared.shape.Star.{Star}
use Rattle.sc_base.specs.declared.shape.Star.TheVariants.{Local, Global, Spread}
use Rattle.sc_base.specs.declared.value.FaultKind.{FaultKind}
use Rattle.sc_base.specs.declared.value.FaultKind.TheVariants as fault
use Rattle.sc_base.specs.declared.value.Place.{Place}
use Rattle.sc_base.specs.declared.value.Value.{Value}
use Rattle.sc_base.specs.declared.value.Value.TheVariants.{Int, Null, Ptr}
use Rattle.sc_base.specs.declared.limits.TheConstants.{LIMITS}
use Rattle.sc_layout.specs.Layout.{LaidObject, Arrangement}
use Rattle.sc_layout.specs.Place.{extent_of, place_of}
use Rattle.sc_layout.specs.Pointer.{used_place, pointer_at, at_offset, at_round, with_node, global_of, node_of}
use Rattle.sc_tree.specs.Names.{Text}
use Rattle.sc_isa.specs.Elements.{Outcome, gives, fails, wrong, Flat, within, outside, amiss, flat_index, ints, pointer_to, pointer_at_flat, element}
use Rattle.sc_isa.specs.Pure.{Pure, elem, step, glob, to_local, to_proc, to_global, bin, un, same, truth, is_pointer, value_or_fault, int_or_fault, stepped, computed}
use Rattle.sc_isa.specs.Steps as steps
use Rattle.sc_isa.specs.Deeds.{Made, faults, calls, Done, ends, sticks, misses, puts, sends, Spotted, found, missing, nowhere, place_or_fault, spotted, spanned, made_by, reading, writing, printing, filling, getting, putting, copied_from, copied, copying, done}
use Rattle.sc_core.specs.declared.operation.Operation.{Operation}
use Rattle.sc_core.specs.declared.operation.Operation.TheVariants as op
use Rattle.sc_core.specs.declared.operation.Action.{Action}
use Rattle.sc_core.specs.declared.operation.Action.TheVariants as acts
use Rattle.sc_core.specs.Table.{then_made, made_of, done_of}
use Rattle.meaning_laws.specs.Marks.{plain, mark_of}

abbrev pub NotDeep : FaultKind → Type 0
NotDeep fault.Depth = ⊥
NotDeep _ = Unit {0}

-- ---- results and outcomes

abbrev Shallow : {A : Type 0} → Result A FaultKind → Type 0
Shallow (Ok x) = Unit {0}
Shallow (Err kind) = NotDeep kind

either : {A : Type 0} → (b : Bool) (x y : Result A FaultKind) → Shallow x → Shallow y → Shallow (if b then x else y)
either true x y h k = h
either false x y h k = k

within_is : (z : ℤ) → Shallow (within_int z)
within_is z = either (int_le (neg_ℤ (pos (2 ^ 63))) z && int_lt z (pos (2 ^ 63))) (Ok z) (Err fault.Overflow) tt tt

divided_is : (f : ℤ → ℤ → ℤ) (a b : ℤ) → Shallow (divided f a b)
divided_is f a (pos zero) = tt
divided_is f a (pos (suc n)) = within_is (f a (pos (suc n)))
divided_is f a (negsuc n) = within_is (f a (negsuc n))

shifted_is : (f : ℕ → ℤ) (b : ℤ) → Shallow (shifted f b)
shifted_is f (pos count) = either (nat_lt count 64) (within_int (f count)) (Err fault.Shift) (within_is (f count)) tt
shifted_is f (negsuc count) = tt

binary_is : (operator : Binary) (a b : ℤ) → Shallow (binary_of operator a b)
binary_is binary.Add a b = within_is (a +ℤ b)
binary_is binary.Sub a b = within_is (a -ℤ b)
binary_is binary.Mul a b = within_is (a *ℤ b)
binary_is binary.Div a b = divided_is int_div a b
binary_is binary.Rem a b = divided_is int_rem a b
binary_is binary.Shl a b = shifted_is (λ count. a *ℤ pos (2 ^ count)) b
binary_is binary.Shr a b = shifted_is (λ count. floor_div a (2 ^ count)) b
binary_is binary.And a b = tt
binary_is binary.Or a b = tt
binary_is binary.Xor a b = tt
binary_is binary.Eq a b = tt
binary_is binary.Ne a b = tt
binary_is binary.Lt a b = tt
binary_is binary.Le a b = tt
binary_is binary.Gt a b = tt
binary_is binary.Ge a b = tt

unary_is : (operator : Unary) (a : ℤ) → Shallow (unary_of operator a)
unary_is Minus a = within_is (neg_ℤ a)
unary_is Not a = tt
unary_is Invert a = tt

pointer_is : (object node offset : ℕ) → Shallow (pointer_at object node offset)
pointer_is object node offset = either (nat_le offset LIMITS.cells) (Ok (Ptr object node offset)) (Err fault.Index) tt tt

offset_is : (object node : ℕ) (z : ℤ) → Shallow (at_offset object node z)
offset_is object node (pos offset) = pointer_is object node offset
offset_is object node (negsuc n) = tt

round_is : (nodes object : ℕ) (z : ℤ) → Shallow (at_round nodes object z)
round_is nodes object (pos q) = pointer_is object (q % nodes) (q / nodes)
round_is nodes object (negsuc n) = tt

stepped_is : (nodes : ℕ) (star : Star) (pointer : Value) (by : ℤ) → Shallow (stepped nodes star pointer by)
stepped_is nodes Local (Ptr object node offset) by = offset_is object node (pos offset +ℤ by)
stepped_is nodes Global (Ptr object node offset) by = offset_is object node (pos offset +ℤ by)
stepped_is nodes Spread (Ptr object node offset) by = round_is nodes object (pos (offset * nodes + node) +ℤ by)
stepped_is nodes Local (Int n) by = tt
stepped_is nodes Local Null by = tt
stepped_is nodes Global (Int n) by = tt
stepped_is nodes Global Null by = tt
stepped_is nodes Spread (Int n) by = tt
stepped_is nodes Spread Null by = tt

global_is : (nodes : ℕ) (node : ℤ) (pointer : Value) → Shallow (global_of nodes node pointer)
global_is nodes (pos node) pointer = either (nat_lt node nodes) (Ok (with_node node pointer)) (Err fault.BadNode) tt tt
global_is nodes (negsuc n) pointer = tt

node_is : (pointer : Value) → Shallow (node_of pointer)
node_is (Ptr object node offset) = tt
node_is (Int n) = tt
node_is Null = tt

abbrev Tame : Outcome → Type 0
Tame (gives v) = Unit {0}
Tame (fails kind) = NotDeep kind
Tame wrong = Unit {0}

value_tame : (r : Result Value FaultKind) → Shallow r → Tame (value_or_fault r)
value_tame (Ok v) h = tt
value_tame (Err kind) h = h

int_tame : (r : Result ℤ FaultKind) → Shallow r → Tame (int_or_fault r)
int_tame (Ok n) h = tt
int_tame (Err kind) h = h

if_pointer : (b : Bool) (o : Outcome) → Tame o → Tame (if b then o else wrong)
if_pointer true o h = h
if_pointer false o h = tt

at_place : (o : Option Place) → Tame (pointer_to o)
at_place (Some place) = tt
at_place None = tt

at_flat : (layout : Arrangement) (object : ℕ) (flat : Flat) → Tame (pointer_at_flat layout object flat)
at_flat layout object (within n) = at_place (place_of layout 0 object n)
at_flat layout object outside = tt
at_flat layout object amiss = tt

element_tame : (layout : Arrangement) (object : ℕ) (laid : Option LaidObject) (indices : Option (List ℤ))
    → Tame (element layout object laid indices)
element_tame layout object (Some laid) (Some indices) = at_flat layout object (flat_index laid.bounds indices 0)
element_tame layout object (Some laid) None = tt
element_tame layout object None (Some indices) = tt
element_tame layout object None None = tt

module _ (layout : Arrangement) (node : ℕ) where
  computed_tame : (operation : Pure) (vs : List Value) → Tame (computed layout node operation vs)
  computed_tame (elem object count) vs = element_tame layout object (slice_get layout.objects object) (ints vs)
  computed_tame glob (p ∷ []) = if_pointer (is_pointer layout p) _ tt
  computed_tame to_local (p ∷ []) = if_pointer (is_pointer layout p) _ tt
  computed_tame to_proc (p ∷ []) = if_pointer (is_pointer layout p) _ (int_tame (node_of p) (node_is p))
  computed_tame (un operator) (Int a ∷ []) = int_tame _ (unary_is operator a)
  computed_tame (step star) (p ∷ Int by ∷ []) =
      if_pointer (is_pointer layout p) _ (value_tame _ (stepped_is layout.nodes star p by))
  computed_tame to_global (Int n ∷ p ∷ []) = if_pointer (is_pointer layout p) _ (value_tame _ (global_is layout.nodes n p))
  computed_tame (bin operator) (Int a ∷ Int b ∷ []) = int_tame _ (binary_is operator a b)
  computed_tame _ [] = tt
  computed_tame _ (a ∷ []) = tt
  computed_tame _ (a ∷ b ∷ []) = tt
  computed_tame _ (a ∷ b ∷ c ∷ vs) = tt

-- ---- steps with a value

abbrev pub Ordinary : Made → Type 0
Ordinary (faults kind) = NotDeep kind
Ordinary (calls f vs) = ⊥
Ordinary _ = Unit {0}

made_ordinary : (o : Outcome) → Tame o → Ordinary (made_by o)
made_ordinary (gives v) h = tt
made_ordinary (fails kind) h = h
made_ordinary wrong h = tt

then_ordinary : (o : Outcome) (go : Value → Made) → Tame o → ((v : Value) → Ordinary (go v)) → Ordinary (then_made o go)
then_ordinary (gives v) go h k = k v
then_ordinary (fails kind) go h k = h
then_ordinary wrong go h k = tt

-- a place, or a fault
abbrev Found : Spotted → Type 0
Found (found place) = Unit {0}
Found (missing kind) = NotDeep kind
Found nowhere = Unit {0}

place_found : (r : Result Place FaultKind) → Shallow r → Found (place_or_fault r)
place_found (Ok place) h = tt
place_found (Err kind) h = h

used_is : (layout : Arrangement) (pointer : Value) → Shallow (used_place layout pointer)
used_is layout (Ptr object node offset) =
    either (nat_lt offset (extent_of layout node object)) (Ok (record { object = object; node = node; offset = offset })) (Err fault.Index) tt tt
used_is layout (Int n) = tt
used_is layout Null = tt

if_found : (b : Bool) (s : Spotted) → Found s → Found (if b then s else nowhere)
if_found true s h = h
if_found false s h = tt

spotted_found : (layout : Arrangement) (pointer : Value) → Found (spotted layout pointer)
spotted_found layout pointer = if_found (is_pointer layout pointer) _ (place_found (used_place layout pointer) (used_is layout pointer))

reading_ordinary : (s : Spotted) → Found s → Ordinary (reading s)
reading_ordinary (found place) h = tt
reading_ordinary (missing kind) h = h
reading_ordinary nowhere h = tt

writing_ordinary : (s : Spotted) (v : Value) → Found s → Ordinary (writing s v)
writing_ordinary (found place) v h = tt
writing_ordinary (missing kind) v h = h
writing_ordinary nowhere v h = tt

module _ (layout : Arrangement) (node : ℕ) where
  computes : (operation : Pure) (vs : List Value) → Ordinary (made_by (computed layout node operation vs))
  computes operation vs = made_ordinary (computed layout node operation vs) (computed_tame layout node operation vs)

  -- no step but a call calls, and none is a fault of too many frames
  pub ordinary : (operation : Operation) (vs : List Value) → mark_of operation ≡ plain → Ordinary (made_of layout node operation vs)
  ordinary (op.Use x) [] e = tt
  ordinary (op.Use x) (v ∷ vs) e = tt
  ordinary (op.Element o n literal) vs e = computes (elem o n) vs
  ordinary (op.Address o n) vs e = computes (elem o n) vs
  ordinary op.Own vs e = computes glob vs
  ordinary op.Convert vs e = computes glob vs
  ordinary (op.Forward star) vs e = computes (step star) vs
  ordinary (op.Back star) [] e = tt
  ordinary (op.Back star) (p ∷ []) e = tt
  ordinary (op.Back star) (p ∷ by ∷ []) e =
      then_ordinary (computed layout node (un Minus) (by ∷ [])) _ (computed_tame layout node (un Minus) (by ∷ []))
      (λ n. computes (step star) (p ∷ n ∷ []))
  ordinary (op.Back star) (p ∷ by ∷ more ∷ vs) e = tt
  ordinary (op.Binary operator) vs e = computes (bin operator) vs
  ordinary (op.Unary operator) vs e = computes (un operator) vs
  ordinary op.Same vs e = computes same vs
  ordinary op.Differ vs e =
      then_ordinary (computed layout node same vs) _ (computed_tame layout node same vs) (λ v. computes (un Not) (v ∷ []))
  ordinary op.IsNull vs e =
      then_ordinary (computed layout node truth vs) _ (computed_tame layout node truth vs) (λ v. computes (un Not) (v ∷ []))
  ordinary op.ToGlobal vs e = computes to_global vs
  ordinary op.ToProc vs e = computes to_proc vs
  ordinary op.ToLocal vs e = computes to_local vs
  ordinary (op.Set x) [] e = tt
  ordinary (op.Set x) (v ∷ []) e = tt
  ordinary (op.Set x) (v ∷ w ∷ vs) e = tt
  ordinary (op.Call f n) vs e = absurd cc
  ordinary op.Read [] e = tt
  ordinary op.Read (p ∷ []) e = reading_ordinary (spotted layout p) (spotted_found layout p)
  ordinary op.Read (p ∷ v ∷ vs) e = tt
  ordinary op.Write [] e = tt
  ordinary op.Write (p ∷ []) e = tt
  ordinary op.Write (p ∷ v ∷ []) e = writing_ordinary (spotted layout p) v (spotted_found layout p)
  ordinary op.Write (p ∷ v ∷ w ∷ vs) e = tt

-- ---- steps without one

abbrev pub Usual : Done → Type 0
Usual (ends kind) = NotDeep kind
Usual (misses x kind) = NotDeep kind
Usual _ = Unit {0}

printing_usual : (format : List ℕ) (o : Option (List ℤ)) → Usual (printing format o)
printing_usual format (Some ns) = tt
printing_usual format None = tt

filling_usual : (x : ℕ) (s : Spotted) → Found s → Usual (filling x s)
filling_usual x (found place) h = tt
filling_usual x (missing kind) h = h
filling_usual x nowhere h = tt

getting_usual : (x : ℕ) (s : Spotted) → Found s → Usual (getting x s)
getting_usual x (found place) h = tt
getting_usual x (missing kind) h = h
getting_usual x nowhere h = tt

putting_usual : (s : Spotted) (v : Value) → Found s → Usual (putting puts s v)
putting_usual (found place) v h = tt
putting_usual (missing kind) v h = h
putting_usual nowhere v h = tt

sending_usual : (s : Spotted) (v : Value) → Found s → Usual (putting sends s v)
sending_usual (found place) v h = tt
sending_usual (missing kind) v h = h
sending_usual nowhere v h = tt

spanned_is : (layout : Arrangement) (cells : ℕ) (pointer : Value) → Shallow (spanned layout cells pointer)
spanned_is layout cells (Ptr object node offset) =
    either (nat_le (offset + cells) (extent_of layout node object)) (Ok (record { object = object; node = node; offset = offset })) (Err fault.Index) tt tt
spanned_is layout cells (Int n) = tt
spanned_is layout cells Null = tt

from_usual : (to : Place) (cells : ℕ) (r : Result Place FaultKind) → Shallow r → Usual (copied_from to cells r)
from_usual to cells (Ok from) h = tt
from_usual to cells (Err kind) h = h

copied_usual : (layout : Arrangement) (cells : ℕ) (r : Result Place FaultKind) (from : Value) → Shallow r → Usual (copied layout cells r from)
copied_usual layout cells (Ok to) from h = from_usual to cells (spanned layout cells from) (spanned_is layout cells from)
copied_usual layout cells (Err kind) from h = h

if_usual : (b : Bool) (x y : Done) → Usual x → Usual y → Usual (if b then x else y)
if_usual true x y h k = h
if_usual false x y h k = k

copying_usual : (layout : Arrangement) (to from : Value) (bytes : ℤ) → Usual (copying layout to from bytes)
copying_usual layout to from (pos zero) = tt
copying_usual layout to from (pos (suc n)) =
    if_usual (suc n % 8 == 0) _ (ends fault.BadSize)
    (copied_usual layout (suc n / 8) (spanned layout (suc n / 8) to) from (spanned_is layout (suc n / 8) to)) tt
copying_usual layout to from (negsuc n) = tt

text_usual : (layout : Arrangement) (texts : List Text) (n : ℕ) (vs : List Value) (o : Option Text)
    → Usual (option_map_or (λ format. done layout (steps.print format n) vs) o sticks)
text_usual layout texts n vs (Some format) = printing_usual format (ints vs)
text_usual layout texts n vs None = tt

module _ (layout : Arrangement) (texts : List Text) where
  pub usual : (action : Action) (vs : List Value) → Usual (done_of layout texts action vs)
  usual acts.Drop [] = tt
  usual acts.Drop (v ∷ []) = tt
  usual acts.Drop (v ∷ w ∷ vs) = tt
  usual (acts.Begin x) [] = tt
  usual (acts.Begin x) (v ∷ []) = tt
  usual (acts.Begin x) (v ∷ w ∷ vs) = tt
  usual (acts.Clear x pointer) [] = tt
  usual (acts.Clear x pointer) (v ∷ vs) = tt
  usual (acts.Fill x) [] = tt
  usual (acts.Fill x) (p ∷ []) = filling_usual x (spotted layout p) (spotted_found layout p)
  usual (acts.Fill x) (p ∷ v ∷ vs) = tt
  usual (acts.Get x) [] = tt
  usual (acts.Get x) (p ∷ []) = getting_usual x (spotted layout p) (spotted_found layout p)
  usual (acts.Get x) (p ∷ v ∷ vs) = tt
  usual acts.Put [] = tt
  usual acts.Put (p ∷ []) = tt
  usual acts.Put (p ∷ v ∷ []) = putting_usual (spotted layout p) v (spotted_found layout p)
  usual acts.Put (p ∷ v ∷ w ∷ vs) = tt
  usual acts.Send [] = tt
  usual acts.Send (p ∷ []) = tt
  usual acts.Send (p ∷ v ∷ []) = sending_usual (spotted layout p) v (spotted_found layout p)
  usual acts.Send (p ∷ v ∷ w ∷ vs) = tt
  usual (acts.Copy mode) (to ∷ from ∷ Int bytes ∷ []) =
      if_usual (is_pointer layout to && is_pointer layout from) _ sticks (copying_usual layout to from bytes) tt
  usual (acts.Copy mode) [] = tt
  usual (acts.Copy mode) (a ∷ []) = tt
  usual (acts.Copy mode) (a ∷ b ∷ []) = tt
  usual (acts.Copy mode) (a ∷ b ∷ Null ∷ []) = tt
  usual (acts.Copy mode) (a ∷ b ∷ Ptr object node offset ∷ []) = tt
  usual (acts.Copy mode) (a ∷ b ∷ Int bytes ∷ d ∷ vs) = tt
  usual (acts.Copy mode) (a ∷ b ∷ Null ∷ d ∷ vs) = tt
  usual (acts.Copy mode) (a ∷ b ∷ Ptr object node offset ∷ d ∷ vs) = tt
  usual (acts.Print text n) vs = text_usual layout texts n vs (slice_get texts text)
  usual acts.Sync [] = tt
  usual acts.Sync (v ∷ vs) = tt
  usual acts.Barrier [] = tt
  usual acts.Barrier (v ∷ vs) = tt
  usual acts.AllStoreSync [] = tt
  usual acts.AllStoreSync (v ∷ vs) = tt
