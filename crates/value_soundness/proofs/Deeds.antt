-- What each step does with values of the kinds that it takes.
use Rattle.std.proofs.Common.{◌≡◌, ℕ, ◌+◌, ◌^◌, ◌<◌, ℤ, Ok, Err, Option, Some, None, Bool, true, false, List, [], ◌∷◌, map, length, slice_get, refl, sym, ap, ◌∙◌, subst, arith}
use Rattle.std.specs.Prelude.{nat_lt, if◌then◌else◌, FitsSigned}
use Rattle.std.specs.Int.{w64}
use Rattle.std.specs.Option.{option_map}
use Rattle.std.specs.List.{Contains}
use Rattle.std.proofs.lemmas.Bool.{ltb-true}
use Rattle.std.proofs.lemmas.Option.{slice_get_within, slice_get-map}
use Rattle.sc_base.specs.declared.shape.Shape.{Shape}
use Rattle.sc_base.specs.declared.shape.Star.{Star}
use Rattle.sc_base.specs.declared.operator.Unary.TheVariants.{Minus, Not}
use Rattle.sc_base.specs.declared.value.FaultKind.{FaultKind}
use Rattle.sc_base.specs.declared.value.Value.{Value}
use Rattle.sc_base.specs.declared.value.Value.TheVariants.{Int, Null, Ptr}
use Rattle.sc_layout.specs.Layout.{Arrangement, LaidObject, IsLayout}
use Rattle.sc_layout.specs.Place.{extent_of}
use Rattle.sc_layout.specs.Pointer.{used_place}
use Rattle.sc_isa.specs.Elements.{Outcome, gives, fails, wrong}
use Rattle.sc_isa.specs.Pure.{Pure, is_true, is_pointer, same_value, computed, un, bin, glob, same as same_step, truth, elem, step as step_by, to_global as to_global_step, to_local as to_local_step, to_proc as to_proc_step}
use Rattle.sc_isa.specs.Deeds.{Made, makes, faults, stuck, uses, sets, reads, writes, calls, Spotted, found, missing, nowhere, place_or_fault, spotted, made_by, reading, writing}
use Rattle.sc_core.specs.declared.operation.Operation.{Operation}
use Rattle.sc_core.specs.declared.operation.Operation.TheVariants.{Element, Address, Forward, Back, Binary, Unary, ToGlobal}
use Rattle.sc_core.specs.Core.{Function}
use Rattle.sc_core.specs.Kinds.{Kind, number, to, named, kind_of, kind_of_type, numbers, Scope, IsLocal, HasBegun, IsPlaceOf, pointed, by_name, HasIndices, Computes, forward, back, binary, Takes, use_, element as element_, address, own_pointer, own_cell, convert, computes, unary, same as same_, differ, is_null, to_global, to_proc, to_local, set, call, read, write}
use Rattle.sc_core.specs.Table.{then_made, made_of}
use Rattle.sc_core.specs.Forms.{exposed_by}
use Rattle.value_soundness.proofs.Values.{Points, IsOf, AreOf, IsCell}
use Rattle.value_soundness.proofs.Outcomes.{Given, bit_is, binary_given, unary_given, element_given, is_a_pointer, is_named, step_given, convert_given, own_given, own_named_given, to_global_given, to_proc_given}

-- what is known of where a source runs: its layout, in which its objects lie, and the node
pub record Footing (layout : Arrangement) (node : ℕ) (objects : List Shape) : Type 0 where
  pub laid : IsLayout layout
  pub few : layout.nodes < 2 ^ 32
  pub shapes : map (λ (o : LaidObject). o.shape) layout.objects ≡ objects
  pub node_within : node < layout.nodes

pub record Laid (layout : Arrangement) (object : ℕ) (shape : Shape) : Type 0 where
  pub laid : LaidObject
  pub laid_is : slice_get layout.objects object ≡ Some laid
  pub shape_is : laid.shape ≡ shape

laid_by : (layout : Arrangement) (object : ℕ) (shape : Shape) (o : Option LaidObject)
    → slice_get layout.objects object ≡ o
    → option_map (λ (o : LaidObject). o.shape) o ≡ Some shape → Laid layout object shape
laid_by layout object shape None at h = absurd (cc)
laid_by layout object shape (Some laid) at h = record { laid = laid; laid_is = at; shape_is = cc }

-- the object that has this shape
pub laid_of : (layout : Arrangement) (node : ℕ) (objects : List Shape) → Footing layout node objects
    → (object : ℕ) (shape : Shape)
    → slice_get objects object ≡ Some shape → Laid layout object shape
laid_of layout node objects footing object shape e =
    laid_by layout object shape (slice_get layout.objects object) refl
    (sym (slice_get-map (λ (o : LaidObject). o.shape) layout.objects object)
    ∙ ap (λ shapes. slice_get shapes object) footing.shapes ∙ e)

-- each of these objects is exposed
abbrev pub Within : (exposed : List ℕ) → List ℕ → Type 0
Within exposed some = (object : ℕ) → Contains some object → Contains exposed object

module _ (layout : Arrangement) (exposed : List ℕ) where
  -- ---- places

  abbrev pub SpotFits : List Star → Spotted → Type 0
  SpotFits cell (found place) = IsCell layout cell place
  SpotFits cell (missing fault) = Unit {0}
  SpotFits cell nowhere = ⊥

  in_extent : (cell : List Star) (object node offset : ℕ) (b : Bool) (fault : FaultKind)
      → nat_lt offset (extent_of layout node object) ≡ b → Points layout cell object node offset
      → SpotFits cell (place_or_fault
      (if b then Ok (record { object = object; node = node; offset = offset }) else Err fault))
  in_extent cell object node offset true fault e p = record {
    placed = record {
      object = slice_get_within layout.objects object p.laid p.laid_is;
      node = p.node_within;
      offset = ltb-true offset (extent_of layout node object) e;
    };
    laid = p.laid;
    laid_is = p.laid_is;
    stars = p.stars;
  }
  in_extent cell object node offset false fault e p = tt

  used_fits : (cell : List Star) (p : Kind) → IsPlaceOf cell p → (v : Value) → IsOf layout exposed p v
      → SpotFits cell (place_or_fault (used_place layout v))
  used_fits cell _ pointed (Int n) h = absurd h
  used_fits cell _ pointed Null h = tt
  used_fits cell _ pointed (Ptr object node offset) h = in_extent cell object node offset _ _ refl h.0
  used_fits cell _ by_name (Int n) h = absurd h
  used_fits cell _ by_name Null h = tt
  used_fits cell _ by_name (Ptr object node offset) h = in_extent cell object node offset _ _ refl h

  pub place_is_pointer : (cell : List Star) (p : Kind) → IsPlaceOf cell p → (v : Value) → IsOf layout exposed p v
      → is_pointer layout v ≡ true
  place_is_pointer cell _ pointed v h = is_a_pointer layout exposed cell v h
  place_is_pointer cell _ by_name v h = is_named layout exposed true cell v h

  pub spot_fits : (cell : List Star) (p : Kind) → IsPlaceOf cell p → (v : Value) → IsOf layout exposed p v
      → SpotFits cell (spotted layout v)
  spot_fits cell p is v h = rw (place_is_pointer cell p is v h) (used_fits cell p is v h)

-- ---- steps with a value

module _ (layout : Arrangement) (exposed : List ℕ) (scope : Scope) where
  -- what the step does leaves a value of the kind
  abbrev pub MadeFits : Kind → Made → Type 0
  MadeFits k (makes v) = IsOf layout exposed k v
  MadeFits k (faults fault) = Unit {0}
  MadeFits k stuck = ⊥
  MadeFits k (uses x) = HasBegun scope x k
  MadeFits k (sets x v) = IsLocal scope x k × IsOf layout exposed k v
  MadeFits k (reads place) = (cell : List Star) × IsCell layout cell place × (k ≡ kind_of cell)
  MadeFits k (writes place v) =
      (cell : List Star) × IsCell layout cell place × (k ≡ kind_of cell) × IsOf layout exposed k v
  MadeFits k (calls f vs) =
      (called : Function) × (slice_get scope.functions f ≡ Some called)
      × AreOf layout exposed (map kind_of_type called.params) vs × (k ≡ kind_of_type called.result)

  made_given : (k : Kind) (o : Outcome) → Given layout exposed k o → MadeFits k (made_by o)
  made_given k (gives v) h = h
  made_given k (fails fault) h = tt
  made_given k wrong h = absurd h

  then_given : (j k : Kind) (o : Outcome) (go : Value → Made) → Given layout exposed j o
      → ((v : Value) → IsOf layout exposed j v → MadeFits k (go v)) → MadeFits k (then_made o go)
  then_given j k (gives v) go h f = f v h
  then_given j k (fails fault) go h f = tt
  then_given j k wrong go h f = absurd h

  read_fits : (cell : List Star) (s : Spotted) → SpotFits layout exposed cell s → MadeFits (kind_of cell) (reading s)
  read_fits cell (found place) h = (cell, h, refl)
  read_fits cell (missing fault) h = tt
  read_fits cell nowhere h = absurd h

  write_fits : (cell : List Star) (v : Value) (s : Spotted) → SpotFits layout exposed cell s
      → IsOf layout exposed (kind_of cell) v → MadeFits (kind_of cell) (writing s v)
  write_fits cell v (found place) h f = (cell, h, refl, f)
  write_fits cell v (missing fault) h f = tt
  write_fits cell v nowhere h f = absurd h

  module _ (node : ℕ) (footing : Footing layout node scope.objects) where
    abbrev Fits : Operation → List Value → Kind → Type 0
    Fits operation vs k = MadeFits k (made_of layout node operation vs)

    pure_made : (k : Kind) (op : Pure) (vs : List Value) → Given layout exposed k (computed layout node op vs)
        → MadeFits k (made_by (computed layout node op vs))
    pure_made k op vs h = made_given k (computed layout node op vs) h

    not_given : (v : Value) → IsOf layout exposed number v
        → MadeFits number (made_by (computed layout node (un Not) (v ∷ [])))
    not_given (Int n) h = pure_made number (un Not) (Int n ∷ []) (unary_given layout exposed Not n h)
    not_given Null h = absurd h
    not_given (Ptr object at offset) h = absurd h

    denied : (o : Outcome) → Given layout exposed number o
        → MadeFits number (then_made o (λ v. made_by (computed layout node (un Not) (v ∷ []))))
    denied o h = then_given number number o (λ v. made_by (computed layout node (un Not) (v ∷ []))) h not_given

    -- so many whole numbers
    int_given : (n : ℤ) → FitsSigned w64 n → IsOf layout exposed number (Int n)
    int_given n h = h

    forward_fits : (star : Star) (cell : List Star) (v by : Value) → IsOf layout exposed (to cell) v
        → IsOf layout exposed number by → Fits (Forward star) (v ∷ by ∷ []) (to cell)
    forward_fits star cell v (Int n) h k =
        pure_made (to cell) (step_by star) (v ∷ Int n ∷ []) (step_given layout exposed star cell v n h)
    forward_fits star cell v Null h k = absurd k
    forward_fits star cell v (Ptr object at offset) h k = absurd k

    back_fits : (star : Star) (cell : List Star) (v by : Value) → IsOf layout exposed (to cell) v
        → IsOf layout exposed number by → Fits (Back star) (v ∷ by ∷ []) (to cell)
    back_fits star cell v (Int n) h k =
        then_given number (to cell) (computed layout node (un Minus) (Int n ∷ []))
        (λ n. made_by (computed layout node (step_by star) (v ∷ n ∷ []))) (unary_given layout exposed Minus n k)
        (λ n is. forward_fits star cell v n h is)
    back_fits star cell v Null h k = absurd k
    back_fits star cell v (Ptr object at offset) h k = absurd k

    binary_made : (op : _) (a b : Value) → IsOf layout exposed number a → IsOf layout exposed number b
        → Fits (Binary op) (a ∷ b ∷ []) number
    binary_made op (Int a) (Int b) h k = pure_made number (bin op) (Int a ∷ Int b ∷ [])
        (binary_given layout exposed op a b)
    binary_made op (Int a) Null h k = absurd k
    binary_made op (Int a) (Ptr object at offset) h k = absurd k
    binary_made op Null b h k = absurd h
    binary_made op (Ptr object at offset) b h k = absurd h

    unary_made : (op : _) (a : Value) → IsOf layout exposed number a → Fits (Unary op) (a ∷ []) number
    unary_made op (Int a) h = pure_made number (un op) (Int a ∷ []) (unary_given layout exposed op a h)
    unary_made op Null h = absurd h
    unary_made op (Ptr object at offset) h = absurd h

    global_made : (cell : List Star) (n v : Value) → IsOf layout exposed number n → IsOf layout exposed (to cell) v
        → Fits ToGlobal (n ∷ v ∷ []) (to cell)
    global_made cell (Int n) v k h =
        pure_made (to cell) to_global_step (Int n ∷ v ∷ []) (to_global_given layout exposed cell n v h)
    global_made cell Null v k h = absurd k
    global_made cell (Ptr object at offset) v k h = absurd k

    pub computes_fits : {operation : Operation} {kinds : List Kind} {k : Kind} → Computes operation kinds k
        → (vs : List Value)
        → AreOf layout exposed kinds vs → Fits operation vs k
    computes_fits forward [] f = absurd f
    computes_fits forward (v ∷ []) f = absurd f.1
    computes_fits (forward {star = star} {cell = cell}) (v ∷ n ∷ []) f = forward_fits star cell v n f.0 f.1.0
    computes_fits forward (v ∷ n ∷ u ∷ vs) f = absurd f.1.1
    computes_fits back [] f = absurd f
    computes_fits back (v ∷ []) f = absurd f.1
    computes_fits (back {star = star} {cell = cell}) (v ∷ n ∷ []) f = back_fits star cell v n f.0 f.1.0
    computes_fits back (v ∷ n ∷ u ∷ vs) f = absurd f.1.1
    computes_fits binary [] f = absurd f
    computes_fits binary (v ∷ []) f = absurd f.1
    computes_fits (binary {op = op}) (v ∷ n ∷ []) f = binary_made op v n f.0 f.1.0
    computes_fits binary (v ∷ n ∷ u ∷ vs) f = absurd f.1.1

    element_made : (o n : ℕ) (plain : Bool) (s : Shape) (vs : List Value) → slice_get scope.objects o ≡ Some s
        → n ≡ length s.left + length s.right → AreOf layout exposed (numbers n) vs
        → Fits (Element o n plain) vs (named s.spread s.ty.stars)
    element_made o n plain s vs at count f =
        let l = laid_of layout node scope.objects footing o s at in
        let c : n ≡ length l.laid.shape.left + length l.laid.shape.right =
        count ∙ ap (λ (s : Shape). length s.left + length s.right) (sym l.shape_is) in
        pure_made (named s.spread s.ty.stars) (elem o n) vs
        (element_given layout exposed footing.laid footing.few (named s.spread s.ty.stars) o n l.laid vs l.laid_is
        (omega (arith, c)) (omega (arith, c))
        (λ at offset p. subst (λ (s : Shape). Points layout s.ty.stars o at offset) l.shape_is p) f)

    address_made : (o n : ℕ) (s : Shape) (vs : List Value) → slice_get scope.objects o ≡ Some s
        → HasIndices s n → Contains exposed o → AreOf layout exposed (numbers n) vs
        → Fits (Address o n) vs (to s.ty.stars)
    address_made o n s vs at has c f =
        let l = laid_of layout node scope.objects footing o s at in
        let same : length l.laid.shape.left + length l.laid.shape.right ≡ length s.left + length s.right =
        ap (λ (s : Shape). length s.left + length s.right) l.shape_is in
        pure_made (to s.ty.stars) (elem o n) vs
        (element_given layout exposed footing.laid footing.few (to s.ty.stars) o n l.laid vs l.laid_is
        (omega (arith, same, has.enough)) (omega (arith, same, has.not_more))
        (λ at offset p. (subst (λ (s : Shape). Points layout s.ty.stars o at offset) l.shape_is p, c)) f)

    -- a step on values of the kinds that it takes
    pub takes_fits : {operation : Operation} {kinds : List Kind} {k : Kind} → Takes scope operation kinds k
        → Within exposed (exposed_by operation) → (vs : List Value) → AreOf layout exposed kinds vs
        → Fits operation vs k
    takes_fits (use_ h) w [] f = h
    takes_fits (use_ h) w (v ∷ vs) f = absurd f
    takes_fits (element_ {o = o} {n = n} {plain = plain} {s = s} at count) w vs f = element_made o n plain s vs at
        count f
    takes_fits (address {o = o} {n = n} {s = s} at has) w vs f =
        address_made o n s vs at has (w o (0, omega arith, refl)) f
    takes_fits own_pointer w [] f = absurd f
    takes_fits (own_pointer {cell = cell}) w (v ∷ []) f =
        pure_made (named true cell) glob (v ∷ []) (own_given layout exposed true cell node v footing.node_within f.0)
    takes_fits own_pointer w (v ∷ u ∷ vs) f = absurd f.1
    takes_fits own_cell w [] f = absurd f
    takes_fits (own_cell {cell = cell}) w (v ∷ []) f =
        pure_made (named true cell) glob (v ∷ [])
        (own_named_given layout exposed true false cell node v footing.node_within f.0)
    takes_fits own_cell w (v ∷ u ∷ vs) f = absurd f.1
    takes_fits convert w [] f = absurd f
    takes_fits (convert {cell = cell}) w (v ∷ []) f =
        pure_made (to cell) glob (v ∷ []) (convert_given layout exposed cell node v footing.node_within f.0)
    takes_fits convert w (v ∷ u ∷ vs) f = absurd f.1
    takes_fits (computes h) w vs f = computes_fits h vs f
    takes_fits unary w [] f = absurd f
    takes_fits (unary {op = op}) w (v ∷ []) f = unary_made op v f.0
    takes_fits unary w (v ∷ u ∷ vs) f = absurd f.1
    takes_fits same_ w [] f = absurd f
    takes_fits same_ w (v ∷ []) f = absurd f.1
    takes_fits same_ w (v ∷ u ∷ []) f = bit_is layout exposed (same_value v u)
    takes_fits same_ w (v ∷ u ∷ t ∷ vs) f = absurd f.1.1
    takes_fits differ w [] f = absurd f
    takes_fits differ w (v ∷ []) f = absurd f.1
    takes_fits differ w (v ∷ u ∷ []) f = denied (computed layout node same_step (v ∷ u ∷ [])) (bit_is layout exposed
        (same_value v u))
    takes_fits differ w (v ∷ u ∷ t ∷ vs) f = absurd f.1.1
    takes_fits is_null w [] f = absurd f
    takes_fits is_null w (v ∷ []) f = denied (computed layout node truth (v ∷ [])) (bit_is layout exposed (is_true v))
    takes_fits is_null w (v ∷ u ∷ vs) f = absurd f.1
    takes_fits to_global w [] f = absurd f
    takes_fits to_global w (n ∷ []) f = absurd f.1
    takes_fits (to_global {cell = cell}) w (n ∷ v ∷ []) f = global_made cell n v f.0 f.1.0
    takes_fits to_global w (n ∷ v ∷ u ∷ vs) f = absurd f.1.1
    takes_fits to_proc w [] f = absurd f
    takes_fits (to_proc {cell = cell}) w (v ∷ []) f =
        pure_made number to_proc_step (v ∷ []) (to_proc_given layout exposed cell v footing.few f.0)
    takes_fits to_proc w (v ∷ u ∷ vs) f = absurd f.1
    takes_fits to_local w [] f = absurd f
    takes_fits (to_local {cell = cell}) w (v ∷ []) f =
        pure_made (to cell) to_local_step (v ∷ []) (convert_given layout exposed cell 0 v footing.laid.some_node f.0)
    takes_fits to_local w (v ∷ u ∷ vs) f = absurd f.1
    takes_fits (set h) w [] f = absurd f
    takes_fits (set h) w (v ∷ []) f = (h.0, f.0)
    takes_fits (set h) w (v ∷ u ∷ vs) f = absurd f.1
    takes_fits (call {f = called} at) w vs f = (called, at, f, refl)
    takes_fits (read p) w [] f = absurd f
    takes_fits (read {p = p} {cell = cell} is) w (v ∷ []) f =
        read_fits cell (spotted layout v) (spot_fits layout exposed cell p is v f.0)
    takes_fits (read p) w (v ∷ u ∷ vs) f = absurd f.1
    takes_fits (write p) w [] f = absurd f
    takes_fits (write p) w (v ∷ []) f = absurd f.1
    takes_fits (write {p = p} {cell = cell} is) w (v ∷ u ∷ []) f =
        write_fits cell u (spotted layout v) (spot_fits layout exposed cell p is v f.0) f.1.0
    takes_fits (write p) w (v ∷ u ∷ t ∷ vs) f = absurd f.1.1
