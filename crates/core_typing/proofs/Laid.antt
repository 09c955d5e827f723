-- A layout of shapes is of these shapes.
use Rattle.std.proofs.Common.{◌≡◌, refl, subst, ℕ, Bool, true, false, List, [], ◌∷◌, length, min, ◌-◌, ◌^◌, map}
use Rattle.std.specs.Prelude.{Result, Ok, Err, nat_lt, if◌then◌else◌}
use Rattle.sc_base.specs.declared.limits.TheConstants.{LIMITS}
use Rattle.sc_base.specs.declared.shape.Shape.{Shape}
use Rattle.sc_layout.specs.Layout.{LaidObject, Arrangement, first_then, each_of, object_of, within_cells, cells_on, layout_of}
use Rattle.sc_layout.specs.declared.error.LayoutError.{LayoutError}
use Rattle.sc_layout.specs.declared.error.LayoutError.TheVariants.{TooManyObjects, TooManyCells}
use Rattle.sc_layout.proofs.Kept.{shape-kept}

-- the shapes of laid objects
abbrev pub shapes_of : List LaidObject → List Shape
shapes_of objects = map (λ object. object.shape) objects

passed : {A E : Type 0} (b : Bool) (e : E) (r : Result A E) (x : A) → (if b then Err e else r) ≡ Ok x → r ≡ Ok x
passed true e r x h = cc
passed false e r x h = h

kept-first : (nodes : ℕ) (s : Shape) (ss : List Shape) (one : Result LaidObject LayoutError)
    (more : Result (List LaidObject) LayoutError) (objects : List LaidObject) → object_of nodes s ≡ one →
    ((rest : List LaidObject) → more ≡ Ok rest → shapes_of rest ≡ ss) → first_then one more ≡ Ok objects →
    shapes_of objects ≡ s ∷ ss
kept-first nodes s ss (Err e) more objects is further h = absurd (let z : Err e ≡ Ok objects = h in cc)
kept-first nodes s ss (Ok o) (Err e) objects is further h = absurd (let z : Err e ≡ Ok objects = h in cc)
kept-first nodes s ss (Ok o) (Ok rest) objects is further h =
    let same : o ∷ rest ≡ objects = (let z : Ok (o ∷ rest) ≡ Ok objects = h in cc) in
    rw (← same, shape-kept nodes s o is, further rest refl) refl

each-kept : (nodes : ℕ) (shapes : List Shape) (objects : List LaidObject) → each_of (object_of nodes) shapes ≡ Ok objects →
    shapes_of objects ≡ shapes
each-kept nodes [] objects h =
    let same : [] ≡ objects = (let z : Ok [] ≡ Ok objects = h in cc) in
    rw (← same) refl
each-kept nodes (s ∷ ss) objects h =
    kept-first nodes s ss (object_of nodes s) (each_of (object_of nodes) ss) objects refl (each-kept nodes ss) h

within-kept : (nodes : ℕ) (r : Result (List LaidObject) LayoutError) (shapes : List Shape) (layout : Arrangement) →
    ((objects : List LaidObject) → r ≡ Ok objects → shapes_of objects ≡ shapes) → within_cells nodes r ≡ Ok layout →
    shapes_of layout.objects ≡ shapes
within-kept nodes (Err e) shapes layout further h = absurd (let z : Err e ≡ Ok layout = h in cc)
within-kept nodes (Ok objects) shapes layout further h =
    let made : Arrangement = record { nodes = nodes; objects = objects } in
    let p = passed (nat_lt LIMITS.cells (cells_on made 0)) (TooManyCells (min (cells_on made 0) (2 ^ 64 - 1))) (Ok made) layout h in
    let same : made ≡ layout = (let z : Ok made ≡ Ok layout = p in cc) in
    subst (λ (l : Arrangement). shapes_of l.objects ≡ shapes) same (further objects refl)

pub laid-shapes : (shapes : List Shape) (nodes : ℕ) (layout : Arrangement) → layout_of shapes nodes ≡ Ok layout →
    shapes_of layout.objects ≡ shapes
unfolding layout_of
laid-shapes shapes nodes layout h =
    within-kept nodes (each_of (object_of nodes) shapes) shapes layout (each-kept nodes shapes)
    (passed (nat_lt LIMITS.objects (length shapes)) (TooManyObjects (min (length shapes) (2 ^ 32 - 1)))
    (within_cells nodes (each_of (object_of nodes) shapes)) layout h)
