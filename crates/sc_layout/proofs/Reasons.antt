-- Shapes have no layout for their bounds and cells, and not for want of memory.
use Rattle.std.proofs.Common.{◌≡◌, ℕ, Bool, true, false, cond, List, [], ◌∷◌, ◌++◌, length, Ok, Err}
use Rattle.std.specs.Prelude.{Result, Option, Some, None, nat_lt}
use Rattle.std.specs.Option.{ok_or}
use Rattle.std.specs.Result.{result_map_both}
use Rattle.sc_base.specs.declared.shape.Bound.{Bound}
use Rattle.sc_base.specs.declared.shape.Shape.{Shape}
use Rattle.sc_base.specs.declared.limits.TheConstants.{LIMITS}
use Rattle.sc_layout.specs.Bound.{value_of}
use Rattle.sc_layout.specs.Layout.{LaidObject, cells_on, first_then, each_of, bound_of, object_of, within_cells, layout_of}
use Rattle.sc_layout.specs.declared.error.LayoutError.{LayoutError}
use Rattle.sc_layout.specs.declared.error.LayoutError.TheVariants.{BadBound, OutOfMemory}

-- the answer is not that memory is wanting
abbrev Sure : {A : Type 0} → Result A LayoutError → Type 0
Sure r = r ≡ Err OutOfMemory → ⊥

sure_mapped : {A B : Type 0} (f : A → B) (r : Result A LayoutError) → Sure r → Sure (result_map_both f (λ e. e) r)
sure_mapped f (Ok x) s h = cc
sure_mapped f (Err e) s h = s (let z : e ≡ OutOfMemory = cc in cc)

sure_then : {A : Type 0} (r : Result A LayoutError) (rest : Result (List A) LayoutError) → Sure r → Sure rest →
    Sure (first_then r rest)
sure_then (Ok x) rest s t h = sure_mapped (λ xs. x ∷ xs) rest t h
sure_then (Err e) rest s t h = s (let z : e ≡ OutOfMemory = cc in cc)

sure_each : {A B : Type 0} (f : A → Result B LayoutError) (xs : List A) → ((x : A) → Sure (f x)) → Sure (each_of f xs)
sure_each f [] s h = cc
sure_each f (x ∷ xs) s h = sure_then (f x) (each_of f xs) (s x) (sure_each f xs s) h

sure_bound_value : (o : Option ℕ) (line : ℕ) → Sure (ok_or o (BadBound line))
sure_bound_value None line h = cc
sure_bound_value (Some n) line h = cc

sure_bound : (nodes : ℕ) (b : Bound) → Sure (bound_of nodes b)
unfolding bound_of
sure_bound nodes b h = sure_bound_value (value_of nodes b.steps) b.line h

sure_object : (nodes : ℕ) (s : Shape) → Sure (object_of nodes s)
unfolding object_of
sure_object nodes s h =
    sure_mapped (λ values. record { shape = s; bounds = values }) (each_of (bound_of nodes) (s.left ++ s.right))
    (sure_each (bound_of nodes) (s.left ++ s.right) (sure_bound nodes)) h

sure_choice : {A : Type 0} (b : Bool) (r q : Result A LayoutError) → Sure r → Sure q → Sure (cond b r q)
sure_choice true r q s t h = s h
sure_choice false r q s t h = t h

sure_cells : (nodes : ℕ) (r : Result (List LaidObject) LayoutError) → Sure r → Sure (within_cells nodes r)
sure_cells nodes (Ok objects) s h =
    sure_choice (nat_lt LIMITS.cells (cells_on (record { nodes = nodes; objects = objects }) 0)) _ _
    (λ g. cc) (λ g. cc) h
sure_cells nodes (Err e) s h = s (let z : e ≡ OutOfMemory = cc in cc)

pub layout-sure : (shapes : List Shape) (nodes : ℕ) → layout_of shapes nodes ≡ Err OutOfMemory → ⊥
unfolding layout_of
layout-sure shapes nodes h =
    sure_choice (nat_lt LIMITS.objects (length shapes)) _ _ (λ g. cc)
    (sure_cells nodes (each_of (object_of nodes) shapes) (sure_each (object_of nodes) shapes (sure_object nodes))) h
