-- There are as many cells as at the start, and so all cells of the layout.
use Rattle.std.proofs.Common.{◌≡◌, ℕ, zero, suc, ◌<◌, List, [], ◌∷◌, ◌++◌, length, map, Option, Some, None, Bool, true, false, refl, sym, ap, ◌∙◌, if◌then◌else◌, arith, slice_get, slice_set, get_or, replicate}
use Rattle.std.specs.Prelude.{is_some}
use Rattle.std.specs.Option.{option_map, option_map_or}
use Rattle.std.proofs.lemmas.List.{length-map, length-replicate, length-set}
use Rattle.std.proofs.lemmas.Option.{slice_get-map, slice_get_within}
use Rattle.sc_base.specs.declared.value.Place.{Place}
use Rattle.sc_base.specs.declared.value.Value.{Value}
use Rattle.sc_layout.specs.Layout.{Arrangement, LaidObject, cells_of}
use Rattle.sc_layout.specs.Start.{zero_of}
use Rattle.sc_replay.specs.Judging.{AreCellsOf}
use Rattle.replay_tables.specs.Cells.{CellBook, cell_in, with_cell, with_known, with_object, known_at_start, node_start, object_start, numbers_below}
use Rattle.history_replay.specs.Reached.{extents_in}
use Rattle.history_replay.proofs.Cells.{length_below, get_below}

abbrev counted : List (List Value) → List ℕ
counted objects = map (λ values. length values) objects

-- what is put in place of an element that has the same image changes no image
kept_set : {A B : Type 0} (f : A → B) (xs : List A) (i : ℕ) (d y : A) → f y ≡ f (get_or xs i d) → map f (slice_set xs i y) ≡ map f xs
kept_set f [] i d y e = refl
kept_set f (x ∷ xs) zero d y e = ap (λ z. z ∷ map f xs) e
kept_set f (x ∷ xs) (suc i) d y e = ap (λ zs. f x ∷ zs) (kept_set f xs i d y e)

object_sized : (objects : List (List Value)) (o i : ℕ) (v : Value) → counted (with_object objects o i v) ≡ counted objects
object_sized objects o i v =
    kept_set (λ values. length values) objects o [] (slice_set (get_or objects o []) i v) (length-set (get_or objects o []) i v)

pub sized_written : (c : CellBook) (p : Place) (v : Value) → extents_in (with_cell c p v).known ≡ extents_in c.known
sized_written c p v = by (is_some (cell_in c.known p))
  where
    by : (b : Bool) → extents_in (if b then record c { known = with_known c.known p v } else record c { strays = c.strays ++ record { place = p; value = v } ∷ [] }).known
        ≡ extents_in c.known
    by true = kept_set counted c.known p.node [] (with_object (get_or c.known p.node []) p.object p.offset v)
        (object_sized (get_or c.known p.node []) p.object p.offset v)
    by false = refl

module _ (layout : Arrangement) (cells : List (List (List Value))) (same : extents_in cells ≡ extents_in (known_at_start layout)) where
  as_many : length cells ≡ layout.nodes
  as_many =
      sym (length-map cells counted) ∙ ap (λ ns. length ns) same ∙ length-map (known_at_start layout) counted
      ∙ length-map (numbers_below layout.nodes) (node_start layout) ∙ length_below layout.nodes

  on_node : (node : ℕ) (of_node : List (List Value)) → slice_get cells node ≡ Some of_node → counted of_node ≡ counted (node_start layout node)
  on_node node of_node at =
      let lt : node < layout.nodes = (let w = slice_get_within cells node of_node at in let m = as_many in omega arith) in
      let e : Some (counted of_node) ≡ Some (counted (node_start layout node)) =
      sym (slice_get-map counted cells node ∙ ap (option_map counted) at) ∙ ap (λ ns. slice_get ns node) same
      ∙ slice_get-map counted (known_at_start layout) node
      ∙ ap (option_map counted) (get_below (node_start layout) layout.nodes node lt) in cc

  in_object : (node object : ℕ) (of_node : List (List Value)) (values : List Value) → slice_get cells node ≡ Some of_node
      → slice_get of_node object ≡ Some values
      → Some (length values) ≡ option_map (λ values. length values) (option_map (object_start layout node) (slice_get layout.objects object))
  in_object node object of_node values at there =
      sym (slice_get-map (λ values. length values) of_node object ∙ ap (option_map (λ values. length values)) there)
      ∙ ap (λ ns. slice_get ns object) (on_node node of_node at)
      ∙ slice_get-map (λ values. length values) (node_start layout node) object
      ∙ ap (option_map (λ values. length values)) (slice_get-map (object_start layout node) layout.objects object)

  of_object : (node n : ℕ) (o : Option LaidObject) → Some n ≡ option_map (λ values. length values) (option_map (object_start layout node) o)
      → n ≡ option_map_or (λ x. cells_of layout.nodes x node) o 0
  of_object node n None e = absurd cc
  of_object node n (Some x) e =
      let g : n ≡ length (object_start layout node x) = cc in
      g ∙ length-replicate (cells_of layout.nodes x node) (zero_of x.shape.ty.stars)

  pub all_cells : AreCellsOf layout cells
  all_cells = record {
    nodes = as_many;
    objects = λ node of_node at.
        sym (length-map of_node (λ values. length values)) ∙ ap (λ ns. length ns) (on_node node of_node at)
        ∙ length-map (node_start layout node) (λ values. length values) ∙ length-map layout.objects (object_start layout node);
    extents = λ node object of_node values at there.
        of_object node (length values) (slice_get layout.objects object) (in_object node object of_node values at there);
  }
