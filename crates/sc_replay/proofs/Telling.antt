-- What a history shows is told in one way.
use Rattle.std.proofs.Common.{◌≡◌, ℕ, zero, suc, ◌<◌, List, [], ◌∷◌, length, Option, Some, None, refl, sym, ap, ◌∙◌, arith, slice_get, get_or}
use Rattle.std.specs.Option.{option_and_then}
use Rattle.std.proofs.lemmas.Option.{slice_get-get_or}
use Rattle.sc_base.specs.declared.value.End.{End}
use Rattle.sc_base.specs.declared.value.Place.{Place}
use Rattle.sc_base.specs.declared.value.Value.{Value}
use Rattle.sc_layout.specs.Layout.{Arrangement}
use Rattle.sc_layout.specs.Place.{IsPlace}
use Rattle.sc_meaning.specs.declared.outcome.Outcome.{Outcome}
use Rattle.sc_meaning.specs.Whole as whole
use Rattle.sc_replay.specs.Judging.{Tells, cell_in}

-- lists that have the same elements
same_list : {A : Type 0} (xs ys : List A) → length xs ≡ length ys → ((i : ℕ) → i < length xs → slice_get xs i ≡ slice_get ys i) → xs ≡ ys
same_list [] [] l h = refl
same_list [] (y ∷ ys) l h = absurd (omega arith)
same_list (x ∷ xs) [] l h = absurd (omega arith)
same_list (x ∷ xs) (y ∷ ys) l h =
    let e : Some x ≡ Some y = h 0 (omega arith) in
    let g : x ≡ y = cc in
    let t : xs ≡ ys = same_list xs ys (omega arith) (λ i lt. h (suc i) (omega arith)) in
    ap (λ z. z ∷ xs) g ∙ ap (λ zs. y ∷ zs) t

cell_at : (cells : List (List (List Value))) (place : Place) (objects : List (List Value)) (values : List Value)
    → slice_get cells place.node ≡ Some objects → slice_get objects place.object ≡ Some values
    → cell_in cells place ≡ slice_get values place.offset
cell_at cells place objects values e f =
    ap (λ o. option_and_then (λ vs. slice_get vs place.offset) (option_and_then (λ os. slice_get os place.object) o)) e
    ∙ ap (option_and_then (λ vs. slice_get vs place.offset)) f

abbrev outcome_of : List End → List (List ℕ) → List (List (List Value)) → Outcome
outcome_of ends printed memory = record { ends = ends; printed = printed; memory = memory }

module _ (layout : Arrangement) (shown : whole.Outcome) (a b : Outcome) (at : Tells layout shown a) (bt : Tells layout shown b) where
  module _ (node : ℕ) (below : node < layout.nodes) where
    abbrev a_node : List (List Value)
    a_node = get_or a.memory node []

    abbrev b_node : List (List Value)
    b_node = get_or b.memory node []

    a_there : slice_get a.memory node ≡ Some a_node
    a_there = slice_get-get_or a.memory node [] (let l = at.cells.nodes in omega arith)

    b_there : slice_get b.memory node ≡ Some b_node
    b_there = slice_get-get_or b.memory node [] (let l = bt.cells.nodes in omega arith)

    module _ (object : ℕ) (within : object < length a_node) where
      abbrev a_cells : List Value
      a_cells = get_or a_node object []

      abbrev b_cells : List Value
      b_cells = get_or b_node object []

      many_a : length a_node ≡ length layout.objects
      many_a = at.cells.objects node a_node a_there

      many_b : length b_node ≡ length layout.objects
      many_b = bt.cells.objects node b_node b_there

      a_here : slice_get a_node object ≡ Some a_cells
      a_here = slice_get-get_or a_node object [] within

      b_here : slice_get b_node object ≡ Some b_cells
      b_here = slice_get-get_or b_node object [] (let l = many_a in let m = many_b in omega arith)

      same_cell : (offset : ℕ) → offset < length a_cells → slice_get a_cells offset ≡ slice_get b_cells offset
      same_cell offset lt =
          let place : Place = record { object = object; node = node; offset = offset } in
          let is : IsPlace layout place = record {
            object = let l = many_a in omega arith;
            node = below;
            offset = let l = at.cells.extents node object a_node a_cells a_there a_here in omega arith;
          } in
          sym (cell_at a.memory place a_node a_cells a_there a_here) ∙ at.memory place is
          ∙ sym (bt.memory place is) ∙ cell_at b.memory place b_node b_cells b_there b_here

      same_values : a_cells ≡ b_cells
      same_values =
          same_list a_cells b_cells (at.cells.extents node object a_node a_cells a_there a_here ∙ sym (bt.cells.extents node object b_node b_cells b_there b_here)) same_cell

    same_objects : a_node ≡ b_node
    same_objects =
        same_list a_node b_node (at.cells.objects node a_node a_there ∙ sym (bt.cells.objects node b_node b_there))
        (λ object lt. a_here object lt ∙ ap Some (same_values object lt) ∙ sym (b_here object lt))

  same_memory : a.memory ≡ b.memory
  same_memory =
      same_list a.memory b.memory (at.cells.nodes ∙ sym bt.cells.nodes)
      (λ node lt. let below : node < layout.nodes = (let l = at.cells.nodes in omega arith) in
      a_there node below ∙ ap Some (same_objects node below) ∙ sym (b_there node below))

  same_ends : a.ends ≡ b.ends
  same_ends =
      same_list a.ends b.ends (at.all_ends ∙ sym bt.all_ends)
      (λ node lt. let below : node < layout.nodes = (let l = at.all_ends in omega arith) in at.ends node below ∙ sym (bt.ends node below))

  same_texts : a.printed ≡ b.printed
  same_texts =
      same_list a.printed b.printed (at.all_texts ∙ sym bt.all_texts)
      (λ node lt. let below : node < layout.nodes = (let l = at.all_texts in omega arith) in at.texts node below ∙ sym (bt.texts node below))

  pub told_in_one_way : a ≡ b
  told_in_one_way =
      ap (λ es. outcome_of es a.printed a.memory) same_ends ∙ ap (λ ts. outcome_of b.ends ts a.memory) same_texts
      ∙ ap (λ ms. outcome_of b.ends b.printed ms) same_memory
