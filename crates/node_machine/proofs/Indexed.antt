-- The element instruction, row by row of the table.
use Rattle.std.proofs.Common.{◌≡◌, ℕ, ◌<◌, ◌≤◌, ℤ, Option, Some, None, Bool, true, false, if◌then◌else◌, List, [], length, map, take, drop, reverse, slice_get, refl, ap, ◌∙◌}
use Rattle.std.specs.List.{list_all}
use Rattle.sc_layout.specs.Layout.{Arrangement, LaidObject}
use Rattle.sc_isa.specs.declared.access.Track.{Track}
use Rattle.sc_isa.specs.declared.code.Code.{Code}
use Rattle.sc_isa.specs.declared.operand.Operand.{Operand}
use Rattle.sc_isa.specs.Elements.{Outcome, wrong, element}
use Rattle.sc_isa.specs.Pure.{elem}
use Rattle.sc_isa.specs.Deeds.{pure, made_by}
use Rattle.sc_isa.specs.State.{State, with_stack}
use Rattle.sc_isa.specs.Moves.{Taken, Move, Comes, Sticks, taken, gain_done}
use Rattle.sc_isa.specs.Table.{gained}
use Rattle.node_values.specs.Elements.{element_of}
use Rattle.node_values.specs.Operands.{is_here, is_int, value_in, int_in}
use Rattle.node_machine.proofs.Taking.{taken_if, too_few, taken_as}
use Rattle.node_machine.proofs.Texts.{ints_here, ints_are, no_ints}

no_element : (layout : Arrangement) (object : ℕ) (laid : Option LaidObject) → element layout object laid None ≡ wrong
no_element layout object None = refl
no_element layout object (Some laid) = refl

module _ (code : Code) (layout : Arrangement) (own object count : ℕ) (site : ℕ) (track : Track) (line : ℕ) (s : State) where
  abbrev by : Option Taken → Move
  by t = gained code layout own (pure (elem object count)) site track line s t

  abbrev gives : Outcome → Move
  gives o = gain_done code site track line (with_stack (drop count s.frame.stack) s) (made_by o)

  pub elem_few : length s.frame.stack < count → by (taken count [] s.frame.stack) ≡ Comes Sticks
  elem_few h = ap by (too_few count [] s.frame.stack h)

  module _ (operands : List Operand) (enough : count ≤ length s.frame.stack)
      (e : operands ≡ reverse (take count s.frame.stack)) where
    taken_is : (b : Bool) → list_all is_here operands ≡ b
        → by (taken count [] s.frame.stack) ≡ by (taken_if b (map value_in operands) (drop count s.frame.stack))
    taken_is b h =
        ap by (taken_as count s.frame.stack operands enough e
        ∙ ap (λ c. taken_if c (map value_in operands) (drop count s.frame.stack)) h)

    abbrev laid : Option LaidObject
    laid = slice_get layout.objects object

    abbrev chosen : Bool → Outcome
    chosen b = if b then element layout object laid (Some (map int_in operands)) else wrong

    as_ints : list_all is_int operands ≡ true → by (taken count [] s.frame.stack) ≡ gives (chosen true)
    as_ints h =
        taken_is true (ints_here operands h)
        ∙ ap (λ (is : Option (List ℤ)). gives (element layout object laid is)) (ints_are operands h)

    as_others : (b : Bool) → list_all is_here operands ≡ b → list_all is_int operands ≡ false
        → by (taken count [] s.frame.stack) ≡ gives (chosen false)
    as_others false k h = taken_is false k
    as_others true k h =
        taken_is true k
        ∙ ap (λ (is : Option (List ℤ)). gives (element layout object laid is)) (no_ints operands h k)
        ∙ ap gives (no_element layout object laid)

    elem_by : (b : Bool) → list_all is_int operands ≡ b → by (taken count [] s.frame.stack) ≡ gives (chosen b)
    elem_by true h = as_ints h
    elem_by false h = as_others (list_all is_here operands) refl h

    pub elem_is : by (taken count [] s.frame.stack) ≡ gives (element_of layout object operands)
    elem_is = elem_by (list_all is_int operands) refl
