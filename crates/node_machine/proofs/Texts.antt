-- Printing, row by row of the table.
use Rattle.std.proofs.Common.{◌≡◌, ℕ, ◌<◌, ◌≤◌, Option, Some, None, Bool, true, false, List, [], ◌∷◌, length, map, take, drop, reverse, slice_get, refl, ap, ◌∙◌}
use Rattle.std.specs.List.{list_all}
use Rattle.sc_base.specs.declared.value.Value.TheVariants.{Int, Null, Ptr}
use Rattle.sc_layout.specs.Layout.{Arrangement}
use Rattle.sc_isa.specs.declared.code.Code.{Code}
use Rattle.sc_isa.specs.declared.access.Track.TheVariants as tracks
use Rattle.sc_isa.specs.declared.operand.Operand.{Operand}
use Rattle.sc_isa.specs.declared.operand.Operand.TheVariants.{Here, Landing}
use Rattle.sc_isa.specs.Elements.{ints}
use Rattle.sc_isa.specs.Printing.{formatted}
use Rattle.sc_isa.specs.Deeds.{print, printing}
use Rattle.sc_isa.specs.State.{State, with_stack}
use Rattle.sc_isa.specs.Moves.{Taken, Move, Comes, Sticks, Says, taken, act_done}
use Rattle.sc_isa.specs.Table.{acted, prints_text}
use Rattle.node_values.specs.Operands.{is_here, is_int, value_in, int_in}
use Rattle.node_machine.proofs.Taking.{taken_if, too_few, taken_as}

-- numbers are values
pub ints_here : (operands : List Operand) → list_all is_int operands ≡ true → list_all is_here operands ≡ true
ints_here [] h = refl
ints_here (Here (Int n) ∷ operands) h = ints_here operands h
ints_here (Here Null ∷ operands) h = absurd (cc)
ints_here (Here (Ptr a b c) ∷ operands) h = absurd (cc)
ints_here (Landing c n ∷ operands) h = absurd (cc)

pub ints_are : (operands : List Operand) → list_all is_int operands ≡ true
    → ints (map value_in operands) ≡ Some (map int_in operands)
ints_are [] h = refl
ints_are (Here (Int n) ∷ operands) h = rw (ints_are operands h) refl
ints_are (Here Null ∷ operands) h = absurd (cc)
ints_are (Here (Ptr a b c) ∷ operands) h = absurd (cc)
ints_are (Landing c n ∷ operands) h = absurd (cc)

pub no_ints : (operands : List Operand) → list_all is_int operands ≡ false → list_all is_here operands ≡ true
    → ints (map value_in operands) ≡ None
no_ints [] h k = absurd (cc)
no_ints (Here (Int n) ∷ operands) h k = rw (no_ints operands h k) refl
no_ints (Here Null ∷ operands) h k = refl
no_ints (Here (Ptr a b c) ∷ operands) h k = refl
no_ints (Landing c n ∷ operands) h k = absurd (cc)

module _ (code : Code) (layout : Arrangement) (node text count line : ℕ) (s : State) where
  abbrev move : Move
  move = prints_text code layout node (slice_get code.texts text) count line s

  pub print_nothing : slice_get code.texts text ≡ None → move ≡ Comes Sticks
  print_nothing e = rw e refl

  module _ (format : List ℕ) (is : slice_get code.texts text ≡ Some format) where
    abbrev by : Option Taken → Move
    by t = acted layout (print format count) 0 (tracks.Counter 0) line s t

    print_is : move ≡ by (taken count [] s.frame.stack)
    print_is = rw is refl

    pub print_few : length s.frame.stack < count → move ≡ Comes Sticks
    print_few h = print_is ∙ ap by (too_few count [] s.frame.stack h)

    module _ (operands : List Operand) (enough : count ≤ length s.frame.stack)
        (e : operands ≡ reverse (take count s.frame.stack)) where
      taken_is : (b : Bool) → list_all is_here operands ≡ b
          → move ≡ by (taken_if b (map value_in operands) (drop count s.frame.stack))
      taken_is b h =
          print_is ∙ ap by (taken_as count s.frame.stack operands enough e
          ∙ ap (λ c. taken_if c (map value_in operands) (drop count s.frame.stack)) h)

      not_ints : (b : Bool) → list_all is_here operands ≡ b → list_all is_int operands ≡ false → move ≡ Comes Sticks
      not_ints false k h = taken_is false k
      not_ints true k h =
          taken_is true k
          ∙ ap (λ o. act_done 0 (tracks.Counter 0) line (with_stack (drop count s.frame.stack) s) (printing format o)) (no_ints operands h k)

      pub print_wrong : list_all is_int operands ≡ false → move ≡ Comes Sticks
      print_wrong h = not_ints (list_all is_here operands) refl h

      pub print_says : list_all is_int operands ≡ true
          → move ≡ Says (formatted format (map int_in operands)) (with_stack (drop count s.frame.stack) s)
      print_says h =
          taken_is true (ints_here operands h)
          ∙ ap (λ o. act_done 0 (tracks.Counter 0) line (with_stack (drop count s.frame.stack) s) (printing format o)) (ints_are operands h)
