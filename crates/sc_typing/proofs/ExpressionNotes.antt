-- The rules that an expression breaks, in the order in which a reader from left to right meets them: each function
-- adds to the notes what its part of the tree breaks. Which pairs are broken, in no order, is said by `Broken`.
use Rattle.std.specs.Prelude.{ℕ, Bool, true, false, ◌&&◌, Option, Some, None, List, [], ◌∷◌, nat_lt, slice_get}
use Rattle.std.specs.Prelude.{if◌then◌else◌}
use Rattle.std.specs.Option.{option_map}
use Rattle.sc_base.specs.declared.operator.Binary.{Binary}
use Rattle.sc_base.specs.declared.operator.Unary.{Unary}
use Rattle.sc_base.specs.declared.operator.Unary.TheVariants as unary
use Rattle.sc_base.specs.declared.shape.Star.{Star}
use Rattle.sc_base.specs.declared.shape.Shape.{Shape}
use Rattle.sc_tree.specs.Plain.{Expression, expression, Kind, number, null, my_proc, procs, size_int, name, format}
use Rattle.sc_tree.specs.Plain.{chain, both, either, choice, assign, step, plus, prefix, deref, address, cast, postfix}
use Rattle.sc_tree.specs.Plain.{call, Expressions, no_expressions, expressions, Link, link, Links, no_links, links}
use Rattle.sc_tree.specs.Plain.{Tail, index, up, down, Tails, no_tails, tails}
use Rattle.sc_typing.specs.declared.calls.Given.{Given}
use Rattle.sc_typing.specs.declared.file.Meaning.{Meaning}
use Rattle.sc_typing.specs.declared.file.Meaning.TheVariants as means
use Rattle.sc_typing.specs.declared.library.Library.{Library}
use Rattle.sc_typing.specs.declared.known.Spot.{Spot}
use Rattle.sc_typing.specs.declared.notes.Breach.{Breach}
use Rattle.sc_typing.specs.declared.scope.InScope.{InScope}
use Rattle.sc_typing.specs.declared.rule.Rule.{Rule}
use Rattle.sc_typing.specs.declared.rule.Rule.TheVariants as rules
use Rattle.sc_typing.specs.Known.{Judgement}
use Rattle.sc_typing.specs.Scope.{innermost}
use Rattle.sc_typing.specs.Source.{Source, meaning_of, dimensions, has_its_indices}
use Rattle.sc_typing.specs.Rules
use Rattle.sc_typing.specs.Operators.{prefix_kept, cast_type, Gathered}
use Rattle.sc_typing.specs.Chains.{Linked, join_kept, begin_chain, join, row_of}
use Rattle.sc_typing.specs.Tails.{Tailing, begin_tails, pointed, stepped}
use Rattle.sc_typing.specs.Arguments.{arguments_kept, library_kept, library_token, library_rule}
use Rattle.sc_typing.specs.Typing.{judge, judge_tail, judge_behind}
use Rattle.sc_typing.specs.Naming.{leading, called_meaning, format_given}
use Rattle.sc_typing.specs.Notes.{unless}

abbrev pub Noting : Type 0
Noting = List Breach → List Breach

-- the value is used
unfoldable pub note_used : Judgement → Noting
note_used j broken = unless (Rules.value_kept j.known) j.start rules.Use broken

-- the value is used and tested
unfoldable pub note_tested : Judgement → Noting
note_tested j broken = unless (Rules.test_kept j.known) j.start rules.Test (note_used j broken)

-- the value is used, and a rule on it stands at the token
unfoldable pub note_one : Judgement → (kept : Bool) → (at : ℕ) → Rule → Noting
note_one j kept at rule broken = unless kept at rule (note_used j broken)

-- two values are used, and a rule on both stands at the token
unfoldable pub note_two : Judgement → Judgement → (kept : Bool) → (at : ℕ) → Rule → Noting
note_two left right kept at rule broken = unless kept at rule (note_used right (note_used left broken))

-- `!` tests its operand, and `-` and `~` ask for an int
abbrev pub note_prefix : Unary → Judgement → Spot → Noting
note_prefix unary.Not j spot broken = note_tested j broken
note_prefix unary.Minus j spot broken = note_one j (Rules.int_kept j.known) spot.at rules.Ints broken
note_prefix unary.Invert j spot broken = note_one j (Rules.int_kept j.known) spot.at rules.Ints broken

abbrev pub note_set : Option Binary → Judgement → Judgement → Spot → Noting
note_set None left right spot broken = note_two left right (Rules.assignment_kept left right) spot.at rules.Assignment broken
note_set (Some op) left right spot broken = note_two left right (Rules.update_kept op left right) spot.at rules.Update broken

unfoldable pub note_choice : Judgement → Judgement → Judgement → Spot → Noting
note_choice test on off spot broken = note_two on off (Rules.arms_kept on.known off.known) spot.at rules.Use (note_tested test broken)

unfoldable pub note_join : Option Linked → Binary → Judgement → (at : ℕ) → Noting
note_join left op right at broken = note_one right (join_kept left op right) at (row_of op).rule broken

-- an index of the object itself, or one of the pointer before it
unfoldable pub note_index : Tailing → Judgement → (at : ℕ) → Noting
note_index t j at broken =
    if nat_lt 0 t.skip then note_one j (Rules.index_kept j.known) at rules.Index broken
    else unless (pointed t) at rules.Pointer (note_one j (Rules.index_kept j.known) at rules.Index broken)

unfoldable pub note_step : Tailing → (at : ℕ) → Noting
note_step t at broken = unless (stepped t) at rules.Update broken

-- a name that no local has, which is not called
abbrev pub note_object : (indices : ℕ) → Option Shape → Spot → Noting
note_object indices None spot broken = broken
note_object indices (Some object) spot broken = unless (Rules.indices_kept object indices) spot.at rules.Indices broken

abbrev pub note_meaning : Source → (indices : ℕ) → Meaning → Spot → Noting
note_meaning c indices (means.Object o) spot broken = note_object indices (slice_get c.objects o) spot broken
note_meaning c indices (means.Function _) spot broken = unless false spot.at rules.Called broken
note_meaning c indices (means.Library _) spot broken = unless false spot.at rules.Called broken
note_meaning c indices means.Nothing spot broken = unless false spot.at rules.Declared broken

abbrev pub note_name_in : Source → (indices n : ℕ) → Spot → Option InScope → Noting
note_name_in c indices n spot (Some l) broken = broken
note_name_in c indices n spot None broken = note_meaning c indices (meaning_of c n) spot broken

unfoldable pub note_name : Source → List InScope → (indices n : ℕ) → Spot → Noting
note_name c locals indices n spot broken = note_name_in c indices n spot (innermost n locals) broken

-- the call of what its name means
unfoldable pub note_call : Source → Option Meaning → Option Given → List Judgement → Spot → Noting
note_call c None given js spot broken = unless false spot.at rules.Called broken
note_call c (Some (means.Library library)) given js spot broken =
    unless (library_kept c library given js) (library_token library given spot.at) (library_rule library) broken
note_call c (Some (means.Function function)) given js spot broken = unless (arguments_kept c function js) spot.at rules.Arguments broken
note_call c (Some (means.Object _)) given js spot broken = unless false spot.at rules.Called broken
note_call c (Some means.Nothing) given js spot broken = unless false spot.at rules.Declared broken

abbrev pub note_call_judged : Source → Option Meaning → Expressions → List Judgement → Spot → Noting
note_call_judged c meaning args js spot broken = note_call c meaning (format_given meaning args) js spot broken

abbrev mutual
  pub note_value : Source → List InScope → (indices : ℕ) → Expression → Noting
  note_value c locals indices (expression k start at line) broken =
      note_kind c locals indices k (record { start = start; at = at; line = line }) broken

  pub note_kind : Source → List InScope → (indices : ℕ) → Kind → Spot → Noting
  note_kind c locals indices (number _) spot broken = broken
  note_kind c locals indices null spot broken = broken
  note_kind c locals indices my_proc spot broken = broken
  note_kind c locals indices procs spot broken = broken
  note_kind c locals indices size_int spot broken = broken
  note_kind c locals indices (name n) spot broken = note_name c locals indices n spot broken
  note_kind c locals indices (format _) spot broken = unless false spot.at rules.Format broken
  note_kind c locals indices (chain first rest) spot broken =
      note_links c locals (begin_chain (judge c locals 0 first)) rest (note_used (judge c locals 0 first) (note_value c locals 0 first broken))
  note_kind c locals indices (both all) spot broken = note_operands c locals all broken
  note_kind c locals indices (either all) spot broken = note_operands c locals all broken
  note_kind c locals indices (choice test on off) spot broken =
      note_choice (judge c locals 0 test) (judge c locals 0 on) (judge c locals 0 off) spot
      (note_value c locals 0 off (note_value c locals 0 on (note_value c locals 0 test broken)))
  note_kind c locals indices (assign op left right) spot broken =
      note_set op (judge c locals 0 left) (judge c locals 0 right) spot (note_value c locals 0 right (note_value c locals 0 left broken))
  note_kind c locals indices (step is_up place) spot broken =
      note_one (judge c locals 0 place) (Rules.place_kept true (judge c locals 0 place).place (judge c locals 0 place).known) spot.at rules.Update
      (note_value c locals 0 place broken)
  note_kind c locals indices (plus e) spot broken =
      note_one (judge c locals 0 e) (Rules.int_kept (judge c locals 0 e).known) spot.at rules.Ints (note_value c locals 0 e broken)
  note_kind c locals indices (prefix op e) spot broken = note_prefix op (judge c locals 0 e) spot (note_value c locals 0 e broken)
  note_kind c locals indices (deref e) spot broken =
      note_one (judge c locals 0 e) (Rules.pointer_kept (judge c locals 0 e).known) spot.at rules.Pointer (note_value c locals 0 e broken)
  note_kind c locals indices (address e) spot broken =
      note_one (judge c locals 0 e) (Rules.address_kept (judge c locals 0 e)) spot.at rules.Address (note_value c locals 0 e broken)
  note_kind c locals indices (cast stars e) spot broken =
      note_one (judge c locals 0 e) (Rules.cast_kept (cast_type stars) (judge c locals 0 e).known) spot.at rules.Use (note_value c locals 0 e broken)
  note_kind c locals indices (postfix first rest) spot broken =
      note_tails c locals (begin_tails (judge c locals (leading rest) first)) rest
      (note_used (judge c locals (leading rest) first) (note_value c locals (leading rest) first broken))
  note_kind c locals indices (call n args) spot broken =
      note_call_judged c (called_meaning c locals n) args (judge_behind c locals (format_given (called_meaning c locals n) args) args) spot
      (note_behind c locals (format_given (called_meaning c locals n) args) args broken)

  pub note_links : Source → List InScope → Option Linked → Links → Noting
  note_links c locals left no_links broken = broken
  note_links c locals left (links (link op e at line) more) broken =
      note_links c locals (join left op (judge c locals 0 e) at line) more
      (note_join left op (judge c locals 0 e) at (note_value c locals 0 e broken))

  pub note_operands : Source → List InScope → Expressions → Noting
  note_operands c locals no_expressions broken = broken
  note_operands c locals (expressions e more) broken =
      note_operands c locals more (note_tested (judge c locals 0 e) (note_value c locals 0 e broken))

  pub note_tails : Source → List InScope → Tailing → Tails → Noting
  note_tails c locals t no_tails broken = broken
  note_tails c locals t (tails tail more) broken =
      note_tails c locals (judge_tail c locals t tail) more (note_tail c locals t tail broken)

  pub note_tail : Source → List InScope → Tailing → Tail → Noting
  note_tail c locals t (index e at line) broken = note_index t (judge c locals 0 e) at (note_value c locals 0 e broken)
  note_tail c locals t (up at line) broken = note_step t at broken
  note_tail c locals t (down at line) broken = note_step t at broken

  pub note_behind : Source → List InScope → Option Given → Expressions → Noting
  note_behind c locals given no_expressions broken = broken
  note_behind c locals None (expressions e more) broken =
      note_arguments c locals more (note_used (judge c locals 0 e) (note_value c locals 0 e broken))
  note_behind c locals (Some _) (expressions _ more) broken = note_arguments c locals more broken

  pub note_arguments : Source → List InScope → Expressions → Noting
  note_arguments c locals no_expressions broken = broken
  note_arguments c locals (expressions e more) broken =
      note_arguments c locals more (note_used (judge c locals 0 e) (note_value c locals 0 e broken))
