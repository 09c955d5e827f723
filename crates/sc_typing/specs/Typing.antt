-- Expressions judged from their parts: the typed expression, where no rule is broken in it. `locals` are those in
-- scope, and `indices` is how many indices stand directly behind the expression.
use Rattle.std.specs.Prelude.{ℕ, true, false, Option, Some, None, List, [], ◌∷◌, if◌then◌else◌}
use Rattle.std.specs.Option.{option_map}
use Rattle.sc_tree.specs.Plain.{Expression, expression, Kind, number, null, my_proc, procs, size_int, name, format}
use Rattle.sc_tree.specs.Plain.{chain, both, either, choice, assign, step, plus, prefix, deref, address, cast, postfix}
use Rattle.sc_tree.specs.Plain.{call, Expressions, no_expressions, expressions, link, Links, no_links, links, Tail}
use Rattle.sc_tree.specs.Plain.{index, up, down, Tails, no_tails, tails}
use Rattle.sc_tree.specs.PlainTyped as typed
use Rattle.sc_tree.specs.PlainTyped.{TypedForm, TypedExpression}
use Rattle.sc_tree.specs.ViewTyped.{typed_expressions_of}
use Rattle.sc_typing.specs.declared.calls.Given.{Given}
use Rattle.sc_typing.specs.declared.file.Meaning.{Meaning}
use Rattle.sc_typing.specs.declared.known.Spot.{Spot}
use Rattle.sc_typing.specs.declared.places.PlaceKind.TheVariants as place
use Rattle.sc_typing.specs.declared.scope.InScope.{InScope}
use Rattle.sc_typing.specs.Known.{Judgement, judged}
use Rattle.sc_typing.specs.Source.{Source}
use Rattle.sc_typing.specs.Operators.{int_value, number_of, plus_of, prefix_of, deref_of, address_of, cast_of, step_of}
use Rattle.sc_typing.specs.Operators.{set_of, choice_of, Gathered, gather}
use Rattle.sc_typing.specs.Chains.{Linked, begin_chain, join, chain_value}
use Rattle.sc_typing.specs.Tails.{Tailing, begin_tails, index_tail, step_tail, postfix_value}
use Rattle.sc_typing.specs.Calls.{call_of}
use Rattle.sc_typing.specs.Naming.{named, constant, null_constant, leading, called_meaning, format_given}

abbrev pub nothing_gathered : Gathered
nothing_gathered = record { all = []; whole = true }

abbrev pub gathered_value : (List TypedExpression → TypedForm) → Spot → Gathered → Judgement
gathered_value form spot g = judged spot place.NoPlace (if g.whole then Some (int_value (form g.all) spot) else None)

abbrev pub both_form : List TypedExpression → TypedForm
both_form es = typed.both (typed_expressions_of es)

abbrev pub either_form : List TypedExpression → TypedForm
either_form es = typed.either (typed_expressions_of es)

abbrev pub chained : Spot → Option Linked → Judgement
chained spot all = judged spot place.NoPlace (option_map (chain_value spot) all)

abbrev pub tailed : Spot → Tailing → Judgement
tailed spot all = judged spot all.place (option_map (postfix_value spot) all.tailed)

-- the call of what its name means, with the judged arguments
abbrev pub call_judged : Source → Option Meaning → Expressions → List Judgement → Spot → Judgement
call_judged c meaning args js spot = call_of c meaning (format_given meaning args) js spot

abbrev mutual
  pub judge : Source → List InScope → (indices : ℕ) → Expression → Judgement
  judge c locals indices (expression k start at line) =
      judge_kind c locals indices k (record { start = start; at = at; line = line })

  pub judge_kind : Source → List InScope → (indices : ℕ) → Kind → Spot → Judgement
  judge_kind c locals indices (number n) spot = number_of n spot
  judge_kind c locals indices null spot = null_constant spot
  judge_kind c locals indices my_proc spot = constant typed.my_proc spot
  judge_kind c locals indices procs spot = constant typed.procs spot
  judge_kind c locals indices size_int spot = constant typed.size_int spot
  judge_kind c locals indices (name n) spot = named c locals indices n spot
  judge_kind c locals indices (format _) spot = judged spot place.NoPlace None
  judge_kind c locals indices (chain first rest) spot =
      chained spot (judge_links c locals (begin_chain (judge c locals 0 first)) rest)
  judge_kind c locals indices (both all) spot =
      gathered_value both_form spot (judge_operands c locals nothing_gathered all)
  judge_kind c locals indices (either all) spot =
      gathered_value either_form spot (judge_operands c locals nothing_gathered all)
  judge_kind c locals indices (choice test on off) spot =
      choice_of (judge c locals 0 test) (judge c locals 0 on) (judge c locals 0 off) spot
  judge_kind c locals indices (assign op left right) spot =
      set_of op (judge c locals 0 left) (judge c locals 0 right) spot
  judge_kind c locals indices (step is_up place) spot = step_of is_up (judge c locals 0 place) spot
  judge_kind c locals indices (plus e) spot = plus_of (judge c locals 0 e) spot
  judge_kind c locals indices (prefix op e) spot = prefix_of op (judge c locals 0 e) spot
  judge_kind c locals indices (deref e) spot = deref_of (judge c locals 0 e) spot
  judge_kind c locals indices (address e) spot = address_of (judge c locals 0 e) spot
  judge_kind c locals indices (cast stars e) spot = cast_of stars (judge c locals 0 e) spot
  judge_kind c locals indices (postfix first rest) spot =
      tailed spot (judge_tails c locals (begin_tails (judge c locals (leading rest) first)) rest)
  judge_kind c locals indices (call n args) spot =
      call_judged c (called_meaning c locals n) args
      (judge_behind c locals (format_given (called_meaning c locals n) args) args) spot

  -- the chain from the left so far, joined to the links that follow
  pub judge_links : Source → List InScope → Option Linked → Links → Option Linked
  judge_links c locals left no_links = left
  judge_links c locals left (links (link op e at line) more) =
      judge_links c locals (join left op (judge c locals 0 e) at line) more

  pub judge_operands : Source → List InScope → Gathered → Expressions → Gathered
  judge_operands c locals g no_expressions = g
  judge_operands c locals g (expressions e more) = judge_operands c locals (gather g (judge c locals 0 e)) more

  -- the postfix expression from the left so far, with what follows behind it
  pub judge_tails : Source → List InScope → Tailing → Tails → Tailing
  judge_tails c locals t no_tails = t
  judge_tails c locals t (tails tail more) = judge_tails c locals (judge_tail c locals t tail) more

  pub judge_tail : Source → List InScope → Tailing → Tail → Tailing
  judge_tail c locals t (index e at line) = index_tail t (judge c locals 0 e) at line
  judge_tail c locals t (up at line) = step_tail t true at line
  judge_tail c locals t (down at line) = step_tail t false at line

  -- a format that is printed is none of the arguments that are judged
  pub judge_behind : Source → List InScope → Option Given → Expressions → List Judgement
  judge_behind c locals given no_expressions = []
  judge_behind c locals None (expressions e more) = judge c locals 0 e ∷ judge_arguments c locals more
  judge_behind c locals (Some _) (expressions _ more) = judge_arguments c locals more

  pub judge_arguments : Source → List InScope → Expressions → List Judgement
  judge_arguments c locals no_expressions = []
  judge_arguments c locals (expressions e more) = judge c locals 0 e ∷ judge_arguments c locals more
