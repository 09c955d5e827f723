-- What is noted of an expression is exactly what it breaks, or an expression within it.
use Rattle.std.proofs.Common.{◌≡◌, refl, sym, ap, ◌∙◌, subst, ℕ, true, false, List, Option, Some, None, inl, inr}
use Rattle.sc_tree.specs.Plain.{Expression, expression, Kind, number, null, my_proc, procs, size_int, name, format}
use Rattle.sc_tree.specs.Plain.{chain, both, either, choice, assign, step, plus, prefix, deref, address, cast, postfix}
use Rattle.sc_tree.specs.Plain.{call, Expressions, no_expressions, expressions, link, Links, no_links, links, Tail}
use Rattle.sc_tree.specs.Plain.{index, up, down, Tails, no_tails, tails}
use Rattle.sc_typing.specs.declared.calls.Given.{Given}
use Rattle.sc_typing.specs.declared.file.Meaning.{Meaning}
use Rattle.sc_typing.specs.declared.file.Meaning.TheVariants as means
use Rattle.sc_typing.specs.declared.known.Spot.{Spot}
use Rattle.sc_typing.specs.declared.notes.Breach.{Breach}
use Rattle.sc_typing.specs.declared.scope.InScope.{InScope}
use Rattle.sc_typing.specs.declared.rule.Rule.{Rule}
use Rattle.sc_typing.specs.declared.rule.Rule.TheVariants as rules
use Rattle.sc_typing.specs.Known.{Judgement}
use Rattle.sc_typing.specs.Source.{Source}
use Rattle.sc_typing.specs.Chains.{Linked, join}
use Rattle.sc_typing.specs.Tails.{Tailing}
use Rattle.sc_typing.specs.Arguments.{library_token, library_rule}
use Rattle.sc_typing.specs.Typing.{judge, judge_tail}
use Rattle.sc_typing.specs.Naming.{leading, called_meaning, format_given}
use Rattle.sc_typing.proofs.ExpressionNotes.{note_links, note_operands, note_tails, note_tail, note_behind}
use Rattle.sc_typing.proofs.ExpressionNotes.{note_arguments}
use Rattle.sc_typing.specs.BrokenExpressions as Broken
use Rattle.sc_typing.specs.ExpressionParts as Parts
use Rattle.sc_typing.specs.ExpressionParts.{IsOperand, IsTested, known_of, arguments_of, begun_chain, begun_tails}
use Rattle.sc_typing.specs.BrokenExpressions.{breach, BrokenIn, here, within_operand, Breaks, void_used, sign_no_int}
use Rattle.sc_typing.specs.BrokenExpressions.{test_no_scalar}
use Rattle.sc_typing.proofs.Exactly.{Exact, fails, Either, exact-then, exact-as}
use Rattle.sc_typing.proofs.OperandsNoted.{Inside, ExactIn, Operand, exact-used, operand_breaks}
use Rattle.sc_typing.proofs.KindsNoted as kinds
use Rattle.sc_typing.proofs.NamesNoted.{is_declared, may_be_called, is_declared-is, call_kept-is, CallFails}
use Rattle.sc_typing.proofs.NamesNoted.{exact-called, exact-name}
use Rattle.sc_typing.proofs.ListsNoted.{at_one, SomeTested, SomeUsed, InArguments, some_argument, SomeLink, some_link}
use Rattle.sc_typing.proofs.ListsNoted.{TailBreaks, SomeTail, some_tail, no_pointer, exact-no_expressions}
use Rattle.sc_typing.proofs.ListsNoted.{exact-operand, exact-argument, exact-no_argument, exact-all_arguments}
use Rattle.sc_typing.proofs.ListsNoted.{exact-behind_format, exact-no_links, exact-link, exact-no_tails}
use Rattle.sc_typing.proofs.ListsNoted.{exact-tail_then, exact-index_tail, exact-up, exact-down}
use Rattle.sc_typing.proofs.OperandsNoted.{Tested}

module _ (c : Source) (locals : List InScope) (i start at line : ℕ) where
  exact-both : (all : Expressions) → Exact (note_operands c locals all) (SomeTested c locals all) →
      ExactIn c locals i (expression (both all) start at line)
  exact-both all h = exact-as to fro h
    where
      to : (b : Breach) → SomeTested c locals all b → Inside c locals i (expression (both all) start at line) b
      to b (at_one s (inl f)) = within_operand (IsOperand.of_both s) f
      to b (at_one s (inr (inl f))) = operand_breaks (IsOperand.of_both s) b (inr f)
      to b (at_one s (inr (inr (fails f)))) = here (test_no_scalar (IsTested.of_both s) f)

      fro : (b : Breach) → Inside c locals i (expression (both all) start at line) b → SomeTested c locals all b
      fro b (here (sign_no_int s f)) = elim s [ ]
      fro b (here (test_no_scalar (IsTested.of_both s) f)) = at_one s (inr (inr (fails f)))
      fro b (here (void_used (IsOperand.of_both s) f)) = at_one s (inr (inl (fails f)))
      fro b (within_operand (IsOperand.of_both s) f) = at_one s (inl f)

  exact-either : (all : Expressions) → Exact (note_operands c locals all) (SomeTested c locals all) →
      ExactIn c locals i (expression (either all) start at line)
  exact-either all h = exact-as to fro h
    where
      to : (b : Breach) → SomeTested c locals all b → Inside c locals i (expression (either all) start at line) b
      to b (at_one s (inl f)) = within_operand (IsOperand.of_either s) f
      to b (at_one s (inr (inl f))) = operand_breaks (IsOperand.of_either s) b (inr f)
      to b (at_one s (inr (inr (fails f)))) = here (test_no_scalar (IsTested.of_either s) f)

      fro : (b : Breach) → Inside c locals i (expression (either all) start at line) b → SomeTested c locals all b
      fro b (here (sign_no_int s f)) = elim s [ ]
      fro b (here (test_no_scalar (IsTested.of_either s) f)) = at_one s (inr (inr (fails f)))
      fro b (here (void_used (IsOperand.of_either s) f)) = at_one s (inr (inl (fails f)))
      fro b (within_operand (IsOperand.of_either s) f) = at_one s (inl f)

  abbrev Chained : Expression → Links → Breach → Type 0
  Chained first rest = Either (Operand c locals 0 first) (SomeLink c locals (begun_chain c locals first) rest)

  exact-chain : (first : Expression) (rest : Links) → ExactIn c locals 0 first →
      Exact (note_links c locals (begun_chain c locals first) rest)
      (SomeLink c locals (begun_chain c locals first) rest) →
      ExactIn c locals i (expression (chain first rest) start at line)
  exact-chain first rest h hs = exact-as to fro (exact-then (exact-then h (exact-used (known_of c locals first))) hs)
    where
      to : (b : Breach) → Chained first rest b → Inside c locals i (expression (chain first rest) start at line) b
      to b (inl f) = operand_breaks Parts.chain_first b f
      to b (inr (some_link s (inl f))) = within_operand (Parts.chain_link s) f
      to b (inr (some_link s (inr (inl f)))) = operand_breaks (Parts.chain_link s) b (inr f)
      to b (inr (some_link s (inr (inr (fails f))))) = here (Broken.link_broken s f)

      fro : (b : Breach) → Inside c locals i (expression (chain first rest) start at line) b → Chained first rest b
      fro b (here (Broken.link_broken s f)) = inr (some_link s (inr (inr (fails f))))
      fro b (here (sign_no_int s f)) = elim s [ ]
      fro b (here (test_no_scalar s f)) = elim s [ ]
      fro b (here (void_used Parts.chain_first f)) = inl (inr (fails f))
      fro b (here (void_used (Parts.chain_link s) f)) = inr (some_link s (inr (inl (fails f))))
      fro b (within_operand Parts.chain_first f) = inl (inl f)
      fro b (within_operand (Parts.chain_link s) f) = inr (some_link s (inl f))

  abbrev Postfix : Expression → Tails → Breach → Type 0
  Postfix first rest =
      Either (Operand c locals (leading rest) first) (SomeTail c locals (begun_tails c locals first rest) rest)

  exact-postfix : (first : Expression) (rest : Tails) → ExactIn c locals (leading rest) first →
      Exact (note_tails c locals (begun_tails c locals first rest) rest)
      (SomeTail c locals (begun_tails c locals first rest) rest) →
      ExactIn c locals i (expression (postfix first rest) start at line)
  exact-postfix first rest h hs =
      exact-as to fro (exact-then (exact-then h (exact-used (judge c locals (leading rest) first))) hs)
    where
      to : (b : Breach) → Postfix first rest b → Inside c locals i (expression (postfix first rest) start at line) b
      to b (inl f) = operand_breaks Parts.postfix_first b f
      to b (inr (some_tail {it = index e at_index line_index} s (inl f))) = within_operand (Parts.postfix_index s) f
      to b (inr (some_tail {it = index e at_index line_index} s (inr (inl (inl f))))) =
          operand_breaks (Parts.postfix_index s) b (inr f)
      to b (inr (some_tail {it = index e at_index line_index} s (inr (inl (inr (fails f)))))) =
          here (Broken.index_no_int s f)
      to b (inr (some_tail {it = index e at_index line_index} s (inr (inr (no_pointer own f))))) =
          here (Broken.index_no_pointer s own f)
      to b (inr (some_tail {it = up at_step line_step} s (fails f))) = here (Broken.up_broken s f)
      to b (inr (some_tail {it = down at_step line_step} s (fails f))) = here (Broken.down_broken s f)

      fro : (b : Breach) → Inside c locals i (expression (postfix first rest) start at line) b → Postfix first rest b
      fro b (here (Broken.index_no_int s f)) = inr (some_tail s (inr (inl (inr (fails f)))))
      fro b (here (Broken.index_no_pointer s own f)) = inr (some_tail s (inr (inr (no_pointer own f))))
      fro b (here (Broken.up_broken s f)) = inr (some_tail s (fails f))
      fro b (here (Broken.down_broken s f)) = inr (some_tail s (fails f))
      fro b (here (sign_no_int s f)) = elim s [ ]
      fro b (here (test_no_scalar s f)) = elim s [ ]
      fro b (here (void_used Parts.postfix_first f)) = inl (inr (fails f))
      fro b (here (void_used (Parts.postfix_index s) f)) = inr (some_tail s (inr (inl (inl (fails f)))))
      fro b (within_operand Parts.postfix_first f) = inl (inl f)
      fro b (within_operand (Parts.postfix_index s) f) = inr (some_tail s (inl f))

  abbrev the_spot : Spot
  the_spot = record { start = start; at = at; line = line }

  call_breaks : (n : ℕ) (args : Expressions) (m : Option Meaning) → called_meaning c locals n ≡ m → (b : Breach) →
      CallFails c m (format_given (called_meaning c locals n) args) (arguments_of c locals n args) the_spot b →
      Breaks c locals i start at line (call n args) b
  call_breaks n args None e b (fails f) = Broken.called (call_kept-is c locals n ∙ ap may_be_called e)
  call_breaks n args (Some (means.Library l)) e b (fails f) = Broken.library_broken e f
  call_breaks n args (Some (means.Function l)) e b (fails f) = Broken.arguments_broken e f
  call_breaks n args (Some (means.Object o)) e b (fails f) =
      Broken.called (call_kept-is c locals n ∙ ap may_be_called e)
  call_breaks n args (Some means.Nothing) e b (fails f) =
      Broken.undeclared_call (is_declared-is c locals n ∙ ap is_declared e)

  of_undeclared : (m : Option Meaning) (given : Option Given) (js : List Judgement) → is_declared m ≡ false →
      CallFails c m given js the_spot (breach at rules.Declared)
  of_undeclared None given js h = absurd (let z : true ≡ false = h in cc)
  of_undeclared (Some (means.Object o)) given js h = absurd (let z : true ≡ false = h in cc)
  of_undeclared (Some (means.Function f)) given js h = absurd (let z : true ≡ false = h in cc)
  of_undeclared (Some (means.Library l)) given js h = absurd (let z : true ≡ false = h in cc)
  of_undeclared (Some means.Nothing) given js h = fails refl

  of_called : (m : Option Meaning) (given : Option Given) (js : List Judgement) → may_be_called m ≡ false →
      CallFails c m given js the_spot (breach at rules.Called)
  of_called None given js h = fails refl
  of_called (Some (means.Object o)) given js h = fails refl
  of_called (Some (means.Function f)) given js h = absurd (let z : true ≡ false = h in cc)
  of_called (Some (means.Library l)) given js h = absurd (let z : true ≡ false = h in cc)
  of_called (Some means.Nothing) given js h = absurd (let z : true ≡ false = h in cc)

  abbrev Call : (n : ℕ) → Expressions → Breach → Type 0
  Call n args =
      Either (InArguments c locals (format_given (called_meaning c locals n) args) args)
      (CallFails c (called_meaning c locals n) (format_given (called_meaning c locals n) args)
      (arguments_of c locals n args) the_spot)

  call_to : (n : ℕ) (args : Expressions) (b : Breach) → Call n args b →
      Inside c locals i (expression (call n args) start at line) b
  call_to n args b (inl (some_argument s f)) = operand_breaks (Parts.argument s) b f
  call_to n args b (inr f) = here (call_breaks n args (called_meaning c locals n) refl b f)

  call_fro : (n : ℕ) (args : Expressions) (b : Breach) → Inside c locals i (expression (call n args) start at line) b →
      Call n args b
  call_fro n args b (here (Broken.undeclared_call f)) =
      inr (of_undeclared (called_meaning c locals n) (format_given (called_meaning c locals n) args)
      (arguments_of c locals n args) (sym (is_declared-is c locals n) ∙ f))
  call_fro n args b (here (Broken.called f)) =
      inr (of_called (called_meaning c locals n) (format_given (called_meaning c locals n) args)
      (arguments_of c locals n args) (sym (call_kept-is c locals n) ∙ f))
  call_fro n args b (here (Broken.arguments_broken e f)) =
      inr
      (subst (λ (m : Option Meaning). CallFails c m (format_given (called_meaning c locals n) args)
      (arguments_of c locals n args) the_spot (breach at rules.Arguments)) (sym e) (fails f))
  call_fro n args b (here (Broken.library_broken {library = library} e f)) =
      inr
      (subst (λ (m : Option Meaning). CallFails c m (format_given (called_meaning c locals n) args)
      (arguments_of c locals n args) the_spot
      (breach (library_token library (format_given (called_meaning c locals n) args) at) (library_rule library)))
      (sym e) (fails f))
  call_fro n args b (here (sign_no_int s f)) = elim s [ ]
  call_fro n args b (here (test_no_scalar s f)) = elim s [ ]
  call_fro n args b (here (void_used (Parts.argument s) f)) = inl (some_argument s (inr (fails f)))
  call_fro n args b (within_operand (Parts.argument s) f) = inl (some_argument s (inl f))

  exact-call : (n : ℕ) (args : Expressions) →
      Exact (note_behind c locals (format_given (called_meaning c locals n) args) args)
      (InArguments c locals (format_given (called_meaning c locals n) args) args) →
      ExactIn c locals i (expression (call n args) start at line)
  exact-call n args h =
      exact-as (call_to n args) (call_fro n args)
      (exact-then h (exact-called c (called_meaning c locals n) (format_given (called_meaning c locals n) args)
      (arguments_of c locals n args) the_spot))

mutual
  pub exact-value : (c : Source) (locals : List InScope) (i : ℕ) (e : Expression) → ExactIn c locals i e
  exact-value c locals i (expression k start at line) = exact-kind c locals i start at line k

  exact-kind : (c : Source) (locals : List InScope) (i start at line : ℕ) (k : Kind) →
      ExactIn c locals i (expression k start at line)
  exact-kind c locals i start at line (number n) = kinds.exact-number c locals i start at line n
  exact-kind c locals i start at line null = kinds.exact-null c locals i start at line
  exact-kind c locals i start at line my_proc = kinds.exact-my_proc c locals i start at line
  exact-kind c locals i start at line procs = kinds.exact-procs c locals i start at line
  exact-kind c locals i start at line size_int = kinds.exact-size_int c locals i start at line
  exact-kind c locals i start at line (name n) = exact-name c locals i start at line n
  exact-kind c locals i start at line (format f) = kinds.exact-format c locals i start at line f
  exact-kind c locals i start at line (chain first rest) =
      exact-chain c locals i start at line first rest (exact-value c locals 0 first)
      (exact-links c locals (begun_chain c locals first) rest)
  exact-kind c locals i start at line (both all) = exact-both c locals i start at line all (exact-operands c locals all)
  exact-kind c locals i start at line (either all) =
      exact-either c locals i start at line all (exact-operands c locals all)
  exact-kind c locals i start at line (choice test on off) =
      kinds.exact-choice c locals i start at line test on off (exact-value c locals 0 test) (exact-value c locals 0 on)
      (exact-value c locals 0 off)
  exact-kind c locals i start at line (assign op left right) =
      kinds.exact-set c locals i start at line op left right (exact-value c locals 0 left)
      (exact-value c locals 0 right)
  exact-kind c locals i start at line (step is_up e) =
      kinds.exact-step c locals i start at line is_up e (exact-value c locals 0 e)
  exact-kind c locals i start at line (plus e) = kinds.exact-plus c locals i start at line e (exact-value c locals 0 e)
  exact-kind c locals i start at line (prefix op e) =
      kinds.exact-prefix c locals i start at line op e (exact-value c locals 0 e)
  exact-kind c locals i start at line (deref e) =
      kinds.exact-deref c locals i start at line e (exact-value c locals 0 e)
  exact-kind c locals i start at line (address e) =
      kinds.exact-address c locals i start at line e (exact-value c locals 0 e)
  exact-kind c locals i start at line (cast stars e) =
      kinds.exact-cast c locals i start at line stars e (exact-value c locals 0 e)
  exact-kind c locals i start at line (postfix first rest) =
      exact-postfix c locals i start at line first rest (exact-value c locals (leading rest) first)
      (exact-tails c locals (begun_tails c locals first rest) rest)
  exact-kind c locals i start at line (call n args) =
      exact-call c locals i start at line n args
      (exact-behind c locals (format_given (called_meaning c locals n) args) args)

  exact-links : (c : Source) (locals : List InScope) (left : Option Linked) (rest : Links) →
      Exact (note_links c locals left rest) (SomeLink c locals left rest)
  exact-links c locals left no_links = exact-no_links c locals left
  exact-links c locals left (links (link op e at line) more) =
      exact-link c locals left op e at line more (exact-value c locals 0 e)
      (exact-links c locals (join left op (judge c locals 0 e) at line) more)

  exact-operands : (c : Source) (locals : List InScope) (all : Expressions) →
      Exact (note_operands c locals all) (SomeTested c locals all)
  exact-operands c locals no_expressions = exact-no_expressions (Tested c locals)
  exact-operands c locals (expressions e more) =
      exact-operand c locals e more (exact-value c locals 0 e) (exact-operands c locals more)

  exact-tails : (c : Source) (locals : List InScope) (t : Tailing) (rest : Tails) →
      Exact (note_tails c locals t rest) (SomeTail c locals t rest)
  exact-tails c locals t no_tails = exact-no_tails c locals t
  exact-tails c locals t (tails tail more) =
      exact-tail_then c locals t tail more (exact-tail c locals t tail)
      (exact-tails c locals (judge_tail c locals t tail) more)

  exact-tail : (c : Source) (locals : List InScope) (t : Tailing) (tail : Tail) →
      Exact (note_tail c locals t tail) (TailBreaks c locals t tail)
  exact-tail c locals t (index e at line) = exact-index_tail c locals t e at line (exact-value c locals 0 e)
  exact-tail c locals t (up at line) = exact-up c locals t at line
  exact-tail c locals t (down at line) = exact-down c locals t at line

  exact-behind : (c : Source) (locals : List InScope) (given : Option Given) (all : Expressions) →
      Exact (note_behind c locals given all) (InArguments c locals given all)
  exact-behind c locals given no_expressions = exact-no_argument c locals given
  exact-behind c locals None (expressions e more) =
      exact-all_arguments c locals e more
      (exact-argument c locals e more (exact-value c locals 0 e) (exact-arguments c locals more))
  exact-behind c locals (Some given) (expressions e more) =
      exact-behind_format c locals given e more (exact-arguments c locals more)

  exact-arguments : (c : Source) (locals : List InScope) (all : Expressions) →
      Exact (note_arguments c locals all) (SomeUsed c locals all)
  exact-arguments c locals no_expressions = exact-no_expressions (Operand c locals 0)
  exact-arguments c locals (expressions e more) =
      exact-argument c locals e more (exact-value c locals 0 e) (exact-arguments c locals more)
