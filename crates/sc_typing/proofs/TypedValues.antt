-- Names and calls, and so every expression, have a type exactly where nothing in them is broken.
use Rattle.std.proofs.Common.{◌≡◌, refl, sym, ◌∙◌, ap, ℕ, Bool, true, false, ◌&&◌, Option, Some, None, List, [], ◌∷◌}
use Rattle.std.specs.Prelude.{is_some, slice_get, nat_lt, if◌then◌else◌}
use Rattle.std.specs.Option.{option_map}
use Rattle.std.proofs.lemmas.List.Quantifiers.{position-Some}
use Rattle.std.proofs.lemmas.Option.{slice_get-get_or}
use Rattle.sc_base.specs.declared.shape.Shape.{Shape}
use Rattle.sc_tree.specs.Plain.{Expression, expression, Kind, number, null, my_proc, procs, size_int, name, format}
use Rattle.sc_tree.specs.Plain.{chain, both, either, choice, assign, step, plus, prefix, deref, address, cast, postfix}
use Rattle.sc_tree.specs.Plain.{call, Expressions, no_expressions, expressions, link, Links, no_links, links}
use Rattle.sc_tree.specs.Plain.{Tail, index, up, down, Tails, no_tails, tails}
use Rattle.sc_base.specs.declared.shape.Ty.{Ty}
use Rattle.sc_tree.specs.PlainTyped.{TypedExpression, TypedForm}
use Rattle.sc_typing.specs.declared.calls.Given.{Given}
use Rattle.sc_typing.specs.declared.file.Meaning.{Meaning}
use Rattle.sc_typing.specs.declared.file.Meaning.TheVariants as means
use Rattle.sc_typing.specs.declared.library.Library.{Library}
use Rattle.sc_typing.specs.declared.library.Library.TheVariants as lib
use Rattle.sc_typing.specs.declared.known.Spot.{Spot}
use Rattle.sc_typing.specs.declared.notes.Breach.{Breach}
use Rattle.sc_typing.specs.declared.scope.InScope.{InScope}
use Rattle.sc_typing.specs.declared.rule.Rule.TheVariants as rules
use Rattle.sc_typing.specs.Types.{int}
use Rattle.sc_typing.specs.Known.{Valued, Judgement, used}
use Rattle.sc_typing.specs.Scope.{innermost}
use Rattle.sc_typing.specs.Source.{Source, library_named, object_called, definition_called, declared_first}
use Rattle.sc_typing.specs.Source.{library_first}
use Rattle.sc_typing.specs.Source.{meaning_of, object_token, definition_token}
use Rattle.sc_typing.specs.Arguments.{fit_all, arguments_kept, library_wanted, library_kept, library_token}
use Rattle.sc_typing.specs.Arguments.{library_rule}
use Rattle.sc_typing.specs.Calls.{met_all, all_used, of_one, of_two, of_three, library_form, form_if}
use Rattle.sc_typing.specs.Calls.{library_call, function_call, call_of}
use Rattle.sc_typing.specs.Rules
use Rattle.sc_typing.specs.Operators.{Gathered}
use Rattle.sc_typing.specs.Chains.{Linked, first_link, begin_chain, chain_value}
use Rattle.sc_typing.specs.Tails.{Tailed, Tailing, first_tail, begin_tails, postfix_value}
use Rattle.sc_typing.specs.Naming.{object_named, meaning_named, name_in, named, leading, unless_local, called_meaning}
use Rattle.sc_typing.specs.Naming.{format_given}
use Rattle.sc_typing.specs.Typing.{nothing_gathered, gathered_value, both_form, either_form, judge, judge_links}
use Rattle.sc_typing.specs.Typing.{judge_operands, judge_tails}
use Rattle.sc_typing.specs.Typing.{judge_behind, judge_arguments}
use Rattle.sc_typing.specs.ExpressionParts.{known_of, begun_chain, begun_tails, arguments_of}
use Rattle.sc_typing.proofs.ExpressionNotes.{note_behind}
use Rattle.sc_typing.proofs.Exactly.{Exact, Never, Either, exact-nothing, exact-then}
use Rattle.sc_typing.proofs.OperandsNoted.{Inside, Operand, exact-used}
use Rattle.sc_typing.proofs.NamesNoted.{ObjectFails, NameFails, exact-named, CallFails, exact-called}
use Rattle.sc_typing.proofs.ExpressionsNoted.{exact-value}
use Rattle.sc_typing.proofs.Agrees.{Agrees, agrees-never, agrees-fails, agrees-either, agrees-broken, agrees-is}
use Rattle.sc_typing.proofs.Agrees.{agrees-exact}
use Rattle.sc_typing.proofs.TypedKinds as kinds
use Rattle.sc_typing.proofs.TypedKinds.{TypedIn, has, only-made}
use Rattle.sc_typing.proofs.TypedLists as lists
use Rattle.sc_typing.proofs.TypedLists.{LinksBreak, OperandsBreak, TailsBreak, TailTyped, ArgumentsBreak, and-false}
use Rattle.sc_typing.proofs.TypedLists.{and-true}

some_shape : Shape
some_shape = record { name = 0; ty = int; spread = false; left = []; right = []; at = 0; line = 0 }

-- ---- names

-- an object that a name means is one of the file's
called-there : (c : Source) (n o : ℕ) → object_called c n ≡ Some o → is_some (slice_get c.objects o) ≡ true
called-there c n o h =
    ap is_some (slice_get-get_or c.objects o some_shape (position-Some _ c.objects o some_shape h).0)

first-there : (c : Source) (n o : ℕ) (object function : Option ℕ) → object_called c n ≡ object →
    declared_first c object function ≡ means.Object o → is_some (slice_get c.objects o) ≡ true
first-there c n o None None same h = absurd (let z : means.Nothing ≡ means.Object o = h in cc)
first-there c n o None (Some f) same h = absurd (let z : means.Function f ≡ means.Object o = h in cc)
first-there c n o (Some p) None same h = called-there c n o (same ∙ (let z : means.Object p ≡ means.Object o = h in cc))
first-there c n o (Some p) (Some f) same h = go (nat_lt (object_token c p) (definition_token c f)) h
  where
    go : (t : Bool) → (if t then means.Object p else means.Function f) ≡ means.Object o →
        is_some (slice_get c.objects o) ≡ true
    go true e = called-there c n o (same ∙ (let z : means.Object p ≡ means.Object o = e in cc))
    go false e = absurd (let z : means.Function f ≡ means.Object o = e in cc)

meant-there : (c : Source) (n o : ℕ) → meaning_of c n ≡ means.Object o → is_some (slice_get c.objects o) ≡ true
unfolding meaning_of
meant-there c n o h = go (library_named c n) h
  where
    go : (l : Option Library) →
        library_first l (declared_first c (object_called c n) (definition_called c n)) ≡ means.Object o →
        is_some (slice_get c.objects o) ≡ true
    go None e = first-there c n o (object_called c n) (definition_called c n) refl e
    go (Some l) e = absurd (let z : means.Library l ≡ means.Object o = e in cc)

if-some : (v : Valued) (kept : Bool) → kept ≡ has (if kept then Some v else None)
if-some v true = refl
if-some v false = refl

name-made : (c : Source) (locals : List InScope) (i n start at line : ℕ) →
    Agrees (NameFails c i (called_meaning c locals n) at)
    (is_some (named c locals i n (record { start = start; at = at; line = line })).known)
unfolding named called_meaning
name-made c locals i n start at line = by_local (innermost n locals)
  where
    spot : Spot
    spot = record { start = start; at = at; line = line }

    by_object : (o : ℕ) (object : Option Shape) → is_some object ≡ true →
        Agrees (ObjectFails i object at) (is_some (object_named o i object spot).known)
    by_object o None h = absurd (let z : false ≡ true = h in cc)
    by_object o (Some object) h = agrees-is (if-some _ (Rules.indices_kept object i)) (agrees-fails _ at rules.Indices)

    by_meaning : (m : Meaning) → meaning_of c n ≡ m →
        Agrees (NameFails c i (Some m) at) (is_some (meaning_named c i m spot).known)
    by_meaning (means.Object o) h = by_object o (slice_get c.objects o) (meant-there c n o h)
    by_meaning (means.Function f) h = agrees-fails false at rules.Called
    by_meaning (means.Library l) h = agrees-fails false at rules.Called
    by_meaning means.Nothing h = agrees-fails false at rules.Declared

    by_local : (l : Option InScope) →
        Agrees (NameFails c i (unless_local c n l) at) (is_some (name_in c i n spot l).known)
    by_local None = by_meaning (meaning_of c n) refl
    by_local (Some l) = agrees-never

-- ---- calls

one-more : (t : Bool) → (t && false) ≡ true → ⊥
one-more true h = let z : false ≡ true = h in cc
one-more false h = let z : false ≡ true = h in cc

two-more : (s t : Bool) → (s && (t && false)) ≡ true → ⊥
two-more true t h = one-more t h
two-more false t h = let z : false ≡ true = h in cc

three-more : (r s t : Bool) → (r && (s && (t && false))) ≡ true → ⊥
three-more true s t h = two-more s t h
three-more false s t h = let z : false ≡ true = h in cc

one-formed : (f : TypedExpression → TypedForm) (a : Ty) (js : List Judgement) → fit_all (a ∷ []) js ≡ true →
    is_some (of_one f (met_all (a ∷ []) js)) ≡ true
one-formed f a [] h = absurd (let z : false ≡ true = h in cc)
one-formed f a (x ∷ []) h = refl
one-formed f a (x ∷ y ∷ js) h = absurd (one-more (Rules.fit x.known a) h)

two-formed : (f : TypedExpression → TypedExpression → TypedForm) (a b : Ty) (js : List Judgement) →
    fit_all (a ∷ b ∷ []) js ≡ true → is_some (of_two f (met_all (a ∷ b ∷ []) js)) ≡ true
two-formed f a b [] h = absurd (let z : false ≡ true = h in cc)
two-formed f a b (x ∷ []) h = absurd (one-more (Rules.fit x.known a) h)
two-formed f a b (x ∷ y ∷ []) h = refl
two-formed f a b (x ∷ y ∷ z ∷ js) h = absurd (two-more (Rules.fit x.known a) (Rules.fit y.known b) h)

three-formed : (f : TypedExpression → TypedExpression → TypedExpression → TypedForm) (a b d : Ty)
    (js : List Judgement) →
    fit_all (a ∷ b ∷ d ∷ []) js ≡ true → is_some (of_three f (met_all (a ∷ b ∷ d ∷ []) js)) ≡ true
three-formed f a b d [] h = absurd (let z : false ≡ true = h in cc)
three-formed f a b d (x ∷ []) h = absurd (one-more (Rules.fit x.known a) h)
three-formed f a b d (x ∷ y ∷ []) h = absurd (two-more (Rules.fit x.known a) (Rules.fit y.known b) h)
three-formed f a b d (x ∷ y ∷ z ∷ []) h = refl
three-formed f a b d (x ∷ y ∷ z ∷ w ∷ js) h =
    absurd (three-more (Rules.fit x.known a) (Rules.fit y.known b) (Rules.fit z.known d) h)

kept-left : (s t : Bool) → (s && t) ≡ true → s ≡ true
kept-left true t h = refl
kept-left false t h = h

-- a call of the library whose arguments are kept has its form
library-formed : (c : Source) (library : Library) (given : Option Given) (js : List Judgement) →
    library_kept c library given js ≡ true →
    is_some (library_form given library (met_all (library_wanted c given js library) js)) ≡ true
library-formed c lib.Printf given js h = refl
library-formed c lib.Sync given js h = refl
library-formed c lib.Barrier given js h = refl
library-formed c lib.AllStoreSync given js h = refl
library-formed c lib.ToGlobal given js h = two-formed _ _ _ js (kept-left _ _ h)
library-formed c lib.ToProc given js h = one-formed _ _ js (kept-left _ _ h)
library-formed c lib.ToLocal given js h = one-formed _ _ js (kept-left _ _ h)
library-formed c lib.BulkRead given js h = three-formed _ _ _ _ js (kept-left _ _ h)
library-formed c lib.BulkWrite given js h = three-formed _ _ _ _ js (kept-left _ _ h)
library-formed c lib.BulkGet given js h = three-formed _ _ _ _ js (kept-left _ _ h)
library-formed c lib.BulkPut given js h = three-formed _ _ _ _ js (kept-left _ _ h)
library-formed c lib.BulkStore given js h = three-formed _ _ _ _ js (kept-left _ _ h)

form-made : (kept used : Bool) (form : Option TypedForm) (f : TypedForm → Valued) →
    (kept ≡ true → is_some form ≡ true) → (used && kept) ≡ is_some (option_map f (form_if (kept && used) form))
form-made true true None f h = sym (h refl)
form-made true true (Some x) f h = refl
form-made true false form f h = refl
form-made false true form f h = refl
form-made false false form f h = refl

call-made : (c : Source) (m : Option Meaning) (given : Option Given) (js : List Judgement) (spot : Spot)
    {P : Breach → Type 0} → Agrees P (all_used js) →
    Agrees (Either P (CallFails c m given js spot)) (is_some (call_of c m given js spot).known)
unfolding call_of library_call function_call
call-made c None given js spot h =
    agrees-is (and-false (all_used js)) (agrees-either h (agrees-fails false spot.at rules.Called))
call-made c (Some (means.Library library)) given js spot h =
    agrees-is
    (form-made (library_kept c library given js) (all_used js)
    (library_form given library (met_all (library_wanted c given js library) js)) _
    (library-formed c library given js))
    (agrees-either h
    (agrees-fails (library_kept c library given js) (library_token library given spot.at) (library_rule library)))
call-made c (Some (means.Function function)) given js spot h =
    agrees-is (form-made (arguments_kept c function js) (all_used js) (Some _) _ (λ e. refl))
    (agrees-either h (agrees-fails (arguments_kept c function js) spot.at rules.Arguments))
call-made c (Some (means.Object o)) given js spot h =
    agrees-is (and-false (all_used js)) (agrees-either h (agrees-fails false spot.at rules.Called))
call-made c (Some means.Nothing) given js spot h =
    agrees-is (and-false (all_used js)) (agrees-either h (agrees-fails false spot.at rules.Declared))

module _ (c : Source) (locals : List InScope) where
  abbrev pub BehindBreaks : Option Given → Expressions → Breach → Type 0
  BehindBreaks given no_expressions = Never
  BehindBreaks None (expressions e more) = Either (Operand c locals 0 e) (ArgumentsBreak c locals more)
  BehindBreaks (Some _) (expressions e more) = ArgumentsBreak c locals more

  exact-behind : (given : Option Given) (args : Expressions) →
      Exact (note_behind c locals given args) (BehindBreaks given args)
  exact-behind given no_expressions = exact-nothing
  exact-behind None (expressions e more) =
      exact-then (exact-then (exact-value c locals 0 e) (exact-used (known_of c locals e)))
      (lists.exact-arguments c locals more)
  exact-behind (Some _) (expressions e more) = lists.exact-arguments c locals more

  abbrev pub BehindTyped : Option Given → Expressions → Type 0
  BehindTyped given args = Agrees (BehindBreaks given args) (all_used (judge_behind c locals given args))

  pub typed-name : (i start at line n : ℕ) → TypedIn c locals i (expression (name n) start at line)
  typed-name i start at line n =
      agrees-exact (exact-named c locals i n (record { start = start; at = at; line = line }))
      (exact-value c locals i (expression (name n) start at line)) (name-made c locals i n start at line)

  pub typed-call : (i start at line n : ℕ) (args : Expressions) →
      BehindTyped (format_given (called_meaning c locals n) args) args →
      TypedIn c locals i (expression (call n args) start at line)
  typed-call i start at line n args h =
      let given = format_given (called_meaning c locals n) args in
      let spot : Spot = record { start = start; at = at; line = line } in
      agrees-exact
      (exact-then (exact-behind given args)
      (exact-called c (called_meaning c locals n) given (arguments_of c locals n args) spot))
      (exact-value c locals i (expression (call n args) start at line))
      (call-made c (called_meaning c locals n) given (arguments_of c locals n args) spot h)

  -- ---- chains, `&&` and `||`, and postfix expressions

  used-made : {B : Type 0} (f : Valued → B) (j : Judgement) →
      (is_some j.known && Rules.value_kept j.known) ≡ is_some (option_map f (used j))
  used-made f j = ap (λ (t : Bool). is_some j.known && t) (sym (and-true (Rules.value_kept j.known))) ∙ only-made f true j.known

  chain-end : (spot : Spot) (all : Option Linked) → is_some all ≡ is_some (option_map (chain_value spot) all)
  chain-end spot None = refl
  chain-end spot (Some l) = refl

  pub typed-chain : (i start at line : ℕ) (first : Expression) (rest : Links) → TypedIn c locals 0 first →
      ((l : Linked) → Agrees (LinksBreak c locals (Some l) rest) (is_some (judge_links c locals (Some l) rest))) →
      TypedIn c locals i (expression (chain first rest) start at line)
  unfolding begin_chain
  typed-chain i start at line first rest h further =
      agrees-exact
      (exact-then (exact-then (exact-value c locals 0 first) (exact-used (known_of c locals first)))
      (lists.exact-links c locals (begun_chain c locals first) rest))
      (exact-value c locals i (expression (chain first rest) start at line))
      (agrees-is (chain-end _ (judge_links c locals (begun_chain c locals first) rest))
      (go (begun_chain c locals first) refl))
    where
      begun : Agrees (Operand c locals 0 first) (is_some (begun_chain c locals first))
      begun = agrees-is (used-made first_link (known_of c locals first)) (agrees-either h (agrees-fails _ _ _))

      go : (o : Option Linked) → begun_chain c locals first ≡ o →
          Agrees (Either (Operand c locals 0 first) (LinksBreak c locals o rest)) (is_some (judge_links c locals o rest))
      go None e = agrees-is (sym (ap is_some (lists.no_chain c locals rest))) (agrees-broken (agrees-is (ap is_some e) begun))
      go (Some l) e = agrees-either (agrees-is (ap is_some e) begun) (further l)

  gathered-made : (form : List TypedExpression → TypedForm) (spot : Spot) (g : Gathered) →
      g.whole ≡ is_some (gathered_value form spot g).known
  gathered-made form spot g = if-some _ g.whole

  pub typed-both : (i start at line : ℕ) (all : Expressions) →
      Agrees (OperandsBreak c locals all) (judge_operands c locals nothing_gathered all).whole →
      TypedIn c locals i (expression (both all) start at line)
  typed-both i start at line all h =
      agrees-exact (lists.exact-operands c locals all) (exact-value c locals i (expression (both all) start at line))
      (agrees-is (gathered-made both_form (record { start = start; at = at; line = line })
      (judge_operands c locals nothing_gathered all)) h)

  pub typed-either : (i start at line : ℕ) (all : Expressions) →
      Agrees (OperandsBreak c locals all) (judge_operands c locals nothing_gathered all).whole →
      TypedIn c locals i (expression (either all) start at line)
  typed-either i start at line all h =
      agrees-exact (lists.exact-operands c locals all) (exact-value c locals i (expression (either all) start at line))
      (agrees-is (gathered-made either_form (record { start = start; at = at; line = line })
      (judge_operands c locals nothing_gathered all)) h)

  postfix-end : (spot : Spot) (all : Option Tailed) → is_some all ≡ is_some (option_map (postfix_value spot) all)
  postfix-end spot None = refl
  postfix-end spot (Some t) = refl

  pub typed-postfix : (i start at line : ℕ) (first : Expression) (rest : Tails) →
      TypedIn c locals (leading rest) first →
      ((t : Tailing) (l : Tailed) → t.tailed ≡ Some l →
      Agrees (TailsBreak c locals t rest) (is_some (judge_tails c locals t rest).tailed)) →
      TypedIn c locals i (expression (postfix first rest) start at line)
  unfolding begin_tails
  typed-postfix i start at line first rest h further =
      agrees-exact
      (exact-then
      (exact-then (exact-value c locals (leading rest) first) (exact-used (judge c locals (leading rest) first)))
      (lists.exact-tails c locals (begun_tails c locals first rest) rest))
      (exact-value c locals i (expression (postfix first rest) start at line))
      (agrees-is (postfix-end _ (judge_tails c locals (begun_tails c locals first rest) rest).tailed)
      (go (begun_tails c locals first rest).tailed refl))
    where
      begun : Agrees (Operand c locals (leading rest) first) (is_some (begun_tails c locals first rest).tailed)
      begun =
          agrees-is (used-made first_tail (judge c locals (leading rest) first)) (agrees-either h (agrees-fails _ _ _))

      go : (o : Option Tailed) → (begun_tails c locals first rest).tailed ≡ o →
          Agrees
          (Either (Operand c locals (leading rest) first) (TailsBreak c locals (begun_tails c locals first rest) rest))
          (is_some (judge_tails c locals (begun_tails c locals first rest) rest).tailed)
      go None e =
          agrees-is (sym (ap is_some (lists.no_postfix c locals (begun_tails c locals first rest) rest e)))
          (agrees-broken (agrees-is (ap is_some e) begun))
      go (Some l) e = agrees-either (agrees-is (ap is_some e) begun) (further (begun_tails c locals first rest) l e)

mutual
  pub typed-value : (c : Source) (locals : List InScope) (i : ℕ) (e : Expression) → TypedIn c locals i e
  typed-value c locals i (expression k start at line) = typed-kind c locals i start at line k

  typed-kind : (c : Source) (locals : List InScope) (i start at line : ℕ) (k : Kind) →
      TypedIn c locals i (expression k start at line)
  typed-kind c locals i start at line (number n) = kinds.typed-number c locals i start at line n
  typed-kind c locals i start at line null = kinds.typed-null c locals i start at line
  typed-kind c locals i start at line my_proc = kinds.typed-my_proc c locals i start at line
  typed-kind c locals i start at line procs = kinds.typed-procs c locals i start at line
  typed-kind c locals i start at line size_int = kinds.typed-size_int c locals i start at line
  typed-kind c locals i start at line (name n) = typed-name c locals i start at line n
  typed-kind c locals i start at line (format f) = kinds.typed-format c locals i start at line f
  typed-kind c locals i start at line (chain first rest) =
      typed-chain c locals i start at line first rest (typed-value c locals 0 first) (typed-links c locals rest)
  typed-kind c locals i start at line (both all) =
      typed-both c locals i start at line all (typed-operands c locals all nothing_gathered refl)
  typed-kind c locals i start at line (either all) =
      typed-either c locals i start at line all (typed-operands c locals all nothing_gathered refl)
  typed-kind c locals i start at line (choice test on off) =
      kinds.typed-choice c locals i start at line test on off (typed-value c locals 0 test) (typed-value c locals 0 on)
      (typed-value c locals 0 off)
  typed-kind c locals i start at line (assign op left right) =
      kinds.typed-set c locals i start at line op left right (typed-value c locals 0 left)
      (typed-value c locals 0 right)
  typed-kind c locals i start at line (step is_up e) =
      kinds.typed-step c locals i start at line is_up e (typed-value c locals 0 e)
  typed-kind c locals i start at line (plus e) = kinds.typed-plus c locals i start at line e (typed-value c locals 0 e)
  typed-kind c locals i start at line (prefix op e) =
      kinds.typed-prefix c locals i start at line op e (typed-value c locals 0 e)
  typed-kind c locals i start at line (deref e) =
      kinds.typed-deref c locals i start at line e (typed-value c locals 0 e)
  typed-kind c locals i start at line (address e) =
      kinds.typed-address c locals i start at line e (typed-value c locals 0 e)
  typed-kind c locals i start at line (cast stars e) =
      kinds.typed-cast c locals i start at line stars e (typed-value c locals 0 e)
  typed-kind c locals i start at line (postfix first rest) =
      typed-postfix c locals i start at line first rest (typed-value c locals (leading rest) first)
      (typed-tails c locals rest)
  typed-kind c locals i start at line (call n args) =
      typed-call c locals i start at line n args
      (typed-behind c locals (format_given (called_meaning c locals n) args) args)

  typed-links : (c : Source) (locals : List InScope) (rest : Links) (l : Linked) →
      Agrees (LinksBreak c locals (Some l) rest) (is_some (judge_links c locals (Some l) rest))
  typed-links c locals no_links l = agrees-never
  typed-links c locals (links (link op e at line) more) l =
      lists.link-step c locals l op e at line more (typed-value c locals 0 e) (typed-links c locals more)

  typed-operands : (c : Source) (locals : List InScope) (all : Expressions) (g : Gathered) → g.whole ≡ true →
      Agrees (OperandsBreak c locals all) (judge_operands c locals g all).whole
  typed-operands c locals no_expressions g w = agrees-is (sym w) agrees-never
  typed-operands c locals (expressions e more) g w =
      lists.operand-step c locals g e more w (typed-value c locals 0 e) (typed-operands c locals more)

  typed-tails : (c : Source) (locals : List InScope) (rest : Tails) (t : Tailing) (l : Tailed) → t.tailed ≡ Some l →
      Agrees (TailsBreak c locals t rest) (is_some (judge_tails c locals t rest).tailed)
  typed-tails c locals no_tails t l same = agrees-is (sym (ap is_some same)) agrees-never
  typed-tails c locals (tails tail more) t l same =
      lists.tail-step c locals t l same tail more (typed-tail c locals tail) (typed-tails c locals more)

  typed-tail : (c : Source) (locals : List InScope) (tail : Tail) → TailTyped c locals tail
  typed-tail c locals (index e at line) = typed-value c locals 0 e
  typed-tail c locals (up at line) = tt
  typed-tail c locals (down at line) = tt

  typed-behind : (c : Source) (locals : List InScope) (given : Option Given) (args : Expressions) →
      BehindTyped c locals given args
  typed-behind c locals given no_expressions = agrees-never
  typed-behind c locals None (expressions e more) =
      lists.argument-step c locals e more (typed-value c locals 0 e) (typed-arguments c locals more)
  typed-behind c locals (Some _) (expressions e more) = typed-arguments c locals more

  typed-arguments : (c : Source) (locals : List InScope) (all : Expressions) →
      Agrees (ArgumentsBreak c locals all) (all_used (judge_arguments c locals all))
  typed-arguments c locals no_expressions = agrees-never
  typed-arguments c locals (expressions e more) =
      lists.argument-step c locals e more (typed-value c locals 0 e) (typed-arguments c locals more)
