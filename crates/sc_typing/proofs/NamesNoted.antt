-- What is noted of a name, and of the call of one, is what it breaks.
use Rattle.std.proofs.Common.{◌≡◌, refl, sym, ap, ◌∙◌, ℕ, Bool, true, false, ◌||◌, List, Option, Some, None, subst}
use Rattle.std.specs.Prelude.{slice_get}
use Rattle.sc_base.specs.declared.shape.Shape.{Shape}
use Rattle.sc_tree.specs.Plain.{expression, name}
use Rattle.sc_typing.specs.declared.calls.Given.{Given}
use Rattle.sc_typing.specs.declared.file.Meaning.{Meaning}
use Rattle.sc_typing.specs.declared.file.Meaning.TheVariants as means
use Rattle.sc_typing.specs.declared.known.Spot.{Spot}
use Rattle.sc_typing.specs.declared.notes.Breach.{Breach}
use Rattle.sc_typing.specs.declared.scope.InScope.{InScope}
use Rattle.sc_typing.specs.declared.rule.Rule.{Rule}
use Rattle.sc_typing.specs.declared.rule.Rule.TheVariants as rules
use Rattle.sc_typing.specs.Known.{Judgement}
use Rattle.sc_typing.specs.Scope.{innermost}
use Rattle.sc_typing.specs.Source.{Source, meaning_of}
use Rattle.sc_typing.specs.Rules
use Rattle.sc_typing.specs.NameRules
use Rattle.sc_typing.specs.Arguments.{arguments_kept, library_kept, library_token, library_rule}
use Rattle.sc_typing.specs.Naming.{unless_local, called_meaning}
use Rattle.sc_typing.proofs.ExpressionNotes.{note_object, note_meaning, note_name_in, note_name, note_call}
use Rattle.sc_typing.specs.BrokenExpressions as Broken
use Rattle.sc_typing.specs.ExpressionParts.{arguments_of}
use Rattle.sc_typing.specs.BrokenExpressions.{breach, BrokenIn, here, within_operand, Breaks, void_used, sign_no_int}
use Rattle.sc_typing.specs.BrokenExpressions.{test_no_scalar}
use Rattle.sc_typing.proofs.Exactly.{Exact, Fails, fails, Never, exact-nothing, exact-unless, exact-as}
use Rattle.sc_typing.proofs.OperandsNoted.{Inside, ExactIn}

-- ---- the rules on names, by what the name means where no local has it

abbrev pub is_declared : Option Meaning → Bool
is_declared None = true
is_declared (Some m) = NameRules.is_something m

abbrev pub may_stand_alone : Option Meaning → Bool
may_stand_alone None = true
may_stand_alone (Some m) = Rules.opposite (NameRules.is_function m)

abbrev pub may_be_called : Option Meaning → Bool
may_be_called None = false
may_be_called (Some m) = Rules.opposite (NameRules.is_object m)

pub is_declared-is : (c : Source) (locals : List InScope) (n : ℕ) →
    NameRules.is_declared c locals n ≡ is_declared (called_meaning c locals n)
unfolding called_meaning
is_declared-is c locals n = go (innermost n locals)
  where
    go : (o : Option InScope) →
        (NameRules.is_local o || NameRules.is_something (meaning_of c n)) ≡ is_declared (unless_local c n o)
    go None = refl
    go (Some l) = refl

pub name_kept-is : (c : Source) (locals : List InScope) (n : ℕ) →
    NameRules.name_kept c locals n ≡ may_stand_alone (called_meaning c locals n)
unfolding called_meaning
name_kept-is c locals n = go (innermost n locals)
  where
    go : (o : Option InScope) →
        (NameRules.is_local o || Rules.opposite (NameRules.is_function (meaning_of c n))) ≡ may_stand_alone (unless_local c n o)
    go None = refl
    go (Some l) = refl

pub call_kept-is : (c : Source) (locals : List InScope) (n : ℕ) →
    NameRules.call_kept c locals n ≡ may_be_called (called_meaning c locals n)
unfolding called_meaning
call_kept-is c locals n = go (innermost n locals)
  where
    go : (o : Option InScope) →
        Rules.opposite (NameRules.is_local o || NameRules.is_object (meaning_of c n)) ≡ may_be_called (unless_local c n o)
    go None = refl
    go (Some l) = refl

-- ---- a name that is not called

abbrev pub ObjectFails : (indices : ℕ) → Option Shape → (at : ℕ) → Breach → Type 0
ObjectFails indices None at = Never
ObjectFails indices (Some object) at = Fails (Rules.indices_kept object indices) at rules.Indices

abbrev pub NameFails : Source → (indices : ℕ) → Option Meaning → (at : ℕ) → Breach → Type 0
NameFails c indices None at = Never
NameFails c indices (Some (means.Object o)) at = ObjectFails indices (slice_get c.objects o) at
NameFails c indices (Some (means.Function _)) at = Fails false at rules.Called
NameFails c indices (Some (means.Library _)) at = Fails false at rules.Called
NameFails c indices (Some means.Nothing) at = Fails false at rules.Declared

exact-object : (indices : ℕ) (object : Option Shape) (spot : Spot) →
    Exact (note_object indices object spot) (ObjectFails indices object spot.at)
exact-object indices None spot = exact-nothing
exact-object indices (Some object) spot = exact-unless (Rules.indices_kept object indices) spot.at rules.Indices

exact-meaning : (c : Source) (indices : ℕ) (m : Meaning) (spot : Spot) →
    Exact (note_meaning c indices m spot) (NameFails c indices (Some m) spot.at)
exact-meaning c indices (means.Object o) spot = exact-object indices (slice_get c.objects o) spot
exact-meaning c indices (means.Function _) spot = exact-unless false spot.at rules.Called
exact-meaning c indices (means.Library _) spot = exact-unless false spot.at rules.Called
exact-meaning c indices means.Nothing spot = exact-unless false spot.at rules.Declared

pub exact-named : (c : Source) (locals : List InScope) (indices n : ℕ) (spot : Spot) →
    Exact (note_name c locals indices n spot) (NameFails c indices (called_meaning c locals n) spot.at)
unfolding note_name called_meaning
exact-named c locals indices n spot = go (innermost n locals)
  where
    go : (o : Option InScope) →
        Exact (note_name_in c indices n spot o) (NameFails c indices (unless_local c n o) spot.at)
    go None = exact-meaning c indices (meaning_of c n) spot
    go (Some l) = exact-nothing

module _ (c : Source) (locals : List InScope) (i start at line n : ℕ) where
  abbrev NameBreaks : Breach → Type 0
  NameBreaks b = Breaks c locals i start at line (name n) b

  object_breaks : (o : ℕ) → called_meaning c locals n ≡ Some (means.Object o) → (object : Option Shape) →
      slice_get c.objects o ≡ object → (b : Breach) → ObjectFails i object at b → NameBreaks b
  object_breaks o e None f b h = elim h [ ]
  object_breaks o e (Some object) f b (fails h) = Broken.indices_missing e f h

  name_breaks : (m : Option Meaning) → called_meaning c locals n ≡ m → (b : Breach) → NameFails c i m at b →
      NameBreaks b
  name_breaks None e b h = elim h [ ]
  name_breaks (Some (means.Object o)) e b h = object_breaks o e (slice_get c.objects o) refl b h
  name_breaks (Some (means.Function f)) e b (fails h) = Broken.uncalled (name_kept-is c locals n ∙ ap may_stand_alone e)
  name_breaks (Some (means.Library l)) e b (fails h) = Broken.uncalled (name_kept-is c locals n ∙ ap may_stand_alone e)
  name_breaks (Some means.Nothing) e b (fails h) = Broken.undeclared (is_declared-is c locals n ∙ ap is_declared e)

  of_undeclared : (m : Option Meaning) → is_declared m ≡ false → NameFails c i m at (breach at rules.Declared)
  of_undeclared None h = absurd (let z : true ≡ false = h in cc)
  of_undeclared (Some (means.Object o)) h = absurd (let z : true ≡ false = h in cc)
  of_undeclared (Some (means.Function f)) h = absurd (let z : true ≡ false = h in cc)
  of_undeclared (Some (means.Library l)) h = absurd (let z : true ≡ false = h in cc)
  of_undeclared (Some means.Nothing) h = fails refl

  of_uncalled : (m : Option Meaning) → may_stand_alone m ≡ false → NameFails c i m at (breach at rules.Called)
  of_uncalled None h = absurd (let z : true ≡ false = h in cc)
  of_uncalled (Some (means.Object o)) h = absurd (let z : true ≡ false = h in cc)
  of_uncalled (Some (means.Function f)) h = fails refl
  of_uncalled (Some (means.Library l)) h = fails refl
  of_uncalled (Some means.Nothing) h = absurd (let z : true ≡ false = h in cc)

  of_missing : (o : ℕ) (object : Shape) → slice_get c.objects o ≡ Some object → Rules.indices_kept object i ≡ false →
      NameFails c i (Some (means.Object o)) at (breach at rules.Indices)
  of_missing o object e h = subst (λ (x : Option Shape). ObjectFails i x at (breach at rules.Indices)) (sym e) (fails h)

  name_fails : (b : Breach) → NameBreaks b → NameFails c i (called_meaning c locals n) at b
  name_fails b (Broken.undeclared h) = of_undeclared (called_meaning c locals n) (sym (is_declared-is c locals n) ∙ h)
  name_fails b (Broken.uncalled h) = of_uncalled (called_meaning c locals n) (sym (name_kept-is c locals n) ∙ h)
  name_fails b (Broken.indices_missing {o = o} {object = object} e f h) =
      subst (λ (m : Option Meaning). NameFails c i m at (breach at rules.Indices)) (sym e) (of_missing o object f h)
  name_fails b (sign_no_int s h) = elim s [ ]
  name_fails b (test_no_scalar s h) = elim s [ ]
  name_fails b (void_used s h) = elim s [ ]

  pub exact-name_alone : Exact (note_name c locals i n (record { start = start; at = at; line = line })) NameBreaks
  exact-name_alone =
      exact-as (name_breaks (called_meaning c locals n) refl) name_fails
      (exact-named c locals i n (record { start = start; at = at; line = line }))

  pub exact-name : ExactIn c locals i (expression (name n) start at line)
  exact-name = exact-as to fro exact-name_alone
    where
      to : (b : Breach) → NameBreaks b → Inside c locals i (expression (name n) start at line) b
      to b h = here h

      fro : (b : Breach) → Inside c locals i (expression (name n) start at line) b → NameBreaks b
      fro b (here h) = h
      fro b (within_operand s h) = elim s [ ]

-- ---- a call

abbrev pub CallFails : Source → Option Meaning → Option Given → List Judgement → Spot → Breach → Type 0
CallFails c None given js spot = Fails false spot.at rules.Called
CallFails c (Some (means.Library library)) given js spot =
    Fails (library_kept c library given js) (library_token library given spot.at) (library_rule library)
CallFails c (Some (means.Function function)) given js spot = Fails (arguments_kept c function js) spot.at rules.Arguments
CallFails c (Some (means.Object _)) given js spot = Fails false spot.at rules.Called
CallFails c (Some means.Nothing) given js spot = Fails false spot.at rules.Declared

pub exact-called : (c : Source) (m : Option Meaning) (given : Option Given) (js : List Judgement) (spot : Spot) →
    Exact (note_call c m given js spot) (CallFails c m given js spot)
unfolding note_call
exact-called c None given js spot = exact-unless false spot.at rules.Called
exact-called c (Some (means.Library library)) given js spot =
    exact-unless (library_kept c library given js) (library_token library given spot.at) (library_rule library)
exact-called c (Some (means.Function function)) given js spot =
    exact-unless (arguments_kept c function js) spot.at rules.Arguments
exact-called c (Some (means.Object _)) given js spot = exact-unless false spot.at rules.Called
exact-called c (Some means.Nothing) given js spot = exact-unless false spot.at rules.Declared
