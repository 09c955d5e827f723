-- Every judged expression that has a type comes to what the type says, and is typed as a whole statement.
use Rattle.std.proofs.Common.{◌≡◌, sym, ◌∙◌, subst, ℕ, true, List}
use Rattle.std.specs.Prelude.{Option, Some, None}
use Rattle.sc_tree.specs.Plain.{Expression, expression, Kind, number, null, my_proc, procs, size_int, name, format}
use Rattle.sc_tree.specs.Plain.{chain, both, either, choice, assign, step, plus, prefix, deref, address, cast, postfix}
use Rattle.sc_tree.specs.Plain.{call, Expressions, no_expressions, expressions, link, Links, no_links, links}
use Rattle.sc_tree.specs.Plain.{Tail, index, up, down, Tails, no_tails, tails}
use Rattle.sc_typing.specs.declared.calls.Given.{Given}
use Rattle.sc_typing.specs.declared.known.Spot.{Spot}
use Rattle.sc_typing.specs.declared.scope.InScope.{InScope}
use Rattle.sc_typing.specs.Source.{Source}
use Rattle.sc_typing.specs.Known.{Valued}
use Rattle.sc_typing.specs.Operators.{Gathered}
use Rattle.sc_typing.specs.Chains.{Linked}
use Rattle.sc_typing.specs.Tails.{Tailed, Tailing}
use Rattle.sc_typing.specs.Naming.{called_meaning, format_given, leading}
use Rattle.sc_typing.specs.Typing.{nothing_gathered, judge, judge_kind, judge_links, judge_operands, judge_tails, judge_behind, judge_arguments}
use Rattle.sc_core.specs.Kinds.{Scope}
use Rattle.core_typing.specs.Proper.{NumbersFit, NumbersOfKindFit, NumbersOfAllFit, NumbersOfLinksFit, NumbersOfTailFit, NumbersOfTailsFit}
use Rattle.core_typing.proofs.Made
use Rattle.core_typing.proofs.Made.{never_some}
use Rattle.core_typing.proofs.Seen.{Sees, AllBegun}
use Rattle.core_typing.proofs.Sound.{Knows}
use Rattle.core_typing.proofs.Lists.{AllFind, none_found}
use Rattle.core_typing.proofs.Judged as judged
use Rattle.core_typing.proofs.JudgedChains as chains
use Rattle.core_typing.proofs.JudgedChains.{Linking}
use Rattle.core_typing.proofs.JudgedCalls as calls
use Rattle.core_typing.proofs.JudgedCalls.{AllKnown, none_known, more_known}
use Rattle.core_typing.proofs.JudgedNames as names
use Rattle.core_typing.proofs.JudgedNames.{First, a_whole, a_name, Known, known-first}
use Rattle.core_typing.proofs.JudgedTails as after
use Rattle.core_typing.proofs.JudgedTails.{TailState, TailKnows}

-- what holds of the expression, where so many indices stand behind it
abbrev Firsts : Source → Scope → List InScope → (indices : ℕ) → Expression → Type 0
Firsts c scope locals i e =
    (v : Valued) → (judge c locals i e).known ≡ Some v → First c.objects scope c i (judge c locals i e) v

knows : {c : Source} {scope : Scope} (locals : List InScope) (e : Expression) → Sees c scope → Firsts c scope locals 0 e →
    Knows c.objects scope (judge c locals 0 e)
knows {c = c} {scope = scope} locals e sees f = λ v h. (known-first c scope (judge c locals 0 e) v sees (f v h)).sound

mutual
  first-value : (c : Source) (scope : Scope) (sees : Sees c scope) (locals : List InScope) (begun : AllBegun scope locals) (i : ℕ)
      (e : Expression) → NumbersFit e → (v : Valued) → (judge c locals i e).known ≡ Some v →
      First c.objects scope c i (judge c locals i e) v
  first-value c scope sees locals begun i (expression k start at line) n v h =
      first-kind c scope sees locals begun i (record { start = start; at = at; line = line }) k n v h

  first-kind : (c : Source) (scope : Scope) (sees : Sees c scope) (locals : List InScope) (begun : AllBegun scope locals) (i : ℕ)
      (spot : Spot) (k : Kind) → NumbersOfKindFit k → (v : Valued) → (judge_kind c locals i k spot).known ≡ Some v →
      First c.objects scope c i (judge_kind c locals i k spot) v
  first-kind c scope sees locals begun i spot (number m) n v h =
      a_whole (judged.number-whole c.objects scope m spot v n h)
  first-kind c scope sees locals begun i spot null n v h = a_whole (judged.null-whole c.objects scope spot v h)
  first-kind c scope sees locals begun i spot my_proc n v h = a_whole (judged.my_proc-whole c.objects scope spot v h)
  first-kind c scope sees locals begun i spot procs n v h = a_whole (judged.procs-whole c.objects scope spot v h)
  first-kind c scope sees locals begun i spot size_int n v h = a_whole (judged.size_int-whole c.objects scope spot v h)
  first-kind c scope sees locals begun i spot (name x) n v h = names.name-first c.objects scope c locals i x spot v begun h
  first-kind c scope sees locals begun i spot (format f) n v h = never_some h
  first-kind c scope sees locals begun i spot (chain first rest) n v h =
      a_whole
      (chains.chain-whole c.objects scope c locals first rest spot v
      (knows locals first sees (first-value c scope sees locals begun 0 first n.0))
      (all-links c scope sees locals begun rest n.1) h)
  first-kind c scope sees locals begun i spot (both all) n v h =
      a_whole
      (chains.both-whole c.objects scope c locals all spot v
      (all-operands c scope sees locals begun all n nothing_gathered none_found) h)
  first-kind c scope sees locals begun i spot (either all) n v h =
      a_whole
      (chains.either-whole c.objects scope c locals all spot v
      (all-operands c scope sees locals begun all n nothing_gathered none_found) h)
  first-kind c scope sees locals begun i spot (choice test on off) n v h =
      a_whole
      (judged.choice-whole c.objects scope (judge c locals 0 test) (judge c locals 0 on) (judge c locals 0 off) spot v
      (knows locals test sees (first-value c scope sees locals begun 0 test n.0))
      (knows locals on sees (first-value c scope sees locals begun 0 on n.1))
      (knows locals off sees (first-value c scope sees locals begun 0 off n.2)) h)
  first-kind c scope sees locals begun i spot (assign o left right) n v h =
      a_whole
      (judged.set-whole c.objects scope o (judge c locals 0 left) (judge c locals 0 right) spot v
      (knows locals left sees (first-value c scope sees locals begun 0 left n.0))
      (knows locals right sees (first-value c scope sees locals begun 0 right n.1)) h)
  first-kind c scope sees locals begun i spot (step is_up e) n v h =
      a_whole
      (judged.step-whole c.objects scope is_up (judge c locals 0 e) spot v
      (knows locals e sees (first-value c scope sees locals begun 0 e n)) h)
  first-kind c scope sees locals begun i spot (plus e) n v h =
      a_whole
      (judged.plus-whole c.objects scope (judge c locals 0 e) spot v
      (knows locals e sees (first-value c scope sees locals begun 0 e n)) h)
  first-kind c scope sees locals begun i spot (prefix o e) n v h =
      a_whole
      (judged.prefix-whole c.objects scope o (judge c locals 0 e) spot v
      (knows locals e sees (first-value c scope sees locals begun 0 e n)) h)
  first-kind c scope sees locals begun i spot (deref e) n v h =
      a_whole
      (judged.deref-whole c.objects scope (judge c locals 0 e) spot v
      (knows locals e sees (first-value c scope sees locals begun 0 e n)) h)
  first-kind c scope sees locals begun i spot (address e) n v h =
      a_whole
      (judged.address-whole c.objects scope (judge c locals 0 e) spot v
      (knows locals e sees (first-value c scope sees locals begun 0 e n)) h)
  first-kind c scope sees locals begun i spot (cast stars e) n v h =
      a_whole
      (judged.cast-whole c.objects scope stars (judge c locals 0 e) spot v
      (knows locals e sees (first-value c scope sees locals begun 0 e n)) h)
  first-kind c scope sees locals begun i spot (postfix first rest) n v h =
      a_whole
      (after.postfix-whole c scope sees locals rest (judge c locals (leading rest) first) spot v
      (first-value c scope sees locals begun (leading rest) first n.0)
      (all-tails c scope sees locals begun rest n.1) h)
  first-kind c scope sees locals begun i spot (call x args) n v h =
      a_whole
      (calls.call-whole c.objects scope c locals x (format_given (called_meaning c locals x) args)
      (judge_behind c locals (format_given (called_meaning c locals x) args) args) spot v sees
      (all-behind c scope sees locals begun (format_given (called_meaning c locals x) args) args n) h)

  all-links : (c : Source) (scope : Scope) (sees : Sees c scope) (locals : List InScope) (begun : AllBegun scope locals)
      (rest : Links) → NumbersOfLinksFit rest → (l : Linked) → Linking c.objects scope l → (k : Linked) →
      judge_links c locals (Some l) rest ≡ Some k → Linking c.objects scope k
  all-links c scope sees locals begun no_links n l x k h =
      subst (λ (k : Linked). Linking c.objects scope k) (Made.some-is l k h) x
  all-links c scope sees locals begun (links (link o e at line) more) n l x k h =
      chains.link-step c.objects scope c locals l o e at line more x
      (knows locals e sees (first-value c scope sees locals begun 0 e n.0))
      (all-links c scope sees locals begun more n.1) k h

  all-operands : (c : Source) (scope : Scope) (sees : Sees c scope) (locals : List InScope) (begun : AllBegun scope locals)
      (all : Expressions) → NumbersOfAllFit all → (g : Gathered) → AllFind c.objects scope g.all →
      (judge_operands c locals g all).whole ≡ true → AllFind c.objects scope (judge_operands c locals g all).all
  all-operands c scope sees locals begun no_expressions n g fs h = fs
  all-operands c scope sees locals begun (expressions e more) n g fs h =
      chains.operand-step c.objects scope c locals g e more
      (knows locals e sees (first-value c scope sees locals begun 0 e n.0))
      (all-operands c scope sees locals begun more n.1) fs h

  all-tails : (c : Source) (scope : Scope) (sees : Sees c scope) (locals : List InScope) (begun : AllBegun scope locals)
      (rest : Tails) → NumbersOfTailsFit rest → (t : Tailing) (td : Tailed) → t.tailed ≡ Some td →
      TailState c scope sees rest t td → (last : Tailed) → (judge_tails c locals t rest).tailed ≡ Some last →
      TailState c scope sees no_tails (judge_tails c locals t rest) last
  all-tails c scope sees locals begun no_tails n t td same state last h =
      subst (λ (td : Tailed). TailState c scope sees no_tails t td) (Made.some-is td last (sym same ∙ h)) state
  all-tails c scope sees locals begun (tails tail more) n t td same state last h =
      after.tail-step c scope sees locals t td tail more same (one-tail c scope sees locals begun tail n.0) state
      (all-tails c scope sees locals begun more n.1) last h

  one-tail : (c : Source) (scope : Scope) (sees : Sees c scope) (locals : List InScope) (begun : AllBegun scope locals)
      (tail : Tail) → NumbersOfTailFit tail → TailKnows c scope sees locals tail
  one-tail c scope sees locals begun (index e at line) n = knows locals e sees (first-value c scope sees locals begun 0 e n)
  one-tail c scope sees locals begun (up at line) n = tt
  one-tail c scope sees locals begun (down at line) n = tt

  all-behind : (c : Source) (scope : Scope) (sees : Sees c scope) (locals : List InScope) (begun : AllBegun scope locals)
      (given : Option Given) (args : Expressions) → NumbersOfAllFit args →
      AllKnown c.objects scope (judge_behind c locals given args)
  all-behind c scope sees locals begun given no_expressions n = none_known
  all-behind c scope sees locals begun None (expressions e more) n =
      more_known (knows locals e sees (first-value c scope sees locals begun 0 e n.0))
      (all-arguments c scope sees locals begun more n.1)
  all-behind c scope sees locals begun (Some g) (expressions e more) n = all-arguments c scope sees locals begun more n.1

  all-arguments : (c : Source) (scope : Scope) (sees : Sees c scope) (locals : List InScope) (begun : AllBegun scope locals)
      (args : Expressions) → NumbersOfAllFit args → AllKnown c.objects scope (judge_arguments c locals args)
  all-arguments c scope sees locals begun no_expressions n = none_known
  all-arguments c scope sees locals begun (expressions e more) n =
      more_known (knows locals e sees (first-value c scope sees locals begun 0 e n.0))
      (all-arguments c scope sees locals begun more n.1)

-- what a judged expression comes to where it has a type, and what it does as a whole statement
pub known-value : (c : Source) (scope : Scope) → Sees c scope → (locals : List InScope) → AllBegun scope locals →
    (e : Expression) → NumbersFit e → (v : Valued) → (judge c locals 0 e).known ≡ Some v →
    Known c.objects scope (judge c locals 0 e) v
known-value c scope sees locals begun e n v h =
    known-first c scope (judge c locals 0 e) v sees (first-value c scope sees locals begun 0 e n v h)
