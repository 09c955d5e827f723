-- What the code makes of an expression or of a part of one, in the sight of a file and the locals in scope: as the
-- definitions judge it, with the notes that they add, unless memory ran out.
use Rattle.std.specs.Prelude.{ℕ, List, map, Option, Result, Vec}
use Rattle.std.specs.Option.{option_map}
use Rattle.std.specs.declared.alloc.Global.{Global}
use Rattle.sc_tree.specs.Plain.{Expression, Kind, Expressions, Links, Tail, Tails}
use Rattle.sc_typing.proofs.ExpressionNotes as notes_of
use Rattle.sc_typing.proofs.ExpressionNotes.{Noting}
use Rattle.sc_typing.specs.Known.{Judgement}
use Rattle.sc_typing.specs.Notes.{Noted}
use Rattle.sc_typing.specs.Operators as operators
use Rattle.sc_typing.specs.Chains as chains
use Rattle.sc_typing.specs.Tails as tails
use Rattle.sc_typing.specs.Typing as typing
use Rattle.sc_typing.specs.ViewKnown.{seen_judged}
use Rattle.sc_typing.specs.ViewSource.{source_of}
use Rattle.sc_typing.specs.declared.calls.Given.{Given}
use Rattle.sc_typing.specs.declared.known.Judged.{Judged}
use Rattle.sc_typing.specs.declared.known.Spot.{Spot}
use Rattle.sc_typing.specs.declared.notes.Breach.{Breach}
use Rattle.sc_operators.specs.ViewChains.{seen_linked, seen_gathered}
use Rattle.sc_operators.specs.ViewTails.{seen_tailing}
use Rattle.sc_operators.specs.declared.chains.Gathered.{Gathered}
use Rattle.sc_operators.specs.declared.chains.Linked.{Linked}
use Rattle.sc_judge.specs.declared.expressions.Sight.{Sight}
use Rattle.sc_operators.specs.declared.tails.Tailing.{Tailing}

-- an expression that no index follows, and what is broken in it
abbrev pub judged_in : Sight → Expression → Judgement
judged_in s e = typing.judge (source_of s.file) s.scope.now.locals 0 e

abbrev pub noted_in : Sight → Expression → Noting
noted_in s e broken = notes_of.note_value (source_of s.file) s.scope.now.locals 0 e broken

-- an expression of this kind
abbrev pub JudgesKind : {E : Type 0} → Sight → (indices : ℕ) → Kind → Spot
    → Result Judged E → (old new : List Breach) → Type 0
JudgesKind s indices k spot result old new =
    Noted seen_judged result
    (typing.judge_kind (source_of s.file) s.scope.now.locals indices k spot) new
    (notes_of.note_kind (source_of s.file) s.scope.now.locals indices k spot old)

-- the chain so far with these links
abbrev pub linked_in : Sight → Option chains.Linked → Links → Option chains.Linked
linked_in s left rest = typing.judge_links (source_of s.file) s.scope.now.locals left rest

abbrev pub links_noted_in : Sight → Option chains.Linked → Links → Noting
links_noted_in s left rest broken = notes_of.note_links (source_of s.file) s.scope.now.locals left rest broken

abbrev pub JudgesLinks : {E : Type 0} → Sight → Option Linked → Links
    → Result (Option Linked) E → (old new : List Breach) → Type 0
JudgesLinks s left rest result old new =
    Noted (option_map seen_linked) result
    (linked_in s (option_map seen_linked left) rest) new
    (links_noted_in s (option_map seen_linked left) rest old)

-- the operands so far with these
abbrev pub gathered_in : Sight → operators.Gathered → Expressions → operators.Gathered
gathered_in s g all = typing.judge_operands (source_of s.file) s.scope.now.locals g all

abbrev pub operands_noted_in : Sight → Expressions → Noting
operands_noted_in s all broken = notes_of.note_operands (source_of s.file) s.scope.now.locals all broken

abbrev pub JudgesOperands : {E : Type 0} → Sight → Expressions
    → Result Gathered E → (old new : List Breach) → Type 0
JudgesOperands s all result old new =
    Noted seen_gathered result (gathered_in s typing.nothing_gathered all) new (operands_noted_in s all old)

-- the postfix expression so far with this behind it
abbrev pub JudgesTail : {E : Type 0} → Sight → Tailing → Tail
    → Result Tailing E → (old new : List Breach) → Type 0
JudgesTail s t tail result old new =
    Noted seen_tailing result
    (typing.judge_tail (source_of s.file) s.scope.now.locals (seen_tailing t) tail) new
    (notes_of.note_tail (source_of s.file) s.scope.now.locals (seen_tailing t) tail old)

-- the postfix expression so far with all of this behind it
abbrev pub tailed_in : Sight → tails.Tailing → Tails → tails.Tailing
tailed_in s t rest = typing.judge_tails (source_of s.file) s.scope.now.locals t rest

abbrev pub tails_noted_in : Sight → tails.Tailing → Tails → Noting
tails_noted_in s t rest broken = notes_of.note_tails (source_of s.file) s.scope.now.locals t rest broken

abbrev pub JudgesTails : {E : Type 0} → Sight → Tailing → Tails
    → Result Tailing E → (old new : List Breach) → Type 0
JudgesTails s t rest result old new =
    Noted seen_tailing result (tailed_in s (seen_tailing t) rest) new (tails_noted_in s (seen_tailing t) rest old)

-- the arguments of a call, but for a format that is printed
abbrev pub seen_all : Vec Judged Global → List Judgement
seen_all made = map seen_judged made.items

abbrev pub JudgesBehind : {E : Type 0} → Sight → Option Given → Expressions
    → Result (Vec Judged Global) E → (old new : List Breach) → Type 0
JudgesBehind s given args result old new =
    Noted seen_all result
    (typing.judge_behind (source_of s.file) s.scope.now.locals given args) new
    (notes_of.note_behind (source_of s.file) s.scope.now.locals given args old)

-- arguments of a call
abbrev pub arguments_in : Sight → Expressions → List Judgement
arguments_in s args = typing.judge_arguments (source_of s.file) s.scope.now.locals args

abbrev pub arguments_noted_in : Sight → Expressions → Noting
arguments_noted_in s args broken = notes_of.note_arguments (source_of s.file) s.scope.now.locals args broken

abbrev pub JudgesArguments : {E : Type 0} → Sight → Expressions
    → Result (Vec Judged Global) E → (old new : List Breach) → Type 0
JudgesArguments s args result old new = Noted seen_all result (arguments_in s args) new (arguments_noted_in s args old)
