use Rattle.std.proofs.Common.{map, ◌∙◌, ap}
use Rattle.sc_tree.specs.ViewTree.{plain_tree, plain_function}
use Rattle.sc_typing.specs.Answer.{first_noted}
use Rattle.sc_typing.specs.Program.{definitions_of}
use Rattle.sc_check.proofs.Answered.{parts_are, notes_are, first_answered, none_answered, typed_answered}
use Rattle.sc_check.proofs.checker.check.Goals as goal

pub returns-in-Some : goal.returns-in-Some
returns-in-Some c =
    let tree = plain_tree c.args.tree.now in
    let names = c.args.lexed.now.names in
    let texts = c.args.lexed.now.texts in
    let made = ap (λ fs. definitions_of (map plain_function fs)) c.as_slice.ensures in
    let defined = c.in_ok-definitions.ensures ∙ made in
    let source = parts_are tree names texts c.as_slice-2.ensures (c.as_slice-3.ensures.value ∙ defined) in
    let notes = notes_are tree names texts source c.new-notes.ensures c.in_ok-functions.ensures.notes in
    let first = c.in-Some.ensures ∙ ap first_noted c.as_slice-4.ensures in
    rw (c.number.ensures, c.line_of.ensures) (first_answered tree names texts notes first)

pub returns : goal.returns
returns c =
    let tree = plain_tree c.args.tree.now in
    let names = c.args.lexed.now.names in
    let texts = c.args.lexed.now.texts in
    let made = ap (λ fs. definitions_of (map plain_function fs)) c.as_slice.ensures in
    let defined = c.in_ok-definitions.ensures ∙ made in
    let source = parts_are tree names texts c.as_slice-2.ensures (c.as_slice-3.ensures.value ∙ defined) in
    let notes = notes_are tree names texts source c.new-notes.ensures c.in_ok-functions.ensures.notes in
    let none = c.in_default.ensures ∙ ap first_noted c.as_slice-4.ensures in
    let known = c.as_slice-5.ensures.value ∙ defined in
    let typed = typed_answered tree names texts source c.in_ok-functions.ensures.typed known in
    (c.in_ok-typed.ensures ∙ typed, none_answered tree names texts notes none)
