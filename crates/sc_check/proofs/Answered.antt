-- What the notes of the code say of the source, which the code knows by the parts of its file.
use Rattle.std.proofs.Common.{◌≡◌, List, [], Some, None, ◌++◌, map, sym, ◌∙◌, ap}
use Rattle.sc_base.specs.declared.shape.Shape.{Shape}
use Rattle.sc_tree.specs.Names.{Text}
use Rattle.sc_tree.specs.PlainTree.{PlainTree}
use Rattle.sc_tree.specs.PlainTypedTree.{PlainTypedFunction, PlainTypedTree}
use Rattle.sc_typing.specs.declared.file.Definition.{Definition}
use Rattle.sc_typing.specs.declared.notes.Breach.{Breach}
use Rattle.sc_typing.specs.Source.{Source}
use Rattle.sc_typing.specs.Numbers.{rule_number}
use Rattle.sc_typing.specs.Program.{definitions_of, source_of_tree, typed_function, typed_of, name_text, line_of}
use Rattle.sc_typing.proofs.ProgramNotes.{note_file, noted}
use Rattle.sc_typing.specs.Answer.{first_noted, IsFirstBroken, IsWellTyped}
use Rattle.sc_typing.proofs.Noted.{first_is_least, none_is_well_typed}

abbrev pub parts : (objects : List Shape) → (definitions : List Definition) → (names texts : List Text) → Source
parts objects definitions names texts =
    record { objects = objects; definitions = definitions; names = names; texts = texts }

-- the typed tree with these functions, and texts for these definitions
abbrev pub with_functions : PlainTree → (names texts : List Text) → List PlainTypedFunction → List Definition →
    PlainTypedTree
with_functions tree names texts functions definitions = record {
  objects = tree.objects;
  functions = functions;
  lines = tree.lines;
  last = tree.last;
  texts = texts ++ map (λ d. name_text names d.name) definitions;
}

module _ (tree : PlainTree) (names texts : List Text) where
  pub parts_are : {objects : List Shape} {definitions : List Definition} → objects ≡ tree.objects →
      definitions ≡ definitions_of tree.functions →
      parts objects definitions names texts ≡ source_of_tree tree names texts
  parts_are o d = λ i. parts (o i) (d i) names texts

  pub notes_are : {c : Source} {start broken : List Breach} → c ≡ source_of_tree tree names texts → start ≡ [] →
      broken ≡ note_file c tree start → broken ≡ noted tree names texts
  notes_are s e n = n ∙ (λ i. note_file (s i) tree (e i))

  pub first_answered : {broken : List Breach} {b : Breach} → broken ≡ noted tree names texts →
      Some b ≡ first_noted broken → IsFirstBroken tree names texts (rule_number b.rule) (line_of tree b.at)
  first_answered n f = first_is_least tree names texts (sym (f ∙ ap first_noted n))

  pub none_answered : {broken : List Breach} → broken ≡ noted tree names texts → None ≡ first_noted broken →
      IsWellTyped tree names texts
  none_answered n f = none_is_well_typed tree names texts (sym (f ∙ ap first_noted n))

  pub typed_answered : {c : Source} {functions : List PlainTypedFunction} {definitions : List Definition} →
      c ≡ source_of_tree tree names texts → functions ≡ map (typed_function c) tree.functions →
      definitions ≡ definitions_of tree.functions →
      with_functions tree names texts functions definitions ≡ typed_of tree names texts
  typed_answered s f d =
      let typed = f ∙ ap (λ c. map (typed_function c) tree.functions) s in
      λ i. with_functions tree names texts (typed i) (d i)
