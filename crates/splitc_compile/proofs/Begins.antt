-- Where the nodes of a compiled source begin, and the facts of accepted sources that the parts behind the check need.
use Rattle.std.proofs.Common.{◌≡◌, refl, sym, ◌∙◌, ap, subst, ℕ, suc, ◌+◌, ◌-◌, ◌<◌, ◌≤◌, ◌^◌, arith, Bool, true, false, List, [], ◌∷◌, ◌++◌, length, drop, if◌then◌else◌, length-append}
use Rattle.std.specs.Prelude.{Option, Some, None, map, slice_get, codes}
use Rattle.std.specs.Bool.{Decides}
use Rattle.std.specs.Str.{bytes_eq}
use Rattle.std.proofs.lemmas.List.{length-map, length-drop}
use Rattle.std.proofs.lemmas.Slice.Eq.{bytes_eq-Decides}
use Rattle.sc_base.specs.declared.shape.Shape.{Shape}
use Rattle.sc_tree.specs.Names.{Text}
use Rattle.sc_tree.specs.PlainTree.{PlainTree}
use Rattle.sc_tree.specs.PlainTypedTree.{PlainTypedTree}
use Rattle.sc_layout.specs.Layout.{Arrangement, IsLayout}
use Rattle.sc_typing.specs.Program.{typed_of, source_of_tree, name_text, definitions_of}
use Rattle.sc_isa.specs.declared.code.Code.{Code}
use Rattle.sc_isa.specs.declared.code.FnRow.{FnRow}
use Rattle.sc_isa.specs.Begin.{row_named, names, entry}
use Rattle.sc_core.specs.Core.{Function, Program}
use Rattle.sc_core.specs.Lowering.{main_in, core_of}
use Rattle.sc_core.specs.Typed.{IsTyped}
use Rattle.core_typing.proofs.Sources.{cores-typed, cores-count}
use Rattle.core_typing.proofs.ProperTrees.{read-proper}
use Rattle.core_typing.proofs.Laid.{laid-shapes}
use Rattle.value_soundness.specs.Laws.{IsLaidSource}
use Rattle.site_graph.specs.declared.plan.Plan.{Plan}
use Rattle.node_emit.specs.Sources.{rows_from, IsCodeOf}
use Rattle.node_emit.specs.Law.{BeginsInMain}
use Rattle.front_end.specs.Accepted.{IsAccepted}
use Rattle.splitc_compile.specs.Compiled.{Parts, AreParts}

-- ---- rows by names

abbrev main_name : List ℕ
main_name = codes "splitc_main"

equal_either_way : (xs ys : List ℕ) → bytes_eq xs ys ≡ bytes_eq ys xs
equal_either_way xs ys = go (bytes_eq xs ys) (bytes_eq ys xs) (bytes_eq-Decides xs ys) (bytes_eq-Decides ys xs)
  where
    go : (a b : Bool) → Decides a (xs ≡ ys) → Decides b (ys ≡ xs) → a ≡ b
    go true b p q = sym (q.1 (sym (p.0 refl)))
    go a true p q = p.1 (sym (q.0 refl))
    go false false p q = refl

-- as many names as rows: the row of that name is the one with the number of the name
row_at : (rows : List FnRow) (others : List Text) → length others ≡ length rows
    → row_named main_name rows others ≡ slice_get rows (main_in others)
row_at [] [] e = refl
row_at [] (other ∷ others) e = cc
row_at (row ∷ rows) [] e = cc
row_at (row ∷ rows) (other ∷ others) e =
    go (bytes_eq other main_name) (equal_either_way main_name other) (row_at rows others (omega (arith, e)))
  where
    go : (b : Bool) → bytes_eq main_name other ≡ b → row_named main_name rows others ≡ slice_get rows (main_in others)
        → (if bytes_eq main_name other then Some row else row_named main_name rows others)
        ≡ slice_get (row ∷ rows) (if b then 0 else suc (main_in others))
    go true is further = rw is refl
    go false is further = rw is further

pub rows_count : (plan : Plan) (functions : List Function) (k pc : ℕ) → length (rows_from plan functions k pc) ≡ length functions
rows_count plan [] k pc = refl
rows_count plan (f ∷ more) k pc = ap suc (rows_count plan more _ _)

-- ---- accepted sources

module _ (tree : PlainTree) (names_ texts : List Text) where
  abbrev core : Program
  core = core_of (typed_of tree names_ texts)

  -- the names of the functions are among the texts
  pub names_are_texts : length core.functions ≤ length core.texts
  names_are_texts =
      let c = source_of_tree tree names_ texts in
      let count = cores-count c tree.functions in
      let long = length-append c.texts (map (λ d. name_text c.names d.name) c.definitions) in
      let same = length-map c.definitions (λ d. name_text c.names d.name) in
      omega (arith, count, long, same)

  begins : (plan : Plan) (code : Code) → IsCodeOf plan core code → BeginsInMain core code
  begins plan code is =
      let rows = rows_count plan core.functions 1 0 in
      let enough = names_are_texts in
      let left = length-drop (length core.texts - length core.functions) core.texts in
      let there = row_at (rows_from plan core.functions 1 0) (drop (length core.texts - length core.functions) core.texts)
      (omega (arith, rows, enough, left)) in
      rw (is.functions, is.texts, rows) there

module _ (source : List ℕ) (nodes : ℕ) (names_ : List Text) (typed : PlainTypedTree) (layout : Arrangement)
    (a : IsAccepted source nodes names_ typed layout) where
  pub texts_enough : length (core_of typed).functions ≤ length (core_of typed).texts
  texts_enough =
      subst (λ (t : PlainTypedTree). length (core_of t).functions ≤ length (core_of t).texts) (sym a.typed_is)
      (names_are_texts a.tree a.lexed.names a.lexed.texts)

  pub begins_in_main : (plan : Plan) (code : Code) → IsCodeOf plan (core_of typed) code → BeginsInMain (core_of typed) code
  begins_in_main plan code is =
      subst (λ (t : PlainTypedTree). IsCodeOf plan (core_of t) code → BeginsInMain (core_of t) code) (sym a.typed_is)
      (begins a.tree a.lexed.names a.lexed.texts plan code) is

  pub laid_source : IsLayout layout → layout.nodes < 2 ^ 32 → IsLaidSource layout (core_of typed)
  laid_source laid few = record {
    laid = laid;
    few_nodes = few;
    typed = subst (λ (t : PlainTypedTree). IsTyped (map (λ object. object.shape) layout.objects) (core_of t)) (sym a.typed_is)
        (subst (λ (objects : List Shape). IsTyped objects (core_of (typed_of a.tree a.lexed.names a.lexed.texts)))
        (sym (laid-shapes a.tree.objects nodes layout a.laid.laid))
        (cores-typed a.tree a.lexed.names a.lexed.texts
        (read-proper source a.lexed a.tree a.laid.read.tokens a.laid.read.sentence) a.well_typed));
  }

-- the code of a source can be listed
pub listed : (p : Parts) → AreParts p → length p.code.functions ≤ length p.code.texts
listed p are =
    let rows = rows_count p.plan p.core.functions 1 0 in
    let count = ap (λ (rows : List FnRow). length rows) are.code_is.functions in
    let texts = ap (λ (texts : List Text). length texts) are.code_is.texts in
    omega (arith, are.named, rows, count, texts)
