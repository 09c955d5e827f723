-- The shapes of a sentence's objects are lawful for a layout.
use Rattle.std.proofs.Common.{ℕ, suc, zero, ◌<◌, ◌≤◌, ◌≡◌, refl, sym, ◌∙◌, subst, arith, Bool, true, false, List, [], ◌∷◌, ◌++◌, length, append_assoc, append-nil}
use Rattle.std.specs.List.{All}
use Rattle.std.proofs.lemmas.List.Elements.{All-append, All-cons, All-nil}
use Rattle.sc_base.specs.declared.shape.Bound.{Bound}
use Rattle.sc_base.specs.declared.shape.BoundStep.{BoundStep}
use Rattle.sc_base.specs.declared.shape.BoundStep.TheVariants as step
use Rattle.sc_base.specs.declared.shape.Shape.{Shape}
use Rattle.sc_base.specs.declared.operator.Binary.{Binary}
use Rattle.sc_grammar.specs.Rest.{Rest}
use Rattle.sc_grammar.specs.Items.{IsBound, sum, IsSummands, no_more_summands, one_more_summand, IsProduct, product, IsFactors, no_more_factors, one_more_factor, IsUnit, number_unit, procs_unit, parenthesized_unit, IsBounds, no_more_bounds, one_more_bound, IsDeclarator, ordinary, spread, IsMoreDeclarators, no_more_declarators, one_more_declarator, IsItem, objects_item, function_item, IsMoreItems, no_more_items, one_more_item, IsItems, all_items, Item, objects, function}
use Rattle.sc_grammar.specs.Sentence.{objects_in, tree_of, Sentence, Spells}
use Rattle.sc_layout.specs.Bound.{IsWhole, number, procs, operation}
use Rattle.sc_layout.specs.Layout.{IsLawful}
use Rattle.sc_tree.specs.PlainTree.{PlainTree}
use Rattle.sc_tree.specs.declared.token.Token.{Token}

-- ---- bounds are whole postfix expressions

rejoin : (before next more : List BoundStep) (op : Binary) → IsWhole ((before ++ next ++ step.Op op ∷ []) ++ more) → IsWhole (before ++ (next ++ step.Op op ∷ more))
rejoin before next more op w =
    subst IsWhole (append_assoc (before ++ next) (step.Op op ∷ []) more ∙ append_assoc before next (step.Op op ∷ more)) w

mutual
  bound_whole : {d : ℕ} {a b : Rest} {all : List BoundStep} → IsBound d a b all → IsWhole all
  bound_whole (sum p more) = summands_whole (product_whole p) more

  summands_whole : {d : ℕ} {a b : Rest} {before more : List BoundStep} → IsWhole before → IsSummands d a b more → IsWhole (before ++ more)
  summands_whole w no_more_summands = subst IsWhole (sym (append-nil _)) w
  summands_whole w (one_more_summand _ _ p more) = rejoin _ _ _ _ (summands_whole (operation _ _ _ w (product_whole p)) more)

  product_whole : {d : ℕ} {a b : Rest} {all : List BoundStep} → IsProduct d a b all → IsWhole all
  product_whole (product u more) = factors_whole (unit_whole u) more

  factors_whole : {d : ℕ} {a b : Rest} {before more : List BoundStep} → IsWhole before → IsFactors d a b more → IsWhole (before ++ more)
  factors_whole w no_more_factors = subst IsWhole (sym (append-nil _)) w
  factors_whole w (one_more_factor _ _ u more) = rejoin _ _ _ _ (factors_whole (operation _ _ _ w (unit_whole u)) more)

  unit_whole : {d : ℕ} {a b : Rest} {all : List BoundStep} → IsUnit d a b all → IsWhole all
  unit_whole (number_unit _) = number _
  unit_whole (procs_unit _) = procs
  unit_whole (parenthesized_unit _ all _) = bound_whole all

-- `All` is kept folded, so that lists are seen from it
unfoldable AllWhole : List Bound → Type 0
AllWhole bounds = All (λ (bound : Bound). IsWhole bound.steps) bounds

all_whole : (bs : List Bound) → AllWhole bs → All (λ (bound : Bound). IsWhole bound.steps) bs
unfolding AllWhole
all_whole bs h = h

none_whole : AllWhole []
unfolding AllWhole
none_whole = All-nil (λ (bound : Bound). IsWhole bound.steps)

more_whole : (steps : List BoundStep) (line : ℕ) (bs : List Bound) → IsWhole steps → AllWhole bs → AllWhole (record { steps = steps; line = line } ∷ bs)
unfolding AllWhole
more_whole steps line bs w rest =
    All-cons (λ (bound : Bound). IsWhole bound.steps) (record { steps = steps; line = line }) bs w rest

joined_whole : (left right : List Bound) → AllWhole left → AllWhole right → AllWhole (left ++ right)
unfolding AllWhole
joined_whole left right a b = All-append (λ (bound : Bound). IsWhole bound.steps) left right a b

bounds_whole : {d : ℕ} {a b : Rest} {all : List Bound} → IsBounds d a b all → AllWhole all
bounds_whole no_more_bounds = none_whole
bounds_whole (one_more_bound _ all _ more) = more_whole _ _ _ (bound_whole all) (bounds_whole more)

-- ---- declarators

declarator_lawful : {d : ℕ} {a b : Rest} {s : Shape} → IsDeclarator d a b s → IsLawful s
declarator_lawful (ordinary _ _ bounds) = record {
  not_void = refl;
  ordinary = λ _. refl;
  spread = λ e. cc;
  whole = all_whole _ (joined_whole _ _ (bounds_whole bounds) none_whole);
}
declarator_lawful (spread _ _ left _ right) = record {
  not_void = refl;
  ordinary = λ e. cc;
  spread = λ _. omega arith;
  whole = all_whole _ (joined_whole _ _ (bounds_whole left) (bounds_whole right));
}

unfoldable AllLawful : List Shape → Type 0
AllLawful shapes = All IsLawful shapes

none_lawful : AllLawful []
unfolding AllLawful
none_lawful = All-nil IsLawful

more_shapes : (s : Shape) (ss : List Shape) → IsLawful s → AllLawful ss → AllLawful (s ∷ ss)
unfolding AllLawful
more_shapes s ss one rest = All-cons IsLawful s ss one rest

joined_shapes : (left right : List Shape) → AllLawful left → AllLawful right → AllLawful (left ++ right)
unfolding AllLawful
joined_shapes left right a b = All-append IsLawful left right a b

declarators_lawful : {d : ℕ} {a b : Rest} {all : List Shape} → IsMoreDeclarators d a b all → AllLawful all
declarators_lawful no_more_declarators = none_lawful
declarators_lawful (one_more_declarator _ s more) = more_shapes _ _ (declarator_lawful s) (declarators_lawful more)

-- ---- items

item_lawful : {d : ℕ} {a b : Rest} {x : Item} (items : List Item) → IsItem d a b x → AllLawful (objects_in items) → AllLawful (objects_in (x ∷ items))
item_lawful items (objects_item _ s more _) rest = joined_shapes _ _ (more_shapes _ _ (declarator_lawful s) (declarators_lawful more)) rest
item_lawful items (function_item _ _ _ _ _ _) rest = rest

more_lawful : {d : ℕ} {a b : Rest} {all : List Item} → IsMoreItems d a b all → AllLawful (objects_in all)
more_lawful no_more_items = none_lawful
more_lawful (one_more_item x more) = item_lawful _ x (more_lawful more)

items_lawful : {d : ℕ} {a b : Rest} {all : List Item} → IsItems d a b all → AllLawful (objects_in all)
items_lawful (all_items x more) = item_lawful _ x (more_lawful more)

lawful_of : (shapes : List Shape) → AllLawful shapes → All IsLawful shapes
unfolding AllLawful
lawful_of shapes h = h

made_lawful : (items : List Item) (ts : List Token) (tree : PlainTree) → tree ≡ tree_of items ts → AllLawful (objects_in items) → AllLawful tree.objects
made_lawful items ts tree e h = subst (λ (t : PlainTree). AllLawful t.objects) (sym e) h

-- the objects of a sentence can be laid out
pub lawful : (ts : List Token) (tree : PlainTree) → Sentence ts tree → All IsLawful tree.objects
lawful ts tree s = lawful_of _ (made_lawful s.spells.items _ _ s.spells.made (items_lawful s.spells.is))
