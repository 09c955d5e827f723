-- A small source, typed and laid out, whose run is computed: `int x; int *p; void splitc_main() { int *q; int n; p =
-- &x; q = p; n := *q; sync(); }`.
use Rattle.std.proofs.Common.{◌≡◌, ℕ, pos, true, false, List, [], ◌∷◌, refl, arith}
use Rattle.std.specs.Prelude.{codes}
use Rattle.std.specs.List.{Contains}
use Rattle.std.proofs.lemmas.List.Elements.{All-nil, All-cons}
use Rattle.resumption.specs.Resumption.{Ends, run_of}
use Rattle.sc_base.specs.declared.shape.Shape.{Shape}
use Rattle.sc_base.specs.declared.shape.Star.{Star}
use Rattle.sc_base.specs.declared.shape.Star.TheVariants.{Local}
use Rattle.sc_base.specs.declared.value.End.TheVariants.{Ended}
use Rattle.sc_base.specs.declared.value.Place.{Place}
use Rattle.sc_base.specs.declared.value.Value.TheVariants.{Int, Ptr}
use Rattle.sc_layout.specs.Layout.{LaidObject, Arrangement, IsLawful, IsLayout, layout_of, object_of, bound_of, cells_of}
use Rattle.sc_layout.specs.Place.{place_in}
use Rattle.sc_core.specs.declared.operation.Operation.{Operation}
use Rattle.sc_core.specs.declared.operation.Operation.TheVariants as does
use Rattle.sc_core.specs.declared.operation.Action.TheVariants as acts
use Rattle.sc_core.specs.Core.{Core, step, none, argument, Does, then_, act, Program}
use Rattle.sc_core.specs.Kinds.{number, to, named, Scope}
use Rattle.sc_core.specs.Kinds as kinds
use Rattle.sc_core.specs.Forms.{exposes_of}
use Rattle.sc_core.specs.Typed.{Has, IsTyped, IsTypedFunction}
use Rattle.sc_meaning.specs.declared.request.Request.TheVariants.{Read, Write, Get, Sync}
use Rattle.sc_meaning.specs.Asking.{Shown, Landed, Finishes}
use Rattle.sc_meaning.specs.Meaning.{meaning}
use Rattle.value_soundness.specs.Laws.{IsLaidSource}

abbrev shape_of : List Star → Shape
shape_of stars = record {
  name = 0;
  ty = record { void = false; stars = stars };
  spread = false;
  left = [];
  right = [];
  at = 1;
  line = 1;
}

abbrev laid_of : List Star → LaidObject
laid_of stars = record { shape = shape_of stars; bounds = [] }

-- `x` and `p`
abbrev layout : Arrangement
layout = record { nodes = 2; objects = laid_of [] ∷ laid_of (Local ∷ []) ∷ [] }

abbrev one : Operation → Core → Core
one operation e = step operation (argument e none) 7

abbrev own_p : Core
own_p = one does.Own (step (does.Element 1 0 true) none 7)

abbrev body : Does
body =
    then_ (act (acts.Clear 0 true) none 7)
    (then_ (act (acts.Clear 1 false) none 7)
    (then_ (act acts.Drop (argument (step does.Write (argument own_p (argument (step
    (does.Address 0 0) none 7) none)) 7) none) 7)
    (then_ (act (acts.Fill 0) (argument own_p none) 7)
    (then_ (act (acts.Get 1) (argument (one does.Own (step (does.Use 0) none 7)) none) 7)
    (act acts.Sync none 7)))))

abbrev program : Program
program = record {
  functions = record {
    params = [];
    others = record { void = false; stars = Local ∷ [] } ∷ record { void = false; stars = [] } ∷ [];
    result = record { void = true; stars = [] };
    body = body;
    line = 8;
  } ∷ [];
  main = 0;
  texts = codes "splitc_main" ∷ [];
}

lawful_shape : (stars : List Star) → IsLawful (shape_of stars)
lawful_shape stars = record { not_void = refl; ordinary = λ e. refl; spread = λ e. absurd (cc); whole = All-nil _ }

is_layout : IsLayout layout
unfolding layout_of object_of bound_of cells_of
is_layout = record {
  some_node = omega arith;
  lawful = All-cons IsLawful (shape_of []) (shape_of (Local ∷ []) ∷ []) (lawful_shape [])
      (All-cons IsLawful (shape_of (Local ∷ [])) [] (lawful_shape (Local ∷ [])) (All-nil IsLawful));
  laid = refl;
}

abbrev shapes : List Shape
shapes = shape_of [] ∷ shape_of (Local ∷ []) ∷ []

abbrev p_cell : List Star
p_cell = Local ∷ []

-- where these locals have begun
abbrev scope : List ℕ → Scope
scope begun = record {
  objects = shapes;
  functions = program.functions;
  texts = 1;
  locals = to [] ∷ number ∷ [];
  begun = begun;
}

own_p_has : (begun : List ℕ) → Has (scope begun) own_p (named true p_cell)
own_p_has begun =
    (named false p_cell ∷ [], (([], tt, kinds.element {s = shape_of p_cell} refl refl), tt), kinds.own_cell)

address_has : (begun : List ℕ) → Has (scope begun) (step (does.Address 0 0) none 7) (to [])
address_has begun =
    ([], tt, kinds.address {s = shape_of []} refl (record { enough = omega arith; not_more = omega arith }))

first_has : (n : ℕ) (ns : List ℕ) → Contains (n ∷ ns) n
first_has n ns = (0, omega arith, refl)

is_typed : IsTyped shapes program
is_typed = record {
  functions = All-cons (IsTypedFunction shapes program) _ [] (
    ([], tt, kinds.clear_pointer refl),
    (
      ([], tt, kinds.clear_number refl),
      (
        (
          to [] ∷ [],
          (
            (
              named true p_cell ∷ to [] ∷ [],
              (own_p_has (1 ∷ 0 ∷ []), (address_has (1 ∷ 0 ∷ []), tt)),
              kinds.write {cell = p_cell} kinds.by_name,
            ),
            tt,
          ),
          kinds.drop,
        ),
        (
          (named true p_cell ∷ [], (own_p_has (1 ∷ 0 ∷ []), tt), kinds.fill {cell = p_cell} kinds.by_name refl),
          (
            (
              named true [] ∷ [],
              (
                (to [] ∷ [], (([], tt, kinds.use_ (refl, first_has 0 (1 ∷ 0 ∷ []))), tt), kinds.own_pointer),
                tt,
              ),
              kinds.get {cell = []} kinds.by_name (refl, (1, omega arith, refl)),
            ),
            ([], tt, kinds.sync),
          ),
        ),
      ),
    ),
  ) (All-nil _);
  main = _;
  begins = refl;
  no_params = refl;
}

pub is_laid_source : IsLaidSource layout program
is_laid_source = record { laid = is_layout; few_nodes = omega arith; typed = is_typed }

-- `x` alone is exposed
exposes_x : exposes_of program ≡ 0 ∷ []
exposes_x = refl

abbrev cell_of : (object node : ℕ) → Place
cell_of object node = record { object = object; node = node; offset = 0 }

-- what node 1 asks under answers that fit, and how it ends
runs_whole : run_of (meaning (record { layout = layout; node = 1; program = program }) 10) (Shown
    (Ptr 0 0 0) ∷ Landed (Int (pos 5) ∷ []) ∷ [])
    ≡ record {
      events = Write (cell_of 1 1) (Ptr 0 0 0) 7 ∷ Read (cell_of 1 1) 7 ∷ Get (cell_of 0 1) 7 ∷ Sync 7 ∷ [];
      text = [];
      end = Ends (Finishes Ended);
    }
unfolding cells_of place_in
runs_whole = refl
