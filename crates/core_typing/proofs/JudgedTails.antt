-- What is known of judged postfix expressions, one part behind the first at a time.
use Rattle.std.proofs.Common.{◌≡◌, refl, sym, ◌∙◌, ap, subst, ℕ, zero, suc, ◌+◌, ◌<◌, arith, Bool, true, false, ◌&&◌, ◌||◌, min, List, [], ◌∷◌, ◌++◌}
use Rattle.std.specs.Prelude.{Option, Some, None, slice_get, nat_lt, if◌then◌else◌}
use Rattle.std.specs.Option.{option_map}
use Rattle.sc_base.specs.declared.operator.Binary.TheVariants as op
use Rattle.sc_base.specs.declared.shape.Star.{Star}
use Rattle.sc_base.specs.declared.shape.Shape.{Shape}
use Rattle.sc_base.specs.declared.shape.Ty.{Ty}
use Rattle.sc_tree.specs.Plain.{Expression, Tail, index, up, down, Tails, no_tails, tails}
use Rattle.sc_tree.specs.PlainTyped.{TypedExpression, typed_expression, TypedForm, TypedTail}
use Rattle.sc_tree.specs.PlainTyped as typed
use Rattle.sc_typing.specs.declared.known.Spot.{Spot}
use Rattle.sc_typing.specs.declared.places.PlaceKind.{PlaceKind}
use Rattle.sc_typing.specs.declared.places.PlaceKind.TheVariants as place
use Rattle.sc_typing.specs.declared.scope.InScope.{InScope}
use Rattle.sc_typing.specs.Types.{last_star, has_stars, is_int}
use Rattle.sc_typing.specs.Known.{Valued, Judgement, only}
use Rattle.sc_typing.specs.Source.{Source, dimensions, object_type}
use Rattle.sc_typing.specs.Rules
use Rattle.sc_typing.specs.Places as places
use Rattle.sc_typing.specs.Places.{object_place, reached_by}
use Rattle.sc_typing.specs.Naming.{leading}
use Rattle.sc_typing.specs.Tails.{Tailed, Tailing, first_tail, begin_tails, value_so_far, with_own_index, with_index, tail_with, own_index, pointed, pointer_index, index_tail, with_step, kept_tail, step_of_tail, stepped, step_tail, postfix_value}
use Rattle.sc_typing.specs.Typing.{tailed, judge, judge_tails, judge_tail}
use Rattle.sc_typing.proofs.TypedLists.{no_postfix}
use Rattle.sc_core.specs.Places.{Found, dimensions_of, object_with}
use Rattle.sc_core.specs.Expressions.{found, tail_found}
use Rattle.sc_core.specs.Kinds.{Scope}
use Rattle.core_typing.proofs.Types.{left_of, right_of, no_more, Points, points, int-stars, element-stars, last-is}
use Rattle.core_typing.proofs.Founds.{FoundIs}
use Rattle.core_typing.proofs.Finds.{Finds, finds-form}
use Rattle.core_typing.proofs.Forms.{Operates}
use Rattle.core_typing.proofs.Behind.{Runs, runs-first, runs-push, runs-comes, index-found, up-found, down-found, Own, own-first, own-push, own-all, own-short}
use Rattle.core_typing.proofs.Made.{never_some, some-is, made-of}
use Rattle.core_typing.proofs.Seen.{Sees}
use Rattle.core_typing.proofs.Acts.{dropped-acts}
use Rattle.core_typing.proofs.Sound.{IsPlaced, nowhere, as_memory, Sound, Knows, Whole, whole-as}
use Rattle.core_typing.proofs.Judged.{operates-by}
use Rattle.core_typing.proofs.JudgedNames.{Stands, with_all, with_most, standing-found, standing-placed, First, a_whole, a_name}

-- ---- counts of indices

some-left : (left : ℕ) → 0 < left → (l : ℕ) × (left ≡ suc l)
some-left zero h = absurd (omega (arith, h))
some-left (suc l) h = (l, refl)

lt-true : (n : ℕ) → nat_lt 0 n ≡ true → 0 < n
lt-true n h = grind arith

lt-false : (n : ℕ) → nat_lt 0 n ≡ false → n ≡ 0
lt-false n h = grind arith

module _ (c : Source) (scope : Scope) (sees : Sees c scope) where
  -- The object has so many indices so far, and as many more belong to it as are to be skipped.
  pub record Owning (remaining : Tails) (t : Tailing) (td : Tailed) : Type 0 where
    pub o : ℕ
    pub s : Shape
    pub left : ℕ
    pub count : ℕ
    pub taken : ℕ
    pub there : slice_get c.objects o ≡ Some s
    pub own : Own c.objects scope td.first td.rest td.ty.stars o left count
    pub dims : count + left ≡ dimensions s
    pub skips : count + t.skip ≡ taken
    pub bound : taken ≡ min (count + leading remaining) (dimensions s)
    pub placed : t.place ≡ object_place s taken
    pub type_is : td.ty ≡ object_type s taken
    pub stands : Stands s taken

  -- what is known of a postfix expression before these parts
  pub data TailState (remaining : Tails) (t : Tailing) (td : Tailed) : Type 0 where
    running : {what : Found} → t.skip ≡ 0 → Runs c.objects scope td.first td.rest td.ty.stars what →
        IsPlaced t.place what → TailState remaining t td
    owning : Owning remaining t td → TailState remaining t td

  record Running (t : Tailing) (td : Tailed) : Type 0 where
    pub what : Found
    pub runs : Runs c.objects scope td.first td.rest td.ty.stars what
    pub placed : IsPlaced t.place what

  -- an object with all its indices is a cell
  settle : {remaining : Tails} {t : Tailing} {td : Tailed} → (w : Owning remaining t td) → w.left ≡ 0 →
      w.taken ≡ w.count → Running t td
  settle {remaining = remaining} {t = t} {td = td} w none same =
      let own = subst (λ (n : ℕ). Own c.objects scope td.first td.rest td.ty.stars w.o n w.count) none w.own in
      let stands = subst (λ (n : ℕ). Stands w.s n) same w.stands in
      let ty : td.ty ≡ object_type w.s w.count = w.type_is ∙ ap (object_type w.s) same in
      record {
        what = object_with c.objects w.o w.count own.plain own.indices own.at;
        runs =
            own-all c.objects scope own
            (subst (λ (ty : Ty). FoundIs scope ty.stars (object_with c.objects w.o w.count own.plain own.indices own.at))
            (sym ty)
            (standing-found c.objects scope w.o own.plain own.at w.count w.s w.there (sees.objects w.o w.s w.there) stands
            own.have));
        placed =
            subst (λ (p : PlaceKind). IsPlaced p (object_with c.objects w.o w.count own.plain own.indices own.at))
            (sym (w.placed ∙ ap (object_place w.s) same))
            (standing-placed c.objects scope w.o own.plain own.indices own.at w.count w.s w.there stands);
      }

  -- ---- an index

  index-placed : (td : Tailed) (what : Found) (e : TypedExpression) (at line : ℕ) → Points td.ty.stars →
      IsPlaced (place.Memory (last_star td.ty)) (tail_found c.objects what td.ty.stars (typed.index e at line))
  unfolding tail_found
  index-placed td what e at line p = rw (last-is td.ty ∙ p.last, p.last) (as_memory refl)

  pointer-step : {remaining : Tails} (t : Tailing) (td td' : Tailed) (j : Judgement) (at line : ℕ) → t.tailed ≡ Some td →
      Running t td → Knows c.objects scope j → (pointer_index t j at line).tailed ≡ Some td' →
      TailState remaining (pointer_index t j at line) td'
  unfolding pointer_index
  pointer-step {remaining = remaining} t td td' j at line same r known h =
      let kept = Rules.index_kept j.known && pointed t in
      let m =
      made-of (with_index at line td) kept j.known td'
      (subst (λ (o : Option Tailed). tail_with (with_index at line) o (only kept j.known) ≡ Some td') same h) in
      let number =
      int-stars (m.of).ty
      (subst (λ (o : Option Valued). Rules.index_kept o ≡ true) m.is (left_of (Rules.index_kept j.known) (pointed t) m.rule)) in
      let p =
      points td.ty.stars
      (subst (λ (o : Option Tailed). Rules.pointer_kept (option_map value_so_far o) ≡ true) same
      (right_of (Rules.index_kept j.known) (pointed t) m.rule)) in
      let f = subst (λ (ss : List Star). Finds c.objects scope ss (m.of).expression) number (known m.of m.is).finds in
      let tail = typed.index (m.of).expression at line in
      let runs = runs-push c.objects scope tail r.runs (index-found c.objects scope at line p r.runs.is f) in
      subst (λ (td' : Tailed). TailState remaining (pointer_index t j at line) td') m.gives
      (running refl
      (subst (λ (ss : List Star). Runs c.objects scope td.first (td.rest ++ tail ∷ []) ss
      (tail_found c.objects r.what td.ty.stars tail)) (sym (element-stars td.ty)) runs)
      (subst (λ (o : Option Tailed). IsPlaced (reached_by (option_map value_so_far o))
      (tail_found c.objects r.what td.ty.stars tail)) (sym same)
      (index-placed td r.what (m.of).expression at line p)))

  own-step : {e : Expression} {more : Tails} (t : Tailing) (td td' : Tailed) (j : Judgement) (at line l : ℕ) →
      t.tailed ≡ Some td → (w : Owning (tails (index e at line) more) t td) → 0 < t.skip → w.left ≡ suc l →
      Knows c.objects scope j → (own_index t j at line).tailed ≡ Some td' → TailState more (own_index t j at line) td'
  unfolding own_index
  own-step {more = more} t td td' j at line l same w skips left_is known h =
      let m =
      made-of (with_own_index at line td) (Rules.index_kept j.known) j.known td'
      (subst (λ (o : Option Tailed). tail_with (with_own_index at line) o (only (Rules.index_kept j.known) j.known)
      ≡ Some td') same h) in
      let number =
      int-stars (m.of).ty (subst (λ (o : Option Valued). Rules.index_kept o ≡ true) m.is m.rule) in
      let f = subst (λ (ss : List Star). Finds c.objects scope ss (m.of).expression) number (known m.of m.is).finds in
      let own =
      own-push c.objects scope at line
      (subst (λ (n : ℕ). Own c.objects scope td.first td.rest td.ty.stars w.o n w.count) left_is w.own) f in
      subst (λ (td' : Tailed). TailState more (own_index t j at line) td') m.gives
      (owning
      (record {
        o = w.o;
        s = w.s;
        left = l;
        count = w.count + 1;
        taken = w.taken;
        there = w.there;
        own = own;
        dims = omega (arith, w.dims, left_is);
        skips = omega (arith, w.skips, skips);
        bound = omega (arith, w.bound);
        placed = w.placed;
        type_is = w.type_is;
        stands = w.stands;
      }))

  pub index-step : {e : Expression} {more : Tails} (t : Tailing) (td td' : Tailed) (j : Judgement) (at line : ℕ) →
      t.tailed ≡ Some td → TailState (tails (index e at line) more) t td → Knows c.objects scope j →
      (index_tail t j at line).tailed ≡ Some td' → TailState more (index_tail t j at line) td'
  unfolding index_tail
  index-step {e = e} {more = more} t td td' j at line same state known h = go (nat_lt 0 t.skip) refl state h
    where
      go : (own : Bool) → nat_lt 0 t.skip ≡ own → TailState (tails (index e at line) more) t td →
          (if own then own_index t j at line else pointer_index t j at line).tailed ≡ Some td' →
          TailState more (if own then own_index t j at line else pointer_index t j at line) td'
      go true n (running {what = what} z r p) x = absurd (let q = lt-true t.skip n in omega (arith, q, z))
      go true n (owning w) x =
          let skips = lt-true t.skip n in
          let l = some-left w.left (omega (arith, w.dims, w.skips, w.bound, skips)) in
          own-step t td td' j at line l.0 same w skips l.1 known x
      go false n (running {what = what} z r p) x =
          pointer-step t td td' j at line same (record { what = what; runs = r; placed = p }) known x
      go false n (owning w) x =
          let z = lt-false t.skip n in
          pointer-step t td td' j at line same
          (settle w (omega (arith, w.dims, w.skips, w.bound, z)) (omega (arith, w.skips, z))) known x

  -- ---- `++` and `--`

  moved-step : {remaining : Tails} (is_up : Bool) (t : Tailing) (td td' : Tailed) (at line : ℕ) → t.tailed ≡ Some td →
      Running t td → stepped t ≡ true → with_step (step_of_tail is_up at line) td ≡ td' →
      TailState remaining (step_tail t is_up at line) td'
  unfolding step_tail
  moved-step {remaining = remaining} is_up t td td' at line same r kept e =
      subst (λ (td' : Tailed). TailState remaining (step_tail t is_up at line) td') e (go is_up)
    where
      moved : (is_int td.ty || (true && has_stars td.ty.stars)) ≡ true
      moved =
          right_of (places.may_be_set t.place) (is_int td.ty || (true && has_stars td.ty.stars))
          (subst (λ (o : Option Tailed). Rules.place_kept true t.place (option_map value_so_far o) ≡ true) same kept)

      ups : Operates td.ty.stars op.Add
      ups = operates-by true op.Add td.ty (λ x. refl) moved

      downs : Operates td.ty.stars op.Sub
      downs = operates-by true op.Sub td.ty (λ x. refl) moved

      go : (is_up : Bool) → TailState remaining (step_tail t is_up at line) (with_step (step_of_tail is_up at line) td)
      go true =
          running refl
          (runs-push c.objects scope (typed.up at line) r.runs (up-found c.objects scope at line ups downs r.runs.is)) nowhere
      go false =
          running refl
          (runs-push c.objects scope (typed.down at line) r.runs (down-found c.objects scope at line ups downs r.runs.is))
          nowhere

  -- what can be stepped is a place, so that an object has all its indices
  step-running : {remaining : Tails} (t : Tailing) (td : Tailed) → leading remaining ≡ 0 →
      places.may_be_set t.place ≡ true → TailState remaining t td → Running t td
  step-running t td ends set (running {what = what} z r p) = record { what = what; runs = r; placed = p }
  step-running {remaining = remaining} t td ends set (owning w) = go w.stands
    where
      go : Stands w.s w.taken → Running t td
      go (with_all all ty p) =
          settle w (omega (arith, w.dims, w.bound, ends, all)) (omega (arith, w.dims, w.bound, ends, all))
      go (with_most most ty p) =
          no_more (subst (λ (p : PlaceKind). places.may_be_set p ≡ true) (w.placed ∙ p) set)

  pub moving-step : {remaining more : Tails} (is_up : Bool) (t : Tailing) (td td' : Tailed) (at line : ℕ) →
      t.tailed ≡ Some td → leading remaining ≡ 0 → TailState remaining t td →
      (step_tail t is_up at line).tailed ≡ Some td' → TailState more (step_tail t is_up at line) td'
  unfolding step_tail
  moving-step {remaining = remaining} {more = more} is_up t td td' at line same ends state h = go (stepped t) refl h
    where
      go : (kept : Bool) → stepped t ≡ kept →
          option_map (with_step (step_of_tail is_up at line)) (kept_tail kept t.tailed) ≡ Some td' →
          TailState more (step_tail t is_up at line) td'
      go false k x = never_some x
      go true k x =
          moved-step is_up t td td' at line same
          (step-running t td ends
          (left_of (places.may_be_set t.place) (Rules.passes (λ v. is_int v.ty || (true && has_stars v.ty.stars))
          (option_map value_so_far t.tailed)) k) state) k
          (some-is _ td'
          (subst (λ (o : Option Tailed). option_map (with_step (step_of_tail is_up at line)) o ≡ Some td') same x))

  -- ---- parts in turn

  module _ (locals : List InScope) where
    abbrev pub TailKnows : Tail → Type 0
    TailKnows (index e at line) = Knows c.objects scope (judge c locals 0 e)
    TailKnows (up at line) = Unit {0}
    TailKnows (down at line) = Unit {0}

    one-tail : (t : Tailing) (td td' : Tailed) (tail : Tail) (more : Tails) → t.tailed ≡ Some td → TailKnows tail →
        TailState (tails tail more) t td → (judge_tail c locals t tail).tailed ≡ Some td' →
        TailState more (judge_tail c locals t tail) td'
    one-tail t td td' (index e at line) more same known state h =
        index-step t td td' (judge c locals 0 e) at line same state known h
    one-tail t td td' (up at line) more same known state h =
        moving-step {remaining = tails (up at line) more} true t td td' at line same refl state h
    one-tail t td td' (down at line) more same known state h =
        moving-step {remaining = tails (down at line) more} false t td td' at line same refl state h

    pub tail-step : (t : Tailing) (td : Tailed) (tail : Tail) (more : Tails) → t.tailed ≡ Some td → TailKnows tail →
        TailState (tails tail more) t td →
        ((u : Tailing) (ud : Tailed) → u.tailed ≡ Some ud → TailState more u ud → (last : Tailed) →
        (judge_tails c locals u more).tailed ≡ Some last → TailState no_tails (judge_tails c locals u more) last) →
        (last : Tailed) → (judge_tails c locals t (tails tail more)).tailed ≡ Some last →
        TailState no_tails (judge_tails c locals t (tails tail more)) last
    tail-step t td tail more same known state further last h = go (judge_tail c locals t tail).tailed refl
      where
        go : (o : Option Tailed) → (judge_tail c locals t tail).tailed ≡ o →
            TailState no_tails (judge_tails c locals (judge_tail c locals t tail) more) last
        go None e = never_some (sym (no_postfix c locals (judge_tail c locals t tail) more e) ∙ h)
        go (Some ud) e =
            further (judge_tail c locals t tail) ud e (one-tail t td ud tail more same known state e) last h

  -- ---- the whole

  -- what a first part is before what stands behind it
  first-state : (rest : Tails) (j : Judgement) (v : Valued) → First c.objects scope c (leading rest) j v →
      TailState rest (begin_tails j) (first_tail v)
  unfolding begin_tails
  first-state rest j v (a_whole w) =
      running w.taken (runs-first c.objects scope w.nameless w.sound.finds) w.sound.placed
  first-state rest j v (a_name w) =
      subst (λ (v : Valued). TailState rest (begin_tails j) (first_tail v)) (sym w.is)
      (owning
      (record {
        o = w.o;
        s = w.s;
        left = dimensions_of c.objects w.o;
        count = 0;
        taken = j.taken;
        there = w.there;
        own = own-first c.objects scope refl;
        dims = rw w.there (omega arith);
        skips = omega arith;
        bound = omega (arith, w.taken);
        placed = w.placed;
        type_is = refl;
        stands = w.stands;
      }))

  pub begins : (rest : Tails) (j : Judgement) (td : Tailed) →
      ((v : Valued) → j.known ≡ Some v → First c.objects scope c (leading rest) j v) →
      (begin_tails j).tailed ≡ Some td → TailState rest (begin_tails j) td
  unfolding begin_tails
  begins rest j td known h =
      let m = made-of first_tail true j.known td h in
      subst (λ (td : Tailed). TailState rest (begin_tails j) td) m.gives (first-state rest j m.of (known m.of m.is))

  ended : {t : Tailing} {td : Tailed} (spot : Spot) → TailState no_tails t td →
      Sound c.objects scope t.place (postfix_value spot td)
  unfolding found
  ended {t = t} {td = td} spot (running {what = what} z r p) =
      let same = runs-comes c.objects scope spot.line r in
      record {
        finds = finds-form c.objects scope (subst (λ (f : Found). FoundIs scope td.ty.stars f) (sym same) r.is);
        placed = subst (λ (f : Found). IsPlaced t.place f) (sym same) p;
      }
  ended {t = t} {td = td} spot (owning w) =
      let same = own-short c.objects scope spot.line w.own in
      let all : w.taken ≡ w.count = omega (arith, w.dims, w.bound) in
      let stands = subst (λ (n : ℕ). Stands w.s n) all w.stands in
      let what = object_with c.objects w.o w.count w.own.plain w.own.indices w.own.at in
      record {
        finds =
            finds-form c.objects scope
            (subst (λ (f : Found). FoundIs scope td.ty.stars f) (sym same)
            (subst (λ (ty : Ty). FoundIs scope ty.stars what) (sym (w.type_is ∙ ap (object_type w.s) all))
            (standing-found c.objects scope w.o w.own.plain w.own.at w.count w.s w.there (sees.objects w.o w.s w.there)
            stands w.own.have)));
        placed =
            subst (λ (f : Found). IsPlaced t.place f) (sym same)
            (subst (λ (p : PlaceKind). IsPlaced p what) (sym (w.placed ∙ ap (object_place w.s) all))
            (standing-placed c.objects scope w.o w.own.plain w.own.indices w.own.at w.count w.s w.there stands));
      }

  pub postfix-whole : (locals : List InScope) (rest : Tails) (j : Judgement) (spot : Spot) (v : Valued) →
      ((v : Valued) → j.known ≡ Some v → First c.objects scope c (leading rest) j v) →
      ((t : Tailing) (td : Tailed) → t.tailed ≡ Some td → TailState rest t td → (last : Tailed) →
      (judge_tails c locals t rest).tailed ≡ Some last → TailState no_tails (judge_tails c locals t rest) last) →
      (tailed spot (judge_tails c locals (begin_tails j) rest)).known ≡ Some v →
      Whole c.objects scope (tailed spot (judge_tails c locals (begin_tails j) rest)) v
  postfix-whole locals rest j spot v known further h =
      go (begin_tails j).tailed refl (judge_tails c locals (begin_tails j) rest).tailed refl h
    where
      go : (o : Option Tailed) → (begin_tails j).tailed ≡ o → (end : Option Tailed) →
          (judge_tails c locals (begin_tails j) rest).tailed ≡ end → option_map (postfix_value spot) end ≡ Some v →
          Whole c.objects scope (tailed spot (judge_tails c locals (begin_tails j) rest)) v
      go o e None g x = never_some x
      go None e (Some last) g x = never_some (sym (no_postfix c locals (begin_tails j) rest e) ∙ g)
      go (Some td) e (Some last) g x =
          let s = ended spot (further (begin_tails j) td e (begins rest j td known e) last g) in
          whole-as c.objects scope (postfix_value spot last) v (some-is _ v x)
          (record {
            taken = refl;
            nameless = refl;
            sound = s;
            acts = dropped-acts c.objects scope s.finds;
          })
