-- What is known of names: locals, and objects with so many of the indices that stand behind them.
use Rattle.std.proofs.Common.{◌≡◌, refl, sym, subst, ℕ, ◌+◌, arith, Bool, true, false, not, ◌&&◌, ◌==◌, min, List, [], ◌∷◌, length}
use Rattle.std.specs.Prelude.{Option, Some, None, slice_get, nat_eq, if◌then◌else◌}
use Rattle.sc_base.specs.declared.shape.Star.TheVariants as star
use Rattle.sc_base.specs.declared.shape.Bound.{Bound}
use Rattle.sc_base.specs.declared.shape.Shape.{Shape}
use Rattle.sc_base.specs.declared.shape.Ty.{Ty}
use Rattle.sc_typing.specs.declared.file.Meaning.{Meaning}
use Rattle.sc_typing.specs.declared.file.Meaning.TheVariants as means
use Rattle.sc_typing.specs.declared.known.Spot.{Spot}
use Rattle.sc_typing.specs.declared.places.PlaceKind.{PlaceKind}
use Rattle.sc_typing.specs.declared.places.PlaceKind.TheVariants as place
use Rattle.sc_typing.specs.declared.scope.InScope.{InScope}
use Rattle.sc_typing.specs.Types.{pointer}
use Rattle.sc_typing.specs.Known.{Valued, Judgement, judged}
use Rattle.sc_typing.specs.Scope.{innermost}
use Rattle.sc_typing.specs.Source.{Source, meaning_of, has_bounds, object_star, dimensions, has_its_indices, object_type}
use Rattle.sc_typing.specs.Places.{object_place}
use Rattle.sc_typing.specs.Naming.{object_value, object_if, object_named, meaning_named, local_value, name_in, named}
use Rattle.sc_core.specs.Core.{Arguments, none}
use Rattle.sc_core.specs.Places.{is_own, object_with}
use Rattle.sc_core.specs.Expressions.{found}
use Rattle.sc_core.specs.Statements.{whole}
use Rattle.sc_core.specs.Kinds.{kind_of_type, Scope, HasBegun, numbers}
use Rattle.core_typing.proofs.Types.{left_of}
use Rattle.core_typing.proofs.Cores.{GiveAll, no-arguments}
use Rattle.core_typing.proofs.Founds.{FoundIs}
use Rattle.core_typing.proofs.Finds.{Finds, finds-form}
use Rattle.core_typing.proofs.Forms.{local-comes}
use Rattle.core_typing.proofs.Behind.{same-number, object-whole, object-short}
use Rattle.core_typing.proofs.Acts.{Acts, dropped-acts}
use Rattle.core_typing.proofs.Made.{never_some, some-is}
use Rattle.core_typing.proofs.Seen.{Sees, AllBegun, innermost-begun}
use Rattle.core_typing.proofs.Sound.{IsPlaced, nowhere, as_local, as_memory, Sound, Whole, whole-as}

number-same : (m n : ℕ) → nat_eq m n ≡ true → m ≡ n
number-same m n h = grind arith

-- a spread object's cells name their nodes, and an ordinary one's do not
star-own : (s : Shape) → is_own (Some (object_star s)) ≡ not s.spread
star-own s = go s.spread s.right
  where
    go : (spread : Bool) (right : List Bound) →
        is_own (Some (if spread then (if has_bounds right then star.Global else star.Spread) else star.Local)) ≡ not spread
    go true [] = refl
    go true (b ∷ bs) = refl
    go false bs = refl

-- how an object may stand with so many indices
pub data Stands (s : Shape) (taken : ℕ) : Type 0 where
  with_all : taken ≡ length s.left + length s.right → object_type s taken ≡ s.ty →
      object_place s taken ≡ place.Memory (Some (object_star s)) → Stands s taken
  with_most : taken + 1 ≡ length s.left + length s.right → object_type s taken ≡ pointer s.ty (object_star s) →
      object_place s taken ≡ place.NoPlace → Stands s taken

pub stands : (s : Shape) (taken : ℕ) → has_its_indices s taken ≡ true → Stands s taken
unfolding has_its_indices object_type object_place
stands s taken h = go (taken == dimensions s) refl
  where
    rest : (m n : ℕ) (t : Bool) → ((nat_eq m n) && t) ≡ true → m ≡ n
    rest m n t e = number-same m n (left_of (nat_eq m n) t e)

    go : (all : Bool) → (taken == dimensions s) ≡ all → Stands s taken
    go true e = with_all (number-same taken (dimensions s) e) (rw e refl) (rw e refl)
    go false e =
        let k = rw e at h in
        with_most (rest (taken + 1) (dimensions s) _ k) (rw e refl) (rw (e, k) refl)

module _ (objects : List Shape) (scope : Scope) where
  -- an object that stands so, with these indices
  pub standing-found : (o : ℕ) (plain : Bool) {indices : Arguments} (line taken : ℕ) (s : Shape) →
      slice_get objects o ≡ Some s → slice_get scope.objects o ≡ Some s → Stands s taken →
      GiveAll scope indices (numbers taken) →
      FoundIs scope (object_type s taken).stars (object_with objects o taken plain indices line)
  standing-found o plain {indices = indices} line taken s here there (with_all t ty p) gs =
      subst (λ (ty : Ty). FoundIs scope ty.stars (object_with objects o taken plain indices line)) (sym ty)
      (object-whole objects scope o plain line taken s here there t gs)
  standing-found o plain {indices = indices} line taken s here there (with_most t ty p) gs =
      subst (λ (ty : Ty). FoundIs scope ty.stars (object_with objects o taken plain indices line)) (sym ty)
      (object-short objects scope o plain line taken s (object_star s) here there t gs)

  pub standing-placed : (o : ℕ) (plain : Bool) (indices : Arguments) (line taken : ℕ) (s : Shape) →
      slice_get objects o ≡ Some s → Stands s taken →
      IsPlaced (object_place s taken) (object_with objects o taken plain indices line)
  standing-placed o plain indices line taken s here (with_all t ty p) =
      rw (p, here, t, same-number (length s.left + length s.right)) (as_memory (sym (star-own s)))
  standing-placed o plain indices line taken s here (with_most t ty p) = rw p nowhere

  -- ---- names

  -- an object's name, of which so many indices are the object's own
  pub record Named (c : Source) (indices : ℕ) (j : Judgement) (v : Valued) : Type 0 where
    pub o : ℕ
    pub s : Shape
    pub spot : Spot
    pub there : slice_get c.objects o ≡ Some s
    pub is : v ≡ object_value o j.taken s spot
    pub placed : j.place ≡ object_place s j.taken
    pub taken : j.taken ≡ min indices (dimensions s)
    pub stands : Stands s j.taken

  -- what is known of the first part of a postfix expression, behind which so many indices stand
  pub data First (c : Source) (indices : ℕ) (j : Judgement) (v : Valued) : Type 0 where
    a_whole : Whole objects scope j v → First c indices j v
    a_name : Named c indices j v → First c indices j v

  local-whole : (l : InScope) (spot : Spot) (v : Valued) → HasBegun scope l.number (kind_of_type l.ty) →
      Some (local_value l spot) ≡ Some v → Whole objects scope (judged spot place.Local (Some (local_value l spot))) v
  unfolding found
  local-whole l spot v b h =
      let f : Finds objects scope l.ty.stars (local_value l spot).expression =
      finds-form objects scope (local-comes objects scope l.number spot.line b) in
      whole-as objects scope _ v (some-is _ v h)
      (record {
        taken = refl;
        nameless = refl;
        sound = record { finds = f; placed = as_local };
        acts = dropped-acts objects scope f;
      })

  object-first : (c : Source) (i o : ℕ) (object : Option Shape) (spot : Spot) (v : Valued) →
      slice_get c.objects o ≡ object → (object_named o i object spot).known ≡ Some v →
      First c i (object_named o i object spot) v
  object-first c i o None spot v e h = never_some h
  object-first c i o (Some s) spot v e h = go (has_its_indices s (min i (dimensions s))) refl h
    where
      go : (kept : Bool) → has_its_indices s (min i (dimensions s)) ≡ kept →
          object_if kept (object_value o (min i (dimensions s)) s spot) ≡ Some v →
          First c i (object_named o i (Some s) spot) v
      go false k x = never_some x
      go true k x =
          a_name
          (record {
            o = o;
            s = s;
            spot = spot;
            there = e;
            is = sym (some-is _ v x);
            placed = refl;
            taken = refl;
            stands = stands s (min i (dimensions s)) k;
          })

  pub name-first : (c : Source) (locals : List InScope) (i n : ℕ) (spot : Spot) (v : Valued) → AllBegun scope locals →
      (named c locals i n spot).known ≡ Some v → First c i (named c locals i n spot) v
  unfolding named
  name-first c locals i n spot v begun h = by_local (innermost n locals) refl h
    where
      by_meaning : (m : Meaning) → (meaning_named c i m spot).known ≡ Some v → First c i (meaning_named c i m spot) v
      by_meaning (means.Object o) x = object-first c i o (slice_get c.objects o) spot v refl x
      by_meaning (means.Function f) x = never_some x
      by_meaning (means.Library l) x = never_some x
      by_meaning means.Nothing x = never_some x

      by_local : (l : Option InScope) → innermost n locals ≡ l → (name_in c i n spot l).known ≡ Some v →
          First c i (name_in c i n spot l) v
      by_local None e x = by_meaning (meaning_of c n) x
      by_local (Some l) e x = a_whole (local-whole l spot v (innermost-begun scope n l locals begun e) x)

-- what an expression whose first token no index follows comes to and does
pub record Known (objects : List Shape) (scope : Scope) (j : Judgement) (v : Valued) : Type 0 where
  pub sound : Sound objects scope j.place v
  pub acts : Acts scope (whole objects v.expression)

name-sound : (c : Source) (scope : Scope) (o taken : ℕ) (s : Shape) (spot : Spot) → Sees c scope →
    slice_get c.objects o ≡ Some s → Stands s taken → 0 ≡ taken →
    Sound c.objects scope (object_place s taken) (object_value o taken s spot)
unfolding found
name-sound c scope o taken s spot sees there stands none_taken =
    let gs : GiveAll scope none (numbers taken) =
    subst (λ (n : ℕ). GiveAll scope none (numbers n)) none_taken (no-arguments scope) in
    record {
      finds =
          finds-form c.objects scope
          (subst (λ (n : ℕ). FoundIs scope (object_type s taken).stars (object_with c.objects o n true none spot.line))
          (sym none_taken)
          (standing-found c.objects scope o true spot.line taken s there (sees.objects o s there) stands gs));
      placed =
          subst (λ (n : ℕ). IsPlaced (object_place s taken) (object_with c.objects o n true none spot.line))
          (sym none_taken) (standing-placed c.objects scope o true none spot.line taken s there stands);
    }

named-known : (c : Source) (scope : Scope) (j : Judgement) (v : Valued) → Sees c scope → Named c.objects scope c 0 j v →
    Known c.objects scope j v
named-known c scope j v sees w =
    let sound = name-sound c scope w.o j.taken w.s w.spot sees w.there w.stands (omega (arith, w.taken)) in
    subst (λ (v : Valued). Known c.objects scope j v) (sym w.is)
    (record {
      sound = subst (λ (p : PlaceKind). Sound c.objects scope p (object_value w.o j.taken w.s w.spot)) (sym w.placed) sound;
      acts = dropped-acts c.objects scope sound.finds;
    })

pub known-first : (c : Source) (scope : Scope) (j : Judgement) (v : Valued) → Sees c scope → First c.objects scope c 0 j v →
    Known c.objects scope j v
known-first c scope j v sees (a_whole w) = record { sound = w.sound; acts = w.acts }
known-first c scope j v sees (a_name w) = named-known c scope j v sees w
