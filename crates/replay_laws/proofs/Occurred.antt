-- The row of a node of which a part occurs keeps what the past and the event say.
use Rattle.std.proofs.Common.{◌≡◌, ⊎_elim, ℕ, zero, suc, ◌+◌, ◌-◌, ◌<◌, List, [], ◌∷◌, length, map, Option, Some, None, Bool, true, false, not, ◌==◌, ◌&&◌, refl, sym, ap, ◌∙◌, subst, if◌then◌else◌, arith, slice_get, slice_set, is_none, ltb-true, eq-eqb}
use Rattle.std.specs.Prelude.{nat_lt}
use Rattle.std.specs.Option.{option_map_or, option_and_then}
use Rattle.std.proofs.lemmas.Bool.{and_parts}
use Rattle.std.proofs.lemmas.Bool.Decides.{eqb_tells}
use Rattle.std.proofs.lemmas.List.{length-set}
use Rattle.std.proofs.lemmas.Option.{slice_get_within}
use Rattle.sc_base.specs.declared.value.CopyMode.{CopyMode}
use Rattle.sc_base.specs.declared.value.CopyMode.TheVariants.{Blocking, Split, OneWay}
use Rattle.sc_base.specs.declared.value.Place.{Place}
use Rattle.sc_base.specs.declared.value.Value.{Value}
use Rattle.sc_meaning.specs.declared.request.Request.{Request}
use Rattle.sc_meaning.specs.declared.request.Request.TheVariants as ask
use Rattle.sc_meaning.specs.declared.event.SourceEvent.{SourceEvent}
use Rattle.sc_meaning.specs.declared.event.SourceEvent.TheVariants.{Effect}
use Rattle.effect_order.specs.Transfer.{part_value, part_place, same_flag}
use Rattle.sc_meaning.specs.Parts.{transfer_of, is_issued}
use Rattle.sc_meaning.specs.Test.{holds_place}
use Rattle.sc_meaning.specs.Past.{effects, issued_since, gets_among}
use Rattle.replay_books.specs.Counts.{one_if, how_many, AllBelow}
use Rattle.replay_books.specs.Entry.{EntryBook, parts_of, side_of, part_of, occurred, may_occur_in}
use Rattle.replay_books.specs.Row.{RowBook, with_entry, with_part, open_of, is_open, is_of, closes}
use Rattle.replay_laws.specs.Keeps.{KeepsEntry, KeepsRow, requests_of}
use Rattle.replay_laws.proofs.Lists.{get_same, get_other, of_changed, count_set, count_some}

-- ---- the part that the request has

flag_of : (place : Place) (b : Bool) (o : Option Place) → holds_place place (if b then o else None) ≡ true → b ≡ true
flag_of place true o e = refl
flag_of place false o e = absurd cc

nothing_of : {P : Type 0} (place : Place) (b : Bool) → holds_place place (if b then None else None) ≡ true → P
nothing_of place true e = absurd cc
nothing_of place false e = absurd cc

below : (cell cells : ℕ) (place : Place) (o : Option Place) → holds_place place (if nat_lt cell cells then o else None) ≡ true → cell < cells
below cell cells place o e = ltb-true cell cells (flag_of place (nat_lt cell cells) o e)

pub has_part : (r : Request) (cell : ℕ) (wrote : Bool) (place : Place) → is_issued r ≡ true
    → holds_place place (part_place (transfer_of r) cell wrote) ≡ true → cell < parts_of r wrote
has_part (ask.Get from line) cell false place i e = below cell 1 place _ e
has_part (ask.Get from line) cell true place i e = nothing_of place (nat_lt cell 1) e
has_part (ask.Put to value line) cell true place i e = below cell 1 place _ e
has_part (ask.Put to value line) cell false place i e = nothing_of place (nat_lt cell 1) e
has_part (ask.Store to value line) cell true place i e = below cell 1 place _ e
has_part (ask.Store to value line) cell false place i e = nothing_of place (nat_lt cell 1) e
has_part (ask.Copy from to cells mode line) cell false place i e = below cell cells place _ e
has_part (ask.Copy from to cells mode line) cell true place i e = below cell cells place _ e
has_part (ask.Read from line) cell wrote place i e = absurd cc
has_part (ask.Write to value line) cell wrote place i e = absurd cc
has_part (ask.Sync line) cell wrote place i e = absurd cc
has_part (ask.Barrier line) cell wrote place i e = absurd cc
has_part (ask.AllStoreSync line) cell wrote place i e = absurd cc

none_is : {A : Type 0} (o : Option A) → is_none o ≡ true → o ≡ None
none_is None e = refl
none_is (Some x) e = absurd cc

-- within the list, nothing there is that there is None
pub blank_at : (xs : List (Option Value)) (i : ℕ) → i < length xs
    → option_and_then (λ (o : Option Value). o) (slice_get xs i) ≡ None → slice_get xs i ≡ Some None
blank_at [] i h e = absurd (omega arith)
blank_at (x ∷ xs) zero h e = ap Some e
blank_at (x ∷ xs) (suc i) h e = blank_at xs i (omega arith) e

pub map_set : {A B : Type 0} (f : A → B) (xs : List A) (i : ℕ) (x y : A) → slice_get xs i ≡ Some x → f y ≡ f x
    → map f (slice_set xs i y) ≡ map f xs
map_set f [] i x y e h = absurd cc
map_set f (a ∷ xs) zero x y e h = ap (λ b. b ∷ map f xs) (h ∙ ap f (let g : x ≡ a = cc in g))
map_set f (a ∷ xs) (suc i) x y e h = ap (λ bs. f a ∷ bs) (map_set f xs i x y e h)

settle : (b z w : Bool) (o h s : ℕ) → w ≡ false → o ≡ h → s + one_if (b && not w) ≡ h + one_if (b && not z)
    → o - one_if (b && z) ≡ s
settle b z true o h s f e g = absurd cc
settle false z false o h s f e g = omega arith
settle true true false o h s f e g = omega arith
settle true false false o h s f e g = omega arith

pub positive : (n : ℕ) → 0 < n → (n == 0) ≡ false
positive n h = ⊎_elim (λ t. let e = t.1 in absurd (omega arith)) (λ f. f.0) (eqb_tells n 0)

pub off : {A : Type 0} (b c d f : Bool) (x y : A) → c ≡ false → (if ((b && c) && d) && f then x else y) ≡ y
off true c d f x y e = by c e
  where
    by : (c : Bool) → c ≡ false → (if ((true && c) && d) && f then x else y) ≡ y
    by true e = absurd cc
    by false e = refl
off false c d f x y e = refl

on : {A : Type 0} (b c d f : Bool) (x y : A) → b ≡ true → c ≡ true → d ≡ true → f ≡ true → (if ((b && c) && d) && f then x else y) ≡ x
on true true true true x y p q r s = refl
on false c d f x y p q r s = absurd cc
on true false d f x y p q r s = absurd cc
on true true false f x y p q r s = absurd cc
on true true true false x y p q r s = absurd cc

off_cell : {A : Type 0} (b d f : Bool) (x y : A) → d ≡ false → (if (b && d) && f then x else y) ≡ y
off_cell true false f x y e = refl
off_cell false d f x y e = refl
off_cell true true f x y e = absurd cc

off_flag : {A : Type 0} (b f : Bool) (x y : A) → f ≡ false → (if b && f then x else y) ≡ y
off_flag true false x y e = refl
off_flag false f x y e = refl
off_flag true true x y e = absurd cc

module _ (node : ℕ) (past : List SourceEvent) (row : RowBook) (k : KeepsRow node past row) (number : ℕ) (e : EntryBook)
    (at : slice_get row.entries number ≡ Some e) (cell : ℕ) (wrote : Bool) (place : Place) (value shown : Value)
    (may : may_occur_in e cell wrote place value shown ≡ true) where
  abbrev later : List SourceEvent
  later = Effect node number cell wrote place value ∷ past

  abbrev new : EntryBook
  new = occurred e cell wrote value

  kept : KeepsEntry node number past e
  kept = k.entries number e at

  issued : is_issued e.request ≡ true
  issued = (and_parts _ _ may).0

  blank : part_of e cell wrote ≡ None
  blank = none_is (part_of e cell wrote) (and_parts _ _ (and_parts _ _ (and_parts _ _ may).1).1).0

  pub within : cell < length (side_of e wrote)
  within = subst (λ n. cell < n) (sym (kept.sides wrote))
      (has_part e.request cell wrote place issued (and_parts _ _ (and_parts _ _ may).1).0)

  open_slot : slice_get (side_of e wrote) cell ≡ Some None
  open_slot = blank_at (side_of e wrote) cell within blank

  some_left : 0 < e.left
  some_left = by wrote open_slot
    where
      by : (w : Bool) → slice_get (side_of e w) cell ≡ Some None → 0 < e.left
      by true s = let c = count_some is_none e.writes cell None s refl in let l = kept.left in omega arith
      by false s = let c = count_some is_none e.reads cell None s refl in let l = kept.left in omega arith

  left_new : new.left ≡ how_many is_none new.reads + how_many is_none new.writes
  left_new = by wrote open_slot
    where
      by : (w : Bool) → slice_get (side_of e w) cell ≡ Some None
          → e.left - 1 ≡ how_many is_none (occurred e cell w value).reads + how_many is_none (occurred e cell w value).writes
      by true s =
          let c = count_set is_none e.writes cell None (Some value) s in
          let l = kept.left in
          less e.left (how_many is_none e.reads) (how_many is_none e.writes) (how_many is_none (slice_set e.writes cell (Some value))) l c
        where
          less : (l r w v : ℕ) → l ≡ r + w → v + 1 ≡ w + 0 → l - 1 ≡ r + v
          less l r w v a b = omega arith
      by false s =
          let c = count_set is_none e.reads cell None (Some value) s in
          let l = kept.left in
          less e.left (how_many is_none e.reads) (how_many is_none e.writes) (how_many is_none (slice_set e.reads cell (Some value))) l c
        where
          less : (l r w v : ℕ) → l ≡ r + w → v + 1 ≡ r + 0 → l - 1 ≡ v + w
          less l r w v a b = omega arith

  sides_new : (w : Bool) → length (side_of new w) ≡ parts_of e.request w
  sides_new w = by wrote w
    where
      by : (v w : Bool) → length (side_of (occurred e cell v value) w) ≡ parts_of e.request w
      by true true = length-set e.writes cell (Some value) ∙ kept.sides true
      by true false = kept.sides false
      by false true = kept.sides true
      by false false = length-set e.reads cell (Some value) ∙ kept.sides false

  -- the side that the part is on, with the value in its place
  changed : (xs : List (Option Value)) (c : ℕ) (o : Option Value) → cell < length xs
      → option_and_then (λ (o : Option Value). o) (slice_get xs c) ≡ o
      → option_and_then (λ (o : Option Value). o) (slice_get (slice_set xs cell (Some value)) c) ≡ (if cell == c then Some value else o)
  changed xs c o h g =
      ⊎_elim
      (λ t. let q : cell ≡ c = t.1 in
      ap (option_and_then (λ (o : Option Value). o)) (subst (λ i. slice_get (slice_set xs cell (Some value)) i ≡ Some (Some value)) q (get_same xs cell (Some value) h))
      ∙ sym (ap (λ b. if b then Some value else o) t.0))
      (λ f. ap (option_and_then (λ (o : Option Value). o)) (get_other xs cell c (Some value) f.1) ∙ g ∙ sym (ap (λ b. if b then Some value else o) f.0))
      (eqb_tells cell c)

  -- of the part itself the event says its value, of the others what the past says
  said : (c : ℕ) (w : Bool) → same_flag wrote w ≡ true
      → part_value node number c w (effects later) ≡ (if cell == c then Some value else part_value node number c w (effects past))
  said c w f = by _ _ (node == node) (number == number) (cell == c) (same_flag wrote w) (eq-eqb node node refl) (eq-eqb number number refl) f
    where
      by : {A : Type 0} (x y : A) (p q d f : Bool) → p ≡ true → q ≡ true → f ≡ true → (if ((p && q) && d) && f then x else y) ≡ (if d then x else y)
      by x y true true true true a b g = refl
      by x y true true false true a b g = refl
      by x y true true d false a b g = absurd cc
      by x y false q d f a b g = absurd cc
      by x y true false d f a b g = absurd cc

  parts_new : (c : ℕ) (w : Bool) → part_of new c w ≡ part_value node number c w (effects later)
  parts_new c w = by wrote w within refl
    where
      by : (v w : Bool) → cell < length (side_of e v) → v ≡ wrote
          → part_of (occurred e cell v value) c w ≡ part_value node number c w (effects later)
      by true true h g = changed e.writes c (part_value node number c true (effects past)) h (kept.parts issued c true)
          ∙ sym (said c true (ap (λ b. same_flag b true) (sym g)))
      by false false h g = changed e.reads c (part_value node number c false (effects past)) h (kept.parts issued c false)
          ∙ sym (said c false (ap (λ b. same_flag b false) (sym g)))
      by true false h g = kept.parts issued c false
          ∙ sym (off_flag (((node == node) && (number == number)) && (cell == c)) (same_flag wrote false) _ _ (ap (λ b. same_flag b false) (sym g)))
      by false true h g = kept.parts issued c true
          ∙ sym (off_flag (((node == node) && (number == number)) && (cell == c)) (same_flag wrote true) _ _ (ap (λ b. same_flag b true) (sym g)))

  new_keeps : KeepsEntry node number later new
  new_keeps = record { sides = sides_new; parts = λ i c w. parts_new c w; left = left_new }

  -- of another number nothing is said
  other : (n c : ℕ) (w : Bool) → (n ≡ number → ⊥) → part_value node n c w (effects later) ≡ part_value node n c w (effects past)
  other n c w ne =
      off (node == node) (number == n) (cell == c) (same_flag wrote w) _ _
      (⊎_elim (λ t. absurd (ne (sym t.1))) (λ f. f.0) (eqb_tells number n))

  entry_keeps : (n : ℕ) (x : EntryBook) → slice_get (slice_set row.entries number new) n ≡ Some x → KeepsEntry node n later x
  entry_keeps n x g =
      ⊎_elim
      (λ p. subst (λ m. KeepsEntry node m later x) (sym p.0) (subst (KeepsEntry node number later) p.1 new_keeps))
      (λ p. let h = k.entries n x p.1 in record {
        sides = h.sides;
        parts = λ i c w. h.parts i c w ∙ sym (other n c w p.0);
        left = h.left;
      })
      (of_changed row.entries number new n x g)

  opened : (mode : CopyMode) → open_of mode row - one_if (closes mode new) ≡ how_many (is_open mode) (slice_set row.entries number new)
  opened mode =
      settle (is_of mode e.request) (new.left == 0) (e.left == 0) (open_of mode row) (how_many (is_open mode) row.entries)
      (how_many (is_open mode) (slice_set row.entries number new)) (positive e.left some_left) (k.opened mode)
      (count_set (is_open mode) row.entries number e new at)

  requests_kept : map (λ x. x.request) (slice_set row.entries number new) ≡ requests_of row
  requests_kept = map_set (λ x. x.request) row.entries number e new at refl

  same_length : length (slice_set row.entries number new) ≡ length row.entries
  same_length = length-set row.entries number new

  number_within : number < length row.entries
  number_within = slice_get_within row.entries number e at

  entered : KeepsRow node later (with_entry row number new)
  entered = record {
    made = same_length ∙ k.made;
    arrived = k.arrived;
    ended = k.ended;
    entries = entry_keeps;
    none_beyond = λ n c w le.
        let l = same_length in let m = number_within in
        other n c w (λ q. absurd (let q = q in omega arith))
        ∙ k.none_beyond n c w (omega arith);
    gets = k.gets ∙ ap (λ rs. gets_among rs (issued_since node past)) (sym requests_kept);
    issued_before = subst (λ n. AllBelow n (issued_since node past)) (sym same_length) k.issued_before;
    opened = by;
  }
    where
      by : (mode : CopyMode) → open_of mode (with_entry row number new) ≡ how_many (is_open mode) (slice_set row.entries number new)
      by Blocking = opened Blocking
      by Split = opened Split
      by OneWay = opened OneWay

  pub occurs : KeepsRow node later (with_part row number cell wrote value)
  occurs = subst (KeepsRow node later)
      (sym (ap (λ o. option_map_or (λ x. with_entry row number (occurred x cell wrote value)) o row) at)) entered
