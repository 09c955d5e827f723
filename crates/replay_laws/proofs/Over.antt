-- No transfer of a mode is open exactly where all parts of its transfers have occurred.
use Rattle.std.proofs.Common.{◌≡◌, ℕ, zero, suc, ◌<◌, List, [], ◌∷◌, length, map, Option, Some, None, Bool, true, false, not, ◌==◌, ◌&&◌, refl, sym, ap, ◌∙◌, subst, if◌then◌else◌, arith, slice_get, is_none, eqb-true, lt-ltb, ltb-true}
use Rattle.std.specs.Prelude.{IsSome, nat_lt}
use Rattle.std.specs.Bool.{Decides}
use Rattle.std.specs.Option.{option_and_then}
use Rattle.std.proofs.lemmas.Option.{slice_get_within}
use Rattle.sc_base.specs.declared.value.CopyMode.{CopyMode}
use Rattle.sc_base.specs.declared.value.CopyMode.TheVariants.{Blocking, Split, OneWay}
use Rattle.sc_base.specs.declared.value.Place.{Place}
use Rattle.sc_base.specs.declared.value.Value.{Value}
use Rattle.sc_meaning.specs.declared.request.Request.{Request}
use Rattle.sc_meaning.specs.declared.request.Request.TheVariants as ask
use Rattle.sc_meaning.specs.declared.event.SourceEvent.{SourceEvent}
use Rattle.effect_order.specs.Transfer.{part_place, AllOccurred}
use Rattle.sc_meaning.specs.Parts.{transfer_of, is_issued}
use Rattle.sc_meaning.specs.Past.{Processes, effects}
use Rattle.sc_meaning.specs.History.{AllDone}
use Rattle.replay_books.specs.Counts.{how_many}
use Rattle.replay_books.specs.Entry.{EntryBook, parts_of, side_of, part_of}
use Rattle.replay_books.specs.Row.{RowBook, open_of, is_open, is_of, all_over}
use Rattle.replay_laws.specs.Keeps.{KeepsEntry, KeepsRow, Knows}
use Rattle.replay_laws.proofs.Lists.{count_some, count_none}
use Rattle.replay_laws.proofs.Occurred.{positive}

-- ---- options

some_is : {A : Type 0} (o : Option A) → (o ≡ None → ⊥) → IsSome o
some_is None h = absurd (h refl)
some_is (Some x) h = refl

not_none : {A : Type 0} (o : Option A) → IsSome o → is_none o ≡ false
not_none None h = absurd cc
not_none (Some x) h = refl

pub mapped : {A B : Type 0} (f : A → B) (xs : List A) (k : ℕ) (y : B) → slice_get (map f xs) k ≡ Some y
    → (x : A) × (slice_get xs k ≡ Some x) × (f x ≡ y)
mapped f [] k y e = absurd cc
mapped f (x ∷ xs) zero y e = (x, refl, cc)
mapped f (x ∷ xs) (suc k) y e = mapped f xs k y e

pub to_map : {A B : Type 0} (f : A → B) (xs : List A) (k : ℕ) (x : A) → slice_get xs k ≡ Some x → slice_get (map f xs) k ≡ Some (f x)
to_map f [] k x e = absurd cc
to_map f (a ∷ xs) zero x e = ap Some (ap f (let g : a ≡ x = cc in g))
to_map f (a ∷ xs) (suc k) x e = to_map f xs k x e

slot_is : (xs : List (Option Value)) (i : ℕ) → i < length xs → (o : Option Value) × (slice_get xs i ≡ Some o)
slot_is [] i h = absurd (omega arith)
slot_is (x ∷ xs) zero h = (x, refl)
slot_is (x ∷ xs) (suc i) h = slot_is xs i (omega arith)

-- ---- which parts an issued request has

of_flag : (b : Bool) (o : Option Place) → IsSome (if b then o else None) → b ≡ true
of_flag true o e = refl
of_flag false o e = absurd cc

abbrev nowhere : Option Place
nowhere = None

no_flag : {P : Type 0} (b : Bool) → IsSome (if b then nowhere else nowhere) → P
no_flag true e = absurd cc
no_flag false e = absurd cc

pub part_below : (r : Request) (cell : ℕ) (wrote : Bool) → is_issued r ≡ true
    → IsSome (part_place (transfer_of r) cell wrote) → cell < parts_of r wrote
part_below (ask.Get from line) cell false i e = ltb-true cell 1 (of_flag (nat_lt cell 1) _ e)
part_below (ask.Get from line) cell true i e = no_flag (nat_lt cell 1) e
part_below (ask.Put to value line) cell true i e = ltb-true cell 1 (of_flag (nat_lt cell 1) _ e)
part_below (ask.Put to value line) cell false i e = no_flag (nat_lt cell 1) e
part_below (ask.Store to value line) cell true i e = ltb-true cell 1 (of_flag (nat_lt cell 1) _ e)
part_below (ask.Store to value line) cell false i e = no_flag (nat_lt cell 1) e
part_below (ask.Copy from to cells mode line) cell true i e = ltb-true cell cells (of_flag (nat_lt cell cells) _ e)
part_below (ask.Copy from to cells mode line) cell false i e = ltb-true cell cells (of_flag (nat_lt cell cells) _ e)
part_below (ask.Read from line) cell wrote i e = absurd cc
part_below (ask.Write to value line) cell wrote i e = absurd cc
part_below (ask.Sync line) cell wrote i e = absurd cc
part_below (ask.Barrier line) cell wrote i e = absurd cc
part_below (ask.AllStoreSync line) cell wrote i e = absurd cc

by_flag : (b : Bool) (p : Place) → b ≡ true → IsSome (if b then Some p else None)
by_flag true p e = refl
by_flag false p e = absurd cc

pub part_there : (r : Request) (cell : ℕ) (wrote : Bool) → is_issued r ≡ true → cell < parts_of r wrote
    → IsSome (part_place (transfer_of r) cell wrote)
part_there (ask.Get from line) cell false i h = by_flag (nat_lt cell 1) _ (lt-ltb cell 1 h)
part_there (ask.Get from line) cell true i h = absurd (omega arith)
part_there (ask.Put to value line) cell true i h = by_flag (nat_lt cell 1) _ (lt-ltb cell 1 h)
part_there (ask.Put to value line) cell false i h = absurd (omega arith)
part_there (ask.Store to value line) cell true i h = by_flag (nat_lt cell 1) _ (lt-ltb cell 1 h)
part_there (ask.Store to value line) cell false i h = absurd (omega arith)
part_there (ask.Copy from to cells mode line) cell true i h = by_flag (nat_lt cell cells) _ (lt-ltb cell cells h)
part_there (ask.Copy from to cells mode line) cell false i h = by_flag (nat_lt cell cells) _ (lt-ltb cell cells h)
part_there (ask.Read from line) cell wrote i h = absurd cc
part_there (ask.Write to value line) cell wrote i h = absurd cc
part_there (ask.Sync line) cell wrote i h = absurd cc
part_there (ask.Barrier line) cell wrote i h = absurd cc
part_there (ask.AllStoreSync line) cell wrote i h = absurd cc

pub of_issued : (mode : CopyMode) (r : Request) → is_of mode r ≡ true → is_issued r ≡ true
of_issued Blocking (ask.Copy from to cells Blocking line) e = refl
of_issued Split (ask.Get place line) e = refl
of_issued Split (ask.Put place value line) e = refl
of_issued Split (ask.Copy from to cells Split line) e = refl
of_issued OneWay (ask.Store place value line) e = refl
of_issued OneWay (ask.Copy from to cells OneWay line) e = refl
of_issued mode r e = absurd cc

-- ---- an entry of which no part is left

module _ (node number : ℕ) (past : List SourceEvent) (e : EntryBook) (k : KeepsEntry node number past e) (i : is_issued e.request ≡ true) where
  none_left : e.left ≡ 0 → (w : Bool) → how_many is_none (side_of e w) ≡ 0
  none_left z true = let l = k.left in omega arith
  none_left z false = let l = k.left in omega arith

  filled : e.left ≡ 0 → (cell : ℕ) (wrote : Bool) → cell < length (side_of e wrote) → IsSome (part_of e cell wrote)
  filled z cell wrote h =
      let s = slot_is (side_of e wrote) cell h in
      subst IsSome (sym (ap (option_and_then (λ (o : Option Value). o)) s.1))
      (some_is s.0 (λ n. let c = count_some is_none (side_of e wrote) cell s.0 s.1 (ap is_none n) in
      let z = none_left z wrote in absurd (omega arith)))

  pub all_occurred : e.left ≡ 0 → AllOccurred (transfer_of e.request) node number (effects past)
  all_occurred z cell wrote some =
      subst IsSome (k.parts i cell wrote)
      (filled z cell wrote (subst (λ n. cell < n) (sym (k.sides wrote)) (part_below e.request cell wrote i some)))

  full : AllOccurred (transfer_of e.request) node number (effects past) → (w : Bool) → how_many is_none (side_of e w) ≡ 0
  full all w =
      count_none is_none (side_of e w)
      (λ cell o at. not_none o
      (subst IsSome (ap (option_and_then (λ (o : Option Value). o)) at)
      (subst IsSome (sym (k.parts i cell w))
      (all cell w (part_there e.request cell w i
      (subst (λ n. cell < n) (k.sides w) (slice_get_within (side_of e w) cell o at)))))))

  pub over_left : AllOccurred (transfer_of e.request) node number (effects past) → e.left ≡ 0
  over_left all = let r = full all false in let w = full all true in let l = k.left in omega arith

-- ---- all entries

is_zero : (n : ℕ) → (n == 0) ≡ true → n ≡ 0
is_zero n e = eqb-true n 0 e

module _ (processes : Processes) (node : ℕ) (past : List SourceEvent) (row : RowBook) (k : KeepsRow node past row)
    (knows : Knows processes node past row) (mode : CopyMode) where
  shut : (e : EntryBook) → is_open mode e ≡ false → is_of mode e.request ≡ true → e.left ≡ 0
  shut e s o = by (is_of mode e.request) e.left o s
    where
      by : (b : Bool) (n : ℕ) → b ≡ true → (b && not (n == 0)) ≡ false → n ≡ 0
      by true zero o s = refl
      by true (suc n) o s =
          let p : true ≡ false = sym (ap not (positive (suc n) (omega arith))) ∙ s in absurd cc
      by false n o s = absurd cc

  closed : (e : EntryBook) → (is_of mode e.request ≡ true → e.left ≡ 0) → is_open mode e ≡ false
  closed e h = by (is_of mode e.request) e.left h
    where
      by : (b : Bool) (n : ℕ) → (b ≡ true → n ≡ 0) → (b && not (n == 0)) ≡ false
      by true n h = ap (λ m. not (m == 0)) (h refl)
      by false n h = refl

  not_open : open_of mode row ≡ 0 → (number : ℕ) (e : EntryBook) → slice_get row.entries number ≡ Some e → is_open mode e ≡ false
  not_open z number e at = by (is_open mode e) refl
    where
      by : (b : Bool) → is_open mode e ≡ b → b ≡ false
      by false g = refl
      by true g = let c = count_some (is_open mode) row.entries number e at g in let o = k.opened mode in absurd (omega arith)

  done : open_of mode row ≡ 0 → AllDone processes (is_of mode) node past
  done z number request e kind =
      let m = mapped (λ x. x.request) row.entries number request (sym (knows number) ∙ e) in
      let of_it : is_of mode m.0.request ≡ true = ap (is_of mode) m.2 ∙ kind in
      subst (λ r. AllOccurred (transfer_of r) node number (effects past)) m.2
      (all_occurred node number past m.0 (k.entries number m.0 m.1) (of_issued mode m.0.request of_it)
      (shut m.0 (not_open z number m.0 m.1) of_it))

  none_open : AllDone processes (is_of mode) node past → open_of mode row ≡ 0
  none_open all =
      k.opened mode
      ∙ count_none (is_open mode) row.entries
      (λ number e at. closed e
      (λ o. over_left node number past e (k.entries number e at) (of_issued mode e.request o)
      (all number e.request (knows number ∙ to_map (λ x. x.request) row.entries number e at) o)))

  pub over_decides : Decides (all_over mode row) (AllDone processes (is_of mode) node past)
  over_decides = (λ e. done (is_zero (open_of mode row) e), λ all. ap (λ n. n == 0) (none_open all))
