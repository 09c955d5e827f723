-- A sync of the source is answered as the wait of the run.
use Rattle.std.proofs.Common.{◌≡◌, ℕ, zero, suc, ◌<◌, List, [], ◌∷◌, ◌++◌, map, filter, Option, Some, Bool, true, false, ◌==◌, ◌&&◌, refl, sym, ap, ◌∙◌, inl, inr, ⊎_elim, arith, eqb-true}
use Rattle.std.specs.Prelude.{if◌then◌else◌, IsSome, slice_get}
use Rattle.std.specs.Option.{option_map_or}
use Rattle.sc_base.specs.declared.value.Place.{Place}
use Rattle.sc_base.specs.declared.value.Value.{Value}
use Rattle.effect_order.specs.Lists.{In, Each}
use Rattle.effect_order.proofs.Members.{each-append, each-map, each-self, in-either}
use Rattle.sc_meaning.specs.declared.request.Request.{Request}
use Rattle.sc_meaning.specs.declared.event.SourceEvent.{SourceEvent}
use Rattle.sc_meaning.specs.declared.event.SourceEvent.TheVariants.{Do, Issue, Effect, Sync, Arrive, Release, End as Over}
use Rattle.sc_meaning.specs.History.{AllDone}
use Rattle.sc_meaning.specs.Parts.{is_get, is_split as asks_split}
use Rattle.effect_order.specs.Transfer.{part_value}
use Rattle.sc_meaning.specs.Past.{Processes, effects as source_effects, made, issued_since, gets_among, got, or_zero, run_so_far}
use Rattle.sc_isa.specs.declared.access.Access.{Access}
use Rattle.sc_isa.specs.declared.access.Access.TheVariants.{Read, Write, Copy}
use Rattle.sc_isa.specs.declared.access.Track.TheVariants.{Counter, Store, Covered}
use Rattle.sc_isa.specs.declared.journal.Entry.{Entry}
use Rattle.sc_isa.specs.declared.journal.Entry.TheVariants.{Issued, Delivered, Waited, Arrived, Passed, Finished}
use Rattle.fabric.specs.Effects.{awaited}
use Rattle.fabric.specs.Access.{is_read_on}
use Rattle.source_order.specs.Steps.{requested, request_of}
use Rattle.sc_meaning.specs.OfAccess.{is_split, request_in, unlined}
use Rattle.source_order.proofs.Stands.{Stands, requested_below}
use Rattle.source_order.proofs.Numbers.{issued_is, access_is}
use Rattle.source_order.proofs.Occurs.{as_part, some_is, found, part_of}
use Rattle.source_order.proofs.Character.{IsAccess, an_effect}
use Rattle.source_order.proofs.Matches.{Known, get_unlined}
use Rattle.source_order.proofs.Taken.{E, Took, made_own, made_grows, next_of}
use Rattle.source_order.proofs.Parted.{Full, Begun, same_so_far, value_back, taken_part}
use Rattle.source_order.proofs.Over.{on_is, split_kind, parts_in}
use Rattle.source_order.proofs.Landing.{Rs, Test, gets_upto, filter_same, awaited_gets, since_gets}

-- a read that is awaited was issued
pub awaited_is : (p n : ℕ) (past : List Entry) → In n (awaited p 0 past) → (place : Place) × (old : List Entry) × Stands old (Issued p n (Read place (Counter 0))) past
awaited_is p n [] i = absurd i
awaited_is p n (Issued q m access ∷ rest) i = by (q == p) access refl i (λ j. awaited_is p n rest j)
  where
    Goal : Access → Type 0
    Goal access = (place : Place) × (old : List Entry) × Stands old (Issued p n (Read place (Counter 0))) (Issued q m access ∷ rest)

    older : (access : Access) → ((place : Place) × (old : List Entry) × Stands old (Issued p n (Read place (Counter 0))) rest) → Goal access
    older access r = (r.0, r.1, inr r.2)

    by : (b : Bool) (access : Access) → (q == p) ≡ b → In n (if b && is_read_on 0 access then awaited p 0 rest ++ m ∷ [] else awaited p 0 rest)
        → (In n (awaited p 0 rest) → (place : Place) × (old : List Entry) × Stands old (Issued p n (Read place (Counter 0))) rest) → Goal access
    by false access t j f = older access (f j)
    by true (Write _ _ _) t j f = older _ (f j)
    by true (Copy _ _ _ _) t j f = older _ (f j)
    by true (Read place Store) t j f = older _ (f j)
    by true (Read place Covered) t j f = older _ (f j)
    by true (Read place (Counter c)) t j f = on (c == 0) refl j
      where
        on : (b : Bool) → (c == 0) ≡ b → In n (if b then awaited p 0 rest ++ m ∷ [] else awaited p 0 rest) → Goal (Read place (Counter c))
        on false h j = older _ (f j)
        on true h j = ⊎_elim (λ k. older _ (f k))
            (λ k. ⊎_elim (λ e. (place, rest, inl (refl, ap (λ u. Issued p u (Read place (Counter 0))) e ∙ ap (λ u. Issued u m (Read place (Counter 0))) (sym (eqb-true q p t)) ∙ ap (λ u. Issued q m (Read place (Counter u))) (sym (eqb-true c 0 h))))) (λ z. absurd z) k)
            (in-either (awaited p 0 rest) (m ∷ []) n j)
awaited_is p n (Waited q c ∷ rest) i = by ((q == p) && (c == 0)) i (λ j. awaited_is p n rest j)
  where
    by : (b : Bool) → In n (if b then [] else awaited p 0 rest) → (In n (awaited p 0 rest) → (place : Place) × (old : List Entry) × Stands old (Issued p n (Read place (Counter 0))) rest) → (place : Place) × (old : List Entry) × Stands old (Issued p n (Read place (Counter 0))) (Waited q c ∷ rest)
    by true j f = absurd j
    by false j f = let r = f j in (r.0, r.1, inr r.2)
awaited_is p n (Delivered _ _ _ _ ∷ rest) i = let r = awaited_is p n rest i in (r.0, r.1, inr r.2)
awaited_is p n (Arrived _ _ ∷ rest) i = let r = awaited_is p n rest i in (r.0, r.1, inr r.2)
awaited_is p n (Passed _ ∷ rest) i = let r = awaited_is p n rest i in (r.0, r.1, inr r.2)
awaited_is p n (Finished _ _ ∷ rest) i = let r = awaited_is p n rest i in (r.0, r.1, inr r.2)

map_same : {A B : Type 0} (f g : A → B) (xs : List A) → Each (λ x. f x ≡ g x) xs → map f xs ≡ map g xs
map_same f g [] e = refl
map_same f g (x ∷ xs) e = ap (λ u. u ∷ map f xs) e.0 ∙ ap (λ u. g x ∷ u) (map_same f g xs e.1)

map_map : {A B C : Type 0} (f : A → B) (g : B → C) (xs : List A) → map g (map f xs) ≡ map (λ x. g (f x)) xs
map_map f g [] = refl
map_map f g (x ∷ xs) = ap (λ u. g (f x) ∷ u) (map_map f g xs)

get_line : (xs : List Request) (n : ℕ) → option_map_or is_get (slice_get xs n) false ≡ option_map_or is_get (slice_get (map unlined xs) n) false
get_line [] n = refl
get_line (x ∷ xs) zero = sym (get_unlined x)
get_line (x ∷ xs) (suc n) = get_line xs n

one_value : (o q : Option Value) (v : Value) → IsSome o → o ≡ Some v → (u : Value) → q ≡ Some u → u ≡ v → or_zero o ≡ or_zero q
one_value o q v s h u g e = ap or_zero (h ∙ ap (λ z. Some z) (sym e) ∙ sym g)

module _ (processes : Processes) (whole : List Entry) (known : Known processes whole) (p : ℕ) (within : p < processes.nodes) where
  issued_low : (past : List SourceEvent) → Took processes whole known past → Each (λ n. n < made p past) (issued_since p past)
  issued_low [] t = tt
  issued_low (x ∷ past) t = by x t (issued_low past t.3)
    where
      older : (x : SourceEvent) → Each (λ n. n < made p past) (issued_since p past) → Each (λ n. n < made p (x ∷ past)) (issued_since p past)
      older x e = let g = made_grows p x past in each-map _ _ (issued_since p past) (λ n (lt : n < made p past). omega arith) e

      by : (x : SourceEvent) → Took processes whole known (x ∷ past) → Each (λ n. n < made p past) (issued_since p past) → Each (λ n. n < made p (x ∷ past)) (issued_since p (x ∷ past))
      by (Issue q k) t e = on (q == p) refl
        where
          on : (b : Bool) → (q == p) ≡ b → Each (λ n. n < made p (Issue q k ∷ past)) (if b then issued_since p past ++ k ∷ [] else issued_since p past)
          on true h =
              let z = eqb-true q p h in
              let n : k ≡ made p past = (next_of processes past (Issue q k) refl t.0).1.numbered ∙ ap (λ u. made u past) z in
              let m = made_own p (Issue q k) past refl z in
              each-append _ (issued_since p past) (k ∷ []) (older (Issue q k) e) (omega arith, tt)
          on false h = older (Issue q k) e
      by (Sync q k) t e = on (q == p)
        where
          on : (b : Bool) → Each (λ n. n < made p (Sync q k ∷ past)) (if b then [] else issued_since p past)
          on true = tt
          on false = older (Sync q k) e
      by (Do q k wrote place value) t e = older (Do q k wrote place value) e
      by (Effect q k c wrote place value) t e = older (Effect q k c wrote place value) e
      by (Arrive q k s) t e = older (Arrive q k s) e
      by (Release m) t e = older (Release m) e
      by (Over q end) t e = older (Over q end) e

  pub landed_same : (past : List SourceEvent) → Took processes whole known past → Begun processes whole known p past → (at : List Entry) → Stands at (Waited p 0) whole → made p past ≡ requested p at
      → ((s : List Entry) (e : Entry) → Stands s e at → Stands s e whole) → AllDone processes asks_split p past
      → got p (source_effects past) (gets_among (run_so_far processes p past).events (issued_since p past)) ≡ got p (E processes whole known) (awaited p 0 at)
  landed_same past t b at st m among d =
      ap (got p (source_effects past)) (same_gets ∙ since_gets processes whole known p within past t ∙ ap (gets_upto (Rs processes whole known p within)) m ∙ sym (awaited_gets processes whole known p within at among))
      ∙ map_map (λ n. request_of p n whole) (λ number. or_zero (part_value p number 0 false (source_effects past))) (awaited p 0 at)
      ∙ map_same _ _ (awaited p 0 at) (each-self _ (awaited p 0 at) one)
    where
      same_gets : gets_among (run_so_far processes p past).events (issued_since p past) ≡ filter (Test processes whole known p within) (issued_since p past)
      same_gets = filter_same _ _ (issued_since p past) (each-map _ _ (issued_since p past)
          (λ n (lt : n < made p past).
          ap (λ o. option_map_or is_get o false) (same_so_far processes whole known p past b n (b.enough n lt))
          ∙ get_line (Full processes whole known p).events n ∙ ap (λ u. option_map_or is_get (slice_get u n) false) (sym (known.requests p within)))
          (issued_low past t))

      one : (n : ℕ) → In n (awaited p 0 at) → or_zero (part_value p (request_of p n whole) 0 false (source_effects past)) ≡ or_zero (part_value p n 0 false (E processes whole known))
      one n i =
          let r = awaited_is p n at i in
          let s : Stands r.1 (Issued p n (Read r.0 (Counter 0))) whole = among r.1 _ r.2 in
          let k : ℕ = request_of p n whole in
          let acc = access_is processes.start processes.nodes p n (Read r.0 (Counter 0)) r.1 whole known.wired s in
          let a : IsAccess whole p k false = record { past = r.1; n = n; access = Read r.0 (Counter 0); stands = s; numbered = sym acc.1; kind = refl } in
          let v = some_is (part_value p n 0 false (E processes whole known)) (known.all_occurred p within n (Read r.0 (Counter 0)) acc.0 refl 0 false refl) in
          let e = found p n 0 false (E processes whole known) v.0 v.1 in
          let q = part_of p n 0 false e.0 e.2 in
          let it : In (an_effect p n 0 false e.0.place e.0.value) (E processes whole known) =
          as_part p n 0 false e.0 (E processes whole known) e.1 e.2 in
          let lt : k < made p past = (let x = requested_below p r.1 (Issued p n (Read r.0 (Counter 0))) at (request_in (Read r.0 (Counter 0))) r.2 (issued_is p n (Read r.0 (Counter 0))) in let y = acc.1 in omega (arith, m, x, y)) in
          let in_past = parts_in processes whole known _ _ split_kind p past t b d k 0 false e.0.place e.0.value lt (a, it) (on_is processes whole known is_split p k false a) in
          let w = some_is (part_value p k 0 false (source_effects past)) (taken_part processes whole known past p k 0 false e.0.place e.0.value in_past) in
          let back = value_back processes whole known past t p k 0 false false w.0 a w.1 in
          ap or_zero (w.1 ∙ sym back)
