-- What a judge tells at the end of a history.
use Rattle.std.proofs.Common.{◌≡◌, ℕ, zero, suc, ◌+◌, ◌<◌, ◌≤◌, List, [], ◌∷◌, ◌++◌, length, map, reverse, take, drop, Option, Some, None, Bool, true, false, refl, sym, ap, ◌∙◌, subst, arith, slice_get, get_or, add-one}
use Rattle.std.specs.Prelude.{IsSome}
use Rattle.std.specs.Option.{option_and_then, option_map, option_or, unwrap_or}
use Rattle.std.proofs.Math.Seq.{take-suc}
use Rattle.std.proofs.lemmas.List.{reverse-append, length-map}
use Rattle.std.proofs.lemmas.Option.{slice_get-map, slice_get-get_or, get_or_from_slice_get, slice_get_within}
use Rattle.sc_base.specs.declared.value.End.{End}
use Rattle.sc_base.specs.declared.value.Place.{Place}
use Rattle.sc_base.specs.declared.value.Value.{Value}
use Rattle.sc_layout.specs.Layout.{Arrangement}
use Rattle.sc_core.specs.Core.{Program}
use Rattle.sc_meaning.specs.declared.event.SourceEvent.{SourceEvent}
use Rattle.sc_meaning.specs.declared.outcome.Outcome.{Outcome}
use Rattle.sc_meaning.specs.Past.{Processes}
use Rattle.sc_meaning.specs.Source.{processes_of}
use Rattle.sc_meaning.specs.History.{Legal}
use Rattle.sc_meaning.specs.Whole.{Complete, IsHistory, outcome}
use Rattle.replay_books.specs.Row.{fresh_row}
use Rattle.replay_books.specs.Tables.{row_at, end_or_cut, is_complete_in}
use Rattle.sc_replay.specs.Judging as judging
use Rattle.sc_replay.specs.Judging.{AreCellsOf, Tells}
use Rattle.replay_tables.specs.Cells.{holds, cell_in, stray_value}
use Rattle.replay_stages.specs.Stage.{IsDoomed}
use Rattle.replay_stages.specs.Ending.{Told}
use Rattle.replay_stages.proofs.Ending.{histories_are_told}
use Rattle.history_replay.specs.declared.judge.Judge.{Judge}
use Rattle.history_replay.specs.Fronts.{said}
use Rattle.history_replay.specs.Reached.{Reached, Taken}
use Rattle.history_replay.proofs.Sizes.{all_cells}

-- ---- the events that were read

pub one_read : (events : List SourceEvent) (i : ℕ) (e : SourceEvent) → slice_get events i ≡ Some e
    → reverse (take (i + 1) events) ≡ e ∷ reverse (take i events)
one_read events i e at =
    let lt : i < length events = slice_get_within events i e at in
    let is : get_or events i e ≡ e = get_or_from_slice_get events i e e at in
    let more : take (i + 1) events ≡ take i events ++ get_or events i e ∷ [] = rw add-one (take-suc events i e lt) in
    let whole : take (i + 1) events ≡ take i events ++ e ∷ [] = more ∙ ap (λ (x : SourceEvent). take i events ++ x ∷ []) is in
    ap (λ (xs : List SourceEvent). reverse xs) whole ∙ reverse-append (take i events) (e ∷ [])

both_parts : (xs : List SourceEvent) (i : ℕ) → take i xs ++ drop i xs ≡ xs
both_parts xs zero = refl
both_parts [] (suc i) = refl
both_parts (x ∷ xs) (suc i) = ap (λ ys. x ∷ ys) (both_parts xs i)

pub no_history : (processes : Processes) (events : List SourceEvent) (i : ℕ) → IsDoomed processes (reverse (take i events))
    → IsHistory processes events → ⊥
no_history processes events i doom h =
    let e : reverse events ≡ reverse (drop i events) ++ reverse (take i events) =
    ap reverse (sym (both_parts events i)) ∙ reverse-append (take i events) (drop i events) in
    doom (reverse (drop i events)) (subst (Legal processes) e h.legal) (subst (Complete processes) e h.complete)

pub read_on : (processes : Processes) (events : List SourceEvent) (i : ℕ) (event : SourceEvent) (new : Judge) (ok : Bool)
    → Taken processes (reverse (take i events)) event new ok → ok ≡ true → slice_get events i ≡ Some event
    → Reached processes (reverse (take (i + 1) events)) new
read_on processes events i event new ok t e at =
    subst (λ past. Reached processes past new) (sym (one_read events i event at)) (t.goes_on e)

pub read_doomed : (processes : Processes) (events : List SourceEvent) (i : ℕ) (event : SourceEvent) (new : Judge) (ok : Bool)
    → Taken processes (reverse (take i events)) event new ok → ok ≡ false → slice_get events i ≡ Some event
    → IsHistory processes events → ⊥
read_doomed processes events i event new ok t e at =
    no_history processes events (i + 1) (subst (IsDoomed processes) (sym (one_read events i event at)) (t.doomed e))

take_all : (xs : List SourceEvent) (i : ℕ) → length xs ≤ i → take i xs ≡ xs
take_all [] zero h = refl
take_all [] (suc i) h = refl
take_all (x ∷ xs) zero h = absurd (omega arith)
take_all (x ∷ xs) (suc i) h = ap (λ ys. x ∷ ys) (take_all xs i (omega arith))

pub all_read : (layout : Arrangement) (program : Program) (budget : ℕ) (history events : List SourceEvent) (i : ℕ) (j : Judge)
    → j.layout.now ≡ layout → events ≡ history → length events ≤ i
    → Reached (processes_of layout program budget) (reverse (take i events)) j
    → Reached (processes_of j.layout.now program budget) (reverse history) j
all_read layout program budget history events i j laid same le reached =
    subst (λ (l : Arrangement). Reached (processes_of l program budget) (reverse history) j) (sym laid)
    (subst (λ (es : List SourceEvent). Reached (processes_of layout program budget) (reverse es) j) (take_all events i le ∙ same) reached)

-- ---- the end

some_end : (o : Option End) → IsSome o → Some (end_or_cut o) ≡ o
some_end None h = absurd cc
some_end (Some e) h = refl

same_cell : (cells : List (List (List Value))) (place : Place) → judging.cell_in cells place ≡ cell_in cells place
same_cell cells place = by (slice_get cells place.node)
  where
    by : (o : Option (List (List Value))) → option_and_then (λ values. slice_get values place.offset) (option_and_then (λ objects. slice_get objects place.object) o)
        ≡ option_and_then (λ objects. option_and_then (λ values. slice_get values place.offset) (slice_get objects place.object)) o
    by None = refl
    by (Some objects) = refl

known_holds : (o s : Option Value) (d : Value) → IsSome o → o ≡ Some (unwrap_or (option_or o s) d)
known_holds None s d h = absurd cc
known_holds (Some v) s d h = refl

module _ (program : Program) (budget : ℕ) (history : List SourceEvent) (j : Judge) where
  abbrev layout : Arrangement
  layout = j.layout.now

  abbrev processes : Processes
  processes = processes_of layout program budget

  module _ (reached : Reached processes (reverse history) j) where
    told : Told processes history j.tables (holds layout j.cells) reached.fronts
    told = histories_are_told processes history j.tables (holds layout j.cells) reached.fronts reached.stage

    pub unfinished : is_complete_in j.tables ≡ false → IsHistory processes history → ⊥
    unfinished e = told.unfinished e

    pub whole : is_complete_in j.tables ≡ true → IsHistory processes history
    whole e = told.whole e

    pub tells : (answer : Outcome) → is_complete_in j.tables ≡ true
        → answer.ends ≡ map (λ row. end_or_cut row.ended) j.tables.rows
        → length answer.printed ≡ length j.nodes.runners.items
        → ((n : ℕ) → n < length j.nodes.runners.items → slice_get answer.printed n ≡ Some (said (reached.fronts n)).text)
        → answer.memory ≡ j.cells.known
        → Tells layout (outcome processes history) answer
    tells answer e ends many texts memory = record {
      all_ends = ap length ends ∙ length-map j.tables.rows (λ row. end_or_cut row.ended) ∙ reached.stage.keeps.all;
      ends = λ node lt.
          ap (λ es. slice_get es node) ends ∙ slice_get-map (λ row. end_or_cut row.ended) j.tables.rows node
          ∙ ap (option_map (λ row. end_or_cut row.ended)) (slice_get-get_or j.tables.rows node fresh_row (let a = reached.stage.keeps.all in omega arith))
          ∙ some_end (row_at j.tables node).ended
          (subst IsSome (sym (told.ends node lt e)) ((whole e).complete.all_ended node lt))
          ∙ told.ends node lt e;
      all_texts = many ∙ reached.many;
      texts = λ node lt. texts node (let m = reached.many in omega arith) ∙ ap Some (told.texts node lt e);
      memory = λ place is.
          ap (λ cells. judging.cell_in cells place) memory ∙ same_cell j.cells.known place
          ∙ known_holds (cell_in j.cells.known place) (stray_value j.cells.strays place) _ (reached.placed place is)
          ∙ ap Some (told.memory place);
      cells = subst (AreCellsOf layout) (sym memory) (all_cells layout j.cells.known reached.sized);
    }
