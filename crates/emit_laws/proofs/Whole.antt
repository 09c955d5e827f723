-- From the beginning the code does as its source does.
use Rattle.std.proofs.Common.{◌≡◌, ℕ, zero, suc, ◌-◌, List, [], ◌∷◌, length, Some, true, slice_get, refl, sym, ap, ◌∙◌, subst, arith}
use Rattle.std.specs.Prelude.{replicate}
use Rattle.sc_base.specs.declared.value.Value.{Value}
use Rattle.sc_isa.specs.declared.code.FnRow.{FnRow}
use Rattle.sc_isa.specs.State.{blank}
use Rattle.sc_isa.specs.Begin.{entry, begin, begins_at}
use Rattle.sc_core.specs.Core.{Function}
use Rattle.sc_meaning.specs.Meaning.{pointed, begun}
use Rattle.sc_meaning.specs.Points.{first_point}
use Rattle.site_graph.specs.declared.plan.Plan.{Plan}
use Rattle.node_emit.specs.Law.{is_empty, DoesAsSource, Reaches}
use Rattle.node_emit.specs.Spelled.{Piece}
use Rattle.node_emit.specs.Stands.{stands_at}
use Rattle.node_emit.specs.Pointed.{points_from}
use Rattle.node_emit.specs.Oracles.{Oracle, Story, plays, tells, at_first, told_at_first}
use Rattle.emit_laws.proofs.Parts.{Setup, FunctionAt}
use Rattle.emit_laws.proofs.Ghosts.{called_with}
use Rattle.emit_laws.proofs.Masks.{mask_slots, state_of}
use Rattle.emit_laws.proofs.Fitting.{called_given, same_frame, same_state}
use Rattle.emit_laws.proofs.Awaited.{no_gets}
use Rattle.emit_laws.proofs.Keeping.{Fit}
use Rattle.emit_laws.proofs.Standing.{Now, Motive, Timely}
use Rattle.emit_laws.proofs.StatementRuns.{start, source_runs}
use Rattle.emit_laws.proofs.Late.{Late, direct, late}
use Rattle.emit_laws.proofs.Stories.{Shows}
use Rattle.emit_laws.proofs.Told.{stories, shown_at}

blanks : (others : ℕ) (c : Setup) → replicate others blank ≡ mask_slots [] (called_with c [] others)
blanks zero c = refl
blanks (suc others) c = ap (λ l. blank ∷ l) (blanks others c)

module _ (c : Setup) (timely : Timely c) (functions : (f : ℕ) (g : Function) → slice_get c.here.program.functions f ≡ Some g → FunctionAt c f g)
    (g : Function) (is_main : slice_get c.here.program.functions c.here.program.main ≡ Some g) (no_params : g.params ≡ [])
    (goes : c.Goes 0 (first_point c.here.program.functions c.here.program.main))
    (begins : entry c.code ≡ slice_get c.code.functions c.here.program.main) where
  abbrev row_ : FnRow
  row_ = (functions c.here.program.main g is_main).row

  begin_is : (value : ℕ → Value) (budget : ℕ) → begin c.code budget ≡ state_of row_.start [] [] (start c value functions (length g.others) budget)
  begin_is value budget =
      let it = functions c.here.program.main g is_main in
      let n : row_.locals - length {A = Value} [] ≡ length g.others = omega (arith, it.room, ap (λ (ps : List _). length ps) no_params) in
      ap (begins_at budget (length c.code.instrs)) (begins ∙ it.is_row)
      ∙ same_state value budget (same_frame value row_.start refl (ap (λ k. replicate k blank) n ∙ blanks (length g.others) c)) refl refl

  fits_first : (value : ℕ → Value) (budget : ℕ) → Fit c value [] [] (start c value functions (length g.others) budget)
  fits_first value budget = record {
    on_stack = tt;
    in_cells = (called_given value c 0 [] (length g.others), tt);
    in_frames = tt;
    below = tt;
    fit = tt;
    gets = refl;
    spots = no_gets c (length g.others);
  }

  -- each motive holds at the beginning
  pub at_beginning : (value : ℕ → Value) (m : Motive c value) (budget : ℕ)
      → m.At (record { at = 0; left = []; own = true; accesses = 0; flying = [] }) (begin c.code budget) (begun c.here (slice_get c.here.program.functions c.here.program.main) budget)
  unfolding Late
  at_beginning value m budget =
      let w = start c value functions (length g.others) budget in
      let d = begun c.here (Some g) budget in
      let it = functions c.here.program.main g is_main in
      let h : Now = record { at = 0; left = []; own = true; accesses = 0; flying = [] } in
      subst (λ s. m.At h s (begun c.here (slice_get c.here.program.functions c.here.program.main) budget)) (sym (begin_is value budget))
      (subst (λ o. m.At h (state_of row_.start [] [] w) (begun c.here o budget)) (sym is_main)
      (late c timely value m (source_runs c value functions c.here.program.main g budget is_main refl no_params goes it) (fits_first value budget)
      (λ u goes. tt) h d (direct true)))

  module _ (plan : Plan) (pieces : List Piece) (stands : (pc : ℕ) → c.stands pc ≡ stands_at plan pieces pc) where
    abbrev told_by : (budget : ℕ) → Oracle → Story
    told_by budget oracle = tells oracle (is_empty c.here.program) told_at_first (pointed c.here budget)

    abbrev played_by : (budget : ℕ) → Oracle → (many : ℕ) → Story
    played_by budget oracle many =
        plays oracle (is_empty c.here.program) at_first (points_from c.code c.here.layout plan pieces c.between c.here.node many 0 (begin c.code budget))

    shows : (budget : ℕ) (oracle : Oracle) → Shows (told_by budget oracle) (played_by budget oracle)
    shows budget oracle =
        shown_at c plan pieces stands oracle (record { at = 0; left = []; own = true; accesses = 0; flying = [] }) (begin c.code budget)
        (begun c.here (slice_get c.here.program.functions c.here.program.main) budget)
        (at_beginning oracle.value (stories c plan pieces stands oracle) budget) 0

    pub does_as_source : (budget : ℕ) → DoesAsSource (told_by budget) (played_by budget)
    does_as_source budget = record {
      whole = λ oracle n. (shows budget oracle).whole n;
      begins = λ oracle many n. (shows budget oracle).begins many n;
      agree = λ oracle many. (shows budget oracle).agree many;
      texts_agree = λ oracle many. (shows budget oracle).texts_agree many;
    }

    pub reaches_source : (budget : ℕ) → Reaches (told_by budget) (played_by budget)
    reaches_source budget oracle = (shows budget oracle).reaches
