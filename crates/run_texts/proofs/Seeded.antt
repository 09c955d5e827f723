-- Picks that are the same, one by one, make the same run.
use Rattle.std.proofs.Common.{◌≡◌, ℕ, ◌%◌, List, [], ◌∷◌, length, reverse, sym, ap, ◌∙◌}
use Rattle.std.specs.Prelude.{slice_get}
use Rattle.sc_isa.specs.declared.journal.Entry.{Entry}
use Rattle.splitc_compile.specs.Compiled.{Parts}
use Rattle.fabric.specs.Asked.{Machine}
use Rattle.fabric.specs.declared.state.Run.{Run}
use Rattle.run_moves.specs.Moves.{moves}
use Rattle.run_moves.specs.OfCode.{machine_of}
use Rattle.run_moves.specs.Simulated.{IsPicked}
use Rattle.code_sim.specs.Picks.{seed_word}
use Rattle.code_sim.specs.Ran.{IsRunBy, IsCodeRun}
use Rattle.run_texts.specs.Seeds.{IsSeedRun}

module _ (f g : ℕ → ℕ) (same : (k : ℕ) → f k ≡ g k) where
  picked_same : (machine : Machine) (past : List Entry) → IsPicked machine f past → IsPicked machine g past
  picked_same machine [] p = tt
  picked_same machine (entry ∷ past) p = (
    ap (λ w. slice_get (moves machine past) (w % length (moves machine past))) (sym (same (length past))) ∙ p.0,
    picked_same machine past p.1,
  )

  run_same : (machine : Machine) (run : Run) → IsRunBy machine f run → IsRunBy machine g run
  run_same machine run by = record {
    simulation = record {
      picked = picked_same machine (reverse run.journal) by.simulation.picked;
      is_over = by.simulation.is_over;
    };
    legal = by.legal;
    complete = by.complete;
    nodes = by.nodes;
    results = by.results;
    memory = by.memory;
  }

pub seeded : (p : Parts) (seed budget : ℕ) (picks : ℕ → ℕ) (run : Run) → ((k : ℕ) → picks k ≡ seed_word seed k)
    → IsCodeRun p.code p.layout budget picks run → IsSeedRun p seed budget run
seeded p seed budget picks run same ran = record {
  many = ran.many;
  from_there = λ more le.
      run_same picks (seed_word seed) same (machine_of p.layout p.code budget more) run (ran.from_there more le);
  laid = ran.laid;
}
