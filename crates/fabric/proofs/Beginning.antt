-- What a fabric keeps holds before anything has happened.
use Rattle.std.proofs.Common.{◌≡◌, ℕ, ◌+◌, ◌*◌, ◌<◌, List, [], ◌∷◌, length, map, replicate, refl, sym, ap, ◌∙◌, subst, arith}
use Rattle.std.specs.Prelude.{sum, slice_index_or}
use Rattle.std.proofs.lemmas.List.{length-replicate, get_or-replicate}
use Rattle.std.proofs.lemmas.List.Folds.{sum_by-replicate}
use Rattle.std.proofs.lemmas.List.Sums.{sum-map}
use Rattle.sc_layout.specs.Layout.{Arrangement}
use Rattle.sc_layout.specs.Start.{start as start_in}
use Rattle.msg_pool.specs.Pool.{Pool, empty_pool}
use Rattle.node_memory.specs.Memory.{Memory, Holds}
use Rattle.sync_book.specs.Book.{NodeBook, Book, fresh_node, node_at, empty_book}
use Rattle.fabric.specs.Books.{Counts, Stands}
use Rattle.fabric.specs.Reads.{Waiting}
use Rattle.fabric.specs.Log.{Log}
use Rattle.fabric.specs.Kept.{IsFabric}

same_map : (xs : List ℕ) → map (λ (x : ℕ). x) xs ≡ xs
same_map [] = refl
same_map (x ∷ xs) = ap (λ l. x ∷ l) (same_map xs)

none_summed : (n : ℕ) → sum (replicate n 0) ≡ 0
none_summed n = ap sum (sym (same_map (replicate n 0))) ∙ sum-map (λ (x : ℕ). x) (replicate n 0) ∙ sum_by-replicate (λ (x : ℕ). x) n 0 ∙ omega arith

row_is : (nodes sites node : ℕ) → node < length (empty_book nodes sites).nodes → node_at (empty_book nodes sites) node ≡ fresh_node sites
row_is nodes sites node below =
    get_or-replicate nodes node (fresh_node sites) (fresh_node sites) (subst (λ n. node < n) (length-replicate nodes (fresh_node sites)) below)

none_counted : (nodes sites : ℕ) → Counts [] (empty_book nodes sites)
none_counted nodes sites = record {
  counters = λ node counter below known.
      ap (λ (r : NodeBook). slice_index_or r.counters counter 0) (row_is nodes sites node below)
      ∙ get_or-replicate (sites + 1) counter 0 0 (omega (arith, known));
  stores = refl;
  covered = refl;
  all = (let a = sum_by-replicate (λ (row : NodeBook). sum row.counters) nodes (fresh_node sites) in
      let b : nodes * sum (replicate (sites + 1) 0) ≡ nodes * 0 = ap (λ n. nodes * n) (none_summed (sites + 1)) in
      omega (arith, a, b));
  lists = λ node below. ap (λ (r : NodeBook). length r.counters) (row_is nodes sites node below) ∙ length-replicate (sites + 1) 0;
}

all_stand : (nodes sites : ℕ) → Stands [] (empty_book nodes sites)
all_stand nodes sites = record {
  standing = λ node below. ap (λ (r : NodeBook). r.standing) (row_is nodes sites node below);
  ended = λ node below. ap (λ (r : NodeBook). r.finished) (row_is nodes sites node below);
}

pub new_kept : (layout : Arrangement) (memory : Memory) (pool : Pool) (book : Book) (reads : Waiting) (log : Log) (sites : ℕ) → memory.layout ≡ layout → Holds memory (start_in layout)
    → pool ≡ empty_pool layout.nodes → book ≡ empty_book layout.nodes sites → reads.reads ≡ [] → log.past ≡ [] → log.nodes ≡ layout.nodes
    → IsFabric (record { memory = memory; pool = pool; book = book; past = log.past; spare = 0 }) reads log.nodes log.room
new_kept layout memory pool book reads log sites same holds is_pool is_book none past nodes =
    rw (is_pool, is_book, past) (record {
      of_journal = record {
        wired = tt;
        memory = subst (λ (l : Arrangement). Holds memory (start_in l)) (sym same) holds;
        messages = refl;
        counts = none_counted layout.nodes sites;
        stands = all_stand layout.nodes sites;
        rows = length-replicate layout.nodes (fresh_node sites) ∙ ap (λ (l : Arrangement). l.nodes) (sym same);
        pool_nodes = ap (λ (l : Arrangement). l.nodes) (sym same);
      };
      ready = tt;
      awaited_are = rw none (record { numbers = λ node counter. refl; each = tt });
      log_nodes = nodes ∙ ap (λ (l : Arrangement). l.nodes) (sym same);
      entries_fit = omega arith;
      puts_fit = omega arith;
      reads_fit = omega arith;
      few_puts = omega arith;
    })
