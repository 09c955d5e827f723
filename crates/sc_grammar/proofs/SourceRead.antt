-- Whole sources are read exactly.
use Rattle.std.proofs.Common.{ℕ, arith}
use Rattle.sc_grammar.specs.Statements.{IsBlock}
use Rattle.sc_grammar.specs.Items.{IsItems}
use Rattle.sc_grammar.proofs.ReadingItems.{items, one_more_item}
use Rattle.sc_grammar.proofs.Local.{Advances}
use Rattle.sc_grammar.proofs.Laws.{Exact}
use Rattle.sc_grammar.proofs.Answer.{AtEnd}
use Rattle.sc_grammar.proofs.NoLevelRead.{opens-assign}
use Rattle.sc_grammar.proofs.ExpressionsRead.{exact-assigned}
use Rattle.sc_grammar.proofs.StatementsExact.{exact-block_after}
use Rattle.sc_grammar.proofs.ItemsRead.{exact-items, advances-one_more_item}
use Rattle.sc_grammar.proofs.FunctionsRead.{braced}

exact_blocks : (limit : ℕ) → Exact limit (braced limit) (IsBlock 0) (λ ss b. Unit {0})
exact_blocks limit = exact-block_after limit opens-assign (exact-assigned limit) limit 0 (omega arith)

-- within every limit of depth
pub exact-source : (limit : ℕ) → Exact limit (items limit) (IsItems 0) (λ xs b. AtEnd b)
exact-source limit = exact-items limit limit 0 (omega arith) (exact_blocks limit)

pub more-advances : (limit : ℕ) → Advances (one_more_item limit)
more-advances limit = advances-one_more_item limit limit 0 (omega arith) (exact_blocks limit)
