-- A source is accepted or refused.
use Rattle.std.proofs.Common.{◌≡◌, refl, ℕ, List, Result, Ok, Err, ◌⊎◌, inl, inr, ⊎_elim}
use Rattle.sc_base.specs.declared.limits.TheConstants.{LIMITS}
use Rattle.sc_tree.specs.Names.{Text}
use Rattle.sc_tree.specs.declared.lexed.Lexed.{Lexed}
use Rattle.sc_tree.specs.PlainTree.{PlainTree}
use Rattle.sc_tree.specs.PlainTypedTree.{PlainTypedTree}
use Rattle.sc_lexer.specs.Text.{IsLexed, IsRefused}
use Rattle.sc_lexer.specs.declared.refusal.LexError.{LexError}
use Rattle.sc_lexer.specs.declared.refusal.LexError.TheVariants as lexing
use Rattle.sc_lexer.proofs.Reasons.{refused-for-bytes}
use Rattle.sc_lexer.proofs.TextLaws.{one_of_both}
use Rattle.sc_grammar.proofs.SomeAnswer.{some-answer as some-tree}
use Rattle.sc_layout.specs.Layout.{Arrangement, layout_of}
use Rattle.sc_layout.specs.declared.error.LayoutError.{LayoutError}
use Rattle.sc_layout.specs.declared.error.LayoutError.TheVariants as laying
use Rattle.sc_layout.proofs.Reasons.{layout-sure}
use Rattle.sc_typing.specs.Program.{typed_of}
use Rattle.sc_typing.proofs.Noted.{some-answer as some-types}
use Rattle.front_end.specs.Accepted.{IsRead, IsLaid, IsAccepted, Says}
use Rattle.front_end.specs.declared.refusal.Refusal.{Refusal}
use Rattle.front_end.specs.declared.refusal.Refusal.TheVariants as refusal

abbrev Accepts : List ℕ → (nodes : ℕ) → Type 0
Accepts source nodes =
    (names : List Text) × (typed : PlainTypedTree) × (layout : Arrangement) × IsAccepted source nodes names typed layout

abbrev Refuses : List ℕ → (nodes : ℕ) → Type 0
Refuses source nodes = (r : Refusal) × Says source nodes r

abbrev Answered : List ℕ → (nodes : ℕ) → Type 0
Answered source nodes = Accepts source nodes ⊎ Refuses source nodes

module _ (source : List ℕ) (nodes : ℕ) where
  lexing_refuses : (e : LexError) → IsRefused source e → Refuses source nodes
  lexing_refuses (lexing.BadByte at) h = (refusal.BadByte at, h)
  lexing_refuses (lexing.OpenComment at) h = (refusal.OpenComment at, h)
  lexing_refuses (lexing.WideNumber at) h = (refusal.WideNumber at, h)
  lexing_refuses (lexing.BadDirective line) h = (refusal.BadDirective line, h)
  lexing_refuses lexing.TooManyTokens h = (refusal.TooManyTokens, h)
  lexing_refuses lexing.OutOfMemory h = absurd (refused-for-bytes source h)

  layout_refuses : (l : Lexed) (t : PlainTree) (e : LayoutError) → IsRead source l t →
      layout_of t.objects nodes ≡ Err e → Refuses source nodes
  layout_refuses l t (laying.TooManyObjects count) r h =
      (refusal.TooManyObjects count, record { lexed = l; tree = t; read = r; refused = h })
  layout_refuses l t (laying.BadBound line) r h =
      (refusal.BadBound line, record { lexed = l; tree = t; read = r; refused = h })
  layout_refuses l t (laying.TooManyCells cells) r h =
      (refusal.TooManyCells cells, record { lexed = l; tree = t; read = r; refused = h })
  layout_refuses l t laying.OutOfMemory r h = absurd (layout-sure t.objects nodes h)

  from_laid : (l : Lexed) (t : PlainTree) (a : Arrangement) → IsLaid source nodes l t a → Answered source nodes
  from_laid l t a laid =
      ⊎_elim
      (λ typed. inl (
        l.names,
        typed_of t l.names l.texts,
        a,
        record { lexed = l; tree = t; laid = laid; well_typed = typed; names_are = refl; typed_is = refl },
      ))
      (λ broken. inr (
        refusal.Rule broken.0 broken.1,
        record { lexed = l; tree = t; layout = a; laid = laid; refused = broken.2 },
      ))
      (some-types t l.names l.texts)

  from_read : (l : Lexed) (t : PlainTree) → IsRead source l t → Answered source nodes
  from_read l t read = go (layout_of t.objects nodes) refl
    where
      go : (o : Result Arrangement LayoutError) → layout_of t.objects nodes ≡ o → Answered source nodes
      go (Ok a) h = from_laid l t a (record { read = read; laid = h })
      go (Err e) h = inr (layout_refuses l t e read h)

  from_tokens : (l : Lexed) → IsLexed source l → Answered source nodes
  from_tokens l tokens =
      ⊎_elim
      (λ is. from_read l is.0 (record { tokens = tokens; sentence = is.1; shallow = is.2 }))
      (λ refused. inr (⊎_elim
      (λ no. (refusal.Syntax no.0, record { lexed = l; tokens = tokens; refused = no.1 }))
      (λ deep. (refusal.TooDeep deep.0, record { lexed = l; tokens = tokens; refused = deep.1 })) refused))
      (some-tree LIMITS.depth l.tokens)

  pub some-answer : Answered source nodes
  some-answer = ⊎_elim (λ is. from_tokens is.0 is.1) (λ is. inr (lexing_refuses is.0 is.1)) (one_of_both source)
