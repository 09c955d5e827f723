-- Another count in the books leaves where the nodes stand.
use Rattle.std.proofs.Common.{◌≡◌, ℕ, ◌<◌, List, length, refl, ap, ◌∙◌, subst}
use Rattle.std.specs.Prelude.{slice_set}
use Rattle.std.proofs.lemmas.List.{length-set}
use Rattle.sc_isa.specs.declared.access.Track.{Track}
use Rattle.sc_isa.specs.declared.access.Track.TheVariants.{Counter, Store, Covered}
use Rattle.sc_isa.specs.declared.journal.Entry.{Entry}
use Rattle.sync_book.specs.Book.{NodeBook, Book, node_at, with_node, with_outstanding}
use Rattle.fabric.specs.Books.{Stands}
use Rattle.fabric.proofs.Deciding.{decide_eq}
use Rattle.fabric.proofs.BookSteps.{at_same, at_other}

pub counted_rows : (book : Book) (node : ℕ) (track : Track) (k : ℕ) → length (with_outstanding book node track k).nodes ≡ length book.nodes
counted_rows book node (Counter d) k = length-set book.nodes node (record (node_at book node) { counters = slice_set (node_at book node).counters d k })
counted_rows book node Store k = refl
counted_rows book node Covered k = refl

pub counted_sites : (book : Book) (node : ℕ) (track : Track) (k : ℕ) → (with_outstanding book node track k).sites ≡ book.sites
counted_sites book node (Counter d) k = refl
counted_sites book node Store k = refl
counted_sites book node Covered k = refl

pub counted_stands : (past : List Entry) (book : Book) (node : ℕ) (track : Track) (k : ℕ) → node < length book.nodes → Stands past book → Stands past (with_outstanding book node track k)
counted_stands past book node (Counter d) k within s =
    let row : NodeBook = record (node_at book node) { counters = slice_set (node_at book node).counters d k } in
    record {
      standing = λ n below.
          let under : n < length book.nodes = subst (λ y. n < y) (length-set book.nodes node row) below in
          decide_eq node n
          (λ same. ap (λ (r : NodeBook). r.standing) (subst (λ z. node_at (with_node book node row) z ≡ row) same (at_same book node row within))
          ∙ ap (λ x. (node_at book x).standing) same ∙ s.standing n under)
          (λ ne. ap (λ (r : NodeBook). r.standing) (at_other book node n row ne) ∙ s.standing n under);
      ended = λ n below.
          let under : n < length book.nodes = subst (λ y. n < y) (length-set book.nodes node row) below in
          decide_eq node n
          (λ same. ap (λ (r : NodeBook). r.finished) (subst (λ z. node_at (with_node book node row) z ≡ row) same (at_same book node row within))
          ∙ ap (λ x. (node_at book x).finished) same ∙ s.ended n under)
          (λ ne. ap (λ (r : NodeBook). r.finished) (at_other book node n row ne) ∙ s.ended n under);
    }
counted_stands past book node Store k within s = record { standing = s.standing; ended = s.ended }
counted_stands past book node Covered k within s = record { standing = s.standing; ended = s.ended }
