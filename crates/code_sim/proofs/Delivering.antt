-- The delivery of a pending message is that of the message in flight with its number.
use Rattle.std.proofs.Common.{◌≡◌, ℕ, List, [], ◌∷◌, ◌++◌, length, map, Some, refl, sym, ap, ◌∙◌}
use Rattle.std.specs.Prelude.{slice_get}
use Rattle.sc_base.specs.declared.value.Value.{Value}
use Rattle.sc_isa.specs.declared.journal.Entry.TheVariants.{Delivered}
use Rattle.msg_pool.specs.declared.message.Message.{Message}
use Rattle.msg_pool.specs.declared.message.MsgId.{MsgId}
use Rattle.msg_pool.specs.Pool.{Pending, ids, NamesOnce}
use Rattle.fabric.specs.Effects.{effects}
use Rattle.fabric.specs.Delivering.{value_in, Delivers}
use Rattle.fabric.specs.State.{State, start_of}
use Rattle.fabric.specs.Kept.{IsOfJournal}
use Rattle.code_sim.specs.UnderWay.{IsDelivered}

there : {Y : Type 0} (f : Pending → Y) (before after : List Pending) (p : Pending) → slice_get (map f (before ++ p ∷ after)) (length before) ≡ Some (f p)
there f [] after p = refl
there f (b ∷ bs) after p = there f bs after p

pub delivered : (fabric new : State) → IsOfJournal fabric → (k : ℕ) (id : MsgId) (message : Message) (value : Value) → slice_get (ids fabric.pool.pending) k ≡ Some id
    → NamesOnce (ids fabric.pool.pending) → Delivers fabric.pool id message value new.pool
    → value ≡ value_in (start_of fabric) (effects (start_of fabric) fabric.past) message.part
    → new.past ≡ Delivered message.issuer message.number message.cell value ∷ fabric.past → new.memory.layout ≡ fabric.memory.layout → new.book.sites ≡ fabric.book.sites
    → IsDelivered fabric new k
delivered fabric new j k id message value at once d v p l b =
    let p' : Pending = record { id = id; message = message } in
    let named : slice_get (ids fabric.pool.pending) (length d.before) ≡ Some id =
    ap (λ (l : List Pending). slice_get (ids l) (length d.before)) d.was ∙ there (λ (q : Pending). q.id) d.before d.after p' in
    let same : length d.before ≡ k = once (length d.before) k id named at in
    record {
      message = message;
      is = ap (λ (l : List Message). slice_get l k) (sym j.messages)
          ∙ ap (λ (l : List Pending). slice_get (map (λ (q : Pending). q.message) l) k) d.was
          ∙ ap (slice_get (map (λ (q : Pending). q.message) (d.before ++ p' ∷ d.after))) (sym same)
          ∙ there (λ (q : Pending). q.message) d.before d.after p';
      past = p ∙ ap (λ (w : Value). Delivered message.issuer message.number message.cell w ∷ fabric.past) v;
      layout = l;
      sites = b;
    }
