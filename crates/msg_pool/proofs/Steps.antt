-- The steps of a put and of a take as the code takes them.
use Rattle.std.proofs.Common.{◌≡◌, ℕ, ◌+◌, Some, None, sym, ap, ◌∙◌, subst}
use Rattle.std.specs.Prelude.{slice_set}
use Rattle.slab.specs.Slab.{Slab, get, slab_len, Updates}
use Rattle.msg_pool.specs.declared.message.MsgId.{MsgId}
use Rattle.msg_pool.specs.declared.slot.Grouping.TheVariants.{Every, Issuer, Target}
use Rattle.msg_pool.specs.declared.slot.Slot.{Slot}
use Rattle.msg_pool.specs.declared.chain.Chain.{Chain}
use Rattle.msg_pool.specs.Pool.{target_of, with_message, Takes}
use Rattle.msg_pool.specs.Chains.{chain_with, chain_without, chain_at}
use Rattle.msg_pool.specs.Slots.{with_next, changed}
use Rattle.msg_pool.specs.Sound.{Parts, pool_of, IsPool}
use Rattle.msg_pool.proofs.Shapes.{bypass}
use Rattle.msg_pool.proofs.Putting.{IsInserted, put_done}
use Rattle.msg_pool.proofs.Taking.{take_done}

-- the chains as they are read before the steps
pub record AreRead (parts : Parts) (slot : Slot) (target : ℕ) (issuer_chain target_chain : Chain) : Type 0 where
  pub target_is : target ≡ target_of slot.message
  pub issuer_is : issuer_chain ≡ chain_at parts.issuers slot.message.issuer
  pub targets_is : target_chain ≡ chain_at parts.targets target

-- the steps of a put
pub record ArePutSteps (parts : Parts) (key : ℕ) (issuer_chain target_chain : Chain) (new second third last : Slab Slot) (every of_issuer to_target : Chain) : Type 0 where
  pub second_is : second ≡ changed (with_next Every (Some key)) parts.every.tail new
  pub third_is : third ≡ changed (with_next Issuer (Some key)) issuer_chain.tail second
  pub last_is : last ≡ changed (with_next Target (Some key)) target_chain.tail third
  pub every_is : every ≡ chain_with parts.every key
  pub of_issuer_is : of_issuer ≡ chain_with issuer_chain key
  pub to_target_is : to_target ≡ chain_with target_chain key

-- what the pool is made of after a put
abbrev pub put_parts : Parts → Slot → ℕ → Slab Slot → Chain → Chain → Chain → Parts
put_parts parts slot target last every of_issuer to_target = record {
  slots = last;
  every = every;
  issuers = slice_set parts.issuers slot.message.issuer of_issuer;
  targets = slice_set parts.targets target to_target;
  puts = parts.puts + 1;
}

pub put_steps : (parts : Parts) (slot : Slot) (key target : ℕ) (issuer_chain target_chain : Chain) (new second third last : Slab Slot) (every of_issuer to_target : Chain) → IsPool parts → IsInserted parts slot key new → AreRead parts slot target issuer_chain target_chain → ArePutSteps parts key issuer_chain target_chain new second third last every of_issuer to_target → IsPool (put_parts parts slot target last every of_issuer to_target) × (pool_of (put_parts parts slot target last every of_issuer to_target) ≡ with_message (pool_of parts) (record { key = key; serial = parts.puts }) slot.message)
put_steps parts slot key target issuer_chain target_chain new second third last every of_issuer to_target sound inserted read steps =
    let chain_is : target_chain ≡ chain_at parts.targets (target_of slot.message) = read.targets_is ∙ ap (chain_at parts.targets) read.target_is in
    let P : ℕ → Type 0 = λ found. IsPool (put_parts parts slot found last every of_issuer to_target) × (pool_of (put_parts parts slot found last every of_issuer to_target) ≡ with_message (pool_of parts) (record { key = key; serial = parts.puts }) slot.message) in
    subst P (sym read.target_is)
    (put_done parts slot key new second third last every of_issuer to_target sound inserted steps.second_is
    (steps.third_is ∙ ap (λ (chain : Chain). changed (with_next Issuer (Some key)) chain.tail second) read.issuer_is)
    (steps.last_is ∙ ap (λ (chain : Chain). changed (with_next Target (Some key)) chain.tail third) chain_is)
    steps.every_is
    (steps.of_issuer_is ∙ ap (λ chain. chain_with chain key) read.issuer_is)
    (steps.to_target_is ∙ ap (λ chain. chain_with chain key) chain_is))

-- the steps of a take, up to the removal
pub record AreTakeSteps (parts : Parts) (slot : Slot) (issuer_chain target_chain : Chain) (second third last : Slab Slot) (every of_issuer to_target : Chain) : Type 0 where
  pub second_is : second ≡ bypass Every slot.every parts.slots
  pub third_is : third ≡ bypass Issuer slot.issuer second
  pub last_is : last ≡ bypass Target slot.target third
  pub every_is : every ≡ chain_without parts.every slot.every
  pub of_issuer_is : of_issuer ≡ chain_without issuer_chain slot.issuer
  pub to_target_is : to_target ≡ chain_without target_chain slot.target

-- the message is removed from the slab
pub record IsTakenOut (id : MsgId) (last new : Slab Slot) : Type 0 where
  pub updates : Updates last new id.key None
  pub counted : slab_len new + 1 ≡ slab_len last
  pub capacity : new.capacity ≡ last.capacity

-- what the pool is made of after a take
abbrev pub take_parts : Parts → Slot → ℕ → Slab Slot → Chain → Chain → Chain → Parts
take_parts parts slot target new every of_issuer to_target = record {
  slots = new;
  every = every;
  issuers = slice_set parts.issuers slot.message.issuer of_issuer;
  targets = slice_set parts.targets target to_target;
  puts = parts.puts;
}

pub take_steps : (parts : Parts) (slot : Slot) (id : MsgId) (target : ℕ) (issuer_chain target_chain : Chain) (second third last new : Slab Slot) (every of_issuer to_target : Chain) → IsPool parts → get parts.slots id.key ≡ Some slot → slot.serial ≡ id.serial → AreRead parts slot target issuer_chain target_chain → AreTakeSteps parts slot issuer_chain target_chain second third last every of_issuer to_target → IsTakenOut id last new → IsPool (take_parts parts slot target new every of_issuer to_target) × Takes (pool_of parts) id slot.message (pool_of (take_parts parts slot target new every of_issuer to_target))
take_steps parts slot id target issuer_chain target_chain second third last new every of_issuer to_target sound here serial read steps out =
    let chain_is : target_chain ≡ chain_at parts.targets (target_of slot.message) = read.targets_is ∙ ap (chain_at parts.targets) read.target_is in
    let P : ℕ → Type 0 = λ found. IsPool (take_parts parts slot found new every of_issuer to_target) × Takes (pool_of parts) id slot.message (pool_of (take_parts parts slot found new every of_issuer to_target)) in
    subst P (sym read.target_is)
    (take_done parts slot id second third last new every of_issuer to_target sound here serial steps.second_is steps.third_is steps.last_is
    out.updates out.counted out.capacity steps.every_is
    (steps.of_issuer_is ∙ ap (λ chain. chain_without chain slot.issuer) read.issuer_is)
    (steps.to_target_is ∙ ap (λ chain. chain_without chain slot.target) chain_is))
