-- What a message says, with the bytes of the packet inside. Assumes nothing.
use Rattle.std.specs.Prelude.{ℕ, List}
use Rattle.fault.specs.declared.Refusal.{Refusal}
use Rattle.flow.specs.declared.key.FlowKey.{FlowKey}
use Rattle.wire.specs.declared.message.Head.{Head}
use Rattle.wire.specs.declared.message.Control.{Control}
use Rattle.wire.specs.declared.message.Order.{Order}

pub data Meant : Type 0 where
  -- a packet between machines, with its session
  Carried : Head → FlowKey → List ℕ → Meant
  Said : Control → Meant
  Answered : Control → Meant
  -- a packet that goes back to its sender
  Back : Refusal → List ℕ → Meant
  Ordered : Order → Meant
