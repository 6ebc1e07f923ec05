-- What is shown of a message: a component, if there is one, with what stands behind its Facility value, so that its parts have
-- places in the message.
use Rattle.std.specs.Prelude.{ℕ, List}
use Rattle.std.proofs.Math.Option.{Option}
use Rattle.components.specs.Component.{Component}

pub record ShownComponent : Type 0 where
  pub component : Component
  pub behind : List ℕ

abbrev pub Shows : Type 0
Shows = Option ShownComponent
