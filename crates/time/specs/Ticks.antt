-- A millisecond for every task, in the order of their numbers.
use mathlib.Core.List.{foldl}
use Rattle.model.specs.Sizes.{tasks}
use Rattle.model.specs.Lists.{up_to}
use Rattle.model.specs.World.{World}
use Rattle.model.specs.Effect.{tick_task}

unfoldable pub ticks : World → World
ticks w = foldl tick_task w (up_to tasks)
