-- Networks in cube order: the test.
use Rattle.std.specs.Prelude.{Bool, ◌&&◌}
use Rattle.sets.specs.Lists.{all}
use Rattle.expression.specs.Expression.{ordered}
use Rattle.network.specs.{Net.nodes, Held.net_of, Held.sized, declared.Network.Network}

-- within the limits, and each node in cube order
unfoldable pub arranged : Network → Bool
arranged n = sized n && all ordered (nodes (net_of n))
