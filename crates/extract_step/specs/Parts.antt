-- What the parts of a step promise each other.
use Rattle.std.specs.Prelude.{ℕ, ◌+◌, ◌*◌, ◌<◌, List, Option, None, Some}
use mathlib.Core.{Path.◌≡◌, Bool.true, Bool.cond}
use Rattle.sets.specs.Lists.{all}
use Rattle.cube.specs.{Cube.width, declared.Literal.Literal}
use Rattle.expression.specs.Expression.{ordered}
use Rattle.network.specs.{Held.most_variables, Handed.node_slots, Parts.nodes_of}
use Rattle.extract_laws.specs.Divisor.{Divisor, part, hit, gone, swap}
use Rattle.extract_tidy.specs.Parts.{Room}
use Rattle.extract_divisor.specs.Divisor.{divisor_of}
use Rattle.extract_divisor.specs.declared.Divisor as declared
use Rattle.extract_fit.specs.Fitness.{fitting}

-- ---- the cubes of a node

-- a use's cube takes the literal x in place of the part, the other cube of a use goes, and any other cube stays
unfoldable pub fate : ℕ → Divisor → List (List ℕ) → List ℕ → Option (List ℕ)
fate x d f c = cond (hit d f c) (Some (swap x (part d) c)) (cond (gone d f c) None (Some c))

-- the divisor is fit, and x is a literal
pub record Fitted (d : declared.Divisor) (x : Literal) : Type 0 where
  pub divisor : fitting width (divisor_of d) ≡ true
  pub literal : x.0 < 2 * width

-- ---- the nodes of a network in cube order, with a slot for one more

pub record SourceNodes (words counts : List ℕ) (e : ℕ) : Type 0 where
  pub room : Room e counts words
  pub free : e < node_slots
  pub order : all ordered (nodes_of e counts words) ≡ true

-- the nodes of n inputs, m outputs and k divisors, with a number for one more, and a divisor that is fit
pub record Ready (n m k : ℕ) (words counts : List ℕ) (d : declared.Divisor) : Type 0 where
  pub source : SourceNodes words counts (m + k)
  pub number : n + k < most_variables
  pub divisor : fitting width (divisor_of d) ≡ true
