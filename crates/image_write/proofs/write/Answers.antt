-- `image_write::write` meets its contract: the network is renumbered, its bits counted, and laid where there is room. Assumes nothing.
use Prim.Native.Nat.{◌+◌}
use mathlib.Core.Path.{◌≡◌}
use native.Mathlib.Omega.{arith}
use borrow.Author.Rules.{rules}
use Rattle.network.proofs.{Handing.shape_of, Telling.told-accepted, Telling.told-refused}
use Rattle.image_fields.specs.Fields.{bytes_for}
use Rattle.image_laws.specs.Widths.{head_size}
use Rattle.image_write.proofs.Telling.{Renewed, there, told-rule, told_over, ready, told-written}
use Rattle.image_write.proofs.write.Goals as goal
use Rattle.image_write.proofs.write.Goals.{In-Accepted, After-div_ceil-length}

renumbered-held : (c : In-Accepted) → Renewed c.args.n c.renumber-r.result.network
renumbered-held c =
    let t = told-accepted _ _ _ c.renumber-r.ensures c.in-Accepted.is in
    record { shape = shape_of _ (search rules) (search rules); lawful = t.0; holds = t.1; whole = shape_of _ (search rules) (search rules) }

bytes : (c : After-div_ceil-length) → c.div_ceil-length.result ≡ bytes_for (head_size + c.nodes_bits-bits.result)
bytes c = omega (arith, c.div_ceil-length.ensures)

pub returns-in_default : goal.returns-in_default
returns-in_default c = told-rule _ _ (told-refused _ _ _ _ c.renumber-r.ensures c.in_default.is).0

pub nodes_bits-bits-requires : goal.nodes_bits-bits-requires
nodes_bits-bits-requires c = there (renumbered-held (goal.at.nodes_bits-bits-requires c).In-Accepted)

pub returns-then-length-bytes : goal.returns-then-length-bytes
returns-then-length-bytes c =
    let b = bytes (goal.at.returns-then-length-bytes c).After-div_ceil-length in
    told_over (renumbered-held (goal.at.returns-then-length-bytes c).In-Accepted) _ _ c.nodes_bits-bits.ensures.0 (rw b at c.if-length-bytes.true)

pub put_all-requires : goal.put_all-requires
put_all-requires c =
    let b = bytes (goal.at.put_all-requires c).After-div_ceil-length in
    ready (renumbered-held (goal.at.put_all-requires c).In-Accepted) _ _ c.nodes_bits-bits.ensures.0 (rw b at c.if-length-bytes.false) c.nodes_bits-bits.ensures.1

pub returns : goal.returns
returns c =
    let b = bytes (goal.at.returns c).After-div_ceil-length in
    rw b (told-written (renumbered-held (goal.at.returns c).In-Accepted) _ _ c.nodes_bits-bits.ensures.0 (rw b at c.if-length-bytes.false) _ _ c.put_all.ensures)
