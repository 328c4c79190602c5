-- The answers of `image_read::all_earlier`.
use Prim.Native.Nat.{◌+◌, ◌-◌}
use mathlib.Core.Path.{◌≡◌, refl, ◌∙◌}
use native.Mathlib.Omega.{arith}
use lib.ListN.{length}
use Rattle.std.proofs.Common.{rules}
use Rattle.std.proofs.lemmas.Iterator.{YieldsList-from_range, YieldsList-from_zip}
use Rattle.std.proofs.lemmas.Iterator.Consumers.{YieldsList-at}
use borrow.Author.Tests.{tests}
use Rattle.sets.{proofs.Chains.all-chain}
use Rattle.expression.specs.Words.{cubes_of}
use Rattle.network.specs.Held.{reach}
use Rattle.network_nodes.proofs.{Cutting.cut-length, Chains.nodes-list}
use Rattle.image_read.specs.Parts.{nodes_in}
use Rattle.image_read.proofs.Testing.{earlier-zip}
use Rattle.image_read.proofs.all_earlier.Goals as goal

pub returns : goal.returns
returns c =
    let fs = nodes_in c.args.counts.now c.args.words.now in
    let k : c.args.n + length c.args.counts.now - c.args.n ≡ length fs = omega (arith, cut-length c.args.counts.now (cubes_of c.args.words.now)) in
    let road = YieldsList-from_zip (YieldsList-at c.zip.ensures.first (YieldsList-from_range c.args.n _ (length fs) refl k)) (YieldsList-at c.zip.ensures.second (nodes-list c.each.ensures)) in
    all-chain (λ p. reach p.0 p.1) c.all.new.self _ _ c.all.ensures.ran road (λ x b q k. search (rules, tests)) ∙ earlier-zip fs c.args.n
