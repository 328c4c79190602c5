-- What was written is read back as the renumbered network, with the same outputs: over the operations, structs and bytes. Assumes nothing.
use Prim.Native.Nat.{ℕ}
use mathlib.Core.Path.{◌≡◌, sym, ap, subst, ◌∙◌}
use mathlib.Core.List.{List}
use lib.ListN.{take}
use lib.Seq.{take_at}
use Rattle.expression.specs.declared.Verdict.TheVariants.{Accepted}
use Rattle.letters.specs.{Told.Told, declared.Wrote.TheVariants.Bytes}
use Rattle.network.specs.{Held.net_of, Held.rules, Evaluation.evaluate, declared.Network.Network, declared.Handed.Handed}
use Rattle.network.{specs.Handed.Shaped, specs.Handed.Holds, proofs.Handing.holds-net, proofs.Ruling.rules-lawful}
use Rattle.network.specs.Handed as handed
use Rattle.image_laws.{specs.Renumber.renumbered, proofs.Renumbering.renumbered-lawful, proofs.Renumbering.renumbered-evaluate}
use Rattle.image_write.{specs.Answers.refused_by, proofs.Again.told-bytes}
use Rattle.blif_laws.{specs.Text.blif_of, specs.Reading.read_blif, proofs.Trips.read-of-blif}

module _ (n : Network) (shape : Shaped n) (o o' : List ℕ) (k : ℕ) (w : Told (refused_by n) (blif_of (net_of n)) o o' (Bytes k))
    (r : Handed) (t : handed.Told (read_blif (take k o')) r) where
  -- what reading gives for the bytes that writing wrote is accepted, and is the network renumbered
  pub blif-back : (r.answer ≡ Accepted) × Holds r.network (renumbered (net_of n))
  blif-back =
      let m = net_of n in
      let b = told-bytes (rules n) (blif_of m) o o' k w in
      let e : take k o' ≡ blif_of m = ap (take k) b.2 ∙ take_at (blif_of m) _ k (sym b.1) in
      subst (λ x. handed.Told x r) (ap read_blif e ∙ read-of-blif m (rules-lawful n shape b.0)) t

  -- its outputs are those of the network on every setting
  pub blif-back-outputs : (s : ℕ) → evaluate (net_of r.network) s ≡ evaluate (net_of n) s
  blif-back-outputs s =
      let m = net_of n in
      let l = rules-lawful n shape (told-bytes (rules n) (blif_of m) o o' k w).0 in
      ap (λ x. evaluate x s) (holds-net r.network (renumbered m) blif-back.1 (renumbered-lawful m l).good.in_turn) ∙ renumbered-evaluate m l s
