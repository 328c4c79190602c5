-- The network renumbered: its struct keeps the limits, and the text of what it means is the text asked for. Assumes nothing.
use mathlib.Core.Path.{◌≡◌, ap}
use Rattle.letters_products.specs.Spelled.{spelled}
use Rattle.network.specs.{Held.net_of, Parts.Limited, declared.Network.Network}
use Rattle.network.proofs.{Handing.holds-net, Limits.rules-sized, Ruling.rules-lawful, Ruling.holds-lawful}
use Rattle.image_laws.{specs.Renumber.renumbered, proofs.Renumbering.renumbered-lawful}
use Rattle.image_write.proofs.Telling.{Renewed}
use Rattle.blif_laws.specs.Text.{model_text, model_of, blif_of}

module _ {n r : Network} (w : Renewed n r) where
  pub renewed-limited : Limited r
  renewed-limited =
      rules-sized r w.whole (holds-lawful r _ w.holds (renumbered-lawful (net_of n) (rules-lawful n w.shape w.lawful)))

  pub renewed-text : model_text (spelled "net") (model_of (net_of r)) ≡ blif_of (net_of n)
  unfolding blif_of
  renewed-text =
      let l = renumbered-lawful (net_of n) (rules-lawful n w.shape w.lawful) in
      ap (λ m. model_text (spelled "net") (model_of m)) (holds-net r (renumbered (net_of n)) w.holds l.good.in_turn)
