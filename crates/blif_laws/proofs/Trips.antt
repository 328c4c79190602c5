-- The round trips of BLIF: the text of a network by the rules is read as the network renumbered, and what is read is by the rules, in the
-- one order, and read again from its own text. Assumes nothing.
use Prim.Native.Nat.{ℕ}
use mathlib.Core.Path.{◌≡◌, refl, sym, ap, ◌∙◌, subst}
use mathlib.Core.{Logic.inl, List.List}
use Rattle.letters_products.specs.Spelled.{spelled}
use Rattle.network.specs.{Net.Net, Rules.Lawful, Handed.gives, Evaluation.evaluate}
use Rattle.image_laws.{specs.Renumber.renumbered, specs.Meaning.OneOrder}
use Rattle.image_laws.proofs.Renumbering.{renumbered-same, renumbered-lawful, renumbered-order, renumbered-evaluate}
use Rattle.blif_laws.specs.Text.{model_text, model_of, blif_of}
use Rattle.blif_laws.specs.{Reading.read_blif, Meaning.InForm}
use Rattle.blif_laws.proofs.{Joining.joined-text, Modelling.model-formed, Shuffling.model-self, Judging.given-iff}

-- ---- the text of a network in the one order

module _ (r : Net) (w : Lawful r) (o : OneOrder r) where
  text-form : InForm (model_text (spelled "net") (model_of r)) (model_of r)
  unfolding spelled
  text-form = record { formed = model-formed r w o; writes = record { name = spelled "net"; titled = record { good = refl; clear = refl }; text = inl refl } }

  -- it is read as the network
  pub read-of-text : read_blif (model_text (spelled "net") (model_of r)) ≡ gives r
  unfolding spelled
  read-of-text =
      let d = model_of r in
      let t = model_text (spelled "net") d in
      (given-iff t r).1 (w, o, (d, subst (λ z. InForm z d) (sym (joined-text (spelled "net") refl d)) text-form, model-self d))

-- ---- the text of any network by the rules

-- it is read as the network renumbered
pub read-of-blif : (n : Net) → Lawful n → read_blif (blif_of n) ≡ gives (renumbered n)
unfolding blif_of
read-of-blif n w = read-of-text (renumbered n) (renumbered-lawful n w) (renumbered-order n w)

-- and so what is read has the same outputs
pub read-blif-outputs : (n : Net) → Lawful n → (s : ℕ) → (read_blif (blif_of n) ≡ gives (renumbered n)) × (evaluate (renumbered n) s ≡ evaluate n s)
read-blif-outputs n w s = (read-of-blif n w, renumbered-evaluate n w s)

-- ---- what is read

module _ (t : List ℕ) (n : Net) (h : read_blif t ≡ gives n) where
  -- a network that is read is by the rules and in the one order
  pub read-lawful : Lawful n × OneOrder n
  read-lawful = let q = (given-iff t n).0 h in (q.0, q.1)

  -- and it is read again from its own text
  pub blif-of-read : read_blif (blif_of n) ≡ gives n
  blif-of-read = read-of-blif n read-lawful.0 ∙ ap gives (renumbered-same n read-lawful.0 read-lawful.1)
