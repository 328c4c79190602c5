-- What the writer answers: 10, 9, or the image of the network renumbered. Assumes nothing.
use Prim.Native.Nat.{ℕ, ◌+◌, ◌-◌, ◌*◌, ◌<◌, ◌≤◌}
use mathlib.Core.Path.{◌≡◌, refl, sym, ap, ap₂, ◌∙◌}
use mathlib.Core.Bool.{true, false}
use mathlib.Core.List.{List, [], ◌++◌}
use native.Mathlib.Omega.{arith}
use lib.ListN.{length, take, drop}
use lib.Seq.{take_at, drop_at, take-take}
use Rattle.sets.proofs.Rows.{drop-take}
use Rattle.expression.specs.{Words.cubes_of}
use Rattle.image_fields.specs.Fields.{bytes_for, bytes_from, field_bits}
use Rattle.image_fields.proofs.Bytes.{bytes-length}
use Rattle.network.specs.{Net.Net, Net.nodes, Held.net_of, Held.rules, declared.Network.Network}
use Rattle.network_nodes.{specs.Nodes.cut, proofs.Cutting.cut-take}
use Rattle.network.specs.Handed.{node_slots, Shaped, Holds}
use Rattle.network.proofs.{Handing.cut-flat, Handing.used-held, Ruling.rules-lawful}
use Rattle.image_laws.{specs.Renumber.renumbered, proofs.Renumbering.renumbered-lawful, specs.Widths.head_size}
use Rattle.image_laws.specs.Image.{net_fields, net_bytes, image_of}
use Rattle.image_laws.proofs.Fielding.{divisor_cubes, node_bits, net-bits, net-bits-length, nodes-bits-length}
use Rattle.letters.specs.Told.{Told}
use Rattle.letters.specs.declared.Wrote.TheVariants as wrote
use Rattle.letters.proofs.Telling.{told-before, told-long, told-whole}
use Rattle.image_write.specs.Answers.{refused_by}
use Rattle.image_write.specs.Parts.{overlaid, LaidBits, nodes_from, bits_from, all_bits, most_held_bits, Held, Writable}

-- ---- the bits of the words are those of the network that they hold

module _ (r : Network) (m : Net) (h : Holds r m) where
  abbrev all : List (List (List ℕ))
  all = cut r.counts (cubes_of r.words)

  abbrev e : ℕ
  e = r.outputs + r.divisors

  front : take e all ≡ nodes m
  front = sym (cut-take e r.counts (cubes_of r.words)) ∙ ap₂ cut (used-held r m h) h.laid.cubes ∙ cut-flat (nodes m) _

  from_zero : (i : ℕ) → nodes_from 0 i r.words r.counts ≡ take i all
  from_zero i = let z : i - 0 ≡ i = omega arith in ap (λ j. take j all) z

  outputs-held : take r.outputs all ≡ m.outputs
  outputs-held = rw (← take-take r.outputs e all (omega arith), front) (take_at m.outputs (divisor_cubes m) r.outputs (sym h.outputs))

  divisors-held : nodes_from r.outputs e r.words r.counts ≡ divisor_cubes m
  divisors-held =
      let z : e - r.outputs ≡ r.divisors = omega arith in
      rw (z, ← drop-take r.outputs r.divisors all, front) (drop_at m.outputs (divisor_cubes m) r.outputs (sym h.outputs))

  pub bits-held : all_bits r ≡ field_bits (net_fields m)
  bits-held = rw (divisors-held, from_zero r.outputs ∙ outputs-held, h.inputs, h.outputs, h.divisors, net-bits m)

  -- so many of them
  pub size-held : head_size + length (bits_from 0 e r.words r.counts) ≡ length (field_bits (net_fields m))
  size-held = omega (arith, ap (λ x. length (node_bits x)) (from_zero e ∙ front), nodes-bits-length (nodes m), net-bits-length m)

-- ---- the network renumbered

-- a network by the rules, and the struct that holds it renumbered
pub record Renewed (n r : Network) : Type 0 where
  pub shape : Shaped n
  pub lawful : rules n ≡ true
  pub holds : Holds r (renumbered (net_of n))
  pub whole : Shaped r

module _ {n r : Network} (w : Renewed n r) where
  abbrev new : Net
  new = renumbered (net_of n)

  -- it has inputs and outputs, and no more nodes than there are slots
  sizes : (1 ≤ r.inputs) × (1 ≤ r.outputs) × (r.outputs + r.divisors ≤ node_slots)
  sizes =
      let h = w.holds in
      let f = renumbered-lawful (net_of n) (rules-lawful n w.shape w.lawful) in
      let v = f.within.variables in
      (omega (arith, h.inputs, f.inputs), omega (arith, h.outputs, f.outputs), omega (arith, h.outputs, h.divisors, f.outputs, f.inputs))

  pub there : Held r.words r.counts (r.outputs + r.divisors)
  there = record { counted = omega (arith, w.whole.slots, sizes.2); nodes = sizes.2; few = omega (arith, w.whole.places) }

  module _ (o : List ℕ) (bits : ℕ) (b : bits ≡ length (bits_from 0 (r.outputs + r.divisors) r.words r.counts)) where
    image-length : length (image_of (net_of n)) ≡ bytes_for (head_size + bits)
    unfolding image_of net_bytes
    image-length = bytes-length (field_bits (net_fields new)) ∙ ap bytes_for (sym (size-held r new w.holds) ∙ ap (head_size +◌) (sym b))

    -- 9 where the image is longer
    pub told_over : length o < bytes_for (head_size + bits) → Told (refused_by n) (image_of (net_of n)) o o (wrote.Refused 9)
    told_over l = rw w.lawful (told-long _ _ _ (omega (arith, image-length)) refl)

    module _ (l : bytes_for (head_size + bits) ≤ length o) where
      pub ready : bits ≤ node_slots * most_held_bits → Writable r o
      unfolding bytes_from
      ready s =
          let t = ap length (bits-held r new w.holds) ∙ sym (size-held r new w.holds) in
          record {
            inputs = sizes.0;
            outputs = sizes.1;
            there = there;
            ready = record { bits = []; old = o; number = refl; bytes = refl; room = omega (arith, t); short = omega (arith, t) };
          }

      -- the image at the front, the rest as it was
      pub told-written : (o' : List ℕ) (p : ℕ) → LaidBits o o' 0 p (all_bits r)
          → Told (refused_by n) (image_of (net_of n)) o o' (wrote.Bytes (bytes_for (head_size + bits)))
      unfolding bytes_from image_of net_bytes
      told-written o' p k =
          let e : o' ≡ image_of (net_of n) ++ drop (length (image_of (net_of n))) o =
          k.adds [] o refl refl ∙ ap (λ u. overlaid u o) (bits-held r new w.holds)
          ∙ ap (λ i. image_of (net_of n) ++ drop i o) (sym (bytes-length (field_bits (net_fields new)))) in
          rw w.lawful (told-whole _ _ _ _ (omega (arith, image-length)) (sym image-length) e)

pub told-rule : (n : Network) (o : List ℕ) → rules n ≡ false → Told (refused_by n) (image_of (net_of n)) o o (wrote.Refused 10)
told-rule n o e = rw e (told-before _ _ _)
