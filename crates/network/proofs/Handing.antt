-- A network handed back means what it holds, and what it holds leaves one struct. Assumes nothing.
use Prim.Native.Nat.{ℕ, ◌+◌}
use mathlib.Core.Path.{◌≡◌, refl, sym, ap, ap₂, ◌∙◌}
use mathlib.Core.List.{List, [], ◌∷◌, ◌++◌, map, append_assoc, append-nil}
use native.Mathlib.Omega.{arith}
use lib.ListN.{length, take, drop, length-append, length-map}
use lib.Seq.{take-append_seam, drop-append_seam, take_at}
use Rattle.sets.{specs.Lists.total, proofs.Rows.nil-of}
use Rattle.expression.specs.Words.{cubes_of, spare_of}
use Rattle.expression.proofs.Words.{words-ext, cubes-length, spare-length}
use Rattle.network.specs.Net.{Node, Net, nodes}
use Rattle.network.specs.Held.{numbered, used, net_of}
pub use Rattle.network.specs.Rules.{InTurn}
use Rattle.network_nodes.specs.Nodes.{cut}
pub use Rattle.network.specs.Handed.{Typed}
use Rattle.network.specs.Handed.{flat, node_slots, word_slots, Shaped, Holds, AllZero}
use Rattle.network.specs.declared.Network.{Network}

-- cubes written node after node are cut into the nodes again
pub cut-flat : (fs : List (List (List ℕ))) (rest : List (List ℕ)) → cut (map length fs) (flat fs ++ rest) ≡ fs
unfolding cut
cut-flat [] rest = refl
cut-flat (f ∷ fs) rest = rw (append_assoc f (flat fs) rest, take-append_seam f (flat fs ++ rest), drop-append_seam f (flat fs ++ rest))
    (ap (f ∷◌) (cut-flat fs rest))

pub flat-length : {A : Type 0} (fs : List (List A)) → length (flat fs) ≡ total length fs
flat-length [] = refl
flat-length (f ∷ fs) = omega (arith, length-append f (flat fs), flat-length fs)

pub flat_append : {A : Type 0} (l m : List (List A)) → flat (l ++ m) ≡ flat l ++ flat m
flat_append [] m = refl
flat_append (x ∷ l) m = ap (x ++◌) (flat_append l m) ∙ sym (append_assoc x (flat l) (flat m))

-- one list more
pub flat-last : {A : Type 0} (l : List (List A)) (x : List A) → flat (l ++ (x ∷ [])) ≡ flat l ++ x
flat-last l x = flat_append l (x ∷ []) ∙ ap (flat l ++◌) (append-nil x)

module _ (n : Network) (m : Net) (h : Holds n m) where
  pub used-held : used n ≡ map length (nodes m)
  used-held = ap₂ take slots h.laid.counts ∙ take_at (map length (nodes m)) _ (length (nodes m)) (length-map (nodes m) length)
    where
      slots : n.outputs + n.divisors ≡ length (nodes m)
      slots = rw (length-append m.outputs (map (λ (e : Node). e.cubes) m.divisors), length-map m.divisors (λ (e : Node). e.cubes))
          (omega (arith, h.outputs, h.divisors))

  nodes-cut : cut (used n) (cubes_of n.words) ≡ nodes m
  nodes-cut = ap₂ cut used-held h.laid.cubes ∙ cut-flat (nodes m) _

  -- the struct means the network that it holds
  pub holds-net : InTurn m → net_of n ≡ m
  holds-net t = λ i. record {
    inputs = h.inputs i;
    outputs = (ap₂ take h.outputs nodes-cut ∙ take-append_seam m.outputs _) i;
    divisors = (ap₂ numbered h.inputs (ap₂ drop h.outputs nodes-cut ∙ drop-append_seam m.outputs _) ∙ sym t) i;
  }

-- ---- one struct

-- the lengths of the arrays are the struct's shape
pub shape_of : (n : Network) → length n.counts ≡ node_slots → length n.words ≡ word_slots → Shaped n
shape_of n a b = record {
  slots = a;
  places = omega (arith, cubes-length n.words);
  whole = nil-of (spare_of n.words) (omega (arith, spare-length n.words, cubes-length n.words));
}

-- and the words of that shape have theirs
pub shape-words : (n : Network) → Shaped n → length n.words ≡ word_slots
shape-words n s = omega (arith, s.places, ap length s.whole, spare-length n.words)

-- two structs that hold one network are the same
pub holds-one : (n p : Network) (m : Net) → Typed n → Typed p → Holds n m → Holds p m → n ≡ p
holds-one n p m a b h k = λ i. record {
  inputs = (h.inputs ∙ sym k.inputs) i;
  outputs = (h.outputs ∙ sym k.outputs) i;
  divisors = (h.divisors ∙ sym k.divisors) i;
  counts = (h.laid.counts ∙ sym k.laid.counts) i;
  words = words-ext n.words p.words a.fits b.fits (h.laid.cubes ∙ sym k.laid.cubes) (a.shape.whole ∙ sym b.shape.whole) i;
}

-- no two networks of zeros differ
pub blank-one : (n p : Network) → AllZero n → AllZero p → n ≡ p
blank-one n p h k = λ i. record {
  inputs = (h.inputs ∙ sym k.inputs) i;
  outputs = (h.outputs ∙ sym k.outputs) i;
  divisors = (h.divisors ∙ sym k.divisors) i;
  counts = (h.counts ∙ sym k.counts) i;
  words = (h.words ∙ sym k.words) i;
}
