-- The round trips of the image: what is read is a network by the rules that gives the same bytes, and the bytes of one give it back. Assumes nothing.
use Prim.Native.Nat.{ℕ, zero, suc, ◌+◌, ◌-◌, ◌*◌, ◌<◌}
use mathlib.Core.Path.{◌≡◌, refl, sym, ap, ap₂, ◌∙◌}
use mathlib.Core.Logic.{◌↔◌}
use mathlib.Core.Bool.{Bool, true, false, not}
use mathlib.Core.List.{List, [], ◌∷◌, ◌++◌, append_assoc}
use native.Mathlib.Omega.{arith}
use borrow.Author.Tests.{ltb-true, lt-ltb, le-ltb, not-true}
use lib.Dec.{ltb}
use lib.ListN.{length, take, drop, replicate, length-append, length-drop, length-replicate, take-append-drop}
use lib.Seq.{take_at, take-append-le, length-take-le}
use Rattle.sets.{specs.Lists.all, proofs.Truth.both, proofs.Truth.together, proofs.Lists.◌∈◌}
use Rattle.image_fields.specs.Fields.{field_bits, bits_in, bytes_for, bytes_of}
use Rattle.image_fields.proofs.Bytes.{bytes-length, bytes_bits, bits-bytes, bits-in-length, bits-in-append, bytes-pad}
use Rattle.network.specs.{Net.Net, Rules.Lawful, Handed.gives, Handed.refuses}
use Rattle.image_laws.specs.{Renumber.renumbered, Reading.padding, Reading.read_image}
use Rattle.image_laws.specs.Image.{net_fields, net_bytes, image_of}
use Rattle.image_laws.specs.Meaning.{OneOrder, raw_bits, ImageAnswer, early, over, taken}
use Rattle.image_laws.proofs.Refusing.{begins-early, judged-iff, judged-read}
use Rattle.image_laws.proofs.Renumbering.{renumbered-same, renumbered-lawful, renumbered-order}
use Rattle.image_laws.proofs.Judging.{raw-order, raw-lawful, raw_of, raw-net, lawful-fits, lawful-sums, lawful-order}

-- ---- zero bits to the byte

zeros : (l : List Bool) → all not l ≡ true → l ≡ replicate (length l) false
zeros [] h = refl
zeros (b ∷ l) h = let q = both (not b) (all not l) h in ap₂ ◌∷◌ (not-true b q.0) (zeros l q.1)

all-zeros : (k : ℕ) → all not (replicate k false) ≡ true
all-zeros zero = refl
all-zeros (suc k) = all-zeros k

pub padding-out : (l : List Bool) → padding l ≡ true → (length l < 8) × (l ≡ replicate (length l) false)
unfolding padding
padding-out l h = let q = both (ltb (length l) 8) (all not l) h in (ltb-true (length l) 8 q.0, zeros l q.1)

pub padding-in : (k : ℕ) → k < 8 → padding (replicate k false) ≡ true
unfolding padding
padding-in k h = together (ltb (length (replicate k false)) 8) (all not (replicate k false)) (rw (length-replicate k false) (lt-ltb k 8 h)) (all-zeros k)

-- ---- both ways

-- a network that is read is by the rules and in the one order
pub read-lawful : (bytes : List ℕ) (n : Net) → read_image bytes ≡ gives n → Lawful n × OneOrder n
read-lawful bytes n h = go ((judged-iff bytes (gives n)).0 h)
  where
    go : {m : Net} → ImageAnswer bytes (gives m) → Lawful m × OneOrder m
    go (taken {r = r} s p q o) = (raw-lawful r s.fits q o, raw-order r s.fits q o)

-- and its own bytes are the image
pub read-bytes : (bytes : List ℕ) (n : Net) → ((b : ℕ) → b ∈ bytes → b < 256) → read_image bytes ≡ gives n → net_bytes n ≡ bytes
unfolding net_bytes
read-bytes bytes n small h = go ((judged-iff bytes (gives n)).0 h)
  where
    go : {m : Net} → ImageAnswer bytes (gives m) → bytes_of (field_bits (net_fields m)) ≡ bytes
    go (taken {r = r} {rest = rest} s p q o) =
        let k = length rest in
        let z = padding-out rest p in
        let e : bits_in bytes ≡ raw_bits r ++ replicate k false = s.bits ∙ ap (raw_bits r ++◌) z.1 in
        let w : 8 * length bytes ≡ length (raw_bits r) + k = sym (bits-in-length bytes) ∙ ap length s.bits ∙ length-append (raw_bits r) rest in
        sym (bytes-pad (raw_bits r) k (omega (arith, z.0))) ∙ ap bytes_of (sym e) ∙ bits-bytes bytes small

module _ (n : Net) (h : Lawful n) where
  -- zero bits to the byte
  spare : ℕ
  spare = 8 * bytes_for (length (field_bits (net_fields n))) - length (field_bits (net_fields n))

  zero_bits : List Bool
  zero_bits = replicate spare false

  net-raw : field_bits (net_fields n) ≡ raw_bits (raw_of n)
  net-raw = ap (λ m. field_bits (net_fields m)) (sym (raw-net n h))

  bytes-stand : bits_in (net_bytes n) ≡ raw_bits (raw_of n) ++ zero_bits
  unfolding net_bytes zero_bits spare
  bytes-stand = bytes_bits (field_bits (net_fields n)) ∙ ap (◌++ zero_bits) net-raw

  -- the bytes of a network by the rules and in the one order are read as that network
  pub bytes_read : OneOrder n → read_image (net_bytes n) ≡ gives n
  unfolding zero_bits spare
  bytes_read o =
      judged-read (net_bytes n)
      (taken (record { bits = bytes-stand; fits = lawful-fits n h }) (padding-in spare (omega arith)) (lawful-sums n h) (lawful-order n h o))
      ∙ ap gives (raw-net n h)

  -- cut short they are refused by 11
  pub cut-refused : (k : ℕ) → k < length (net_bytes n) → read_image (take k (net_bytes n)) ≡ refuses 11
  unfolding net_bytes
  cut-refused k b =
      let bs = net_bytes n in
      let all = raw_bits (raw_of n) in
      let l = bits_in (take k bs) in
      let w : length l ≡ 8 * k = bits-in-length (take k bs) ∙ ap (8 *◌) (length-take-le k bs (omega arith)) in
      let few : 8 * k < length all = omega (arith, bytes-length (field_bits (net_fields n)), ap length net-raw) in
      let e : l ++ bits_in (drop k bs) ≡ all ++ zero_bits = sym (bits-in-append (take k bs) (drop k bs)) ∙ ap bits_in (take-append-drop k bs) ∙ bytes-stand in
      let front : l ≡ take (8 * k) all = sym (take_at l (bits_in (drop k bs)) (8 * k) w) ∙ ap (take (8 * k)) e
      ∙ take-append-le (8 * k) all zero_bits (omega arith) in
      judged-read (take k bs) (early (begins-early (raw_of n) l (drop (8 * k) all) (lawful-fits n h)
      (sym (take-append-drop (8 * k) all) ∙ ap (◌++ drop (8 * k) all) (sym front)) (omega (arith, length-drop (8 * k) all))))

  -- and so they are with bytes over
  pub over-refused : (b : ℕ) (bs : List ℕ) → read_image (net_bytes n ++ (b ∷ bs)) ≡ refuses 11
  unfolding padding
  over-refused b bs =
      judged-read (net_bytes n ++ (b ∷ bs))
      (over (record {
        bits = bits-in-append (net_bytes n) (b ∷ bs) ∙ ap (◌++ bits_in (b ∷ bs)) bytes-stand ∙ append_assoc (raw_bits (raw_of n)) zero_bits (bits_in (b ∷ bs));
        fits = lawful-fits n h;
      }) (rw (le-ltb (length (zero_bits ++ bits_in (b ∷ bs))) 8 (omega (arith, length-append zero_bits (bits_in (b ∷ bs)), bits-in-length (b ∷ bs))))))

-- an image is accepted exactly when it is the bytes of a network by the rules and in the one order, and that network is read
pub read-iff : (bytes : List ℕ) (n : Net) → ((b : ℕ) → b ∈ bytes → b < 256) → (read_image bytes ≡ gives n) ↔ (Lawful n × OneOrder n × (net_bytes n ≡ bytes))
read-iff bytes n small = (
  λ h. let q = read-lawful bytes n h in (q.0, q.1, read-bytes bytes n small h),
  λ (a, b, e). ap read_image (sym e) ∙ bytes_read n a b,
)

-- ---- with the divisors renumbered

-- the image of what is read is the image read
pub image-of-read : (bytes : List ℕ) (n : Net) → ((b : ℕ) → b ∈ bytes → b < 256) → read_image bytes ≡ gives n → image_of n ≡ bytes
unfolding image_of
image-of-read bytes n small h =
    let q = read-lawful bytes n h in ap net_bytes (renumbered-same n q.0 q.1) ∙ read-bytes bytes n small h

-- the image of a network by the rules is read as the network renumbered
pub read-of-image : (n : Net) → Lawful n → read_image (image_of n) ≡ gives (renumbered n)
unfolding image_of
read-of-image n h = bytes_read (renumbered n) (renumbered-lawful n h) (renumbered-order n h)
