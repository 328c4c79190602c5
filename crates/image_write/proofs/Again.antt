-- What reading gave is written again wherever there is room, to the same bytes; what was written is read with the same outputs. Assumes nothing.
use Prim.Native.Nat.{ℕ, ◌<◌, ◌≤◌}
use mathlib.Core.Path.{◌≡◌, refl, sym, ap, subst, ◌∙◌}
use mathlib.Core.Bool.{Bool, true, false, cond}
use mathlib.Core.{List.List, List.◌++◌, Option.none, Option.some}
use borrow.Author.Tests.{le-ltb}
use native.Mathlib.Omega.{arith}
use lib.Dec.{ltb}
use lib.ListN.{length, take, drop}
use lib.Seq.{take_at}
use Rattle.expression.specs.declared.Verdict.TheVariants.{Accepted}
use Rattle.sets.proofs.Lists.{◌∈◌}
use Rattle.network.specs.{Net.Net, Held.net_of, Held.rules, Evaluation.evaluate, declared.Handed.Handed}
use Rattle.network.specs.Handed.{Shaped, Holds, gives}
use Rattle.network.specs.Handed as handed
use Rattle.network.{specs.declared.Network.Network, proofs.Handing.holds-net, proofs.Ruling.holds-lawful, proofs.Ruling.rules-lawful}
use Rattle.image_laws.specs.{Image.image_of, Reading.read_image, Renumber.renumbered}
use Rattle.image_laws.proofs.Renumbering.{renumbered-lawful, renumbered-evaluate}
use Rattle.image_laws.proofs.Trips.{read-lawful, image-of-read, read-of-image}
use Rattle.letters.specs.Told.{or_long, Answered, Told}
use Rattle.letters.specs.declared.Wrote.TheVariants.{Bytes}
use Rattle.image_write.specs.Answers.{refused_by}

module _ (bytes : List ℕ) (n : Net) (p : Network) (small : (b : ℕ) → b ∈ bytes → b < 256) (h : read_image bytes ≡ gives n) (held : Holds p n) where
  -- the image of the network read is the image read
  pub again-bytes : image_of (net_of p) ≡ bytes
  again-bytes = ap image_of (holds-net p n held (read-lawful bytes n h).0.good.in_turn) ∙ image-of-read bytes n small h

  -- it is refused neither by 10 nor, where there is room, by 9
  pub again-never-refused : (o : List ℕ) → length bytes ≤ length o → or_long (refused_by p) (image_of (net_of p)) o ≡ none
  unfolding or_long
  again-never-refused o room =
      rw (holds-lawful p n held (read-lawful bytes n h).0, le-ltb (length o) (length (image_of (net_of p))) (omega (arith, room, ap length again-bytes)))

-- ---- written, then read

-- bytes are told of a network by the rules alone: its image, whole
pub told-bytes : (b : Bool) (t o o' : List ℕ) (k : ℕ) → Told (cond b none (some 10)) t o o' (Bytes k) → (b ≡ true) × (k ≡ length t)
    × (o' ≡ t ++ drop (length t) o)
unfolding or_long
told-bytes false t o o' k h = let e = h.0 in let z : ◌≡◌ {A = ℕ} 0 1 = cc in absurd (omega arith)
told-bytes true t o o' k h = go (ltb (length o) (length t)) h
  where
    go : (c : Bool) → Answered (cond c (some 9) none) t o o' (Bytes k) → (true ≡ true) × (k ≡ length t) × (o' ≡ t ++ drop (length t) o)
    go true (e, q) = let z : ◌≡◌ {A = ℕ} 0 1 = cc in absurd (omega arith)
    go false (e, q) = (refl, cc, q)

-- what reading gives for the bytes that writing wrote is accepted, and has the outputs of the network on every setting
pub written-read-outputs : (n : Network) → Shaped n → (o o' : List ℕ) (k : ℕ) → Told (refused_by n) (image_of (net_of n)) o o' (Bytes k)
    → (r : Handed) → handed.Told (read_image (take k o')) r → (r.answer ≡ Accepted) × ((s : ℕ) → evaluate (net_of r.network) s ≡ evaluate (net_of n) s)
written-read-outputs n shape o o' k w r t =
    let m = net_of n in
    let b = told-bytes (rules n) (image_of m) o o' k w in
    let l = rules-lawful n shape b.0 in
    let e : take k o' ≡ image_of m = ap (take k) b.2 ∙ take_at (image_of m) _ k (sym b.1) in
    let q : handed.Told (gives (renumbered m)) r = subst (λ x. handed.Told x r) (ap read_image e ∙ read-of-image m l) t in
    (q.0, λ s. ap (λ x. evaluate x s) (holds-net r.network (renumbered m) q.1 (renumbered-lawful m l).good.in_turn) ∙ renumbered-evaluate m l s)
