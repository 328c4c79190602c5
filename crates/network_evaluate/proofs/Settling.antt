-- Evaluation by cubes of true literals: divisors settle along the listing as the definition says, and outputs make up the answer's bits. Assumes nothing.
use Prim.Native.Nat.{ℕ, ◌+◌, ◌*◌, ◌/◌, ◌<◌, ◌≤◌, ◌^◌}
use mathlib.Core.Path.{◌≡◌, refl, sym, ap, ◌∙◌}
use mathlib.Core.Logic.{inl, inr}
use mathlib.Core.Bool.{Bool, true, false, cond, ◌&&◌, ◌||◌}
use mathlib.Core.List.{List, [], ◌∷◌, ◌++◌, map, append-nil, append_assoc}
use native.Mathlib.Nat.{pow-le-pow_right}
use native.Mathlib.Omega.{arith}
use lib.ListN.{length, get_or, drop, drop_of_length-le, length-drop, length-map}
use lib.Dec.{ltb}
use borrow.Author.Tests.{lt-ltb, le-ltb, eq-eqb, ne_eqb}
use Rattle.sets.{specs.Lists.all, specs.Masks.bit, specs.Masks.packed, proofs.Truth.or_left, proofs.Truth.or_right, proofs.Sets.mem-of}
use Rattle.sets.proofs.Lists.{◌∈◌, all-out, all-cong, any-cong, map-cong}
use Rattle.sets.proofs.{Packing.packed_lt, Places.drop-next}
use Rattle.expression.specs.Value.{lit, value}
use Rattle.sets.specs.Sets.{mem, sub, insert}
use Rattle.network.specs.{Net.Net, Net.cubes_at, Listing.ready, Listing.listing, Held.most_outputs}
use Rattle.network.specs.Meaning.{ListedNext, IsVariable, Sound}
use Rattle.network.specs.Evaluation.{assign, settle, evaluate}
use Rattle.network_known.specs.Known.{known, Truths, signed, some_within}
use Rattle.network_known.proofs.Knowing.{known-listed, signed-more}
use Rattle.network_evaluate.specs.Parts.{settled_in}
use Rattle.network.proofs.{Numbering.passes-read, Listings.listing_step, Listings.listing-in}

-- ---- values

module _ (n : ℕ) (listed : List ℕ) (a : ℕ → Bool) (t : List ℕ) (s : Truths n listed a t) where
  -- a ready expression has value 1 where a cube has only true literals
  pub holds-value : (f : List (List ℕ)) → ready n listed f ≡ true → some_within t f ≡ value (lit a) f
  unfolding ready sub
  holds-value f h = any-cong (λ c. sub c t) (all (lit a)) f (λ c i. all-cong (λ l. mem l t) (lit a) c (λ l j.
      s.each l ∙ ap (λ x. x && lit a l) (all-out (λ y. ltb (y / 2) n || mem (y / 2) listed) j (all-out (all (λ y. ltb (y / 2) n || mem (y / 2) listed)) i h))))

  -- one divisor more has its value
  pub truths-listed : (v : ℕ) (b : Bool) → n ≤ v → mem v listed ≡ false → Truths n (listed ++ (v ∷ [])) (assign a v b) (insert (signed v b) t)
  truths-listed v b h k = record {
    each = λ l. ap (λ x. mem l (insert (signed v x) t)) (sym here)
        ∙ signed-more (known n listed) a (assign a v b) v t l new (λ u w. rw (ne_eqb u v w)) (s.each l)
        ∙ ap (λ x. x && lit (assign a v b) l) (known-listed n listed v (l / 2));
  }
    where
      here : assign a v b v ≡ b
      here = rw (eq-eqb v v refl)

      new : known n listed v ≡ false
      new = rw (le-ltb v n h, k)

-- ---- one divisor after the other

module _ (n : Net) (l : List ℕ) (i : ℕ) (t : List ℕ) where
  pub settled_on : i < length l → (v : ℕ) (f : List (List ℕ)) (u : List ℕ) → v ≡ get_or l i 0 → cubes_at v n.divisors ≡ f
      → u ≡ insert (signed v (some_within t f)) t → settled_in n (drop i l) t ≡ settled_in n (drop (i + 1) l) u
  unfolding settled_in
  settled_on h v f u p q s =
      ap (λ (x : List ℕ). settled_in n x t) (drop-next l i 0 h ∙ ap (◌∷ drop (i + 1) l) (sym p))
      ∙ ap (settled_in n (drop (i + 1) l)) (ap (λ (x : List (List ℕ)). insert (signed v (some_within t x)) t) q ∙ sym s)

  pub settled-done : length l ≤ i → settled_in n (drop i l) t ≡ t
  unfolding settled_in
  settled-done h = rw (drop_of_length-le l h)

-- ---- along the listing

module _ (net : Net) (o : Sound net) where
  abbrev n : ℕ
  n = net.inputs

  -- the divisors that are left settle to the assignment of the definition
  settled-truths : (done l : List ℕ) (a : ℕ → Bool) (t : List ℕ) → listing net ≡ done ++ l → Truths n done a t
      → Truths n (done ++ l) (settle net l a) (settled_in net l t)
  unfolding settle settled_in
  settled-truths done [] a t q s = rw append-nil s
  settled-truths done (v ∷ l) a t q s = rw (← (append_assoc done (v ∷ []) l), holds-value n done a t s (cubes_at v net.divisors) x.allowed)
      (settled-truths (done ++ (v ∷ [])) l (assign a v b) (insert (signed v b) t) (q ∙ sym (append_assoc done (v ∷ []) l))
      (truths-listed n done a t s v b (rw x.number (o.distinct.above x.node x.inside)) x.fresh))
    where
      x : ListedNext net done v
      x = listing_step net o.distinct done l v q

      b : Bool
      b = value (lit a) (cubes_at v net.divisors)

  -- with all divisors listed the outputs are ready
  output-ready : (f : List (List ℕ)) → f ∈ net.outputs → ready n (listing net) f ≡ true
  unfolding ready
  output-ready f m = passes-read (known n (listing net)) f (λ v r. seen v (o.closed.outputs f m v r))
    where
      seen : (v : ℕ) → IsVariable net v → known n (listing net) v ≡ true
      seen v (inl h) = or_left (ltb v n) (mem v (listing net)) (lt-ltb v n h)
      seen v (inr (g, i, p)) = or_right (ltb v n) (mem v (listing net)) (rw p (mem-of (listing-in net o.whole g i)))

  -- the outputs where true literals are those of the settled divisors
  pub outputs-value : (s : ℕ) (t : List ℕ) → Truths n [] (bit s) t → packed (map (some_within (settled_in net (listing net) t)) net.outputs) ≡ evaluate net s
  unfolding evaluate
  outputs-value s t w = ap packed (map-cong (some_within (settled_in net (listing net) t)) (value (lit (settle net (listing net) (bit s)))) net.outputs
      (λ f m. holds-value n (listing net) (settle net (listing net) (bit s)) (settled_in net (listing net) t)
      (settled-truths [] (listing net) (bit s) t refl w) f (output-ready f m)))

-- ---- outputs as bits

-- r has the bits that the test gives the elements from j on
pub record Collected {A : Type 0} (p : A → Bool) (l : List A) (j r : ℕ) : Type 0 where
  pub bits : r ≡ packed (map p (drop j l))

module _ {A : Type 0} (p : A → Bool) (l : List A) where
  pub collected-none : (j : ℕ) → length l ≤ j → Collected p l j 0
  unfolding packed
  collected-none j h = record { bits = rw (drop_of_length-le l h) }

  pub collected-more : (d : A) (j i r s : ℕ) (b : Bool) → j ≡ i + 1 → i < length l → Collected p l j r → p (get_or l i d) ≡ b → s ≡ cond b 1 0 + 2 * r
      → Collected p l i s
  unfolding packed
  collected-more d j i r s b g h c e q =
      let w : r ≡ packed (map p (drop (i + 1) l)) = c.bits ∙ ap (λ x. packed (map p (drop x l))) g in
      record { bits = rw (drop-next l i d h, e, ← w) q }

  pub collected-all : (r : ℕ) → Collected p l 0 r → r ≡ packed (map p l)
  collected-all r c = c.bits

  -- so many bits are enough
  pub collected-small : (j r : ℕ) → Collected p l j r → length l ≤ most_outputs → r < 2 ^ most_outputs
  collected-small j r c h =
      let few : length (map p (drop j l)) ≤ most_outputs = rw (length-map (drop j l) p, length-drop j l) (omega arith) in
      rw c.bits (omega (arith, packed_lt (map p (drop j l)), pow-le-pow_right {n = 2} (omega arith) few))
