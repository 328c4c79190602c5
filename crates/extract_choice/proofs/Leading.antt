-- Where a table says the gains of a network's divisors, the best of its entries leads all of them. Assumes nothing.
use Prim.Native.Nat.{ℕ, zero, suc, ◌<◌, ◌≤◌}
use mathlib.Core.Path.{◌≡◌, refl, sym, ap, ◌∙◌, subst}
use mathlib.Core.Logic.{◌⊎◌, inl, inr}
use mathlib.Core.Bool.{Bool, true, false, cond}
use mathlib.Core.List.Memᴰ
use mathlib.Core.List.{List, ◌++◌}
use native.Mathlib.Omega.{arith}
use lib.IntN.{pos, ◌-ℤ◌}
use lib.ListN.{get_or}
use lib.Signed.{lt_z}
use Rattle.sets.specs.Sets.{lex}
use Rattle.sets.proofs.Truth.{below, equal, beyond, compared, decided, clash}
use Rattle.sets.proofs.{Lists.◌∈◌, Orders.asym, Orders.not_after}
use Rattle.expression.specs.Expression.{literals_of}
use Rattle.network.specs.Net.{Net, nodes}
use Rattle.extract_laws.specs.Divisor.{Divisor, pair, sum, own}
use Rattle.extract_laws.specs.Extract.{gather, pairs_in, sums_in, candidates, weight, sooner, better, all_uses}
use Rattle.extract_laws.specs.{Run.Weighed, Meaning.Worth, Meaning.Done}
use Rattle.extract_laws.proofs.Choosing.{heavier-order, better-order, best-in}
use Rattle.extract_laws.proofs.{Offering.gather-out, Weighing.gained}
use Rattle.extract_rank.specs.Rank.{outweighs}
use Rattle.extract_gains.{specs.Gains.many, specs.Gains.key_at, proofs.Table.gain-entry, proofs.Table.entry-gain}
use Rattle.extract_keys.specs.Keys.{Plain, key_of, cost, divisor_at, cost_at}
use Rattle.extract_keys.proofs.Keys.{divisor-key, cost-key}
use Rattle.extract_counts.specs.Counts.{Says, net_gain}
use Rattle.extract_counts.proofs.{Gaining.made_plain, Netting.Neat, Netting.net-gain, Netting.net-made}
use Rattle.extract_choice.specs.Parts.{offered, picked, best_below, Counted}
use Rattle.extract_choice.proofs.Weights.{above-gain, difference-one}

-- ---- gains by key are what the weight counts

-- the literals of the own node are the cost
own-cost : (d : Divisor) → literals_of (own d) ≡ cost d
own-cost (pair p q) = refl
own-cost (sum a b) = omega arith

module _ (n : Net) (r : (f : List (List ℕ)) → f ∈ nodes n → Neat f) where
  weighs : (d : Divisor) → Plain d → weight n d ≡ pos (net_gain (key_of d) (nodes n)) -ℤ pos (cost_at (key_of d))
  weighs d p = gained n d ∙ rw (own-cost d, net-gain (nodes n) r d p, cost-key d p)

  candidate-plain : (d : Divisor) → d ∈ candidates n → Plain d
  unfolding candidates
  candidate-plain d m = elim (Memᴰ.append_cases (gather (gather pairs_in) (nodes n)) m) [
    | inl i ↦ let (f, j, k) = gather-out (gather pairs_in) (nodes n) i in plain f j (Memᴰ.append_left (sums_in f) k)
    | inr i ↦ let (f, j, k) = gather-out sums_in (nodes n) i in plain f j (Memᴰ.append_right (gather pairs_in f) k)
  ]
    where
      plain : (f : List (List ℕ)) → f ∈ nodes n → d ∈ (gather pairs_in f ++ sums_in f) → Plain d
      plain f j k = made_plain f (r f j).ascends (r f j).inside d k

  -- a key with a gain is that of a candidate
  keyed : (k : ℕ) → 0 < net_gain k (nodes n) → (d : Divisor) × (d ∈ candidates n) × (key_of d ≡ k)
  unfolding candidates
  keyed k h = let (d, p, e, m) = net-made (nodes n) r k h in (d, m, e)

-- ---- what is held leads

-- of the candidates that pass the test, what is held is the best, or none has a weight above 0
data Leads (n : Net) (p : Divisor → Type 0) (w : Weighed) : Type 0 where
  nothing : w.weight ≡ pos 0 → ((x : Divisor) → x ∈ candidates n → p x → lt_z (pos 0) (weight n x) ≡ false) → Leads n p w
  first : w.divisor ∈ candidates n → weight n w.divisor ≡ w.weight → lt_z (pos 0) w.weight ≡ true
      → ((x : Divisor) → x ∈ candidates n → p x → better n x w.divisor ≡ false) → Leads n p w

module _ (n : Net) where
  -- a divisor whose weight is not above 0 is no better than one whose weight is
  low-not-better : (e d : Divisor) → lt_z (pos 0) (weight n e) ≡ false → lt_z (pos 0) (weight n d) ≡ true → better n e d ≡ false
  unfolding better
  low-not-better e d h k =
      let less : lt_z (weight n e) (weight n d) ≡ true = elim (decided (lt_z (weight n e) (weight n d))) [
        | inl q ↦ q
        | inr q ↦ clash k (not_after (λ u v. lt_z v u) heavier-order (weight n d) (weight n e) (pos 0) q h)
      ] in
      rw (asym (λ u v. lt_z v u) heavier-order (weight n d) (weight n e) less, less)

  -- what is offered is a candidate, if its weight is above 0, and what passes the new test passed the old one, or is what is offered
  module _ (p q : Divisor → Type 0) (h o : Weighed)
      (made : lt_z (pos 0) o.weight ≡ true → (o.divisor ∈ candidates n) × (weight n o.divisor ≡ o.weight))
      (new : (x : Divisor) → x ∈ candidates n → q x → p x ⊎ ((x ≡ o.divisor) × (weight n x ≡ o.weight))) where
    -- the new one is taken
    fresh : lt_z (pos 0) o.weight ≡ true → ((x : Divisor) → x ∈ candidates n → p x → better n x o.divisor ≡ false) → Leads n q o
    fresh k l = first (made k).0 (made k).1 k
        (λ x m i. elim (new x m i) [ inl j ↦ l x m j | inr (e, u) ↦ rw e ((better-order n).irrefl o.divisor) ])

    -- the better one of two
    against : h.divisor ∈ candidates n → weight n h.divisor ≡ h.weight → lt_z (pos 0) h.weight ≡ true
        → ((x : Divisor) → x ∈ candidates n → p x → better n x h.divisor ≡ false) → lt_z (pos 0) o.weight ≡ true
        → (b : Bool) → better n o.divisor h.divisor ≡ b → Leads n q (cond b o h)
    against c v a l k true e = fresh k (λ x m j.
        not_after (better n) (better-order n) x h.divisor o.divisor (l x m j) (asym (better n) (better-order n) o.divisor h.divisor e))
    against c v a l k false e = first c v a (λ x m i. elim (new x m i) [ inl j ↦ l x m j | inr (z, u) ↦ rw z e ])

    -- and that is what is picked
    picked-better : weight n h.divisor ≡ h.weight → lt_z (pos 0) o.weight ≡ true → cond (better n o.divisor h.divisor) o h ≡ picked h o
    unfolding picked outweighs better
    picked-better v k = rw k (λ i. cond (lex (λ u w. lt_z w u) ((made k).1 i) (v i) (sooner o.divisor h.divisor)) o h)

    leads-picked : Leads n p h → Leads n q (picked h o)
    unfolding picked outweighs
    leads-picked s = elim (decided (lt_z (pos 0) o.weight)) [ inl k ↦ above k s | inr k ↦ rw k (low k s) ]
      where
        low : lt_z (pos 0) o.weight ≡ false → Leads n p h → Leads n q h
        low k (nothing z l) = nothing z (λ x m i. elim (new x m i) [ inl j ↦ l x m j | inr (e, u) ↦ rw u k ])
        low k (first c v a l) =
            first c v a (λ x m i. elim (new x m i) [ inl j ↦ l x m j | inr (e, u) ↦ low-not-better x h.divisor (rw u k) (rw v a) ])

        above : lt_z (pos 0) o.weight ≡ true → Leads n p h → Leads n q (picked h o)
        above k (nothing z l) = rw (z, k) (fresh k (λ x m j. low-not-better x o.divisor (l x m j) (rw (made k).1 k)))
        above k (first c v a l) = subst (Leads n q) (picked-better v k) (against c v a l k (better n o.divisor h.divisor) refl)

-- ---- the table

module _ (n : Net) (r : (f : List (List ℕ)) → f ∈ nodes n → Neat f) (t g : List ℕ) (s : Says t g (nodes n)) where
  -- the key of the divisor is that of an entry before e
  abbrev Known : ℕ → Divisor → Type 0
  Known e d = (i : ℕ) × (i < e) × (key_at t i ≡ key_of d)

  -- what an entry offers is the candidate with its key
  entry-offers : (e : ℕ) → e < many t → (d : Divisor) → d ∈ candidates n → key_at t e ≡ key_of d
      → (d ≡ (offered (key_at t e) (get_or g e 0)).divisor) × (weight n d ≡ (offered (key_at t e) (get_or g e 0)).weight)
  entry-offers e b d m k =
      let p = candidate-plain n r d m in
      (sym (ap divisor_at k ∙ divisor-key d p), weighs n r d p ∙ rw (← k, ← s.gains (key_at t e), gain-entry s.sound e b))

  best-leads : (e : ℕ) → e ≤ many t → Leads n (Known e) (best_below t g e)
  unfolding best_below
  best-leads zero b = nothing refl (λ x m (i, l, k). absurd (omega arith))
  best-leads (suc e) b = leads-picked n (Known e) (Known (suc e)) (best_below t g e) o made new (best-leads e (omega arith))
    where
      o : Weighed
      o = offered (key_at t e) (get_or g e 0)

      made : lt_z (pos 0) o.weight ≡ true → (o.divisor ∈ candidates n) × (weight n o.divisor ≡ o.weight)
      made k =
          let l = above-gain (get_or g e 0) (cost_at (key_at t e)) k in
          let (d, m, p) = keyed n r (key_at t e) (rw (← s.gains (key_at t e), gain-entry s.sound e b) l) in
          let (q, u) = entry-offers e b d m (sym p) in
          (Memᴰ.cast (sym q) m, rw (← q) u)

      new : (x : Divisor) → x ∈ candidates n → Known (suc e) x → Known e x ⊎ ((x ≡ o.divisor) × (weight n x ≡ o.weight))
      new x m (i, l, k) = elim (compared i e) [
        | below j _ _ ↦ inl (i, j, k)
        | equal j _ _ ↦ inr (entry-offers e b x m (rw (← j) k))
        | beyond j _ _ ↦ absurd (omega arith)
      ]

  -- a candidate with no entry has no weight above 0
  all_known : (d : Divisor) → d ∈ candidates n → lt_z (pos 0) (weight n d) ≡ true → Known (many t) d
  all_known d m a =
      let p = candidate-plain n r d m in
      entry-gain t g (key_of d) (rw (s.gains (key_of d)) (above-gain _ (cost_at (key_of d)) (rw (← weighs n r d p) a)))

  -- where the best entry has no weight above 0, no divisor has
  pub table_done : lt_z (pos 0) (best_below t g (many t)).weight ≡ false → Done n
  table_done k = go (best-leads (many t) (omega arith))
    where
      go : Leads n (Known (many t)) (best_below t g (many t)) → Done n
      go (nothing z l) x m = elim (decided (lt_z (pos 0) (weight n x))) [ inl a ↦ l x m (all_known x m a) | inr a ↦ a ]
      go (first c v a l) x m = clash a k

  -- and else its divisor is the best, and weighs what it says
  pub table-worth : lt_z (pos 0) (best_below t g (many t)).weight ≡ true
      → Worth n (best_below t g (many t)).divisor × (weight n (best_below t g (many t)).divisor ≡ (best_below t g (many t)).weight)
  table-worth k = go (best-leads (many t) (omega arith))
    where
      w : Weighed
      w = best_below t g (many t)

      go : Leads n (Known (many t)) w → Worth n w.divisor × (weight n w.divisor ≡ w.weight)
      go (nothing z l) = clash k (rw z)
      go (first c v a l) = (
        record {
          best = best-in n w.divisor c (λ x m. elim (decided (lt_z (pos 0) (weight n x))) [
            | inl b ↦ l x m (all_known x m b)
            | inr b ↦ low-not-better n x w.divisor b (rw v a)
          ]);
          above = rw v a;
        },
        v,
      )

-- ---- uses

-- they are those of the network
pub counted-uses : (n : Net) (d : Divisor) (u : ℕ) → Counted (nodes n) d (weight n d) u → u ≡ all_uses n d
unfolding weight all_uses
counted-uses n (pair p q) u e = difference-one u (all_uses n (pair p q)) 2 e
counted-uses n (sum a b) u e = e
