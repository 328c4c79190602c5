-- The candidates of a network are its divisors in the paper's words, sound and with a use, and a step can take each. Assumes nothing.
use Prim.Native.Nat.{ℕ, ◌<◌}
use mathlib.Core.Path.{◌≡◌, refl, sym, ap, ap₂, ◌∙◌, subst}
use mathlib.Core.Logic.{◌⊎◌, inl, inr, ◌↔◌}
use mathlib.Core.Bool.{true, false, ◌&&◌}
use mathlib.Core.List.Memᴰ
use mathlib.Core.List.Memᴰ.{head as here}
use mathlib.Core.List.Memᴰ.{tail as there}
use mathlib.Core.List.{List, [], ◌∷◌, ◌++◌, map}
use native.Mathlib.Omega.{arith}
use lib.Dec.{ltb}
use borrow.Author.Tests.{ltb-true, lt-ltb}
use Rattle.sets.specs.Sets.{sub, apart, asc, without, before}
use Rattle.sets.proofs.{Truth.both, Truth.decided, Orders.before-order, Orders.asym}
use Rattle.sets.proofs.Lists.{◌∈◌, map-in, map-out, ahead, all-out}
use Rattle.sets.proofs.Sets.{mem-of, union_right, without-asc, proper-sub}
use Rattle.expression.{specs.Expression.expression, proofs.Absorbing.loose-in}
use Rattle.network.specs.Net.{Net, nodes}
use Rattle.extract_laws.specs.Divisor.{Divisor, pair, sum, own, small, sound}
use Rattle.extract_laws.specs.Extract.{gather, pairs_in, smaller_first, sum_of, sums_in, candidates}
use Rattle.extract_laws.specs.Meaning.{Good, other, Used, Divides, Fit}
use Rattle.extract_laws.specs.Meaning.Divides.{literals, two_parts}
use Rattle.extract_laws.proofs.Using.{cube-asc, cube-proper, sum-parts, apart-flip, small-sub, use-out}
use Rattle.extract_laws.proofs.Replacing.{own-reads}
use Rattle.extract_laws.proofs.Parting.{less-left, less-right, parts-apart, parts-differ, parts-use}

module _ {A B : Type 0} where
  pub gather-in : (g : A → List B) {x : A} {l : List A} {y : B} → x ∈ l → y ∈ g x → y ∈ gather g l
  gather-in g {y = y} (here {xs = l} e) k = Memᴰ.append_left (gather g l) (subst (λ z. y ∈ g z) e k)
  gather-in g (there {x = z} {xs = l} m) k = Memᴰ.append_right (g z) (gather-in g m k)

  pub gather-out : (g : A → List B) (l : List A) {y : B} → y ∈ gather g l → (x : A) × (x ∈ l) × (y ∈ g x)
  gather-out g [] m = absurd (Memᴰ.not-nil m)
  gather-out g (x ∷ l) m = elim (Memᴰ.append_cases (g x) m)
      [ inl i ↦ (x, here refl, i) | inr i ↦ let r = gather-out g l i in (r.0, there r.1, r.2) ]

-- ---- pairs

pub pairs-out : (c : List ℕ) → asc c ≡ true → (d : Divisor) → d ∈ pairs_in c → (p : ℕ) × (q : ℕ) × (d ≡ pair p q) × (p ∈ c) × (q ∈ c) × (p < q)
unfolding pairs_in
pairs-out [] h d m = absurd (Memᴰ.not-nil m)
pairs-out (p ∷ c) h d m = let w = ahead ltb p c h in elim (Memᴰ.append_cases (map (pair p) c) m) [
  | inl i ↦ let r = map-out (pair p) c i in (p, r.0, r.2, here refl, there r.1, ltb-true p r.0 (all-out (ltb p) r.1 w.0))
  | inr i ↦ let r = pairs-out c w.1 d i in (r.0, r.1, r.2, there r.3, there r.4, r.5)
]

pub pairs_made : (c : List ℕ) → asc c ≡ true → {p q : ℕ} → p ∈ c → q ∈ c → p < q → pair p q ∈ pairs_in c
unfolding pairs_in
pairs_made [] h m n l = absurd (Memᴰ.not-nil m)
pairs_made (x ∷ c) h {p} {q} m n l = go (Memᴰ.cases_cons m) (Memᴰ.cases_cons n) (λ i j. pairs_made c (ahead ltb x c h).1 i j l)
  where
    go : (p ≡ x) ⊎ (p ∈ c) → (q ≡ x) ⊎ (q ∈ c) → (p ∈ c → q ∈ c → pair p q ∈ pairs_in c) → pair p q ∈ (map (pair x) c ++ pairs_in c)
    go (inl e) (inl e') k = absurd (omega arith)
    go (inl e) (inr j) k = Memᴰ.append_left (pairs_in c) (Memᴰ.cast (ap (λ z. pair z q) e) (map-in (pair x) j))
    go (inr i) (inl e) k = absurd (omega (arith, ltb-true x p (all-out (ltb x) i (ahead ltb x c h).0)))
    go (inr i) (inr j) k = Memᴰ.append_right (map (pair x) c) (k i j)

-- ---- sums

-- the sums are those of two cubes
pub sums-out : (f : List (List ℕ)) (d : Divisor) → d ∈ sums_in f → (c : List ℕ) × (e : List ℕ) × (c ∈ f) × (e ∈ f) × (d ∈ sum_of c e)
unfolding sums_in
sums-out [] d m = absurd (Memᴰ.not-nil m)
sums-out (c ∷ f) d m = elim (Memᴰ.append_cases (gather (sum_of c) f) m) [
  | inl i ↦ let r = gather-out (sum_of c) f i in (c, r.0, here refl, there r.1, r.2)
  | inr i ↦ let r = sums-out f d i in (r.0, r.1, there r.2, there r.3, r.4)
]

pub sums-made : (f : List (List ℕ)) {c e : List ℕ} (d : Divisor) → c ∈ f → e ∈ f → (c ≡ e → ⊥) → d ∈ sum_of c e → d ∈ sum_of e c → d ∈ sums_in f
unfolding sums_in
sums-made [] d m n k i j = absurd (Memᴰ.not-nil m)
sums-made (g ∷ f) {c} {e} d m n k i j = go (Memᴰ.cases_cons m) (Memᴰ.cases_cons n) (λ p q. sums-made f d p q k i j)
  where
    go : (c ≡ g) ⊎ (c ∈ f) → (e ≡ g) ⊎ (e ∈ f) → (c ∈ f → e ∈ f → d ∈ sums_in f) → d ∈ (gather (sum_of g) f ++ sums_in f)
    go (inl p) (inl q) r = absurd (k (p ∙ sym q))
    go (inl p) (inr q) r = Memᴰ.append_left (sums_in f) (gather-in (sum_of g) q (subst (λ z. d ∈ sum_of z e) p i))
    go (inr p) (inl q) r = Memᴰ.append_left (sums_in f) (gather-in (sum_of g) p (subst (λ z. d ∈ sum_of z c) q j))
    go (inr p) (inr q) r = Memᴰ.append_right (gather (sum_of g) f) (r p q)

-- the sum of two cubes, whichever part is smaller
pub sum-of-in : (c e : List ℕ) → small (without c e) ≡ true → small (without e c) ≡ true → before (without c e) (without e c) ≡ true
    → (sum (without c e) (without e c) ∈ sum_of c e) × (sum (without c e) (without e c) ∈ sum_of e c)
unfolding sum_of smaller_first
sum-of-in c e sc se l = (rw (sc, se, l) (here refl), rw (sc, se, asym before before-order (without c e) (without e c) l) (here refl))

-- and what it is
pub sum-of-out : (c e : List ℕ) (d : Divisor) → d ∈ sum_of c e
    → (small (without c e) ≡ true) × (small (without e c) ≡ true)
    × (((d ≡ sum (without c e) (without e c)) × (before (without c e) (without e c) ≡ true))
    ⊎ ((d ≡ sum (without e c) (without c e)) × (before (without c e) (without e c) ≡ false)))
unfolding sum_of smaller_first
sum-of-out c e d m = elim (decided (small (without c e) && small (without e c))) [
  | inl h ↦
      let p = both (small (without c e)) _ h in
      let q = Memᴰ.eq_of_singleton (rw h at m) in
      (p.0, p.1, elim (decided (before (without c e) (without e c))) [ inl t ↦ inl (rw t at q, t) | inr t ↦ inr (rw t at q, t) ])
  | inr h ↦ absurd (Memᴰ.not-nil (rw h at m))
]

-- ---- the candidates

module _ (n : Net) (g : Good n) where
  in-asc : {f : List (List ℕ)} {c : List ℕ} → f ∈ nodes n → c ∈ f → asc c ≡ true
  in-asc {f} m i = cube-asc f (g.expressions f m) i

  pairs-divide : {f : List (List ℕ)} → f ∈ nodes n → (c : List ℕ) → c ∈ f → (d : Divisor) → d ∈ pairs_in c → Divides n d
  pairs-divide m c i d k = let r = pairs-out c (in-asc m i) d k in subst (Divides n) (sym r.2) (literals m i r.3 r.4 r.5)

  sums-divide : {f : List (List ℕ)} → f ∈ nodes n → (c e : List ℕ) → c ∈ f → e ∈ f → (d : Divisor) → d ∈ sum_of c e → Divides n d
  sums-divide m c e i j d k =
      let (sc, se, o) = sum-of-out c e d k in
      elim o [
        | inl (p, l) ↦ subst (Divides n) (sym p) (two_parts m i j (sym (less-left c e (in-asc m i))) (sym (less-right c e (in-asc m j))) sc se l)
        | inr (p, l) ↦ subst (Divides n) (sym p) (two_parts m j i (sym (less-left e c (in-asc m j))) (sym (less-right e c (in-asc m i))) se sc
            (elim (decided (before (without e c) (without c e))) [
              | inl q ↦ q
              | inr q ↦ absurd (parts-differ (without c e) (without e c) sc (parts-apart c e) (before-order.linear (without c e) (without e c) l q))
            ]))
      ]

  candidate-out : (d : Divisor) → d ∈ candidates n → Divides n d
  unfolding candidates
  candidate-out d m = elim (Memᴰ.append_cases (gather (gather pairs_in) (nodes n)) m) [
    | inl i ↦
        let r = gather-out (gather pairs_in) (nodes n) i in
        let q = gather-out pairs_in r.0 r.2 in
        pairs-divide r.1 q.0 q.1 d q.2
    | inr i ↦
        let r = gather-out sums_in (nodes n) i in
        let q = sums-out r.0 d r.2 in
        sums-divide r.1 q.0 q.1 q.2 q.3 d q.4
  ]

  candidate-in : (d : Divisor) → Divides n d → d ∈ candidates n
  unfolding candidates
  candidate-in d (literals {c = c} m i k l h) =
      Memᴰ.append_left (gather sums_in (nodes n)) (gather-in (gather pairs_in) m (gather-in pairs_in i (pairs_made c (in-asc m i) k l h)))
  candidate-in d (two_parts {f = f} {c = c} {e = e} {a = a} {b = b} m i j p q sa sb l) =
      let ea : a ≡ without c e = p ∙ less-left c e (in-asc m i) in
      let eb : b ≡ without e c = q ∙ less-right c e (in-asc m j) in
      let same : sum (without c e) (without e c) ≡ sum a b = ap₂ sum (sym ea) (sym eb) in
      let w = sum-of-in c e (rw (← ea) sa) (rw (← eb) sb) (rw (← ea, ← eb) l) in
      Memᴰ.append_right (gather (gather pairs_in) (nodes n)) (gather-in sums_in m (sums-made f (sum a b) i j
      (λ z. parts-differ a b sa (rw (ea, eb) (parts-apart c e)) (ea ∙ ap₂ without z (sym z) ∙ sym eb))
      (subst (◌∈ sum_of c e) same w.0) (subst (◌∈ sum_of e c) same w.1)))

  -- the candidates are the divisors of the network
  pub candidate-iff : (d : Divisor) → (d ∈ candidates n) ↔ Divides n d
  candidate-iff d = (candidate-out d, candidate-in d)

  divides-used : {d : Divisor} → Divides n d → (sound d ≡ true) × Used n d
  unfolding sub
  divides-used (literals {f = f} {c = c} {p = p} {q = q} m i k l h) = (lt-ltb p q h, (f, m, (c, i, rw (mem-of k, mem-of l))))
  divides-used (two_parts {f = f} {c = c} {e = e} {a = a} {b = b} m i j p q sa sb l) =
      let ea : a ≡ without c e = p ∙ less-left c e (in-asc m i) in
      let eb : b ≡ without e c = q ∙ less-right c e (in-asc m j) in (
        rw (ap asc ea ∙ without-asc c e (in-asc m i), ap asc eb ∙ without-asc e c (in-asc m j), ap₂ apart ea eb ∙ parts-apart c e, sa, sb) l,
        (f, m, (c, i, rw (ea, eb) (parts-use c e (in-asc m j) f j))),
      )

  -- ---- a step can take each

  own-expression : (d : Divisor) → sound d ≡ true → Used n d → expression (own d) ≡ true
  own-expression (pair p q) s (f, m, (c, i, h)) = rw (s, proper-sub (p ∷ q ∷ []) c h (cube-proper f (g.expressions f m) i))
  own-expression (sum a b) s (f, m, (c, i, h)) =
      let w = sum-parts a b s in
      let u = use-out a b f c h in
      let e = g.expressions f m in
      let proper-b = proper-sub b (other a b c) (union_right (without c a) b) (cube-proper f e u.partner) in
      let free = loose-in a b (small-sub a b w.small-a w.disjoint) (small-sub b a w.small_b (apart-flip a b w.disjoint)) in
      rw (w.asc-a, w.asc-b, proper-sub a c u.inside (cube-proper f e i), proper-b, free)

  -- its own node is an expression over known variables
  pub candidate-fit : (d : Divisor) → d ∈ candidates n → Fit n d
  candidate-fit d m =
      let q = divides-used (candidate-out d m) in
      record {
        whole = q.0;
        formed = own-expression d q.0 q.1;
        known = λ v r. g.known q.1.0 q.1.1 v (own-reads d q.1.0 q.1.2.0 q.1.2.1 q.1.2.2 v r);
      }
