-- The laws of weak division: which cubes are in the quotient and in the remainder, how many, in which order, and their value. Assumes nothing.
use Prim.Native.Nat.{ℕ, ◌+◌, ◌*◌, ◌<◌}
use mathlib.Core.Path.{◌≡◌, refl, sym, ◌∙◌, ap, subst}
use mathlib.Core.Logic.{◌↔◌, inl, inr}
use mathlib.Core.Bool.{Bool, true, false, not, ◌&&◌, ◌||◌}
use mathlib.Core.List.Memᴰ
use mathlib.Core.List.Memᴰ.{head as here}
use mathlib.Core.List.Memᴰ.{tail as there}
use mathlib.Core.List.{List, [], ◌∷◌, map}
use native.Mathlib.Omega.{arith}
use lib.ListN.{length, length-map}
use borrow.Author.Tests.{not-true}
use Rattle.sets.specs.Lists.{any, all, total, keep, pairwise}
use Rattle.sets.specs.Sets.{mem, sub, apart, asc, proper, union, without, same, before}
use Rattle.sets.proofs.Truth.{iff, both, together, either, or_left, or_right, decided, clash, refuted}
use Rattle.sets.proofs.Lists.{◌∈◌, any-in, any_out, all_in, all-out, keep-in, keep_out, keep_all, map-in, map-out, map-fixed, total-split, total-or, total-ones}
use Rattle.sets.proofs.Lists.{total-same, ahead, pairwise-keep, pairwise-imp, pairwise_map}
use Rattle.sets.proofs.Orders.{before-order, ext-in}
use Rattle.sets.proofs.Sets.{sub_in, apart_in, apart_out, union-mem, union-all, union_left, union_right, union_comm, without-apart, rejoin, unjoin}
use Rattle.sets.proofs.Sets.{sub-antisym, sub_out, same-eq, same_self, eq-same}
use Rattle.expression.specs.Expression.{is_cube, loose, expression, sort, ordered}
use Rattle.expression.proofs.Sorting.{sort-in, sort-out, total-sort, loose-differ, expression-sort}
use Rattle.division.specs.Division.{in_quotient, left_over, quotient, product, remainder}
use Rattle.division.proofs.Quotients.{cube-asc, expression-keep, UnionsIn, in_quotient-in, quotient-in, quotient-out, quotient-form, product-in}
use Rattle.division.proofs.Quotients.{product-out, remainder-in, remainder-out, remainder-form}

module _ (f d : List (List ℕ)) (ef : expression f ≡ true) (ed : expression d ≡ true) where
  -- the quotient is every cube that shares no literal with any cube of d and whose union with each is in f
  pub quotient_iff : 0 < length d → (c : List ℕ) → asc c ≡ true → (c ∈ quotient f d) ↔ ((b : List ℕ) → b ∈ d → (apart c b ≡ true) × (union c b ∈ f))
  quotient_iff n c a = (quotient-out f d c, quotient-in f d c ef ed n a)

  -- the remainder is f without those unions
  pub remainder-iff : (e : List ℕ) → (e ∈ remainder f d) ↔ ((e ∈ f) × ((c b : List ℕ) → c ∈ quotient f d → b ∈ d → e ≡ union c b → ⊥))
  remainder-iff e = (
    (λ m. let r = remainder-out f d e m in (r.0, λ c b i j h. clash (product-in (quotient f d) d e c b i j h) r.1)),
    (λ (m, k). remainder-in f d e m (refuted (λ h. let r = product-out (quotient f d) d e h in k r.0 r.1 r.2 r.3 r.4))),
  )

  -- both are expressions, in cube order
  pub quotient-expression : expression (quotient f d) ≡ true
  quotient-expression = (quotient-form f d ef ed).0

  pub quotient-ordered : ordered (quotient f d) ≡ true
  quotient-ordered = (quotient-form f d ef ed).1

  pub remainder-expression : expression (remainder f d) ≡ true
  remainder-expression = (remainder-form f d ef).0

  pub remainder-ordered : ordered (remainder f d) ≡ true
  remainder-ordered = (remainder-form f d ef).1

  -- and the only ordered lists of those cubes
  pub quotient-only : 0 < length d → (l : List (List ℕ)) → ordered l ≡ true
      → ((c : List ℕ) → (c ∈ l) ↔ ((asc c ≡ true) × ((b : List ℕ) → b ∈ d → (apart c b ≡ true) × (union c b ∈ f)))) → l ≡ quotient f d
  quotient-only n l o k = ext-in before before-order l (quotient f d) o quotient-ordered
      (λ c m. let h = (k c).0 m in quotient-in f d c ef ed n h.0 h.1)
      (λ c m. (k c).1 (cube-asc (quotient f d) quotient-expression m, quotient-out f d c m))

  pub remainder-only : (l : List (List ℕ)) → ordered l ≡ true
      → ((e : List ℕ) → (e ∈ l) ↔ ((e ∈ f) × ((c b : List ℕ) → c ∈ quotient f d → b ∈ d → e ≡ union c b → ⊥))) → l ≡ remainder f d
  remainder-only l o k = ext-in before before-order l (remainder f d) o remainder-ordered
      (λ e m. (remainder-iff e).1 ((k e).0 m)) (λ e m. (k e).1 ((remainder-iff e).0 m))

  -- what the product of both and the remainder say together, f says
  pub division-value : (v : ℕ → Bool) → any (all v) f ≡ ((any (all v) d && any (all v) (quotient f d)) || any (all v) (remainder f d))
  division-value v = iff into back
    where
      into : any (all v) f ≡ true → ((any (all v) d && any (all v) (quotient f d)) || any (all v) (remainder f d)) ≡ true
      into h =
          let (e, m, t) = any_out (all v) f h in
          elim (decided (product (quotient f d) d e)) [
            | inl p ↦
                let s = product-out (quotient f d) d e p in
                let w = both (all v s.0) (all v s.1) (sym (union-all v s.0 s.1) ∙ subst (λ z. all v z ≡ true) s.4 t) in
                or_left (any (all v) d && any (all v) (quotient f d)) (any (all v) (remainder f d))
                (together (any (all v) d) (any (all v) (quotient f d)) (any-in (all v) s.3 w.1) (any-in (all v) s.2 w.0))
            | inr p ↦ or_right (any (all v) d && any (all v) (quotient f d)) (any (all v) (remainder f d)) (any-in (all v) (remainder-in f d e m p) t)
          ]

      back : ((any (all v) d && any (all v) (quotient f d)) || any (all v) (remainder f d)) ≡ true → any (all v) f ≡ true
      back h = elim (either (any (all v) d && any (all v) (quotient f d)) (any (all v) (remainder f d)) h) [
        | inl p ↦
            let w = both (any (all v) d) (any (all v) (quotient f d)) p in
            let i = any_out (all v) d w.0 in
            let j = any_out (all v) (quotient f d) w.1 in
            any-in (all v) (quotient-out f d j.0 j.1 i.0 i.1).1
            (union-all v j.0 i.0 ∙ together (all v j.0) (all v i.0) j.2 i.2)
        | inr p ↦ let i = any_out (all v) (remainder f d) p in any-in (all v) (remainder-out f d i.0 i.1).0 i.2
      ]

-- ---- the counts

-- two cubes differ
abbrev differ : List ℕ → List ℕ → Bool
differ c d = not (same c d)

differ-flip : (c d : List ℕ) → differ c d ≡ true → differ d c ≡ true
differ-flip c d h = ap not (refuted (λ e. clash (eq-same c d (sym (same-eq d c e))) (not-true (same c d) h)))

differ_self : (c : List ℕ) → differ c c ≡ false
differ_self c = ap not (same_self c)

differ-in : (c d : List ℕ) → (c ≡ d → ⊥) → differ c d ≡ true
differ-in c d k = ap not (refuted (λ e. k (same-eq c d e)))

differ-out : (c d : List ℕ) → differ c d ≡ true → c ≡ d → ⊥
differ-out c d h e = clash (eq-same c d e) (not-true (same c d) h)

differ-all : (f : List (List ℕ)) → expression f ≡ true → pairwise differ f ≡ true
differ-all f h = pairwise-imp loose differ f loose-differ (both (all is_cube f) (pairwise loose f) h).1

-- the number of elements, as a total
abbrev one : List ℕ → ℕ
one c = 1

keep-none : (l : List (List ℕ)) → keep (λ e. false) l ≡ []
keep-none [] = refl
keep-none (e ∷ l) = keep-none l

module _ (f d : List (List ℕ)) (ef : expression f ≡ true) (ed : expression d ≡ true) where
  -- a cube of the quotient is known from one of its unions
  factor-part : (c c' b b' : List ℕ) → UnionsIn f d c → b ∈ d → b' ∈ d → union c b ≡ union c' b' → sub c c' ≡ true
  factor-part c c' b b' k i j e = sub_in c c' (λ z m.
      elim (either (mem z c') (mem z b') (sym (union-mem z c' b') ∙ ap (mem z) (sym e) ∙ sub_out c (union c b) z (union_left c b) m)) [
        | inl t ↦ t
        | inr t ↦ clash t (apart_out c b' z (k b' j).0 m)
      ])

  factor-left : (c c' b b' : List ℕ) → asc c ≡ true → asc c' ≡ true → UnionsIn f d c → UnionsIn f d c' → b ∈ d → b' ∈ d → union c b ≡ union c' b' → c ≡ c'
  factor-left c c' b b' a a' k k' i j e = sub-antisym c c' a a' (factor-part c c' b b' k i j e) (factor-part c' c b' b k' j i (sym e))

  factor-right : (c b b' : List ℕ) → asc c ≡ true → UnionsIn f d c → b ∈ d → b' ∈ d → union c b ≡ union c b' → b ≡ b'
  factor-right c b b' a k i j e = sym (back b i) ∙ ap (λ z. without z c) e ∙ back b' j
    where
      back : (b : List ℕ) → b ∈ d → without (union c b) c ≡ b
      back b m =
          let h = cube-asc d ed m in
          ap (λ z. without z c) (union_comm c b a h)
          ∙ unjoin b c h a (apart_in b c (λ z t. refuted (λ s. clash t (apart_out c b z (k b m).0 s))))

  -- the unions of one cube with the cubes of d
  abbrev unions : List ℕ → List ℕ → Bool
  unions c e = any (λ b. same e (union c b)) d

  unions-out : (c e : List ℕ) → unions c e ≡ true → (b : List ℕ) × (b ∈ d) × (e ≡ union c b)
  unions-out c e h = let r = any_out (λ b. same e (union c b)) d h in (r.0, r.1, same-eq e (union c r.0) r.2)

  count-one : (c : List ℕ) → asc c ≡ true → UnionsIn f d c → total one (keep (unions c) f) ≡ length d
  count-one c a k =
      total-same differ differ-flip differ_self one (keep (unions c) f) (map (union c) d)
      (pairwise-keep differ (unions c) f (differ-all f ef))
      (pairwise_map differ differ (union c) d (λ b b' i j h. differ-in (union c b) (union c b') (λ e. differ-out b b' h (factor-right c b b' a k i j e)))
      (differ-all d ed))
      (λ e m. let r = unions-out c e (keep_out (unions c) f m).1 in Memᴰ.cast r.2 (map-in (union c) r.1))
      (λ e m. let r = map-out (union c) d m in Memᴰ.cast r.2
      (keep-in (unions c) (k r.0 r.1).1 (any-in (λ b. same (union c r.0) (union c b)) r.1 (same_self (union c r.0)))))
      ∙ total-ones (map (union c) d) ∙ length-map d (union c)

  count-all : (q : List (List ℕ)) → pairwise differ q ≡ true → ((c : List ℕ) → c ∈ q → asc c ≡ true) → ((c : List ℕ) → c ∈ q → UnionsIn f d c)
      → total one (keep (product q d) f) ≡ length q * length d
  unfolding product
  count-all [] h a k = rw (keep-none f) (omega arith)
  count-all (c ∷ q) h a k =
      let w = ahead differ c q h in
      total-or one (unions c) (product q d) f (λ e m s t.
      let x = unions-out c e s in
      let y = product-out q d e t in
      differ-out c y.0 (all-out (differ c) y.2 w.0)
      (factor-left c y.0 x.0 y.1 (a c (here refl)) (a y.0 (there y.2)) (k c (here refl)) (k y.0 (there y.2)) x.1 y.3
      (sym x.2 ∙ y.4)))
      ∙ omega (arith, count-one c (a c (here refl)) (k c (here refl)), count-all q w.1 (λ x m. a x (there m)) (λ x m. k x (there m)))

  -- as many cubes as quotient times divisor and the remainder
  pub division-count : length f ≡ length (quotient f d) * length d + length (remainder f d)
  unfolding remainder
  division-count =
      let q = quotient f d in
      let p = product q d in
      sym (total-ones f) ∙ total-split one p f
      ∙ rw (count-all q (differ-all q (quotient-form f d ef ed).0) (λ c m. cube-asc q (quotient-form f d ef ed).0 m) (quotient-out f d))
      (ap (length q * length d +◌) (sym (total-sort one (keep (λ e. not (p e)) f)) ∙ total-ones (sort (keep (λ e. not (p e)) f))))

-- ---- division by one cube

module _ (f : List (List ℕ)) (c : List ℕ) (ef : expression f ≡ true) (ec : expression (c ∷ []) ≡ true) where
  ac : asc c ≡ true
  ac = cube-asc (c ∷ []) ec (here refl)

  -- what is left of the cubes that contain it
  pub quotient-cube : quotient f (c ∷ []) ≡ sort (left_over f c)
  unfolding quotient
  quotient-cube = ap sort (keep_all (in_quotient f (c ∷ [])) (left_over f c) (all_in (in_quotient f (c ∷ [])) (left_over f c) (λ x m.
      let (e, i, h) = map-out (λ e. without e c) (keep (sub c) f) m in
      let (j, s) = keep_out (sub c) f i in
      in_quotient-in f (c ∷ []) x (λ b k. rw (Memᴰ.eq_of_singleton k, h) (without-apart e c, Memᴰ.cast (rejoin e c (cube-asc f ef j) ac s) j)))))

  -- and the cubes that do not
  pub remainder-cube : remainder f (c ∷ []) ≡ sort (keep (λ e. not (sub c e)) f)
  remainder-cube = sym (remainder-only f (c ∷ []) ef ec _ (expression-sort _ (expression-keep (λ e. not (sub c e)) f ef)).1 (λ e. (
    (λ m. let (i, s) = keep_out (λ e. not (sub c e)) f (sort-out _ m) in
        (i, λ x b j k h. clash (subst (λ z. sub c z ≡ true) (sym (h ∙ ap (union x) (Memᴰ.eq_of_singleton k))) (union_right x c)) (not-true _ s))),
    (λ (i, k). sort-in (keep-in (λ e. not (sub c e)) i (ap not (refuted (λ s.
        k (without e c) c (rw quotient-cube (sort-in (map-in (λ e. without e c) (keep-in (sub c) i s)))) (here refl)
        (sym (rejoin e c (cube-asc f ef i) ac s))))))),
  )))

-- ---- division by constant 1

unit : expression ([] ∷ []) ≡ true
unfolding proper
unit = refl

left-whole : (f : List (List ℕ)) → left_over f [] ≡ f
unfolding sub without mem
left-whole f = ap (map (λ e. without e [])) (keep_all (sub []) f (all_in (sub []) f (λ e m. refl)))
    ∙ map-fixed (λ e. without e []) f (λ e m. keep_all (λ l. not (mem l [])) e (all_in (λ l. not (mem l [])) e (λ l i. refl)))

module _ (f : List (List ℕ)) (ef : expression f ≡ true) where
  -- f over 1 is f, in cube order
  pub quotient-one : quotient f ([] ∷ []) ≡ sort f
  quotient-one = quotient-cube f [] ef unit ∙ ap sort (left-whole f)

  -- with no remainder
  pub remainder-one : remainder f ([] ∷ []) ≡ []
  unfolding sub sort
  remainder-one = remainder-cube f [] ef unit ∙ ap sort (keep-none f)
