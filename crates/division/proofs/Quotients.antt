-- The cubes of the quotient and of the remainder: what it is to be one of them, and how they stand to each other. Assumes nothing.
use Prim.Native.Nat.{ℕ, ◌<◌}
use mathlib.Core.Path.{◌≡◌, refl, sym, ◌∙◌, ap, subst}
use mathlib.Core.Logic.{inl, inr}
use mathlib.Core.Bool.{Bool, true, false, not, ◌&&◌, or_comm}
use mathlib.Core.List.Memᴰ
use mathlib.Core.List.Memᴰ.{head as here}
use mathlib.Core.List.{List, [], ◌∷◌}
use native.Mathlib.Omega.{arith}
use lib.ListN.{length}
use borrow.Author.Tests.{not-true}
use Rattle.sets.specs.Lists.{any, all, keep, pairwise}
use Rattle.sets.specs.Sets.{mem, sub, apart, asc, proper, union, without, same}
use Rattle.sets.proofs.Truth.{both, together, either, clash, refuted}
use Rattle.sets.proofs.Lists.{◌∈◌, any-in, any_out, all_in, all-out, keep-in, keep_out, map-in, map-out, pairwise-keep, pairwise_map}
use Rattle.sets.proofs.Sets.{sub_in, sub_out, union-mem, without-asc, without_sub, rejoin, unjoin, union_right, same-eq, eq-same, proper-sub}
use Rattle.expression.specs.Expression.{is_cube, loose, expression, has, ordered}
use Rattle.expression.proofs.{Members.has_in, Members.has-out, Absorbing.loose-in, Absorbing.loose-out}
use Rattle.expression.proofs.Sorting.{sort-in, sort-out, expression-sort}
use Rattle.division.specs.Division.{in_quotient, left_over, quotient, product, remainder}

-- ---- expressions

pub cube-asc : {c : List ℕ} (f : List (List ℕ)) → expression f ≡ true → c ∈ f → asc c ≡ true
cube-asc {c} f h m = (both (asc c) (proper c) (all-out is_cube m (both (all is_cube f) (pairwise loose f) h).0)).0

pub cube-proper : {c : List ℕ} (f : List (List ℕ)) → expression f ≡ true → c ∈ f → proper c ≡ true
cube-proper {c} f h m = (both (asc c) (proper c) (all-out is_cube m (both (all is_cube f) (pairwise loose f) h).0)).1

-- some cubes of an expression are an expression
pub expression-keep : (p : List ℕ → Bool) (f : List (List ℕ)) → expression f ≡ true → expression (keep p f) ≡ true
expression-keep p f h =
    let q = both (all is_cube f) (pairwise loose f) h in
    together (all is_cube (keep p f)) (pairwise loose (keep p f)) (all_in is_cube (keep p f) (λ c m. all-out is_cube (keep_out p f m).0 q.0))
    (pairwise-keep loose p f q.1)

-- ---- what is in the quotient

abbrev pub UnionsIn : List (List ℕ) → List (List ℕ) → List ℕ → Type 0
UnionsIn f d c = (b : List ℕ) → b ∈ d → (apart c b ≡ true) × (union c b ∈ f)

pub in_quotient-in : (f d : List (List ℕ)) (c : List ℕ) → UnionsIn f d c → in_quotient f d c ≡ true
unfolding in_quotient
in_quotient-in f d c k = all_in (λ b. apart c b && has (union c b) f) d (λ b m. together _ _ (k b m).0 (has_in (k b m).1))

pub in_quotient-out : (f d : List (List ℕ)) (c : List ℕ) → in_quotient f d c ≡ true → UnionsIn f d c
unfolding in_quotient
in_quotient-out f d c h b m =
    let q = both (apart c b) (has (union c b) f) (all-out (λ b. apart c b && has (union c b) f) m h) in
    (q.0, has-out (union c b) f q.1)

-- ---- what is left of the cubes that contain a cube

module _ (f : List (List ℕ)) (c : List ℕ) (ef : expression f ≡ true) (ac : asc c ≡ true) where
  left_in : (x : List ℕ) → asc x ≡ true → apart x c ≡ true → union x c ∈ f → x ∈ left_over f c
  left_in x a p m =
      subst (λ z. z ∈ left_over f c) (unjoin x c a ac p) (map-in (λ e. without e c) (keep-in (sub c) m (union_right x c)))

  left-asc : (x : List ℕ) → x ∈ left_over f c → asc x ≡ true
  left-asc x m =
      let r = map-out (λ e. without e c) (keep (sub c) f) m in
      rw r.2 (without-asc r.0 c (cube-asc f ef (keep_out (sub c) f r.1).0))

  left-proper : (x : List ℕ) → x ∈ left_over f c → proper x ≡ true
  left-proper x m =
      let r = map-out (λ e. without e c) (keep (sub c) f) m in
      rw r.2 (proper-sub (without r.0 c) r.0 (without_sub r.0 c) (cube-proper f ef (keep_out (sub c) f r.1).0))

  -- where one remnant is in another, so are the cubes
  left-sub : (x y : List ℕ) → asc x ≡ true → asc y ≡ true → sub c x ≡ true → sub c y ≡ true → sub (without x c) (without y c) ≡ true → sub x y ≡ true
  left-sub x y a b s t h =
      subst (λ z. sub z y ≡ true) (rejoin x c a ac s) (subst (λ z. sub (union (without x c) c) z ≡ true) (rejoin y c b ac t)
      (sub_in (union (without x c) c) (union (without y c) c) (λ z m.
      union-mem z (without y c) c ∙ elim (either (mem z (without x c)) (mem z c) (sym (union-mem z (without x c) c) ∙ m)) [
        | inl e ↦ rw (sub_out (without x c) (without y c) z h e)
        | inr e ↦ rw (e, or_comm (mem z (without y c)) true)
      ])))

  left-loose : pairwise loose (left_over f c) ≡ true
  left-loose = pairwise_map loose loose (λ e. without e c) (keep (sub c) f) go (pairwise-keep loose (sub c) f (both (all is_cube f) (pairwise loose f) ef).1)
    where
      go : (x y : List ℕ) → x ∈ keep (sub c) f → y ∈ keep (sub c) f → loose x y ≡ true → loose (without x c) (without y c) ≡ true
      go x y m n h =
          let p = keep_out (sub c) f m in
          let q = keep_out (sub c) f n in
          let l = loose-out x y h in
          loose-in (without x c) (without y c)
          (refuted (λ s. clash (left-sub x y (cube-asc f ef p.0) (cube-asc f ef q.0) p.1 q.1 s) l.0))
          (refuted (λ s. clash (left-sub y x (cube-asc f ef q.0) (cube-asc f ef p.0) q.1 p.1 s) l.1))

  left-expression : expression (left_over f c) ≡ true
  left-expression = together (all is_cube (left_over f c)) (pairwise loose (left_over f c))
      (all_in is_cube (left_over f c) (λ x m. together (asc x) (proper x) (left-asc x m) (left-proper x m))) left-loose

-- ---- the quotient

pub quotient-in : (f d : List (List ℕ)) (x : List ℕ) → expression f ≡ true → expression d ≡ true → 0 < length d → asc x ≡ true → UnionsIn f d x
    → x ∈ quotient f d
unfolding quotient
quotient-in f [] x ef ed n a k = absurd (omega arith)
quotient-in f (c ∷ d) x ef ed n a k =
    let h = k c (here refl) in
    sort-in (keep-in (in_quotient f (c ∷ d)) (left_in f c ef (cube-asc (c ∷ d) ed (here refl)) x a h.0 h.1) (in_quotient-in f (c ∷ d) x k))

pub quotient-out : (f d : List (List ℕ)) (x : List ℕ) → x ∈ quotient f d → UnionsIn f d x
unfolding quotient
quotient-out f [] x m b i = absurd (Memᴰ.not-nil i)
quotient-out f (c ∷ d) x m b i = in_quotient-out f (c ∷ d) x (keep_out (in_quotient f (c ∷ d)) (left_over f c) (sort-out _ m)).1 b i

-- an expression, in cube order
pub quotient-form : (f d : List (List ℕ)) → expression f ≡ true → expression d ≡ true
    → (expression (quotient f d) ≡ true) × (ordered (quotient f d) ≡ true)
unfolding quotient
quotient-form f [] ef ed = (refl, refl)
quotient-form f (c ∷ d) ef ed = expression-sort _ (expression-keep (in_quotient f (c ∷ d)) (left_over f c)
    (left-expression f c ef (cube-asc (c ∷ d) ed (here refl))))

-- ---- unions of a cube of q and a cube of d

pub product-in : (q d : List (List ℕ)) (e c b : List ℕ) → c ∈ q → b ∈ d → e ≡ union c b → product q d e ≡ true
unfolding product
product-in q d e c b i j h = any-in (λ c. any (λ b. same e (union c b)) d) i (any-in (λ b. same e (union c b)) j (eq-same e (union c b) h))

pub product-out : (q d : List (List ℕ)) (e : List ℕ) → product q d e ≡ true → (c : List ℕ) × (b : List ℕ) × (c ∈ q) × (b ∈ d) × (e ≡ union c b)
unfolding product
product-out q d e h =
    let r = any_out (λ c. any (λ b. same e (union c b)) d) q h in
    let s = any_out (λ b. same e (union r.0 b)) d r.2 in
    (r.0, s.0, r.1, s.1, same-eq e (union r.0 s.0) s.2)

-- ---- the remainder

module _ (f d : List (List ℕ)) where
  pub remainder-in : (e : List ℕ) → e ∈ f → product (quotient f d) d e ≡ false → e ∈ remainder f d
  unfolding remainder
  remainder-in e m h = sort-in (keep-in (λ e. not (product (quotient f d) d e)) m (ap not h))

  pub remainder-out : (e : List ℕ) → e ∈ remainder f d → (e ∈ f) × (product (quotient f d) d e ≡ false)
  unfolding remainder
  remainder-out e m = let q = keep_out (λ e. not (product (quotient f d) d e)) f (sort-out _ m) in (q.0, not-true _ q.1)

  pub remainder-form : expression f ≡ true → (expression (remainder f d) ≡ true) × (ordered (remainder f d) ≡ true)
  unfolding remainder
  remainder-form ef = expression-sort _ (expression-keep _ f ef)
