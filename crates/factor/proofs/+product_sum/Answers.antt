-- The proof of the cycle of calls {product, sum}:
-- a sum is its cubes as they stand, or l times F/l and then the sum of the rest, as `split` parts the cubes. Assumes nothing.
use mathlib.Core.Path.{◌≡◌, sym, ◌∙◌, ap, subst}
use mathlib.Core.List.{List, ◌++◌}
use Prim.Native.Nat.{ℕ, suc, ◌*◌, ◌≤◌, ◌<◌}
use lib.ListN.{length, take, drop, length-take, length-drop}
use native.Mathlib.Omega.{arith}
use Rattle.cube.specs.Cube.{width}
use Rattle.expression.{specs.Words.cubes_of, specs.Expression.literals_of, proofs.Words.same-room, proofs.Words.cubes-length, proofs.Words.cubes-take, proofs.Words.cubes-drop}
use Rattle.sets.{specs.Lists.is_nil, proofs.Rows.nil-of, proofs.Rows.nil-some}
use Rattle.factor.specs.Form.{used_in, most_used, divided_by, rest}
use Rattle.factor.specs.Parts.{Parted, written_sum, product_of}
use Rattle.letters.proofs.Laying.{Due, due_all, due-as, due-next, due-done, due-last}
use Rattle.factor.proofs.{Choosing.most_used-inside, Falling.literals-fall}
use Rattle.factor.proofs.Writing.{after, after_none, after-some, sum-plain, sum-parted, product-start}
use Rattle.factor.proofs.+product_sum.Goals as goal
use Rattle.factor.proofs.+product_sum.Goals.{sum-After-product-p}

-- after the literal `*` is due, then `(`, the sum and `)`
pub product-returns : goal.product-returns
product-returns t c =
    due-last
    (due-next
    (due-next (due-next (due-next (due_all _ _ (omega arith) (omega arith) (product-start c.args.l.0 _)) c.put_literal-p.ensures) c.put-q.ensures)
    c.put-r.ensures)
    c.sum-s.ensures)
    c.put.ensures

-- no literal is in two cubes: the cubes are due as they stand
pub sum-returns-then-uses-lt2 : goal.sum-returns-then-uses-lt2
sum-returns-then-uses-lt2 t c =
    let f = cubes_of c.args.w.now in
    let n : c.uses.result ≡ used_in (most_used f) f = c.uses.ensures ∙ ap (λ l. used_in l f) c.most_used-l.ensures in
    due-last (due_all _ _ (omega arith) (omega arith) (sum-plain f (omega (arith, n, c.if-uses-lt2.true)))) c.put_cubes.ensures

pub sum-split-m-requires : goal.sum-split-m-requires
sum-split-m-requires t c = (subst (λ l. l < 2 * width) (sym c.most_used-l.ensures) (most_used-inside _), c.requires)

-- ---- what `split` parts

module _ {old new : List ℕ} {m l : ℕ} (p : Parted old new m l) (size : length new ≡ length old) where
  inside : 2 * m ≤ length new
  inside = omega (arith, p.most, cubes-length old)

  -- the cubes in front, with l, and the rest
  module _ {q r : List ℕ} (e : q ≡ take (2 * m) new) (g : r ≡ drop (2 * m) new) where
    quotients : cubes_of q ≡ divided_by l (cubes_of old)
    quotients = ap cubes_of e ∙ cubes-take new m ∙ p.first

    others : cubes_of r ≡ rest l (cubes_of old)
    others = ap cubes_of g ∙ cubes-drop new m ∙ p.second

    -- both have fewer literals, where l is in two cubes, and no more cubes
    module _ (many : 2 ≤ used_in l (cubes_of old)) where
      quotients-fall : suc (literals_of (cubes_of q)) < literals_of (cubes_of old)
      quotients-fall = omega (arith, ap literals_of quotients, literals-fall l (cubes_of old))

      others-fall : literals_of (cubes_of r) < literals_of (cubes_of old)
      others-fall = omega (arith, ap literals_of others, literals-fall l (cubes_of old))

    quotients-few : length (cubes_of q) ≤ length (cubes_of old)
    quotients-few = omega (arith, cubes-length q, cubes-length old, ap length e, length-take (2 * m) new)

    others-few : length (cubes_of r) ≤ length (cubes_of old)
    others-few = omega (arith, cubes-length r, cubes-length old, ap length g, length-drop (2 * m) new)

    -- the product's text, then the rest
    parted-text : l ≡ most_used (cubes_of old) → 2 ≤ used_in l (cubes_of old) → written_sum (cubes_of old) ≡ product_of l (cubes_of q) ++ after (cubes_of r)
    parted-text h many = sum-parted (cubes_of old) l (cubes_of q) (cubes_of r) h many quotients others

pub sum-overflow_mul-m : goal.sum-overflow_mul-m
sum-overflow_mul-m t c = omega (arith, inside c.split-m.ensures c.split-m.auto.w)

pub sum-split_at_mut-quotient-requires : goal.sum-split_at_mut-quotient-requires
sum-split_at_mut-quotient-requires t c = inside c.split-m.ensures c.split-m.auto.w

pub sum-product-p-requires : goal.sum-product-p-requires
sum-product-p-requires t c =
    let p = c.split-m.ensures in
    let s = c.split_at_mut-quotient.ensures in
    let many : 2 ≤ used_in c.most_used-l.result.0 (cubes_of c.args.w.now) = omega (arith, c.uses.ensures, c.if-uses-lt2.false) in (
      omega (arith, quotients-fall p c.split-m.auto.w s.front s.back many),
      omega (arith, quotients-few p c.split-m.auto.w s.front s.back, same-room c.split-m.new.spare c.args.spare.now c.split-m.auto.spare, c.requires),
    )

pub sum-sum-requires : goal.sum-sum-requires
sum-sum-requires t c =
    let p = c.split-m.ensures in
    let s = c.split_at_mut-quotient.ensures in
    let many : 2 ≤ used_in c.most_used-l.result.0 (cubes_of c.args.w.now) = omega (arith, c.uses.ensures, c.if-uses-lt2.false) in (
      omega (arith, others-fall p c.split-m.auto.w s.front s.back many),
      omega (
        arith,
        others-few p c.split-m.auto.w s.front s.back,
        same-room c.split-m.new.spare c.args.spare.now c.split-m.auto.spare,
        same-room c.product-p.new.spare c.split-m.new.spare c.product-p.auto.spare,
        c.requires,
      ),
    )

-- after the product the rest is due
rest-due : (t : ℕ) (c : sum-After-product-p t)
    → Due c.args.o.now c.args.at (written_sum (cubes_of c.args.w.now)) c.product-p.new.o c.product-p.result (after (cubes_of c.split_at_mut-quotient.result.1.now))
rest-due t c =
    let s = c.split_at_mut-quotient.ensures in
    let many : 2 ≤ used_in c.most_used-l.result.0 (cubes_of c.args.w.now) = omega (arith, c.uses.ensures, c.if-uses-lt2.false) in
    due-next (due_all _ _ (omega arith) (omega arith) (parted-text c.split-m.ensures c.split-m.auto.w s.front s.back c.most_used-l.ensures many))
    c.product-p.ensures

pub sum-returns-then-number-eq0 : goal.sum-returns-then-number-eq0
sum-returns-then-number-eq0 t c =
    let none = ap is_nil (nil-of (cubes_of c.split_at_mut-quotient.result.1.now) (omega (arith, c.number.ensures, c.if-number-eq0.true))) in
    due-done (due-as (rest-due t (goal.at.sum-returns-then-number-eq0 t c).After-product-p) (after_none _ none))

pub sum-returns : goal.sum-returns
sum-returns t c =
    let some = nil-some (cubes_of c.split_at_mut-quotient.result.1.now) (λ z. c.if-number-eq0.false (c.number.ensures ∙ z)) in
    due-last (due-next (due-as (rest-due t (goal.at.sum-returns t c).After-product-p) (after-some _ some)) c.put-q.ensures) c.sum.ensures
