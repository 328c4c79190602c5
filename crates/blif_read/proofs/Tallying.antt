-- What the blocks of a model define and name, counted: how often each name is defined, and which variables stand. Assumes nothing.
use Prim.Native.Nat.{ℕ, ◌+◌, ◌≤◌}
use mathlib.Core.Path.{◌≡◌, refl, sym, ap, ◌∙◌}
use mathlib.Core.Bool.{Bool, true, false, cond, ◌&&◌, ◌||◌}
use mathlib.Core.List.{List, [], ◌∷◌}
use native.Mathlib.Omega.{arith}
use borrow.Author.Tests.{le-ltb}
use lib.Dec.{eqb, ltb}
use lib.ListN.{length}
use Rattle.sets.specs.{Lists.all, Lists.from, Sets.mem}
use Rattle.sets.proofs.{Truth.or_left, Truth.refuted, Lists.all-cong, Lists.total-append}
use Rattle.sets.proofs.Sets.{mem-of, all-mem, mem-append, from_out}
use Rattle.blif_laws.specs.Text.{Name, variable, output, Block}
use Rattle.blif_laws.specs.Reading.{standing, same_name, blocks_for, times_defined}
use Rattle.blif_lines.specs.Marking.{times}
use Rattle.blif_form.specs.Surveying.{named_by}
use Rattle.blif_read.specs.Defining.{number_if, defined_by, times_in, model_by}

-- ---- what is counted, for a model

-- how often the blocks define a name
times-blocks : (o : Bool) (a : Name) (v : ℕ) → ((u : Name) → times v (number_if o u) ≡ cond (same_name a u) 1 0) → (bs : List Block)
    → times v (defined_by o bs) ≡ length (blocks_for a bs)
times-blocks o a v h [] = refl
times-blocks o a v h (b ∷ bs) =
    total-append (λ u. cond (eqb v u) 1 0) (number_if o b.name) (defined_by o bs)
    ∙ go (same_name a b.name) (h b.name) (times-blocks o a v h bs)
  where
    go : (t : Bool) → times v (number_if o b.name) ≡ cond t 1 0 → times v (defined_by o bs) ≡ length (blocks_for a bs)
        → times v (number_if o b.name) + times v (defined_by o bs) ≡ length (cond t (b ∷ blocks_for a bs) (blocks_for a bs))
    go true e r = omega (arith, e, r)
    go false e r = omega (arith, e, r)

times-variable : (v : ℕ) (bs : List Block) → times v (defined_by false bs) ≡ length (blocks_for (variable v) bs)
times-variable v bs = times-blocks false (variable v) v one bs
  where
    one : (u : Name) → times v (number_if false u) ≡ cond (same_name (variable v) u) 1 0
    one (variable u) = omega arith
    one (output j) = refl

times-output : (j : ℕ) (bs : List Block) → times j (defined_by true bs) ≡ length (blocks_for (output j) bs)
times-output j bs = times-blocks true (output j) j one bs
  where
    one : (u : Name) → times j (number_if true u) ≡ cond (same_name (output j) u) 1 0
    one (variable v) = refl
    one (output i) = omega arith

module _ (n m : ℕ) (bs : List Block) where
  -- variables and outputs that are defined once
  once-variables : (k : ℕ) → all (λ v. eqb (times_in false n bs v) 1) (from 0 k) ≡ all (λ v. eqb (times_defined (model_by n m bs) (variable v)) 1) (from 0 k)
  unfolding times_defined
  once-variables k = all-cong _ _ (from 0 k) (λ v i. ap (λ (x : ℕ). eqb (cond (ltb v n) 1 0 + x) 1) (times-variable v bs))

  once-outputs : (k : ℕ) → all (λ j. eqb (times_in true 0 bs j) 1) (from 0 k) ≡ all (λ j. eqb (times_defined (model_by n m bs) (output j)) 1) (from 0 k)
  unfolding times_defined
  once-outputs k = all-cong _ _ (from 0 k) (λ j i. rw (le-ltb j 0 (omega arith)) (ap (λ (x : ℕ). eqb (0 + x) 1) (times-output j bs)))

  -- the test of all variables and outputs, from the test of the variables and that of the outputs
  module _ (k : ℕ) {r : Bool} (e : r ≡ all (λ v. eqb (times_in false n bs v) 1) (from 0 k)) where
    pub once-none : r ≡ false → false ≡ (all (λ v. eqb (times_defined (model_by n m bs) (variable v)) 1) (from 0 k)
        && all (λ j. eqb (times_defined (model_by n m bs) (output j)) 1) (from 0 m))
    once-none h = ap (◌&& all (λ j. eqb (times_defined (model_by n m bs) (output j)) 1) (from 0 m)) (sym h ∙ e ∙ once-variables k)

    pub once-both : {q : Bool} → r ≡ true → q ≡ all (λ j. eqb (times_in true 0 bs j) 1) (from 0 m)
        → q ≡ (all (λ v. eqb (times_defined (model_by n m bs) (variable v)) 1) (from 0 k)
        && all (λ j. eqb (times_defined (model_by n m bs) (output j)) 1) (from 0 m))
    once-both h f = f ∙ once-outputs m ∙ ap (◌&& all (λ j. eqb (times_defined (model_by n m bs) (output j)) 1) (from 0 m)) (sym h ∙ e ∙ once-variables k)

  -- the inputs stand
  pub inputs-stand : all (λ v. mem v (standing (model_by n m bs))) (from 0 n) ≡ true
  inputs-stand = all-mem (λ v. mem v (standing (model_by n m bs))) (from 0 n) (λ v i. mem-append v (from 0 n) (named_by bs) ∙ or_left _ _ i)

  -- from n on those stand that blocks name
  pub others-stand : (base k : ℕ) → n ≤ base → all (λ v. mem v (standing (model_by n m bs))) (from base k) ≡ all (λ v. mem v (named_by bs)) (from base k)
  others-stand base k h = all-cong _ _ (from base k) (λ v i.
      let out : mem v (from 0 n) ≡ false = refuted (λ t. omega (arith, (from_out base k v (mem-of i)).0, (from_out 0 n v t).1)) in
      mem-append v (from 0 n) (named_by bs) ∙ ap (◌|| mem v (named_by bs)) out)
