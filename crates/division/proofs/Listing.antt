-- Cubes that a chain gives; a whole copy; the front as a part. Assumes nothing.
use Prim.Native.Nat.{ℕ, ◌-◌, ◌≤◌}
use mathlib.Core.Path.{◌≡◌, refl, ◌∙◌, ap}
use mathlib.Core.Bool.{Bool, cond}
use mathlib.Core.List.{List, [], ◌∷◌, map}
use native.Mathlib.Omega.{arith}
use lib.ListN.{length, take, drop}
use lib.Seq.{take_all}
use denote.Param.Members.{Mut}
use denote.Ref.{Bor}
use Rattle.std.proofs.Common.{None, Option}
use Rattle.std.specs.declared.iter.Filter.{Filter}
use Rattle.std.specs.List.{filter}
use Rattle.std.specs.Iterator.{Drains, Adapters.filter_steps}
use Rattle.std.proofs.lemmas.Iterator.{YieldsList}
use Rattle.std.proofs.lemmas.Iterator.Consumers.{YieldsList-end}
use Rattle.sets.specs.Lists.{keep}
use Rattle.expression.specs.Words.{cubes_of, Placed, Appends, fitting}
use Rattle.expression.proofs.Placing.{placed-as, placed-fitting, placed-span}

-- ---- the cubes that a chain gives

pub filter-keep : {A : Type 0} (p : A → Bool) (l : List A) → filter p l ≡ keep p l
filter-keep p [] = refl
filter-keep p (x ∷ l) = ap (λ t. cond (p x) (x ∷ t) t) (filter-keep p l)

-- the items that came, where a filter passes on those that p keeps
pub kept-items : {S F A : Type 0} (steps : S → Option A → S → Type 0) {v : A → List ℕ} {s : Filter S F} {g : Mut F (Bor A × Unit {0}) Bool}
    (p : List ℕ → Bool) (items : List A) → Drains (filter_steps steps g) s items → (l : List (List ℕ)) → YieldsList (filter_steps steps g) v s (filter p l)
    → map v items ≡ keep p l
kept-items steps p items (u, (t, y, n)) l e = (YieldsList-end e items t y None u refl n).0 ∙ filter-keep p l

-- ---- a whole copy, and the front as a part

pub copied : {old new : List ℕ} {n : ℕ} (f : List (List ℕ)) → n ≡ length f → length f ≤ length (cubes_of old)
    → Placed old new 0 (fitting old 0 (take (n - 0) (drop 0 f))) → Appends old new 0 f n
copied {old} {n = n} f e h p = record {
  next = omega arith;
  placed = placed-fitting f (omega arith) (placed-as (ap (fitting old 0) (take_all (n - 0) f (omega arith))) p);
}

pub front-part : {old new : List ℕ} {n : ℕ} {f : List (List ℕ)} → Appends old new 0 f n → (ws : List ℕ) → cubes_of ws ≡ take (n - 0) (drop 0 (cubes_of new))
    → cubes_of ws ≡ f
front-part p ws e = e ∙ placed-span p.placed (omega arith) p.next
